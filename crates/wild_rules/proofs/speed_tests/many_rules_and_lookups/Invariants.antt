use Rattle.wild_rules.proofs.speed_tests.many_rules_and_lookups.Given as goal

abbrev pub ghosts-look_up_all : goal.ghosts-look_up_all
ghosts-look_up_all g a = record { name = a.blank.name; parts = a.blank.parts }
