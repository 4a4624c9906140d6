use Rattle.wild_rules.proofs.platform_tests.lookups.Given as goal

abbrev pub ghosts-lookup_counted : goal.ghosts-lookup_counted
ghosts-lookup_counted g a = record { name = a.blank.name; parts = a.blank.parts }
