use Rattle.wild_eval.proofs.name_tests.answer.Given as goal

abbrev pub ghosts-height : goal.ghosts-height
ghosts-height a = record { name = a.blank.name; parts = a.blank.parts }
