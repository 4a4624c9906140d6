use Rattle.wild_eval.proofs.evaluator.Evaluator.check.Given as goal

abbrev pub ghosts-check_apart : goal.ghosts-check_apart
ghosts-check_apart a = record { name = a.blank.name; parts = a.blank.parts }
