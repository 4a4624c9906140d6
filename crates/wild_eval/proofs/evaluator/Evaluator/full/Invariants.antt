use Rattle.wild_eval.proofs.evaluator.Evaluator.full.Given as goal

abbrev pub ghosts-full_apart : goal.ghosts-full_apart
ghosts-full_apart a = record { name = a.blank.name; parts = a.blank.parts }
