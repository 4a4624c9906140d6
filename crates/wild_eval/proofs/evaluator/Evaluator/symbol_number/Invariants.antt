use Rattle.wild_eval.proofs.evaluator.Evaluator.symbol_number.Given as goal

abbrev pub ghosts-symbol_apart : goal.ghosts-symbol_apart
ghosts-symbol_apart a = record { name = a.blank.name; parts = a.blank.parts }
