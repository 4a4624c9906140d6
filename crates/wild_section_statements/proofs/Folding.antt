-- What is read step by step into a section.
use Rattle.wild_reading.proofs.Families.{fold_start, fold_step, fold_only, fold_refuses}
use Rattle.wild_reading.proofs.Readers.{no_memory, answers_ok, answers_refused, answers_err}

pub ruleset folding = (fold_start, fold_step, fold_only, fold_refuses, no_memory, answers_ok, answers_refused, answers_err)
