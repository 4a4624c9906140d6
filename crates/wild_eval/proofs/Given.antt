-- A fault of a step is that of the steps behind it.
use Rattle.std.proofs.Common.{Result, Ok, Err, inl, inr}
use Rattle.wild_names.specs.declared.fault.Fault.{Fault}
use Rattle.wild_value_spec.specs.Answer.{◌>>=◌, Gives}

pub gives_on : {A B : Type 0} (f : Fault) (r : Result A Fault) (k : A → Result B Fault) → Gives {Y = A} (Err f) r → Gives {Y = B} (Err f) (r >>= k)
gives_on f (Ok x) k (inl h) = absurd (cc (h.1))
gives_on f (Ok x) k (inr h) = absurd (cc h)
gives_on f (Err e) k (inl h) = inl h
gives_on f (Err e) k (inr h) = inr (cc h)
