-- The first failure among checks that follow each other.
use Rattle.std.proofs.Common.{◌≡◌, ◌∙◌, inl, inr, not, List, ◌++◌, refl, ap, Option, Some, None, Result}
use Rattle.std.specs.Option.{option_map, option_or}
use Rattle.std.specs.Result.{IsErrAnd}
use Rattle.std.proofs.lemmas.List.Folds.{find-append}
use Rattle.std.proofs.lemmas.Result.{err_from_is_err_and}
use Rattle.wild_names.specs.declared.fault.Fault.{Fault}
use Rattle.wild_plan_spec.specs.Checks.{Check, failing}
use Rattle.wild_fates.specs.Passes.{IsWanted, Passes}

failing_or : (first next : Option Check) → option_map (λ c. c.fault) (option_or first next) ≡ option_or (option_map (λ c. c.fault) first) (option_map (λ c. c.fault) next)
failing_or None next = refl
failing_or (Some c) next = refl

-- the first failure of the first checks, or else that of the others
failing_append : (xs ys : List Check) → failing (xs ++ ys) ≡ option_or (failing xs) (failing ys)
failing_append xs ys = ap (option_map (λ c. c.fault)) (find-append (λ c. not c.holds) xs ys) ∙ failing_or _ _

-- where none of the first fails, the others decide
pub failing_after : (xs ys : List Check) → failing xs ≡ None → failing (xs ++ ys) ≡ failing ys
failing_after xs ys none = failing_append xs ys ∙ rw none refl

-- a fault that the first want is wanted of all
pub wanted_before : (xs ys : List Check) (fault : Fault) → IsWanted (failing xs) fault → IsWanted (failing (xs ++ ys)) fault
wanted_before xs ys fault (inl h) = inl h
wanted_before xs ys fault (inr h) = inr (failing_append xs ys ∙ rw h refl)

-- where none of the first fails, so is one that the others want
pub wanted_after : (xs ys : List Check) (fault : Fault) → failing xs ≡ None → IsWanted (failing ys) fault → IsWanted (failing (xs ++ ys)) fault
wanted_after xs ys fault none (inl h) = inl h
wanted_after xs ys fault none (inr h) = inr (failing_after xs ys none ∙ h)

pub none_after : (xs ys : List Check) → failing xs ≡ None → failing ys ≡ None → failing (xs ++ ys) ≡ None
none_after xs ys a b = failing_after xs ys a ∙ b

-- in a loop, where these checks and the rest decide as all do
pub wanted_here : (here rest all : List Check) (fault : Fault) → failing (here ++ rest) ≡ failing all → IsWanted (failing here) fault → IsWanted (failing all) fault
wanted_here here rest all fault same h = rw same at (wanted_before here rest fault h)

-- where a function goes on by this error
pub exits : {X : Type 0} {wanted : Option Fault} (fault : Fault) (result : Result X Fault) → IsErrAnd result (λ f. f ≡ fault) → IsWanted wanted fault → Passes wanted result
exits fault result h w = let p = err_from_is_err_and result h in rw (p.1, p.2) (record { ok = tt; err = w })
