-- An answer is a value or the first fault.
use Rattle.std.specs.Prelude.{◌≡◌, ◌⊎◌, Option, Some, None, Result, Ok, Err, IsErr}
use Rattle.wild_names.specs.declared.fault.Fault.{Fault}
use Rattle.wild_names.specs.declared.fault.Fault.TheVariants.{NoMemory}

-- the next step, on the value of the one before
infixl 10 ◌>>=◌
abbrev pub ◌>>=◌ : {A B E : Type 0} → Result A E → (A → Result B E) → Result B E
(Ok x) >>= f = f x
(Err e) >>= f = Err e

-- what is there, or else this fault
abbrev pub or_fault : {A E : Type 0} → Option A → E → Result A E
or_fault (Some x) e = Ok x
or_fault None e = Err e

-- the answer is this fault, unless memory ran out
abbrev pub Fails : {Y : Type 0} → Fault → Result Y Fault → Type 0
Fails f answer = (f ≡ NoMemory) ⊎ (answer ≡ Err f)

-- what a function returned is the answer, unless memory ran out
abbrev pub Returns : {Y : Type 0} → Result Y Fault → Result Y Fault → Type 0
Returns (Ok x) answer = answer ≡ Ok x
Returns (Err f) answer = Fails f answer

-- the same, where memory is only wanted to say a fault: it runs out in place of one alone
abbrev pub Gives : {Y : Type 0} → Result Y Fault → Result Y Fault → Type 0
Gives (Ok x) answer = answer ≡ Ok x
Gives (Err f) answer = ((f ≡ NoMemory) × IsErr answer) ⊎ (answer ≡ Err f)
