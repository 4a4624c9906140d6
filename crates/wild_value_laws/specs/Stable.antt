-- Answers that stay when more is known.
use Rattle.std.specs.Prelude.{◌≡◌, ◌⊎◌, Result, Ok, Err}
use Rattle.wild_names.specs.declared.fault.Fault.{Fault}
use Rattle.wild_names.specs.declared.fault.Fault.TheVariants.{NotLaidOut}

-- it asks for what is not laid out yet
abbrev pub IsEarlyFault : Fault → Type 0
IsEarlyFault (NotLaidOut statement name) = Unit {0}
IsEarlyFault f = ⊥

-- the answer is such a fault
abbrev pub IsEarly : {A : Type 0} → Result A Fault → Type 0
IsEarly (Ok x) = ⊥
IsEarly (Err f) = IsEarlyFault f

-- the other answer is the same, unless this one is early
abbrev pub Stays : {A : Type 0} → Result A Fault → Result A Fault → Type 0
Stays r s = IsEarly r ⊎ (r ≡ s)
