-- Steps that keep what they find and count the nodes that they look at.
use Rattle.std.specs.Prelude.{ℕ, ◌+◌, List, set, get_or, Result, Ok, Err}
use Rattle.wild_names.specs.declared.fault.Fault.{Fault}
use Rattle.wild_memo_laws.specs.declared.slot.Slot.{Slot}
use Rattle.wild_memo_laws.specs.declared.slot.Slot.TheVariants.{Unseen}

-- a slot for each definition, and how many nodes were looked at
pub record State : Type 0 where
  pub slots : List Slot
  pub ticks : ℕ

-- an answer, and what is kept and counted behind it
pub record Ran (A : Type 0) : Type 0 where
  pub answer : Result A Fault
  pub state : State

-- this answer, with nothing more kept or counted
abbrev pub give : {A : Type 0} → Result A Fault → State → Ran A
give r s = record { answer = r; state = s }

-- the next step behind an answer; a fault ends it
abbrev pub after : {A B : Type 0} → Result A Fault → State → (A → State → Ran B) → Ran B
after (Ok a) s f = f a s
after (Err e) s f = give (Err e) s

-- the next step, on the value of the one before and on what is kept behind it
infixl 10 ◌>>>◌
abbrev pub ◌>>>◌ : {A B : Type 0} → Ran A → (A → State → Ran B) → Ran B
r >>> f = after r.answer r.state f

-- one node more was looked at
abbrev pub ticked : State → State
ticked s = record s { ticks = s.ticks + 1 }

-- what is kept of the definition of a number
abbrev pub slot_at : ℕ → List Slot → Slot
slot_at i slots = get_or slots i Unseen

-- this is kept of it now
abbrev pub mark : ℕ → Slot → State → State
mark i x s = record s { slots = set s.slots i x }
