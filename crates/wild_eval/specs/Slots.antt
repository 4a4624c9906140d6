-- The slots of a memo.
use Rattle.std.specs.Prelude.{ℕ, List, map}
use Rattle.std.specs.Option.{unwrap_or}
use Rattle.std.specs.List.{range_with_len}
use Rattle.std.specs.Ordering.{nat_cmp}
use Rattle.std.specs.BTreeMap.{BTreeMap, get}
use Rattle.wild_memo_laws.specs.declared.slot.Slot.{Slot}
use Rattle.wild_memo_laws.specs.declared.slot.Slot.TheVariants.{Unseen}

-- the slot of a number; it is unseen where the map has none
abbrev pub slot_in : BTreeMap ℕ Slot → ℕ → Slot
slot_in slots i = unwrap_or (get nat_cmp slots i) Unseen

-- the slots of the first numbers
abbrev pub listed_slots : BTreeMap ℕ Slot → ℕ → List Slot
listed_slots slots count = map (slot_in slots) (range_with_len 0 count)
