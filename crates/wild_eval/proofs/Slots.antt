-- The slots of a memo as they are listed.
use Rattle.std.proofs.Common.{◌≡◌, ◌≢◌, ◌∙◌, ℕ, ◌==◌, ◌<◌, ◌≤◌, ◌⊎◌, true, false, length, set, replicate, inl, inr, sym, subst, ap, zero-add}
use Rattle.std.specs.Prelude.{if◌then◌else◌}
use Rattle.std.specs.BTreeMap.{BTreeMap}
use Rattle.std.proofs.lemmas.Bool.Decides.{eqb_tells}
use Rattle.std.proofs.lemmas.List.{ext_get_or, get_or-replicate, get_or-set_other, get_or-set_same, get_or_past, length-replicate, length-set}
use Rattle.std.proofs.lemmas.List.FromFn.{get_or-map-range_with_len, length-map-range_with_len}
use Rattle.wild_memo_laws.specs.declared.slot.Slot.{Slot}
use Rattle.wild_memo_laws.specs.declared.slot.Slot.TheVariants.{Unseen}
use Rattle.wild_memo_laws.specs.Running.{slot_at}
use Rattle.wild_eval.specs.Slots.{listed_slots, slot_in}

module _ (slots : BTreeMap ℕ Slot) (count : ℕ) where
  pub listed_length : length (listed_slots slots count) ≡ count
  listed_length = length-map-range_with_len (slot_in slots) 0 count

  pub listed_within : (i : ℕ) → i < count → slot_at i (listed_slots slots count) ≡ slot_in slots i
  listed_within i h = get_or-map-range_with_len (slot_in slots) 0 count i i Unseen h (zero-add i)

  pub listed_past : (i : ℕ) → count ≤ i → slot_at i (listed_slots slots count) ≡ Unseen
  listed_past i h = get_or_past (listed_slots slots count) i Unseen (subst (λ n. n ≤ i) (sym listed_length) h)

  pub listed_empty : ((i : ℕ) → slot_in slots i ≡ Unseen) → listed_slots slots count ≡ replicate count Unseen
  listed_empty none = ext_get_or Unseen (listed_slots slots count) (replicate count Unseen) (listed_length ∙ sym (length-replicate count Unseen))
      (λ i h. let low : i < count = subst (λ n. i < n) listed_length h in
      listed_within i low ∙ none i ∙ sym (get_or-replicate count i Unseen Unseen low))

module _ (old new : BTreeMap ℕ Slot) (count : ℕ) where
  pub listed_same : ((i : ℕ) → slot_in new i ≡ slot_in old i) → listed_slots new count ≡ listed_slots old count
  listed_same same = ext_get_or Unseen (listed_slots new count) (listed_slots old count) (listed_length new count ∙ sym (listed_length old count))
      (λ i h. let low : i < count = subst (λ n. i < n) (listed_length new count) h in
      listed_within new count i low ∙ same i ∙ sym (listed_within old count i low))

  module _ (number : ℕ) (slot : Slot) (put : (i : ℕ) → slot_in new i ≡ (if number == i then slot else slot_in old i)) where
    put_same : (i : ℕ) → (number == i) ≡ true → slot_in new i ≡ slot
    put_same i e = put i ∙ ap (λ b. if b then slot else slot_in old i) e

    put_other : (i : ℕ) → (number == i) ≡ false → slot_in new i ≡ slot_in old i
    put_other i e = put i ∙ ap (λ b. if b then slot else slot_in old i) e

    marked_at : (i : ℕ) → i < count → ((number == i) ≡ true) × (number ≡ i) ⊎ ((number == i) ≡ false) × (number ≢ i) → slot_in new i ≡ slot_at i (set (listed_slots old count) number slot)
    marked_at i low (inl h) =
        let here : i < length (listed_slots old count) = subst (λ n. i < n) (sym (listed_length old count)) low in
        put_same i h.0 ∙ subst (λ n. slot ≡ slot_at i (set (listed_slots old count) n slot)) (sym h.1) (sym (get_or-set_same (listed_slots old count) i slot Unseen here))
    marked_at i low (inr h) = put_other i h.0 ∙ sym (get_or-set_other (listed_slots old count) number i slot Unseen (λ e. h.1 (sym e)) ∙ listed_within old count i low)

    pub listed_marked : listed_slots new count ≡ set (listed_slots old count) number slot
    listed_marked = ext_get_or Unseen (listed_slots new count) (set (listed_slots old count) number slot) (listed_length new count ∙ sym (length-set (listed_slots old count) number slot ∙ listed_length old count))
        (λ i h. let low : i < count = subst (λ n. i < n) (listed_length new count) h in
        listed_within new count i low ∙ marked_at i low (eqb_tells number i))
