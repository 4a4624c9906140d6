-- Slots: one is marked, the others stay.
use Rattle.std.proofs.Common.{◌≡◌, ◌≢◌, ℕ, zero, suc, ◌<◌, ◌⊎◌, ◌+◌, Bool, true, false, ◌||◌, List, [], ◌∷◌, length, set, Some, refl, inl, inr, ap, sym, subst, arith}
use Rattle.std.specs.Prelude.{slice_get}
use Rattle.std.proofs.lemmas.List.{get_or-set_same, get_or-set_other}
use Rattle.std.proofs.lemmas.Option.{slice_get_within}
use Rattle.std.proofs.lemmas.Slice.Eq.{bytes_eq-Decides}
use Rattle.std.specs.Str.{bytes_eq}
use Rattle.wild_value_spec.specs.Scope.{Name, Definition, Scope}
use Rattle.wild_value_spec.specs.Value.{is_on}
use Rattle.wild_memo_laws.specs.declared.slot.Slot.{Slot}
use Rattle.wild_memo_laws.specs.declared.slot.Slot.TheVariants.{Unseen}
use Rattle.wild_memo_laws.specs.Running.{slot_at}
use Rattle.wild_memo_laws.specs.Sound.{IsDefined, unseen_nodes, unseen}

-- ---- paths

pub on_itself : (name : Name) (path : List Name) → is_on name (name ∷ path) ≡ true
on_itself name path = ap (λ (b : Bool). b || is_on name path) ((bytes_eq-Decides name name).1 refl)

on_longer_by : (b c : Bool) → c ≡ true → (b || c) ≡ true
on_longer_by true c h = refl
on_longer_by false c h = h

pub on_longer : (name other : Name) (path : List Name) → is_on name path ≡ true → is_on name (other ∷ path) ≡ true
on_longer name other path h = on_longer_by (bytes_eq other name) (is_on name path) h

or_by : (b c : Bool) → (b || c) ≡ true → (b ≡ true) ⊎ (c ≡ true)
or_by true c h = inl refl
or_by false c h = inr h

named_by : (name other : Name) (path : List Name) → (bytes_eq other name ≡ true) ⊎ (is_on name path ≡ true) → (other ≡ name) ⊎ (is_on name path ≡ true)
named_by name other path (inl e) = inl ((bytes_eq-Decides other name).0 e)
named_by name other path (inr h) = inr h

-- what is on a longer path is the name before it, or on it
pub on_rest : (name other : Name) (path : List Name) → is_on name (other ∷ path) ≡ true → (other ≡ name) ⊎ (is_on name path ≡ true)
on_rest name other path h = named_by name other path (or_by (bytes_eq other name) (is_on name path) h)

-- ---- counts

-- a slot that is marked anew
pub unseen-set : (ds : List Definition) (slots : List Slot) (i : ℕ) (x : Slot) (d : Definition) → slice_get ds i ≡ Some d → i < length slots → unseen ds (set slots i x) + unseen_nodes d (slot_at i slots) ≡ unseen ds slots + unseen_nodes d x
unseen-set [] slots i x d h k = absurd (cc)
unseen-set (c ∷ ds) [] i x d h k = absurd (omega arith)
unseen-set (c ∷ ds) (s ∷ slots) zero x d h k = let same : c ≡ d = cc in rw same (omega arith)
unseen-set (c ∷ ds) (s ∷ slots) (suc i) x d h k = omega (arith, unseen-set ds slots i x d h (omega arith))

-- ---- marks

module _ (scope : Scope) where
  pub within : (slots : List Slot) (name : Name) (i : ℕ) (d : Definition) → length slots ≡ length scope.definitions → IsDefined scope name i d → i < length slots
  within slots name i d size e = subst (λ n. i < n) (sym size) (slice_get_within scope.definitions i d e.placed)

  pub marked : (slots : List Slot) (name : Name) (i : ℕ) (d : Definition) (x : Slot) → length slots ≡ length scope.definitions → IsDefined scope name i d → slot_at i (set slots i x) ≡ x
  marked slots name i d x size e = get_or-set_same slots i x Unseen (within slots name i d size e)

  pub unmarked : (slots : List Slot) (i j : ℕ) (x : Slot) → j ≢ i → slot_at j (set slots i x) ≡ slot_at j slots
  unmarked slots i j x h = get_or-set_other slots i j x Unseen h
