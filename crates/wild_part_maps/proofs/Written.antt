-- What a write to the sparse part does to all values.
use Rattle.std.proofs.Common.{◌≡◌, ℕ, ◌<◌, ◌≤◌, List, length, Option, Some, None, IsSome, refl, sym, subst, MatchOption, ◌∙◌, ap, inl, inr, arith, true, false, nat_lt}
use Rattle.std.specs.Prelude.{is_some, slice_get, slice_set, IsTrue, [], ◌∷◌, zero, suc, if◌then◌else◌}
use Rattle.std.specs.Ordering.{nat_cmp, eq_by_cmp}
use Rattle.std.specs.Cmp.{eq_by_cmp_equiv, nat_cmp_total}
use Rattle.std.proofs.lemmas.Map.{lookup-set_value}
use Rattle.std.proofs.Math.ListN.{length-set}
use Rattle.std.specs.Map.{lookup, set_value}
use Rattle.std.specs.BTreeMap.{is_at}
use Rattle.std.proofs.lemmas.Bool.{cases_Bool, cases_eq}
use Rattle.std.proofs.lemmas.Bool.Decides.{nat_tests}
use Rattle.wild_part_maps.specs.Parts.{PartValues, kept, has_entry, IsValueAt}
use Rattle.wild_part_maps.specs.Changes.{with_value, Updates, Reserves}

module _ {T : Type 0} (m : PartValues T) (part : ℕ) (v : T) (es : List (ℕ × T)) (beyond : length m.dense ≤ part)
    (put : (q : ℕ) → lookup (is_at (nat_cmp q)) es ≡ (if is_at (nat_cmp part) q then Some v else lookup (is_at (nat_cmp q)) m.sparse)) where
  at : (q : ℕ) → kept (record { dense = m.dense; sparse = es }) q ≡ (if is_at (nat_cmp part) q then Some v else kept m q)
  at q = elim (cases_Bool (nat_lt q (length m.dense))) [
    | inl low ↦ (let other : is_at (nat_cmp part) q ≡ false = grind (arith, nat_tests) in rw (low, other) refl)
    | inr high ↦ rw high (put q)
  ]

  pub updates_sparse : Updates m part v (record { dense = m.dense; sparse = es })
  updates_sparse = record { size = refl; values = at }

pub none_beyond : {T : Type 0} (m : PartValues T) (part : ℕ) → kept m part ≡ None → length m.dense ≤ part
none_beyond m part none = elim (cases_Bool (nat_lt part (length m.dense))) [
  | inl low ↦ absurd (inside m.dense part (grind (arith, nat_tests)) (rw low at none))
  | inr high ↦ grind (arith, nat_tests)
]
  where
    inside : {T : Type 0} (xs : List T) (i : ℕ) → i < length xs → slice_get xs i ≡ None → ⊥
    inside [] i low none = absurd (omega arith)
    inside (x ∷ xs) zero low none = cc
    inside (x ∷ xs) (suc i) low none = inside xs i (omega arith) none

set_same : {T : Type 0} (xs : List T) (i : ℕ) (w : T) → i < length xs → slice_get (slice_set xs i w) i ≡ Some w
set_same [] i w low = absurd (omega arith)
set_same (x ∷ xs) zero w low = refl
set_same (x ∷ xs) (suc i) w low = set_same xs i w (omega arith)

set_other : {T : Type 0} (xs : List T) (i q : ℕ) (w : T) → (i ≡ q → ⊥) → slice_get (slice_set xs i w) q ≡ slice_get xs q
set_other [] i q w apart = refl
set_other (x ∷ xs) zero zero w apart = absurd (apart refl)
set_other (x ∷ xs) zero (suc q) w apart = refl
set_other (x ∷ xs) (suc i) zero w apart = refl
set_other (x ∷ xs) (suc i) (suc q) w apart = set_other xs i q w (λ e. apart (ap suc e))

set_is : {T : Type 0} (xs : List T) (i q : ℕ) (w : T) → i < length xs → slice_get (slice_set xs i w) q ≡ (if is_at (nat_cmp i) q then Some w else slice_get xs q)
set_is xs i q w low = elim (cases_eq i q) [
  | inl same ↦ (let yes : is_at (nat_cmp i) q ≡ true = grind (arith, nat_tests) in rw (yes, ← same) (set_same xs i w low))
  | inr other ↦ (let no : is_at (nat_cmp i) q ≡ false = grind (arith, nat_tests) in rw no (set_other xs i q w other))
]

written_is : {T : Type 0} (es : List (ℕ × T)) (part q : ℕ) (w : T) → IsSome (lookup (is_at (nat_cmp part)) es)
    → lookup (is_at (nat_cmp q)) (set_value (is_at (nat_cmp part)) es w) ≡ (if is_at (nat_cmp part) q then Some w else lookup (is_at (nat_cmp q)) es)
written_is es part q w some =
    lookup-set_value {eq = eq_by_cmp nat_cmp} (eq_by_cmp_equiv nat_cmp_total) (is_at (nat_cmp part)) (λ x y is. grind (arith, nat_tests)) q w es some

dense_is : {T : Type 0} (m : PartValues T) (part q : ℕ) (w : T) → part < length m.dense
    → kept (record { dense = slice_set m.dense part w; sparse = m.sparse }) q ≡ (if is_at (nat_cmp part) q then Some w else kept m q)
dense_is m part q w low = rw (length-set m.dense part w) (elim (cases_Bool (nat_lt q (length m.dense))) [
  | inl near ↦ rw near (set_is m.dense part q w low)
  | inr far ↦ (let other : is_at (nat_cmp part) q ≡ false = grind (arith, nat_tests) in rw (far, other) refl)
])

-- a value that is written through a reference
pub with_value-updates : {T : Type 0} (m : PartValues T) (part : ℕ) (w : T) → IsTrue (has_entry m part) → Updates m part w (with_value m part w)
with_value-updates m part w has = elim (cases_Bool (nat_lt part (length m.dense))) [
  | inl low ↦ rw low (record { size = length-set m.dense part w; values = λ q. dense_is m part q w (grind (arith, nat_tests)) })
  | inr high ↦ rw high (updates_sparse m part w _ (grind (arith, nat_tests)) (λ q. written_is m.sparse part q w (rw high at has)))
]

-- a write over a write leaves the second
pub updates_again : {T : Type 0} (m n k : PartValues T) (part : ℕ) (v w : T) → Updates m part v n → Updates n part w k → Updates m part w k
updates_again m n k part v w first second = record {
  size = second.size ∙ first.size;
  values = λ q. elim (cases_Bool (is_at (nat_cmp part) q)) [
    | inl here ↦ rw here (rw here at (second.values q))
    | inr away ↦ rw away ((rw away at (second.values q)) ∙ (rw away at (first.values q)))
  ];
}

pub reserved_updates : {T : Type 0} (is_default : T → Type 0) (m n k : PartValues T) (part : ℕ) (w : T) → Reserves is_default m part n → Updates n part w k → Updates m part w k
reserved_updates {T} is_default m n k part w reserved second = go (kept m part) reserved
  where
    go : (o : Option T) → MatchOption o ((v : T) × is_default v × Updates m part v n) (λ _. n ≡ m) → Updates m part w k
    go None p = updates_again m n k part p.0 w p.2 second
    go (Some x) same = subst (λ x. Updates x part w k) same second

-- then the part has an entry
pub reserved_has : {T : Type 0} (is_default : T → Type 0) (m n : PartValues T) (part : ℕ) → Reserves is_default m part n → IsTrue (has_entry n part)
reserved_has {T} is_default m n part reserved = go (kept m part) refl reserved
  where
    go : (o : Option T) → kept m part ≡ o → MatchOption o ((v : T) × is_default v × Updates m part v n) (λ _. n ≡ m) → IsTrue (has_entry n part)
    go None none p = (let here : is_at (nat_cmp part) part ≡ true = grind (arith, nat_tests) in ap is_some (rw here at (p.2.values part)))
    go (Some x) some same = ap (λ x. is_some (kept x part)) same ∙ ap is_some some

-- and its value is the one that it had, or a default
pub reserved_value : {T : Type 0} (is_default : T → Type 0) (m n : PartValues T) (part : ℕ) (v : T) → Reserves is_default m part n → kept n part ≡ Some v → IsValueAt is_default m part v
reserved_value {T} is_default m n part v reserved now = go (kept m part) refl reserved
  where
    go : (o : Option T) → kept m part ≡ o → MatchOption o ((d : T) × is_default d × Updates m part d n) (λ _. n ≡ m) → MatchOption o (is_default v) (λ x. v ≡ x)
    go None none p = (
        let here : is_at (nat_cmp part) part ≡ true = grind (arith, nat_tests) in
        let at : Some p.0 ≡ Some v = sym (rw here at (p.2.values part)) ∙ now in
        let same : p.0 ≡ v = cc in
        subst is_default same p.1)
    go (Some x) some same = (let at : Some v ≡ Some x = sym now ∙ ap (λ x. kept x part) same ∙ some in cc)
