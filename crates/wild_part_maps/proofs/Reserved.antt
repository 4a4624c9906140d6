-- What reserving entries does.
use Rattle.std.proofs.Common.{◌≡◌, ℕ, zero, suc, ◌<◌, List, [], ◌∷◌, length, nat_lt, Option, Some, None, MatchOption, refl, sym, subst, ap, ◌∙◌, inl, inr, arith, Bool, true, false}
use Rattle.std.specs.Prelude.{is_some, slice_get, ◌||◌, IsTrue}
use Rattle.std.specs.Option.{IfSome}
use Rattle.std.proofs.lemmas.Bool.{cases_Bool}
use Rattle.std.proofs.lemmas.Bool.Decides.{nat_tests}
use Rattle.wild_part_maps.specs.Parts.{PartValues, kept, entries, has_entry, is_part, value_in, IsValueAt}
use Rattle.wild_part_maps.specs.Changes.{Updates, Reserves, AddsDefaults}
use Rattle.wild_part_maps.proofs.Rising.{value_in_all}

module _ {T : Type 0} (d : T → Type 0) where
  pub adds_none : (m : PartValues T) → AddsDefaults d m m
  adds_none m = record { size = refl; values = λ q. go (kept m q) }
    where
      go : (o : Option T) → MatchOption o (IfSome o d) (λ v. o ≡ Some v)
      go None = tt
      go (Some x) = refl

  fresh : (o : Option T) (v : T) → d v → MatchOption o (IfSome None d) (λ w. None ≡ Some w) → MatchOption o (IfSome (Some v) d) (λ w. Some v ≡ Some w)
  fresh None v is old = is
  fresh (Some w) v is old = cc

  pub adds_more : (m n k : PartValues T) (part : ℕ) → AddsDefaults d m n → Reserves d n part k → AddsDefaults d m k
  adds_more m n k part adds reserved = go (kept n part) refl reserved
    where
      go : (o : Option T) → kept n part ≡ o → MatchOption o ((v : T) × d v × Updates n part v k) (λ _. k ≡ n) → AddsDefaults d m k
      go (Some x) some same = subst (λ x. AddsDefaults d m x) (sym same) adds
      go None none p = record {
        size = p.2.size ∙ adds.size;
        values = λ q. elim (cases_Bool (is_part part q)) [
          | inl here ↦ (
              let same : part ≡ q = grind (arith, nat_tests) in
              let none_here : kept n q ≡ None = ap (kept n) (sym same) ∙ none in
              let now : kept k q ≡ Some p.0 = rw here at (p.2.values q) in
              rw now (fresh (kept m q) p.0 p.1 (rw none_here at (adds.values q))))
          | inr away ↦ (let now : kept k q ≡ kept n q = rw away at (p.2.values q) in rw now (adds.values q))
        ];
      }

  -- then the part has an entry, and so has each part that had one
  pub reserves_has : (n k : PartValues T) (part : ℕ) → Reserves d n part k → (q : ℕ) → has_entry k q ≡ (is_part part q || has_entry n q)
  reserves_has n k part reserved q = go (kept n part) refl reserved
    where
      go : (o : Option T) → kept n part ≡ o → MatchOption o ((v : T) × d v × Updates n part v k) (λ _. k ≡ n) → has_entry k q ≡ (is_part part q || has_entry n q)
      go (Some x) some same = elim (cases_Bool (is_part part q)) [
        | inl here ↦ (
            let at : part ≡ q = grind (arith, nat_tests) in
            let now : kept k q ≡ Some x = ap (kept k) (sym at) ∙ ap (λ m. kept m part) same ∙ some in
            rw (here, now) refl)
        | inr away ↦ (rw (away, same) refl)
      ]
      go None none p = elim (cases_Bool (is_part part q)) [
        | inl here ↦ (let now : kept k q ≡ Some p.0 = rw here at (p.2.values q) in rw (here, now) refl)
        | inr away ↦ (let now : kept k q ≡ kept n q = rw away at (p.2.values q) in rw (away, now) refl)
      ]

  -- what is kept then was the value before
  pub was_value : (m n : PartValues T) (part : ℕ) (v : T) → AddsDefaults d m n → kept n part ≡ Some v → IsValueAt d m part v
  was_value m n part v adds now = go (kept m part) (rw now at (adds.values part))
    where
      go : (o : Option T) → MatchOption o (IfSome (Some v) d) (λ w. Some v ≡ Some w) → MatchOption o (d v) (λ w. v ≡ w)
      go None is = is
      go (Some w) same = cc

pub updates_has : {T : Type 0} (m n : PartValues T) (part : ℕ) (v : T) → Updates m part v n → IsTrue (has_entry m part) → (q : ℕ) → has_entry n q ≡ has_entry m q
updates_has m n part v updates has q = elim (cases_Bool (is_part part q)) [
  | inl here ↦ (
      let same : part ≡ q = grind (arith, nat_tests) in
      let now : kept n q ≡ Some v = rw here at (updates.values q) in
      rw now (sym (ap (has_entry m) (sym same) ∙ has)))
  | inr away ↦ ap is_some (rw away at (updates.values q))
]

or_true : (b : Bool) → (b || true) ≡ true
or_true true = refl
or_true false = refl

-- one more entry of another map is reserved
pub reserve_step : {T U : Type 0} (d : T → Type 0) (n k : PartValues T) (whole : ℕ → Bool) (left rest : List (ℕ × U)) (e : ℕ × U) → left ≡ e ∷ rest
    → ((q : ℕ) → (has_entry n q || is_some (value_in left q)) ≡ whole q) → Reserves d n e.0 k → (q : ℕ) → (has_entry k q || is_some (value_in rest q)) ≡ whole q
reserve_step d n k whole left rest e first parts reserved q = elim (cases_Bool (is_part e.0 q)) [
  | inl here ↦ (
      let back : is_part q e.0 ≡ true = grind (arith, nat_tests) in
      let has : has_entry k q ≡ true = reserves_has d n k e.0 reserved q ∙ rw here refl in
      let was : (has_entry n q || true) ≡ whole q = rw (first, back) at (parts q) in
      rw has (sym (or_true (has_entry n q)) ∙ was))
  | inr away ↦ (
      let back : is_part q e.0 ≡ false = grind (arith, nat_tests) in
      let has : has_entry k q ≡ has_entry n q = reserves_has d n k e.0 reserved q ∙ rw away refl in
      rw has (rw (first, back) at (parts q)))
]

-- the entries are those of the parts that have one
pub has_listed : {T : Type 0} (m : PartValues T) (q : ℕ) → is_some (value_in (entries m) q) ≡ has_entry m q
has_listed m q = ap is_some (value_in_all m.dense m.sparse q)

-- a map of defaults has no parts beyond those of another with as many dense parts
pub only_dense : {T U : Type 0} (m : PartValues T) (n : PartValues U) → length n.dense ≡ length m.dense → n.sparse ≡ [] → (q : ℕ) → (has_entry n q || has_entry m q) ≡ has_entry m q
only_dense m n size none q = elim (cases_Bool (nat_lt q (length m.dense))) [
  | inl near ↦ rw near (rw (present m.dense q (grind (arith, nat_tests))) (or_true _))
  | inr far ↦ rw (size, none, far) refl
]
  where
    present : {T : Type 0} (ys : List T) (i : ℕ) → i < length ys → is_some (slice_get ys i) ≡ true
    present [] i h = absurd (omega arith)
    present (y ∷ ys) zero h = refl
    present (y ∷ ys) (suc i) h = present ys i (omega arith)
