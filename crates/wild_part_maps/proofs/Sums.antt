-- Sums, part by part.
use Rattle.std.proofs.Common.{◌≡◌, ℕ, ◌+◌, ◌<◌, List, [], ◌∷◌, Option, Some, None, MatchOption, refl, subst, ap, ◌∙◌, inl, inr, arith, true, false, add-zero}
use Rattle.std.specs.Prelude.{is_some, unwrap_or, IsTrue, IfOk, Result, Ok, Err, if◌then◌else◌}
use Rattle.std.specs.Option.{IfSome}
use Rattle.std.specs.Borrow.{Bor}
use Rattle.std.proofs.lemmas.Bool.{cases_Bool}
use Rattle.std.proofs.lemmas.Bool.Decides.{nat_tests}
use Rattle.wild_part_maps.specs.Calls.{MapsEntries}
use Rattle.wild_part_maps.specs.Changes.{Updates, AddsDefaults, IsSum}
use Rattle.wild_part_maps.specs.Parts.{PartValues, entries, has_entry, kept, is_part, number_at, value_in, IsValueAt, RisesFrom}
use Rattle.wild_part_maps.proofs.Reserved.{has_listed}
use Rattle.wild_part_maps.proofs.Rising.{none_below, rises_lower}

module _ (left rest : List (ℕ × ℕ)) (e : ℕ × ℕ) (next : left ≡ e ∷ rest) where
  pub first_has : is_some (value_in left e.0) ≡ true
  first_has = let here : is_part e.0 e.0 ≡ true = grind (arith, nat_tests) in rw (next, here) refl

  first_number : unwrap_or (value_in left e.0) 0 ≡ e.1
  first_number = let here : is_part e.0 e.0 ≡ true = grind (arith, nat_tests) in rw (next, here) refl

  pub rises_rest : RisesFrom 0 left → RisesFrom 0 rest
  rises_rest rising = let all : RisesFrom 0 (e ∷ rest) = rw next at rising in rises_lower 0 (e.0 + 1) rest (omega arith) all.1

  pub listed_rest : (q : ℕ) → IsTrue (is_some (value_in rest q)) → IsTrue (is_some (value_in left q))
  listed_rest q some = elim (cases_Bool (is_part q e.0)) [
    | inl here ↦ rw (next, here) refl
    | inr away ↦ rw (next, away) some
  ]

  -- what holds of the first part and of the others holds of all
  pub all_listed : (P : ℕ → Type 0) → P e.0 → ((q : ℕ) → IsTrue (is_some (value_in rest q)) → P q) → (q : ℕ) → IsTrue (is_some (value_in left q)) → P q
  all_listed P first others q some = elim (cases_Bool (is_part q e.0)) [
    | inl here ↦ (let same : e.0 ≡ q = grind (arith, nat_tests) in subst P same first)
    | inr away ↦ others q (rw (next, away) at some)
  ]

  -- the values that are left are those of a map
  pub same_rest : (m : PartValues ℕ) → RisesFrom 0 left → ((q : ℕ) → IsTrue (is_some (value_in left q)) → kept m q ≡ value_in left q) → (q : ℕ) → IsTrue (is_some (value_in rest q)) → kept m q ≡ value_in rest q
  same_rest m rising same q some =
      let all : RisesFrom 0 (e ∷ rest) = rw next at rising in
      elim (cases_Bool (is_part q e.0)) [
        | inl here ↦ absurd (
            let at : q ≡ e.0 = grind (arith, nat_tests) in
            let none : value_in rest q ≡ None = none_below (e.0 + 1) q rest all.1 (omega (arith, at)) in
            let never : is_some {T = ℕ} None ≡ true = rw none at some in
            cc)
        | inr away ↦ (let was : kept m q ≡ value_in left q = same q (listed_rest q some) in rw (next, away) at was)
      ]

  pub first_same : (m : PartValues ℕ) → ((q : ℕ) → IsTrue (is_some (value_in left q)) → kept m q ≡ value_in left q) → number_at m e.0 ≡ e.1
  first_same m same = ap (λ o. unwrap_or o 0) (same e.0 first_has) ∙ first_number

  module _ (n k : PartValues ℕ) where
    module _ (whole : ℕ → ℕ) (numbers : (q : ℕ) → number_at n q + unwrap_or (value_in left q) 0 ≡ whole q) where
      pub next_fits : (limit : ℕ) → whole e.0 < limit → number_at n e.0 + e.1 < limit
      next_fits limit fits = omega (arith, fits, numbers e.0, first_number)

      pub add_step : RisesFrom 0 left → Updates n e.0 (number_at n e.0 + e.1) k → (q : ℕ) → number_at k q + unwrap_or (value_in rest q) 0 ≡ whole q
      add_step rising updates q = elim (cases_Bool (is_part e.0 q)) [
        | inl here ↦ (
            let same : e.0 ≡ q = grind (arith, nat_tests) in
            let all : RisesFrom 0 (e ∷ rest) = rw next at rising in
            let none : value_in rest q ≡ None = none_below (e.0 + 1) q rest all.1 (omega (arith, same)) in
            let now : kept k q ≡ Some (number_at n e.0 + e.1) = rw here at (updates.values q) in
            let was : number_at n e.0 + e.1 ≡ whole e.0 = rw first_number at (numbers e.0) in
            rw (now, none) (add-zero _ ∙ was ∙ ap whole same))
        | inr away ↦ (
            let other : is_part q e.0 ≡ false = grind (arith, nat_tests) in
            let now : kept k q ≡ kept n q = rw away at (updates.values q) in
            rw now (rw (next, other) at (numbers q)))
      ]

-- reserving changes no number
pub adds_numbers : (m n : PartValues ℕ) → AddsDefaults (λ x. x ≡ 0) m n → (q : ℕ) → number_at n q ≡ number_at m q
adds_numbers m n adds q = go (kept m q) (kept n q) (adds.values q)
  where
    go : (o p : Option ℕ) → MatchOption o (IfSome p (λ x. x ≡ 0)) (λ v. p ≡ Some v) → unwrap_or p 0 ≡ unwrap_or o 0
    go None None h = refl
    go None (Some v) h = h
    go (Some v) p h = rw h refl

pub sum_from : (m n r k : PartValues ℕ) → AddsDefaults (λ x. x ≡ 0) m n → IsSum n r k → IsSum m r k
sum_from m n r k adds sum = record {
  size = sum.size ∙ adds.size;
  numbers = λ q. sum.numbers q ∙ ap (λ x. x + number_at r q) (adds_numbers m n adds q);
}

pub value_number : (m : PartValues ℕ) (part v : ℕ) → IsValueAt (λ x. x ≡ 0) m part v → v ≡ number_at m part
value_number m part v is = go (kept m part) is
  where
    go : (o : Option ℕ) → MatchOption o (v ≡ 0) (λ x. v ≡ x) → v ≡ unwrap_or o 0
    go None h = h
    go (Some x) h = h

module _ {F : Type 0} (step : F → ℕ → Bor ℕ → ℕ → F → Type 0) (m answers : PartValues ℕ) (p : F)
    (gives : (q : F) (part : ℕ) (shown : Bor ℕ) (v : ℕ) → step p part shown v q → IsValueAt (λ x. x ≡ 0) m part v × (q ≡ p)) where
  numbers_listed : (es : List (ℕ × ℕ)) (last : F) → MapsEntries step answers p es last → (q : ℕ) → is_some (value_in es q) ≡ true → kept answers q ≡ Some (number_at m q)
  numbers_listed [] last calls q some = cc
  numbers_listed (e ∷ es) last calls q some =
      let given = gives calls.0 e.0 calls.1.shown calls.1.answer calls.1.called in
      elim (cases_Bool (is_part q e.0)) [
        | inl here ↦ (
            let same : q ≡ e.0 = grind (arith, nat_tests) in
            rw same (calls.1.answers_at ∙ ap (λ v. Some v) (value_number m e.0 calls.1.answer given.0)))
        | inr away ↦ numbers_listed es last (subst (λ s. MapsEntries step answers s es last) given.1 calls.2) q (rw away at some)
      ]

  pub numbers_all : (other : PartValues ℕ) (last : F) → ((q : ℕ) → has_entry answers q ≡ has_entry other q) → MapsEntries step answers p (entries other) last
      → (q : ℕ) → kept answers q ≡ (if has_entry other q then Some (number_at m q) else None)
  numbers_all other last parts calls q = elim (cases_Bool (has_entry other q)) [
    | inl has ↦ rw has (numbers_listed (entries other) last calls q (has_listed other q ∙ has))
    | inr hasnt ↦ rw hasnt (none_from (kept answers q) (parts q ∙ hasnt))
  ]
    where
      none_from : (o : Option ℕ) → is_some o ≡ false → o ≡ None
      none_from None h = refl
      none_from (Some x) h = cc

pub numbers_of : {F E : Type 0} (step : F → ℕ → Bor ℕ → ℕ → F → Type 0) (m other : PartValues ℕ) (p : F) (r : Result (PartValues ℕ) E)
    → ((q : F) (part : ℕ) (shown : Bor ℕ) (v : ℕ) → step p part shown v q → IsValueAt (λ x. x ≡ 0) m part v × (q ≡ p))
    → IfOk r (λ answers. (q : ℕ) → has_entry answers q ≡ has_entry other q) → IfOk r (λ answers. (last : F) × MapsEntries step answers p (entries other) last)
    → IfOk r (λ answers. (q : ℕ) → kept answers q ≡ (if has_entry other q then Some (number_at m q) else None))
numbers_of step m other p (Ok answers) gives parts calls = numbers_all step m answers p gives other calls.0 parts calls.1
numbers_of step m other p (Err e) gives parts calls = tt
