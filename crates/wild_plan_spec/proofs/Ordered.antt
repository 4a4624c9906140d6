-- A list has one order, and a part of it the same.
use Rattle.std.proofs.Common.{◌≡◌, ◌∙◌, ◌+◌, Bool, true, false, not, ◌&&◌, List, [], ◌∷◌, cond, refl, sym, ap, subst, arith}
use native.Mathlib.Numerals.{unary_clauses}
use Rattle.std.specs.List.{filter, All}
use Rattle.std.specs.List.Sorted.{IsSortedBy, ties}
use Rattle.std.specs.Cmp.{IsStrictWeakOrder}
use Rattle.std.proofs.lemmas.List.Sorted.{sorted_far}
use Rattle.std.proofs.lemmas.List.Kept.{IsSortedBy-filter}
use Rattle.std.proofs.lemmas.List.Elements.{All-from_get_or, All-filter, All-head, All-same}
use Rattle.wild_plan_spec.specs.Order.{IsOrdered}

irreflexive : (b : Bool) → (b ≡ true → b ≡ false) → b ≡ false
irreflexive true h = h refl
irreflexive false h = refl

neither : (a b : Bool) → (not a && not b) ≡ true → a ≡ false
neither false b h = refl
neither true b h = sym h

both_not : (a b : Bool) → a ≡ false → b ≡ false → (not a && not b) ≡ true
both_not a b f g = rw (f, g) refl

first_of : {X : Type 0} (x y : X) (xs ys : List X) → x ∷ xs ≡ y ∷ ys → x ≡ y
first_of x y xs ys e = cc

rest_of : {X : Type 0} (x y : X) (xs ys : List X) → x ∷ xs ≡ y ∷ ys → xs ≡ ys
rest_of x y xs ys e = cc

passes_head : {X : Type 0} (p : X → Bool) (z : X) (zs : List X) → p z ≡ true → filter p (z ∷ zs) ≡ z ∷ filter p zs
passes_head p z zs h = rw h refl

-- an element before a filtered list, if it passes the other test
cons_passes : {X : Type 0} (b : Bool) (q : X → Bool) (x : X) (xs : List X) → filter q (cond b (x ∷ xs) xs) ≡ cond b (cond (q x) (x ∷ filter q xs) (filter q xs)) (filter q xs)
cons_passes true q x xs = refl
cons_passes false q x xs = refl

either_first : {X : Type 0} (a b : Bool) (x : X) (xs : List X) → cond a (cond b (x ∷ xs) xs) xs ≡ cond b (cond a (x ∷ xs) xs) xs
either_first true true x xs = refl
either_first true false x xs = refl
either_first false true x xs = refl
either_first false false x xs = refl

filters_swap : {X : Type 0} (p q : X → Bool) (xs : List X) → filter p (filter q xs) ≡ filter q (filter p xs)
filters_swap p q [] = refl
filters_swap p q (x ∷ xs) =
    cons_passes (q x) p x (filter q xs) ∙ ap (λ zs. cond (q x) (cond (p x) (x ∷ zs) zs) zs) (filters_swap p q xs)
    ∙ either_first (q x) (p x) x (filter q (filter p xs)) ∙ sym (cons_passes (p x) q x (filter p xs))

module _ {X : Type 0} (lt : X → X → Bool) (o : IsStrictWeakOrder lt) where
  -- nothing in a sorted list is less than its head
  pub none_less : (x : X) (xs : List X) → IsSortedBy lt (x ∷ xs) → All (λ w. lt w x ≡ false) xs
  none_less x xs up = All-from_get_or (λ w. lt w x ≡ false) xs x (λ i within. simp unary_clauses at (sorted_far lt o (x ∷ xs) up 0 (i + 1) x (omega arith) (omega (arith, within))))

  pub sorted_tail : (x : X) (xs : List X) → IsSortedBy lt (x ∷ xs) → IsSortedBy lt xs
  sorted_tail x xs up = λ k d low high. simp unary_clauses (simp unary_clauses at (up (k + 1) d (omega arith) (omega (arith, high))))

  pub not_less_itself : (x : X) → lt x x ≡ false
  not_less_itself x = irreflexive (lt x x) (o.one_way x x)

  pub ties_itself : (x : X) → ties lt x x ≡ true
  ties_itself x = both_not _ _ (not_less_itself x) (not_less_itself x)

  -- an element of a sorted list's tail is not less than its head
  tail_of : (p : X → Bool) (y : X) (ys : List X) (z : X) (zs : List X) → IsSortedBy lt (z ∷ zs) → y ∷ ys ≡ filter p zs → lt y z ≡ false
  tail_of p y ys z zs up e = All-head (λ w. lt w z ≡ false) y ys (All-same (λ w. lt w z ≡ false) (y ∷ ys) (filter p zs) e (All-filter p (λ w. lt w z ≡ false) zs (none_less z zs up)))

  head_by : (b : Bool) (y : X) (ys : List X) (z : X) (zs : List X) → IsSortedBy lt (z ∷ zs) → ties lt y z ≡ b → y ∷ ys ≡ cond b (z ∷ filter (ties lt y) zs) (filter (ties lt y) zs) → lt y z ≡ false
  head_by true y ys z zs up tie e = neither _ _ tie
  head_by false y ys z zs up tie e = tail_of (ties lt y) y ys z zs up e

  kept_head : (y : X) (ys : List X) → y ∷ filter (ties lt y) ys ≡ filter (ties lt y) (y ∷ ys)
  kept_head y ys = rw (ties_itself y) refl

  head_once : (y : X) (ys : List X) (z : X) (zs : List X) → IsSortedBy lt (z ∷ zs) → filter (ties lt y) (y ∷ ys) ≡ filter (ties lt y) (z ∷ zs) → lt y z ≡ false
  head_once y ys z zs up agree = head_by (ties lt y z) y (filter (ties lt y) ys) z zs up refl (kept_head y ys ∙ agree)

  same_head : (y : X) (ys : List X) (z : X) (zs : List X) → ties lt y z ≡ true → filter (ties lt y) (y ∷ ys) ≡ filter (ties lt y) (z ∷ zs) → y ≡ z
  same_head y ys z zs tie agree = first_of y z (filter (ties lt y) ys) (filter (ties lt y) zs) (kept_head y ys ∙ agree ∙ passes_head (ties lt y) z zs tie)

  rest_by : (b : Bool) (y : X) (us vs : List X) → cond b (y ∷ us) us ≡ cond b (y ∷ vs) vs → us ≡ vs
  rest_by true y us vs e = rest_of y y us vs e
  rest_by false y us vs e = e

  pub same : (ys zs : List X) → IsSortedBy lt ys → IsSortedBy lt zs → ((x : X) → filter (ties lt x) ys ≡ filter (ties lt x) zs) → ys ≡ zs
  same [] [] up vp agree = refl
  same [] (z ∷ zs) up vp agree = let e = agree z ∙ sym (kept_head z zs) in cc
  same (y ∷ ys) [] up vp agree = let e = kept_head y ys ∙ agree y in cc
  same (y ∷ ys) (z ∷ zs) up vp agree =
      let tie = both_not (lt y z) (lt z y) (head_once y ys z zs vp (agree y)) (head_once z zs y ys up (sym (agree z))) in
      let head = same_head y ys z zs tie (agree y) in
      let tails = same ys zs (sorted_tail y ys up) (sorted_tail z zs vp) (λ x. rest_by (ties lt x z) z _ _ (subst (λ w. filter (ties lt x) (w ∷ ys) ≡ filter (ties lt x) (z ∷ zs)) head (agree x))) in
      rw (head, tails) refl

  pub ordered_once : (xs ys zs : List X) → IsOrdered lt xs ys → IsOrdered lt xs zs → ys ≡ zs
  ordered_once xs ys zs f g = same ys zs f.sorted g.sorted (λ x. f.stable x ∙ sym (g.stable x))

  -- what passes a test stands in the same order
  pub ordered_filter : (p : X → Bool) (xs ys : List X) → IsOrdered lt xs ys → IsOrdered lt (filter p xs) (filter p ys)
  ordered_filter p xs ys f = record {
    sorted = IsSortedBy-filter lt o p ys f.sorted;
    stable = λ x. filters_swap (ties lt x) p ys ∙ ap (filter p) (f.stable x) ∙ filters_swap p (ties lt x) xs;
  }
