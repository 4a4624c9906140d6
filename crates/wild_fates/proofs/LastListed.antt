-- The last of what some places list: of each MEMORY, or of each PHDRS.
use Rattle.std.proofs.Common.{◌≡◌, ◌∙◌, ℕ, zero, suc, ◌+◌, ◌<◌, arith, List, [], ◌∷◌, ◌++◌, drop, get_or, length, refl, sym, ap}
use Rattle.wild_plan_spec.specs.Places as spec
use Rattle.wild_plan_spec.specs.Regions.{last_or}
use Rattle.wild_fates.specs.declared.places.Place.{Place}
use Rattle.wild_fates.specs.Shown.{shown_place, shown_places}

last_or_append : {X : Type 0} (x : X) (xs ys : List X) → last_or x (xs ++ ys) ≡ last_or (last_or x xs) ys
last_or_append x [] ys = refl
last_or_append x (z ∷ zs) ys = last_or_append z zs ys

-- what a place lists, and what all do, of which the first has a number
module _ {X : Type 0} (at : ℕ → spec.Place → List X) (all : ℕ → List spec.Place → List X) (all_none : (n : ℕ) → all n [] ≡ [])
    (all_more : (n : ℕ) (p : spec.Place) (ps : List spec.Place) → all n (p ∷ ps) ≡ at n p ++ all (n + 1) ps) where
  -- the one that is listed from place m on, which is the one at i of these, is the last of them
  last_from : (x : X) (n i m : ℕ) (ps : List Place) (y : X) → m ≡ n + i → all m (shown_places (drop i ps)) ≡ y ∷ [] → last_or x (all n (shown_places ps)) ≡ y
  last_from x n zero m ps y e one =
      let same : m ≡ n = omega arith in
      let here : all n (shown_places ps) ≡ y ∷ [] = rw same at one in
      rw here refl
  last_from x n (suc i) m [] y e one = let empty : [] ≡ y ∷ [] = sym (all_none m) ∙ one in absurd (cc)
  last_from x n (suc i) m (p ∷ ps) y e one =
      let next : m ≡ (n + 1) + i = omega arith in
      ap (λ (xs : List X). last_or x xs) (all_more n (shown_place p) (shown_places ps))
      ∙ last_or_append x (at n (shown_place p)) (all (n + 1) (shown_places ps))
      ∙ last_from (last_or x (at n (shown_place p))) (n + 1) i m ps y next one

  -- what is listed from m on, where this is the first place
  more_from : (m i : ℕ) (ps : List Place) (p : Place) → i < length ps → p ≡ get_or ps i p → all m (shown_places (drop i ps)) ≡ at m (shown_place p) ++ all (m + 1) (shown_places (drop (suc i) ps))
  more_from m i [] p within is = absurd (omega arith)
  more_from m zero (q ∷ ps) p within is = let same : q ≡ p = sym is in rw same (all_more m (shown_place p) (shown_places ps))
  more_from m (suc i) (q ∷ ps) p within is = more_from m i ps p (omega arith) is

  module _ (ps : List Place) (next i : ℕ) (p : Place) (follows : next ≡ i + 1) (within : i < length ps) (is : p ≡ get_or ps i p) (none : all next (shown_places (drop next ps)) ≡ []) where
    alone : all i (shown_places (drop i ps)) ≡ at i (shown_place p) ++ []
    alone =
        let after : next ≡ suc i = omega arith in
        let none_here : all (suc i) (shown_places (drop (suc i) ps)) ≡ [] = rw after at none in
        let plus : i + 1 ≡ suc i = omega arith in
        more_from i i ps p within is ∙ rw (plus, none_here) refl

    -- where none is listed here there is still none
    pub none_from : [] ≡ at i (shown_place p) → all i (shown_places (drop i ps)) ≡ []
    none_from e = alone ∙ rw (← e) refl

    -- one that is listed here is the last
    pub last_here : (x y : X) → y ∷ [] ≡ at i (shown_place p) → y ≡ last_or x (all 0 (shown_places ps))
    last_here x y e = let one : all i (shown_places (drop i ps)) ≡ y ∷ [] = alone ∙ rw (← e) refl in sym (last_from x 0 i i ps y (omega arith) one)
