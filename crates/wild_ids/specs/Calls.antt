-- Calls of a closure at the values of a list, one after another, each with its number.
use Rattle.std.specs.Prelude.{◌≡◌, ℕ, ◌+◌, ◌⊎◌, List, [], ◌∷◌, Result, Ok, Err}
use Rattle.std.specs.Borrow.{Bor, MutBor}

module _ {F T R : Type 0} (step : F → ℕ → Bor T → R → F → Type 0) where
  -- the closure p, called at the number k and at a `&` to x, may answer r and be q then
  pub record CallAt (p : F) (k : ℕ) (x : T) (r : R) (q : F) : Type 0 where
    pub shown : Bor T
    pub shows : shown.now ≡ x
    pub called : step p k shown r q

module _ {F T : Type 0} (step : F → ℕ → Bor T → Unit {0} → F → Type 0) where
  -- calls at each value, from the number k on, lead from p to last
  abbrev pub CallsEach : F → ℕ → List T → F → Type 0
  CallsEach p k [] last = p ≡ last
  CallsEach p k (x ∷ xs) last = (q : F) × CallAt step p k x tt q × CallsEach q (k + 1) xs last

module _ {F T E : Type 0} (step : F → ℕ → Bor T → Result (Unit {0}) E → F → Type 0) where
  -- the same, where each call may refuse: the first refusal ends it, and is the answer
  abbrev pub TriesEach : F → ℕ → List T → Result (Unit {0}) E → F → Type 0
  TriesEach p k [] answer last = (answer ≡ Ok tt) × (p ≡ last)
  TriesEach p k (x ∷ xs) answer last =
      ((q : F) × CallAt step p k x (Ok tt) q × TriesEach q (k + 1) xs answer last)
      ⊎ ((e : E) × CallAt step p k x (Err e) last × (answer ≡ Err e))

module _ {F T : Type 0} (step : F → ℕ → MutBor T → Unit {0} → MutBor T → F → Type 0) where
  -- the closure p, called at the number k and at a `&mut` to x, may leave y there and be q then
  pub record ChangeAt (p : F) (k : ℕ) (x y : T) (q : F) : Type 0 where
    pub lent : MutBor T
    pub left : MutBor T
    pub shows : lent.now ≡ x
    pub leaves : left.now ≡ y
    pub called : step p k lent tt left q

  -- calls at each value of the first list, from the number k on, leave the second and lead from p to last
  abbrev pub ChangesEach : F → ℕ → List T → List T → F → Type 0
  ChangesEach p k [] [] last = p ≡ last
  ChangesEach p k [] (y ∷ ys) last = ⊥
  ChangesEach p k (x ∷ xs) [] last = ⊥
  ChangesEach p k (x ∷ xs) (y ∷ ys) last = (q : F) × ChangeAt p k x y q × ChangesEach q (k + 1) xs ys last

module _ {F T U : Type 0} (step : F → T → U → F → Type 0) where
  -- calls at each value of the first list give the second, and lead from p to last
  abbrev pub MapsEach : F → List T → List U → F → Type 0
  MapsEach p [] [] last = p ≡ last
  MapsEach p [] (y ∷ ys) last = ⊥
  MapsEach p (x ∷ xs) [] last = ⊥
  MapsEach p (x ∷ xs) (y ∷ ys) last = (q : F) × step p x y q × MapsEach q xs ys last
