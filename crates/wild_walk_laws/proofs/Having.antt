-- Lists that have an element of a kind.
use Rattle.std.proofs.Common.{◌≡◌, ◌⊎◌, ℕ, zero, suc, Bool, true, false, cond, List, [], ◌∷◌, ◌++◌, Option, Some, refl, sym, subst, inl, inr, ⊎_elim}
use Rattle.std.specs.Prelude.{slice_get}
use Rattle.std.specs.List.{filter, find}

-- an element has the property
abbrev pub Has : {X : Type 0} → (X → Type 0) → List X → Type 0
Has P [] = ⊥
Has P (x ∷ xs) = P x ⊎ Has P xs

-- x is an element
abbrev pub IsAmong : {X : Type 0} → X → List X → Type 0
IsAmong x xs = Has (λ y. y ≡ x) xs

module _ {X : Type 0} (P : X → Type 0) where
  pub has_before : (xs ys : List X) → Has P xs → Has P (xs ++ ys)
  has_before [] ys h = absurd h
  has_before (x ∷ xs) ys (inl h) = inl h
  has_before (x ∷ xs) ys (inr h) = inr (has_before xs ys h)

  pub has_after : (xs ys : List X) → Has P ys → Has P (xs ++ ys)
  has_after [] ys h = h
  has_after (x ∷ xs) ys h = inr (has_after xs ys h)

  pub has_either : (xs ys : List X) → Has P (xs ++ ys) → Has P xs ⊎ Has P ys
  has_either [] ys h = inr h
  has_either (x ∷ xs) ys (inl h) = inl (inl h)
  has_either (x ∷ xs) ys (inr h) = ⊎_elim (λ f. inl (inr f)) (λ f. inr f) (has_either xs ys h)

  -- that element, and its index
  pub has_there : (xs : List X) → Has P xs → (i : ℕ) × (x : X) × (slice_get xs i ≡ Some x) × P x
  has_there [] h = absurd h
  has_there (x ∷ xs) (inl h) = (0, x, refl, h)
  has_there (x ∷ xs) (inr h) = let f = has_there xs h in (suc f.0, f.1, f.2, f.3)

  pub has_at : (xs : List X) (i : ℕ) (x : X) → slice_get xs i ≡ Some x → P x → Has P xs
  has_at [] i x there h = absurd (cc)
  has_at (y ∷ xs) zero x there h = let same : y ≡ x = cc in inl (subst P (sym same) h)
  has_at (y ∷ xs) (suc i) x there h = inr (has_at xs i x there h)

  pub has_weaker : (Q : X → Type 0) → ((x : X) → P x → Q x) → (xs : List X) → Has P xs → Has Q xs
  has_weaker Q weaker [] h = h
  has_weaker Q weaker (x ∷ xs) (inl h) = inl (weaker x h)
  has_weaker Q weaker (x ∷ xs) (inr h) = inr (has_weaker Q weaker xs h)

  -- ---- what passes a test

  first_by : (b : Bool) (x : X) (xs : List X) → b ≡ true → P x → Has P (cond b (x ∷ xs) xs)
  first_by true x xs e h = inl h
  first_by false x xs e h = absurd (cc)

  rest_by : (b : Bool) (x : X) (xs : List X) → Has P xs → Has P (cond b (x ∷ xs) xs)
  rest_by true x xs h = inr h
  rest_by false x xs h = h

  -- what has the property passes the test
  pub has_filter : (p : X → Bool) (xs : List X) → ((x : X) → P x → p x ≡ true) → Has P xs → Has P (filter p xs)
  has_filter p [] pass h = h
  has_filter p (x ∷ xs) pass (inl h) = first_by (p x) x (filter p xs) (pass x h) h
  has_filter p (x ∷ xs) pass (inr h) = rest_by (p x) x (filter p xs) (has_filter p xs pass h)

  abbrev Passes : (X → Bool) → X → Type 0
  Passes p x = P x × (p x ≡ true)

  passed_by : (p : X → Bool) (b : Bool) (x : X) (xs ys : List X) → p x ≡ b → (Has P xs → Has (Passes p) ys) → Has P (cond b (x ∷ xs) xs) → Has (Passes p) (x ∷ ys)
  passed_by p true x xs ys e rest (inl h) = inl (h, e)
  passed_by p true x xs ys e rest (inr h) = inr (rest h)
  passed_by p false x xs ys e rest h = inr (rest h)

  pub has_passed : (p : X → Bool) (xs : List X) → Has P (filter p xs) → Has (λ x. P x × (p x ≡ true)) xs
  has_passed p [] h = h
  has_passed p (x ∷ xs) h = passed_by p (p x) x (filter p xs) xs refl (has_passed p xs) h

  found_by : (b : Bool) (x y : X) (o : Option X) → cond b (Some x) o ≡ Some y → (x ≡ y) ⊎ (o ≡ Some y)
  found_by true x y o h = inl (cc)
  found_by false x y o h = inr h

  pub has_found : (p : X → Bool) (xs : List X) (y : X) → find p xs ≡ Some y → P y → Has P xs
  has_found p [] y found h = absurd (cc)
  has_found p (x ∷ xs) y found h = ⊎_elim (λ e. inl (subst P (sym e) h)) (λ f. inr (has_found p xs y f h)) (found_by (p x) x y (find p xs) found)
