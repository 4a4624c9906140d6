-- Lists that are made element by element, each with its number.
use Rattle.std.proofs.Common.{◌≡◌, ◌∙◌, ℕ, zero, suc, ◌+◌, ◌<◌, ◌≤◌, Bool, true, false, cond, List, [], ◌∷◌, length, Option, Some, None, refl, ap, subst, ⊎_elim, arith}
use Rattle.std.specs.Prelude.{slice_get}
use Rattle.std.proofs.lemmas.Bool.{cases_lt}
use Rattle.std.specs.List.{position_from}
use Rattle.std.specs.Option.{option_map}

-- f is what is made of one element, and g of a list whose first has this number
module _ {A B : Type 0} (f : ℕ → A → B) (g : ℕ → List A → List B) (none : (n : ℕ) → g n [] ≡ []) (more : (n : ℕ) (x : A) (xs : List A) → g n (x ∷ xs) ≡ f n x ∷ g (n + 1) xs) where
  each_from : (n : ℕ) (xs : List A) (i : ℕ) → slice_get (g n xs) i ≡ option_map (f (n + i)) (slice_get xs i)
  each_from n [] i = rw (none n) refl
  each_from n (x ∷ xs) zero = let z : n ≡ n + 0 = omega arith in rw (more n x xs) (ap (λ m. Some (f m x)) z)
  each_from n (x ∷ xs) (suc i) = let z : n + 1 + i ≡ n + suc i = omega arith in rw (more n x xs) (each_from (n + 1) xs i ∙ ap (λ m. option_map (f m) (slice_get xs i)) z)

  pub each_at : (xs : List A) (i : ℕ) → slice_get (g 0 xs) i ≡ option_map (f i) (slice_get xs i)
  each_at xs i = let z : 0 + i ≡ i = omega arith in each_from 0 xs i ∙ ap (λ m. option_map (f m) (slice_get xs i)) z

-- what is made of something
pub made_of : {A B : Type 0} (f : A → B) (o : Option A) (y : B) → option_map f o ≡ Some y → (x : A) × (o ≡ Some x) × (f x ≡ y)
made_of f None y e = absurd (cc)
made_of f (Some x) y e = (x, refl, cc)

-- ---- numbers

-- a number up to n is below it, or it is n
pub up_to : (n u : ℕ) (P : ℕ → Type 0) → u ≤ n → (u < n → P u) → P n → P u
up_to n u P low before here = ⊎_elim before (λ le. let same : n ≡ u = omega (arith, low, le) in subst P same here) (cases_lt u n)

position_by : (b : Bool) (n m s : ℕ) (o : Option ℕ) → (o ≡ Some s → s < n + 1 + m) → cond b (Some n) o ≡ Some s → s < n + suc m
position_by true n m s o h e = let same : n ≡ s = cc in omega (arith, same)
position_by false n m s o h e = let later = h e in omega (arith, later)

pub position_within : {X : Type 0} (p : X → Bool) (n : ℕ) (xs : List X) (s : ℕ) → position_from p n xs ≡ Some s → s < n + length xs
position_within p n [] s e = absurd (cc)
position_within p n (x ∷ xs) s e = position_by (p x) n (length xs) s (position_from p (n + 1) xs) (position_within p (n + 1) xs s) e
