-- Names that stand in a list.
use Rattle.std.proofs.Common.{◌≡◌, ℕ, ◌+◌, Bool, true, false, ◌||◌, List, [], ◌∷◌, cond, refl, Option, Some}
use Rattle.std.specs.List.{list_any, position_from}
use Rattle.std.specs.Option.{is_some}
use Rattle.wild_numbering.specs.Numbering.{is_named, number_of}

module _ {X : Type 0} (p : X → Bool) where
  any_by : (b c : Bool) (n : ℕ) (k : Option ℕ) → c ≡ is_some k → (b || c) ≡ is_some (cond b (Some n) k)
  any_by true c n k e = refl
  any_by false c n k e = e

  any_position : (n : ℕ) (xs : List X) → list_any p xs ≡ is_some (position_from p n xs)
  any_position n [] = refl
  any_position n (x ∷ xs) = any_by (p x) (list_any p xs) n (position_from p (n + 1) xs) (any_position (n + 1) xs)

-- a name stands in a list where it has a number there
pub any_number : (x : List ℕ) (names : List (List ℕ)) → list_any (is_named x) names ≡ is_some (number_of x names)
any_number x names = any_position (is_named x) 0 names
