-- One more call.
use Rattle.std.proofs.Common.{List, [], ◌∷◌, ◌++◌, refl, sym, subst}
use Rattle.wild_ids.specs.Calls.{MapsEach}

pub maps_more : {F T U : Type 0} (step : F → T → U → F → Type 0) (p q r : F) (xs : List T) (ys : List U) (x : T) (y : U)
    → MapsEach step p xs ys q → step q x y r → MapsEach step p (xs ++ x ∷ []) (ys ++ y ∷ []) r
maps_more step p q r [] [] x y same called = (r, subst (λ s. step s x y r) (sym same) called, refl)
maps_more step p q r [] (z ∷ ys) x y calls called = absurd calls
maps_more step p q r (w ∷ xs) [] x y calls called = absurd calls
maps_more step p q r (w ∷ xs) (z ∷ ys) x y calls called = (calls.0, calls.1, maps_more step calls.0 q r xs ys x y calls.2 called)
