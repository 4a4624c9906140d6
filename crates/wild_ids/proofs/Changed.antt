-- One more call that may change a value.
use Rattle.std.proofs.Common.{◌≡◌, ℕ, ◌+◌, ◌<◌, List, [], ◌∷◌, ◌++◌, length, take, drop, get_or, refl, sym, subst, ap, ◌∙◌, arith, slice_set}
use Rattle.std.specs.Borrow.{MutBor}
use Rattle.std.proofs.Math.Nat.{add-zero}
use Rattle.std.proofs.lemmas.List.{take_more, take_more_set, get_or-drop, length-take-le, drop-set-lt}
use Rattle.std.proofs.lemmas.Grind.{drop_more_same}
use Rattle.wild_ids.specs.Calls.{ChangeAt, ChangesEach}

module _ {F T : Type 0} (step : F → ℕ → MutBor T → Unit {0} → MutBor T → F → Type 0) where
  changes_more : (p q r : F) (k n : ℕ) (xs ys : List T) (x y : T) → n ≡ k + length xs
      → ChangesEach step p k xs ys q → ChangeAt step q n x y r → ChangesEach step p k (xs ++ x ∷ []) (ys ++ y ∷ []) r
  changes_more p q r k n [] [] x y at same called =
      let e : n ≡ k = omega (arith, at) in (r, subst (λ m. ChangeAt step p m x y r) e (subst (λ s. ChangeAt step s n x y r) (sym same) called), refl)
  changes_more p q r k n [] (z ∷ ys) x y at calls called = absurd calls
  changes_more p q r k n (w ∷ xs) [] x y at calls called = absurd calls
  changes_more p q r k n (w ∷ xs) (z ∷ ys) x y at calls called =
      let e : n ≡ k + 1 + length xs = omega (arith, at) in (calls.0, calls.1, changes_more calls.0 q r (k + 1) n xs ys x y e calls.2 called)

  read_old : (old now : List T) (i : ℕ) (x : T) → drop i now ≡ drop i old → x ≡ get_or now i x → get_or old i x ≡ x
  read_old old now i x same here =
      let at_now = get_or-drop i now 0 x in
      let at_old = get_or-drop i old 0 x in
      (rw add-zero at (sym at_old ∙ ap (λ l. get_or l 0 x) (sym same) ∙ at_now)) ∙ sym here

  pub changed_more : (p q r : F) (i : ℕ) (old now : List T) (x y : T) → length now ≡ length old → i < length old
      → drop i now ≡ drop i old → x ≡ get_or now i x → ChangesEach step p 0 (take i old) (take i now) q → ChangeAt step q i x y r
      → ChangesEach step p 0 (take (i + 1) old) (take (i + 1) (slice_set now i y)) r
  changed_more p q r i old now x y long low same here calls called =
      let low_now : i < length now = omega arith in
      let e : i ≡ 0 + length (take i old) = omega (arith, length-take-le i old (omega arith)) in
      rw (take_more_set now i y low_now, take_more old i x low, read_old old now i x same here) (changes_more p q r 0 i (take i old) (take i now) x y e calls called)

pub rest_same : {T : Type 0} (old now : List T) (i : ℕ) (y : T) → drop i now ≡ drop i old → drop (i + 1) (slice_set now i y) ≡ drop (i + 1) old
rest_same old now i y same = drop-set-lt (i + 1) now i y (omega arith) ∙ drop_more_same now old i same
