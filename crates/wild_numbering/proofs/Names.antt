-- Names and their numbers.
use Rattle.std.proofs.Common.{◌≡◌, ℕ, ◌+◌, Bool, true, false, List, [], ◌∷◌, ◌++◌, length, cond, refl, sym, subst, arith, Option, Some, None}
use native.Mathlib.Numerals.{unary_clauses}
use Rattle.std.specs.List.{position_from}
use Rattle.std.specs.Option.{option_or, is_some}
use Rattle.std.specs.Ordering.{is_eq, nat_cmp}
use Rattle.std.specs.Str.{bytes_eq}
use Rattle.std.specs.Cmp.Lexicographic.{slice_cmp}
use Rattle.std.proofs.lemmas.Map.Text.{is_eq-slice_cmp}
use Rattle.std.proofs.lemmas.Slice.Eq.{bytes_eq-Decides}
use Rattle.wild_numbering.specs.Numbering.{is_named, number_of}

module _ {X : Type 0} (p : X → Bool) where
  pushed_by : (b : Bool) (n : ℕ) (k : Option ℕ) (l : Option ℕ) (m : Option ℕ) → k ≡ option_or l m → cond b (Some n) k ≡ option_or (cond b (Some n) l) m
  pushed_by true n k l m e = refl
  pushed_by false n k l m e = e

  pub position_push : (n : ℕ) (xs : List X) (y : X) → position_from p n (xs ++ y ∷ []) ≡ option_or (position_from p n xs) (cond (p y) (Some (n + length xs)) None)
  position_push n [] y = simp unary_clauses refl
  position_push n (x ∷ xs) y =
      let e : n + 1 + length xs ≡ n + length (x ∷ xs) = omega arith in
      pushed_by (p x) n _ _ _ (rw e at (position_push (n + 1) xs y))

or_none : {X : Type 0} (o : Option X) → option_or o None ≡ o
or_none None = refl
or_none (Some x) = refl

pub none_from : {X : Type 0} (o : Option X) → is_some o ≡ false → o ≡ None
none_from None h = refl
none_from (Some x) h = cc

numbered_by : (b : Bool) (x name : List ℕ) (names : List (List ℕ)) → bytes_eq name x ≡ b → number_of name names ≡ None → cond b (Some (length names)) (number_of x names) ≡ option_or (number_of x names) (cond b (Some (0 + length names)) None)
numbered_by true x name names same none =
    let e : 0 + length names ≡ length names = omega arith in
    rw (subst (λ y. number_of y names ≡ None) ((bytes_eq-Decides name x).0 same) none, e) refl
numbered_by false x name names same none = sym (or_none (number_of x names))

-- what a map says of a name that is new to it
pub numbered : (names : List (List ℕ)) (x name : List ℕ) → number_of name names ≡ None → cond (is_eq (slice_cmp nat_cmp name x)) (Some (length names)) (number_of x names) ≡ number_of x (names ++ name ∷ [])
numbered names x name none = rw (is_eq-slice_cmp name x, position_push (is_named x) 0 names name) (numbered_by (bytes_eq name x) x name names refl none)

or_itself : {X : Type 0} (o m : Option X) → is_some o ≡ true → o ≡ option_or o m
or_itself None m h = cc
or_itself (Some x) m h = refl

known_by : (b : Bool) (n : ℕ) (x name : List ℕ) (names : List (List ℕ)) → bytes_eq name x ≡ b → is_some (number_of name names) ≡ true → number_of x names ≡ option_or (number_of x names) (cond b (Some n) None)
known_by true n x name names same known = or_itself _ _ (subst (λ y. is_some (number_of y names) ≡ true) ((bytes_eq-Decides name x).0 same) known)
known_by false n x name names same known = sym (or_none (number_of x names))

-- a name that is known twice
pub numbered_again : (names : List (List ℕ)) (x name : List ℕ) → is_some (number_of name names) ≡ true → number_of x names ≡ number_of x (names ++ name ∷ [])
numbered_again names x name known = rw (position_push (is_named x) 0 names name) (known_by (bytes_eq name x) (0 + length names) x name names refl known)
