-- No two names of an evaluator's scope have the same number.
use Rattle.std.proofs.Common.{◌≡◌, ◌≤◌, ℕ, ◌+◌, Bool, true, false, cond, List, [], ◌∷◌, Option, Some, refl, sym, ◌∙◌, arith}
use Rattle.std.proofs.lemmas.Slice.Eq.{bytes_eq-Decides}
use Rattle.std.specs.List.{position_from}
use Rattle.wild_numbering.specs.Numbering.{is_named}
use Rattle.wild_value_spec.specs.Scope.{Name}
use Rattle.wild_memo_laws.specs.Sound.{IsIndexed}
use Rattle.wild_eval.specs.declared.scope.Scope.{Scope}
use Rattle.wild_eval.specs.Scope.{scope_of}

least_by : (b : Bool) (n i : ℕ) (o : Option ℕ) → ((j : ℕ) → o ≡ Some j → n + 1 ≤ j) → cond b (Some n) o ≡ Some i → n ≤ i
least_by true n i o h e =
    let k : n ≡ i = cc in
    omega arith
least_by false n i o h e =
    let k : n + 1 ≤ i = h i e in
    omega arith

-- a number is not below the first
least : (t : Name → Bool) (n i : ℕ) (names : List Name) → position_from t n names ≡ Some i → n ≤ i
least t n i [] h = absurd (cc)
least t n i (z ∷ names) h = least_by (t z) n i (position_from t (n + 1) names) (λ j e. least t (n + 1) j names e) h

same_by : (x y z : Name) (b c : Bool) (n i : ℕ) (o q : Option ℕ) → (b ≡ true → z ≡ x) → (c ≡ true → z ≡ y) → ((j : ℕ) → o ≡ Some j → n + 1 ≤ j) → ((j : ℕ) → q ≡ Some j → n + 1 ≤ j)
    → (o ≡ Some i → q ≡ Some i → x ≡ y) → cond b (Some n) o ≡ Some i → cond c (Some n) q ≡ Some i → x ≡ y
same_by x y z true true n i o q bx cy lo lq rest h k = sym (bx refl) ∙ cy refl
same_by x y z true false n i o q bx cy lo lq rest h k =
    let e : n ≡ i = cc in
    let l : n + 1 ≤ i = lq i k in
    absurd (omega arith)
same_by x y z false true n i o q bx cy lo lq rest h k =
    let e : n ≡ i = cc in
    let l : n + 1 ≤ i = lo i h in
    absurd (omega arith)
same_by x y z false false n i o q bx cy lo lq rest h k = rest h k

-- names with the same number are the same
same_name : (x y : Name) (n i : ℕ) (names : List Name) → position_from (is_named x) n names ≡ Some i → position_from (is_named y) n names ≡ Some i → x ≡ y
same_name x y n i [] h k = absurd (cc)
same_name x y n i (z ∷ names) h k =
    same_by x y z (is_named x z) (is_named y z) n i (position_from (is_named x) (n + 1) names) (position_from (is_named y) (n + 1) names) ((bytes_eq-Decides z x).0) ((bytes_eq-Decides z y).0)
    (λ j e. least (is_named x) (n + 1) j names e) (λ j e. least (is_named y) (n + 1) j names e) (λ a b. same_name x y (n + 1) i names a b) h k

pub indexed : (scope : Scope) → IsIndexed (scope_of scope)
indexed scope x y i h k = same_name x y 0 i scope.symbols.now h k
