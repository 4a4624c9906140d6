-- The first element of a list that passes a test, and its number.
use Rattle.std.proofs.Common.{◌≡◌, ◌<◌, ℕ, zero, suc, Bool, true, false, List, [], ◌∷◌, Some, None, refl, sym, subst, inl, inr, ⊎_elim, arith}
use Rattle.std.specs.Prelude.{slice_get}
use Rattle.std.specs.List.{find}
use Rattle.std.proofs.lemmas.Bool.{cases_Bool}
use Rattle.wild_rules.specs.Taking.{takes}
use Rattle.wild_rules.specs.Lookup.{LowestCounts, NoneCounts}

-- x has the number and passes, and no element of a lower number does
record IsFirst {X : Type 0} (test : X → Bool) (xs : List X) (x : X) (number : ℕ) : Type 0 where
  there : slice_get xs number ≡ Some x
  passes : test x ≡ true
  lower : (j : ℕ) (y : X) → j < number → slice_get xs j ≡ Some y → test y ≡ false

some_same : {X : Type 0} (x y : X) → Some x ≡ Some y → x ≡ y
some_same x y e = cc

along : {X : Type 0} (test : X → Bool) (b : Bool) (x y : X) → Some x ≡ Some y → test x ≡ b → test y ≡ b
along test b x y e t = subst (λ z. test z ≡ b) (some_same x y e) t

first_here : {X : Type 0} (test : X → Bool) (y : X) (ys : List X) (x : X) → Some y ≡ Some x → test y ≡ true → IsFirst test (y ∷ ys) x 0
first_here test y ys x e t = record { there = e; passes = along test true y x e t; lower = λ j z h s. absurd (omega (arith, h)) }

lower_later : {X : Type 0} (test : X → Bool) (y : X) (ys : List X) (x : X) (number : ℕ) → test y ≡ false → IsFirst test ys x number → (j : ℕ) (z : X) → j < suc number → slice_get (y ∷ ys) j ≡ Some z → test z ≡ false
lower_later test y ys x number f r zero z h s = along test false y z s f
lower_later test y ys x number f r (suc j) z h s = r.lower j z (omega (arith, h)) s

first_later : {X : Type 0} (test : X → Bool) (y : X) (ys : List X) (x : X) (number : ℕ) → test y ≡ false → IsFirst test ys x number → IsFirst test (y ∷ ys) x (suc number)
first_later test y ys x number f r = record { there = r.there; passes = r.passes; lower = lower_later test y ys x number f r }

found_is_first : {X : Type 0} (test : X → Bool) (xs : List X) (x : X) → find test xs ≡ Some x → (number : ℕ) × IsFirst test xs x number
found_is_first test [] x e = cc
found_is_first test (y ∷ ys) x e =
    ⊎_elim
    (λ t. let h : Some y ≡ Some x = rw t at e in (0, first_here test y ys x h t))
    (λ f. let h : find test ys ≡ Some x = rw f at e in
    let r = found_is_first test ys x h in (suc r.0, first_later test y ys x r.0 f r.1))
    (cases_Bool (test y))

first_is_found : {X : Type 0} (test : X → Bool) (xs : List X) (x : X) (number : ℕ) → IsFirst test xs x number → find test xs ≡ Some x
first_is_found test [] x number r = let h = r.there in cc
first_is_found test (y ∷ ys) x zero r = rw (along test true x y (sym r.there) r.passes) r.there
first_is_found test (y ∷ ys) x (suc number) r =
    rw (r.lower 0 y (omega arith) refl) (first_is_found test ys x number (record {
      there = r.there;
      passes = r.passes;
      lower = λ j z h s. r.lower (suc j) z (omega (arith, h)) s;
    }))

none_passes : {X : Type 0} (test : X → Bool) (xs : List X) → find test xs ≡ None → (number : ℕ) (x : X) → slice_get xs number ≡ Some x → test x ≡ false
none_passes test [] e number x s = cc
none_passes test (y ∷ ys) e zero x s =
    ⊎_elim (λ t. let h : Some y ≡ None = rw t at e in cc) (λ f. along test false y x s f) (cases_Bool (test y))
none_passes test (y ∷ ys) e (suc number) x s =
    ⊎_elim (λ t. let h : Some y ≡ None = rw t at e in cc) (λ f. let h : find test ys ≡ None = rw f at e in none_passes test ys h number x s) (cases_Bool (test y))

none_found : {X : Type 0} (test : X → Bool) (xs : List X) → ((number : ℕ) (x : X) → slice_get xs number ≡ Some x → test x ≡ false) → find test xs ≡ None
none_found test [] h = refl
none_found test (y ∷ ys) h = rw (h 0 y refl) (none_found test ys (λ number x s. h (suc number) x s))

pub lowest_counts : LowestCounts
lowest_counts rules [] file_name rule = (λ e. cc, λ p. absurd (p.0 refl))
lowest_counts rules (b ∷ bs) file_name rule = (
  λ e. let r = found_is_first (takes (b ∷ bs) file_name) rules rule e in
      (λ h. cc, (r.0, record { there = r.1.there; takes_it = r.1.passes; lowest = r.1.lower })),
  λ p. let r = p.1.1 in first_is_found (takes (b ∷ bs) file_name) rules rule p.1.0 (record { there = r.there; passes = r.takes_it; lower = r.lowest }),
)

pub none_counts : NoneCounts
none_counts rules [] file_name = (λ e. inl refl, λ p. refl)
none_counts rules (b ∷ bs) file_name = (
  λ e. inr (none_passes (takes (b ∷ bs) file_name) rules e),
  λ p. ⊎_elim (λ h. cc) (λ n. none_found (takes (b ∷ bs) file_name) rules n) p,
)
