-- An index looks at the beginnings of a name that may be the literal of a rule.
use Rattle.std.proofs.Common.{◌≡◌, ◌≤◌, ◌∙◌, ℕ, zero, suc, Bool, true, false, not, ◌&&◌, ◌||◌, ◌==◌, cond, List, [], ◌∷◌, ◌++◌, length, take, Option, Some, None, refl, ap, inl, inr, arith}
use Rattle.std.specs.Prelude.{nat_le, nat_lt, slice_get}
use Rattle.std.specs.List.{list_any}
use Rattle.std.proofs.lemmas.Bool.{eqb-true}
use Rattle.std.proofs.lemmas.Bool.Decides.{nat_tests}
use Rattle.std.proofs.lemmas.List.Folds.{list_any-append}
use Rattle.std.proofs.lemmas.Slice.Eq.{bytes_eq-Decides}
use Rattle.wild_rules.specs.Index.{all_measured, has_literal, is_key, is_short, is_short_key, literal, literal_key, literal_key_of, measured, measured_with}
use Rattle.wild_rules.specs.Rule.{Rule}
use Rattle.wild_rules.specs.Taking.{takes, takes_file, takes_name}
use Rattle.wild_rules.proofs.Found.{begins}
use Rattle.wild_rules.proofs.Keys.{Begins, and_left, names_begin}

or_left : (a b : Bool) → a ≡ true → (a || b) ≡ true
or_left true b e = refl
or_left false b e = absurd (cc)

or_right : (a b : Bool) → b ≡ true → (a || b) ≡ true
or_right true b e = refl
or_right false b e = e

at_least : (m n : ℕ) → m ≤ n → nat_le m n ≡ true
at_least m n h = grind (arith, nat_tests)

less_than : (m n : ℕ) → suc m ≤ n → nat_lt m n ≡ true
less_than m n h = grind (arith, nat_tests)

itself : (n : ℕ) → (n == n) ≡ true
itself n = grind (arith, nat_tests)

-- ---- lengths that are looked at

kept_by : (b : Bool) (t : ℕ → Bool) (n : ℕ) (lengths : List ℕ) → list_any t lengths ≡ true → list_any t (cond b (lengths ++ n ∷ []) lengths) ≡ true
kept_by true t n lengths e = list_any-append t lengths (n ∷ []) ∙ or_left (list_any t lengths) (list_any t (n ∷ [])) e
kept_by false t n lengths e = e

measured_keeps : (t : ℕ → Bool) (o : Option (List ℕ)) (lengths : List ℕ) → list_any t lengths ≡ true → list_any t (measured_with o lengths) ≡ true
measured_keeps t None lengths e = e
measured_keeps t (Some l) lengths e = kept_by (nat_le 4 (length l) && not (list_any (λ m. m == length l) lengths)) t (length l) lengths e

all_keeps : (t : ℕ → Bool) (rules : List Rule) (lengths : List ℕ) → list_any t lengths ≡ true → list_any t (all_measured rules lengths) ≡ true
all_keeps t [] lengths e = e
all_keeps t (r ∷ rs) lengths e = all_keeps t rs (measured_with (literal r.matcher) lengths) (measured_keeps t (literal r.matcher) lengths e)

measured_by : (b : Bool) (n : ℕ) (lengths : List ℕ) → list_any (λ m. m == n) lengths ≡ b → list_any (λ m. m == n) (cond (not b) (lengths ++ n ∷ []) lengths) ≡ true
measured_by true n lengths e = e
measured_by false n lengths e = list_any-append (λ m. m == n) lengths (n ∷ []) ∙ or_right (list_any (λ m. m == n) lengths) ((n == n) || false) (or_left (n == n) false (itself n))

measured_has : (n : ℕ) (lengths : List ℕ) → 4 ≤ n → list_any (λ m. m == n) (measured n lengths) ≡ true
measured_has n lengths long =
    ap (λ b. list_any (λ m. m == n) (cond (b && not (list_any (λ m. m == n) lengths)) (lengths ++ n ∷ []) lengths)) (at_least 4 n long)
    ∙ measured_by (list_any (λ m. m == n) lengths) n lengths refl

all_has : (rules : List Rule) (lengths : List ℕ) (i : ℕ) (r : Rule) (l : List ℕ) → slice_get rules i ≡ Some r → literal r.matcher ≡ Some l → 4 ≤ length l → list_any (λ m. m == length l) (all_measured rules lengths) ≡ true
all_has [] lengths i r l e k long = absurd (cc)
all_has (s ∷ rs) lengths zero r l e k long =
    let same : s ≡ r = cc in
    let here : literal s.matcher ≡ Some l = ap (λ (x : Rule). literal x.matcher) same ∙ k in
    all_keeps (λ m. m == length l) rs (measured_with (literal s.matcher) lengths) (ap (λ o. list_any (λ m. m == length l) (measured_with o lengths)) here ∙ measured_has (length l) lengths long)
all_has (s ∷ rs) lengths (suc i) r l e k long = all_has rs (measured_with (literal s.matcher) lengths) i r l e k long

-- ---- names

any_here : (f : ℕ → Bool) (n m : ℕ) (later : Bool) (b rest : Bool) → (m == n) ≡ b → (b || rest) ≡ true → f n ≡ true → (rest ≡ true → later ≡ true) → (f m || later) ≡ true
any_here f n m later true rest e k h next = or_left (f m) later (ap f (eqb-true m n e) ∙ h)
any_here f n m later false rest e k h next = or_right (f m) later (next k)

any_at : (f : ℕ → Bool) (n : ℕ) (ns : List ℕ) → list_any (λ m. m == n) ns ≡ true → f n ≡ true → list_any f ns ≡ true
any_at f n [] e h = absurd (cc)
any_at f n (m ∷ ns) e h = any_here f n m (list_any f ns) (m == n) (list_any (λ m. m == n) ns) refl e h (λ k. any_at f n ns k h)

module _ (name : List ℕ) (rules : List Rule) (i : ℕ) (r : Rule) (there : slice_get rules i ≡ Some r) where
  covered : (l : List ℕ) → literal r.matcher ≡ Some l → Begins l name → (has_literal name r || begins name (all_measured rules []) r) ≡ true
  covered l e (inl same) = or_left (has_literal name r) (begins name (all_measured rules []) r) (ap (λ o. is_key (literal_key name) (literal_key_of o)) e ∙ (bytes_eq-Decides (literal_key l) (literal_key name)).1 (ap literal_key same))
  covered l e (inr h) =
      or_right (has_literal name r) (begins name (all_measured rules []) r)
      (any_at (λ n. nat_lt n (length name) && has_literal (take n name) r) (length l) (all_measured rules []) (all_has rules [] i r l there e h.0)
      (ap (λ b. b && has_literal (take (length l) name) r) (less_than (length l) (length name) h.1) ∙ ap (λ o. is_key (literal_key (take (length l) name)) (literal_key_of o)) e ∙ (bytes_eq-Decides (literal_key l) (literal_key (take (length l) name))).1 (ap literal_key h.2)))

  covers_by : (o : Option (List ℕ)) → literal r.matcher ≡ o → takes_name r.matcher name ≡ true → ((has_literal name r || begins name (all_measured rules []) r) || is_short r) ≡ true
  covers_by None e t = or_right (has_literal name r || begins name (all_measured rules []) r) (is_short r) (ap is_short_key e)
  covers_by (Some l) e t = or_left (has_literal name r || begins name (all_measured rules []) r) (is_short r) (covered l e (names_begin r.matcher name l t e))

  -- each rule that takes the section is listed where a look-up looks
  pub covers : (file_name : Option (List ℕ)) → takes name file_name r ≡ true → ((has_literal name r || begins name (all_measured rules []) r) || is_short r) ≡ true
  covers file_name t = covers_by (literal r.matcher) refl (and_left (takes_name r.matcher name) (takes_file r.file file_name) t)
