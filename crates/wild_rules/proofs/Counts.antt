-- A look-up tries no more rules than may take a section of its name.
use Rattle.std.proofs.Common.{◌≡◌, ◌≤◌, ◌<◌, ◌+◌, ◌∙◌, ℕ, Bool, true, false, not, ◌&&◌, ◌||◌, ◌==◌, cond, List, [], ◌∷◌, ◌++◌, length, take, Option, Some, None, refl, sym, ap, inr, arith}
use Rattle.std.specs.Prelude.{nat_le, nat_lt}
use Rattle.std.specs.List.{list_any, count_by, slice_index}
use Rattle.std.proofs.lemmas.Bool.{eqb-true, ltb-true, leb-true}
use Rattle.std.proofs.lemmas.Bool.Decides.{nat_tests}
use Rattle.std.proofs.lemmas.List.{length-take-le}
use Rattle.std.proofs.lemmas.List.Folds.{list_any-append}
use Rattle.std.proofs.lemmas.List.Sums.{sum_by-cons}
use Rattle.std.proofs.lemmas.Slice.Eq.{bytes_eq-Decides}
use Rattle.wild_rules.specs.Index.{Indexes, all_measured, candidates_by_key, has_key, has_literal, is_key, is_short, key_of, literal, literal_key, literal_key_of, measured_with, name_key, numbers_at}
use Rattle.wild_rules.specs.Rule.{Rule}
use Rattle.wild_rules.specs.declared.index.Index.{Index}
use Rattle.wild_rules.proofs.Found.{begins, tried_along}
use Rattle.wild_rules.proofs.Keys.{Begins, and_left, beginning_key}
use Rattle.wild_rules.proofs.Numbers.{length_numbers}

and_right : (a b : Bool) → (a && b) ≡ true → b ≡ true
and_right true b e = e
and_right false b e = absurd (cc)

or_false : (a : Bool) → (a || false) ≡ a
or_false true = refl
or_false false = refl

or_true : (a : Bool) → (a || true) ≡ true
or_true true = refl
or_true false = refl

-- ---- counts

abbrev one : Bool → ℕ
one b = cond b 1 0

counted : (t : Rule → Bool) (r : Rule) (rs : List Rule) → count_by t (r ∷ rs) ≡ one (t r) + count_by t rs
counted t r rs = sum_by-cons (λ x. cond (t x) 1 0) r rs

count_same : (a b : Rule → Bool) (rs : List Rule) → ((r : Rule) → a r ≡ b r) → count_by a rs ≡ count_by b rs
count_same a b [] same = refl
count_same a b (r ∷ rs) same = let h : one (a r) ≡ one (b r) = ap one (same r) in omega (arith, counted a r rs, counted b r rs, count_same a b rs same, h)

count_none : (t : Rule → Bool) (rs : List Rule) → ((r : Rule) → t r ≡ false) → count_by t rs ≡ 0
count_none t [] none = refl
count_none t (r ∷ rs) none = let h : one (t r) ≡ 0 = ap one (none r) in omega (arith, counted t r rs, count_none t rs none, h)

count_two : (a b c : Rule → Bool) (rs : List Rule) → ((r : Rule) → one (a r) + one (b r) ≤ one (c r)) → count_by a rs + count_by b rs ≤ count_by c rs
count_two a b c [] low = omega arith
count_two a b c (r ∷ rs) low = omega (arith, counted a r rs, counted b r rs, counted c r rs, low r, count_two a b c rs low)

two_by : (a b c : Bool) → (a ≡ true → b ≡ true → ⊥) → (a ≡ true → c ≡ true) → (b ≡ true → c ≡ true) → one a + one b ≤ one c
two_by true true c apart left right = absurd (apart refl refl)
two_by true false c apart left right = let h : one c ≡ 1 = ap one (left refl) in omega (arith, h)
two_by false true c apart left right = let h : one c ≡ 1 = ap one (right refl) in omega (arith, h)
two_by false false c apart left right = omega arith

itself : (n : ℕ) → (n == n) ≡ true
itself n = grind (arith, nat_tests)

other : (m n : ℕ) → (m == n) ≡ false → (n == m) ≡ false
other m n e = grind (arith, nat_tests)

or_both : (a b : Bool) → (a || b) ≡ false → (a ≡ false) × (b ≡ false)
or_both true b e = absurd (cc)
or_both false b e = (refl, e)

-- ---- lengths

-- no length stands twice
abbrev pub Distinct : List ℕ → Type 0
Distinct [] = Unit {0}
Distinct (n ∷ ns) = (list_any (λ m. m == n) ns ≡ false) × Distinct ns

-- each is four or more
abbrev pub Long : List ℕ → Type 0
Long ns = (n : ℕ) → list_any (λ m. m == n) ns ≡ true → 4 ≤ n

distinct_more : (ns : List ℕ) (n : ℕ) → Distinct ns → list_any (λ m. m == n) ns ≡ false → Distinct (ns ++ n ∷ [])
distinct_more [] n d e = (refl, tt)
distinct_more (m ∷ ns) n d e =
    let h = or_both (m == n) (list_any (λ m. m == n) ns) e in
    (list_any-append (λ x. x == m) ns (n ∷ []) ∙ ap (λ b. b || ((n == m) || false)) d.0 ∙ ap (λ b. b || false) (other m n h.0), distinct_more ns n d.1 h.1)

distinct_by : (a b : Bool) (ns : List ℕ) (n : ℕ) → list_any (λ m. m == n) ns ≡ b → Distinct ns → Distinct (cond (a && not b) (ns ++ n ∷ []) ns)
distinct_by true false ns n e d = distinct_more ns n d e
distinct_by true true ns n e d = d
distinct_by false b ns n e d = d

measured_distinct : (o : Option (List ℕ)) (ns : List ℕ) → Distinct ns → Distinct (measured_with o ns)
measured_distinct None ns d = d
measured_distinct (Some l) ns d = distinct_by (nat_le 4 (length l)) (list_any (λ m. m == length l) ns) ns (length l) refl d

pub all_distinct : (rules : List Rule) (ns : List ℕ) → Distinct ns → Distinct (all_measured rules ns)
all_distinct [] ns d = d
all_distinct (r ∷ rs) ns d = all_distinct rs (measured_with (literal r.matcher) ns) (measured_distinct (literal r.matcher) ns d)

long_last : (b : Bool) (ns : List ℕ) (n x : ℕ) → 4 ≤ n → Long ns → list_any (λ m. m == x) ns ≡ b → (b || ((n == x) || false)) ≡ true → 4 ≤ x
long_last true ns n x low long e k = long x e
long_last false ns n x low long e k = let same : n ≡ x = eqb-true n x (sym (or_false (n == x)) ∙ k) in omega (arith, same, low)

long_by : (a b : Bool) (ns : List ℕ) (n : ℕ) → nat_le 4 n ≡ a → Long ns → Long (cond (a && not b) (ns ++ n ∷ []) ns)
long_by true false ns n e long = λ x k. long_last (list_any (λ m. m == x) ns) ns n x (leb-true 4 n e) long refl (sym (list_any-append (λ m. m == x) ns (n ∷ [])) ∙ k)
long_by true true ns n e long = long
long_by false b ns n e long = long

measured_long : (o : Option (List ℕ)) (ns : List ℕ) → Long ns → Long (measured_with o ns)
measured_long None ns d = d
measured_long (Some l) ns d = long_by (nat_le 4 (length l)) (list_any (λ m. m == length l) ns) ns (length l) refl d

pub all_long : (rules : List Rule) (ns : List ℕ) → Long ns → Long (all_measured rules ns)
all_long [] ns d = d
all_long (r ∷ rs) ns d = all_long rs (measured_with (literal r.matcher) ns) (measured_long (literal r.matcher) ns d)

-- ---- literals

-- a rule has a literal that is found as these bytes are
record Found_as (bytes : List ℕ) (o : Option (List ℕ)) : Type 0 where
  l : List ℕ
  is : o ≡ Some l
  same : literal_key l ≡ literal_key bytes

key_is : (bytes : List ℕ) (o : Option (List ℕ)) → is_key (literal_key bytes) (literal_key_of o) ≡ true → Found_as bytes o
key_is bytes None e = absurd (cc)
key_is bytes (Some l) e = record { l = l; is = refl; same = (bytes_eq-Decides (literal_key l) (literal_key bytes)).0 e }

same_size : (l bytes : List ℕ) → literal_key l ≡ literal_key bytes → length l ≡ length bytes
same_size l bytes e = ap (λ k. slice_index k 4) e

same_start : (l bytes : List ℕ) → literal_key l ≡ literal_key bytes → name_key l ≡ name_key bytes
same_start l bytes e = ap name_key e

module _ (name : List ℕ) where
  -- a rule has the beginning of this length
  abbrev at : ℕ → Rule → Bool
  at n r = nat_lt n (length name) && has_literal (take n name) r

  at_low : (n : ℕ) (r : Rule) → at n r ≡ true → n < length name
  at_low n r e = ltb-true n (length name) (and_left (nat_lt n (length name)) (has_literal (take n name) r) e)

  at_is : (n : ℕ) (r : Rule) → at n r ≡ true → Found_as (take n name) (literal r.matcher)
  at_is n r e = key_is (take n name) (literal r.matcher) (and_right (nat_lt n (length name)) (has_literal (take n name) r) e)

  at_length : (n : ℕ) (r : Rule) (l : List ℕ) → at n r ≡ true → literal r.matcher ≡ Some l → length l ≡ n
  at_length n r l e k =
      let low = at_low n r e in
      let f = at_is n r e in
      let same : f.l ≡ l = let h : Some f.l ≡ Some l = sym f.is ∙ k in cc in
      sym (ap (λ x. length x) same) ∙ same_size f.l (take n name) f.same ∙ length-take-le n name (omega arith)

  -- one of the lengths at which the rule has the beginning
  record Some_at (ns : List ℕ) (r : Rule) : Type 0 where
    n : ℕ
    among : list_any (λ m. m == n) ns ≡ true
    here : at n r ≡ true

  some_by : (n : ℕ) (ns : List ℕ) (r : Rule) (b : Bool) → at n r ≡ b → (b || begins name ns r) ≡ true → (begins name ns r ≡ true → Some_at ns r) → Some_at (n ∷ ns) r
  some_by n ns r true e k later = record { n = n; among = ap (λ b. b || list_any (λ m. m == n) ns) (itself n); here = e }
  some_by n ns r false e k later =
      let s = later k in
      record { n = s.n; among = ap (λ b. (n == s.n) || b) s.among ∙ or_true (n == s.n); here = s.here }

  some_at : (ns : List ℕ) (r : Rule) → begins name ns r ≡ true → Some_at ns r
  some_at [] r e = absurd (cc)
  some_at (n ∷ ns) r e = some_by n ns r (at n r) refl e (λ k. some_at ns r k)

  apart : (n : ℕ) (ns : List ℕ) (r : Rule) → list_any (λ m. m == n) ns ≡ false → at n r ≡ true → begins name ns r ≡ true → ⊥
  apart n ns r none e k =
      let s = some_at ns r k in
      let same : n ≡ s.n = sym (at_length n r (at_is n r e).l e (at_is n r e).is) ∙ at_length s.n r (at_is n r e).l s.here (at_is n r e).is in
      cc (none, ap (λ x. list_any (λ m. m == x) ns) same, s.among)

  begun_key : (ns : List ℕ) (r : Rule) → Long ns → begins name ns r ≡ true → has_key (name_key name) r ≡ true
  begun_key ns r long k =
      let s = some_at ns r k in
      let low = at_low s.n r s.here in
      let size : length (take s.n name) ≡ s.n = length-take-le s.n name (omega arith) in
      let long_one = long s.n s.among in
      let begun : Begins (take s.n name) name = inr (omega (arith, size, long_one), omega (arith, size, low), ap (λ n. take n name) (sym size)) in
      let f = at_is s.n r s.here in
      ap (λ o. is_key (name_key name) (key_of o)) f.is ∙ (bytes_eq-Decides (name_key f.l) (name_key name)).1 (same_start f.l (take s.n name) f.same ∙ beginning_key (take s.n name) name begun)

  named_key : (r : Rule) → has_literal name r ≡ true → has_key (name_key name) r ≡ true
  named_key r e =
      let f = key_is name (literal r.matcher) e in
      ap (λ o. is_key (name_key name) (key_of o)) f.is ∙ (bytes_eq-Decides (name_key f.l) (name_key name)).1 (same_start f.l name f.same)

  named_apart : (ns : List ℕ) (r : Rule) → begins name ns r ≡ true → has_literal name r ≡ true → ⊥
  named_apart ns r k e =
      let s = some_at ns r k in
      let low = at_low s.n r s.here in
      let f = key_is name (literal r.matcher) e in
      let size = at_length s.n r f.l s.here f.is in
      omega (arith, low, size, same_size f.l name f.same)

  module _ (index : Index) (rules : List Rule) (indexes : Indexes index rules) where
    tried_by : (n : ℕ) (b : Bool) → nat_lt n (length name) ≡ b → cond b (length (numbers_at index (take n name))) 0 ≡ count_by (at n) rules
    tried_by n true e = ap (λ l. length l) (indexes.found (take n name)) ∙ length_numbers (has_literal (take n name)) 0 rules ∙ count_same (has_literal (take n name)) (at n) rules (λ r. ap (λ b. b && has_literal (take n name) r) (sym e))
    tried_by n false e = sym (count_none (at n) rules (λ r. ap (λ b. b && has_literal (take n name) r) e))

    along_count : (ns : List ℕ) → Distinct ns → tried_along index name ns ≤ count_by (begins name ns) rules
    along_count [] d = omega arith
    along_count (n ∷ ns) d =
        omega (
          arith,
          tried_by n (nat_lt n (length name)) refl,
          along_count ns d.1,
          count_two (at n) (begins name ns) (begins name (n ∷ ns)) rules
              (λ r. two_by (at n r) (begins name ns r) (begins name (n ∷ ns) r) (λ e k. apart n ns r d.0 e k) (λ e. ap (λ b. b || begins name ns r) e) (λ k. ap (λ b. at n r || b) k ∙ or_true (at n r))),
        )

    -- all that are tried are candidates
    pub tried_low : Distinct index.lengths → Long index.lengths → length (numbers_at index name) + tried_along index name index.lengths + length index.short ≤ candidates_by_key rules (name_key name)
    tried_low distinct long =
        let named : length (numbers_at index name) ≡ count_by (has_literal name) rules = ap (λ l. length l) (indexes.found name) ∙ length_numbers (has_literal name) 0 rules in
        let short : length index.short ≡ count_by is_short rules = ap (λ l. length l) indexes.short ∙ length_numbers is_short 0 rules in
        omega (
          arith,
          named,
          short,
          along_count index.lengths distinct,
          count_two (begins name index.lengths) (has_literal name) (has_key (name_key name)) rules
              (λ r. two_by (begins name index.lengths r) (has_literal name r) (has_key (name_key name) r) (λ k e. named_apart index.lengths r k e) (λ k. begun_key index.lengths r long k) (λ e. named_key r e)),
        )

-- the same, from what each step of a look-up tried
pub tried_by_steps : (index : Index) (rules : List Rule) (indexes : Indexes index rules) (name : List ℕ) (listed : List Rule) (named short lengths left : List ℕ) (start first along last : ℕ)
    → rules ≡ listed → named ≡ numbers_at index name → short ≡ index.short → lengths ≡ index.lengths → left ≡ []
    → first ≤ start + length named → along + tried_along index name left ≤ first + tried_along index name lengths → last ≤ along + length short → last ≤ start + candidates_by_key listed (name_key name)
tried_by_steps index rules indexes name listed named short lengths left start first along last same_rules same_named same_short same_lengths over a b c =
    let none : tried_along index name left ≡ 0 = ap (tried_along index name) over in
    let all : tried_along index name lengths ≡ tried_along index name index.lengths = ap (tried_along index name) same_lengths in
    let distinct : Distinct index.lengths = rw indexes.lengths (all_distinct rules [] tt) in
    let long : Long index.lengths = rw indexes.lengths (all_long rules [] (λ n e. absurd (cc (e)))) in
    let low = tried_low name index rules indexes distinct long in
    omega (arith, none, all, low, a, b, c, ap (λ l. length l) same_named, ap (λ l. length l) same_short, ap (λ r. candidates_by_key r (name_key name)) same_rules)
