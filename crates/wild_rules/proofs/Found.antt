-- The lowest rule that matches, among those that an index lists.
use Rattle.std.proofs.Common.{◌≡◌, ◌≤◌, ◌+◌, ◌∙◌, ◌==◌, ℕ, suc, Bool, true, false, ◌&&◌, ◌||◌, cond, List, [], ◌∷◌, length, take, Option, Some, None, refl, sym, ap, arith}
use Rattle.std.specs.Prelude.{nat_lt, slice_get}
use Rattle.std.specs.List.{find, list_any, position_from}
use Rattle.std.proofs.lemmas.Bool.Decides.{nat_tests}
use Rattle.wild_rules.specs.Index.{Indexes, has_literal, is_before, is_short, lowest, numbers, numbers_at}
use Rattle.wild_rules.specs.Lookup.{first_rule}
use Rattle.wild_rules.specs.Rule.{Rule}
use Rattle.wild_rules.specs.Taking as taking
use Rattle.wild_rules.specs.declared.index.Index.{Index}

-- ---- numbers

later : (n m k : ℕ) → nat_lt n k ≡ false → n + 1 ≤ m → nat_lt m k ≡ false
later n m k e h = grind (arith, nat_tests)

sooner : (n m : ℕ) → n + 1 ≤ m → nat_lt n m ≡ true
sooner n m h = grind (arith, nat_tests)

behind : (n m : ℕ) → n + 1 ≤ m → nat_lt m n ≡ false
behind n m h = grind (arith, nat_tests)

-- the lower of a number that was found and another one
abbrev pub earlier : Option ℕ → Option ℕ → Option ℕ
earlier best None = best
earlier best (Some n) = cond (is_before n best) (Some n) best

earlier_none : (q : Option ℕ) → earlier None q ≡ q
earlier_none None = refl
earlier_none (Some n) = refl

-- all numbers that may be found are above n
abbrev Above : ℕ → Option ℕ → Type 0
Above n q = (m : ℕ) → q ≡ Some m → n + 1 ≤ m

-- ---- the first rule that passes

position_by : (b : Bool) (n : ℕ) (q : Option ℕ) → Above n q → (m : ℕ) → cond b (Some n) q ≡ Some m → n ≤ m
position_by true n q above m e = let same : n ≡ m = cc in omega arith
position_by false n q above m e = let l = above m e in omega arith

position_low : (t : Rule → Bool) (n : ℕ) (rs : List Rule) (m : ℕ) → position_from t n rs ≡ Some m → n ≤ m
position_low t n [] m e = absurd (cc)
position_low t n (r ∷ rs) m e = position_by (t r) n (position_from t (n + 1) rs) (λ m e. position_low t (n + 1) rs m e) m e

above : (t : Rule → Bool) (n : ℕ) (rs : List Rule) → Above n (position_from t (n + 1) rs)
above t n rs m e = position_low t (n + 1) rs m e

pub position_same : (a b : Rule → Bool) (n : ℕ) (rs : List Rule) → ((i : ℕ) (r : Rule) → slice_get rs i ≡ Some r → a r ≡ b r) → position_from a n rs ≡ position_from b n rs
position_same a b n [] same = refl
position_same a b n (r ∷ rs) same =
    ap (λ x. cond x (Some n) (position_from a (n + 1) rs)) (same 0 r refl)
    ∙ ap (λ q. cond (b r) (Some n) q) (position_same a b (n + 1) rs (λ i s e. same (suc i) s e))

by_either : (b : Bool) (n : ℕ) → cond b (Some n) (Some n) ≡ Some n
by_either true n = refl
by_either false n = refl

both_here : (n : ℕ) → earlier (Some n) (Some n) ≡ Some n
both_here n = by_either (nat_lt n n) n

first_wins : (n : ℕ) (q : Option ℕ) → Above n q → earlier (Some n) q ≡ Some n
first_wins n None above = refl
first_wins n (Some m) above = ap (λ b. cond b (Some m) (Some n)) (behind n m (above m refl))

second_wins : (n : ℕ) (p : Option ℕ) → Above n p → earlier p (Some n) ≡ Some n
second_wins n None above = refl
second_wins n (Some m) above = ap (λ b. cond b (Some n) (Some m)) (sooner n m (above m refl))

either_by : (b c : Bool) (n : ℕ) (p q r : Option ℕ) → Above n p → Above n q → earlier p q ≡ r → earlier (cond b (Some n) p) (cond c (Some n) q) ≡ cond (b || c) (Some n) r
either_by true true n p q r low high same = both_here n
either_by true false n p q r low high same = first_wins n q high
either_by false true n p q r low high same = second_wins n p low
either_by false false n p q r low high same = same

-- the first that passes one of two tests is the earlier of the first ones that pass each
pub either_first : (a b : Rule → Bool) (n : ℕ) (rs : List Rule) → earlier (position_from a n rs) (position_from b n rs) ≡ position_from (λ r. a r || b r) n rs
either_first a b n [] = refl
either_first a b n (r ∷ rs) = either_by (a r) (b r) n (position_from a (n + 1) rs) (position_from b (n + 1) rs) (position_from (λ r. a r || b r) (n + 1) rs) (above a n rs) (above b n rs) (either_first a b (n + 1) rs)

-- the rule of a number, if there is one
abbrev pub rule_by : List Rule → Option ℕ → Option Rule
rule_by rules None = None
rule_by rules (Some n) = slice_get rules n

find_by : (b : Bool) (all : List Rule) (n : ℕ) (r : Rule) (q : Option ℕ) (found : Option Rule) → slice_get all n ≡ Some r → found ≡ rule_by all q → cond b (Some r) found ≡ rule_by all (cond b (Some n) q)
find_by true all n r q found there same = sym there
find_by false all n r q found there same = same

-- the first rule that passes is that of its number
pub find_first : (t : Rule → Bool) (all : List Rule) (n : ℕ) (rs : List Rule) → ((i : ℕ) → slice_get all (n + i) ≡ slice_get rs i) → find t rs ≡ rule_by all (position_from t n rs)
find_first t all n [] there = refl
find_first t all n (r ∷ rs) there =
    let z : n + 0 ≡ n = omega arith in
    find_by (t r) all n r (position_from t (n + 1) rs) (find t rs) (ap (slice_get all) (sym z) ∙ there 0)
    (find_first t all (n + 1) rs (λ i. let e : n + 1 + i ≡ n + suc i = omega arith in ap (slice_get all) e ∙ there (suc i)))

-- ---- lists of numbers

module _ (takes : Rule → Bool) (at : ℕ → Bool) where
  -- the test, and it takes the section
  abbrev pub both : (Rule → Bool) → Rule → Bool
  both test r = test r && takes r

  keeps : (n : ℕ) (best q : Option ℕ) → is_before n best ≡ false → Above n q → best ≡ earlier best q
  keeps n None q e above = absurd (cc)
  keeps n (Some k) None e above = refl
  keeps n (Some k) (Some m) e above = sym (ap (λ b. cond b (Some m) (Some k)) (later n m k e (above m refl)))

  passed_by : (b : Bool) (n : ℕ) (best left q : Option ℕ) → is_before n best ≡ b → left ≡ earlier best q → Above n q → cond b left best ≡ earlier best q
  passed_by true n best left q e same above = same
  passed_by false n best left q e same above = keeps n best q e above

  lowest_by : (b c : Bool) (n : ℕ) (best : Option ℕ) (ns : List ℕ) (q : Option ℕ) → at n ≡ c → lowest at ns best ≡ earlier best q → Above n q → lowest at (cond b (n ∷ ns) ns) best ≡ earlier best (cond (b && c) (Some n) q)
  lowest_by false c n best ns q e same above = same
  lowest_by true true n best ns q e same above = ap (λ x. cond (is_before n best) (cond x (Some n) (lowest at ns best)) best) e
  lowest_by true false n best ns q e same above =
      ap (λ x. cond (is_before n best) (cond x (Some n) (lowest at ns best)) best) e ∙ passed_by (is_before n best) n best (lowest at ns best) q refl same above

  -- what is found along the numbers of the rules that pass a test
  pub lowest_numbers : (test : Rule → Bool) (n : ℕ) (rest : List Rule) (best : Option ℕ) → ((i : ℕ) (r : Rule) → slice_get rest i ≡ Some r → at (n + i) ≡ takes r) → lowest at (numbers test n rest) best ≡ earlier best (position_from (both test) n rest)
  lowest_numbers test n [] best there = refl
  lowest_numbers test n (r ∷ rs) best there =
      let z : n + 0 ≡ n = omega arith in
      lowest_by (test r) (takes r) n best (numbers test (n + 1) rs) (position_from (both test) (n + 1) rs) (ap at (sym z) ∙ there 0 r refl)
      (lowest_numbers test (n + 1) rs best (λ i s e. let k : n + 1 + i ≡ n + suc i = omega arith in ap at k ∙ there (suc i) s e))
      (above (both test) n rs)

spread : (a b c : Bool) → ((a && c) || (b && c)) ≡ ((a || b) && c)
spread true true true = refl
spread true true false = refl
spread true false true = refl
spread true false false = refl
spread false true true = refl
spread false true false = refl
spread false false true = refl
spread false false false = refl

or_false : (a : Bool) → (a || false) ≡ a
or_false true = refl
or_false false = refl

or_along : (a b c : Bool) → ((a || b) || c) ≡ (a || (b || c))
or_along true b c = refl
or_along false b c = refl

listed : (a c : Bool) → (c ≡ true → a ≡ true) → (a && c) ≡ c
listed a true h = ap (λ b. b && true) (h refl)
listed true false h = refl
listed false false h = refl

-- ---- a look-up

module _ (index : Index) (at : ℕ → Bool) (name : List ℕ) where
  -- what is found at the beginnings of these lengths
  abbrev pub found_along : List ℕ → Option ℕ → Option ℕ
  found_along [] best = best
  found_along (n ∷ ns) best = found_along ns (cond (nat_lt n (length name)) (lowest at (numbers_at index (take n name)) best) best)

-- how many rules stand there
abbrev pub tried_along : Index → List ℕ → List ℕ → ℕ
tried_along index name [] = 0
tried_along index name (n ∷ ns) = cond (nat_lt n (length name)) (length (numbers_at index (take n name))) 0 + tried_along index name ns

-- the rule's literal is the beginning of the name of one of these lengths
abbrev pub begins : List ℕ → List ℕ → Rule → Bool
begins name lengths r = list_any (λ n. nat_lt n (length name) && has_literal (take n name) r) lengths

module _ (index : Index) (rules : List Rule) (indexes : Indexes index rules) (takes : Rule → Bool) (at : ℕ → Bool) (there : (i : ℕ) (r : Rule) → slice_get rules i ≡ Some r → at (0 + i) ≡ takes r) (name : List ℕ) where
  abbrev first : (Rule → Bool) → Option ℕ
  first test = position_from (both takes at test) 0 rules

  one_more : (p : Rule → Bool) (bytes : List ℕ) → lowest at (numbers_at index bytes) (first p) ≡ first (λ r. p r || has_literal bytes r)
  one_more p bytes =
      ap (λ ns. lowest at ns (first p)) (indexes.found bytes)
      ∙ lowest_numbers takes at (has_literal bytes) 0 rules (first p) there
      ∙ either_first (both takes at p) (both takes at (has_literal bytes)) 0 rules
      ∙ position_same (λ r. both takes at p r || both takes at (has_literal bytes) r) (both takes at (λ r. p r || has_literal bytes r)) 0 rules (λ i r e. spread (p r) (has_literal bytes r) (takes r))

  -- one length more
  step : (p : Rule → Bool) (n : ℕ) (b : Bool) → nat_lt n (length name) ≡ b → cond b (lowest at (numbers_at index (take n name)) (first p)) (first p) ≡ first (λ r. p r || (nat_lt n (length name) && has_literal (take n name) r))
  step p n true e = one_more p (take n name) ∙ position_same (both takes at (λ r. p r || has_literal (take n name) r)) (both takes at (λ r. p r || (nat_lt n (length name) && has_literal (take n name) r))) 0 rules
      (λ i r there. ap (λ b. (p r || (b && has_literal (take n name) r)) && takes r) (sym e))
  step p n false e = position_same (both takes at p) (both takes at (λ r. p r || (nat_lt n (length name) && has_literal (take n name) r))) 0 rules
      (λ i r there. sym (ap (λ b. (p r || (b && has_literal (take n name) r)) && takes r) e ∙ ap (λ b. b && takes r) (or_false (p r))))

  -- what is found along the lengths
  along : (p : Rule → Bool) (ns : List ℕ) → found_along index at name ns (first p) ≡ first (λ r. p r || begins name ns r)
  along p [] = position_same (both takes at p) (both takes at (λ r. p r || false)) 0 rules (λ i r there. ap (λ b. b && takes r) (sym (or_false (p r))))
  along p (n ∷ ns) =
      ap (λ best. found_along index at name ns best) (step p n (nat_lt n (length name)) refl)
      ∙ along (λ r. p r || (nat_lt n (length name) && has_literal (take n name) r)) ns
      ∙ position_same (both takes at (λ r. (p r || (nat_lt n (length name) && has_literal (take n name) r)) || begins name ns r)) (both takes at (λ r. p r || begins name (n ∷ ns) r)) 0 rules
      (λ i r there. ap (λ b. b && takes r) (or_along (p r) (nat_lt n (length name) && has_literal (take n name) r) (begins name ns r)))

  -- what a look-up finds, where each rule that takes the section is listed
  pub found : (covers : (i : ℕ) (r : Rule) → slice_get rules i ≡ Some r → takes r ≡ true → ((has_literal name r || begins name index.lengths r) || is_short r) ≡ true)
      → lowest at index.short (found_along index at name index.lengths (lowest at (numbers_at index name) None)) ≡ position_from takes 0 rules
  found covers =
      ap (λ best. lowest at index.short (found_along index at name index.lengths best))
      (ap (λ ns. lowest at ns None) (indexes.found name) ∙ lowest_numbers takes at (has_literal name) 0 rules None there ∙ earlier_none (first (has_literal name)))
      ∙ ap (λ best. lowest at index.short best) (along (has_literal name) index.lengths)
      ∙ ap (λ ns. lowest at ns (first (λ r. has_literal name r || begins name index.lengths r))) indexes.short
      ∙ lowest_numbers takes at is_short 0 rules (first (λ r. has_literal name r || begins name index.lengths r)) there
      ∙ either_first (both takes at (λ r. has_literal name r || begins name index.lengths r)) (both takes at is_short) 0 rules
      ∙ position_same (λ r. both takes at (λ r. has_literal name r || begins name index.lengths r) r || both takes at is_short r) takes 0 rules
      (λ i r e. spread (has_literal name r || begins name index.lengths r) (is_short r) (takes r)
      ∙ listed ((has_literal name r || begins name index.lengths r) || is_short r) (takes r) (covers i r e))

-- the same, from what each step of a look-up answers
pub found_by_steps : (index : Index) (rules : List Rule) (indexes : Indexes index rules) (takes : Rule → Bool) (at : List Rule → ℕ → Bool) (there : (i : ℕ) (r : Rule) → slice_get rules i ≡ Some r → at rules (0 + i) ≡ takes r) (name : List ℕ)
    → (covers : (i : ℕ) (r : Rule) → slice_get rules i ≡ Some r → takes r ≡ true → ((has_literal name r || begins name index.lengths r) || is_short r) ≡ true)
    → (slice listed : List Rule) (named short lengths left : List ℕ) (best before result : Option ℕ) → slice ≡ rules → rules ≡ listed → named ≡ numbers_at index name → short ≡ index.short → lengths ≡ index.lengths → left ≡ []
    → before ≡ lowest (at slice) named None → found_along index (at slice) name left best ≡ found_along index (at slice) name lengths before → result ≡ lowest (at slice) short best → result ≡ position_from takes 0 listed
found_by_steps index rules indexes takes at there name covers slice listed named short lengths left best before result same_slice same_rules same_named same_short same_lengths over first inv last =
    let b : best ≡ found_along index (at slice) name lengths before = ap (λ l. found_along index (at slice) name l best) (sym over) ∙ inv in
    rw (last, b, first, same_named, same_short, same_lengths, same_slice) (found index rules indexes takes (at rules) there name covers) ∙ ap (position_from takes 0) same_rules

-- the rule that counts is that of the number that is found
pub first_at : (o : Option ℕ) (listed : List Rule) (name : List ℕ) (file_name : Option (List ℕ)) → false ≡ (length name == 0) → o ≡ position_from (taking.takes name file_name) 0 listed → rule_by listed o ≡ first_rule listed name file_name
first_at o listed [] file_name n e = absurd (cc)
first_at o listed (b ∷ bs) file_name n e =
    ap (rule_by listed) e ∙ sym (find_first (taking.takes (b ∷ bs) file_name) listed 0 listed (λ i. let z : 0 + i ≡ i = omega arith in ap (slice_get listed) z))
