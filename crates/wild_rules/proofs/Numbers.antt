-- The numbers of rules that an index has, and what a look-up finds along them.
use Rattle.std.proofs.Common.{◌≡◌, ◌≤◌, ◌+◌, ℕ, Bool, true, false, ◌==◌, cond, List, [], ◌∷◌, ◌++◌, length, take, drop, refl, sym, ◌∙◌, ap, ⊎_elim, arith}
use Rattle.std.specs.List.{count_by}
use Rattle.std.proofs.lemmas.Bool.{cases_Bool}
use Rattle.std.proofs.lemmas.List.Sums.{sum_by-cons}
use Rattle.std.proofs.lemmas.List.{append_assoc, append-nil, drop_all, take_all}
use Rattle.wild_rules.specs.Index.{Indexes, all_measured, candidates, candidates_by_key, has_literal, is_short, name_key, numbers, numbers_at}
use Rattle.wild_rules.specs.declared.index.Index.{Index}
use Rattle.wild_rules.specs.Rule.{Rule}

pub length_numbers : (test : Rule → Bool) (n : ℕ) (rules : List Rule) → length (numbers test n rules) ≡ count_by test rules
length_numbers test n [] = refl
length_numbers test n (r ∷ rs) =
    let more = sum_by-cons (λ x. cond (test x) 1 0) r rs in let rest = length_numbers test (n + 1) rs in
    ⊎_elim
    (λ t. let here : numbers test n (r ∷ rs) ≡ n ∷ numbers test (n + 1) rs = rw t refl in
    let count : count_by test (r ∷ rs) ≡ 1 + count_by test rs = more ∙ ap (λ b. cond b 1 0 + count_by test rs) t in omega (arith, ap (λ l. length l) here, count, rest))
    (λ f. let here : numbers test n (r ∷ rs) ≡ numbers test (n + 1) rs = rw f refl in
    let count : count_by test (r ∷ rs) ≡ 0 + count_by test rs = more ∙ ap (λ b. cond b 1 0 + count_by test rs) f in omega (arith, ap (λ l. length l) here, count, rest))
    (cases_Bool (test r))

pub candidates_with_name : (rules listed : List Rule) (name : List ℕ) → rules ≡ listed → false ≡ (length name == 0) → candidates_by_key rules (name_key name) ≡ candidates listed name
candidates_with_name rules listed [] same n = cc
candidates_with_name rules listed (b ∷ bs) same n = ap (λ r. candidates_by_key r (name_key (b ∷ bs))) same

-- ---- an index of rules more

one_by : (b : Bool) (i : ℕ) (old more : List ℕ) → (old ++ cond b (i ∷ []) []) ++ more ≡ old ++ cond b (i ∷ more) more
one_by true i old more = append_assoc old (i ∷ []) more
one_by false i old more = append_assoc old [] more

-- the number of a rule more
pub one_more : (test : Rule → Bool) (i : ℕ) (rule : Rule) (rest : List Rule) (old new : List ℕ) → new ≡ old ++ cond (test rule) (i ∷ []) [] → new ++ numbers test (i + 1) rest ≡ old ++ numbers test i (rule ∷ rest)
one_more test i rule rest old new e = ap (λ l. l ++ numbers test (i + 1) rest) e ∙ one_by (test rule) i old (numbers test (i + 1) rest)

-- all rules are in it
pub all_indexed : (index : Index) (copies rules : List Rule) (n : ℕ) → length rules ≤ n → copies ≡ take n rules
    → ((q : List ℕ) → numbers_at index q ++ numbers (has_literal q) n (drop n rules) ≡ numbers (has_literal q) 0 rules)
    → all_measured (drop n rules) index.lengths ≡ all_measured rules [] → index.short ++ numbers is_short n (drop n rules) ≡ numbers is_short 0 rules → Indexes index copies
all_indexed index copies rules n all same found lengths short =
    let over : drop n rules ≡ [] = drop_all n rules all in
    rw (same ∙ take_all n rules all) (record {
      found = λ q. sym (append-nil (numbers_at index q)) ∙ ap (λ rs. numbers_at index q ++ numbers (has_literal q) n rs) (sym over) ∙ found q;
      lengths = ap (λ rs. all_measured rs index.lengths) (sym over) ∙ lengths;
      short = sym (append-nil index.short) ∙ ap (λ rs. index.short ++ numbers is_short n rs) (sym over) ∙ short;
    })
