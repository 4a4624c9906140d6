-- The names of sections, each where it stands first.
use Rattle.std.proofs.Common.{◌≡◌, ◌∙◌, Bool, true, false, not, ◌&&◌, ◌||◌, List, [], ◌∷◌, ◌++◌, length, cond, refl, sym, ap, subst}
use Rattle.std.proofs.Math.Bool.{and_comm}
use Rattle.std.proofs.lemmas.List.{append_assoc, append-nil}
use Rattle.std.specs.List.{list_any, filter}
use Rattle.std.specs.Str.{bytes_eq}
use Rattle.std.proofs.lemmas.Slice.Eq.{bytes_eq-Decides}
use Rattle.std.proofs.lemmas.List.Folds.{list_any-append}
use Rattle.std.proofs.lemmas.List.Elements.{filter_agree}
use Rattle.wild_numbering.specs.Numbering.{is_named}
use Rattle.wild_plan_spec.specs.declared.chunk.Decision.{Decision}
use Rattle.wild_plan_spec.specs.declared.chunk.Decision.TheVariants.{Discard, Keep, ByName}
use Rattle.wild_plan_spec.specs.declared.row.InputRow.{InputRow}
use Rattle.wild_plan_spec.specs.Fates.{lacks, firsts, orphans, decision, asked_by, names_asked, fate_by, all_fates}
use Rattle.wild_plan_spec.specs.Names.{Name}
use Rattle.wild_plan_spec.specs.Rules.{Rule}
use Rattle.wild_fates.specs.Decisions.{with_decision, with_rows, decisions, fates_by}

-- ---- lists

module _ {X : Type 0} (p q : X → Bool) where
  tested_by : (c : Bool) (x : X) (us ws : List X) → filter p us ≡ ws → filter p (cond c (x ∷ us) us) ≡ cond c (cond (p x) (x ∷ ws) ws) ws
  tested_by true x us ws e = rw e refl
  tested_by false x us ws e = e

  swapped : (b c : Bool) (x : X) (ws : List X) → cond c (cond b (x ∷ ws) ws) ws ≡ cond (c && b) (x ∷ ws) ws
  swapped b true x ws = refl
  swapped b false x ws = refl

  -- two tests after each other
  filter_both : (xs : List X) → filter p (filter q xs) ≡ filter (λ x. q x && p x) xs
  filter_both [] = refl
  filter_both (x ∷ xs) = tested_by (q x) x (filter q xs) (filter (λ y. q y && p y) xs) (filter_both xs) ∙ swapped (p x) (q x) x (filter (λ y. q y && p y) xs)

filter_swap : {X : Type 0} (p q : X → Bool) (xs : List X) → filter p (filter q xs) ≡ filter q (filter p xs)
filter_swap p q xs = filter_both p q xs ∙ filter_agree (λ x. q x && p x) (λ x. p x && q x) (λ x. and_comm (q x) (p x)) xs ∙ sym (filter_both q p xs)

-- ---- orphans

skipped_by : (a : Bool) (p : Name → Bool) (x y : Name) → bytes_eq x y ≡ a → p x ≡ false → (not (a || false) && p y) ≡ p y
skipped_by true p x y same out = sym (subst (λ z. p z ≡ false) ((bytes_eq-Decides x y).0 same) out)
skipped_by false p x y same out = refl

-- what a test refuses need not be refused before
skipped : (p : Name → Bool) (x : Name) (xs : List Name) → p x ≡ false → filter p (filter (lacks (x ∷ [])) xs) ≡ filter p xs
skipped p x xs out = filter_both p (lacks (x ∷ [])) xs ∙ filter_agree (λ y. lacks (x ∷ []) y && p y) p (λ y. skipped_by (bytes_eq x y) p x y refl out) xs

module _ (p : Name → Bool) where
  firsts_by : (b : Bool) (x : Name) (xs : List Name) → p x ≡ b → filter p (firsts xs) ≡ firsts (filter p xs)
      → cond b (x ∷ filter p (filter (lacks (x ∷ [])) (firsts xs))) (filter p (filter (lacks (x ∷ [])) (firsts xs))) ≡ firsts (cond b (x ∷ filter p xs) (filter p xs))
  firsts_by true x xs is e = ap (λ ys. x ∷ ys) (filter_swap p (lacks (x ∷ [])) (firsts xs) ∙ ap (filter (lacks (x ∷ []))) e)
  firsts_by false x xs is e = skipped p x (firsts xs) is ∙ e

  filter_firsts : (xs : List Name) → filter p (firsts xs) ≡ firsts (filter p xs)
  filter_firsts [] = refl
  filter_firsts (x ∷ xs) = firsts_by (p x) x xs refl (filter_firsts xs)

lacks_by : (a b : Bool) → not (a || b) ≡ (not a && not b)
lacks_by true b = refl
lacks_by false b = refl

lacks_more : (names : List Name) (a y : Name) → lacks (names ++ a ∷ []) y ≡ (lacks names y && lacks (a ∷ []) y)
lacks_more names a y = rw (list_any-append (is_named y) names (a ∷ [])) (lacks_by (list_any (is_named y) names) (list_any (is_named y) (a ∷ [])))

-- one more name that is asked for
name_more : (b : Bool) (names : List Name) (a : Name) (bs : List Name) → list_any (is_named a) names ≡ b
    → cond b names (names ++ a ∷ []) ++ orphans (cond b names (names ++ a ∷ [])) bs ≡ names ++ firsts (cond (not b) (a ∷ filter (lacks names) bs) (filter (lacks names) bs))
name_more true names a bs is = refl
name_more false names a bs is =
    let tests : filter (lacks (names ++ a ∷ [])) bs ≡ filter (lacks (a ∷ [])) (filter (lacks names) bs) =
    filter_agree (lacks (names ++ a ∷ [])) (λ y. lacks names y && lacks (a ∷ []) y) (lacks_more names a) bs ∙ sym (filter_both (lacks (a ∷ [])) (lacks names) bs) in
    append_assoc names (a ∷ []) (orphans (names ++ a ∷ []) bs)
    ∙ ap (λ ys. names ++ a ∷ ys) (ap firsts tests ∙ sym (filter_firsts (lacks (a ∷ [])) (filter (lacks names) bs)))

decision_more : (d : Decision) (names : List Name) (a : Name) (bs : List Name) → with_decision names a d ++ orphans (with_decision names a d) bs ≡ names ++ orphans names (asked_by a d ++ bs)
decision_more ByName names a bs = name_more (list_any (is_named a) names) names a bs refl
decision_more Discard names a bs = refl
decision_more (Keep q) names a bs = refl

-- the names that are there after all rows
pub sections_are : (rules : List Rule) (names : List Name) (rows : List InputRow) → with_rows rules names rows ≡ names ++ orphans names (names_asked rules rows)
sections_are rules names [] = sym (append-nil names)
sections_are rules names (row ∷ rows) = sections_are rules (with_decision names row.«section» (decision rules row)) rows ∙ decision_more (decision rules row) names row.«section» (names_asked rules rows)

pub fates_are : (rules : List Rule) (names : List Name) (rows : List InputRow) → fates_by names rows (decisions rules rows) ≡ all_fates rules names rows
fates_are rules names [] = refl
fates_are rules names (row ∷ rows) = ap (λ fs. fate_by names row.«section» (decision rules row) ∷ fs) (fates_are rules names rows)

pub fates_length : (rules : List Rule) (names : List Name) (rows : List InputRow) → length (all_fates rules names rows) ≡ length rows
fates_length rules names [] = refl
fates_length rules names (row ∷ rows) = rw (fates_length rules names rows) refl
