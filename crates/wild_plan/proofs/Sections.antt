-- What is kept of sections says what their rows say.
use Rattle.std.proofs.Common.{◌≡◌, ℕ, ◌+◌, List, [], ◌∷◌, ◌++◌, refl, ap, Option}
use Rattle.wild_script_tree.specs.declared.tree.Section.{Section}
use Rattle.wild_plan_spec.specs.declared.chunk.Kept.{Kept}
use Rattle.wild_plan_spec.specs.declared.row.InputRow.{InputRow}
use Rattle.wild_plan_spec.specs.Chunks.{section_rows}
use Rattle.wild_plan_spec.specs.Facts.{facts_from}
use Rattle.wild_plan_spec.specs.Names.{Name}
use Rattle.wild_plan.specs.declared.facts.Facts.{Facts}
use Rattle.wild_plan.specs.declared.traits.Traits.{Traits}
use Rattle.wild_plan.specs.Facts.{facts_with, shown_all, shown_facts}
use Rattle.wild_plan.specs.Traits.{traits_of}

pub all_append : (xs ys : List Facts) → shown_all (xs ++ ys) ≡ shown_all xs ++ shown_all ys
all_append [] ys = refl
all_append (x ∷ xs) ys = ap (λ zs. shown_facts x ∷ zs) (all_append xs ys)

-- by their traits as by their rows
module _ (rows : List InputRow) (fates : List (Option Kept)) (traits : ℕ → Traits) (same : (s : ℕ) → traits s ≡ traits_of (section_rows s rows fates)) where
  pub facts_same : (sections : List Section) (headers : List (List Name)) (s : ℕ) (xs : List Name) → facts_with sections headers traits s xs ≡ facts_from sections headers rows fates s xs
  facts_same sections headers s [] = refl
  facts_same sections headers s (x ∷ xs) = rw (same s, facts_same sections headers (s + 1) xs) refl
