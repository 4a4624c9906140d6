-- Lines of rows.
use Rattle.std.proofs.Common.{◌≡◌, ℕ, ◌⊎◌, List, [], ◌∷◌, length, refl, arith}
use Rattle.wild_plan_spec.specs.declared.placed.PlacedSection.{PlacedSection}
use Rattle.wild_plan_spec.specs.declared.placed.PlacedInput.{PlacedInput}
use Rattle.wild_plan_spec.specs.declared.placed.RowNames.{RowNames}
use Rattle.wild_plan_spec.specs.Text.{input_lines}

-- where one of the two lists ends, no line is left
pub no_lines : (sections : List PlacedSection) (n : ℕ) (ps : List PlacedInput) (xs : List RowNames) → (length ps ≡ 0) ⊎ (length xs ≡ 0) → input_lines sections n ps xs ≡ []
no_lines sections n [] xs e = refl
no_lines sections n (p ∷ ps) [] e = refl
no_lines sections n (p ∷ ps) (x ∷ xs) e = grind arith
