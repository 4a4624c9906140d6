-- What is said of each section, and what is listed of it, by its number.
use Rattle.std.proofs.Common.{◌≡◌, ◌∙◌, ℕ, ◌<◌, List, [], length, get_or, Option, Some, None, refl, ap, sym}
use Rattle.std.specs.Prelude.{slice_get}
use Rattle.std.specs.Option.{option_map, unwrap_or}
use Rattle.std.proofs.lemmas.Option.{slice_get-get_or}
use Rattle.wild_value_spec.specs.Known.{Known}
use Rattle.wild_plan_spec.specs.declared.chunk.Kept.{Kept}
use Rattle.wild_plan_spec.specs.Case.{Case}
use Rattle.wild_plan_spec.specs.Chunks.{section_rows}
use Rattle.wild_plan_spec.specs.Facts.{Facts, section_facts, facts_from, facts_of, facts_at, headers_at}
use Rattle.wild_plan_spec.specs.Fates.{fates_of, section_names}
use Rattle.wild_plan_spec.specs.Headers.{section_headers}
use Rattle.wild_plan_spec.specs.Layout.{placed_section, placed_sections}
use Rattle.wild_plan_spec.specs.Names.{Name}
use Rattle.wild_plan_spec.specs.Statements.{sections_of}
use Rattle.wild_walk_laws.proofs.Numbered.{each_at}

is_by : (o : Option Facts) (f : Facts) → o ≡ Some f → unwrap_or o (section_facts [] None [] []) ≡ f
is_by o f e = rw e refl

module _ (c : Case) where
  abbrev pub fates : List (Option Kept)
  fates = fates_of c.commands c.inputs

  abbrev pub names : List Name
  names = section_names c.commands c.inputs

  abbrev pub facts : List Facts
  facts = facts_of c.commands c.inputs

  -- what is said of the section of a name
  abbrev pub facts_named : ℕ → Name → Facts
  facts_named s x = section_facts x (slice_get (sections_of c.commands) s) (headers_at (section_headers c.commands) s) (section_rows s c.inputs.rows fates)

  pub facts_are : (s : ℕ) → slice_get facts s ≡ option_map (facts_named s) (slice_get names s)
  facts_are s = each_at facts_named (λ n xs. facts_from (sections_of c.commands) (section_headers c.commands) c.inputs.rows fates n xs) (λ n. refl) (λ n x xs. refl) names s

  pub facts_is : (s : ℕ) (f : Facts) → slice_get facts s ≡ Some f → facts_at facts s ≡ f
  facts_is s f there = is_by (slice_get facts s) f there

  -- something is said of each section
  pub facts_there : (s : ℕ) → s < length names → slice_get facts s ≡ Some (facts_at facts s)
  facts_there s low =
      let there = facts_are s ∙ ap (option_map (facts_named s)) (slice_get-get_or names s [] low) in
      there ∙ ap Some (sym (facts_is s (facts_named s (get_or names s [])) there))

  pub sections_are : (known : Known) (s : ℕ) → slice_get (placed_sections known 0 facts) s ≡ option_map (placed_section known s) (slice_get facts s)
  sections_are known s = each_at (λ n f. placed_section known n f) (λ n fs. placed_sections known n fs) (λ n. refl) (λ n f fs. refl) facts s

  -- each section is listed
  pub section_there : (known : Known) (s : ℕ) → s < length names → slice_get (placed_sections known 0 facts) s ≡ Some (placed_section known s (facts_at facts s))
  section_there known s low = sections_are known s ∙ ap (option_map (placed_section known s)) (facts_there s low)
