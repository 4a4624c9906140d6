-- Rules whose ids are the numbers of chunks decide what the rules of a script do.
use Rattle.std.proofs.Common.{◌≡◌, ◌∙◌, ℕ, Bool, true, false, List, [], ◌∷◌, ◌++◌, length, cond, refl, sym, ap, Option, Some, None, Result, Ok, Err}
use Rattle.std.proofs.lemmas.List.{append_assoc, map-append}
use Rattle.std.specs.Prelude.{slice_get}
use Rattle.std.specs.List.{find}
use Rattle.wild_glob.specs.declared.piece.Piece.{Piece}
use Rattle.wild_rules.specs.declared.fault.RuleFault.{RuleFault}
use Rattle.wild_rules.specs.declared.matcher.SectionNameMatcher.{SectionNameMatcher}
use Rattle.wild_rules.specs.Lookup as lookup
use Rattle.wild_rules.specs.Making as making
use Rattle.wild_rules.specs.Rule as rules
use Rattle.wild_rules.specs.Taking.{takes}
use Rattle.wild_script_tree.specs.declared.tree.SectionPattern.{SectionPattern}
use Rattle.wild_plan_spec.specs.declared.chunk.Chunk.{Chunk}
use Rattle.wild_plan_spec.specs.declared.chunk.Decision.{Decision}
use Rattle.wild_plan_spec.specs.declared.chunk.Decision.TheVariants.{ByName}
use Rattle.wild_plan_spec.specs.declared.row.InputRow.{InputRow}
use Rattle.wild_plan_spec.specs.Fates.{name_decision, rule_decision}
use Rattle.wild_plan_spec.specs.Names.{Name}
use Rattle.wild_plan_spec.specs.Places.{Place, Collect}
use Rattle.wild_plan_spec.specs.Rules.{Rule, rule_of, pattern_decision, pattern_rules, place_rules, rules_in, takes_row}
use Rattle.wild_fates.specs.Numbered.{outcome_decision, plan_rule, plan_rules, outcome_for, rule_list, numbered_patterns, numbered_place, numbered_rules, chunks_at, chunks_in}

-- ---- the rule that decides

abbrev decided_by : List Chunk → Option rules.Rule → Decision
decided_by chunks None = ByName
decided_by chunks (Some rule) = outcome_decision chunks rule.outcome

module _ (chunks : List Chunk) (row : InputRow) where
  first_by : (b : Bool) (r : rules.Rule) (found : Option Rule) (other : Option rules.Rule) → rule_decision found ≡ decided_by chunks other → rule_decision (cond b (Some (plan_rule chunks r)) found) ≡ decided_by chunks (cond b (Some r) other)
  first_by true r found other e = refl
  first_by false r found other e = e

  first_plan_rule : (rs : List rules.Rule) → rule_decision (find (takes_row row) (plan_rules chunks rs)) ≡ decided_by chunks (find (takes row.«section» (Some row.file)) rs)
  first_plan_rule [] = refl
  first_plan_rule (r ∷ rs) = first_by (takes row.«section» (Some row.file) r) r _ _ (first_plan_rule rs)

  named : (rs : List rules.Rule) (name : Name) → row.«section» ≡ name → (name ≡ [] → ⊥) → name_decision name (plan_rules chunks rs) row ≡ decided_by chunks (lookup.first_rule rs name (Some row.file))
  named rs [] e h = absurd (h refl)
  named rs (b ∷ bs) e h = first_plan_rule rs ∙ ap (λ (n : Name). decided_by chunks (find (takes n (Some row.file)) rs)) e

  pub some_decides : (rs : List rules.Rule) (rule : rules.Rule) → (row.«section» ≡ [] → ⊥) → Some rule ≡ lookup.first_rule rs row.«section» (Some row.file) → outcome_decision chunks rule.outcome ≡ name_decision row.«section» (plan_rules chunks rs) row
  some_decides rs rule h found = ap (decided_by chunks) found ∙ sym (named rs row.«section» refl h)

  pub none_decides : (rs : List rules.Rule) → (row.«section» ≡ [] → ⊥) → None ≡ lookup.first_rule rs row.«section» (Some row.file) → ByName ≡ name_decision row.«section» (plan_rules chunks rs) row
  none_decides rs h found = ap (decided_by chunks) found ∙ sym (named rs row.«section» refl h)

-- ---- the rules of a script

module _ (chunks : List Chunk) (k : Option ℕ) (q : Option Chunk) (must_keep : Bool) (same : (p : SectionPattern) → outcome_decision chunks (outcome_for k must_keep p) ≡ pattern_decision q p) where
  one_plan_rule : (files : Result (Option (List Piece)) RuleFault) (names : Result SectionNameMatcher RuleFault) (p : SectionPattern)
      → plan_rules chunks (rule_list (making.rule_of files names (outcome_for k must_keep p))) ≡ rule_of files names (pattern_decision q p)
  one_plan_rule (Err f) names p = refl
  one_plan_rule (Ok files) (Err f) p = refl
  one_plan_rule (Ok files) (Ok names) p = ap (λ (d : Decision). record { names = names; files = files; decision = d } ∷ []) (same p)

  patterns_plan_rules : (file : Option Name) (ps : List SectionPattern) → plan_rules chunks (numbered_patterns k must_keep file ps) ≡ pattern_rules q file ps
  patterns_plan_rules file [] = refl
  patterns_plan_rules file (p ∷ ps) =
      map-append (plan_rule chunks) _ (numbered_patterns k must_keep file ps)
      ∙ ap (λ (zs : List Rule). zs ++ plan_rules chunks (numbered_patterns k must_keep file ps)) (one_plan_rule (making.files_of file) (making.names_of p.name) p)
      ∙ ap (λ (zs : List Rule). rule_of (making.files_of file) (making.names_of p.name) (pattern_decision q p) ++ zs) (patterns_plan_rules file ps)

-- the chunk after others
chunk_there : (before : List Chunk) (q : Chunk) (after : List Chunk) → slice_get ((before ++ q ∷ []) ++ after) (length before) ≡ Some q
chunk_there [] q after = refl
chunk_there (c ∷ before) q after = chunk_there before q after

place_plan_rules : (before : List Chunk) (p : Place) (after : List Chunk) → plan_rules ((before ++ chunks_at p) ++ after) (numbered_place before p) ≡ place_rules p
place_plan_rules before (Collect None m) after = patterns_plan_rules _ None None m.must_keep (λ p. refl) m.input_file_pattern m.input_section_name_patterns
place_plan_rules before (Collect (Some q) m) after = patterns_plan_rules _ (Some (length before)) (Some q) m.must_keep (λ p. rw (chunk_there before q after) refl) m.input_file_pattern m.input_section_name_patterns
place_plan_rules before p after = refl

rules_from : (before : List Chunk) (ps : List Place) → plan_rules (before ++ chunks_in ps) (numbered_rules before ps) ≡ rules_in ps
rules_from before [] = refl
rules_from before (p ∷ ps) =
    ap (λ (cs : List Chunk). plan_rules cs (numbered_rules before (p ∷ ps))) (sym (append_assoc before (chunks_at p) (chunks_in ps)))
    ∙ map-append (plan_rule _) (numbered_place before p) (numbered_rules (before ++ chunks_at p) ps)
    ∙ rw (place_plan_rules before p (chunks_in ps), rules_from (before ++ chunks_at p) ps) refl

-- the rules of places
pub rules_are : (ps : List Place) → plan_rules (chunks_in ps) (numbered_rules [] ps) ≡ rules_in ps
rules_are ps = rules_from [] ps
