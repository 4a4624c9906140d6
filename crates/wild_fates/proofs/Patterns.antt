-- Patterns that make a rule pass their checks, and those that make none fail one.
use Rattle.std.proofs.Common.{◌≡◌, ◌⊎◌, ◌∙◌, ℕ, Bool, true, false, List, ◌++◌, cond, refl, sym, ap, inl, inr, Option, Some, None, Result, Ok, Err}
use Rattle.std.specs.Result.{is_ok}
use Rattle.wild_names.specs.declared.fault.Fault.{Fault}
use Rattle.wild_names.specs.declared.fault.Fault.TheVariants as fault
use Rattle.wild_glob.specs.declared.piece.Piece.{Piece}
use Rattle.wild_glob.specs.declared.escape.GlobPatternType.{GlobPatternType}
use Rattle.wild_glob.specs.declared.escape.GlobPatternType.TheVariants as kind
use Rattle.wild_glob.specs.declared.fault.PatternFault.{PatternFault}
use Rattle.wild_glob.specs.Compiled.{compiled}
use Rattle.wild_glob.specs.Escape.{pattern_type}
use Rattle.wild_rules.specs.declared.fault.RuleFault.{RuleFault}
use Rattle.wild_rules.specs.declared.fault.RuleFault.TheVariants.{BadFile, BadSection, NoMemory}
use Rattle.wild_rules.specs.declared.matcher.SectionNameMatcher.{SectionNameMatcher}
use Rattle.wild_rules.specs.declared.outcome.SectionRuleOutcome.{SectionRuleOutcome}
use Rattle.wild_rules.specs.Making.{pattern_of_names, names_by_kind, names_of, pattern_of_files, files_of, rule_of, script_rule}
use Rattle.wild_rules.specs.Rule as rules
use Rattle.wild_script_tree.specs.declared.tree.SectionPattern.{SectionPattern}
use Rattle.wild_plan_spec.specs.Checks.{check, pattern_check, failing}
use Rattle.wild_plan_spec.specs.Names.{Name}
use Rattle.wild_fates.specs.Passes.{Passes}
use Rattle.wild_fates.specs.Refused.{bad_name}

abbrev Files : Type 0
Files = Result (Option (List Piece)) RuleFault

abbrev Names : Type 0
Names = Result SectionNameMatcher RuleFault

abbrev failed : RuleFault → Result rules.Rule RuleFault
failed e = Err e

-- ---- which fault is whose

compiled_fault : (r : Result (List Piece) PatternFault) (e : RuleFault) → pattern_of_names r ≡ Err e → e ≡ BadSection
compiled_fault (Ok ps) e h = cc
compiled_fault (Err f) e h = cc

exact_by : (b : Bool) (m : SectionNameMatcher) (e : RuleFault) → cond b (Err BadSection) (Ok m) ≡ Err e → e ≡ BadSection
exact_by true m e h = cc
exact_by false m e h = cc

names_fault_by : (k : GlobPatternType) (x : Name) (e : RuleFault) → names_by_kind k x ≡ Err e → e ≡ BadSection
names_fault_by kind.Star x e h = compiled_fault (compiled x) e h
names_fault_by kind.NonStar x e h = compiled_fault (compiled x) e h
names_fault_by kind.EscapedExact x e h = exact_by _ _ e h
names_fault_by kind.Exact x e h = exact_by _ _ e h

names_fault : (x : Name) (e : RuleFault) → names_of x ≡ Err e → e ≡ BadSection
names_fault x e h = names_fault_by (pattern_type x) x e h

files_fault : (r : Result (List Piece) PatternFault) (e : RuleFault) → pattern_of_files r ≡ Err e → e ≡ BadFile
files_fault (Ok ps) e h = cc
files_fault (Err f) e h = cc

-- ---- the checks of one pattern

module _ (n : ℕ) (p : SectionPattern) (o : SectionRuleOutcome) where
  -- the fault where this is what the two patterns make
  abbrev refused : Option Name → Result rules.Rule RuleFault → Option Fault
  refused file (Ok rule) = None
  refused file (Err e) = Some (fault.BadPattern n (bad_name file p.name e))

  alone : (names : Names) → failing (check (is_ok names) (fault.BadPattern n p.name)) ≡ refused None (rule_of (Ok None) names o)
  alone (Ok m) = refl
  alone (Err e) = refl

  both : (x : Name) (files : Files) (names : Names) → ((e : RuleFault) → files ≡ Err e → e ≡ BadFile) → ((e : RuleFault) → names ≡ Err e → e ≡ BadSection)
      → failing (check (is_ok files) (fault.BadPattern n x) ++ check (is_ok names) (fault.BadPattern n p.name)) ≡ refused (Some x) (rule_of files names o)
  both x (Ok fs) (Ok m) a b = refl
  both x (Ok fs) (Err e) a b = rw (b e refl) refl
  both x (Err e) names a b = rw (a e refl) refl

  pattern_fault : (file : Option Name) → failing (pattern_check n file p) ≡ refused file (script_rule p.name file o)
  pattern_fault None = alone (names_of p.name)
  pattern_fault (Some x) = both x (files_of (Some x)) (names_of p.name) (files_fault (compiled x)) (names_fault p.name)

  module _ {A X : Type 0} (file : Option Name) where
    pub passes_made : (x : X) (rule : rules.Rule) → (Ok rule ≡ script_rule p.name file o) ⊎ (A × (Ok rule ≡ Err NoMemory)) → Passes (failing (pattern_check n file p)) (Ok x)
    passes_made x rule (inl h) = record { ok = pattern_fault file ∙ ap (refused file) (sym h); err = tt }
    passes_made x rule (inr h) = let never = h.1 in cc

    pub refuses_bad : (e : RuleFault) (f : Fault) → (failed e ≡ script_rule p.name file o) ⊎ (A × (failed e ≡ failed NoMemory)) → (f ≡ fault.NoMemory) ⊎ (f ≡ fault.BadPattern n (bad_name file p.name e)) → (e ≡ NoMemory → f ≡ fault.NoMemory)
        → Passes {X = X} (failing (pattern_check n file p)) (Err f)
    refuses_bad e f h (inl none) g = record { ok = tt; err = inl none }
    refuses_bad e f (inl h) (inr bad) g = record { ok = tt; err = inr (pattern_fault file ∙ ap (refused file) (sym h) ∙ ap Some (sym bad)) }
    refuses_bad e f (inr h) (inr bad) g = record { ok = tt; err = inl (g (let same = h.1 in cc)) }
