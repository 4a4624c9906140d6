-- A rule whose section pattern was not read.
use Rattle.std.proofs.Common.{◌≡◌, ◌≢◌, ℕ, List, [], ◌∷◌, Option, Some, None, Result, Ok, Err, refl, sym, ◌∙◌, ◌⊎◌, inl, inr, ap, ⊎_elim}
use Rattle.std.specs.Str.{is_utf8}
use Rattle.std.proofs.lemmas.Bool.{cases_Bool}
use Rattle.std.proofs.lemmas.Str.{IsUtf8-from_is_utf8}
use Rattle.wild_glob.specs.Compiled.{compiled, IsText}
use Rattle.wild_glob.specs.declared.piece.Piece.{Piece}
use Rattle.wild_glob.specs.declared.fault.PatternFault.{PatternFault}
use Rattle.wild_glob.specs.declared.fault.PatternFault.TheVariants.{NotUtf8}
use Rattle.wild_rules.specs.declared.fault.RuleFault.{RuleFault}
use Rattle.wild_rules.specs.declared.fault.RuleFault.TheVariants.{NoMemory}
use Rattle.wild_rules.specs.declared.matcher.SectionNameMatcher.{SectionNameMatcher}
use Rattle.wild_rules.specs.declared.outcome.SectionRuleOutcome.{SectionRuleOutcome}
use Rattle.wild_rules.specs.Rule.{Rule}
use Rattle.wild_rules.specs.Making.{names_of, files_of, pattern_of_files, rule_of, script_rule, IsSomeText, AsksMemory}

compiled_is_text : (bytes : List ℕ) (ps : List Piece) → compiled bytes ≡ Ok ps → IsText bytes
compiled_is_text [] ps e = cc
compiled_is_text (b ∷ bs) ps e =
    ⊎_elim (λ t. (λ h. cc, IsUtf8-from_is_utf8 (b ∷ bs) t)) (λ f. let h : Err NotUtf8 ≡ Ok ps = rw f at e in cc)
    (cases_Bool (is_utf8 (b ∷ bs)))

file_is_text : (bytes : List ℕ) (r : Result (List Piece) PatternFault) (file : Option (List Piece)) → r ≡ compiled bytes → pattern_of_files r ≡ Ok file → IsText bytes
file_is_text bytes (Ok ps) file e h = compiled_is_text bytes ps (sym e)
file_is_text bytes (Err f) file e h = cc

asks : (pattern : List ℕ) (file_pattern : Option (List ℕ)) (file : Option (List Piece)) → files_of file_pattern ≡ Ok file → pattern ≢ [] → AsksMemory pattern file_pattern
asks pattern None file e n = n
asks pattern (Some bytes) file e n = file_is_text bytes (compiled bytes) file refl e

-- the answers to the patterns of a rule
abbrev pub Files : Option (List ℕ) → Result (Option (List Piece)) RuleFault → Type 0
Files file_pattern r = (r ≡ files_of file_pattern) ⊎ (IsSomeText file_pattern × (r ≡ Err NoMemory))

abbrev pub Names : List ℕ → Result SectionNameMatcher RuleFault → Type 0
Names pattern r = (r ≡ names_of pattern) ⊎ ((pattern ≢ []) × (r ≡ Err NoMemory))

abbrev pub Makes : List ℕ → Option (List ℕ) → SectionRuleOutcome → Result Rule RuleFault → Type 0
Makes pattern file_pattern outcome r = (r ≡ script_rule pattern file_pattern outcome) ⊎ (AsksMemory pattern file_pattern × (r ≡ Err NoMemory))

files_read : (file_pattern : Option (List ℕ)) (files : Result (Option (List Piece)) RuleFault) (file : Option (List Piece)) → files ≡ Ok file → Files file_pattern files → files_of file_pattern ≡ Ok file
files_read file_pattern files file e (inl h) = sym h ∙ e
files_read file_pattern files file e (inr h) = let m = h.1 in cc

-- where the files are known and the names are a fault, the rule is this fault
pub no_names : (pattern : List ℕ) (file_pattern : Option (List ℕ)) (outcome : SectionRuleOutcome) (files : Result (Option (List Piece)) RuleFault) (names : Result SectionNameMatcher RuleFault) (r : Result Rule RuleFault) (file : Option (List Piece)) (fault : RuleFault)
    → r ≡ Err fault → files ≡ Ok file → Files file_pattern files → names ≡ Err fault → Names pattern names → Makes pattern file_pattern outcome r
no_names pattern file_pattern outcome files names r file fault e f g n (inl h) =
    inl (e ∙ sym (ap (λ x. rule_of x (names_of pattern) outcome) (files_read file_pattern files file f g) ∙ ap (λ x. rule_of (Ok file) x outcome) (sym h ∙ n)))
no_names pattern file_pattern outcome files names r file fault e f g n (inr h) =
    let m = h.1 in let same : fault ≡ NoMemory = cc in
    inr (asks pattern file_pattern file (files_read file_pattern files file f g) h.0, e ∙ ap (λ x. Err x) same)
