-- When two names and two matchers are equal.
use mathlib.Core.Bool.{beq}
use Rattle.std.specs.Prelude.{ℕ, Bool, List, nat_eq}
use Rattle.std.specs.Option.{option_eq}
use Rattle.std.specs.Cmp.{IsEquivalence, on_equiv, and_equiv, bool_eq_equiv}
use Rattle.std.specs.Cmp.Lexicographic.{pointwise, lists_equiv, options_equiv, nat_list_eq_equiv}
use Rattle.std.specs.Ordering.{on, eq_of_both}
use Rattle.wild_script_tree.specs.contracts.tree.SectionPatternPartialEq.TheImpl as pattern
use Rattle.wild_script_tree.specs.contracts.tree.SectionPatternEq.TheImpl.Laws as pattern_laws
use Rattle.wild_script_tree.specs.declared.tree.Matcher.{Matcher}
use Rattle.wild_script_tree.specs.declared.tree.SectionPattern.{SectionPattern}

-- two names, by their bytes
abbrev pub same_name : List ℕ → List ℕ → Bool
same_name = pointwise nat_eq

-- two patterns of names of sections: what is derived, all fields in order
abbrev pub same_pattern : SectionPattern → SectionPattern → Bool
same_pattern = (pattern.ghosts).eq

-- two matchers: whether they keep, their files, and their patterns
abbrev pub same_matcher : Matcher → Matcher → Bool
same_matcher = eq_of_both (on (λ m. m.must_keep) beq) (eq_of_both (on (λ m. m.input_file_pattern) (option_eq same_name)) (on (λ m. m.input_section_name_patterns) (pointwise same_pattern)))

-- ---- these are equivalences

pub optional_name_equiv : IsEquivalence (option_eq same_name)
optional_name_equiv = options_equiv nat_list_eq_equiv

pub same_matcher_equiv : IsEquivalence same_matcher
same_matcher_equiv = and_equiv (on_equiv (λ (m : Matcher). m.must_keep) bool_eq_equiv) (and_equiv (on_equiv (λ (m : Matcher). m.input_file_pattern) optional_name_equiv) (on_equiv (λ (m : Matcher). m.input_section_name_patterns) (lists_equiv pattern_laws.laws-law)))
