-- What a rule consists of.
use Rattle.std.specs.Prelude.{Bool, List, Option}
use Rattle.wild_glob.specs.declared.piece.Piece.{Piece}
use Rattle.wild_rules.specs.declared.matcher.SectionNameMatcher.{SectionNameMatcher}
use Rattle.wild_rules.specs.declared.outcome.SectionRuleOutcome.{SectionRuleOutcome}

-- it sends sections of these names, in files of names that the pattern matches or in all files, to the outcome
pub record Rule : Type 0 where
  pub matcher : SectionNameMatcher
  pub file : Option (List Piece)
  pub outcome : SectionRuleOutcome
  pub from_script : Bool
