-- What is decided of rows one after another, and the names of sections that this makes.
use Rattle.std.specs.Prelude.{List, [], ◌∷◌, ◌++◌, map, Option, if◌then◌else◌}
use Rattle.std.specs.List.{list_any}
use Rattle.wild_numbering.specs.Numbering.{is_named}
use Rattle.wild_plan_spec.specs.declared.chunk.Kept.{Kept}
use Rattle.wild_plan_spec.specs.declared.chunk.Decision.{Decision}
use Rattle.wild_plan_spec.specs.declared.chunk.Decision.TheVariants.{Discard, Keep, ByName}
use Rattle.wild_plan_spec.specs.declared.row.InputRow.{InputRow}
use Rattle.wild_plan_spec.specs.Fates.{decision, fate_by}
use Rattle.wild_plan_spec.specs.Names.{Name}
use Rattle.wild_plan_spec.specs.Rules.{Rule}

-- with one more name, unless it is there
abbrev pub with_name : List Name → Name → List Name
with_name names x = if list_any (is_named x) names then names else names ++ x ∷ []

-- with the name of a row that goes by it
abbrev pub with_decision : List Name → Name → Decision → List Name
with_decision names x ByName = with_name names x
with_decision names x Discard = names
with_decision names x (Keep k) = names

-- with those of the rows
abbrev pub with_rows : List Rule → List Name → List InputRow → List Name
with_rows rules names [] = names
with_rows rules names (row ∷ rows) = with_rows rules (with_decision names row.«section» (decision rules row)) rows

-- what is decided of each row
abbrev pub decisions : List Rule → List InputRow → List Decision
decisions rules rows = map (decision rules) rows

-- the fates of rows of which this is decided
abbrev pub fates_by : List Name → List InputRow → List Decision → List (Option Kept)
fates_by names [] ds = []
fates_by names (row ∷ rows) [] = []
fates_by names (row ∷ rows) (d ∷ ds) = fate_by names row.«section» d ∷ fates_by names rows ds
