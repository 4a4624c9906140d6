-- What a plan lists, as it is kept, and what it is.
use Rattle.std.specs.Prelude.{◌≡◌, List, ◌++◌, Option}
use Rattle.wild_script_tree.specs.declared.tree.Command.{Command}
use Rattle.wild_plan_spec.specs.declared.chunk.Kept.{Kept}
use Rattle.wild_plan_spec.specs.declared.placed.PlacedSymbol.{PlacedSymbol}
use Rattle.wild_plan_spec.specs.declared.row.InputTable.{InputTable}
use Rattle.wild_plan_spec.specs.Facts.{Facts}
use Rattle.wild_plan_spec.specs.Layout.{Layout, placed_sections, placed_inputs, row_names}
use Rattle.wild_plan_spec.specs.Steps.{State}
use Rattle.wild_plan.specs.Sums.{wrapped_symbols}
use Rattle.wild_plan.specs.declared.lists.Lists.{Lists}
use Rattle.wild_plan.specs.declared.segments.Segments.{Segments}

-- the plan of a script that has these lists
abbrev pub shown_lists : List Command → Lists → Layout
shown_lists cs l = record { commands = cs; sections = l.sections; placements = l.placements; locations = l.locations; segments = l.segments; by_headers = l.by_headers; symbols = l.symbols; names = l.names }

-- the lists of a table whose rows have these fates and whose sections these facts, where this stands after the last place, and
-- these are the segments, and the symbols of the script
pub record AreLists (known : Segments) (inputs : InputTable) (fates : List (Option Kept)) (facts : List Facts) (state : State) (found : List PlacedSymbol) (lists : Lists) : Type 0 where
  pub sections : lists.sections ≡ placed_sections state.known 0 facts
  pub placements : lists.placements ≡ placed_inputs state.known 0 fates
  pub locations : lists.locations ≡ state.locations
  pub segments : lists.segments ≡ known.list
  pub by_headers : lists.by_headers ≡ known.by_headers
  pub symbols : lists.symbols ≡ wrapped_symbols state.known fates inputs.symbols ++ found
  pub names : lists.names ≡ row_names inputs.rows
