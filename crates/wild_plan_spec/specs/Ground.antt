-- What all places are laid out by.
use Rattle.std.specs.Prelude.{ℕ, List}
use Rattle.wild_value_spec.specs.declared.region.Region.{Region}
use Rattle.wild_value_spec.specs.Scope.{Scope}
use Rattle.wild_plan_spec.specs.declared.chunk.Chunk.{Chunk}
use Rattle.wild_plan_spec.specs.declared.chunk.ChunkRow.{ChunkRow}
use Rattle.wild_plan_spec.specs.Case.{Case}
use Rattle.wild_plan_spec.specs.Facts.{Facts, facts_at, facts_of}
use Rattle.wild_plan_spec.specs.Names.{Name}
use Rattle.wild_plan_spec.specs.Regions.{region_names, regions_of}
use Rattle.wild_plan_spec.specs.Scopes.{scope_of}

-- what the script and its table say, beside what becomes known from place to place
pub record Ground : Type 0 where
  pub scope : Scope
  -- the rows of each chunk, in their order
  pub rows : Chunk → List ChunkRow
  -- what is said of the section of each number
  pub facts : ℕ → Facts
  -- the names of the memory regions, by their numbers
  pub region_names : List Name
  -- where they stand
  pub regions : List Region

-- of a case, where the rows of each chunk are in this order
abbrev pub ground_of : Case → (Chunk → List ChunkRow) → Ground
ground_of c order = record {
  scope = scope_of c;
  rows = order;
  facts = λ s. facts_at (facts_of c.commands c.inputs) s;
  region_names = region_names c.commands;
  regions = regions_of c.commands;
}
