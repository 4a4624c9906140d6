-- What holds of what a plan lists.
use Rattle.std.specs.Prelude.{◌≡◌, ◌⊎◌, ℕ, ◌+◌, ◌%◌, ◌^◌, ◌<◌, ◌≤◌, true, false, List, Some, slice_get}
use Rattle.wild_script_tree.specs.declared.tree.Command.{Command}
use Rattle.wild_value_spec.specs.declared.region.Region.{Region}
use Rattle.wild_plan_spec.specs.declared.placed.PlacedInput.TheVariants.{Placed}
use Rattle.wild_plan_spec.specs.declared.placed.PlacedSection.{PlacedSection}
use Rattle.wild_plan_spec.specs.declared.row.InputRow.{InputRow}
use Rattle.wild_plan_spec.specs.declared.row.InputTable.{InputTable}
use Rattle.wild_plan_spec.specs.declared.row.SymbolRow.{SymbolRow}
use Rattle.wild_plan_spec.specs.Case.{Case}
use Rattle.wild_plan_spec.specs.Chunks.{alignment_of}
use Rattle.wild_plan_spec.specs.Facts.{Facts}
use Rattle.wild_plan_spec.specs.Layout.{Layout}
use Rattle.wild_plan_spec.specs.Names.{Name}
use Rattle.wild_plan_spec.specs.Orphans.{places_of}
use Rattle.wild_plan_laws.specs.Holding.{AreWordsIn, IsInside, IsRegionNamed, StandsBy}

-- a section s of which this is said is listed with its alignment, starts and is loaded as it says, and ends below 2 ^ 64
-- where its start and the locations in it are below that
pub record SectionStands (c : Case) (plan : Layout) (s : ℕ) (f : Facts) (place : PlacedSection) : Type 0 where
  pub alignment : place.alignment ≡ f.alignment
  pub begins : StandsBy f place.start place.load
  pub below : place.start < 2 ^ 64 → AreWordsIn (places_of c.commands c.inputs) plan.locations s → place.start + place.size < 2 ^ 64

-- a script has a region of this name, and a section that is listed so lies in it
pub record StandsInRegion (t : List Command) (name : Name) (place : PlacedSection) : Type 0 where
  pub region : Region
  pub named : IsRegionNamed t name region
  pub inside : IsInside region place.start (place.start + place.size)

-- section s is listed, and counted
pub record IsListedCounted (plan : Layout) (s : ℕ) : Type 0 where
  pub place : PlacedSection
  pub there : slice_get plan.sections s ≡ Some place
  pub counted : place.counted ≡ true

-- one section, or two that are counted
abbrev pub AreOneOrListedCounted : Layout → ℕ → ℕ → Type 0
AreOneOrListedCounted plan s u = (s ≡ u) ⊎ (IsListedCounted plan s × IsListedCounted plan u)

-- what starts at one address and has this size covers the address x
abbrev pub Covers : ℕ → ℕ → ℕ → Type 0
Covers start size x = (start ≤ x) × (x < start + size)

-- row r of the table is listed at an address of section s
pub record Lists (inputs : InputTable) (plan : Layout) (r s address : ℕ) (row : InputRow) : Type 0 where
  pub there : slice_get inputs.rows r ≡ Some row
  pub chunk : ℕ
  pub listed : slice_get plan.placements r ≡ Some (Placed s chunk address)

-- the address is a multiple of the row's alignment, and the row lies in section s, which is listed
pub record RowStands (plan : Layout) (s address : ℕ) (row : InputRow) : Type 0 where
  pub aligned : address % 2 ^ alignment_of row ≡ 0
  pub place : PlacedSection
  pub there : slice_get plan.sections s ≡ Some place
  pub from : place.start ≤ address
  pub to : address + row.size ≤ place.start + place.size

-- the symbol of the table is listed, where its row is listed at this address of section s
pub record SymbolStands (plan : Layout) (s address : ℕ) (symbol : SymbolRow) : Type 0 where
  pub index : ℕ
  pub there : slice_get plan.symbols index ≡ Some (record { name = symbol.name; address = address + symbol.offset; «section» = Some s; hidden = false })
