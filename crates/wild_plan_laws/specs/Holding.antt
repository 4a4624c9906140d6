-- What holds of a finished layout.
use Rattle.std.specs.Prelude.{◌≡◌, ◌⊎◌, ℕ, ◌+◌, ◌%◌, ◌^◌, ◌<◌, ◌≤◌, true, false, List, Option, Some, None, length, slice_get}
use Rattle.wild_numbering.specs.Numbering.{number_of}
use Rattle.wild_expression_tree.specs.declared.tree.Expression.{Expression}
use Rattle.wild_script_tree.specs.declared.tree.Command.{Command}
use Rattle.wild_script_tree.specs.declared.tree.Section.{Section}
use Rattle.wild_value_spec.specs.declared.region.Region.{Region}
use Rattle.wild_value_spec.specs.Known.{Known, Start, Load, End, Address, Dot, LoadDot}
use Rattle.wild_value_spec.specs.Scope.{region_at}
use Rattle.wild_plan_spec.specs.declared.chunk.Kept.{Kept}
use Rattle.wild_plan_spec.specs.declared.placed.PlacedLocation.{PlacedLocation}
use Rattle.wild_plan_spec.specs.declared.row.InputRow.{InputRow}
use Rattle.wild_plan_spec.specs.Case.{Case}
use Rattle.wild_plan_spec.specs.Facts.{Facts, facts_at, facts_of}
use Rattle.wild_plan_spec.specs.Fates.{fates_of, section_names}
use Rattle.wild_plan_spec.specs.Names.{Name}
use Rattle.wild_plan_spec.specs.Orphans.{places_of}
use Rattle.wild_plan_spec.specs.Places.{Place, SetLocation, Open}
use Rattle.wild_plan_spec.specs.Regions.{region_names, regions_of}
use Rattle.wild_plan_spec.specs.Steps.{State}
use Rattle.wild_walk_laws.specs.Holding.{IsKnown}

-- ---- rows

-- the address x is one of row r
pub record RowHolds (rows : List InputRow) (known : Known) (r x : ℕ) : Type 0 where
  pub row : InputRow
  pub there : slice_get rows r ≡ Some row
  pub address : ℕ
  pub placed : known (Address r) ≡ Some address
  pub from : address ≤ x
  pub to : x < address + row.size

-- ---- sections

-- section s starts at the one address and ends at the other
pub record Spans (known : Known) (s start end : ℕ) : Type 0 where
  pub starts : known (Start s) ≡ Some start
  pub ends : known (End s) ≡ Some end

-- each location that is listed of the contents of section s is below 2 ^ 64
abbrev pub AreWordsIn : List Place → List PlacedLocation → ℕ → Type 0
AreWordsIn places locations s =
    (i : ℕ) (l : PlacedLocation) (e : Expression) → slice_get locations i ≡ Some l → slice_get places l.statement ≡ Some (SetLocation (Some s) e) → l.address < 2 ^ 64

-- a section of which this is said starts and is loaded at such addresses: without a start expression it starts at a multiple
-- of its alignment below 2 ^ 64, and at 0 if it floats; without an AT clause it is loaded where it starts
pub record StandsBy (f : Facts) (start load : ℕ) : Type 0 where
  pub aligned : f.start ≡ None → start % 2 ^ f.alignment ≡ 0
  pub small : f.start ≡ None → start < 2 ^ 64
  pub floats : f.start ≡ None → f.floating ≡ true → start ≡ 0
  pub loaded : f.load ≡ None → load ≡ start

-- section s, of which this is said, starts and is loaded as it says, ends no lower than it starts, and ends below 2 ^ 64
-- where its start and the locations in it are below that
pub record LaidSectionStands (places : List Place) (state : State) (s : ℕ) (f : Facts) : Type 0 where
  pub start : ℕ
  pub load : ℕ
  pub end : ℕ
  pub spans : Spans state.known s start end
  pub loads : state.known (Load s) ≡ Some load
  pub begins : StandsBy f start load
  pub forward : start ≤ end
  pub below : start < 2 ^ 64 → AreWordsIn places state.locations s → end < 2 ^ 64

-- section s is laid out among the others: it does not float
abbrev pub IsCounted : Case → ℕ → Type 0
IsCounted c s = (facts_at (facts_of c.commands c.inputs) s).floating ≡ false

-- one section, or two that are counted
abbrev pub AreOneOrCounted : Case → ℕ → ℕ → Type 0
AreOneOrCounted c s u = (s ≡ u) ⊎ (IsCounted c s × IsCounted c u)

-- the address x is one of section s
pub record SectionHolds (known : Known) (s x : ℕ) : Type 0 where
  pub start : ℕ
  pub end : ℕ
  pub spans : Spans known s start end
  pub from : start ≤ x
  pub to : x < end

-- what stands at an address and has this size lies in section s
pub record LiesIn (known : Known) (s address size : ℕ) : Type 0 where
  pub start : ℕ
  pub end : ℕ
  pub spans : Spans known s start end
  pub from : start ≤ address
  pub to : address + size ≤ end

-- ---- regions

-- the memory region of this name stands there: the one of its number, among those of the last MEMORY
abbrev pub IsRegionNamed : List Command → Name → Region → Type 0
IsRegionNamed t name r = region_at (regions_of t) (number_of name (region_names t)) ≡ Some r

-- what starts and ends at these addresses starts no lower than the origin of the region, and ends no higher than its end
abbrev pub IsInside : Region → ℕ → ℕ → Type 0
IsInside r start end = (r.origin ≤ start) × (end ≤ r.origin + r.length)

-- a script has a region of this name, and section s lies in it
pub record LiesInRegion (t : List Command) (known : Known) (s : ℕ) (name : Name) : Type 0 where
  pub region : Region
  pub named : IsRegionNamed t name region
  pub start : ℕ
  pub end : ℕ
  pub spans : Spans known s start end
  pub inside : IsInside region start end

-- ---- all

-- the numbers of each section, the address of each row that is kept, the location counter of each place, and for each place
-- that opens a section its start are known
pub record AllIsKnown (c : Case) (known : Known) : Type 0 where
  pub starts : (s : ℕ) → s < length (section_names c.commands c.inputs) → IsKnown known (Start s)
  pub loads : (s : ℕ) → s < length (section_names c.commands c.inputs) → IsKnown known (Load s)
  pub ends : (s : ℕ) → s < length (section_names c.commands c.inputs) → IsKnown known (End s)
  pub addresses : (r : ℕ) (k : Kept) → slice_get (fates_of c.commands c.inputs) r ≡ Some (Some k) → IsKnown known (Address r)
  pub dots : (i : ℕ) (p : Place) → slice_get (places_of c.commands c.inputs) i ≡ Some p → IsKnown known (Dot i)
  pub load_dots : (i s : ℕ) (x : Option Section) → slice_get (places_of c.commands c.inputs) i ≡ Some (Open s x) → IsKnown known (LoadDot i)
