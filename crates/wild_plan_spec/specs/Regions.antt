-- The memory regions of a script: those of its last MEMORY.
use Rattle.std.specs.Prelude.{ℕ, ◌+◌, List, [], ◌∷◌, ◌++◌, Option, Some, None, map}
use Rattle.wild_numbering.specs.Numbering.{number_of}
use Rattle.wild_script_tree.specs.declared.tree.Command.{Command}
use Rattle.wild_script_tree.specs.declared.tree.MemoryRegion.{MemoryRegion}
use Rattle.wild_value_spec.specs.declared.region.Region.{Region}
use Rattle.wild_value_spec.specs.Const.{const, number_in}
use Rattle.wild_plan_spec.specs.Names.{Name}
use Rattle.wild_plan_spec.specs.Places.{Place, Memory, script_places}

-- the regions of a MEMORY, and its place
pub record MemoryAt : Type 0 where
  pub place : ℕ
  pub regions : List MemoryRegion

-- the MEMORY that stands at place i, if one does
abbrev pub memory_at : ℕ → Place → List MemoryAt
memory_at i (Memory regions) = record { place = i; regions = regions } ∷ []
memory_at i p = []

-- each MEMORY of these places, of which the first has the number i
abbrev pub memories : ℕ → List Place → List MemoryAt
memories i [] = []
memories i (p ∷ ps) = memory_at i p ++ memories (i + 1) ps

-- the last of a list, or else this
abbrev pub last_or : {X : Type 0} → X → List X → X
last_or x [] = x
last_or x (y ∷ ys) = last_or y ys

-- no regions
abbrev pub no_memory : MemoryAt
no_memory = record { place = 0; regions = [] }

-- the last MEMORY, or no regions
abbrev pub memory_of : List Command → MemoryAt
memory_of t = last_or no_memory (memories 0 (script_places t))

-- where a region stands; what has no number is refused before
abbrev pub region_of : MemoryRegion → Region
region_of r = record { origin = number_in (const r.origin); length = number_in (const r.length) }

-- where the regions of a script stand, by their numbers
abbrev pub regions_of : List Command → List Region
regions_of t = map region_of (memory_of t).regions

-- the names of regions
abbrev pub names_in : List MemoryRegion → List Name
names_in regions = map (λ r. r.name) regions

-- the names of the regions of a script
abbrev pub region_names : List Command → List Name
region_names t = names_in (memory_of t).regions

-- the number of the region that is named, if one is
abbrev pub region_number : List Name → Option Name → Option ℕ
region_number names None = None
region_number names (Some x) = number_of x names
