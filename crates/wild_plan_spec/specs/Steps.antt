-- What each place of a script does to what stands before it.
use Rattle.std.specs.Prelude.{ℕ, ◌+◌, ◌^◌, nat_lt, Bool, true, false, not, ◌&&◌, ◌||◌, if◌then◌else◌, List, [], ◌∷◌, ◌++◌, map, slice_get, slice_set, Option, Some, None, Result, Ok, Err}
use Rattle.std.specs.Option.{unwrap_or}
use Rattle.wild_ids.specs.Alignment.{rounded_up}
use Rattle.wild_names.specs.declared.fault.Fault.{Fault}
use Rattle.wild_names.specs.declared.fault.Fault.TheVariants.{AlignOverflow, MovesBack, Overlap, RegionFull}
use Rattle.wild_expression_tree.specs.declared.tree.Expression.{Expression}
use Rattle.wild_value_spec.specs.declared.region.Region.{Region}
use Rattle.wild_value_spec.specs.Answer.{◌>>=◌}
use Rattle.wild_value_spec.specs.Known.{Known, Start, Load, End, Address, Dot, LoadDot, nothing, number_at, with_number}
use Rattle.wild_value_spec.specs.Scope.{region_at}
use Rattle.wild_value_spec.specs.Value.{sum_of, full_value}
use Rattle.wild_plan_spec.specs.declared.chunk.Chunk.{Chunk}
use Rattle.wild_plan_spec.specs.declared.chunk.ChunkRow.{ChunkRow}
use Rattle.wild_plan_spec.specs.declared.place.Where.TheVariants.{Inside}
use Rattle.wild_plan_spec.specs.declared.placed.PlacedLocation.{PlacedLocation}
use Rattle.wild_plan_spec.specs.Chunks.{largest}
use Rattle.wild_plan_spec.specs.Facts.{Facts}
use Rattle.wild_plan_spec.specs.Ground.{Ground}
use Rattle.wild_plan_spec.specs.Names.{or_empty}
use Rattle.wild_plan_spec.specs.Overlaps.{lowest_sharing}
use Rattle.wild_plan_spec.specs.Places.{Place, SetLocation, Wait, Open, Collect, Rows, Close, Discard, Idle, Memory, Headers, Format}
use Rattle.wild_plan_spec.specs.Points.{location_point, start_point, load_point}
use Rattle.wild_plan_spec.specs.Regions.{region_number}

-- what stands before a place
pub record State : Type 0 where
  -- where the next section goes that is in no region
  pub counter : ℕ
  -- where the next section of each region goes, by the numbers of the regions
  pub regions : List ℕ
  -- where the next row of the open section goes
  pub cursor : ℕ
  pub known : Known
  -- what the statements so far made of the location counter
  pub locations : List PlacedLocation

-- the next multiple of 2 ^ exponent from x on
unfoldable pub up : ℕ → ℕ → Result ℕ Fault
up x exponent = if nat_lt (rounded_up (2 ^ exponent) x) (2 ^ 64) then Ok (rounded_up (2 ^ exponent) x) else Err (AlignOverflow x (2 ^ exponent))

-- ---- rows

-- a row stands at the cursor, and takes its size rounded up to its alignment
unfoldable pub row_placed : ChunkRow → State → Result State Fault
row_placed r st =
    up r.size r.alignment.0 >>= (λ size.
    sum_of st.cursor size >>= (λ next.
    Ok (record st { cursor = next; known = with_number (Address r.row) st.cursor st.known })))

-- one row after another
abbrev pub rows_placed : List ChunkRow → State → Result State Fault
rows_placed [] st = Ok st
rows_placed (r ∷ rs) st = row_placed r st >>= (λ next. rows_placed rs next)

-- the rows of a chunk stand one after the other, from the next multiple of the largest alignment on
unfoldable pub chunk_placed : List ChunkRow → State → Result State Fault
chunk_placed rows st =
    up st.cursor (largest rows) >>= (λ n.
    rows_placed rows (record st { cursor = n }))

-- ---- regions

-- where the next section of this region goes, or of none
abbrev pub counter_in : Option ℕ → State → ℕ
counter_in None st = st.counter
counter_in (Some r) st = unwrap_or (slice_get st.regions r) 0

-- the counter of this region, if it is one, becomes n
abbrev pub with_counter : Option ℕ → ℕ → List ℕ → List ℕ
with_counter None n counters = counters
with_counter (Some r) n counters = slice_set counters r n

-- what goes from start up to end begins before the region, or ends behind it; in none it does not
abbrev pub leaves : Option Region → ℕ → ℕ → Bool
leaves None start end = false
leaves (Some r) start end = nat_lt start r.origin || nat_lt (r.origin + r.length) end

-- ---- sections

-- section s, which place i opens, starts at n, which its load address may ask for
unfoldable pub section_started : ℕ → ℕ → ℕ → State → State
section_started i s n st = record st { known = with_number (LoadDot i) n (with_number (Start s) n st.known) }

-- it starts at n, so that its first row goes there, and is loaded at m
unfoldable pub section_loaded : ℕ → ℕ → ℕ → State → State
section_loaded s n m st = record st { cursor = n; known = with_number (Load s) m st.known }

-- the cursor becomes n at place i; it must not go back
abbrev pub cursor_moved : ℕ → ℕ → State → Result State Fault
cursor_moved i n st =
    if nat_lt n st.cursor then Err (MovesBack i st.cursor n)
    else Ok (record st { cursor = n; locations = st.locations ++ record { statement = i; address = n } ∷ [] })

-- ---- places

-- `.` of a place: in the contents of a section its cursor, else the location counter
abbrev pub dot_before : Place → State → ℕ
dot_before (SetLocation (Some s) e) st = st.cursor
dot_before (Wait (Inside s) task) st = st.cursor
dot_before (Collect (Some q) m) st = st.cursor
dot_before (Rows q) st = st.cursor
dot_before (Close s rest) st = st.cursor
dot_before p st = st.counter

-- it becomes known before the place has its effect
unfoldable pub dot_noted : ℕ → Place → State → State
dot_noted i p st = record st { known = with_number (Dot i) (dot_before p st) st.known }

module _ (ground : Ground) where
  -- before the first place: each region goes on from its origin
  abbrev pub first_state : State
  first_state = record { counter = 0; regions = map (λ r. r.origin) ground.regions; cursor = 0; known = nothing; locations = [] }

  -- the region of the section of this number
  abbrev pub region_in : ℕ → Option ℕ
  region_in s = region_number ground.region_names (ground.facts s).region

  -- ---- a section begins

  -- it starts where its start expression says, else at 0 where it floats, and else at the next multiple of its alignment, in
  -- its region
  abbrev pub start_by : ℕ → Facts → Option Expression → State → Result ℕ Fault
  start_by i f (Some e) st = full_value ground.scope i st.known [] e (start_point i)
  start_by i f None st = if f.floating then Ok 0 else up (counter_in (region_number ground.region_names f.region) st) f.alignment

  -- where the section that place i opens starts
  unfoldable pub start_found : ℕ → Facts → State → Result ℕ Fault
  start_found i f st = start_by i f f.start st

  -- it is loaded where its AT clause says, and else where it starts
  abbrev pub load_by : ℕ → Option Expression → ℕ → State → Result ℕ Fault
  load_by i (Some e) n st = full_value ground.scope i st.known [] e (load_point i)
  load_by i None n st = Ok n

  -- where the section that place i opens is loaded, which starts at n
  unfoldable pub load_found : ℕ → Facts → ℕ → State → Result ℕ Fault
  load_found i f n st = load_by i f.load n st

  -- a section, which starts at n, is loaded
  unfoldable pub section_begun : ℕ → ℕ → ℕ → State → Result State Fault
  section_begun i s n st = load_found i (ground.facts s) n st >>= (λ m. Ok (section_loaded s n m st))

  -- a section begins: its start is found, and then its load address
  unfoldable pub section_opened : ℕ → ℕ → State → Result State Fault
  section_opened i s st = start_found i (ground.facts s) st >>= (λ n. section_begun i s n (section_started i s n st))

  -- ---- in a section

  -- the rows of the chunk that a matcher collects for, if it has one
  unfoldable pub chunk_collected : Option Chunk → State → Result State Fault
  chunk_collected None st = Ok st
  chunk_collected (Some q) st = chunk_placed (ground.rows q) st

  -- the cursor of section s becomes the full value of the expression, in which `.` is the cursor as it was
  unfoldable pub cursor_set : ℕ → ℕ → Expression → State → Result State Fault
  cursor_set i s e st = full_value ground.scope i st.known [] e (location_point i (Some s)) >>= (λ n. cursor_moved i n st)

  -- ---- a section ends

  -- whether the section of this number floats
  abbrev pub is_floating : ℕ → Bool
  is_floating s = (ground.facts s).floating

  -- it ends at the cursor
  abbrev pub section_ended_at : ℕ → State → State
  section_ended_at s st = record st { known = with_number (End s) st.cursor st.known }

  -- where it does not float, what comes next goes on from there, in its region too
  abbrev pub section_ended_by : Bool → ℕ → State → State
  section_ended_by true s st = section_ended_at s st
  section_ended_by false s st = record (section_ended_at s st) { counter = st.cursor; regions = with_counter (region_in s) st.cursor st.regions }

  -- it ends
  unfoldable pub section_ended : ℕ → State → Result State Fault
  section_ended s st = Ok (section_ended_by (is_floating s) s st)

  -- it ends, unless it shares an address with this one
  abbrev pub section_closed_by : ℕ → Option ℕ → State → Result State Fault
  section_closed_by s None st = section_ended s st
  section_closed_by s (Some other) st = Err (Overlap (ground.facts other).name (ground.facts s).name)

  -- the earlier section that it must not overlap; a floating one may overlap all
  unfoldable pub overlapped : ℕ → State → Option ℕ
  overlapped s st = if is_floating s then None else lowest_sharing is_floating st.known (number_at st.known (Start s)) st.cursor s

  -- it ends, unless it shares an address with an earlier one
  unfoldable pub section_ended_alone : ℕ → State → Result State Fault
  section_ended_alone s st = section_closed_by s (overlapped s st) st

  -- it leaves its region, unless it floats
  unfoldable pub leaves_region : ℕ → State → Bool
  leaves_region s st = not (is_floating s) && leaves (region_at ground.regions (region_in s)) (number_at st.known (Start s)) st.cursor

  -- it ends, unless it leaves its region, or shares an address with an earlier one
  unfoldable pub section_ended_inside : ℕ → State → Result State Fault
  section_ended_inside s st =
      if leaves_region s st then Err (RegionFull (or_empty (ground.facts s).region) (ground.facts s).name) else section_ended_alone s st

  -- the rows of the rest are placed, and the section ends
  unfoldable pub section_ended_after : List ChunkRow → ℕ → State → Result State Fault
  section_ended_after rest s st = chunk_placed rest st >>= section_ended_inside s

  -- a section ends, after its rest, if it has one
  unfoldable pub section_closed : ℕ → Option Chunk → State → Result State Fault
  section_closed s None st = section_ended_inside s st
  section_closed s (Some q) st = section_ended_after (ground.rows q) s st

  -- ---- places

  -- the counter becomes the full value of the expression, in which `.` is the counter as it was
  unfoldable pub counter_set : ℕ → Expression → State → Result State Fault
  counter_set i e st =
      full_value ground.scope i st.known [] e (location_point i None) >>= (λ n.
      Ok (record st { counter = n; locations = st.locations ++ record { statement = i; address = n } ∷ [] }))

  -- what place i does, or its refusal
  unfoldable pub effect : ℕ → Place → State → Result State Fault
  effect i (SetLocation None e) st = counter_set i e st
  effect i (SetLocation (Some s) e) st = cursor_set i s e st
  effect i (Wait w task) st = Ok st
  effect i (Open s x) st = section_opened i s st
  effect i (Collect q m) st = chunk_collected q st
  effect i (Rows q) st = chunk_placed (ground.rows q) st
  effect i (Close s rest) st = section_closed s rest st
  effect i (Discard x) st = Ok st
  effect i Idle st = Ok st
  effect i (Memory regions) st = Ok st
  effect i (Headers headers) st = Ok st
  effect i (Format format) st = Ok st

  -- what stands after place i, or its refusal
  unfoldable pub step : ℕ → Place → State → Result State Fault
  step i p st = effect i p (dot_noted i p st)
