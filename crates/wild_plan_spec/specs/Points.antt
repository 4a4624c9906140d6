-- Where the expressions of places are read.
use Rattle.std.specs.Prelude.{ℕ, zero, suc, Bool, true, false, ◌||◌, Option, Some, None, if◌then◌else◌}
use Rattle.std.specs.Option.{unwrap_or}
use Rattle.wild_expression_tree.specs.declared.tree.Expression.{Expression}
use Rattle.wild_expression_tree.specs.Shape.{Shape, Ternary, Align, SegmentStart, Assert, fold}
use Rattle.wild_value_spec.specs.declared.value.DotSource.{DotSource}
use Rattle.wild_value_spec.specs.declared.value.DotSource.TheVariants.{OfPlace, OfLoad, Zero, OfEnd}
use Rattle.wild_value_spec.specs.declared.value.Point.{Point}
use Rattle.wild_plan_spec.specs.declared.place.Where.{Where}
use Rattle.wild_plan_spec.specs.declared.place.Where.TheVariants.{Outermost, Between, Inside}

-- ---- SEGMENT_START

-- a node asks for the start of a segment, or one of its parts does
abbrev pub node_asks : Shape Bool → Bool
node_asks (SegmentStart segment x) = true
node_asks (Shape.Arithmetic o x y) = x || y
node_asks (Shape.Division o x y) = x || y
node_asks (Shape.Comparison o x y) = x || y
node_asks (Shape.Connective o x y) = x || y
node_asks (Shape.Unary o x) = x
node_asks (Ternary x y z) = x || (y || z)
node_asks (Align x y) = x || unwrap_or y false
node_asks (Assert x message at) = x
node_asks s = false

-- SEGMENT_START stands anywhere in the expression
abbrev pub asks_segment : Expression → Bool
asks_segment = fold node_asks

-- ---- `.`

-- `.` behind so many sections, outside of SECTIONS, where it is not 0: the end of the last of them, if there is one
abbrev pub dot_behind : ℕ → DotSource
dot_behind zero = Zero
dot_behind (suc s) = OfEnd s

-- what `.` is in a statement that stands here: outside of SECTIONS it is 0, unless the start of a segment is asked for
abbrev pub dot_at : Where → Bool → DotSource
dot_at (Outermost s) asks = if asks then dot_behind s else Zero
dot_at Between asks = OfPlace
dot_at (Inside s) asks = OfPlace

-- ---- points

-- the section in whose contents it stands
abbrev pub holder : Where → Option ℕ
holder (Outermost s) = None
holder Between = None
holder (Inside s) = Some s

-- the point of the expression of a symbol, or of `. =` outside of SECTIONS, at place i
abbrev pub task_point : ℕ → Where → Expression → Point
task_point i w e = record { place = i; dot = dot_at w (asks_segment e); «section» = holder w }

-- the point of the condition of an ASSERT at place i
abbrev pub condition_point : ℕ → Where → Point
condition_point i w = record { place = i; dot = dot_at w false; «section» = holder w }

-- the point of `. =` at place i, in the contents of this section or in none: there `.` is as it was
abbrev pub location_point : ℕ → Option ℕ → Point
location_point i s = record { place = i; dot = OfPlace; «section» = s }

-- the point of the start of the section that place i opens: there `.` is the location counter
abbrev pub start_point : ℕ → Point
start_point i = record { place = i; dot = OfPlace; «section» = None }

-- the point of its load address: there `.` is its start
abbrev pub load_point : ℕ → Point
load_point i = record { place = i; dot = OfLoad; «section» = None }
