-- The value of an expression at a point, over what is known of a layout.
use Rattle.std.specs.Prelude.{ℕ, zero, suc, ◌+◌, ◌-◌, ◌^◌, Bool, ◌||◌, not, ◌==◌, nat_lt, if◌then◌else◌, codes, List, [], ◌∷◌, Option, Some, None, Result, Ok, Err}
use Rattle.std.specs.List.{list_any}
use Rattle.std.specs.Option.{is_some}
use Rattle.wild_numbering.specs.Numbering.{is_named}
use Rattle.wild_ids.specs.Alignment.{rounded_up}
use Rattle.wild_names.specs.declared.fault.Fault.{Fault}
use Rattle.wild_names.specs.declared.fault.Fault.TheVariants.{DivisionByZero, ModuloByZero, AlignZero, UnknownRegion, UnknownSection, UnknownSymbol, NotLaidOut, SymbolCycle, DeepValue, BeforeSection, Overflow, AlignOverflow, AssertFailed}
use Rattle.wild_expression_tree.specs.declared.tree.AssertCommand.{AssertCommand}
use Rattle.wild_expression_tree.specs.declared.tree.Expression.{Expression}
use Rattle.wild_expression_tree.specs.Shape.{Shape, Number, LocationCounter, SizeofHeaders, Symbol, Named, Ternary, Align, SegmentStart, Assert, shape}
use Rattle.wild_expression_tree.specs.declared.operator.Arithmetic.{Arithmetic}
use Rattle.wild_expression_tree.specs.declared.operator.Comparison.{Comparison}
use Rattle.wild_expression_tree.specs.declared.operator.Connective.{Connective}
use Rattle.wild_expression_tree.specs.declared.operator.Division.{Division}
use Rattle.wild_expression_tree.specs.declared.operator.Division.TheVariants as division
use Rattle.wild_expression_tree.specs.declared.operator.Question.{Question}
use Rattle.wild_expression_tree.specs.declared.operator.Question.TheVariants as question
use Rattle.wild_expression_tree.specs.declared.operator.Unary.{Unary}
use Rattle.wild_names.specs.declared.segment_name.SegmentName.{SegmentName}
use Rattle.wild_value_spec.specs.declared.region.Region.{Region}
use Rattle.wild_value_spec.specs.declared.value.DotSource.{DotSource}
use Rattle.wild_value_spec.specs.declared.value.DotSource.TheVariants.{OfPlace, OfLoad, Zero, OfEnd}
use Rattle.wild_value_spec.specs.declared.value.Point.{Point}
use Rattle.wild_value_spec.specs.declared.value.Value.{Value}
use Rattle.wild_value_spec.specs.declared.value.Whole.{Whole}
use Rattle.wild_value_spec.specs.Answer.{◌>>=◌, or_fault}
use Rattle.wild_value_spec.specs.Known.{Known, Start, Load, End, Address, Dot, LoadDot}
use Rattle.wild_value_spec.specs.Marks.{max_height, bare, unmarked, absolutely, relatively, absolutely_over, relatively_over, over, addressed_over, over_both, unmarked_over}
use Rattle.wild_value_spec.specs.Numbers.{arithmetic_result, divided_by, holds, decides, unary_result, truth, is_true}
use Rattle.wild_value_spec.specs.Scope.{Name, Definition, OfRow, OfScript, Scope, definition_of, home}

-- ---- faults and choices

-- the fault of a divisor that is 0, in the statement of this number
abbrev pub zero_divisor : Division → ℕ → Fault
zero_divisor division.Divide statement = DivisionByZero statement
zero_divisor division.Modulo statement = ModuloByZero statement

-- the side that a condition chooses: the first where it is true
unfoldable pub chosen_side : ℕ → Expression → Expression → Expression
chosen_side condition a b = if condition == 0 then b else a

-- whether a name is on a path: the symbols that are being evaluated
abbrev pub is_on : Name → List Name → Bool
is_on name path = list_any (is_named name) path

-- ---- numbers that may be refused

-- the sum, up to 2 ^ 64 - 1
unfoldable pub sum_of : ℕ → ℕ → Result ℕ Fault
sum_of x y = if nat_lt (x + y) (2 ^ 64) then Ok (x + y) else Err (Overflow x y)

-- the next multiple of an alignment from a number on, up to 2 ^ 64 - 1
unfoldable pub multiple_from : ℕ → ℕ → Result ℕ Fault
multiple_from x align =
    if nat_lt (rounded_up align x) (2 ^ 64) then Ok (rounded_up align x) else Err (AlignOverflow x align)

-- the next multiple of an alignment from a value on
unfoldable pub multiple_value : Value → Value → Result Value Fault
multiple_value align x = multiple_from x.number align.number >>= (λ n. Ok (over_both n align x))

module _ (scope : Scope) (statement : ℕ) (known : Known) where
  -- ---- what is known

  -- the start of a section
  unfoldable pub start_of : ℕ → Result ℕ Fault
  start_of s = or_fault (known (Start s)) (NotLaidOut statement (scope.section_name s))

  -- its load address
  unfoldable pub load_of : ℕ → Result ℕ Fault
  load_of s = or_fault (known (Load s)) (NotLaidOut statement (scope.section_name s))

  -- its end
  unfoldable pub end_of : ℕ → Result ℕ Fault
  end_of s = or_fault (known (End s)) (NotLaidOut statement (scope.section_name s))

  -- what `.` is read as at a place
  abbrev pub dot_by : ℕ → DotSource → Result ℕ Fault
  dot_by place OfPlace = or_fault (known (Dot place)) (NotLaidOut statement (codes "."))
  dot_by place OfLoad = or_fault (known (LoadDot place)) (NotLaidOut statement (codes "."))
  dot_by place Zero = Ok 0
  dot_by place (OfEnd s) = end_of s

  -- `.` of a point
  unfoldable pub dot_of : Point → Result ℕ Fault
  dot_of p = dot_by p.place p.dot

  -- the address of the row of a symbol
  unfoldable pub row_of : Name → ℕ → Result ℕ Fault
  row_of name row = or_fault (known (Address row)) (NotLaidOut statement name)

  -- ---- full values

  -- inside a section, the section's start is added where the number counts from there or is not known to be an address
  abbrev pub full_number_in : Option ℕ → Value → Result ℕ Fault
  full_number_in None x = Ok x.number
  full_number_in (Some s) x =
      if x.relative || not x.absolute then start_of s >>= (λ start. sum_of x.number start) else Ok x.number

  -- the number that a value stands for at a point
  unfoldable pub full_number : Point → Value → Result ℕ Fault
  full_number p x = full_number_in p.«section» x

  -- ---- steps

  -- the right side of a comparison, and then the answer, over the full value of the left side
  unfoldable pub judgement : Comparison → Point → ℕ → Value → Value → Result Value Fault
  judgement o p left x y = full_number p y >>= (λ right. Ok (unmarked_over (truth (holds o left right)) x y))

  -- a location counter, which inside a section counts from the section's start
  abbrev pub counter_in : Option ℕ → ℕ → Result Value Fault
  counter_in None n = Ok (absolutely n)
  counter_in (Some s) n = start_of s >>= (λ start. Ok (relatively (n - start)))

  -- the value of `.`
  unfoldable pub counter : Point → Result Value Fault
  counter p = dot_of p >>= counter_in p.«section»

  -- the number of the location counter alone
  unfoldable pub counter_number : Point → Result Value Fault
  counter_number p = counter p >>= (λ x. Ok (bare x.number))

  -- ---- sections

  -- end minus start, the end first
  unfoldable pub extent : ℕ → Result Value Fault
  extent s = end_of s >>= (λ last. start_of s >>= (λ start. Ok (unmarked (last - start))))

  -- 0 where no section has the name
  abbrev pub size_in : Option ℕ → Result Value Fault
  size_in None = Ok (unmarked 0)
  size_in (Some s) = extent s

  -- SIZEOF
  unfoldable pub size : Name → Result Value Fault
  size name = size_in (scope.«section» name)

  -- in bytes; 0 where no section has the name
  abbrev pub alignment_in : Option ℕ → Value
  alignment_in None = unmarked 0
  alignment_in (Some s) = unmarked (2 ^ scope.alignment s)

  -- ALIGNOF
  unfoldable pub alignment : Name → Value
  alignment name = alignment_in (scope.«section» name)

  -- an address of a section that must be there
  abbrev pub address_in : (ℕ → Result ℕ Fault) → Name → Option ℕ → Result Value Fault
  address_in of name None = Err (UnknownSection name)
  address_in of name (Some s) = of s >>= (λ n. Ok (absolutely n))

  -- ADDR
  unfoldable pub start_named : Name → Result Value Fault
  start_named name = address_in start_of name (scope.«section» name)

  -- LOADADDR
  unfoldable pub load_named : Name → Result Value Fault
  load_named name = address_in load_of name (scope.«section» name)

  -- ---- memory regions

  -- what is asked of a region that must be there
  abbrev pub region_in : (Region → Value) → Name → Option Region → Result Value Fault
  region_in of name None = Err (UnknownRegion name)
  region_in of name (Some r) = Ok (of r)

  -- ORIGIN
  unfoldable pub region_origin : Name → Result Value Fault
  region_origin name = region_in (λ r. absolutely r.origin) name (scope.region name)

  -- LENGTH
  unfoldable pub region_length : Name → Result Value Fault
  region_length name = region_in (λ r. unmarked r.length) name (scope.region name)

  -- ---- symbols

  -- 1 where the name has a definition
  unfoldable pub defined_value : Name → Value
  defined_value name = unmarked (truth (is_some (definition_of scope name)))

  -- what is asked of a name
  abbrev pub named_value : Question → Name → Result Value Fault
  named_value question.Sizeof name = size name
  named_value question.Alignof name = Ok (alignment name)
  named_value question.Addr name = start_named name
  named_value question.Loadaddr name = load_named name
  named_value question.Origin name = region_origin name
  named_value question.Length name = region_length name
  named_value question.Defined name = Ok (defined_value name)

  -- an address counted from the start of its section, of parts of this height
  unfoldable pub from_start : Name → Whole → ℕ → Result Value Fault
  from_start name w start =
      if nat_lt w.number start then Err (BeforeSection name) else Ok (relatively_over (w.number - start) w.height)

  -- an address in a section, as it is read in a section: from the start where they are the same
  abbrev pub symbol_value_in : Name → Whole → Option ℕ → Option ℕ → Result Value Fault
  symbol_value_in name w (Some s) (Some t) =
      if s == t then start_of s >>= from_start name w else Ok (absolutely_over w.number w.height)
  symbol_value_in name w (Some s) None = Ok (absolutely_over w.number w.height)
  symbol_value_in name w None t = Ok (absolutely_over w.number w.height)

  -- what a symbol of that section is worth, as it is read at a point
  unfoldable pub symbol_value : Name → Option ℕ → Point → Whole → Result Value Fault
  symbol_value name of p w = symbol_value_in name w of p.«section»

  -- what a symbol of the table is worth: so far after the start of its row
  unfoldable pub row_whole : Name → ℕ → ℕ → Result Whole Fault
  row_whole name row offset =
      row_of name row >>= (λ start. sum_of start offset >>= (λ n. Ok (record { number = n; height = 0 })))

  -- the number that a value stands for, and its height
  unfoldable pub value_whole : Point → Value → Result Whole Fault
  value_whole p x = full_number p x >>= (λ n. Ok (record { number = n; height = x.height }))

  -- ---- the kinds of nodes, over their parts, whose values `eval` gives on a path
  module _ (eval : List Name → Expression → Point → Result Value Fault) (path : List Name) where
    -- the value of a part
    abbrev pub part : Expression → Point → Result Value Fault
    part = eval path

    -- both sides, the left one first
    unfoldable pub arithmetic_value : Arithmetic → Expression → Expression → Point → Result Value Fault
    arithmetic_value o a b p =
        part a p >>= (λ x. part b p >>= (λ y. Ok (over_both (arithmetic_result o x.number y.number) x y)))

    -- the divisor first, which must not be 0
    unfoldable pub division_value : Division → Expression → Expression → Point → Result Value Fault
    division_value o a b p =
        part b p >>= (λ y.
        if y.number == 0 then Err (zero_divisor o statement) else
        (part a p >>= (λ x. Ok (over_both (divided_by o x.number y.number) x y))))

    -- the full values of both sides, the left one first; they keep their marks
    unfoldable pub comparison_value : Comparison → Expression → Expression → Point → Result Value Fault
    comparison_value o a b p =
        part a p >>= (λ x. full_number p x >>= (λ left. part b p >>= (λ y. judgement o p left x y)))

    -- the truth of the left side where that decides, else that of the right one
    unfoldable pub connective_value : Connective → Expression → Expression → Point → Result Value Fault
    connective_value o a b p =
        part a p >>= (λ x.
        if decides o x.number then Ok (over (truth (is_true x.number)) x) else
        (part b p >>= (λ y. Ok (over_both (truth (is_true y.number)) x y))))

    -- what the operator makes of the one part
    unfoldable pub unary_value : Unary → Expression → Point → Result Value Fault
    unary_value o a p = part a p >>= (λ x. Ok (over (unary_result o x.number) x))

    -- the condition, and then the chosen side only
    unfoldable pub ternary_value : Expression → Expression → Expression → Point → Result Value Fault
    ternary_value c a b p = part c p >>= (λ x. part (chosen_side x.number a b) p >>= (λ y. Ok (over_both y.number x y)))

    -- what is aligned: an expression, or else the location counter
    abbrev pub subject : Option Expression → Point → Result Value Fault
    subject (Some a) p = part a p
    subject None p = counter_number p

    -- the alignment first, which must not be 0; then the next multiple of it from what is aligned on
    unfoldable pub align_value : Expression → Option Expression → Point → Result Value Fault
    align_value n a p =
        part n p >>= (λ align.
        if align.number == 0 then Err (AlignZero statement) else (subject a p >>= (λ x. multiple_value align x)))

    -- the start of a segment: the one that is asked for, else what the expression is worth, as an address
    abbrev pub started_by : Option ℕ → Expression → Point → Result Value Fault
    started_by (Some n) a p = Ok (absolutely n)
    started_by None a p = part a p >>= (λ x. Ok (addressed_over x))

    -- SEGMENT_START
    unfoldable pub segment_value : SegmentName → Expression → Point → Result Value Fault
    segment_value segment a p = started_by (scope.segment_start segment) a p

    -- what a definition is worth at its own point, on a path that holds its name
    abbrev pub whole : List Name → Name → Definition → Result Whole Fault
    whole along name (OfRow row offset s) = row_whole name row offset
    whole along name (OfScript e q) = eval along e q >>= value_whole q

    -- a symbol by its definition, with it on the path
    unfoldable pub symbol_by : Name → Definition → Point → Result Value Fault
    symbol_by name d p = whole (name ∷ path) name d >>= symbol_value name (home d) p

    -- what has the definition, unless it is on the path
    abbrev pub symbol_in : Name → Option Definition → Point → Result Value Fault
    symbol_in name None p = Err (UnknownSymbol name)
    symbol_in name (Some d) p = if is_on name path then Err (SymbolCycle name) else symbol_by name d p

    -- a symbol by its name
    unfoldable pub symbol : Name → Point → Result Value Fault
    symbol name p = symbol_in name (definition_of scope name) p

    -- a condition, which must not be 0; what is said where it is, and where its bracket stands
    unfoldable pub assert_value : Expression → Name → ℕ → Point → Result Value Fault
    assert_value c message at p =
        part c p >>= (λ x. if x.number == 0 then Err (AssertFailed (scope.line at) message) else Ok (over x.number x))

    -- a node of any kind
    abbrev pub node : Point → Shape Expression → Result Value Fault
    node p (Number n) = Ok (unmarked n)
    node p LocationCounter = counter p
    node p SizeofHeaders = Ok (unmarked scope.header_size)
    node p (Symbol name) = symbol name p
    node p (Named q name) = named_value q name
    node p (Shape.Arithmetic o a b) = arithmetic_value o a b p
    node p (Shape.Division o a b) = division_value o a b p
    node p (Shape.Comparison o a b) = comparison_value o a b p
    node p (Shape.Connective o a b) = connective_value o a b p
    node p (Shape.Unary o a) = unary_value o a p
    node p (Ternary c a b) = ternary_value c a b p
    node p (Align n a) = align_value n a p
    node p (SegmentStart segment a) = segment_value segment a p
    node p (Assert c message at) = assert_value c message at p

  -- the value of an expression at a point, where this many levels are left
  unfoldable pub value : ℕ → List Name → Expression → Point → Result Value Fault
  value zero path e p = Err (DeepValue statement)
  value (suc h) path e p = node (value h) path p (shape e)

  -- the number that it stands for
  unfoldable pub full : ℕ → List Name → Expression → Point → Result ℕ Fault
  full h path e p = value h path e p >>= full_number p

  -- the same where work begins with it: all levels are left
  abbrev pub full_value : List Name → Expression → Point → Result ℕ Fault
  full_value path e p = full max_height path e p

  -- what an ASSERT statement is worth: it is a node over its condition, so that one level is taken
  unfoldable pub assert_statement : AssertCommand → Point → Result Value Fault
  assert_statement command p = assert_value (value (max_height - 1)) [] command.expression command.message command.at p
