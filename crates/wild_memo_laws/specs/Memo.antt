-- Values by recursion that keeps what definitions are worth.
use Rattle.std.specs.Prelude.{ℕ, zero, suc, ◌==◌, if◌then◌else◌, slice_get, Option, Some, None, Result, Ok, Err}
use Rattle.wild_names.specs.declared.fault.Fault.{Fault}
use Rattle.wild_names.specs.declared.fault.Fault.TheVariants.{AlignZero, UnknownSymbol, SymbolCycle, DeepValue, AssertFailed}
use Rattle.wild_names.specs.declared.segment_name.SegmentName.{SegmentName}
use Rattle.wild_expression_tree.specs.declared.tree.Expression.{Expression}
use Rattle.wild_expression_tree.specs.Shape.{Shape, Number, LocationCounter, SizeofHeaders, Symbol, Named, Ternary, Align, SegmentStart, Assert, shape}
use Rattle.wild_expression_tree.specs.declared.operator.Arithmetic.{Arithmetic}
use Rattle.wild_expression_tree.specs.declared.operator.Comparison.{Comparison}
use Rattle.wild_expression_tree.specs.declared.operator.Connective.{Connective}
use Rattle.wild_expression_tree.specs.declared.operator.Division.{Division}
use Rattle.wild_expression_tree.specs.declared.operator.Unary.{Unary}
use Rattle.wild_value_spec.specs.declared.value.Point.{Point}
use Rattle.wild_value_spec.specs.declared.value.Value.{Value}
use Rattle.wild_value_spec.specs.declared.value.Whole.{Whole}
use Rattle.wild_value_spec.specs.Known.{Known}
use Rattle.wild_value_spec.specs.Marks.{unmarked, absolutely, over, addressed_over, over_both}
use Rattle.wild_value_spec.specs.Numbers.{arithmetic_result, divided_by, decides, unary_result, truth, is_true}
use Rattle.wild_value_spec.specs.Scope.{Name, Definition, OfRow, OfScript, Scope, home}
use Rattle.wild_value_spec.specs.Value as v
use Rattle.wild_memo_laws.specs.declared.slot.Slot.{Slot}
use Rattle.wild_memo_laws.specs.declared.slot.Slot.TheVariants.{Unseen, InWork, Kept}
use Rattle.wild_memo_laws.specs.Exact.{fitted}
use Rattle.wild_memo_laws.specs.Running.{State, Ran, give, ◌>>>◌, ticked, slot_at, mark}

-- what the work on the definition of a number found is kept, unless it failed
abbrev pub settled_by : ℕ → Result Whole Fault → State → Ran Whole
settled_by i (Ok w) s = give (Ok w) (mark i (Kept w) s)
settled_by i (Err f) s = give (Err f) (mark i Unseen s)

-- the same of what ran
unfoldable pub settled : ℕ → Ran Whole → Ran Whole
settled i ran = settled_by i ran.answer ran.state

module _ (scope : Scope) (statement : ℕ) (known : Known) where
  -- ---- the kinds of nodes, over their parts, whose values `eval` gives, with so many levels left for them

  module _ (eval : Expression → Point → State → Ran Value) (levels : ℕ) where
    -- both sides, the left one first
    unfoldable pub arithmetic_value : Arithmetic → Expression → Expression → Point → State → Ran Value
    arithmetic_value o a b p s =
        eval a p s >>> (λ x s. eval b p s >>> (λ y s. give (Ok (over_both (arithmetic_result o x.number y.number) x y)) s))

    -- the divisor first, which must not be 0
    unfoldable pub division_value : Division → Expression → Expression → Point → State → Ran Value
    division_value o a b p s =
        eval b p s >>> (λ y s.
        if y.number == 0 then give (Err (v.zero_divisor o statement)) s else
        (eval a p s >>> (λ x s. give (Ok (over_both (divided_by o x.number y.number) x y)) s)))

    -- the full values of both sides, the left one first
    unfoldable pub comparison_value : Comparison → Expression → Expression → Point → State → Ran Value
    comparison_value o a b p s =
        eval a p s >>> (λ x s.
        give (v.full_number scope statement known p x) s >>> (λ left s.
        eval b p s >>> (λ y s. give (v.judgement scope statement known o p left x y) s)))

    -- the right side only where the left one does not decide
    unfoldable pub connective_value : Connective → Expression → Expression → Point → State → Ran Value
    connective_value o a b p s =
        eval a p s >>> (λ x s.
        if decides o x.number then give (Ok (over (truth (is_true x.number)) x)) s else
        (eval b p s >>> (λ y s. give (Ok (over_both (truth (is_true y.number)) x y)) s)))

    -- what the operator makes of the one part
    unfoldable pub unary_value : Unary → Expression → Point → State → Ran Value
    unary_value o a p s = eval a p s >>> (λ x s. give (Ok (over (unary_result o x.number) x)) s)

    -- the condition, and then the chosen side only
    unfoldable pub ternary_value : Expression → Expression → Expression → Point → State → Ran Value
    ternary_value c a b p s =
        eval c p s >>> (λ x s. eval (v.chosen_side x.number a b) p s >>> (λ y s. give (Ok (over_both y.number x y)) s))

    -- what is aligned: an expression, or else the location counter
    abbrev pub subject : Option Expression → Point → State → Ran Value
    subject (Some a) p s = eval a p s
    subject None p s = give (v.counter_number scope statement known p) s

    -- the alignment first, which must not be 0
    unfoldable pub align_value : Expression → Option Expression → Point → State → Ran Value
    align_value n a p s =
        eval n p s >>> (λ align s.
        if align.number == 0 then give (Err (AlignZero statement)) s else
        (subject a p s >>> (λ x s. give (v.multiple_value align x) s)))

    -- the start of a segment: the one that is asked for, else what the expression is worth, as an address
    abbrev pub started_by : Option ℕ → Expression → Point → State → Ran Value
    started_by (Some n) a p s = give (Ok (absolutely n)) s
    started_by None a p s = eval a p s >>> (λ x s. give (Ok (addressed_over x)) s)

    -- SEGMENT_START
    unfoldable pub segment_value : SegmentName → Expression → Point → State → Ran Value
    segment_value segment a p s = started_by (scope.segment_start segment) a p s

    -- a condition, which must not be 0
    unfoldable pub assert_value : Expression → Name → ℕ → Point → State → Ran Value
    assert_value c message at p s =
        eval c p s >>> (λ x s.
        if x.number == 0 then give (Err (AssertFailed (scope.line at) message)) s else give (Ok (over x.number x)) s)

    -- ---- symbols, by the numbers of their definitions

    -- what a definition is worth, found anew
    abbrev pub found : Name → Definition → State → Ran Whole
    found name (OfRow row offset section_number) s = give (v.row_whole scope statement known name row offset) s
    found name (OfScript e q) s = eval e q s >>> (λ x s. give (v.value_whole scope statement known q x) s)

    -- found while its slot is in work, and then kept
    unfoldable pub worked : Name → ℕ → Definition → State → Ran Whole
    worked name i d s = settled i (found name d (mark i InWork s))

    -- found, unless it is kept, where its height must fit; what is in work has no value
    abbrev pub whole_by : Name → ℕ → Definition → Slot → State → Ran Whole
    whole_by name i d (Kept w) s = give (fitted statement levels w.height w) s
    whole_by name i d InWork s = give (Err (SymbolCycle name)) s
    whole_by name i d Unseen s = worked name i d s

    -- what a definition is worth, by its slot
    unfoldable pub whole : Name → ℕ → Definition → State → Ran Whole
    whole name i d s = whole_by name i d (slot_at i s.slots) s

    -- what has the definition of this number
    abbrev pub symbol_at : Name → ℕ → Option Definition → Point → State → Ran Value
    symbol_at name i None p s = give (Err (UnknownSymbol name)) s
    symbol_at name i (Some d) p s = whole name i d s >>> (λ w s. give (v.symbol_value scope statement known name (home d) p w) s)

    -- what has a definition
    abbrev pub symbol_in : Name → Option ℕ → Point → State → Ran Value
    symbol_in name None p s = give (Err (UnknownSymbol name)) s
    symbol_in name (Some i) p s = symbol_at name i (slice_get scope.definitions i) p s

    -- a symbol by its name
    unfoldable pub symbol : Name → Point → State → Ran Value
    symbol name p s = symbol_in name (scope.symbol name) p s

    -- a node of any kind
    abbrev pub node : Point → Shape Expression → State → Ran Value
    node p (Number n) s = give (Ok (unmarked n)) s
    node p LocationCounter s = give (v.counter scope statement known p) s
    node p SizeofHeaders s = give (Ok (unmarked scope.header_size)) s
    node p (Symbol name) s = symbol name p s
    node p (Named q name) s = give (v.named_value scope statement known q name) s
    node p (Shape.Arithmetic o a b) s = arithmetic_value o a b p s
    node p (Shape.Division o a b) s = division_value o a b p s
    node p (Shape.Comparison o a b) s = comparison_value o a b p s
    node p (Shape.Connective o a b) s = connective_value o a b p s
    node p (Shape.Unary o a) s = unary_value o a p s
    node p (Ternary c a b) s = ternary_value c a b p s
    node p (Align n a) s = align_value n a p s
    node p (SegmentStart segment a) s = segment_value segment a p s
    node p (Assert c message at) s = assert_value c message at p s

  -- the value of an expression at a point, where this many levels are left; each node that is looked at is counted
  unfoldable pub value : ℕ → Expression → Point → State → Ran Value
  value zero e p s = give (Err (DeepValue statement)) s
  value (suc h) e p s = node (value h) h p (shape e) (ticked s)
