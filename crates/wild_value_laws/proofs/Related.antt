-- A relation that goes on through steps and holds of the leaves holds of each kind of node, and so of values.
use Rattle.std.proofs.Common.{◌≡◌, ℕ, zero, suc, Bool, true, false, ◌^◌, not, ◌||◌, ◌==◌, cond, List, ◌∷◌, Option, Some, None, Result, Ok, Err, refl, subst}
use Rattle.wild_names.specs.declared.fault.Fault.{Fault}
use Rattle.wild_names.specs.declared.fault.Fault.TheVariants.{AlignZero, AssertFailed, DeepValue, SymbolCycle}
use Rattle.wild_expression_tree.specs.declared.tree.Expression.{Expression}
use Rattle.wild_expression_tree.specs.Shape.{Shape, Number, LocationCounter, SizeofHeaders, Symbol, Named, Ternary, Align, SegmentStart, Assert, shape}
use Rattle.wild_expression_tree.specs.declared.operator.Arithmetic.{Arithmetic}
use Rattle.wild_expression_tree.specs.declared.operator.Comparison.{Comparison}
use Rattle.wild_expression_tree.specs.declared.operator.Connective.{Connective}
use Rattle.wild_expression_tree.specs.declared.operator.Division.{Division}
use Rattle.wild_expression_tree.specs.declared.operator.Question.{Question}
use Rattle.wild_expression_tree.specs.declared.operator.Question.TheVariants as question
use Rattle.wild_expression_tree.specs.declared.operator.Unary.{Unary}
use Rattle.wild_names.specs.declared.segment_name.SegmentName.{SegmentName}
use Rattle.wild_value_spec.specs.declared.region.Region.{Region}
use Rattle.wild_value_spec.specs.declared.value.DotSource.{DotSource}
use Rattle.wild_value_spec.specs.declared.value.DotSource.TheVariants.{OfPlace, OfLoad, Zero, OfEnd}
use Rattle.wild_value_spec.specs.declared.value.Point.{Point}
use Rattle.wild_value_spec.specs.declared.value.Value.{Value}
use Rattle.wild_value_spec.specs.declared.value.Whole.{Whole}
use Rattle.wild_value_spec.specs.Known.{Known, Start, Load, End, Address, Dot, LoadDot}
use Rattle.wild_value_spec.specs.Marks.{unmarked, over}
use Rattle.wild_value_spec.specs.Numbers.{decides, truth}
use Rattle.wild_value_spec.specs.Scope.{Name, Definition, OfRow, OfScript, Scope, definition_of, home}
use Rattle.wild_value_spec.specs.Value as v
use Rattle.wild_value_laws.specs.Related.{Relation, Passes, Side, Agree, Leaves, SameNames}

-- what gives the values of parts
abbrev Evaluator : Type 0
Evaluator = List Name → Expression → Point → Result Value Fault

-- a scope agrees with itself
pub itself : (scope : Scope) → Agree scope scope
itself scope = record { section_name = λ s. refl; «section» = λ name. refl; alignment = λ s. refl; line = λ place. refl; region = λ name. refl; segment_start = λ segment. refl; header_size = refl; defined = λ name. refl }

module _ (R : Relation) (passes : Passes R) where
  open passes use {same, on}

  -- between two choices by one test
  choose : {A : Type 0} (t : Bool) {r s u w : Result A Fault} → R A r s → R A u w → R A (cond t r u) (cond t s w)
  choose true h k = h
  choose false h k = k

  -- between what both make of equal things
  at_equal : {X A : Type 0} {x y : X} {f g : X → Result A Fault} → x ≡ y → ((z : X) → R A (f z) (g z)) → R A (f x) (g y)
  at_equal {x} {f} {g} e h = subst (λ z. R _ (f x) (g z)) e (h x)

  module _ (a b : Side) (leaves : Leaves R a b) where
    open leaves use {asked, fails, scopes}

    -- between what a word gives on each side, over its scope, its statement and what it knows: i, j and k
    abbrev Each : {A : Type 0} → (Scope → ℕ → Known → Result A Fault) → Type 0
    Each {A} word = R A (word a.scope a.statement a.known) (word b.scope b.statement b.known)

    -- ---- what is known

    start : (s : ℕ) → Each (λ i j k. v.start_of i j k s)
    unfolding v.start_of
    start s = at_equal (scopes.section_name s) (asked (Start s))

    load : (s : ℕ) → Each (λ i j k. v.load_of i j k s)
    unfolding v.load_of
    load s = at_equal (scopes.section_name s) (asked (Load s))

    last : (s : ℕ) → Each (λ i j k. v.end_of i j k s)
    unfolding v.end_of
    last s = at_equal (scopes.section_name s) (asked (End s))

    dot_by : (place : ℕ) (d : DotSource) → Each (λ i j k. v.dot_by i j k place d)
    dot_by place OfPlace = asked (Dot place) _
    dot_by place OfLoad = asked (LoadDot place) _
    dot_by place Zero = same _
    dot_by place (OfEnd s) = last s

    -- ---- full numbers and `.`

    full_number_in : (o : Option ℕ) (x : Value) → Each (λ i j k. v.full_number_in i j k o x)
    full_number_in None x = same _
    full_number_in (Some s) x = choose (x.relative || not x.absolute) (on (start s) (λ n. same _)) (same _)

    full_number : (p : Point) (x : Value) → Each (λ i j k. v.full_number i j k p x)
    unfolding v.full_number
    full_number p x = full_number_in p.«section» x

    counter_in : (o : Option ℕ) (n : ℕ) → Each (λ i j k. v.counter_in i j k o n)
    counter_in None n = same _
    counter_in (Some s) n = on (start s) (λ m. same _)

    counter : (p : Point) → Each (λ i j k. v.counter i j k p)
    unfolding v.counter v.dot_of
    counter p = on (dot_by p.place p.dot) (λ n. counter_in p.«section» n)

    -- ---- what is asked of names

    size_in : (o : Option ℕ) → Each (λ i j k. v.size_in i j k o)
    unfolding v.extent
    size_in None = same _
    size_in (Some s) = on (last s) (λ n. on (start s) (λ m. same _))

    alignment_in : (o : Option ℕ) → Each (λ i j k. Ok (v.alignment_in i j k o))
    alignment_in None = same _
    alignment_in (Some s) = at_equal (scopes.alignment s) (λ n. same (Ok (unmarked (2 ^ n))))

    start_in : (name : Name) (o : Option ℕ) → Each (λ i j k. v.address_in i j k (v.start_of i j k) name o)
    start_in name None = same _
    start_in name (Some s) = on (start s) (λ n. same _)

    load_in : (name : Name) (o : Option ℕ) → Each (λ i j k. v.address_in i j k (v.load_of i j k) name o)
    load_in name None = same _
    load_in name (Some s) = on (load s) (λ n. same _)

    region_in : (of : Region → Value) (name : Name) (o : Option Region) → Each (λ i j k. v.region_in i j k of name o)
    region_in of name None = same _
    region_in of name (Some r) = same _

    named_value : (q : Question) (name : Name) → Each (λ i j k. v.named_value i j k q name)
    unfolding v.size v.alignment v.start_named v.load_named v.region_origin v.region_length v.defined_value
    named_value question.Sizeof name = at_equal (scopes.«section» name) size_in
    named_value question.Alignof name = at_equal (scopes.«section» name) alignment_in
    named_value question.Addr name = at_equal (scopes.«section» name) (start_in name)
    named_value question.Loadaddr name = at_equal (scopes.«section» name) (load_in name)
    named_value question.Defined name = at_equal (scopes.defined name) (λ d. same (Ok (unmarked (truth d))))
    named_value question.Origin name = at_equal (scopes.region name) (region_in _ name)
    named_value question.Length name = at_equal (scopes.region name) (region_in _ name)

    symbol_value_in : (name : Name) (w : Whole) (s t : Option ℕ) → Each (λ i j k. v.symbol_value_in i j k name w s t)
    unfolding v.from_start
    symbol_value_in name w (Some s) (Some t) = choose (s == t) (on (start s) (λ n. same _)) (same _)
    symbol_value_in name w (Some s) None = same _
    symbol_value_in name w None t = same _

    -- ---- nodes, where each side has its own path, and its own values of parts on it

    module _ (f g : Evaluator) (path other : List Name) where
      -- the same of a word over values of parts and a path, too
      abbrev EachNode : {A : Type 0} → (Scope → ℕ → Known → Evaluator → List Name → Result A Fault) → Type 0
      EachNode {A} word = R A (word a.scope a.statement a.known f path) (word b.scope b.statement b.known g other)

      -- a symbol, whose expression is read with its name on the path
      module _ (name : Name) (parts : (e : Expression) (p : Point) → R Value (f (name ∷ path) e p) (g (name ∷ other) e p)) where
        pub whole_related : (d : Definition) → EachNode (λ i j k f path. v.whole i j k f path (name ∷ path) name d)
        unfolding v.row_whole v.row_of v.value_whole
        whole_related (OfRow row offset s) = on (asked (Address row) name) (λ n. same _)
        whole_related (OfScript e p) = on (parts e p) (λ x. on (full_number p x) (λ n. same _))

        symbol_in : (o : Option Definition) → ((d : Definition) → o ≡ Some d → v.is_on name path ≡ v.is_on name other) → (p : Point) → EachNode (λ i j k f path. v.symbol_in i j k f path name o p)
        unfolding v.symbol_by v.symbol_value
        symbol_in None names p = same _
        symbol_in (Some d) names p =
            at_equal (names d refl) (λ t. choose t (same (Err (SymbolCycle name))) (on (whole_related d) (λ w. symbol_value_in name w (home d) p.«section»)))

        pub symbol_related : definition_of a.scope name ≡ definition_of b.scope name → SameNames a.scope path other → (p : Point) → EachNode (λ i j k f path. v.symbol i j k f path name p)
        unfolding v.symbol
        symbol_related e names p = rw (← e) (symbol_in (definition_of a.scope name) (names name) p)

      module _ (parts : (e : Expression) (p : Point) → R Value (f path e p) (g other e p)) where
        arithmetic_value : (o : Arithmetic) (x y : Expression) (p : Point) → EachNode (λ i j k f path. v.arithmetic_value i j k f path o x y p)
        unfolding v.arithmetic_value
        arithmetic_value o x y p = on (parts x p) (λ n. on (parts y p) (λ m. same _))

        division_value : (o : Division) (x y : Expression) (p : Point) → EachNode (λ i j k f path. v.division_value i j k f path o x y p)
        unfolding v.division_value
        division_value o x y p = on (parts y p) (λ m. choose (m.number == 0) (fails (v.zero_divisor o)) (on (parts x p) (λ n. same _)))

        comparison_value : (o : Comparison) (x y : Expression) (p : Point) → EachNode (λ i j k f path. v.comparison_value i j k f path o x y p)
        unfolding v.comparison_value v.judgement
        comparison_value o x y p = on (parts x p) (λ n. on (full_number p n) (λ left. on (parts y p) (λ m. on (full_number p m) (λ right. same _))))

        connective_value : (o : Connective) (x y : Expression) (p : Point) → EachNode (λ i j k f path. v.connective_value i j k f path o x y p)
        unfolding v.connective_value
        connective_value o x y p = on (parts x p) (λ n. choose (decides o n.number) (same _) (on (parts y p) (λ m. same _)))

        unary_value : (o : Unary) (x : Expression) (p : Point) → EachNode (λ i j k f path. v.unary_value i j k f path o x p)
        unfolding v.unary_value
        unary_value o x p = on (parts x p) (λ n. same _)

        ternary_value : (c x y : Expression) (p : Point) → EachNode (λ i j k f path. v.ternary_value i j k f path c x y p)
        unfolding v.ternary_value
        ternary_value c x y p = on (parts c p) (λ n. on (parts (v.chosen_side n.number x y) p) (λ m. same _))

        subject : (x : Option Expression) (p : Point) → EachNode (λ i j k f path. v.subject i j k f path x p)
        unfolding v.counter_number
        subject (Some x) p = parts x p
        subject None p = on (counter p) (λ n. same _)

        align_value : (n : Expression) (x : Option Expression) (p : Point) → EachNode (λ i j k f path. v.align_value i j k f path n x p)
        unfolding v.align_value
        align_value n x p = on (parts n p) (λ align. choose (align.number == 0) (fails AlignZero) (on (subject x p) (λ m. same _)))

        started_by : (o : Option ℕ) (x : Expression) (p : Point) → EachNode (λ i j k f path. v.started_by i j k f path o x p)
        started_by None x p = on (parts x p) (λ n. same _)
        started_by (Some n) x p = same _

        segment_value : (segment : SegmentName) (x : Expression) (p : Point) → EachNode (λ i j k f path. v.segment_value i j k f path segment x p)
        unfolding v.segment_value
        segment_value segment x p = at_equal (scopes.segment_start segment) (λ o. started_by o x p)

        assert_value : (c : Expression) (message : Name) (at : ℕ) (p : Point) → EachNode (λ i j k f path. v.assert_value i j k f path c message at p)
        unfolding v.assert_value
        assert_value c message at p = on (parts c p) (λ n. choose (n.number == 0) (at_equal (scopes.line at) (λ m. same (Err (AssertFailed m message)))) (same (Ok (over n.number n))))

        pub node_related : ((name : Name) (p : Point) → EachNode (λ i j k f path. v.symbol i j k f path name p)) → (p : Point) (s : Shape Expression) → EachNode (λ i j k f path. v.node i j k f path p s)
        node_related symbols p (Number n) = same _
        node_related symbols p LocationCounter = counter p
        node_related symbols p (Symbol name) = symbols name p
        node_related symbols p (Named q name) = named_value q name
        node_related symbols p (Shape.Arithmetic o x y) = arithmetic_value o x y p
        node_related symbols p (Shape.Division o x y) = division_value o x y p
        node_related symbols p (Shape.Comparison o x y) = comparison_value o x y p
        node_related symbols p (Shape.Connective o x y) = connective_value o x y p
        node_related symbols p (Shape.Unary o x) = unary_value o x p
        node_related symbols p (Ternary c x y) = ternary_value c x y p
        node_related symbols p (Align n x) = align_value n x p
        node_related symbols p (Assert c message at) = assert_value c message at p
        node_related symbols p SizeofHeaders = at_equal scopes.header_size (λ n. same (Ok (unmarked n)))
        node_related symbols p (SegmentStart segment x) = segment_value segment x p

    -- ---- values, where both sides have the same definitions

    module _ (definitions : (name : Name) → definition_of a.scope name ≡ definition_of b.scope name) where
      longer : (name : Name) (path other : List Name) → SameNames a.scope path other → SameNames a.scope (name ∷ path) (name ∷ other)
      longer name path other names x d e = rw (names x d e)

      pub value_related : (levels : ℕ) (path other : List Name) → SameNames a.scope path other → (e : Expression) (p : Point) → R Value (v.value a.scope a.statement a.known levels path e p) (v.value b.scope b.statement b.known levels other e p)
      unfolding v.value
      value_related zero path other names e p = fails DeepValue
      value_related (suc h) path other names e p =
          node_related _ _ path other
          (value_related h path other names)
          (λ name. symbol_related _ _ path other name (value_related h (name ∷ path) (name ∷ other) (longer name path other names)) (definitions name) names)
          p (shape e)

      pub full_related : (levels : ℕ) (path other : List Name) → SameNames a.scope path other → (e : Expression) (p : Point) → R ℕ (v.full a.scope a.statement a.known levels path e p) (v.full b.scope b.statement b.known levels other e p)
      unfolding v.full
      full_related levels path other names e p = on (value_related levels path other names e p) (full_number p)
