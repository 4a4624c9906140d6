-- A value is the same at each statement and wherever its height fits.
use Rattle.std.proofs.Common.{◌≡◌, ℕ, zero, suc, ◌<◌, ◌≤◌, ◌⊎◌, ◌-◌, Bool, true, false, not, ◌||◌, ◌==◌, nat_lt, cond, List, ◌∷◌, Option, Some, None, Result, Ok, Err, refl, inl, inr, sym, subst, arith, ◌∙◌}
use Rattle.std.proofs.lemmas.Bool.{cases_lt}
use Rattle.std.proofs.lemmas.Bool.Decides.{nat_tests}
use Rattle.wild_names.specs.declared.fault.Fault.{Fault}
use Rattle.wild_names.specs.declared.fault.Fault.TheVariants.{DeepValue, AlignZero, BeforeSection, SymbolCycle, AssertFailed}
use Rattle.wild_names.specs.declared.segment_name.SegmentName.{SegmentName}
use Rattle.wild_expression_tree.specs.declared.tree.Expression.{Expression}
use Rattle.wild_expression_tree.specs.Shape.{Shape, Number, LocationCounter, SizeofHeaders, Symbol, Named, Ternary, Align, SegmentStart, Assert, shape}
use Rattle.wild_expression_tree.specs.declared.operator.Arithmetic.{Arithmetic}
use Rattle.wild_expression_tree.specs.declared.operator.Comparison.{Comparison}
use Rattle.wild_expression_tree.specs.declared.operator.Connective.{Connective}
use Rattle.wild_expression_tree.specs.declared.operator.Division.{Division}
use Rattle.wild_expression_tree.specs.declared.operator.Question.{Question}
use Rattle.wild_expression_tree.specs.declared.operator.Question.TheVariants as question
use Rattle.wild_expression_tree.specs.declared.operator.Unary.{Unary}
use Rattle.wild_value_spec.specs.declared.region.Region.{Region}
use Rattle.wild_value_spec.specs.declared.value.DotSource.{DotSource}
use Rattle.wild_value_spec.specs.declared.value.DotSource.TheVariants.{OfPlace, OfLoad, Zero, OfEnd}
use Rattle.wild_value_spec.specs.declared.value.Point.{Point}
use Rattle.wild_value_spec.specs.declared.value.Value.{Value}
use Rattle.wild_value_spec.specs.declared.value.Whole.{Whole}
use Rattle.wild_value_spec.specs.Answer.{◌>>=◌, or_fault}
use Rattle.wild_value_spec.specs.Known.{Known, Start, Load, End, Address, Dot, LoadDot}
use Rattle.wild_value_spec.specs.Marks.{bare, unmarked, absolutely, relatively_over, absolutely_over, over, over_both}
use Rattle.wild_value_spec.specs.Numbers.{divided_by, decides, truth, is_true}
use Rattle.wild_value_spec.specs.Scope.{Name, Definition, OfRow, OfScript, Scope, definition_of}
use Rattle.wild_value_spec.specs.Value as v
use Rattle.wild_memo_laws.specs.Exact.{fitted, Fits}

-- ---- values that fit

pub fitted_within : {A : Type 0} (statement levels height : ℕ) (x : A) → height ≤ levels → fitted statement levels height x ≡ Ok x
unfolding fitted
fitted_within statement levels height x h = grind (arith, nat_tests)

pub fitted_above : {A : Type 0} (statement levels height : ℕ) (x : A) → levels < height → fitted statement levels height x ≡ Err (DeepValue statement)
unfolding fitted
fitted_above statement levels height x h = grind (arith, nat_tests)

-- ---- steps

-- a value is higher than this
unfoldable pub Tall : ℕ → Result Value Fault → Type 0
Tall h (Ok x) = h < x.height
Tall h (Err f) = Unit {0}

-- the other answer is the same value, if there is one
unfoldable pub Same : {A : Type 0} → Result A Fault → Result A Fault → Type 0
Same (Ok a) r = r ≡ Ok a
Same (Err f) r = Unit {0}

tall_on : {A : Type 0} (h : ℕ) (r : Result A Fault) (f : A → Result Value Fault) → ((a : A) → Tall h (f a)) → Tall h (r >>= f)
unfolding Tall
tall_on h (Ok a) f k = k a
tall_on h (Err e) f k = tt

tall_if : (h : ℕ) (b : Bool) (r s : Result Value Fault) → Tall h r → Tall h s → Tall h (cond b r s)
tall_if h true r s k l = k
tall_if h false r s k l = l

tall_ok : (h : ℕ) (x : Value) → h < x.height → Tall h (Ok x)
unfolding Tall
tall_ok h x k = k

tall_err : (h : ℕ) (f : Fault) → Tall h (Err f)
unfolding Tall
tall_err h f = tt

pub same : {A : Type 0} (r : Result A Fault) → Same r r
unfolding Same
same (Ok a) = refl
same (Err f) = tt

pub same_err : {A : Type 0} (e : Fault) (r : Result A Fault) → Same (Err e) r
unfolding Same
same_err e r = tt

pub same_then : {A B : Type 0} (r s : Result A Fault) (f g : A → Result B Fault) → Same r s → ((a : A) → Same (f a) (g a)) → Same (r >>= f) (s >>= g)
unfolding Same
same_then (Ok a) s f g e k = subst (λ t. Same (f a) (t >>= g)) (sym e) (k a)
same_then (Err e) s f g h k = tt

same_if : {A : Type 0} (b : Bool) (r s t u : Result A Fault) → Same r s → Same t u → Same (cond b r t) (cond b s u)
same_if true r s t u h k = h
same_if false r s t u h k = k

-- a step that gives no value of a height
same_on : {A : Type 0} (statement levels : ℕ) (r s : Result A Fault) (f g : A → Result Value Fault) → Same r s → ((a : A) → Fits statement levels (f a) (g a)) → Fits statement levels (r >>= f) (s >>= g)
unfolding Same
same_on statement levels (Ok a) s f g e k = subst (λ t. Fits statement levels (f a) (t >>= g)) (sym e) (k a)
same_on statement levels (Err e) s f g h k = tt

same_through : {A B : Type 0} (statement levels : ℕ) (r s : Result A Fault) (g : A → B) (f : B → Result Value Fault) → Same r s → ((a : A) → Fits statement levels (f (g a)) (f (g a))) → Fits statement levels ((r >>= (λ a. Ok (g a))) >>= f) ((s >>= (λ a. Ok (g a))) >>= f)
unfolding Same
same_through statement levels (Ok a) s g f e k = subst (λ t. Fits statement levels (f (g a)) ((t >>= (λ a. Ok (g a))) >>= f)) (sym e) (k a)
same_through statement levels (Err e) s g f h k = tt

done : (statement levels : ℕ) (x : Value) → 0 < x.height → x.height ≤ levels → Fits statement levels (Ok x) (Ok x)
done statement levels x positive fits = (positive, sym (fitted_within statement levels x.height x fits))

fits_if : (statement levels : ℕ) (b : Bool) (r s t u : Result Value Fault) → Fits statement levels r s → Fits statement levels t u → Fits statement levels (cond b r t) (cond b s u)
fits_if statement levels true r s t u h k = h
fits_if statement levels false r s t u h k = k

-- what is higher than a part that does not fit does not fit one level up
too_deep : (statement levels h : ℕ) (r : Result Value Fault) → levels < h → Tall h r → Fits statement (suc levels) r (Err (DeepValue statement))
unfolding Tall
too_deep statement levels h (Ok x) above tall = (omega arith, sym (fitted_above statement (suc levels) x.height x (omega arith)))
too_deep statement levels h (Err f) above tall = tt

part_by : (statement levels : ℕ) (x : Value) (s : Result Value Fault) (f g : Value → Result Value Fault) → s ≡ fitted statement levels x.height x → (x.height ≤ levels → Fits statement (suc levels) (f x) (g x)) → Tall x.height (f x) → (levels < x.height) ⊎ (x.height ≤ levels) → Fits statement (suc levels) (f x) (s >>= g)
part_by statement levels x s f g e k tall (inl above) = subst (λ t. Fits statement (suc levels) (f x) (t >>= g)) (sym (e ∙ fitted_above statement levels x.height x above)) (too_deep statement levels x.height (f x) above tall)
part_by statement levels x s f g e k tall (inr within) = subst (λ t. Fits statement (suc levels) (f x) (t >>= g)) (sym (e ∙ fitted_within statement levels x.height x within)) (k within)

-- a part, one level down
part_on : (statement levels : ℕ) (r s : Result Value Fault) (f g : Value → Result Value Fault) → Fits statement levels r s → ((x : Value) → x.height ≤ levels → Fits statement (suc levels) (f x) (g x)) → ((x : Value) → Tall x.height (f x)) → Fits statement (suc levels) (r >>= f) (s >>= g)
part_on statement levels (Ok x) s f g h k tall = part_by statement levels x s f g h.1 (k x) (tall x) (cases_lt levels x.height)
part_on statement levels (Err e) s f g h k tall = tt

-- steps that follow each other, in one
one_step : {A B C : Type 0} (r : Result A Fault) (f : A → Result B Fault) (g : B → Result C Fault) → ((r >>= f) >>= g) ≡ (r >>= (λ a. f a >>= g))
one_step (Ok a) f g = refl
one_step (Err e) f g = refl

-- a step that makes of a number what the next one reads
made_on : {W : Type 0} (statement levels : ℕ) (r s : Result ℕ Fault) (k : ℕ → W) (f g : W → Result Value Fault) → Same r s → ((n : ℕ) → Fits statement levels (f (k n)) (g (k n)))
    → Fits statement levels ((r >>= (λ n. Ok (k n))) >>= f) ((s >>= (λ n. Ok (k n))) >>= g)
unfolding Same
made_on statement levels (Ok n) s k f g e h = subst (λ t. Fits statement levels (f (k n)) ((t >>= (λ n. Ok (k n))) >>= g)) (sym e) (h n)
made_on statement levels (Err e) s k f g same h = tt

made_tall : {W : Type 0} (h : ℕ) (r : Result ℕ Fault) (k : ℕ → W) (f : W → Result Value Fault) → ((n : ℕ) → Tall h (f (k n))) → Tall h ((r >>= (λ n. Ok (k n))) >>= f)
unfolding Tall
made_tall h (Ok n) k f t = t n
made_tall h (Err e) k f t = tt

module _ (scope : Scope) (known : Known) (one other : ℕ) where
  asked : (x : Option ℕ) (e f : Fault) → Same (or_fault x e) (or_fault x f)
  unfolding Same
  asked None e f = tt
  asked (Some n) e f = refl

  start : (s : ℕ) → Same (v.start_of scope one known s) (v.start_of scope other known s)
  unfolding v.start_of
  start s = asked (known (Start s)) _ _

  load : (s : ℕ) → Same (v.load_of scope one known s) (v.load_of scope other known s)
  unfolding v.load_of
  load s = asked (known (Load s)) _ _

  last : (s : ℕ) → Same (v.end_of scope one known s) (v.end_of scope other known s)
  unfolding v.end_of
  last s = asked (known (End s)) _ _

  dot_by : (place : ℕ) (d : DotSource) → Same (v.dot_by scope one known place d) (v.dot_by scope other known place d)
  dot_by place OfPlace = asked (known (Dot place)) _ _
  dot_by place OfLoad = asked (known (LoadDot place)) _ _
  dot_by place Zero = same _
  dot_by place (OfEnd s) = last s

  dot : (p : Point) → Same (v.dot_of scope one known p) (v.dot_of scope other known p)
  unfolding v.dot_of
  dot p = dot_by p.place p.dot

  pub row : (name : Name) (r : ℕ) → Same (v.row_of scope one known name r) (v.row_of scope other known name r)
  unfolding v.row_of
  row name r = asked (known (Address r)) _ _

  full_in : (o : Option ℕ) (x : Value) → Same (v.full_number_in scope one known o x) (v.full_number_in scope other known o x)
  full_in None x = same _
  full_in (Some s) x = same_if (x.relative || not x.absolute) (v.start_of scope one known s >>= (λ start. v.sum_of x.number start)) (v.start_of scope other known s >>= (λ start. v.sum_of x.number start)) (Ok x.number) (Ok x.number) (same_then _ _ _ _ (start s) (λ n. same _)) (same _)

  pub full : (p : Point) (x : Value) → Same (v.full_number scope one known p x) (v.full_number scope other known p x)
  unfolding v.full_number
  full p x = full_in p.«section» x

  counter_in : (o : Option ℕ) (n : ℕ) → Same (v.counter_in scope one known o n) (v.counter_in scope other known o n)
  counter_in None n = same _
  counter_in (Some s) n = same_then _ _ _ _ (start s) (λ m. same _)

  counter_same : (p : Point) → Same (v.counter scope one known p) (v.counter scope other known p)
  unfolding v.counter
  counter_same p = same_then _ _ _ _ (dot p) (λ n. counter_in p.«section» n)

  multiple_tall_left : (x y : Value) → Tall x.height (v.multiple_value x y)
  unfolding v.multiple_value
  multiple_tall_left x y = tall_on _ _ _ (λ n. tall_ok _ _ (omega arith))

  multiple_tall_right : (x y : Value) → Tall y.height (v.multiple_value x y)
  unfolding v.multiple_value
  multiple_tall_right x y = tall_on _ _ _ (λ n. tall_ok _ _ (omega arith))

  from_start_tall : (statement : ℕ) (name : Name) (w : Whole) (from : ℕ) → Tall w.height (v.from_start scope statement known name w from)
  unfolding v.from_start
  from_start_tall statement name w from = tall_if w.height (nat_lt w.number from) (Err (BeforeSection name)) (Ok (relatively_over (w.number - from) w.height)) (tall_err _ _) (tall_ok _ _ (omega arith))

  symbol_tall_in : (statement : ℕ) (name : Name) (w : Whole) (s t : Option ℕ) → Tall w.height (v.symbol_value_in scope statement known name w s t)
  symbol_tall_in statement name w (Some s) (Some t) = tall_if w.height (s == t) (v.start_of scope statement known s >>= v.from_start scope statement known name w) (Ok (absolutely_over w.number w.height)) (tall_on w.height _ _ (λ n. from_start_tall statement name w n)) (tall_ok _ _ (omega arith))
  symbol_tall_in statement name w (Some s) None = tall_ok _ _ (omega arith)
  symbol_tall_in statement name w None t = tall_ok _ _ (omega arith)

  pub symbol_tall : (statement : ℕ) (name : Name) (of : Option ℕ) (p : Point) (w : Whole) → Tall w.height (v.symbol_value scope statement known name of p w)
  unfolding v.symbol_value
  symbol_tall statement name of p w = symbol_tall_in statement name w of p.«section»

  -- ---- leaves and nodes, where so many levels are left below

  module _ (levels : ℕ) where
    counter_at : (o : Option ℕ) (n : ℕ) → Fits other (suc levels) (v.counter_in scope one known o n) (v.counter_in scope other known o n)
    counter_at None n = done _ _ _ (omega arith) (omega arith)
    counter_at (Some s) n = same_on _ _ _ _ _ _ (start s) (λ m. done _ _ _ (omega arith) (omega arith))

    counter : (p : Point) → Fits other (suc levels) (v.counter scope one known p) (v.counter scope other known p)
    unfolding v.counter
    counter p = same_on _ _ _ _ _ _ (dot p) (λ n. counter_at p.«section» n)

    extent : (s : ℕ) → Fits other (suc levels) (v.extent scope one known s) (v.extent scope other known s)
    unfolding v.extent
    extent s = same_on _ _ _ _ _ _ (last s) (λ n. same_on _ _ _ _ _ _ (start s) (λ m. done _ _ _ (omega arith) (omega arith)))

    size_in : (o : Option ℕ) → Fits other (suc levels) (v.size_in scope one known o) (v.size_in scope other known o)
    size_in None = done _ _ _ (omega arith) (omega arith)
    size_in (Some s) = extent s

    size : (name : Name) → Fits other (suc levels) (v.size scope one known name) (v.size scope other known name)
    unfolding v.size
    size name = size_in (scope.«section» name)

    alignment_in : (o : Option ℕ) → Fits other (suc levels) (Ok (v.alignment_in scope one known o)) (Ok (v.alignment_in scope other known o))
    alignment_in None = done _ _ _ (omega arith) (omega arith)
    alignment_in (Some s) = done _ _ _ (omega arith) (omega arith)

    alignment : (name : Name) → Fits other (suc levels) (Ok (v.alignment scope one known name)) (Ok (v.alignment scope other known name))
    unfolding v.alignment
    alignment name = alignment_in (scope.«section» name)

    defined : (name : Name) → Fits other (suc levels) (Ok (v.defined_value scope one known name)) (Ok (v.defined_value scope other known name))
    unfolding v.defined_value
    defined name = done _ _ _ (omega arith) (omega arith)

    address_in : (of with : ℕ → Result ℕ Fault) → ((s : ℕ) → Same (of s) (with s)) → (name : Name) (o : Option ℕ) → Fits other (suc levels) (v.address_in scope one known of name o) (v.address_in scope other known with name o)
    address_in of with h name None = tt
    address_in of with h name (Some s) = same_on _ _ _ _ _ _ (h s) (λ n. done _ _ _ (omega arith) (omega arith))

    start_named : (name : Name) → Fits other (suc levels) (v.start_named scope one known name) (v.start_named scope other known name)
    unfolding v.start_named
    start_named name = address_in _ _ start name (scope.«section» name)

    load_named : (name : Name) → Fits other (suc levels) (v.load_named scope one known name) (v.load_named scope other known name)
    unfolding v.load_named
    load_named name = address_in _ _ load name (scope.«section» name)

    region_in : (of : Region → Value) → ((r : Region) → (0 < (of r).height) × ((of r).height ≤ 1)) → (name : Name) (o : Option Region) → Fits other (suc levels) (v.region_in scope one known of name o) (v.region_in scope other known of name o)
    region_in of leaf name None = tt
    region_in of leaf name (Some r) = done other (suc levels) (of r) (leaf r).0 (omega (arith, (leaf r).1))

    region_origin : (name : Name) → Fits other (suc levels) (v.region_origin scope one known name) (v.region_origin scope other known name)
    unfolding v.region_origin
    region_origin name = region_in (λ r. absolutely r.origin) (λ r. (omega arith, omega arith)) name (scope.region name)

    region_length : (name : Name) → Fits other (suc levels) (v.region_length scope one known name) (v.region_length scope other known name)
    unfolding v.region_length
    region_length name = region_in (λ r. unmarked r.length) (λ r. (omega arith, omega arith)) name (scope.region name)

    named : (q : Question) (name : Name) → Fits other (suc levels) (v.named_value scope one known q name) (v.named_value scope other known q name)
    named question.Sizeof name = size name
    named question.Alignof name = alignment name
    named question.Addr name = start_named name
    named question.Loadaddr name = load_named name
    named question.Origin name = region_origin name
    named question.Length name = region_length name
    named question.Defined name = defined name

    from_start : (name : Name) (w : Whole) (from : ℕ) → w.height ≤ levels → Fits other (suc levels) (v.from_start scope one known name w from) (v.from_start scope other known name w from)
    unfolding v.from_start
    from_start name w from h = fits_if other (suc levels) (nat_lt w.number from) (Err (BeforeSection name)) (Err (BeforeSection name)) (Ok (relatively_over (w.number - from) w.height)) (Ok (relatively_over (w.number - from) w.height)) tt (done _ _ _ (omega arith) (omega arith))

    symbol_in_section : (name : Name) (w : Whole) (s t : Option ℕ) → w.height ≤ levels → Fits other (suc levels) (v.symbol_value_in scope one known name w s t) (v.symbol_value_in scope other known name w s t)
    symbol_in_section name w (Some s) (Some t) h = fits_if other (suc levels) (s == t) (v.start_of scope one known s >>= v.from_start scope one known name w) (v.start_of scope other known s >>= v.from_start scope other known name w) (Ok (absolutely_over w.number w.height)) (Ok (absolutely_over w.number w.height)) (same_on _ _ _ _ _ _ (start s) (λ n. from_start name w n h)) (done _ _ _ (omega arith) (omega arith))
    symbol_in_section name w (Some s) None h = done _ _ _ (omega arith) (omega arith)
    symbol_in_section name w None t h = done _ _ _ (omega arith) (omega arith)

    pub symbol_read : (name : Name) (of : Option ℕ) (p : Point) (w : Whole) → w.height ≤ levels → Fits other (suc levels) (v.symbol_value scope one known name of p w) (v.symbol_value scope other known name of p w)
    unfolding v.symbol_value
    symbol_read name of p w h = symbol_in_section name w of p.«section» h

    row_made : (name : Name) (r offset s : ℕ) (p : Point) → Fits other (suc levels) (v.row_whole scope one known name r offset >>= v.symbol_value scope one known name (Some s) p) (v.row_whole scope other known name r offset >>= v.symbol_value scope other known name (Some s) p)
    unfolding v.row_whole
    row_made name r offset s p =
        rw (
          one_step (v.row_of scope one known name r) (λ start. v.sum_of start offset >>= (λ n. Ok (record { number = n; height = 0 }))) (v.symbol_value scope one known name (Some s) p),
          one_step (v.row_of scope other known name r) (λ start. v.sum_of start offset >>= (λ n. Ok (record { number = n; height = 0 }))) (v.symbol_value scope other known name (Some s) p),
        )
        (same_on _ _ _ _ _ _ (row name r) (λ n. made_on other (suc levels) (v.sum_of n offset) (v.sum_of n offset) (λ m. record { number = m; height = 0 }) (v.symbol_value scope one known name (Some s) p) (v.symbol_value scope other known name (Some s) p) (same (v.sum_of n offset)) (λ m. symbol_read name (Some s) p (record { number = m; height = 0 }) (omega arith))))

    judgement : (o : Comparison) (p : Point) (left : ℕ) (x y : Value) → x.height ≤ levels → y.height ≤ levels → Fits other (suc levels) (v.judgement scope one known o p left x y) (v.judgement scope other known o p left x y)
    unfolding v.judgement
    judgement o p left x y h k = same_on _ _ _ _ _ _ (full p y) (λ n. done _ _ _ (omega arith) (omega arith))

    multiple : (x y : Value) → x.height ≤ levels → y.height ≤ levels → Fits other (suc levels) (v.multiple_value x y) (v.multiple_value x y)
    unfolding v.multiple_value
    multiple x y h k = same_on _ _ _ _ _ _ (same (v.multiple_from y.number x.number)) (λ n. done _ _ _ (omega arith) (omega arith))

    multiple_of_counter : (p : Point) (x : Value) → x.height ≤ levels → Fits other (suc levels) (v.counter_number scope one known p >>= (λ y. v.multiple_value x y)) (v.counter_number scope other known p >>= (λ y. v.multiple_value x y))
    unfolding v.counter_number
    multiple_of_counter p x fx = same_through other (suc levels) (v.counter scope one known p) (v.counter scope other known p) (λ y. bare y.number) (λ y. v.multiple_value x y) (counter_same p) (λ y. multiple x (bare y.number) fx (omega arith))

    module _ (eval with : List Name → Expression → Point → Result Value Fault) (path : List Name) (h : (path : List Name) (e : Expression) (p : Point) → Fits other levels (eval path e p) (with path e p)) where
      arithmetic_value : (o : Arithmetic) (a b : Expression) (p : Point) → Fits other (suc levels) (v.arithmetic_value scope one known eval path o a b p) (v.arithmetic_value scope other known with path o a b p)
      unfolding v.arithmetic_value
      arithmetic_value o a b p = part_on _ _ _ _ _ _ (h path a p) (λ x fx. part_on _ _ _ _ _ _ (h path b p) (λ y fy. done _ _ _ (omega arith) (omega arith)) (λ y. tall_ok _ _ (omega arith))) (λ x. tall_on _ _ _ (λ y. tall_ok _ _ (omega arith)))

      division_value : (o : Division) (a b : Expression) (p : Point) → Fits other (suc levels) (v.division_value scope one known eval path o a b p) (v.division_value scope other known with path o a b p)
      unfolding v.division_value
      division_value o a b p = part_on _ _ _ _ _ _ (h path b p) (λ y fy. fits_if other (suc levels) (y.number == 0) (Err (v.zero_divisor o one)) (Err (v.zero_divisor o other)) (eval path a p >>= (λ x. Ok (over_both (divided_by o x.number y.number) x y))) (with path a p >>= (λ x. Ok (over_both (divided_by o x.number y.number) x y))) tt (part_on _ _ _ _ _ _ (h path a p) (λ x fx. done _ _ _ (omega arith) (omega arith)) (λ x. tall_ok _ _ (omega arith)))) (λ y. tall_if y.height (y.number == 0) (Err (v.zero_divisor o one)) (eval path a p >>= (λ x. Ok (over_both (divided_by o x.number y.number) x y))) (tall_err _ _) (tall_on _ _ _ (λ x. tall_ok _ _ (omega arith))))

      judgement_tall_left : (o : Comparison) (p : Point) (left : ℕ) (x y : Value) → Tall x.height (v.judgement scope one known o p left x y)
      unfolding v.judgement
      judgement_tall_left o p left x y = tall_on _ _ _ (λ n. tall_ok _ _ (omega arith))

      judgement_tall_right : (o : Comparison) (p : Point) (left : ℕ) (x y : Value) → Tall y.height (v.judgement scope one known o p left x y)
      unfolding v.judgement
      judgement_tall_right o p left x y = tall_on _ _ _ (λ n. tall_ok _ _ (omega arith))

      comparison_value : (o : Comparison) (a b : Expression) (p : Point) → Fits other (suc levels) (v.comparison_value scope one known eval path o a b p) (v.comparison_value scope other known with path o a b p)
      unfolding v.comparison_value
      comparison_value o a b p = part_on _ _ _ _ _ _ (h path a p) (λ x fx. same_on _ _ _ _ _ _ (full p x) (λ left. part_on _ _ _ _ _ _ (h path b p) (λ y fy. judgement o p left x y fx fy) (λ y. judgement_tall_right o p left x y))) (λ x. tall_on x.height (v.full_number scope one known p x) _ (λ left. tall_on x.height (eval path b p) _ (λ y. judgement_tall_left o p left x y)))

      connective_value : (o : Connective) (a b : Expression) (p : Point) → Fits other (suc levels) (v.connective_value scope one known eval path o a b p) (v.connective_value scope other known with path o a b p)
      unfolding v.connective_value
      connective_value o a b p = part_on _ _ _ _ _ _ (h path a p) (λ x fx. fits_if other (suc levels) (decides o x.number) (Ok (over (truth (is_true x.number)) x)) (Ok (over (truth (is_true x.number)) x)) (eval path b p >>= (λ y. Ok (over_both (truth (is_true y.number)) x y))) (with path b p >>= (λ y. Ok (over_both (truth (is_true y.number)) x y))) (done _ _ _ (omega arith) (omega arith)) (part_on _ _ _ _ _ _ (h path b p) (λ y fy. done _ _ _ (omega arith) (omega arith)) (λ y. tall_ok _ _ (omega arith)))) (λ x. tall_if x.height (decides o x.number) (Ok (over (truth (is_true x.number)) x)) (eval path b p >>= (λ y. Ok (over_both (truth (is_true y.number)) x y))) (tall_ok _ _ (omega arith)) (tall_on _ _ _ (λ y. tall_ok _ _ (omega arith))))

      unary_value : (o : Unary) (a : Expression) (p : Point) → Fits other (suc levels) (v.unary_value scope one known eval path o a p) (v.unary_value scope other known with path o a p)
      unfolding v.unary_value
      unary_value o a p = part_on _ _ _ _ _ _ (h path a p) (λ x fx. done _ _ _ (omega arith) (omega arith)) (λ x. tall_ok _ _ (omega arith))

      ternary_value : (c a b : Expression) (p : Point) → Fits other (suc levels) (v.ternary_value scope one known eval path c a b p) (v.ternary_value scope other known with path c a b p)
      unfolding v.ternary_value
      ternary_value c a b p = part_on _ _ _ _ _ _ (h path c p) (λ x fx. part_on _ _ _ _ _ _ (h path (v.chosen_side x.number a b) p) (λ y fy. done _ _ _ (omega arith) (omega arith)) (λ y. tall_ok _ _ (omega arith))) (λ x. tall_on _ _ _ (λ y. tall_ok _ _ (omega arith)))

      align_by : (n : Expression) (a : Option Expression) (p : Point) (x : Value) → x.height ≤ levels → Fits other (suc levels) (v.subject scope one known eval path a p >>= (λ y. v.multiple_value x y)) (v.subject scope other known with path a p >>= (λ y. v.multiple_value x y))
      align_by n (Some a) p x fx = part_on _ _ _ _ _ _ (h path a p) (λ y fy. multiple x y fx fy) (λ y. multiple_tall_right x y)
      align_by n None p x fx = multiple_of_counter p x fx

      align_value : (n : Expression) (a : Option Expression) (p : Point) → Fits other (suc levels) (v.align_value scope one known eval path n a p) (v.align_value scope other known with path n a p)
      unfolding v.align_value
      align_value n a p = part_on _ _ _ _ _ _ (h path n p) (λ x fx. fits_if other (suc levels) (x.number == 0) (Err (AlignZero one)) (Err (AlignZero other)) (v.subject scope one known eval path a p >>= (λ y. v.multiple_value x y)) (v.subject scope other known with path a p >>= (λ y. v.multiple_value x y)) tt (align_by n a p x fx)) (λ x. tall_if x.height (x.number == 0) (Err (AlignZero one)) (v.subject scope one known eval path a p >>= (λ y. v.multiple_value x y)) (tall_err _ _) (tall_on _ _ _ (λ y. multiple_tall_left x y)))

      started_by : (o : Option ℕ) (a : Expression) (p : Point) → Fits other (suc levels) (v.started_by scope one known eval path o a p) (v.started_by scope other known with path o a p)
      started_by (Some n) a p = done _ _ _ (omega arith) (omega arith)
      started_by None a p = part_on _ _ _ _ _ _ (h path a p) (λ x fx. done _ _ _ (omega arith) (omega arith)) (λ x. tall_ok _ _ (omega arith))

      segment_value : (segment : SegmentName) (a : Expression) (p : Point) → Fits other (suc levels) (v.segment_value scope one known eval path segment a p) (v.segment_value scope other known with path segment a p)
      unfolding v.segment_value
      segment_value segment a p = started_by (scope.segment_start segment) a p

      script_made : (name : Name) (q p : Point) (x : Value) → x.height ≤ levels → Fits other (suc levels) (v.value_whole scope one known q x >>= v.symbol_value scope one known name q.«section» p) (v.value_whole scope other known q x >>= v.symbol_value scope other known name q.«section» p)
      unfolding v.value_whole
      script_made name q p x fx = made_on other (suc levels) (v.full_number scope one known q x) (v.full_number scope other known q x) (λ n. record { number = n; height = x.height }) (v.symbol_value scope one known name q.«section» p) (v.symbol_value scope other known name q.«section» p) (full q x) (λ n. symbol_read name q.«section» p (record { number = n; height = x.height }) fx)

      script_tall : (name : Name) (q p : Point) (x : Value) → Tall x.height (v.value_whole scope one known q x >>= v.symbol_value scope one known name q.«section» p)
      unfolding v.value_whole
      script_tall name q p x = made_tall x.height (v.full_number scope one known q x) (λ n. record { number = n; height = x.height }) (v.symbol_value scope one known name q.«section» p) (λ n. symbol_tall one name q.«section» p (record { number = n; height = x.height }))

      symbol_by : (name : Name) (d : Definition) (p : Point) → Fits other (suc levels) (v.symbol_by scope one known eval path name d p) (v.symbol_by scope other known with path name d p)
      unfolding v.symbol_by
      symbol_by name (OfRow r offset s) p = row_made name r offset s p
      symbol_by name (OfScript e q) p =
          rw (
            one_step (eval (name ∷ path) e q) (v.value_whole scope one known q) (v.symbol_value scope one known name q.«section» p),
            one_step (with (name ∷ path) e q) (v.value_whole scope other known q) (v.symbol_value scope other known name q.«section» p),
          )
          (part_on _ _ _ _ _ _ (h (name ∷ path) e q) (λ x fx. script_made name q p x fx) (λ x. script_tall name q p x))

      symbol_in : (name : Name) (o : Option Definition) (p : Point) → Fits other (suc levels) (v.symbol_in scope one known eval path name o p) (v.symbol_in scope other known with path name o p)
      symbol_in name None p = tt
      symbol_in name (Some d) p = fits_if other (suc levels) (v.is_on name path) (Err (SymbolCycle name)) (Err (SymbolCycle name)) (v.symbol_by scope one known eval path name d p) (v.symbol_by scope other known with path name d p) tt (symbol_by name d p)

      symbol : (name : Name) (p : Point) → Fits other (suc levels) (v.symbol scope one known eval path name p) (v.symbol scope other known with path name p)
      unfolding v.symbol
      symbol name p = symbol_in name (definition_of scope name) p

      assert_value : (c : Expression) (message : Name) (at : ℕ) (p : Point) → Fits other (suc levels) (v.assert_value scope one known eval path c message at p) (v.assert_value scope other known with path c message at p)
      unfolding v.assert_value
      assert_value c message at p = part_on _ _ _ _ _ _ (h path c p) (λ x fx. fits_if other (suc levels) (x.number == 0) (Err (AssertFailed (scope.line at) message)) (Err (AssertFailed (scope.line at) message)) (Ok (over x.number x)) (Ok (over x.number x)) tt (done _ _ _ (omega arith) (omega arith))) (λ x. tall_if x.height (x.number == 0) (Err (AssertFailed (scope.line at) message)) (Ok (over x.number x)) (tall_err _ _) (tall_ok _ _ (omega arith)))

      node : (p : Point) (e : Shape Expression) → Fits other (suc levels) (v.node scope one known eval path p e) (v.node scope other known with path p e)
      node p (Number n) = done _ _ _ (omega arith) (omega arith)
      node p LocationCounter = counter p
      node p SizeofHeaders = done _ _ _ (omega arith) (omega arith)
      node p (Symbol name) = symbol name p
      node p (Named q name) = named q name
      node p (Shape.Arithmetic o a b) = arithmetic_value o a b p
      node p (Shape.Division o a b) = division_value o a b p
      node p (Shape.Comparison o a b) = comparison_value o a b p
      node p (Shape.Connective o a b) = connective_value o a b p
      node p (Shape.Unary o a) = unary_value o a p
      node p (Ternary c a b) = ternary_value c a b p
      node p (Align n a) = align_value n a p
      node p (SegmentStart segment a) = segment_value segment a p
      node p (Assert c message at) = assert_value c message at p

  -- the height of a value is positive, so no value fits where no level is left
  none_left : (r : Result Value Fault) (levels : ℕ) (s : Result Value Fault) → Fits other (suc levels) r s → Fits other zero r (Err (DeepValue other))
  none_left (Ok x) levels s h = (h.0, sym (fitted_above other zero x.height x h.0))
  none_left (Err f) levels s h = tt

  exact : (levels more : ℕ) (path : List Name) (e : Expression) (p : Point) → Fits other more (v.value scope one known levels path e p) (v.value scope other known more path e p)
  unfolding v.value
  exact zero more path e p = tt
  exact (suc levels) zero path e p = none_left (v.node scope one known (v.value scope one known levels) path p (shape e)) zero (v.node scope other known (v.value scope other known zero) path p (shape e)) (node zero (v.value scope one known levels) (v.value scope other known zero) path (exact levels zero) p (shape e))
  exact (suc levels) (suc more) path e p = node more (v.value scope one known levels) (v.value scope other known more) path (exact levels more) p (shape e)

pub heights_are_exact : (scope : Scope) (known : Known) (one other : ℕ) (levels more : ℕ) (path : List Name) (e : Expression) (p : Point) → Fits other more (v.value scope one known levels path e p) (v.value scope other known more path e p)
heights_are_exact scope known one other levels more path e p = exact scope known one other levels more path e p
