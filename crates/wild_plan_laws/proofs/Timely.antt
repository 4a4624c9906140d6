-- Where all that an expression may ask for is known, its value is not the fault of what is not laid out.
use Rattle.std.proofs.Common.{◌≡◌, ℕ, zero, suc, ◌+◌, ◌^◌, nat_lt, Bool, true, false, not, ◌||◌, ◌==◌, cond, List, ◌∷◌, Option, Some, None, Result, Ok, Err, refl}
use Rattle.std.specs.Prelude.{IfSome}
use Rattle.wild_ids.specs.Alignment.{rounded_up}
use Rattle.wild_names.specs.declared.fault.Fault.{Fault}
use Rattle.wild_names.specs.declared.fault.Fault.TheVariants.{NotLaidOut}
use Rattle.wild_expression_tree.specs.declared.tree.AssertCommand.{AssertCommand}
use Rattle.wild_expression_tree.specs.declared.tree.Expression.{Expression}
use Rattle.wild_expression_tree.specs.Shape.{Shape, LocationCounter, Symbol, Named, Ternary, Align, SegmentStart, Assert, shape}
use Rattle.wild_expression_tree.specs.declared.operator.Division.{Division}
use Rattle.wild_expression_tree.specs.declared.operator.Division.TheVariants as division
use Rattle.wild_expression_tree.specs.declared.operator.Question.{Question}
use Rattle.wild_expression_tree.specs.declared.operator.Question.TheVariants as question
use Rattle.wild_value_spec.specs.declared.region.Region.{Region}
use Rattle.wild_value_spec.specs.declared.value.DotSource.{DotSource}
use Rattle.wild_value_spec.specs.declared.value.DotSource.TheVariants.{OfPlace, OfLoad, Zero, OfEnd}
use Rattle.wild_value_spec.specs.declared.value.Point.{Point}
use Rattle.wild_value_spec.specs.declared.value.Value.{Value}
use Rattle.wild_value_spec.specs.declared.value.Whole.{Whole}
use Rattle.wild_value_spec.specs.Answer.{◌>>=◌, or_fault}
use Rattle.wild_value_spec.specs.Known.{Known, Asked, Start, Load, End, Address, Dot, LoadDot}
use Rattle.wild_value_spec.specs.Numbers.{decides}
use Rattle.wild_value_spec.specs.Scope.{Name, Definition, OfRow, OfScript, Scope, definition_of, home}
use Rattle.wild_value_spec.specs.Value as v
use Rattle.wild_value_laws.specs.Stable.{IsEarly}
use Rattle.wild_walk_laws.specs.Holding.{IsKnown}

-- ---- answers

-- it does not ask for what is not laid out
pub record IsTimely {A : Type 0} (r : Result A Fault) : Type 0 where
  pub timely : IsEarly r → ⊥

-- a value does not, nor does a fault that is another one
ok : {A : Type 0} (x : A) → IsTimely {A = A} (Ok x)
ok x = record { timely = λ e. e }

on_by : {A B : Type 0} (r : Result A Fault) (f : A → Result B Fault) → (IsEarly r → ⊥) → ((x : A) → IsTimely (f x)) → IsTimely (r >>= f)
on_by (Ok x) f h g = g x
on_by (Err e) f h g = record { timely = h }

pub on : {A B : Type 0} {r : Result A Fault} {f : A → Result B Fault} → IsTimely r → ((x : A) → IsTimely (f x)) → IsTimely (r >>= f)
on {r} {f} h g = on_by r f h.timely g

pub choose : {A : Type 0} (t : Bool) {r s : Result A Fault} → IsTimely r → IsTimely s → IsTimely (cond t r s)
choose true h k = h
choose false h k = k

sum_timely : (x y : ℕ) → IsTimely (v.sum_of x y)
unfolding v.sum_of
sum_timely x y = choose (nat_lt (x + y) (2 ^ 64)) (ok _) (record { timely = λ e. e })

multiple_timely : (x align : ℕ) → IsTimely (v.multiple_from x align)
unfolding v.multiple_from
multiple_timely x align = choose (nat_lt (rounded_up align x) (2 ^ 64)) (ok _) (record { timely = λ e. e })

-- ---- what may be asked

module _ (known : Known) where
  -- the numbers of a section
  abbrev pub IsSectionKnown : ℕ → Type 0
  IsSectionKnown s = IsKnown known (Start s) × IsKnown known (Load s) × IsKnown known (End s)

  abbrev pub IsDotKnown : ℕ → DotSource → Type 0
  IsDotKnown place OfPlace = IsKnown known (Dot place)
  IsDotKnown place OfLoad = IsKnown known (LoadDot place)
  IsDotKnown place Zero = Unit {0}
  IsDotKnown place (OfEnd s) = IsKnown known (End s)

  -- the start of the section, if there is one
  abbrev pub IsHomeKnown : Option ℕ → Type 0
  IsHomeKnown o = IfSome o (λ s. IsKnown known (Start s))

  pub record IsPointKnown (p : Point) : Type 0 where
    pub dot : IsDotKnown p.place p.dot
    pub start : IsHomeKnown p.«section»

  abbrev pub IsDefinitionKnown : Definition → Type 0
  IsDefinitionKnown (OfRow row offset s) = IsKnown known (Address row) × IsKnown known (Start s)
  IsDefinitionKnown (OfScript e p) = IsPointKnown p

  home_known : (d : Definition) → IsDefinitionKnown d → IsHomeKnown (home d)
  home_known (OfRow row offset s) k = k.1
  home_known (OfScript e p) k = k.start

  -- all that a scope names
  pub record IsScopeKnown (scope : Scope) : Type 0 where
    pub sections : (name : Name) (s : ℕ) → scope.«section» name ≡ Some s → IsSectionKnown s
    pub definitions : (name : Name) (d : Definition) → definition_of scope name ≡ Some d → IsDefinitionKnown d

module _ (scope : Scope) (statement : ℕ) (known : Known) (all : IsScopeKnown known scope) where
  asked : (x : Asked) (name : Name) → IsKnown known x → IsTimely (or_fault (known x) (NotLaidOut statement name))
  asked x name k = rw k.1 (ok k.0)

  start : (s : ℕ) → IsKnown known (Start s) → IsTimely (v.start_of scope statement known s)
  unfolding v.start_of
  start s k = asked (Start s) _ k

  dot_by : (place : ℕ) (d : DotSource) → IsDotKnown known place d → IsTimely (v.dot_by scope statement known place d)
  unfolding v.end_of
  dot_by place OfPlace k = asked (Dot place) _ k
  dot_by place OfLoad k = asked (LoadDot place) _ k
  dot_by place Zero k = ok 0
  dot_by place (OfEnd s) k = asked (End s) _ k

  -- ---- full numbers and `.`

  full_number_in : (o : Option ℕ) (x : Value) → IsHomeKnown known o → IsTimely (v.full_number_in scope statement known o x)
  full_number_in None x k = ok _
  full_number_in (Some s) x k = choose (x.relative || not x.absolute) (on (start s k) (λ n. sum_timely x.number n)) (ok _)

  full_number : (p : Point) (x : Value) → IsPointKnown known p → IsTimely (v.full_number scope statement known p x)
  unfolding v.full_number
  full_number p x k = full_number_in p.«section» x k.start

  counter_in : (o : Option ℕ) (n : ℕ) → IsHomeKnown known o → IsTimely (v.counter_in scope statement known o n)
  counter_in None n k = ok _
  counter_in (Some s) n k = on (start s k) (λ m. ok _)

  counter : (p : Point) → IsPointKnown known p → IsTimely (v.counter scope statement known p)
  unfolding v.counter v.dot_of
  counter p k = on (dot_by p.place p.dot k.dot) (λ n. counter_in p.«section» n k.start)

  -- ---- what is asked of names

  size_in : (o : Option ℕ) → ((s : ℕ) → o ≡ Some s → IsSectionKnown known s) → IsTimely (v.size_in scope statement known o)
  unfolding v.extent v.end_of v.start_of
  size_in None k = ok _
  size_in (Some s) k = on (asked (End s) _ (k s refl).2) (λ n. on (asked (Start s) _ (k s refl).0) (λ m. ok _))

  address_in : (of : ℕ → Result ℕ Fault) (name : Name) (o : Option ℕ) → ((s : ℕ) → o ≡ Some s → IsTimely (of s)) → IsTimely (v.address_in scope statement known of name o)
  address_in of name None k = record { timely = λ e. e }
  address_in of name (Some s) k = on (k s refl) (λ n. ok _)

  region_in : (of : Region → Value) (name : Name) (o : Option Region) → IsTimely (v.region_in scope statement known of name o)
  region_in of name None = record { timely = λ e. e }
  region_in of name (Some r) = ok _

  named_value : (q : Question) (name : Name) → IsTimely (v.named_value scope statement known q name)
  unfolding v.size v.start_named v.load_named v.start_of v.load_of v.region_origin v.region_length
  named_value question.Sizeof name = size_in (scope.«section» name) (all.sections name)
  named_value question.Addr name = address_in _ name (scope.«section» name) (λ s e. asked (Start s) _ (all.sections name s e).0)
  named_value question.Loadaddr name = address_in _ name (scope.«section» name) (λ s e. asked (Load s) _ (all.sections name s e).1)
  named_value question.Origin name = region_in _ name (scope.region name)
  named_value question.Length name = region_in _ name (scope.region name)
  named_value q name = record { timely = λ e. e }

  symbol_value_in : (name : Name) (w : Whole) (o t : Option ℕ) → IsHomeKnown known o → IsTimely (v.symbol_value_in scope statement known name w o t)
  unfolding v.from_start
  symbol_value_in name w (Some s) (Some t) k = choose (s == t) (on (start s k) (λ n. choose (nat_lt w.number n) (record { timely = λ e. e }) (ok _))) (ok _)
  symbol_value_in name w (Some s) None k = ok _
  symbol_value_in name w None t k = ok _

  divisor : {A : Type 0} (o : Division) → IsTimely {A = A} (Err (v.zero_divisor o statement))
  divisor division.Divide = record { timely = λ e. e }
  divisor division.Modulo = record { timely = λ e. e }

  -- ---- nodes, over parts that do not ask for it

  module _ (eval : List Name → Expression → Point → Result Value Fault) (path : List Name)
      (part : (path : List Name) (e : Expression) (p : Point) → IsPointKnown known p → IsTimely (eval path e p)) where
    whole : (name : Name) (d : Definition) → IsDefinitionKnown known d → IsTimely (v.whole scope statement known eval path (name ∷ path) name d)
    unfolding v.row_whole v.row_of v.value_whole
    whole name (OfRow row offset s) k = on (asked (Address row) name k.0) (λ n. on (sum_timely n offset) (λ m. ok _))
    whole name (OfScript e q) k = on (part (name ∷ path) e q k) (λ x. on (full_number q x k) (λ n. ok _))

    symbol_in : (name : Name) (o : Option Definition) (p : Point) → ((d : Definition) → o ≡ Some d → IsDefinitionKnown known d) → IsTimely (v.symbol_in scope statement known eval path name o p)
    unfolding v.symbol_by v.symbol_value
    symbol_in name None p k = record { timely = λ e. e }
    symbol_in name (Some d) p k = choose (v.is_on name path) (record { timely = λ e. e }) (on (whole name d (k d refl)) (λ w. symbol_value_in name w (home d) p.«section» (home_known known d (k d refl))))

    subject : (a : Option Expression) (p : Point) → IsPointKnown known p → IsTimely (v.subject scope statement known eval path a p)
    unfolding v.counter_number
    subject (Some a) p k = part path a p k
    subject None p k = on (counter p k) (λ x. ok _)

    started_by : (o : Option ℕ) (a : Expression) (p : Point) → IsPointKnown known p → IsTimely (v.started_by scope statement known eval path o a p)
    started_by (Some n) a p k = ok _
    started_by None a p k = on (part path a p k) (λ x. ok _)

    assert_value : (c : Expression) (message : Name) (at : ℕ) (p : Point) → IsPointKnown known p → IsTimely (v.assert_value scope statement known eval path c message at p)
    unfolding v.assert_value
    assert_value c message at p k = on (part path c p k) (λ x. choose (x.number == 0) (record { timely = λ e. e }) (ok _))

    node : (p : Point) (s : Shape Expression) → IsPointKnown known p → IsTimely (v.node scope statement known eval path p s)
    unfolding v.arithmetic_value v.division_value v.comparison_value v.judgement v.connective_value v.unary_value v.ternary_value v.align_value v.multiple_value v.segment_value v.symbol
    node p LocationCounter k = counter p k
    node p (Symbol name) k = symbol_in name (definition_of scope name) p (all.definitions name)
    node p (Named q name) k = named_value q name
    node p (Shape.Arithmetic o a b) k = on (part path a p k) (λ x. on (part path b p k) (λ y. ok _))
    node p (Shape.Division o a b) k = on (part path b p k) (λ y. choose (y.number == 0) (divisor o) (on (part path a p k) (λ x. ok _)))
    node p (Shape.Comparison o a b) k = on (part path a p k) (λ x. on (full_number p x k) (λ left. on (part path b p k) (λ y. on (full_number p y k) (λ right. ok _))))
    node p (Shape.Connective o a b) k = on (part path a p k) (λ x. choose (decides o x.number) (ok _) (on (part path b p k) (λ y. ok _)))
    node p (Shape.Unary o a) k = on (part path a p k) (λ x. ok _)
    node p (Ternary c a b) k = on (part path c p k) (λ x. on (part path (v.chosen_side x.number a b) p k) (λ y. ok _))
    node p (Align n a) k = on (part path n p k) (λ align. choose (align.number == 0) (record { timely = λ e. e }) (on (subject a p k) (λ x. on (multiple_timely x.number align.number) (λ m. ok _))))
    node p (SegmentStart segment a) k = started_by (scope.segment_start segment) a p k
    node p (Assert c message at) k = assert_value c message at p k
    node p s k = record { timely = λ e. e }

  value_timely : (levels : ℕ) (path : List Name) (e : Expression) (p : Point) → IsPointKnown known p → IsTimely (v.value scope statement known levels path e p)
  unfolding v.value
  value_timely zero path e p k = record { timely = λ e. e }
  value_timely (suc h) path e p k = node (v.value scope statement known h) path (value_timely h) p (shape e) k

  pub full_timely : (levels : ℕ) (path : List Name) (e : Expression) (p : Point) → IsPointKnown known p → IsTimely (v.full scope statement known levels path e p)
  unfolding v.full
  full_timely levels path e p k = on (value_timely levels path e p k) (λ x. full_number p x k)

  pub assert_timely : (command : AssertCommand) (p : Point) → IsPointKnown known p → IsTimely (v.assert_statement scope statement known command p)
  unfolding v.assert_statement
  assert_timely command p k = assert_value _ _ (value_timely _) command.expression command.message command.at p k
