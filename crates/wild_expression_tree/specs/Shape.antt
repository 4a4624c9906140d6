-- The shape of a node: its kind, with its operator or its name, over its parts.
use Rattle.std.specs.Prelude.{ℕ, max, Bool, true, false, List, [], ◌∷◌, Option, Some, None}
use Rattle.std.specs.Option.{option_map, unwrap_or}
use denote.Ref.{Bor}
use Rattle.wild_names.specs.declared.segment_name.SegmentName.{SegmentName}
use Rattle.wild_expression_tree.specs.declared.operator.Arithmetic.{Arithmetic as ArithmeticOperator}
use Rattle.wild_expression_tree.specs.declared.operator.Arithmetic.TheVariants as arithmetic
use Rattle.wild_expression_tree.specs.declared.operator.Division.{Division as DivisionOperator}
use Rattle.wild_expression_tree.specs.declared.operator.Division.TheVariants as division
use Rattle.wild_expression_tree.specs.declared.operator.Comparison.{Comparison as ComparisonOperator}
use Rattle.wild_expression_tree.specs.declared.operator.Comparison.TheVariants as comparison
use Rattle.wild_expression_tree.specs.declared.operator.Connective.{Connective as ConnectiveOperator}
use Rattle.wild_expression_tree.specs.declared.operator.Connective.TheVariants as connective
use Rattle.wild_expression_tree.specs.declared.operator.Unary.{Unary as UnaryOperator}
use Rattle.wild_expression_tree.specs.declared.operator.Unary.TheVariants as unary
use Rattle.wild_expression_tree.specs.declared.operator.Question.{Question}
use Rattle.wild_expression_tree.specs.declared.operator.Question.TheVariants as question
use Rattle.wild_expression_tree.specs.declared.shape.Shape.{Shape as View}
use Rattle.wild_expression_tree.specs.declared.shape.Shape.TheVariants as view
use Rattle.wild_expression_tree.specs.declared.tree.AssertCommand.{AssertCommand}
use Rattle.wild_expression_tree.specs.declared.tree.Expression.{Expression, out-Expression, size-Expression}
use Rattle.wild_expression_tree.specs.declared.tree.Expression.TheOpen.{Expression-F}
use Rattle.wild_expression_tree.specs.declared.tree.Expression.TheFolds.{fold-Expression}

-- a name, by its bytes
abbrev pub Name : Type 0
Name = List ℕ

-- a node over its parts, each an X
pub data Shape (X : Type 0) : Type 0 where
  Number : ℕ → Shape X
  LocationCounter : Shape X
  SizeofHeaders : Shape X
  Symbol : Name → Shape X
  -- what is asked of a name
  Named : Question → Name → Shape X
  Arithmetic : ArithmeticOperator → X → X → Shape X
  Division : DivisionOperator → X → X → Shape X
  Comparison : ComparisonOperator → X → X → Shape X
  Connective : ConnectiveOperator → X → X → Shape X
  Unary : UnaryOperator → X → Shape X
  -- the condition, the value where it holds, and the value where it does not
  Ternary : X → X → X → Shape X
  -- the alignment, and what is aligned
  Align : X → Option X → Shape X
  SegmentStart : SegmentName → X → Shape X
  -- the condition, what is said where it does not hold, and the position of its bracket
  Assert : X → Name → ℕ → Shape X

-- the shape of one level, where this is said of an ASSERT
abbrev pub shape_of : {X C : Type 0} → (C → X × (Name × ℕ)) → Expression-F X C → Shape X
shape_of said (Expression-F.Number n) = Number n
shape_of said Expression-F.LocationCounter = LocationCounter
shape_of said Expression-F.SizeofHeaders = SizeofHeaders
shape_of said (Expression-F.Symbol s) = Symbol s
shape_of said (Expression-F.Sizeof s) = Named question.Sizeof s
shape_of said (Expression-F.Alignof s) = Named question.Alignof s
shape_of said (Expression-F.Addr s) = Named question.Addr s
shape_of said (Expression-F.Loadaddr s) = Named question.Loadaddr s
shape_of said (Expression-F.Origin s) = Named question.Origin s
shape_of said (Expression-F.Length s) = Named question.Length s
shape_of said (Expression-F.Defined s) = Named question.Defined s
shape_of said (Expression-F.Add x y) = Arithmetic arithmetic.Add x y
shape_of said (Expression-F.Subtract x y) = Arithmetic arithmetic.Subtract x y
shape_of said (Expression-F.Multiply x y) = Arithmetic arithmetic.Multiply x y
shape_of said (Expression-F.BitwiseAnd x y) = Arithmetic arithmetic.BitwiseAnd x y
shape_of said (Expression-F.BitwiseOr x y) = Arithmetic arithmetic.BitwiseOr x y
shape_of said (Expression-F.BitwiseXor x y) = Arithmetic arithmetic.BitwiseXor x y
shape_of said (Expression-F.LeftShift x y) = Arithmetic arithmetic.LeftShift x y
shape_of said (Expression-F.RightShift x y) = Arithmetic arithmetic.RightShift x y
shape_of said (Expression-F.Min x y) = Arithmetic arithmetic.Min x y
shape_of said (Expression-F.Max x y) = Arithmetic arithmetic.Max x y
shape_of said (Expression-F.Divide x y) = Division division.Divide x y
shape_of said (Expression-F.Modulo x y) = Division division.Modulo x y
shape_of said (Expression-F.LessEqual x y) = Comparison comparison.LessEqual x y
shape_of said (Expression-F.GreaterEqual x y) = Comparison comparison.GreaterEqual x y
shape_of said (Expression-F.Equal x y) = Comparison comparison.Equal x y
shape_of said (Expression-F.NotEqual x y) = Comparison comparison.NotEqual x y
shape_of said (Expression-F.LessThan x y) = Comparison comparison.LessThan x y
shape_of said (Expression-F.GreaterThan x y) = Comparison comparison.GreaterThan x y
shape_of said (Expression-F.LogicalAnd x y) = Connective connective.LogicalAnd x y
shape_of said (Expression-F.LogicalOr x y) = Connective connective.LogicalOr x y
shape_of said (Expression-F.LogicalNot x) = Unary unary.LogicalNot x
shape_of said (Expression-F.BitwiseNot x) = Unary unary.BitwiseNot x
shape_of said (Expression-F.Negate x) = Unary unary.Negate x
shape_of said (Expression-F.Ternary x y z) = Ternary x y z
shape_of said (Expression-F.Align x y) = Align x y
shape_of said (Expression-F.SegmentStart s x) = SegmentStart s x
shape_of said (Expression-F.Assert c) = Assert (said c).0 (said c).1.0 (said c).1.1

-- the shape of the outermost node
abbrev pub shape : Expression → Shape Expression
shape e = shape_of (λ (c : AssertCommand). (c.expression, (c.message, c.at))) (out-Expression e)

-- the same shape over other parts
abbrev pub map_shape : {X Y : Type 0} → (X → Y) → Shape X → Shape Y
map_shape f (Number n) = Number n
map_shape f LocationCounter = LocationCounter
map_shape f SizeofHeaders = SizeofHeaders
map_shape f (Symbol s) = Symbol s
map_shape f (Named q s) = Named q s
map_shape f (Arithmetic o x y) = Arithmetic o (f x) (f y)
map_shape f (Division o x y) = Division o (f x) (f y)
map_shape f (Comparison o x y) = Comparison o (f x) (f y)
map_shape f (Connective o x y) = Connective o (f x) (f y)
map_shape f (Unary o x) = Unary o (f x)
map_shape f (Ternary x y z) = Ternary (f x) (f y) (f z)
map_shape f (Align x y) = Align (f x) (option_map f y)
map_shape f (SegmentStart s x) = SegmentStart s (f x)
map_shape f (Assert x message at) = Assert (f x) message at

-- its parts, in written order
abbrev pub parts : {X : Type 0} → Shape X → List X
parts (Arithmetic o x y) = x ∷ y ∷ []
parts (Division o x y) = x ∷ y ∷ []
parts (Comparison o x y) = x ∷ y ∷ []
parts (Connective o x y) = x ∷ y ∷ []
parts (Unary o x) = x ∷ []
parts (Ternary x y z) = x ∷ y ∷ z ∷ []
parts (Align x None) = x ∷ []
parts (Align x (Some y)) = x ∷ y ∷ []
parts (SegmentStart s x) = x ∷ []
parts (Assert x message at) = x ∷ []
parts s = []

-- an optional part that code sees
abbrev pub seen_held : Option (Bor Expression) → Option Expression
seen_held held = option_map (λ x. x.now) held

-- a shape that code sees
abbrev pub seen : View → Shape Expression
seen (view.Number n) = Number n
seen view.LocationCounter = LocationCounter
seen view.SizeofHeaders = SizeofHeaders
seen (view.Symbol s) = Symbol s.now
seen (view.Named q s) = Named q s.now
seen (view.Arithmetic o x y) = Arithmetic o x.now y.now
seen (view.Division o x y) = Division o x.now y.now
seen (view.Comparison o x y) = Comparison o x.now y.now
seen (view.Connective o x y) = Connective o x.now y.now
seen (view.Unary o x) = Unary o x.now
seen (view.Ternary x y z) = Ternary x.now y.now z.now
seen (view.Align x y) = Align x.now (seen_held y)
seen (view.SegmentStart s x) = SegmentStart s x.now
seen (view.Assert c) = Assert c.now.expression c.now.message c.now.at

-- whether it is an operator between two parts
abbrev pub is_operation : {X : Type 0} → Shape X → Bool
is_operation (Arithmetic o x y) = true
is_operation (Division o x y) = true
is_operation (Comparison o x y) = true
is_operation (Connective o x y) = true
is_operation s = false

-- the largest of its parts
abbrev pub largest : Shape ℕ → ℕ
largest (Arithmetic o x y) = max x y
largest (Division o x y) = max x y
largest (Comparison o x y) = max x y
largest (Connective o x y) = max x y
largest (Unary o x) = x
largest (Ternary x y z) = max x (max y z)
largest (Align x y) = max x (unwrap_or y 0)
largest (SegmentStart s x) = x
largest (Assert x message at) = x
largest s = 0

-- the size of an optional part, or 0
abbrev pub size_held : Option Expression → ℕ
size_held x = unwrap_or (option_map size-Expression x) 0

-- the size of the largest part
abbrev pub part_size : Shape Expression → ℕ
part_size s = largest (map_shape size-Expression s)

-- what a function of nodes makes of a whole expression, part by part
abbrev pub fold : {R : Type 0} → (Shape R → R) → Expression → R
fold {R} step = fold-Expression R (R × (Name × ℕ)) (λ l. step (shape_of (λ c. c) l)) (λ c. (c.expression, (c.message, c.at)))
