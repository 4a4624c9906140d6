-- Equal expressions are the same tree, up to the positions of their asserts.
use Rattle.std.proofs.Common.{◌≡◌, ◌∙◌, ◌==◌, ℕ, Some, None, true, refl, sym, ap, true≢false, arith}
use Rattle.std.proofs.lemmas.Bool.{and_parts, eqb-true}
use Rattle.std.proofs.lemmas.Slice.Eq.{bytes_eq-Decides}
use denote.Enum.Bare.{tag_one}
use Rattle.wild_names.specs.contracts.segment_name.SegmentName as segment_name
use Rattle.wild_expression_tree.specs.contracts.operator.Arithmetic as arithmetic
use Rattle.wild_expression_tree.specs.contracts.operator.Division as division
use Rattle.wild_expression_tree.specs.contracts.operator.Comparison as comparison
use Rattle.wild_expression_tree.specs.contracts.operator.Connective as connective
use Rattle.wild_expression_tree.specs.contracts.operator.Unary as unary
use Rattle.wild_expression_tree.specs.contracts.operator.Question as question
use Rattle.wild_expression_tree.specs.declared.operator.Arithmetic.TheVariants as arithmetics
use Rattle.wild_expression_tree.specs.declared.operator.Division.TheVariants as divisions
use Rattle.wild_expression_tree.specs.declared.operator.Comparison.TheVariants as comparisons
use Rattle.wild_expression_tree.specs.declared.operator.Connective.TheVariants as connectives
use Rattle.wild_expression_tree.specs.declared.operator.Unary.TheVariants as unaries
use Rattle.wild_expression_tree.specs.declared.operator.Question.TheVariants as questions
use Rattle.wild_expression_tree.specs.declared.tree.AssertCommand.{AssertCommand}
use Rattle.wild_expression_tree.specs.declared.tree.Expression.{Expression, out-Expression}
use Rattle.wild_expression_tree.specs.declared.tree.Expression.TheOpen.{Expression-F}
use Rattle.wild_expression_tree.specs.declared.tree.Expression.TheFolds.{map-Expression, fold_out-Expression, fold-AssertCommand, fold_out-AssertCommand}
use Rattle.wild_expression_tree.specs.declared.tree.Expression.TheViews.{roll-Expression, out-roll-Expression, roll-out-Expression, roll-AssertCommand, roll-out-AssertCommand}
use Rattle.wild_expression_tree.specs.Shape.{Name, Shape, Number, LocationCounter, SizeofHeaders, Symbol, Named, Ternary, Align, SegmentStart, Assert, shape_of, shape, map_shape}
use Rattle.wild_expression_tree.specs.Equality.{Outline, absent, node, kind, number, name, same_node, unplaced, outlined, outline, outline_eq, erased, same_equiv, EqualityIsSameness}
use Rattle.wild_expression_tree.proofs.Folded.{folded, unique}

-- ---- a shape says all that its node does

abbrev Layer : Type 0
Layer = Expression-F Expression AssertCommand

abbrev said : AssertCommand → Expression × (Name × ℕ)
said c = (c.expression, (c.message, c.at))

abbrev command : Expression → Name → ℕ → AssertCommand
command x message at = roll-AssertCommand (record { expression = x; message = message; at = at })

abbrev level : Shape Expression → Layer
level (Number n) = Expression-F.Number n
level LocationCounter = Expression-F.LocationCounter
level SizeofHeaders = Expression-F.SizeofHeaders
level (Symbol s) = Expression-F.Symbol s
level (Named questions.Sizeof s) = Expression-F.Sizeof s
level (Named questions.Alignof s) = Expression-F.Alignof s
level (Named questions.Addr s) = Expression-F.Addr s
level (Named questions.Loadaddr s) = Expression-F.Loadaddr s
level (Named questions.Origin s) = Expression-F.Origin s
level (Named questions.Length s) = Expression-F.Length s
level (Named questions.Defined s) = Expression-F.Defined s
level (Shape.Arithmetic arithmetics.Add x y) = Expression-F.Add x y
level (Shape.Arithmetic arithmetics.Subtract x y) = Expression-F.Subtract x y
level (Shape.Arithmetic arithmetics.Multiply x y) = Expression-F.Multiply x y
level (Shape.Arithmetic arithmetics.BitwiseAnd x y) = Expression-F.BitwiseAnd x y
level (Shape.Arithmetic arithmetics.BitwiseOr x y) = Expression-F.BitwiseOr x y
level (Shape.Arithmetic arithmetics.BitwiseXor x y) = Expression-F.BitwiseXor x y
level (Shape.Arithmetic arithmetics.LeftShift x y) = Expression-F.LeftShift x y
level (Shape.Arithmetic arithmetics.RightShift x y) = Expression-F.RightShift x y
level (Shape.Arithmetic arithmetics.Min x y) = Expression-F.Min x y
level (Shape.Arithmetic arithmetics.Max x y) = Expression-F.Max x y
level (Shape.Division divisions.Divide x y) = Expression-F.Divide x y
level (Shape.Division divisions.Modulo x y) = Expression-F.Modulo x y
level (Shape.Comparison comparisons.LessEqual x y) = Expression-F.LessEqual x y
level (Shape.Comparison comparisons.GreaterEqual x y) = Expression-F.GreaterEqual x y
level (Shape.Comparison comparisons.Equal x y) = Expression-F.Equal x y
level (Shape.Comparison comparisons.NotEqual x y) = Expression-F.NotEqual x y
level (Shape.Comparison comparisons.LessThan x y) = Expression-F.LessThan x y
level (Shape.Comparison comparisons.GreaterThan x y) = Expression-F.GreaterThan x y
level (Shape.Connective connectives.LogicalAnd x y) = Expression-F.LogicalAnd x y
level (Shape.Connective connectives.LogicalOr x y) = Expression-F.LogicalOr x y
level (Shape.Unary unaries.LogicalNot x) = Expression-F.LogicalNot x
level (Shape.Unary unaries.BitwiseNot x) = Expression-F.BitwiseNot x
level (Shape.Unary unaries.Negate x) = Expression-F.Negate x
level (Ternary x y z) = Expression-F.Ternary x y z
level (Align x y) = Expression-F.Align x y
level (SegmentStart s x) = Expression-F.SegmentStart s x
level (Assert x message at) = Expression-F.Assert (command x message at)

level_back : (l : Layer) → level (shape_of said l) ≡ l
level_back (Expression-F.Assert c) = λ i. Expression-F.Assert (roll-out-AssertCommand c i)
level_back l = refl

abbrev rolled : Shape Expression → Expression
rolled s = roll-Expression (level s)

rolled_back : (e : Expression) → rolled (shape e) ≡ e
rolled_back e = ap roll-Expression (level_back (out-Expression e)) ∙ roll-out-Expression e

-- expressions of one shape are one
pub same_shape : (e f : Expression) → shape e ≡ shape f → e ≡ f
same_shape e f same = sym (rolled_back e) ∙ ap rolled same ∙ rolled_back f

-- ---- erased expressions, part by part

abbrev erased_command : AssertCommand → AssertCommand
erased_command = fold-AssertCommand Expression AssertCommand roll-Expression (λ c. roll-AssertCommand (record c { at = 0 }))

erased_said : (c : AssertCommand) → said (erased_command c) ≡ (erased c.expression, (c.message, 0))
erased_said c = ap said (fold_out-AssertCommand Expression AssertCommand roll-Expression (λ c. roll-AssertCommand (record c { at = 0 })) c)

erased_level : (l : Layer) → shape_of said (map-Expression Expression AssertCommand Expression AssertCommand erased erased_command l) ≡ unplaced (map_shape erased (shape_of said l))
erased_level (Expression-F.Assert c) = λ i. Assert (erased_said c i).0 (erased_said c i).1.0 (erased_said c i).1.1
erased_level (Expression-F.Align x None) = refl
erased_level (Expression-F.Align x (Some y)) = refl
erased_level l = refl

abbrev erased_out : Expression → Layer
erased_out e = map-Expression Expression AssertCommand Expression AssertCommand erased erased_command (out-Expression e)

erased_rolls : (e : Expression) → erased e ≡ roll-Expression (erased_out e)
erased_rolls = fold_out-Expression Expression AssertCommand roll-Expression (λ c. roll-AssertCommand (record c { at = 0 }))

erased_is : (e : Expression) → erased e ≡ rolled (unplaced (map_shape erased (shape e)))
erased_is e = erased_rolls e ∙ ap roll-Expression (sym (level_back (erased_out e))) ∙ ap rolled (erased_level (out-Expression e))

erased_shape : (e : Expression) → shape (erased e) ≡ unplaced (map_shape erased (shape e))
erased_shape e = ap shape (erased_rolls e) ∙ ap (shape_of said) (out-roll-Expression (erased_out e)) ∙ erased_level (out-Expression e)

-- ---- an outline tells the erased expression

abbrev filled : Shape Unit → Expression → Expression → Expression → Shape Expression
filled (Number n) x y z = Number n
filled LocationCounter x y z = LocationCounter
filled SizeofHeaders x y z = SizeofHeaders
filled (Symbol s) x y z = Symbol s
filled (Named q s) x y z = Named q s
filled (Shape.Arithmetic o u v) x y z = Shape.Arithmetic o x y
filled (Shape.Division o u v) x y z = Shape.Division o x y
filled (Shape.Comparison o u v) x y z = Shape.Comparison o x y
filled (Shape.Connective o u v) x y z = Shape.Connective o x y
filled (Shape.Unary o u) x y z = Shape.Unary o x
filled (Ternary u v w) x y z = Ternary x y z
filled (Align u None) x y z = Align x None
filled (Align u (Some v)) x y z = Align x (Some y)
filled (SegmentStart s u) x y z = SegmentStart s x
filled (Assert u message at) x y z = Assert x message at

abbrev rebuild : Outline → Expression
rebuild absent = rolled LocationCounter
rebuild (node l x y z) = rolled (filled (unplaced l) (rebuild x) (rebuild y) (rebuild z))

rebuilt_node : (s : Shape Outline) → rebuild (outlined s) ≡ rolled (unplaced (map_shape rebuild s))
rebuilt_node (Align x None) = refl
rebuilt_node (Align x (Some y)) = refl
rebuilt_node s = refl

composed : {X Y Z : Type 0} (f : Y → Z) (g : X → Y) (s : Shape X) → map_shape f (map_shape g s) ≡ map_shape (λ x. f (g x)) s
composed f g (Align x None) = refl
composed f g (Align x (Some y)) = refl
composed f g s = refl

rebuilt : (e : Expression) → rebuild (outline e) ≡ erased e
rebuilt e =
    unique (λ x. rebuild (outline x)) (λ s. rolled (unplaced s)) (λ x. ap rebuild (folded outlined x) ∙ rebuilt_node (map_shape outline (shape x)) ∙ ap (λ (s : Shape Expression). rolled (unplaced s)) (composed rebuild outline (shape x))) e
    ∙ sym (unique erased (λ s. rolled (unplaced s)) erased_is e)

outlined_level : (s : Shape Expression) → outlined (map_shape outline (unplaced (map_shape erased s))) ≡ outlined (map_shape (λ x. outline (erased x)) s)
outlined_level (Align x None) = refl
outlined_level (Align x (Some y)) = refl
outlined_level s = refl

kept : (e : Expression) → outline (erased e) ≡ outline e
kept = unique (λ x. outline (erased x)) outlined (λ x. folded outlined (erased x) ∙ ap (λ (s : Shape Expression). outlined (map_shape outline s)) (erased_shape x) ∙ outlined_level (shape x))

-- ---- outlines that pass the test are of one expression

same_by : (l m : Shape Unit) → kind l ≡ kind m → number l ≡ number m → name l ≡ name m → unplaced l ≡ unplaced m
same_by (Number a) (Number b) k n s = λ i. Number (n i)
same_by LocationCounter LocationCounter k n s = refl
same_by SizeofHeaders SizeofHeaders k n s = refl
same_by (Symbol a) (Symbol b) k n s = λ i. Symbol (s i)
same_by (Named q a) (Named r b) k n s = λ i. Named (tag_one question.the_type tt q r n i) (s i)
same_by (Shape.Arithmetic o u v) (Shape.Arithmetic p x y) k n s = λ i. Shape.Arithmetic (tag_one arithmetic.the_type tt o p n i) tt tt
same_by (Shape.Division o u v) (Shape.Division p x y) k n s = λ i. Shape.Division (tag_one division.the_type tt o p n i) tt tt
same_by (Shape.Comparison o u v) (Shape.Comparison p x y) k n s = λ i. Shape.Comparison (tag_one comparison.the_type tt o p n i) tt tt
same_by (Shape.Connective o u v) (Shape.Connective p x y) k n s = λ i. Shape.Connective (tag_one connective.the_type tt o p n i) tt tt
same_by (Shape.Unary o u) (Shape.Unary p x) k n s = λ i. Shape.Unary (tag_one unary.the_type tt o p n i) tt
same_by (Ternary u v w) (Ternary x y z) k n s = refl
same_by (Align u None) (Align x None) k n s = refl
same_by (Align u (Some v)) (Align x (Some y)) k n s = refl
same_by (SegmentStart a u) (SegmentStart b x) k n s = λ i. SegmentStart (tag_one segment_name.the_type tt a b n i) tt
same_by (Assert u a i) (Assert x b j) k n s = λ h. Assert tt (s h) 0
same_by l (Align x None) k n s = absurd (omega (arith, k))
same_by l (Align x (Some y)) k n s = absurd (omega (arith, k))
same_by l m k n s = absurd (omega (arith, k))

same_node_is : (l m : Shape Unit) → same_node l m ≡ true → unplaced l ≡ unplaced m
same_node_is l m e =
    let p = and_parts (kind l == kind m) _ e in
    let q = and_parts (number l == number m) _ p.1 in
    same_by l m (eqb-true (kind l) (kind m) p.0) (eqb-true (number l) (number m) q.0) ((bytes_eq-Decides (name l) (name m)).0 q.1)

one_expression : (s t : Outline) → outline_eq s t ≡ true → rebuild s ≡ rebuild t
unfolding outline_eq
one_expression absent absent e = refl
one_expression (node l x y z) (node m u v w) e =
    let p = and_parts (same_node l m) _ e in
    let q = and_parts (outline_eq x u) _ p.1 in
    let t = and_parts (outline_eq y v) _ q.1 in
    let a = same_node_is l m p.0 in
    let b = one_expression x u q.0 in
    let c = one_expression y v t.0 in
    let d = one_expression z w t.1 in
    λ i. rolled (filled (a i) (b i) (c i) (d i))
one_expression s t e = absurd (true≢false (sym e))

pub sameness : EqualityIsSameness
sameness x y = (
  λ h. sym (rebuilt x) ∙ one_expression (outline x) (outline y) h ∙ rebuilt y,
  λ e. ap (λ (s : Outline). outline_eq (outline x) s) (sym (sym (kept x) ∙ ap outline e ∙ kept y)) ∙ same_equiv.refl x,
)
