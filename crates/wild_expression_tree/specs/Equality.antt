-- When two expressions are equal.
use Rattle.std.specs.Prelude.{◌≡◌, ◌↔◌, ℕ, Bool, true, false, ◌&&◌, ◌==◌, [], Option, Some, None, nat_eq, slice_get}
use Rattle.std.specs.Cmp.{IsEquivalence, on_equiv, and_equiv, nat_eq_equiv}
use Rattle.std.specs.Cmp.Lexicographic.{pointwise, nat_list_eq_equiv}
use Rattle.std.proofs.Common.{refl, sym, true≢false}
use Rattle.std.proofs.lemmas.Bool.{and_parts}
use Rattle.std.specs.Ordering.{on, eq_of_both}
use denote.Enum.Declared.{tag_of}
use Rattle.wild_names.specs.contracts.segment_name.SegmentName as segment_name
use Rattle.wild_expression_tree.specs.contracts.operator.Arithmetic as arithmetic
use Rattle.wild_expression_tree.specs.contracts.operator.Division as division
use Rattle.wild_expression_tree.specs.contracts.operator.Comparison as comparison
use Rattle.wild_expression_tree.specs.contracts.operator.Connective as connective
use Rattle.wild_expression_tree.specs.contracts.operator.Unary as unary
use Rattle.wild_expression_tree.specs.contracts.operator.Question as question
use Rattle.wild_expression_tree.specs.declared.tree.AssertCommand.{AssertCommand}
use Rattle.wild_expression_tree.specs.declared.tree.Expression.{Expression}
use Rattle.wild_expression_tree.specs.declared.tree.Expression.TheFolds.{fold-Expression}
use Rattle.wild_expression_tree.specs.declared.tree.Expression.TheViews.{roll-Expression, roll-AssertCommand}
use Rattle.wild_expression_tree.specs.Shape.{Name, Shape, Number, LocationCounter, SizeofHeaders, Symbol, Named, Ternary, Align, SegmentStart, Assert, map_shape, parts, fold}

-- ---- a node without its parts

-- the number of its kind; that of ALIGN tells whether what is aligned is given
abbrev pub kind : {X : Type 0} → Shape X → ℕ
kind (Number n) = 0
kind LocationCounter = 1
kind SizeofHeaders = 2
kind (Symbol s) = 3
kind (Named q s) = 4
kind (Shape.Arithmetic o x y) = 5
kind (Shape.Division o x y) = 6
kind (Shape.Comparison o x y) = 7
kind (Shape.Connective o x y) = 8
kind (Shape.Unary o x) = 9
kind (Ternary x y z) = 10
kind (Align x None) = 11
kind (Align x (Some y)) = 12
kind (SegmentStart s x) = 13
kind (Assert x message at) = 14

-- its number, or that of its operator
abbrev pub number : {X : Type 0} → Shape X → ℕ
number (Number n) = n
number (Named q s) = tag_of question.the_type q
number (Shape.Arithmetic o x y) = tag_of arithmetic.the_type o
number (Shape.Division o x y) = tag_of division.the_type o
number (Shape.Comparison o x y) = tag_of comparison.the_type o
number (Shape.Connective o x y) = tag_of connective.the_type o
number (Shape.Unary o x) = tag_of unary.the_type o
number (SegmentStart s x) = tag_of segment_name.the_type s
number s = 0

-- the name or the text in it
abbrev pub name : {X : Type 0} → Shape X → Name
name (Symbol s) = s
name (Named q s) = s
name (Assert x message at) = message
name s = []

-- two nodes of one kind with the same number and the same name, whatever their parts
abbrev pub same_node : {X : Type 0} → Shape X → Shape X → Bool
same_node s t = (kind s == kind t) && ((number s == number t) && pointwise nat_eq (name s) (name t))

-- ---- the whole tree

-- an expression without the positions of its asserts: a node without its parts, and up to three parts
pub data Outline : Type 0 where
  absent : Outline
  node : Shape Unit → Outline → Outline → Outline → Outline

-- the shape with its ASSERT at position 0
abbrev pub unplaced : {X : Type 0} → Shape X → Shape X
unplaced (Assert x message at) = Assert x message 0
unplaced s = s

-- the outline that is held, if there is one
abbrev pub held_outline : Option Outline → Outline
held_outline None = absent
held_outline (Some x) = x

-- the part at this place, or `absent` where it has none
abbrev pub part_at : Shape Outline → ℕ → Outline
part_at s i = held_outline (slice_get (parts s) i)

-- a node over the outlines of its parts
abbrev pub outlined : Shape Outline → Outline
outlined s = node (map_shape (λ x. tt) (unplaced s)) (part_at s 0) (part_at s 1) (part_at s 2)

-- the whole expression
abbrev pub outline : Expression → Outline
outline = fold outlined

-- an operand that may be missing
abbrev pub operand : Option Expression → Outline
operand None = absent
operand (Some x) = outline x

-- the expression with its asserts at position 0
abbrev pub erased : Expression → Expression
erased = fold-Expression Expression AssertCommand roll-Expression (λ c. roll-AssertCommand (record c { at = 0 }))

-- ---- equality

-- whether two outlines are the same
unfoldable pub outline_eq : Outline → Outline → Bool
outline_eq absent absent = true
outline_eq (node l x y z) (node m u v w) = same_node l m && (outline_eq x u && (outline_eq y v && outline_eq z w))
outline_eq s t = false

-- whether two expressions are the same, up to the positions of their asserts
abbrev pub same : Expression → Expression → Bool
same x y = outline_eq (outline x) (outline y)

-- the same of two asserts: their expressions and their messages
abbrev pub same_assert : AssertCommand → AssertCommand → Bool
same_assert = eq_of_both (on (λ a. a.expression) same) (on (λ a. a.message) (pointwise nat_eq))

-- two expressions are equal where they are the same tree, with their asserts at position 0
abbrev pub EqualityIsSameness : Type 0
EqualityIsSameness = (x y : Expression) → (same x y ≡ true) ↔ (erased x ≡ erased y)

-- ---- laws

same_node_equiv : IsEquivalence (same_node {X = Unit})
same_node_equiv = and_equiv (on_equiv (λ (s : Shape Unit). kind s) nat_eq_equiv) (and_equiv (on_equiv (λ (s : Shape Unit). number s) nat_eq_equiv) (on_equiv (λ (s : Shape Unit). name s) nat_list_eq_equiv))

itself : (s : Outline) → outline_eq s s ≡ true
unfolding outline_eq
itself absent = refl
itself (node l x y z) = λ i. same_node_equiv.refl l i && (itself x i && (itself y i && itself z i))

turned : (s t : Outline) → outline_eq s t ≡ outline_eq t s
unfolding outline_eq
turned (node l x y z) (node m u v w) = λ i. same_node_equiv.symm l m i && (turned x u i && (turned y v i && turned z w i))
turned absent absent = refl
turned s t = refl

alike : (s t r : Outline) → outline_eq s t ≡ true → outline_eq s r ≡ outline_eq t r
unfolding outline_eq
alike absent absent r e = refl
alike (node l x y z) (node m u v w) absent e = refl
alike (node l x y z) (node m u v w) (node k a b c) e =
    let p = and_parts (same_node l m) _ e in
    let q = and_parts (outline_eq x u) _ p.1 in
    let t = and_parts (outline_eq y v) _ q.1 in
    λ i. same_node_equiv.congr l m k p.0 i && (alike x u a q.0 i && (alike y v b t.0 i && alike z w c t.1 i))
alike s t r e = absurd (true≢false (sym e))

outline_eq_equiv : IsEquivalence outline_eq
outline_eq_equiv = record { refl = itself; symm = turned; congr = alike }

-- sameness is an equivalence
pub same_equiv : IsEquivalence same
same_equiv = on_equiv outline outline_eq_equiv

pub same_assert_equiv : IsEquivalence same_assert
same_assert_equiv = and_equiv (on_equiv (λ a. a.expression) same_equiv) (on_equiv (λ a. a.message) nat_list_eq_equiv)
