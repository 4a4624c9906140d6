-- A fold goes part by part, and nothing else does.
use Rattle.std.proofs.Common.{◌≡◌, ◌∙◌, ℕ, Some, None, refl, sym, ap, subst}
use Rattle.wild_expression_tree.specs.Shape.{Name, Shape, Ternary, Align, SegmentStart, Assert, shape_of, shape, map_shape, fold}
use Rattle.wild_expression_tree.specs.declared.tree.AssertCommand.{AssertCommand}
use Rattle.wild_expression_tree.specs.declared.tree.Expression.{Expression, out-Expression}
use Rattle.wild_expression_tree.specs.declared.tree.Expression.TheOpen.{Expression-F}
use Rattle.wild_expression_tree.specs.declared.tree.Expression.TheFolds.{fold_out-Expression, map-Expression, fold-AssertCommand, fold_out-AssertCommand, ind-Expression}
use Rattle.wild_expression_tree.specs.declared.tree.Expression.TheViews.{roll-Expression, out-roll-Expression}

-- what is said of an ASSERT
abbrev Said : Type 0 → Type 0
Said X = X × (Name × ℕ)

-- what is said of a level whose parts and asserts were replaced
natural : {X C Y D : Type 0} (f : X → Y) (g : C → D) (p : C → Said X) (q : D → Said Y) → ((c : C) → q (g c) ≡ (f (p c).0, (p c).1)) → (l : Expression-F X C)
    → shape_of q (map-Expression X C Y D f g l) ≡ map_shape f (shape_of p l)
natural f g p q h (Expression-F.Assert c) = λ i. Assert (h c i).0 (h c i).1.0 (h c i).1.1
natural f g p q h (Expression-F.Align x None) = refl
natural f g p q h (Expression-F.Align x (Some y)) = refl
natural f g p q h l = refl

pub folded : {R : Type 0} (step : Shape R → R) (e : Expression) → fold step e ≡ step (map_shape (fold step) (shape e))
folded {R} step e =
    let node : Expression-F R (Said R) → R = λ l. step (shape_of (λ c. c) l) in
    fold_out-Expression R (Said R) node (λ c. (c.expression, (c.message, c.at))) e
    ∙ ap step (natural (fold step) (fold-AssertCommand R (Said R) node (λ c. (c.expression, (c.message, c.at)))) _ (λ c. c) (fold_out-AssertCommand R (Said R) node (λ c. (c.expression, (c.message, c.at)))) (out-Expression e))

-- two functions that agree on the parts
agree : {X Y Z : Type 0} (k : X → Y) (f g : Y → Z) → ((x : X) → f (k x) ≡ g (k x)) → (s : Shape X) → map_shape f (map_shape k s) ≡ map_shape g (map_shape k s)
agree k f g h (Shape.Arithmetic o x y) = λ i. Shape.Arithmetic o (h x i) (h y i)
agree k f g h (Shape.Division o x y) = λ i. Shape.Division o (h x i) (h y i)
agree k f g h (Shape.Comparison o x y) = λ i. Shape.Comparison o (h x i) (h y i)
agree k f g h (Shape.Connective o x y) = λ i. Shape.Connective o (h x i) (h y i)
agree k f g h (Shape.Unary o x) = λ i. Shape.Unary o (h x i)
agree k f g h (Ternary x y z) = λ i. Ternary (h x i) (h y i) (h z i)
agree k f g h (Align x None) = λ i. Align (h x i) None
agree k f g h (Align x (Some y)) = λ i. Align (h x i) (Some (h y i))
agree k f g h (SegmentStart s x) = λ i. SegmentStart s (h x i)
agree k f g h (Assert x message at) = λ i. Assert (h x i) message at
agree k f g h s = refl

-- what goes part by part is the fold
pub unique : {R : Type 0} (f : Expression → R) (step : Shape R → R) → ((e : Expression) → f e ≡ step (map_shape f (shape e))) → (e : Expression) → f e ≡ fold step e
unique {R} f step h = ind-Expression (λ e. f e ≡ fold step e) (λ c. f c.expression ≡ fold step c.expression) (λ x y is.
    let e = roll-Expression x in
    let parts : shape e ≡ map_shape (λ p. p.0) (shape_of (λ c. ((c.0.expression, c.1), (c.0.message, c.0.at))) y) =
    (λ i. shape_of (λ (c : AssertCommand). (c.expression, (c.message, c.at))) (out-roll-Expression x i))
    ∙ (λ i. shape_of (λ (c : AssertCommand). (c.expression, (c.message, c.at))) (sym is i))
    ∙ natural (λ p. p.0) (λ p. p.0) (λ c. ((c.0.expression, c.1), (c.0.message, c.0.at))) (λ (c : AssertCommand). (c.expression, (c.message, c.at))) (λ c. refl) y in
    let same : map_shape f (shape e) ≡ map_shape (fold step) (shape e) =
    (λ i. map_shape f (parts i)) ∙ agree (λ p. p.0) f (fold step) (λ p. p.1) _ ∙ (λ i. map_shape (fold step) (sym parts i)) in
    h e ∙ ap step same ∙ sym (folded step e)) (λ x y is. subst (λ z. f z.expression ≡ fold step z.expression) is y.expression.1)
