-- Sameness of expressions, part by part.
use Rattle.std.proofs.Common.{◌≡◌, ◌∙◌, ℕ, Some, None, false, ◌&&◌, refl}
use Rattle.std.specs.Prelude.{slice_get}
use Rattle.wild_expression_tree.specs.Equality.{Outline, absent, kind, number, name, same_node, unplaced, part_at, operand, outline, outlined, outline_eq, same}
use Rattle.wild_expression_tree.specs.Shape.{Shape, Align, map_shape, parts, shape}
use Rattle.wild_expression_tree.specs.declared.tree.Expression.{Expression}
use Rattle.wild_expression_tree.proofs.Folded.{folded}

-- a node without its parts is as it was
forgotten : {X Y Z : Type 0} (f : X → Y) (g : Y → Z) (s : Shape X) → (kind (map_shape g (unplaced (map_shape f s))) ≡ kind s) × (number (map_shape g (unplaced (map_shape f s))) ≡ number s) × (name (map_shape g (unplaced (map_shape f s))) ≡ name s)
forgotten f g (Align x None) = (refl, refl, refl)
forgotten f g (Align x (Some y)) = (refl, refl, refl)
forgotten f g s = (refl, refl, refl)

same-forgotten : {X Y Z : Type 0} (f : X → Y) (g : Y → Z) (s t : Shape X) → same_node (map_shape g (unplaced (map_shape f s))) (map_shape g (unplaced (map_shape f t))) ≡ same_node s t
same-forgotten f g s t =
    let p = forgotten f g s in
    let q = forgotten f g t in
    rw (p.0, p.1, p.2, q.0, q.1, q.2)

outline_is : (x : Expression) → outline x ≡ outlined (map_shape outline (shape x))
outline_is x = folded outlined x

-- the outlines of the parts are the parts of the outline
outlined_parts : (s : Shape Expression) → (part_at (map_shape outline s) 0 ≡ operand (slice_get (parts s) 0)) × (part_at (map_shape outline s) 1 ≡ operand (slice_get (parts s) 1)) × (part_at (map_shape outline s) 2 ≡ operand (slice_get (parts s) 2))
outlined_parts (Align x None) = (refl, refl, refl)
outlined_parts (Align x (Some y)) = (refl, refl, refl)
outlined_parts s = (refl, refl, refl)

abbrev operand_at : Expression → ℕ → Outline
operand_at e i = operand (slice_get (parts (shape e)) i)

pub same-parts : (x y : Expression) → same x y ≡ (same_node (shape x) (shape y) && (outline_eq (operand_at x 0) (operand_at y 0) && (outline_eq (operand_at x 1) (operand_at y 1) && outline_eq (operand_at x 2) (operand_at y 2))))
unfolding outline_eq
same-parts x y =
    let p = outlined_parts (shape x) in
    let q = outlined_parts (shape y) in
    (λ i. outline_eq (outline_is x i) (outline_is y i))
    ∙ (λ i. same-forgotten outline (λ e. tt) (shape x) (shape y) i && (outline_eq (p.0 i) (q.0 i) && (outline_eq (p.1 i) (q.1 i) && outline_eq (p.2 i) (q.2 i))))

pub same-absent_left : (x : Expression) → outline_eq absent (outline x) ≡ false
unfolding outline_eq
same-absent_left x = λ i. outline_eq absent (outline_is x i)

pub same-absent_right : (x : Expression) → outline_eq (outline x) absent ≡ false
unfolding outline_eq
same-absent_right x = λ i. outline_eq (outline_is x i) absent

pub ruleset part_by_part = (same-parts, same-absent_left, same-absent_right)
