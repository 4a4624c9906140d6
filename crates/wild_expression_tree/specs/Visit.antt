-- Which expressions a visitor is shown, and in which order.
use Rattle.std.specs.Prelude.{Bool, true, false, List, [], ◌∷◌, ◌++◌}
use Rattle.std.specs.List.{FoldsTo}
use Rattle.wild_expression_tree.specs.declared.tree.Expression.{Expression}
use Rattle.wild_expression_tree.specs.Shape.{shape, parts}

-- an expression that was shown, and whether its parts were wanted
abbrev pub Visit : Type 0
Visit = Expression × Bool

-- the visits that expressions get, one after the other
pub data Walk : List Expression → List Visit → Type 0 where
  -- none are left
  done : Walk [] []
  -- the parts of the first one are not wanted: what follows it is next
  declined : {x : Expression} {xs : List Expression} {visits : List Visit} → Walk xs visits → Walk (x ∷ xs) ((x, false) ∷ visits)
  -- they are wanted: they come before what follows it
  entered : {x : Expression} {xs : List Expression} {visits : List Visit} → Walk (parts (shape x) ++ xs) visits → Walk (x ∷ xs) ((x, true) ∷ visits)

-- what one visit makes of a visitor, by what it is shown and what it answers
abbrev pub Step : Type 0 → Type 1
Step V = V → Expression → Bool → V → Type 0

-- these visits, one after the other, lead from one visitor to another
abbrev pub Sees : {V : Type 0} → Step V → V → List Visit → V → Type 0
Sees step old visits new = FoldsTo (λ v visit w. step v visit.0 visit.1 w) old visits new

-- a visitor was shown these expressions, and what is in them as far as it wanted it
pub record Visited {V : Type 0} (step : Step V) (old : V) (xs : List Expression) (new : V) : Type 0 where
  pub visits : List Visit
  pub walked : Walk xs visits
  pub seen : Sees step old visits new
