-- Equality of commands, level by level.
use Rattle.std.proofs.Common.{◌≡◌, ◌∙◌, ◌&&◌, List, [], ◌∷◌, map, refl, ap}
use Rattle.wild_script_tree.specs.declared.tree.Command.{Command, out-Command}
use Rattle.wild_script_tree.specs.declared.tree.Command.TheOpen.{Command-F}
use Rattle.wild_script_tree.specs.declared.tree.Command.TheFolds.{fold_out-Command, map-Command}
use Rattle.wild_script_tree.specs.Equality.{same_level, held, row_eq, Item, in_row, item, item_of, same_item, same_command, same_commands, EqualityGoesByLevels}

-- lists of commands in rows
same_rows : (xs ys : List Command) → row_eq (in_row (map item xs)) (in_row (map item ys)) ≡ same_commands xs ys
unfolding row_eq
same_rows [] [] = refl
same_rows [] (y ∷ ys) = refl
same_rows (x ∷ xs) [] = refl
same_rows (x ∷ xs) (y ∷ ys) = ap (λ b. same_command x y && b) (same_rows xs ys)

-- what they hold plays no part in a level
forgotten : (x y : Command-F Command) → same_level (item_of (map-Command Command Item item x)).0 (item_of (map-Command Command Item item y)).0 ≡ same_level x y
forgotten (Command-F.Group xs) (Command-F.Group ys) = refl
forgotten x (Command-F.Group ys) = refl
forgotten x y = refl

-- what is held by a command whose held ones are items
items : (x : Command-F Command) → held (map-Command Command Item item x) ≡ map item (held x)
items (Command-F.Group xs) = refl
items (Command-F.AsNeeded xs) = refl
items x = refl

opened : (x : Command) → item x ≡ item_of (map-Command Command Item item (out-Command x))
opened = fold_out-Command Item item_of

pub same_levels : EqualityGoesByLevels
same_levels x y =
    let a = out-Command x in
    let b = out-Command y in
    (λ i. same_item (opened x i) (opened y i))
    ∙ (λ i. forgotten a b i && row_eq (in_row (items a i)) (in_row (items b i)))
    ∙ ap (λ r. same_level a b && r) (same_rows (held a) (held b))
