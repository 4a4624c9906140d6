-- Symbols of the script, one place after another.
use Rattle.std.proofs.Common.{◌≡◌, ◌∙◌, ◌+◌, ◌++◌, List, [], ◌∷◌, ℕ, Option, Result, Ok, Err, false, refl, inl, inr, sym, ap}
use Rattle.std.specs.Option.{option_to_list}
use Rattle.std.proofs.lemmas.List.{append_assoc}
use Rattle.wild_names.specs.declared.fault.Fault.{Fault}
use Rattle.wild_expression_tree.specs.declared.tree.Expression.{Expression}
use Rattle.wild_value_spec.specs.Answer.{◌>>=◌, Fails}
use Rattle.wild_value_spec.specs.Known.{Known}
use Rattle.wild_value_spec.specs.Scope.{Name, Scope}
use Rattle.wild_plan_spec.specs.declared.placed.PlacedSymbol.{PlacedSymbol}
use Rattle.wild_plan_spec.specs.declared.place.Where.{Where}
use Rattle.wild_plan_spec.specs.Places.{Place}
use Rattle.wild_plan_spec.specs.Symbols.{assignment_symbol, listed_symbol, place_symbol, symbols}
use Rattle.wild_plan.specs.Found.{found_then}

-- a name that is not empty is listed
pub assigned_named : (scope : Scope) (known : Known) (i : ℕ) (w : Where) (name : Name) (e : Expression) → (name ≡ [] → ⊥) → assignment_symbol scope known i w name e ≡ listed_symbol scope known i w name e false
assigned_named scope known i w [] e h = absurd (h refl)
assigned_named scope known i w (b ∷ bs) e h = refl

pub ruleset assigned_by_name = (assigned_named)

found_then_more : (found more : List PlacedSymbol) (answer : Result (List PlacedSymbol) Fault) → found_then (found ++ more) answer ≡ found_then found (answer >>= (λ rest. Ok (more ++ rest)))
found_then_more found more (Ok rest) = ap Ok (append_assoc found more rest)
found_then_more found more (Err f) = refl

pub found_then_all : (answer : Result (List PlacedSymbol) Fault) → found_then [] answer ≡ answer
found_then_all (Ok rest) = refl
found_then_all (Err f) = refl

-- one place more
pub symbols_more : (scope : Scope) (known : Known) (i : ℕ) (found : List PlacedSymbol) (p : Place) (ps : List Place) (s : Option PlacedSymbol) (next : List PlacedSymbol)
    → place_symbol scope known i p ≡ Ok s → next ≡ found ++ option_to_list s → found_then next (symbols scope known (i + 1) ps) ≡ found_then found (symbols scope known i (p ∷ ps))
symbols_more scope known i found p ps s next there c =
    let here : symbols scope known i (p ∷ ps) ≡ symbols scope known (i + 1) ps >>= (λ rest. Ok (option_to_list s ++ rest)) = rw there refl in
    ap (λ (xs : List PlacedSymbol). found_then xs (symbols scope known (i + 1) ps)) c ∙ found_then_more found (option_to_list s) (symbols scope known (i + 1) ps) ∙ ap (found_then found) (sym here)

-- a fault of a step is that of the steps behind it
pub fails_on : {A B : Type 0} (f : Fault) (answer : Result A Fault) (next : A → Result B Fault) → Fails f answer → Fails f (answer >>= next)
fails_on f answer next (inl h) = inl h
fails_on f answer next (inr h) = inr (ap (λ (r : Result _ Fault). r >>= next) h)
