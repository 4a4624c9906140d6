-- A value that is no fault is the same at any statement.
use Rattle.std.proofs.Common.{◌≡◌, ℕ, List, Option, Some, None, Result, Ok, Err, refl, sym, subst}
use Rattle.wild_names.specs.declared.fault.Fault.{Fault}
use Rattle.wild_names.specs.declared.fault.Fault.TheVariants.{NotLaidOut}
use Rattle.wild_expression_tree.specs.declared.tree.Expression.{Expression}
use Rattle.wild_value_spec.specs.declared.value.Point.{Point}
use Rattle.wild_value_spec.specs.declared.value.Value.{Value}
use Rattle.wild_value_spec.specs.Answer.{◌>>=◌, or_fault}
use Rattle.wild_value_spec.specs.Known.{Known}
use Rattle.wild_value_spec.specs.Scope.{Name, Scope}
use Rattle.wild_value_spec.specs.Value.{value, full}
use Rattle.wild_value_laws.specs.Related.{Relation, Passes, Side, Leaves}
use Rattle.wild_value_laws.proofs.Related.{itself, value_related, full_related}

-- what is no fault is the other answer too
abbrev Holds : Relation
Holds A r s = (x : A) → r ≡ Ok x → s ≡ Ok x

failed : {A : Type 0} (f : Fault) (s : Result A Fault) → Holds A (Err f) s
failed f s x e = cc

on : {A B : Type 0} (r s : Result A Fault) (f g : A → Result B Fault) → Holds A r s → ((x : A) → Holds B (f x) (g x)) → Holds B (r >>= f) (s >>= g)
on (Ok x) s f g h k = subst (λ (t : Result _ Fault). Holds _ (f x) (t >>= g)) (sym (h x refl)) (k x)
on (Err d) s f g h k = failed d (s >>= g)

passes : Passes Holds
passes = record { same = λ r x e. e; on = λ {A} {B} {r} {s} {f} {g} h k. on r s f g h k }

known_or : (o : Option ℕ) (f g : Fault) → Holds ℕ (or_fault o f) (or_fault o g)
known_or (Some n) f g = λ x e. e
known_or None f g = failed f (Err g)

module _ (scope : Scope) (one other : ℕ) (known : Known) where
  abbrev side : ℕ → Side
  side statement = record { scope = scope; statement = statement; known = known }

  leaves : Leaves Holds (side one) (side other)
  leaves = record { asked = λ x name. known_or (known x) (NotLaidOut one name) (NotLaidOut other name); fails = λ f. failed (f one) (Err (f other)); scopes = itself scope }

  pub values_hold_at_any_statement : (levels : ℕ) (path : List Name) (e : Expression) (p : Point) (x : Value) → value scope one known levels path e p ≡ Ok x → value scope other known levels path e p ≡ Ok x
  values_hold_at_any_statement levels path = value_related Holds passes (side one) (side other) leaves (λ name. refl) levels path path (λ name d e. refl)

  pub full_values_hold_at_any_statement : (levels : ℕ) (path : List Name) (e : Expression) (p : Point) (n : ℕ) → full scope one known levels path e p ≡ Ok n → full scope other known levels path e p ≡ Ok n
  full_values_hold_at_any_statement levels path = full_related Holds passes (side one) (side other) leaves (λ name. refl) levels path path (λ name d e. refl)
