-- Values stay when more is known.
use Rattle.std.proofs.Common.{◌≡◌, ℕ, List, Option, Some, None, Result, Ok, Err, refl, inl, inr, subst}
use Rattle.wild_names.specs.declared.fault.Fault.{Fault}
use Rattle.wild_names.specs.declared.fault.Fault.TheVariants.{NotLaidOut}
use Rattle.wild_expression_tree.specs.declared.tree.Expression.{Expression}
use Rattle.wild_value_spec.specs.declared.value.Point.{Point}
use Rattle.wild_value_spec.specs.Answer.{◌>>=◌, or_fault}
use Rattle.wild_value_spec.specs.Known.{Known, Asked, IsPart}
use Rattle.wild_value_spec.specs.Scope.{Name, Scope}
use Rattle.wild_value_spec.specs.Value.{value, full}
use Rattle.wild_value_laws.specs.Related.{Relation, Passes, Side, Leaves}
use Rattle.wild_value_laws.specs.Stable.{IsEarlyFault, IsEarly, Stays}
use Rattle.wild_value_laws.proofs.Related.{itself, value_related, full_related}

abbrev Staying : Relation
Staying A r s = Stays r s

on_same : {A B : Type 0} (r : Result A Fault) (f g : A → Result B Fault) → ((x : A) → Stays (f x) (g x)) → Stays (r >>= f) (r >>= g)
on_same (Ok x) f g h = h x
on_same (Err e) f g h = inr refl

early_on : {A B : Type 0} (r : Result A Fault) (f : A → Result B Fault) → IsEarly r → IsEarly (r >>= f)
early_on (Ok x) f h = absurd h
early_on (Err e) f h = h

on : {A B : Type 0} {r s : Result A Fault} {f g : A → Result B Fault} → Stays r s → ((x : A) → Stays (f x) (g x)) → Stays (r >>= f) (s >>= g)
on {r} {f} (inl early) h = inl (early_on r f early)
on {r} {f} {g} (inr e) h = subst (λ (t : Result _ Fault). Stays (r >>= f) (t >>= g)) e (on_same r f g h)

passes : Passes Staying
passes = record { same = λ r. inr refl; on = on }

module _ (scope : Scope) (statement : ℕ) (known more : Known) (part : IsPart known more) where
  abbrev side : Known → Side
  side numbers = record { scope = scope; statement = statement; known = numbers }

  asked_by : (x : Asked) (f : Fault) → IsEarlyFault f → (o : Option ℕ) → known x ≡ o → Stays (or_fault o f) (or_fault (more x) f)
  asked_by x f early None e = inl early
  asked_by x f early (Some n) e = inr (rw (part x n e))

  leaves : Leaves Staying (side known) (side more)
  leaves = record { asked = λ x name. asked_by x (NotLaidOut statement name) tt (known x) refl; fails = λ f. inr refl; scopes = itself scope }

  pub values_stay : (levels : ℕ) (path : List Name) (e : Expression) (p : Point) → Stays (value scope statement known levels path e p) (value scope statement more levels path e p)
  values_stay levels path = value_related Staying passes (side known) (side more) leaves (λ name. refl) levels path path (λ name d e. refl)

  pub full_values_stay : (levels : ℕ) (path : List Name) (e : Expression) (p : Point) → Stays (full scope statement known levels path e p) (full scope statement more levels path e p)
  full_values_stay levels path = full_related Staying passes (side known) (side more) leaves (λ name. refl) levels path path (λ name d e. refl)
