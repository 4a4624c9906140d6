-- What a definition is worth stays when more is known.
use Rattle.std.proofs.Common.{◌≡◌, ℕ, List, Option, Some, None, Result, Err, refl, ap}
use Rattle.wild_names.specs.declared.fault.Fault.{Fault}
use Rattle.wild_names.specs.declared.fault.Fault.TheVariants.{NotLaidOut}
use Rattle.wild_expression_tree.specs.declared.tree.Expression.{Expression}
use Rattle.wild_value_spec.specs.declared.value.Point.{Point}
use Rattle.wild_value_spec.specs.declared.value.Value.{Value}
use Rattle.wild_value_spec.specs.Answer.{or_fault}
use Rattle.wild_value_spec.specs.Known.{Known, IsPart}
use Rattle.wild_value_spec.specs.Marks.{max_height}
use Rattle.wild_value_spec.specs.Scope.{Name, Definition, OfRow, OfScript, Scope}
use Rattle.wild_value_spec.specs.Value as v
use Rattle.wild_value_laws.specs.Related.{Relation, Passes, Side, Leaves}
use Rattle.wild_value_laws.proofs.Related.{itself, value_related, whole_related}
use Rattle.wild_memo_laws.specs.declared.slot.Slot.{Slot}
use Rattle.wild_memo_laws.specs.Sound.{IsSound, whole}
use Rattle.wild_memo_laws.proofs.Exact.{Same, same, same_err, same_then}
use Rattle.wild_memo_laws.proofs.Refit.{known_same}

abbrev Sameness : Relation
Sameness A r s = Same r s

passes : Passes Sameness
passes = record { same = same; on = λ {A} {B} {r} {s} {f} {g} h k. same_then r s f g h k }

asked_by : (o p : Option ℕ) (f : Fault) → ((n : ℕ) → o ≡ Some n → p ≡ Some n) → Same (or_fault o f) (or_fault p f)
unfolding Same
asked_by None p f h = tt
asked_by (Some n) p f h = ap (λ (q : Option ℕ). or_fault q f) (h n refl)

module _ (scope : Scope) (statement : ℕ) (known more : Known) (part : IsPart known more) where
  abbrev side : Known → Side
  side numbers = record { scope = scope; statement = statement; known = numbers }

  leaves : Leaves Sameness (side known) (side more)
  leaves = record { asked = λ x name. asked_by (known x) (more x) (NotLaidOut statement name) (part x); fails = λ f. same_err (f statement) (Err (f statement)); scopes = itself scope }

  -- values of parts, along this path whatever is on it
  abbrev along : Known → List Name → List Name → Expression → Point → Result Value Fault
  along numbers path ignored e p = v.value scope statement numbers max_height path e p

  whole_stays : (path : List Name) (name : Name) (d : Definition) → Same (whole scope statement known max_height path name d) (whole scope statement more max_height path name d)
  whole_stays path name (OfRow row offset s) =
      whole_related Sameness passes (side known) (side more) leaves (along known path) (along more path) path path name (value_related Sameness passes (side known) (side more) leaves (λ name. refl) max_height path path (λ name d e. refl)) (OfRow row offset s)
  whole_stays path name (OfScript e q) =
      whole_related Sameness passes (side known) (side more) leaves (along known path) (along more path) path path name (value_related Sameness passes (side known) (side more) leaves (λ name. refl) max_height path path (λ name d e. refl)) (OfScript e q)

pub memos_stay : (scope : Scope) (known more : Known) (path : List Name) (slots : List Slot) → IsPart known more → IsSound scope known path slots → IsSound scope more path slots
memos_stay scope known more path slots part h = record {
  size = h.size;
  kept = λ name i d w e k statement along on but. known_same _ _ w (whole_stays scope statement known more part along name d) (h.kept name i d w e k statement along on but);
  on = h.on;
  off = h.off;
}
