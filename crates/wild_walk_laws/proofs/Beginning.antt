-- Where sections begin: what their expressions are worth over all that is known in the end.
use Rattle.std.proofs.Common.{◌≡◌, ℕ, ◌+◌, ◌<◌, [], length, Option, Some, Ok, refl, sym, ap, subst, arith}
use Rattle.std.specs.Prelude.{slice_get}
use Rattle.std.proofs.lemmas.Option.{slice_get_within}
use Rattle.wild_expression_tree.specs.declared.tree.Expression.{Expression}
use Rattle.wild_script_tree.specs.declared.tree.Section.{Section}
use Rattle.wild_value_spec.specs.Known.{Start, Load, Dot}
use Rattle.wild_value_spec.specs.Value.{full_value}
use Rattle.wild_plan_spec.specs.Case.{Case}
use Rattle.wild_plan_spec.specs.Facts.{Facts, facts_at, facts_of}
use Rattle.wild_plan_spec.specs.Fit.{IsLaid}
use Rattle.wild_plan_spec.specs.Ground.{Ground, ground_of}
use Rattle.wild_plan_spec.specs.Orphans.{places_of}
use Rattle.wild_plan_spec.specs.Places.{Open}
use Rattle.wild_plan_spec.specs.Points.{start_point, load_point}
use Rattle.wild_plan_spec.specs.Scopes.{scope_of}
use Rattle.wild_plan_spec.specs.Steps.{State, dot_before, dot_noted, effect, step}
use Rattle.wild_walk_laws.specs.Nesting.{Zone, Free, Inside, Turns}
use Rattle.wild_walk_laws.proofs.Entries.{grown_entry}
use Rattle.wild_walk_laws.proofs.Fresh.{IsFresh, Fresh, fresh_on, fresh_passes, opened_start, opened_load}
use Rattle.wild_walk_laws.proofs.Growing.{Grows, to_end, worth_stays, opened_part}
use Rattle.wild_walk_laws.proofs.Steps.{Begins, started_at, opened_at, by_open}
use Rattle.wild_walk_laws.proofs.Walked.{laid_before}

-- a section begins between sections
opens_free : (x : Zone) (s : ℕ) (o : Option Section) (y : Zone) → Turns x (Open s o) y → x ≡ Free s
opens_free (Free n) s o y turn = ap Free (sym turn.0)
opens_free (Inside u) s o y turn = absurd turn

module _ (c : Case) (state : State) (f : IsLaid c state) where
  abbrev ground : Ground
  ground = ground_of c f.order

  abbrev facts : ℕ → Facts
  facts s = facts_at (facts_of c.commands c.inputs) s

  -- where section s, which place i opens, starts and is loaded
  pub record Begun (i s : ℕ) : Type 0 where
    pub start : ℕ
    pub load : ℕ
    pub starts : state.known (Start s) ≡ Some start
    pub loads : state.known (Load s) ≡ Some load
    pub start_worth : (e : Expression) → (facts s).start ≡ Some e → full_value (scope_of c) i state.known [] e (start_point i) ≡ Ok start
    pub load_worth : (e : Expression) → (facts s).load ≡ Some e → full_value (scope_of c) i state.known [] e (load_point i) ≡ Ok load

  begun_by : (i s n m : ℕ) (st : State) → IsFresh (Free s) st.known → Begins ground i s n m st → Grows (opened_at i s n m st) state → Begun i s
  begun_by i s n m st fresh begins on = record {
    start = n;
    load = m;
    starts = on.known (Start s) n (opened_start i s n m st fresh);
    loads = on.known (Load s) m (opened_load i s n m st fresh);
    start_worth = λ e same. worth_stays (scope_of c) i st.known state.known e (start_point i) n (λ x k h. on.known x k (opened_part i s n m st x k h)) (begins.starts e same);
    load_worth = λ e same.
        let known = (started_at i s n st).known in
        worth_stays (scope_of c) i known state.known e (load_point i) m (λ x k h. on.known x k (grown_entry (Load s) m known x k h)) (begins.loads e same);
  }

  step_begins : (i s : ℕ) (x : Option Section) (st next : State) → IsFresh (Free s) st.known → step ground i (Open s x) st ≡ Ok next → Grows next state → Begun i s
  unfolding step dot_noted effect
  step_begins i s x st next fresh goes =
      let p = Open s x in
      let noted = fresh_on (Free s) (Free s) (Dot i) (dot_before p st) st.known (omega arith) (omega arith) fresh in
      by_open (λ (u : State). Grows u state → Begun i s) ground i s (dot_noted i p st) next goes (λ n m begins on. begun_by i s n m (dot_noted i p st) noted begins on)

  pub sections_begin : (i s : ℕ) (x : Option Section) → slice_get (places_of c.commands c.inputs) i ≡ Some (Open s x) → Begun i s
  sections_begin i s x there =
      let places = places_of c.commands c.inputs in
      let low : i < length places = slice_get_within places i (Open s x) there in
      let before = laid_before c state f Fresh (fresh_passes ground places) (λ a ahead. refl) i (Open s x) there in
      let fresh = subst (λ (z : Zone). IsFresh z (f.stands.before i).known) (opens_free before.from s x before.to before.turn) before.holds in
      step_begins i s x (f.stands.before i) (f.stands.before (i + 1)) fresh (f.stands.each i (Open s x) low there)
      (to_end ground places (length places) state f.stands (i + 1) (omega (arith, low)))
