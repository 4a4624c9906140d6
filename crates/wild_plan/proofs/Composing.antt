-- What the parts of a plan answer makes what the whole answers.
use Rattle.std.proofs.Common.{◌≡◌, ◌∙◌, Option, List, length, None, Ok, Err, refl, sym, ap, subst, inl, inr, ⊎_elim}
use Rattle.wild_names.specs.declared.fault.Fault.{Fault}
use Rattle.wild_names.specs.declared.fault.Fault.TheVariants.{Syntax, UnclosedComment, UnsupportedNestedSort, TooDeep}
use Rattle.wild_script.specs.Tree.{Bytes, tree, IsTree, IsParseFault}
use Rattle.wild_script.specs.declared.tree.LinkerScript.{LinkerScript}
use Rattle.wild_plan_spec.specs.declared.chunk.Chunk.{Chunk}
use Rattle.wild_plan_spec.specs.declared.chunk.ChunkRow.{ChunkRow}
use Rattle.wild_plan_spec.specs.declared.chunk.Kept.{Kept}
use Rattle.wild_plan_spec.specs.declared.options.PlanOptions.{PlanOptions}
use Rattle.wild_plan_spec.specs.declared.placed.PlacedSymbol.{PlacedSymbol}
use Rattle.wild_plan_spec.specs.declared.row.InputTable.{InputTable}
use Rattle.wild_plan_spec.specs.Case.{Case}
use Rattle.wild_plan_spec.specs.Checks.{checks, failing}
use Rattle.wild_plan_spec.specs.End.{final_symbols}
use Rattle.wild_plan_spec.specs.Facts.{Facts, facts_of}
use Rattle.wild_plan_spec.specs.Fates.{fates_of}
use Rattle.wild_plan_spec.specs.Fit.{AreOrdered, IsLaid, Fits, FaultIn}
use Rattle.wild_plan_spec.specs.Ground.{Ground, ground_of}
use Rattle.wild_plan_spec.specs.Layout.{Layout, layout}
use Rattle.wild_plan_spec.specs.Orphans.{places_of}
use Rattle.wild_plan_spec.specs.Places.{Place}
use Rattle.wild_plan_spec.specs.Scopes.{scope_of}
use Rattle.wild_plan_spec.specs.Steps.{State}
use Rattle.wild_plan_spec.specs.Walk.{Stands, Refuses}
use Rattle.wild_plan_spec.proofs.Unique.{plans_once, plan_or_fault, faults_once}
use Rattle.wild_walk_laws.proofs.Settled.{settles}
use Rattle.wild_plan.specs.declared.lists.Lists.{Lists}
use Rattle.wild_plan.specs.declared.segments.Segments.{Segments}
use Rattle.wild_plan.specs.Planned.{case_of, IsPlan, IsLaterFault, IsThePlan, IsTheFault}
use Rattle.wild_plan.specs.Listed.{AreLists, shown_lists}
use Rattle.wild_plan.specs.Segments.{AreSegments}
use Rattle.wild_plan.proofs.Sums.{sums_same}

-- ---- cases

module _ (c : Case) (sound : failing (checks c) ≡ None) (order : Chunk → List ChunkRow) (ordered : AreOrdered c order)
    (ground : Ground) (on : ground ≡ ground_of c order) (places : List Place) (all : places ≡ places_of c.commands c.inputs) where
  pub walk_refused : (fault : Fault) → Refuses ground places fault → FaultIn c fault
  walk_refused fault h = inr (inl (record {
    sound = sound;
    order = order;
    ordered = ordered;
    refuses = subst (λ (g : Ground). Refuses g (places_of c.commands c.inputs) fault) on (subst (λ (ps : List Place). Refuses ground ps fault) all h);
  }))

  module _ (state : State) (stands : Stands ground places (length places) state) where
    laid : IsLaid c state
    laid = record {
      sound = sound;
      order = order;
      ordered = ordered;
      stands = subst (λ (g : Ground). Stands g (places_of c.commands c.inputs) (length (places_of c.commands c.inputs)) state) on (subst (λ (ps : List Place). Stands ground ps (length ps) state) all stands);
    }

    final_same : final_symbols ground.scope state.known places ≡ final_symbols (scope_of c) state.known (places_of c.commands c.inputs)
    final_same = ap (λ (ps : List Place). final_symbols ground.scope state.known ps) all ∙ ap (λ (g : Ground). final_symbols g.scope state.known (places_of c.commands c.inputs)) on

    pub end_refused : (fault : Fault) → final_symbols ground.scope state.known places ≡ Err fault → FaultIn c fault
    end_refused fault h = inr (inr (record { state = state; laid = laid; refused = sym final_same ∙ h }))

    module _ (found : List PlacedSymbol) (finishes : final_symbols ground.scope state.known places ≡ Ok found) (segments : Segments) (are_segments : AreSegments c segments) (fates : List (Option Kept)) (facts : List Facts) (lists : Lists)
        (are_fates : fates ≡ fates_of c.commands c.inputs) (are_facts : facts ≡ facts_of c.commands c.inputs) (l : AreLists segments c.inputs fates facts state found lists) where
      lists_same : shown_lists c.commands lists ≡ layout c state found
      lists_same = rw (l.sections, l.placements, l.locations, l.segments, are_segments.list, l.by_headers, are_segments.by_headers, l.symbols, l.names, are_fates, are_facts, sums_same c state laid) refl

      pub lists_fit : Fits c (shown_lists c.commands lists)
      lists_fit = record {
        state = state;
        laid = laid;
        found = found;
        finishes = sym final_same ∙ finishes;
        listed = lists_same;
      }

-- ---- scripts

-- what says that there is no tree
none_by : (script : Bytes) (t : LinkerScript) (fault : Fault) → tree script t → IsParseFault script fault → ⊥
none_by script t (Syntax position) h f = f.none 256 t h
none_by script t (UnclosedComment position) h f = f.none 256 t h
none_by script t (UnsupportedNestedSort position) h f = f.none 256 t h
none_by script t (TooDeep position) h f = f.none t h
none_by script t g h f = f

module _ (script : Bytes) (inputs : InputTable) (options : PlanOptions) (t : LinkerScript) (is : IsTree script t) where
  abbrev case : LinkerScript → Case
  case u = case_of script inputs options u

  of_tree : (plan : Layout) → IsPlan script inputs options plan → Fits (case t) plan
  of_tree plan h = subst (λ (u : LinkerScript). Fits (case u) plan) (is.only 256 h.script_tree h.is_tree) h.fits

  fault_of_tree : (fault : Fault) → IsLaterFault script inputs options fault → FaultIn (case t) fault
  fault_of_tree fault h = subst (λ (u : LinkerScript). FaultIn (case u) fault) (is.only 256 h.script_tree h.is_tree) h.fault_in

  -- the bytes have a tree
  no_parse_fault : (fault : Fault) → IsParseFault script fault → ⊥
  no_parse_fault fault h = none_by script t fault is.is h

  pub the_plan : (plan : Layout) → Fits (case t) plan → IsThePlan script inputs options plan
  the_plan plan f = record {
    is = record { script_tree = t; is_tree = is.is; fits = f };
    only = λ other g. plans_once (case t) plan other f (of_tree other g);
    no_fault = λ fault g. ⊎_elim (λ h. no_parse_fault fault h) (λ h. plan_or_fault (case t) plan fault f (fault_of_tree fault h)) g;
    settled = λ g. settles (case g.script_tree) plan g.fits;
  }

  pub the_fault : (fault : Fault) → FaultIn (case t) fault → IsTheFault script inputs options fault
  the_fault fault f = record {
    is = inr (record { script_tree = t; is_tree = is.is; fault_in = f });
    none_fits = λ plan g. plan_or_fault (case t) plan fault (of_tree plan g) f;
    only = λ other g. ⊎_elim (λ h. absurd (no_parse_fault other h)) (λ h. inl (faults_once (case t) fault other f (fault_of_tree other h))) g;
  }
