-- One plan fits, or one fault stands there.
use Rattle.std.proofs.Common.{◌≡◌, ◌∙◌, List, length, Ok, Err, sym, ap, subst, inl, inr}
use Rattle.std.proofs.Math.Path.{fun_ext}
use Rattle.wild_names.specs.declared.fault.Fault.{Fault}
use Rattle.wild_plan_spec.specs.declared.chunk.Chunk.{Chunk}
use Rattle.wild_plan_spec.specs.declared.chunk.ChunkRow.{ChunkRow}
use Rattle.wild_plan_spec.specs.declared.placed.PlacedSymbol.{PlacedSymbol}
use Rattle.wild_plan_spec.specs.Case.{Case}
use Rattle.wild_plan_spec.specs.Ground.{ground_of}
use Rattle.wild_plan_spec.specs.Scopes.{scope_of}
use Rattle.wild_plan_spec.specs.Orphans.{places_of}
use Rattle.wild_plan_spec.specs.Steps.{State}
use Rattle.wild_plan_spec.specs.Walk.{Stands, Refuses}
use Rattle.wild_plan_spec.specs.End.{final_symbols}
use Rattle.wild_plan_spec.specs.Layout.{Layout, layout}
use Rattle.wild_plan_spec.specs.Fit.{AreOrdered, IsLaid, Fits, LayoutFault, EndFault, FaultIn}
use Rattle.wild_plan_spec.proofs.RowOrder.{rows_once}
use Rattle.wild_plan_spec.proofs.Standing.{stands_once, stands_or_refuses, refuses_once}

module _ (c : Case) where
  -- the rows of all chunks have one order
  orders_once : (f g : Chunk → List ChunkRow) → AreOrdered c f → AreOrdered c g → f ≡ g
  orders_once f g p q = fun_ext (λ chunk. rows_once _ _ _ (p chunk) (q chunk))

  -- what stands after the last place is one
  laid_once : (r s : State) → IsLaid c r → IsLaid c s → r ≡ s
  laid_once r s f g =
      let same = orders_once f.order g.order f.ordered g.ordered in
      let stands = subst (λ (o : Chunk → List ChunkRow). Stands (ground_of c o) (places_of c.commands c.inputs) (length (places_of c.commands c.inputs)) r) same f.stands in
      stands_once (ground_of c g.order) (places_of c.commands c.inputs) (length (places_of c.commands c.inputs)) r s stands g.stands

  found_once : (r s : State) (xs ys : List PlacedSymbol) → r ≡ s → final_symbols (scope_of c) r.known (places_of c.commands c.inputs) ≡ Ok xs → final_symbols (scope_of c) s.known (places_of c.commands c.inputs) ≡ Ok ys → xs ≡ ys
  found_once r s xs ys same f g =
      let both : Ok xs ≡ Ok ys = sym f ∙ ap (λ (u : State). final_symbols (scope_of c) u.known (places_of c.commands c.inputs)) same ∙ g in
      cc

  pub plans_once : (p q : Layout) → Fits c p → Fits c q → q ≡ p
  plans_once p q f g =
      let states = laid_once g.state f.state g.laid f.laid in
      let found = found_once g.state f.state g.found f.found states g.finishes f.finishes in
      g.listed ∙ ap (λ (s : State). layout c s g.found) states ∙ ap (λ (xs : List PlacedSymbol). layout c f.state xs) found ∙ sym f.listed

  laid_or_refused : (s : State) (fault : Fault) → IsLaid c s → LayoutFault c fault → ⊥
  laid_or_refused s fault f g =
      let same = orders_once g.order f.order g.ordered f.ordered in
      let refuses = subst (λ (o : Chunk → List ChunkRow). Refuses (ground_of c o) (places_of c.commands c.inputs) fault) same g.refuses in
      stands_or_refuses (ground_of c f.order) (places_of c.commands c.inputs) s fault f.stands refuses

  ends_or_fits : (p : Layout) (fault : Fault) → Fits c p → EndFault c fault → ⊥
  ends_or_fits p fault f g =
      let states = laid_once f.state g.state f.laid g.laid in
      let both : Ok f.found ≡ Err fault = sym f.finishes ∙ ap (λ (u : State). final_symbols (scope_of c) u.known (places_of c.commands c.inputs)) states ∙ g.refused in
      cc

  pub plan_or_fault : (p : Layout) (fault : Fault) → Fits c p → FaultIn c fault → ⊥
  plan_or_fault p fault f (inl h) = let sound = f.laid.sound in cc
  plan_or_fault p fault f (inr (inl h)) = laid_or_refused f.state fault f.laid h
  plan_or_fault p fault f (inr (inr h)) = ends_or_fits p fault f h

  refused_once : (fault other : Fault) → LayoutFault c fault → LayoutFault c other → other ≡ fault
  refused_once fault other f g =
      let same = orders_once g.order f.order g.ordered f.ordered in
      let refuses = subst (λ (o : Chunk → List ChunkRow). Refuses (ground_of c o) (places_of c.commands c.inputs) other) same g.refuses in
      refuses_once (ground_of c f.order) (places_of c.commands c.inputs) other fault refuses f.refuses

  ended_once : (fault other : Fault) → EndFault c fault → EndFault c other → other ≡ fault
  ended_once fault other f g =
      let states = laid_once g.state f.state g.laid f.laid in
      let both : Err other ≡ Err fault = sym g.refused ∙ ap (λ (u : State). final_symbols (scope_of c) u.known (places_of c.commands c.inputs)) states ∙ f.refused in
      cc

  pub faults_once : (fault other : Fault) → FaultIn c fault → FaultIn c other → other ≡ fault
  faults_once fault other (inl f) (inl g) = cc
  faults_once fault other (inl f) (inr (inl g)) = let sound = g.sound in absurd (cc)
  faults_once fault other (inl f) (inr (inr g)) = let sound = g.laid.sound in absurd (cc)
  faults_once fault other (inr (inl f)) (inl g) = let sound = f.sound in absurd (cc)
  faults_once fault other (inr (inr f)) (inl g) = let sound = f.laid.sound in absurd (cc)
  faults_once fault other (inr (inl f)) (inr (inl g)) = refused_once fault other f g
  faults_once fault other (inr (inl f)) (inr (inr g)) = absurd (laid_or_refused g.state fault g.laid f)
  faults_once fault other (inr (inr f)) (inr (inl g)) = absurd (laid_or_refused f.state other f.laid g)
  faults_once fault other (inr (inr f)) (inr (inr g)) = ended_once fault other f g
