-- What stands before a place is determined, and a layout and a fault exclude each other.
use Rattle.std.proofs.Common.{◌≡◌, ℕ, zero, suc, ◌+◌, ◌<◌, ◌≤◌, List, length, Some, Ok, Err, refl, sym, ap, ◌∙◌, ⊎_elim, arith, add-one}
use Rattle.std.specs.Prelude.{slice_get, nat_le, if◌then◌else◌}
use Rattle.std.proofs.lemmas.Bool.{cases_lt, cases_order, le-leb, lt-leb, cond-true, cond-false}
use Rattle.std.proofs.lemmas.Option.{slice_get_within, slice_get_cases}
use Rattle.wild_names.specs.declared.fault.Fault.{Fault}
use Rattle.wild_plan_spec.specs.Ground.{Ground}
use Rattle.wild_plan_spec.specs.Places.{Place}
use Rattle.wild_plan_spec.specs.Steps.{State, first_state, step}
use Rattle.wild_plan_spec.specs.Walk.{Stands, Refuses}

-- the element at an index within a list
at : {A : Type 0} (xs : List A) (i : ℕ) → i < length xs → (x : A) × (slice_get xs i ≡ Some x)
at xs i h = ⊎_elim (λ found. (found.0, found.2)) (λ past. absurd (omega (arith, past.0))) (slice_get_cases xs i).1

pub place_at : (xs : List Place) (i : ℕ) → i < length xs → (x : Place) × (slice_get xs i ≡ Some x)
place_at xs i h = at xs i h

module _ (ground : Ground) (places : List Place) where
  -- nothing is laid out yet
  pub stands_first : Stands ground places 0 (first_state ground)
  stands_first = record { before = λ i. first_state ground; within = omega arith; first = refl; each = λ i p h. absurd (omega (arith, h)); last = refl }

  -- one place more
  up_to : ℕ → (ℕ → State) → State → ℕ → State
  up_to k before next i = if nat_le i k then before i else next

  up_to_low : (k : ℕ) (before : ℕ → State) (next : State) (i : ℕ) → i ≤ k → up_to k before next i ≡ before i
  unfolding up_to
  up_to_low k before next i h = cond-true (nat_le i k) (before i) next (le-leb i k h)

  up_to_high : (k : ℕ) (before : ℕ → State) (next : State) (i : ℕ) → k < i → up_to k before next i ≡ next
  unfolding up_to
  up_to_high k before next i h = cond-false (nat_le i k) (before i) next (lt-leb i k h)

  -- a place whose line leads on is laid out
  pub stands_more : (k : ℕ) (state next : State) (p : Place) → Stands ground places k state → slice_get places k ≡ Some p → step ground k p state ≡ Ok next → Stands ground places (k + 1) next
  stands_more k state next p s there goes = record {
    before = up_to k s.before next;
    within = omega (arith, slice_get_within places k p there);
    first = up_to_low k s.before next 0 (omega arith) ∙ s.first;
    each = λ i q h at_i. ⊎_elim
        (λ lt. ap (step ground i q) (up_to_low k s.before next i (omega arith)) ∙ s.each i q lt at_i ∙ ap Ok (sym (up_to_low k s.before next (i + 1) (omega arith))))
        (λ ge. let same : i ≡ k = omega arith in
        let e : q ≡ p = (let h1 : Some q ≡ Some p = sym at_i ∙ ap (slice_get places) same ∙ there in cc) in
        ap (step ground i q) (up_to_low k s.before next i (omega arith) ∙ ap s.before same ∙ s.last)
        ∙ (rw (e, same) goes) ∙ ap Ok (sym (up_to_high k s.before next (i + 1) (omega arith))))
        (cases_lt i k);
    last = up_to_high k s.before next (k + 1) (omega arith);
  }

  -- two layouts agree at each place that both reach
  agree : (k m : ℕ) (state other : State) → (s : Stands ground places k state) (t : Stands ground places m other) → (i : ℕ) → i ≤ k → i ≤ m → s.before i ≡ t.before i
  agree k m state other s t zero h l = s.first ∙ sym t.first
  agree k m state other s t (suc i) h l =
      let found = at places i (omega (arith, s.within)) in
      let one : s.before i ≡ t.before i = agree k m state other s t i (omega arith) (omega arith) in
      let left = s.each i found.0 (omega arith) found.1 in
      let right = t.each i found.0 (omega arith) found.1 in
      let both : Ok (s.before (i + 1)) ≡ Ok (t.before (i + 1)) = sym left ∙ ap (step ground i found.0) one ∙ right in
      let e : s.before (i + 1) ≡ t.before (i + 1) = cc in
      rw add-one at e

  -- what stands before a place is one
  pub stands_once : (k : ℕ) (state other : State) → Stands ground places k state → Stands ground places k other → state ≡ other
  stands_once k state other s t = sym s.last ∙ agree k k state other s t k (omega arith) (omega arith) ∙ t.last

  -- after a refused place nothing stands
  beyond : (fault : Fault) (k : ℕ) (state : State) → (f : Refuses ground places fault) → Stands ground places k state → f.place < k → ⊥
  beyond fault k state f s h =
      let same : s.before f.place ≡ f.state = agree k f.place state f.state s f.below f.place (omega arith) (omega arith) ∙ f.below.last in
      let goes = s.each f.place f.statement h f.there in
      let both : Ok (s.before (f.place + 1)) ≡ Err fault = sym goes ∙ ap (step ground f.place f.statement) same ∙ f.refused in
      cc

  -- where all places are laid out none refuses
  pub stands_or_refuses : (state : State) (fault : Fault) → Stands ground places (length places) state → Refuses ground places fault → ⊥
  stands_or_refuses state fault s f = beyond fault (length places) state f s (slice_get_within places f.place f.statement f.there)

  refused_same : (fault other : Fault) (f : Refuses ground places fault) (g : Refuses ground places other) → f.place ≡ g.place → fault ≡ other
  refused_same fault other f g same =
      let stand : f.state ≡ g.state = sym f.below.last ∙ agree f.place g.place f.state g.state f.below g.below f.place (omega arith) (omega arith) ∙ ap g.below.before same ∙ g.below.last in
      let found : Some f.statement ≡ Some g.statement = sym f.there ∙ ap (slice_get places) same ∙ g.there in
      let read : f.statement ≡ g.statement = cc in
      let refused = f.refused in
      let left = rw (read, stand, same) at refused in
      let both : Err fault ≡ Err other = sym left ∙ g.refused in
      cc

  -- the fault of the place that refuses is one
  pub refuses_once : (fault other : Fault) → Refuses ground places fault → Refuses ground places other → fault ≡ other
  refuses_once fault other f g =
      ⊎_elim
      (λ same. refused_same fault other f g same)
      (λ apart. ⊎_elim (λ lt. absurd (beyond fault g.place g.state f g.below lt)) (λ gt. absurd (beyond other f.place f.state g f.below gt)) apart)
      (cases_order f.place g.place)

  -- a place before which all stands, and whose line refuses
  pub refuses_at : (k : ℕ) (state : State) (p : Place) (fault : Fault) → Stands ground places k state → slice_get places k ≡ Some p → step ground k p state ≡ Err fault → Refuses ground places fault
  refuses_at k state p fault s there refused = record { place = k; state = state; statement = p; below = s; there = there; refused = refused }
