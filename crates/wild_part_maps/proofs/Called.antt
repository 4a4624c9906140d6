-- One more call at an entry.
use Rattle.std.proofs.Common.{◌≡◌, ℕ, ◌+◌, ◌<◌, ◌≤◌, List, [], ◌∷◌, ◌++◌, Some, None, refl, sym, subst, ap, ◌∙◌, inl, inr, arith, true, false}
use Rattle.std.specs.Borrow.{Bor, MutBor}
use Rattle.std.specs.Prelude.{is_some, IsTrue}
use Rattle.std.proofs.lemmas.Bool.{cases_Bool}
use Rattle.std.proofs.lemmas.List.{append_assoc, append-nil}
use Rattle.std.proofs.lemmas.Bool.Decides.{nat_tests}
use Rattle.wild_part_maps.specs.Calls.{MapsEntries, ChangesEntries}
use Rattle.wild_part_maps.specs.Changes.{Updates, with_value}
use Rattle.wild_part_maps.specs.Parts.{PartValues, entries, has_entry, kept, is_part, value_in, RisesFrom}
use Rattle.wild_part_maps.proofs.Reserved.{has_listed}
use Rattle.wild_part_maps.proofs.Written.{with_value-updates}

below_next : {T : Type 0} (limit : ℕ) (done rest : List (ℕ × T)) (e : ℕ × T) → RisesFrom limit (done ++ e ∷ rest) → limit ≤ e.0
below_next limit [] rest e rising = rising.0
below_next limit (d ∷ done) rest e rising = omega (arith, rising.0, below_next (d.0 + 1) done rest e rising.1)

pub kept_apart : {U : Type 0} (m n : PartValues U) (part q : ℕ) (v : U) → Updates m part v n → q < part → kept n q ≡ kept m q
kept_apart m n part q v updates low = let away : is_part part q ≡ false = grind (arith, nat_tests) in rw away at (updates.values q)

pub kept_here : {U : Type 0} (m n : PartValues U) (part : ℕ) (v : U) → Updates m part v n → kept n part ≡ Some v
kept_here m n part v updates = let here : is_part part part ≡ true = grind (arith, nat_tests) in rw here at (updates.values part)

module _ {T : Type 0} where
  pub with_next : (all done left rest : List (ℕ × T)) (e : ℕ × T) → done ++ left ≡ all → left ≡ e ∷ rest → done ++ e ∷ rest ≡ all
  with_next all done left rest e is next = rw (← next) is

  pub moved_on : (all done left rest : List (ℕ × T)) (e : ℕ × T) → done ++ left ≡ all → left ≡ e ∷ rest → (done ++ e ∷ []) ++ rest ≡ all
  moved_on all done left rest e is next = append_assoc done (e ∷ []) rest ∙ with_next all done left rest e is next

  among : (done rest : List (ℕ × T)) (e : ℕ × T) → is_some (value_in (done ++ e ∷ rest) e.0) ≡ true
  among [] rest e = let here : is_part e.0 e.0 ≡ true = grind (arith, nat_tests) in rw here refl
  among (d ∷ done) rest e = elim (cases_Bool (is_part e.0 d.0)) [
    | inl here ↦ rw here refl
    | inr away ↦ rw away (among done rest e)
  ]

  pub next_has : (m : PartValues T) (done left rest : List (ℕ × T)) (e : ℕ × T) → done ++ left ≡ entries m → left ≡ e ∷ rest → IsTrue (has_entry m e.0)
  next_has m done left rest e is next = sym (has_listed m e.0) ∙ ap (λ es. is_some (value_in es e.0)) (sym (with_next (entries m) done left rest e is next)) ∙ among done rest e

  pub not_done : (limit : ℕ) (done rest : List (ℕ × T)) (e : ℕ × T) → RisesFrom limit (done ++ e ∷ rest) → value_in done e.0 ≡ None
  not_done limit [] rest e rising = refl
  not_done limit (d ∷ done) rest e rising =
      let away : is_part e.0 d.0 ≡ false = grind (arith, nat_tests, below_next (d.0 + 1) done rest e rising.1) in
      rw away (not_done (d.0 + 1) done rest e rising.1)

  pub none_push : (done : List (ℕ × T)) (e : ℕ × T) (q : ℕ) → value_in (done ++ e ∷ []) q ≡ None → (value_in done q ≡ None) × (is_part e.0 q ≡ false)
  none_push [] e q none = elim (cases_Bool (is_part q e.0)) [
    | inl here ↦ absurd (let some : Some e.1 ≡ None = rw here at none in cc)
    | inr away ↦ (refl, grind (arith, nat_tests))
  ]
  none_push (d ∷ done) e q none = elim (cases_Bool (is_part q d.0)) [
    | inl here ↦ absurd (let some : Some d.1 ≡ None = rw here at none in cc)
    | inr away ↦ rw away (none_push done e q (rw away at none))
  ]

-- what is lent for a part and written is kept for it
pub lent_at : {T : Type 0} (m : PartValues T) (own part : ℕ) (x v : T) → kept m own ≡ Some x → own ≡ part → Updates m part v (with_value m own v) × (kept m part ≡ Some x)
lent_at m own part x v there same = (subst (λ q. Updates m q v (with_value m own v)) same (with_value-updates m own v (ap is_some there)), subst (λ q. kept m q ≡ Some x) same there)

-- a part that was not called at has the value that it had
pub still_same : {T U : Type 0} (first old new : PartValues T) (done : List (ℕ × U)) (e : ℕ × U) (v : T) → Updates old e.0 v new → ((q : ℕ) → value_in done q ≡ None → kept old q ≡ kept first q)
    → (q : ℕ) → value_in (done ++ e ∷ []) q ≡ None → kept new q ≡ kept first q
still_same first old new done e v updates same q none =
    let both = none_push done e q none in
    (rw both.1 at (updates.values q)) ∙ same q both.0

module _ {F T U : Type 0} (step : F → ℕ → Bor T → U → F → Type 0) where
  pub maps_more : (old new : PartValues U) (limit : ℕ) (done rest : List (ℕ × T)) (e : ℕ × T) (p q r : F) (shown : Bor T) (answer : U) → RisesFrom limit (done ++ e ∷ rest)
      → Updates old e.0 answer new → shown.now ≡ e.1 → MapsEntries step old p done q → step q e.0 shown answer r → MapsEntries step new p (done ++ e ∷ []) r
  maps_more old new limit [] rest e p q r shown answer rising updates shows same called =
      (r, record { shown = shown; answer = answer; shows = shows; answers_at = kept_here old new e.0 answer updates; called = subst (λ s. step s e.0 shown answer r) (sym same) called }, refl)
  maps_more old new limit (d ∷ done) rest e p q r shown answer rising updates shows calls called =
      let low : d.0 < e.0 = omega (arith, below_next (d.0 + 1) done rest e rising.1) in (
        calls.0,
        record {
          shown = calls.1.shown;
          answer = calls.1.answer;
          shows = calls.1.shows;
          answers_at = kept_apart old new e.0 d.0 answer updates low ∙ calls.1.answers_at;
          called = calls.1.called;
        },
        maps_more old new (d.0 + 1) done rest e calls.0 q r shown answer rising.1 updates shows calls.2 called,
      )

module _ {F T U V : Type 0} (step : F → MutBor T → Bor U → V → MutBor T → F → Type 0) (before : ℕ → T → Type 0) where
  pub changes_more : (old new : PartValues T) (fewer more : PartValues V) (done rest : List (ℕ × U)) (e : ℕ × U) (p q r : F) (lent left : MutBor T) (shown : Bor U) (answer : V) → step q lent shown answer left r
      → Updates old e.0 left.now new → Updates fewer e.0 answer more → before e.0 lent.now → shown.now ≡ e.1 → (limit : ℕ) → RisesFrom limit (done ++ e ∷ rest)
      → ChangesEntries step before old fewer p done q → ChangesEntries step before new more p (done ++ e ∷ []) r
  changes_more old new fewer more [] rest e p q r lent left shown answer called writes puts starts shows limit rising same = (
    r,
    record {
      lent = lent;
      left = left;
      shown = shown;
      answer = answer;
      starts = starts;
      leaves = kept_here old new e.0 left.now writes;
      shows = shows;
      answers_at = kept_here fewer more e.0 answer puts;
      called = subst (λ s. step s lent shown answer left r) (sym same) called;
    },
    refl,
  )
  changes_more old new fewer more (d ∷ done) rest e p q r lent left shown answer called writes puts starts shows limit rising calls =
      let low : d.0 < e.0 = omega (arith, below_next (d.0 + 1) done rest e rising.1) in (
        calls.0,
        record {
          lent = calls.1.lent;
          left = calls.1.left;
          shown = calls.1.shown;
          answer = calls.1.answer;
          starts = calls.1.starts;
          leaves = kept_apart old new e.0 d.0 left.now writes low ∙ calls.1.leaves;
          shows = calls.1.shows;
          answers_at = kept_apart fewer more e.0 d.0 answer puts low ∙ calls.1.answers_at;
          called = calls.1.called;
        },
        changes_more old new fewer more done rest e calls.0 q r lent left shown answer called writes puts starts shows (d.0 + 1) rising.1 calls.2,
      )

  pub changes_all : (after : PartValues T) (answers : PartValues V) (all done left : List (ℕ × U)) (p q : F) → done ++ left ≡ all → left ≡ [] → ChangesEntries step before after answers p done q → ChangesEntries step before after answers p all q
  changes_all after answers all done left p q is none calls = subst (λ es. ChangesEntries step before after answers p es q) (sym (append-nil done) ∙ (rw none at is)) calls

  -- what is said of the values before may be said otherwise
  pub changes_from : (other : ℕ → T → Type 0) → ((q : ℕ) (x : T) → before q x → other q x) → (after : PartValues T) (answers : PartValues V) (p : F) (es : List (ℕ × U)) (last : F)
      → ChangesEntries step before after answers p es last → ChangesEntries step other after answers p es last
  changes_from other leads after answers p [] last same = same
  changes_from other leads after answers p (e ∷ es) last calls = (
    calls.0,
    record {
      lent = calls.1.lent;
      left = calls.1.left;
      shown = calls.1.shown;
      answer = calls.1.answer;
      starts = leads e.0 calls.1.lent.now calls.1.starts;
      leaves = calls.1.leaves;
      shows = calls.1.shows;
      answers_at = calls.1.answers_at;
      called = calls.1.called;
    },
    changes_from other leads after answers calls.0 es last calls.2,
  )
