-- Sections and rows lie apart from each other, and all that may be asked is known.
use Rattle.std.proofs.Common.{◌≡◌, ◌∙◌, ℕ, ◌+◌, ◌<◌, List, length, Some, Ok, sym, ap, subst, ⊎_elim, arith}
use Rattle.std.specs.Prelude.{slice_get}
use Rattle.std.proofs.lemmas.Bool.{cases_lt}
use Rattle.std.proofs.lemmas.Option.{slice_get_within}
use Rattle.wild_value_spec.specs.Known.{Asked, Start, Address, Dot, LoadDot}
use Rattle.wild_plan_spec.specs.declared.chunk.Kept.{Kept}
use Rattle.wild_plan_spec.specs.declared.row.InputRow.{InputRow}
use Rattle.wild_plan_spec.specs.Case.{Case}
use Rattle.wild_plan_spec.specs.Facts.{Facts}
use Rattle.wild_plan_spec.specs.Fit.{IsLaid}
use Rattle.wild_plan_spec.specs.Ground.{Ground, ground_of}
use Rattle.wild_plan_spec.specs.Orphans.{places_of}
use Rattle.wild_plan_spec.specs.Places.{Place, Open}
use Rattle.wild_plan_spec.specs.Steps.{State, step}
use Rattle.wild_walk_laws.specs.Holding.{IsKnown}
use Rattle.wild_walk_laws.proofs.Chunked.{chunk_rows}
use Rattle.wild_walk_laws.proofs.Entries.{not_both}
use Rattle.wild_walk_laws.proofs.Growing.{dot_known, load_dot_known, to_end}
use Rattle.wild_walk_laws.proofs.Kept.{kept_rows_have_addresses}
use Rattle.wild_walk_laws.proofs.Numbered.{made_of}
use Rattle.wild_walk_laws.proofs.SectionFacts.{fates, names, facts, facts_named, facts_are, facts_is}
use Rattle.wild_walk_laws.proofs.Walked.{laid_walked}
use Rattle.wild_plan_laws.specs.Holding.{AllIsKnown, AreOneOrCounted, IsCounted, LaidSectionStands, LiesIn, RowHolds, SectionHolds}
use Rattle.wild_plan_laws.proofs.Laid.{GoesTo, goes_to, goes_to_one, After, Stands, nothing_after, stands_passes}

module _ (c : Case) (state : State) (f : IsLaid c state) where
  abbrev places : List Place
  places = places_of c.commands c.inputs

  abbrev ground : Ground
  ground = ground_of c f.order

  -- what holds after all sections
  all_after : After ground places c.inputs.rows (fates c) (length (names c)) state
  all_after =
      laid_walked c state f (Stands ground places c.inputs.rows (fates c))
      (stands_passes ground places c.inputs.rows (fates c) (λ q. chunk_rows c.inputs.rows (fates c) q (f.order q) (f.ordered q)))
      (nothing_after ground places c.inputs.rows (fates c))

  pub sections_stand : (s : ℕ) (g : Facts) → slice_get (facts c) s ≡ Some g → LaidSectionStands places state s g
  sections_stand s g there =
      let named = made_of (facts_named c s) (slice_get (names c) s) g (sym (facts_are c s) ∙ there) in
      subst (LaidSectionStands places state s) (facts_is c s g there) (all_after.sections.stand s (slice_get_within (names c) s named.0 named.1))

  -- the section that a row with an address lies in
  record Within (r a : ℕ) (row : InputRow) : Type 0 where
    number : ℕ
    goes : GoesTo c.inputs.rows (fates c) r number
    lies : LiesIn state.known number a row.size

  within : (r a : ℕ) (row : InputRow) → slice_get c.inputs.rows r ≡ Some row → state.known (Address r) ≡ Some a → Within r a row
  within r a row there known =
      let found = ⊎_elim (λ l. l) (λ l. absurd l) (all_after.within.lie r a known) in
      let rows : Some found.lies.row ≡ Some row = sym found.lies.there ∙ there in
      let same : found.lies.row ≡ row = cc in
      let size = ap (λ (row : InputRow). row.size) same in
      record { number = found.number; goes = found.lies.goes; lies = record { start = found.start; end = found.end; spans = found.spans; from = found.lies.from; to = omega (arith, size) } }

  pub rows_lie_in_sections : (r : ℕ) (row : InputRow) (k : Kept) → slice_get c.inputs.rows r ≡ Some row → slice_get (fates c) r ≡ Some (Some k) → (a : ℕ) → state.known (Address r) ≡ Some a → LiesIn state.known k.chunk.«section» a row.size
  rows_lie_in_sections r row k there fate a known =
      let found = within r a row there known in
      subst (λ (s : ℕ). LiesIn state.known s a row.size) (goes_to_one c.inputs.rows (fates c) r found.number k.chunk.«section» found.goes (goes_to c.inputs.rows (fates c) r k fate)) found.lies

  -- a section that starts is one of those that stand
  pub starts_below : (s n : ℕ) → state.known (Start s) ≡ Some n → s < length (names c)
  starts_below s n e = ⊎_elim (λ lt. lt) (λ le. absurd (not_both (state.known (Start s)) n (all_after.fresh (Start s) (omega (arith, le))) e)) (cases_lt s (length (names c)))

  pub sections_do_not_overlap : (s u : ℕ) → IsCounted c s → IsCounted c u → (x : ℕ) → SectionHolds state.known s x → SectionHolds state.known u x → s ≡ u
  sections_do_not_overlap s u one_counts other_counts x one other =
      all_after.sections.apart s u x (starts_below s one.start one.spans.starts) (starts_below u other.start other.spans.starts) one_counts other_counts one other

  -- the section of a row that is kept holds what the row holds
  section_holds : (r x : ℕ) (k : Kept) → slice_get (fates c) r ≡ Some (Some k) → RowHolds c.inputs.rows state.known r x → SectionHolds state.known k.chunk.«section» x
  section_holds r x k fate h =
      let lies = rows_lie_in_sections r h.row k h.there fate h.address h.placed in
      record { start = lies.start; end = lies.end; spans = lies.spans; from = omega arith; to = omega arith }

  pub rows_do_not_overlap : (p r : ℕ) (k l : Kept) → slice_get (fates c) p ≡ Some (Some k) → slice_get (fates c) r ≡ Some (Some l) → AreOneOrCounted c k.chunk.«section» l.chunk.«section»
      → (x : ℕ) → RowHolds c.inputs.rows state.known p x → RowHolds c.inputs.rows state.known r x → p ≡ r
  rows_do_not_overlap p r k l fate other_fate apart x one other =
      let s = k.chunk.«section» in
      let u = l.chunk.«section» in
      let same = ⊎_elim (λ e. e) (λ both. sections_do_not_overlap s u both.0 both.1 x (section_holds p x k fate one) (section_holds r x l other_fate other)) apart in
      all_after.within.apart u p r x (subst (GoesTo c.inputs.rows (fates c) p) same (goes_to c.inputs.rows (fates c) p k fate)) (goes_to c.inputs.rows (fates c) r l other_fate) one other

  -- ---- all is known

  -- what is known after a place is known in the end
  place_known : (i : ℕ) (p : Place) (x : Asked) → slice_get places i ≡ Some p
      → ((st next : State) → step ground i p st ≡ Ok next → IsKnown next.known x) → IsKnown state.known x
  place_known i p x there after =
      let low : i < length places = slice_get_within places i p there in
      let known = after (f.stands.before i) (f.stands.before (i + 1)) (f.stands.each i p low there) in
      (known.0, (to_end ground places (length places) state f.stands (i + 1) (omega (arith, low))).known x known.0 known.1)

  pub all_is_known : AllIsKnown c state.known
  all_is_known = record {
    starts = λ s low. let h = all_after.sections.stand s low in (h.start, h.spans.starts);
    loads = λ s low. let h = all_after.sections.stand s low in (h.load, h.loads);
    ends = λ s low. let h = all_after.sections.stand s low in (h.end, h.spans.ends);
    addresses = kept_rows_have_addresses c state f;
    dots = λ i p there. place_known i p (Dot i) there (dot_known ground i p);
    load_dots = λ i s x there. place_known i (Open s x) (LoadDot i) there (load_dot_known ground i s x);
  }
