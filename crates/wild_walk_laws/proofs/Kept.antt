-- The chunk of each row that is kept has a place that lays out its rows, so that the row has an address wherever all places
-- are laid out.
use Rattle.std.proofs.Common.{◌≡◌, ℕ, ◌+◌, ◌<◌, Bool, true, false, cond, List, [], ◌∷◌, length, Option, Some, None, Result, Ok, Err, refl, sym, ◌∙◌, ap, subst, inl, inr, ⊎_elim, arith}
use Rattle.std.specs.Prelude.{slice_get}
use Rattle.std.proofs.lemmas.Option.{slice_get_within}
use Rattle.wild_numbering.specs.Numbering.{is_named, number_of}
use Rattle.wild_glob.specs.declared.piece.Piece.{Piece}
use Rattle.wild_rules.specs.declared.fault.RuleFault.{RuleFault}
use Rattle.wild_rules.specs.declared.matcher.SectionNameMatcher.{SectionNameMatcher}
use Rattle.wild_rules.specs.Making as making
use Rattle.wild_script_tree.specs.declared.tree.Command.{Command}
use Rattle.wild_script_tree.specs.declared.tree.SectionPattern.{SectionPattern}
use Rattle.wild_value_spec.specs.Known.{Address}
use Rattle.wild_plan_spec.specs.declared.chunk.Chunk.{Chunk}
use Rattle.wild_plan_spec.specs.declared.chunk.ChunkRow.{ChunkRow}
use Rattle.wild_plan_spec.specs.declared.chunk.Decision.TheVariants.{Discard, Keep, ByName}
use Rattle.wild_plan_spec.specs.declared.chunk.Decision.{Decision}
use Rattle.wild_plan_spec.specs.declared.chunk.Kept.{Kept}
use Rattle.wild_plan_spec.specs.declared.row.InputRow.{InputRow}
use Rattle.wild_plan_spec.specs.declared.row.InputTable.{InputTable}
use Rattle.wild_plan_spec.specs.Case.{Case}
use Rattle.wild_plan_spec.specs.Fates.{rule_decision, name_decision, decision, orphans_of, section_names, first_chunk, fate_by, fate, all_fates, fates_of}
use Rattle.wild_plan_spec.specs.Fit.{IsLaid}
use Rattle.wild_plan_spec.specs.Ground.{Ground, ground_of}
use Rattle.wild_plan_spec.specs.Names.{Name}
use Rattle.wild_plan_spec.specs.Orphans.{orphan_places, places_of}
use Rattle.wild_plan_spec.specs.Places.{Place, Collect, Rows, Close, script_places}
use Rattle.wild_plan_spec.specs.Rules.{Rule, rule_of, pattern_decision, pattern_rules, place_rules, rules_in, rules_of, takes_row, first_rule}
use Rattle.wild_plan_spec.specs.Statements.{sections_of}
use Rattle.wild_plan_spec.specs.Steps.{State, row_placed, rows_placed, chunk_placed, chunk_collected, section_ended_inside, section_ended_after, section_closed, dot_noted, effect, step}
use Rattle.wild_walk_laws.specs.Holding.{IsKnown}
use Rattle.wild_walk_laws.proofs.Chunked.{kept_among}
use Rattle.wild_walk_laws.proofs.Entries.{known_entry}
use Rattle.wild_walk_laws.proofs.Growing.{Grows, rows_grow, end_grows, to_end}
use Rattle.wild_walk_laws.proofs.Having.{Has, has_before, has_either, has_found, has_there}
use Rattle.wild_walk_laws.proofs.Nesting.{Lays, first_of, first_laid}
use Rattle.wild_walk_laws.proofs.Steps.{row_at, bind_ok, by_row, by_chunk}
use Rattle.wild_walk_laws.proofs.Numbered.{each_at, made_of, position_within}

-- ---- rules

abbrev Keeps : Kept → Rule → Type 0
Keeps k rule = rule.decision ≡ Keep k

module _ (k : Kept) where
  one_keeps : (files : Result (Option (List Piece)) RuleFault) (names : Result SectionNameMatcher RuleFault) (d : Decision) → Has (Keeps k) (rule_of files names d) → d ≡ Keep k
  one_keeps (Err f) names d h = absurd h
  one_keeps (Ok files) (Err f) d h = absurd h
  one_keeps (Ok files) (Ok names) d (inl h) = h
  one_keeps (Ok files) (Ok names) d (inr h) = absurd h

  decided_keeps : (q : Option Chunk) (p : SectionPattern) → pattern_decision q p ≡ Keep k → q ≡ Some k.chunk
  decided_keeps None p e = absurd (cc)
  decided_keeps (Some q) p e = let same : record { chunk = q; sorted = p.sorted } ≡ k = cc in ap (λ (kept : Kept). Some kept.chunk) same

  patterns_keep : (q : Option Chunk) (file : Option Name) (ps : List SectionPattern) → Has (Keeps k) (pattern_rules q file ps) → q ≡ Some k.chunk
  patterns_keep q file [] h = absurd h
  patterns_keep q file (p ∷ ps) h = ⊎_elim
      (λ first. decided_keeps q p (one_keeps (making.files_of file) (making.names_of p.name) (pattern_decision q p) first))
      (λ rest. patterns_keep q file ps rest)
      (has_either (Keeps k) (rule_of (making.files_of file) (making.names_of p.name) (pattern_decision q p)) (pattern_rules q file ps) h)

  place_keeps : (p : Place) → Has (Keeps k) (place_rules p) → Lays k.chunk p
  place_keeps (Collect q m) h = patterns_keep q m.input_file_pattern m.input_section_name_patterns h
  place_keeps p h = absurd h

  -- the chunk for which a rule keeps rows
  rules_keep : (ps : List Place) → Has (Keeps k) (rules_in ps) → Has (Lays k.chunk) ps
  rules_keep [] h = absurd h
  rules_keep (p ∷ ps) h = ⊎_elim (λ first. inl (place_keeps p first)) (λ rest. inr (rules_keep ps rest)) (has_either (Keeps k) (place_rules p) (rules_in ps) h)

  rule_keeps : (o : Option Rule) → rule_decision o ≡ Keep k → (rule : Rule) × (o ≡ Some rule) × Keeps k rule
  rule_keeps None e = absurd (cc)
  rule_keeps (Some rule) e = (rule, refl, e)

  name_keeps : (name : Name) (rules : List Rule) (row : InputRow) → name_decision name rules row ≡ Keep k → Has (Keeps k) rules
  name_keeps [] rules row e = absurd (cc)
  name_keeps (b ∷ bs) rules row e = let found = rule_keeps (first_rule rules row) e in has_found (Keeps k) (takes_row row) rules found.0 found.1 found.2

  chosen_keeps : (b : Bool) (d : Decision) → cond b Discard d ≡ Keep k → d ≡ Keep k
  chosen_keeps true d e = absurd (cc)
  chosen_keeps false d e = e

  decision_keeps : (rules : List Rule) (row : InputRow) → decision rules row ≡ Keep k → Has (Keeps k) rules
  unfolding decision
  decision_keeps rules row e = name_keeps row.«section» rules row (chosen_keeps _ _ e)

-- ---- rows that are kept

module _ (t : List Command) (inputs : InputTable) where
  abbrev HasPlace : Chunk → Type 0
  HasPlace q = Has (Lays q) (places_of t inputs)

  named_lays : (x : Name) (s : ℕ) → number_of x (section_names t inputs) ≡ Some s → HasPlace (first_of s)
  named_lays x s e = let within = position_within (is_named x) 0 (section_names t inputs) s e in first_laid t inputs s (omega (arith, within))

  first_lays : (x : Name) (o : Option ℕ) (k : Kept) → number_of x (section_names t inputs) ≡ o → first_chunk o ≡ Some k → HasPlace k.chunk
  first_lays x None k e h = absurd (cc)
  first_lays x (Some s) k e h =
      let same : record { chunk = first_of s; sorted = false } ≡ k = cc in
      subst (λ (kept : Kept). HasPlace kept.chunk) same (named_lays x s e)

  fate_lays : (x : Name) (d : Decision) (k : Kept) → (d ≡ Keep k → Has (Keeps k) (rules_of t)) → fate_by (section_names t inputs) x d ≡ Some k → HasPlace k.chunk
  fate_lays x Discard k keeps e = absurd (cc)
  fate_lays x (Keep other) k keeps e = has_before (Lays k.chunk) (script_places t) (orphan_places (length (sections_of t)) (orphans_of t inputs)) (rules_keep k (script_places t) (keeps (cc)))
  fate_lays x ByName k keeps e = first_lays x _ k refl e

  row_lays : (row : InputRow) (k : Kept) → fate (rules_of t) (section_names t inputs) row ≡ Some k → HasPlace k.chunk
  row_lays row k e = fate_lays row.«section» (decision (rules_of t) row) k (decision_keeps k (rules_of t) row) e

  -- a row that is kept, and where its chunk is laid out
  pub record IsLaidOut (r : ℕ) (k : Kept) : Type 0 where
    pub row : InputRow
    pub there : slice_get inputs.rows r ≡ Some row
    pub place : HasPlace k.chunk

  pub kept_lays : (r : ℕ) (k : Kept) → slice_get (fates_of t inputs) r ≡ Some (Some k) → IsLaidOut r k
  kept_lays r k e =
      let names = section_names t inputs in
      let each = each_at (λ n row. fate (rules_of t) names row) (λ n rows. all_fates (rules_of t) names rows) (λ n. refl) (λ n row rows. refl) inputs.rows r in
      let made = made_of (fate (rules_of t) names) (slice_get inputs.rows r) (Some k) (sym each ∙ e) in
      record { row = made.0; there = made.1; place = row_lays made.0 k made.2 }

-- ---- addresses

module _ (r : ℕ) where
  abbrev HasAddress : State → Type 0
  HasAddress st = IsKnown st.known (Address r)

  address_stays : (st next : State) → Grows st next → HasAddress st → HasAddress next
  address_stays st next grows h = (h.0, grows.known (Address r) h.0 h.1)

  row_addressed : (c : ChunkRow) (st next : State) → c.row ≡ r → row_placed c st ≡ Ok next → HasAddress next
  row_addressed c st next same e = by_row HasAddress c st next e
      (λ size end up sum fits. subst (λ (n : ℕ). IsKnown (row_at c end st).known (Address n)) same (known_entry (Address c.row) st.cursor st.known))

  rows_addressed : (cs : List ChunkRow) (st next : State) → Has (λ (c : ChunkRow). c.row ≡ r) cs → rows_placed cs st ≡ Ok next → HasAddress next
  rows_addressed [] st next h e = absurd h
  rows_addressed (c ∷ cs) st next (inl same) e =
      let first = bind_ok (row_placed c st) (λ s. rows_placed cs s) next e in
      address_stays first.0 next (rows_grow cs first.0 next first.2) (row_addressed c st first.0 same first.1)
  rows_addressed (c ∷ cs) st next (inr h) e =
      let first = bind_ok (row_placed c st) (λ s. rows_placed cs s) next e in
      rows_addressed cs first.0 next h first.2

  module _ (ground : Ground) (q : Chunk) (has : Has (λ (c : ChunkRow). c.row ≡ r) (ground.rows q)) where
    chunk_addressed : (own : Chunk) (st next : State) → own ≡ q → chunk_placed (ground.rows own) st ≡ Ok next → HasAddress next
    chunk_addressed own st next same e = by_chunk HasAddress (ground.rows own) st next e
        (λ n up goes. rows_addressed (ground.rows own) (record st { cursor = n }) next (subst (λ (c : Chunk). Has (λ (d : ChunkRow). d.row ≡ r) (ground.rows c)) (sym same) has) goes)

    -- the place that lays out the chunk of the row
    effect_addressed : (i : ℕ) (p : Place) (st next : State) → Lays q p → effect ground i p st ≡ Ok next → HasAddress next
    unfolding effect chunk_collected section_closed section_ended_after
    effect_addressed i (Collect None m) st next lays goes = absurd (cc)
    effect_addressed i (Collect (Some own) m) st next lays goes = chunk_addressed own st next (cc) goes
    effect_addressed i (Rows own) st next lays goes = chunk_addressed own st next lays goes
    effect_addressed i (Close s None) st next lays goes = absurd (cc)
    effect_addressed i (Close s (Some own)) st next lays goes =
        let first = bind_ok (chunk_placed (ground.rows own) st) (section_ended_inside ground s) next goes in
        address_stays first.0 next (end_grows ground s first.0 next first.2) (chunk_addressed own st first.0 (cc) first.1)
    effect_addressed i p st next lays goes = absurd lays

    step_addressed : (i : ℕ) (p : Place) (st next : State) → Lays q p → step ground i p st ≡ Ok next → HasAddress next
    unfolding step
    step_addressed i p st next lays goes = effect_addressed i p (dot_noted i p st) next lays goes

pub kept_rows_have_addresses : (c : Case) (state : State) → IsLaid c state → (r : ℕ) (k : Kept) → slice_get (fates_of c.commands c.inputs) r ≡ Some (Some k) → IsKnown state.known (Address r)
kept_rows_have_addresses c state f r k fate =
    let places = places_of c.commands c.inputs in
    let ground = ground_of c f.order in
    let laid = kept_lays c.commands c.inputs r k fate in
    let among = kept_among c.inputs.rows (fates_of c.commands c.inputs) k.chunk (f.order k.chunk) (f.ordered k.chunk) r laid.row k laid.there fate refl in
    let found = has_there (Lays k.chunk) places laid.place in
    let low : found.0 < length places = slice_get_within places found.0 found.1 found.2 in
    address_stays r (f.stands.before (found.0 + 1)) state
    (to_end ground places (length places) state f.stands (found.0 + 1) (omega (arith, low)))
    (step_addressed r ground k.chunk among found.0 found.1 (f.stands.before found.0) (f.stands.before (found.0 + 1)) found.3 (f.stands.each found.0 found.1 low found.2))
