-- Sections that are counted lie in their regions, wherever places are laid out, and each region that a section names is there.
use Rattle.std.proofs.Common.{◌≡◌, ◌∙◌, ℕ, ◌+◌, ◌<◌, Bool, true, false, not, ◌||◌, ◌&&◌, cond, zero, suc, List, [], ◌∷◌, ◌++◌, length, map, Option, Some, None, refl, sym, ap, inl, arith}
use Rattle.std.specs.Prelude.{slice_get}
use Rattle.std.specs.List.{list_any, position_from}
use Rattle.std.specs.Option.{option_map}
use Rattle.std.proofs.lemmas.Bool.{ltb-false, or_parts}
use Rattle.std.proofs.lemmas.List.{length-map}
use Rattle.std.proofs.lemmas.Option.{slice_get-map, slice_get_within}
use Rattle.wild_names.specs.declared.fault.Fault.TheVariants.{DuplicateName}
use Rattle.wild_numbering.specs.Numbering.{is_named, number_of}
use Rattle.wild_script_tree.specs.declared.tree.MemoryRegion.{MemoryRegion}
use Rattle.wild_script_tree.specs.declared.tree.Section.{Section}
use Rattle.wild_value_spec.specs.declared.region.Region.{Region}
use Rattle.wild_value_spec.specs.Known.{Known, IsPart, Start, End, Dot}
use Rattle.wild_value_spec.specs.Scope.{region_at}
use Rattle.wild_plan_spec.specs.Case.{Case}
use Rattle.wild_plan_spec.specs.Checks.{Check, table_checks, place_checks, name_checks, memory_checks, header_name_checks, phdrs_checks, region_check, reference_checks, script_checks, checks, failing}
use Rattle.wild_plan_spec.specs.Facts.{Facts, said}
use Rattle.wild_plan_spec.specs.Fit.{IsLaid}
use Rattle.wild_plan_spec.specs.Ground.{Ground, ground_of}
use Rattle.wild_plan_spec.specs.Names.{Name}
use Rattle.wild_plan_spec.specs.Orphans.{places_of}
use Rattle.wild_plan_spec.specs.Places.{Place, script_places}
use Rattle.wild_plan_spec.specs.Headers.{header_names, phdrs_of}
use Rattle.wild_plan_spec.specs.Regions.{memory_of, region_of, region_names, regions_of, region_number}
use Rattle.wild_plan_spec.specs.Statements.{sections_of}
use Rattle.wild_plan_spec.specs.Steps.{State, leaves, leaves_region, region_in}
use Rattle.wild_walk_laws.specs.Holding.{IsKnown}
use Rattle.wild_walk_laws.specs.Nesting.{Zone, Free, Inside}
use Rattle.wild_walk_laws.proofs.Entries.{grown_entry, known_number, new_entry}
use Rattle.wild_walk_laws.proofs.Fresh.{Fresh, fresh_passes, opened_start}
use Rattle.wild_walk_laws.proofs.Growing.{chunk_grows, opened_part}
use Rattle.wild_walk_laws.proofs.Having.{Has, has_before, has_after}
use Rattle.wild_walk_laws.proofs.Numbered.{made_of, position_within, up_to}
use Rattle.wild_walk_laws.proofs.Offsets.{none_fails}
use Rattle.wild_walk_laws.proofs.SectionFacts.{names, facts, facts_named, facts_are, facts_is}
use Rattle.wild_walk_laws.proofs.Steps.{ended_at}
use Rattle.wild_walk_laws.proofs.Walked.{Passes, laid_walked}
use Rattle.wild_plan_laws.specs.Holding.{IsInside, IsRegionNamed, LiesInRegion, Spans}
use Rattle.wild_plan_laws.proofs.Spanned.{spans_grow}

-- ---- what holds between sections, and in them

inside_by : (b x : Bool) → (not b && x) ≡ false → b ≡ false → x ≡ false
inside_by true x e f = absurd (cc)
inside_by false x e f = e

module _ (ground : Ground) where
  -- the region of a section, if it is in one
  abbrev own_region : ℕ → Option Region
  own_region s = region_at ground.regions (region_in ground s)

  -- section s has begun and ended, in its region if it is counted
  record IsBound (known : Known) (s : ℕ) : Type 0 where
    start : ℕ
    end : ℕ
    spans : Spans known s start end
    stays : (ground.facts s).floating ≡ false → leaves (own_region s) start end ≡ false

  abbrev AreBound : ℕ → Known → Type 0
  AreBound n known = (s : ℕ) → s < n → IsBound known s

  -- the sections before this place are bound, and one that is open has begun
  abbrev Bounds : Zone → Known → Type 0
  Bounds (Free n) known = AreBound n known
  Bounds (Inside s) known = AreBound s known × IsKnown known (Start s)

  are_bound_on : (n : ℕ) (known more : Known) → IsPart known more → AreBound n known → AreBound n more
  are_bound_on n known more part h s low =
      let b = h s low in
      record { start = b.start; end = b.end; spans = spans_grow known more s b.start b.end part b.spans; stays = b.stays }

  bounds_on : (z : Zone) (known more : Known) → IsPart known more → Bounds z known → Bounds z more
  bounds_on (Free n) known more part h = are_bound_on n known more part h
  bounds_on (Inside s) known more part h = (are_bound_on s known more part h.0, (h.1.0, part (Start s) h.1.0 h.1.1))

  -- and what is not known yet is that of later ones
  abbrev Binds : Zone → State → Type 0
  Binds z st = Fresh z st × Bounds z st.known

  -- a section ends
  module _ (s counter : ℕ) (regions : List ℕ) (st : State) (inside : leaves_region ground s st ≡ false) (h : Binds (Inside s) st) where
    abbrev next : State
    next = ended_at s counter regions st

    part : IsPart st.known next.known
    part = grown_entry (End s) st.cursor st.known

    own_stays : (ground.facts s).floating ≡ false → leaves (own_region s) h.1.1.0 st.cursor ≡ false
    unfolding leaves_region
    own_stays counted =
        let number = known_number st.known (Start s) h.1.1.0 h.1.1.1 in
        ap (λ (n : ℕ). leaves (own_region s) n st.cursor) (sym number) ∙ inside_by (ground.facts s).floating _ inside counted

    own_bound : IsBound next.known s
    own_bound = record {
      start = h.1.1.0;
      end = st.cursor;
      spans = record { starts = part (Start s) h.1.1.0 h.1.1.1; ends = new_entry (End s) st.cursor st.known (h.0 (End s) (omega arith)) };
      stays = own_stays;
    }

    all_bound : AreBound (s + 1) next.known
    all_bound u low = up_to s u (IsBound next.known) (omega (arith, low)) (are_bound_on s st.known next.known part h.1.0 u) own_bound

  binds_passes : (places : List Place) → Passes ground places Binds
  binds_passes places =
      let fresh = fresh_passes ground places in
      record {
        noted = λ z i n st h. (fresh.noted z i n st h.0, bounds_on z st.known _ (grown_entry (Dot i) n st.known) h.1);
        located = λ n i m st h. h;
        moved = λ s i n e st there low h. h;
        opened = λ i s n m st begins h. (fresh.opened i s n m st begins h.0, (are_bound_on s st.known _ (opened_part i s n m st) h.1, (n, opened_start i s n m st h.0)));
        placed = λ s q st next own goes h. (fresh.placed s q st next own goes h.0, bounds_on (Inside s) st.known next.known (chunk_grows (ground.rows q) st next goes).known h.1);
        ended = λ s counter regions st inside alone h. (fresh.ended s counter regions st inside alone h.0, all_bound s counter regions st inside h);
      }

-- ---- each region that a section names is there

there_by : (b : Bool) (n : ℕ) (o : Option ℕ) (rest : Bool) → (rest ≡ true → (s : ℕ) × (o ≡ Some s)) → (b || rest) ≡ true → (s : ℕ) × (cond b (Some n) o ≡ Some s)
there_by true n o rest h e = (n, refl)
there_by false n o rest h e = h e

position_there : {X : Type 0} (p : X → Bool) (n : ℕ) (xs : List X) → list_any p xs ≡ true → (s : ℕ) × (position_from p n xs ≡ Some s)
position_there p n [] e = absurd (cc)
position_there p n (x ∷ xs) e = there_by (p x) n (position_from p (n + 1) xs) (list_any p xs) (position_there p (n + 1) xs) e

there_at : {X : Type 0} (xs : List X) (i : ℕ) → i < length xs → (x : X) × (slice_get xs i ≡ Some x)
there_at [] i low = absurd (omega (arith, low))
there_at (x ∷ xs) zero low = (x, refl)
there_at (x ∷ xs) (suc i) low = there_at xs i (omega (arith, low))

module _ (names phdrs : List Name) (name : Name) where
  abbrev ChecksName : Check → Type 0
  ChecksName k = k.holds ≡ list_any (is_named name) names

  name_checked : (o : Option Name) → o ≡ Some name → Has ChecksName (region_check names o)
  name_checked None e = absurd (cc)
  name_checked (Some x) e = let same : x ≡ name = cc in inl (ap (λ (y : Name). list_any (is_named y) names) same)

  abbrev section_checks : Section → List Check
  section_checks x = region_check names x.region ++ header_name_checks phdrs x.phdrs

  reference_checked : (xs : List Section) (s : ℕ) (x : Section) → slice_get xs s ≡ Some x → x.region ≡ Some name → Has ChecksName (reference_checks names phdrs xs)
  reference_checked [] s x there e = absurd (cc)
  reference_checked (first ∷ xs) zero x there e =
      let same : first ≡ x = cc in
      has_before ChecksName (section_checks first) (reference_checks names phdrs xs)
      (has_before ChecksName (region_check names first.region) (header_name_checks phdrs first.phdrs) (name_checked first.region (ap (λ (w : Section). w.region) same ∙ e)))
  reference_checked (first ∷ xs) (suc s) x there e = has_after ChecksName (section_checks first) (reference_checks names phdrs xs) (reference_checked xs s x there e)

said_by : (o : Option Section) (name : Name) → said (λ (x : Section). x.region) o ≡ Some name → (x : Section) × (o ≡ Some x) × (x.region ≡ Some name)
said_by None name e = absurd (cc)
said_by (Some x) name e = (x, refl, e)

region_there : (rs : List MemoryRegion) (o : Option ℕ) (i : ℕ) → o ≡ Some i → i < length rs → (r : Region) × (region_at (map region_of rs) o ≡ Some r)
region_there rs o i e low =
    let at = there_at rs i low in
    (region_of at.0, ap (region_at (map region_of rs)) e ∙ slice_get-map region_of rs i ∙ ap (option_map region_of) at.1)

named_there : (c : Case) → failing (checks c) ≡ None → (s : ℕ) (x : Section) (name : Name) → slice_get (sections_of c.commands) s ≡ Some x → x.region ≡ Some name → (r : Region) × IsRegionNamed c.commands name r
named_there c sound s x name there e =
    let t = c.commands in
    let names = region_names t in
    let checked = has_after _ (table_checks c.inputs) _
    (has_before _ (script_checks c.options t) _
    (has_after _ (place_checks c.options 0 (script_places t)) _
    (has_after _ (memory_checks (memory_of t)) _
    (has_after _ (phdrs_checks (phdrs_of t)) _
    (has_after _ (name_checks DuplicateName [] names) _
    (has_after _ (name_checks DuplicateName [] (header_names t)) _
    (has_before _ (reference_checks names (header_names t) (sections_of t)) _ (reference_checked names (header_names t) name (sections_of t) s x there e)))))))) in
    let found = position_there (is_named name) 0 names (none_fails (checks c) _ sound checked) in
    let within = position_within (is_named name) 0 names found.0 found.1 in
    let same = length-map (memory_of t).regions (λ (r : MemoryRegion). r.name) in
    region_there (memory_of t).regions (number_of name names) found.0 found.1 (omega (arith, within, same))

-- ---- cases

module _ (c : Case) (state : State) (f : IsLaid c state) where
  abbrev ground : Ground
  ground = ground_of c f.order

  bound : (s : ℕ) (g : Facts) → slice_get (facts c) s ≡ Some g → IsBound ground state.known s
  bound s g there =
      let named = made_of (facts_named c s) (slice_get (names c) s) g (sym (facts_are c s) ∙ there) in
      let all = laid_walked c state f (Binds ground) (binds_passes ground (places_of c.commands c.inputs)) (λ x ahead. refl, λ u low. absurd (omega (arith, low))) in
      all.1 s (slice_get_within (names c) s named.0 named.1)

  -- where the region of a section stands
  region_is : (s : ℕ) (g : Facts) (name : Name) (r : Region) → slice_get (facts c) s ≡ Some g → g.region ≡ Some name → IsRegionNamed c.commands name r → own_region ground s ≡ Some r
  region_is s g name r there e named =
      let same = facts_is c s g there in
      ap (λ (o : Option Name). region_at (regions_of c.commands) (region_number (region_names c.commands) o)) (ap (λ (h : Facts). h.region) same ∙ e) ∙ named

  inside_own : (s : ℕ) (g : Facts) (name : Name) (r : Region) → slice_get (facts c) s ≡ Some g → g.floating ≡ false → g.region ≡ Some name → IsRegionNamed c.commands name r
      → (b : IsBound ground state.known s) → IsInside r b.start b.end
  inside_own s g name r there counted e named b =
      let same = facts_is c s g there in
      let stays = b.stays (ap (λ (h : Facts). h.floating) same ∙ counted) in
      let both = or_parts _ _ (ap (λ (o : Option Region). leaves o b.start b.end) (sym (region_is s g name r there e named)) ∙ stays) in
      (ltb-false b.start r.origin both.0, ltb-false (r.origin + r.length) b.end both.1)

  pub sections_lie_in_regions : (s : ℕ) (g : Facts) → slice_get (facts c) s ≡ Some g → g.floating ≡ false → (name : Name) → g.region ≡ Some name → LiesInRegion c.commands state.known s name
  sections_lie_in_regions s g there counted name e =
      let made = made_of (facts_named c s) (slice_get (names c) s) g (sym (facts_are c s) ∙ there) in
      let x = said_by (slice_get (sections_of c.commands) s) name (ap (λ (h : Facts). h.region) made.2 ∙ e) in
      let r = named_there c f.sound s x.0 name x.1 x.2 in
      let b = bound s g there in
      record { region = r.0; named = r.1; start = b.start; end = b.end; spans = b.spans; inside = inside_own s g name r.0 there counted e r.1 b }
