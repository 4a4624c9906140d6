-- What a plan lists is what is known of the layout, so that it stands as that does.
use Rattle.std.proofs.Common.{◌≡◌, ◌∙◌, ℕ, zero, suc, ◌+◌, ◌-◌, ◌^◌, ◌<◌, Bool, true, false, not, List, [], ◌∷◌, ◌++◌, Option, Some, None, refl, sym, ap, subst, inl, inr, arith}
use Rattle.std.specs.Prelude.{slice_get}
use Rattle.wild_value_spec.specs.Known.{Known, Start, Load, End, Address, number_at}
use Rattle.wild_plan_spec.specs.declared.chunk.Kept.{Kept}
use Rattle.wild_plan_spec.specs.declared.placed.PlacedInput.{PlacedInput}
use Rattle.wild_plan_spec.specs.declared.placed.PlacedInput.TheVariants.{Placed}
use Rattle.wild_plan_spec.specs.declared.placed.PlacedLocation.{PlacedLocation}
use Rattle.wild_plan_spec.specs.declared.placed.PlacedSection.{PlacedSection}
use Rattle.wild_plan_spec.specs.declared.placed.PlacedSymbol.{PlacedSymbol}
use Rattle.wild_plan_spec.specs.declared.row.InputRow.{InputRow}
use Rattle.wild_plan_spec.specs.declared.row.SymbolRow.{SymbolRow}
use Rattle.wild_plan_spec.specs.Case.{Case}
use Rattle.wild_plan_spec.specs.Definitions.{symbol_chunk}
use Rattle.wild_plan_spec.specs.Facts.{Facts, facts_at}
use Rattle.wild_plan_spec.specs.Fit.{Fits, IsLaid}
use Rattle.wild_plan_spec.specs.Layout.{Layout, placed_section, placed_sections, placed_input, placed_inputs}
use Rattle.wild_plan_spec.specs.Names.{Name}
use Rattle.wild_plan_spec.specs.Orphans.{places_of}
use Rattle.wild_plan_spec.specs.Steps.{State}
use Rattle.wild_plan_spec.specs.Symbols.{table_symbol, table_symbols}
use Rattle.wild_walk_laws.proofs.Entries.{known_number, one_number}
use Rattle.wild_walk_laws.proofs.Having.{IsAmong, has_before, has_after, has_there}
use Rattle.wild_walk_laws.proofs.Kept.{kept_rows_have_addresses}
use Rattle.wild_walk_laws.proofs.Numbered.{each_at, made_of}
use Rattle.wild_walk_laws.proofs.SectionFacts.{fates, facts, facts_is, sections_are, section_there}
use Rattle.wild_walk_laws.proofs.Standing.{rows_stand_in_place}
use Rattle.wild_plan_laws.specs.Holding as holding
use Rattle.wild_plan_laws.specs.Listing.{AreOneOrListedCounted, Covers, IsListedCounted, Lists, RowStands, SectionStands, StandsInRegion, SymbolStands}
use Rattle.wild_plan_laws.proofs.Apart.{sections_stand, rows_lie_in_sections, starts_below, sections_do_not_overlap, rows_do_not_overlap}
use Rattle.wild_plan_laws.proofs.Regions.{sections_lie_in_regions}

-- ---- symbols of the table

-- a symbol at an address of section s
abbrev at_address : SymbolRow → ℕ → ℕ → PlacedSymbol
at_address symbol s address = record { name = symbol.name; address = address; «section» = Some s; hidden = false }

module _ (known : Known) (fates : List (Option Kept)) where
  abbrev own_symbol : SymbolRow → Kept → PlacedSymbol
  own_symbol symbol k = at_address symbol k.chunk.«section» (number_at known (Address symbol.row) + symbol.offset)

  own_listed : (symbol : SymbolRow) (k : Kept) → slice_get fates symbol.row ≡ Some (Some k) → IsAmong (own_symbol symbol k) (table_symbol known symbol (symbol_chunk fates symbol))
  own_listed symbol k e = rw e (inl refl)

  symbol_listed : (symbols : List SymbolRow) (i : ℕ) (symbol : SymbolRow) (k : Kept) → slice_get symbols i ≡ Some symbol → slice_get fates symbol.row ≡ Some (Some k) → IsAmong (own_symbol symbol k) (table_symbols known fates symbols)
  symbol_listed [] i symbol k there e = absurd (cc)
  symbol_listed (first ∷ symbols) zero symbol k there e =
      let same : symbol ≡ first = cc in
      has_before _ (table_symbol known first (symbol_chunk fates first)) (table_symbols known fates symbols)
      (subst (λ (w : SymbolRow). IsAmong (own_symbol symbol k) (table_symbol known w (symbol_chunk fates w))) same (own_listed symbol k e))
  symbol_listed (first ∷ symbols) (suc i) symbol k there e =
      has_after _ (table_symbol known first (symbol_chunk fates first)) (table_symbols known fates symbols) (symbol_listed symbols i symbol k there e)

-- ---- layouts

module _ (c : Case) (state : State) (f : IsLaid c state) where
  abbrev sections : List PlacedSection
  sections = placed_sections state.known 0 (facts c)

  -- a section of which this is said is listed with its numbers
  record IsPlace (s : ℕ) (g : Facts) (place : PlacedSection) : Type 0 where
    place_is : place ≡ placed_section state.known s g
    stands : holding.LaidSectionStands (places_of c.commands c.inputs) state s g
    start : place.start ≡ stands.start
    load : place.load ≡ stands.load
    size : place.size ≡ stands.end - stands.start

  placed_is : (s : ℕ) (g : Facts) → slice_get (facts c) s ≡ Some g → IsPlace s g (placed_section state.known s g)
  placed_is s g there =
      let stands = sections_stand c state f s g there in
      let start = known_number state.known (Start s) stands.start stands.spans.starts in
      record {
        place_is = refl;
        stands = stands;
        start = start;
        load = known_number state.known (Load s) stands.load stands.loads;
        size = ap (λ (n : ℕ). n - number_at state.known (Start s)) (known_number state.known (End s) stands.end stands.spans.ends) ∙ ap (λ (n : ℕ). stands.end - n) start;
      }

  -- what is said of a section that is listed
  record IsSaid (s : ℕ) (place : PlacedSection) : Type 0 where
    facts_said : Facts
    there : slice_get (facts c) s ≡ Some facts_said
    is : IsPlace s facts_said place

  listed_is : (s : ℕ) (place : PlacedSection) → slice_get sections s ≡ Some place → IsSaid s place
  listed_is s place there =
      let made = made_of (placed_section state.known s) (slice_get (facts c) s) place (sym (sections_are c state.known s) ∙ there) in
      record { facts_said = made.0; there = made.1; is = subst (IsPlace s made.0) made.2 (placed_is s made.0 made.1) }

  section_stands : (s : ℕ) (g : Facts) (place : PlacedSection) → slice_get (facts c) s ≡ Some g → slice_get sections s ≡ Some place → (plan : Layout) → plan.locations ≡ state.locations → SectionStands c plan s g place
  section_stands s g place said there plan same =
      let found = listed_is s place there in
      let both : Some found.facts_said ≡ Some g = sym found.there ∙ said in
      let alike : found.facts_said ≡ g = cc in
      let is = subst (λ (h : Facts). IsPlace s h place) alike found.is in
      let start = is.start in
      let size = is.size in
      let forward = is.stands.forward in
      let end : place.start + place.size ≡ is.stands.end = omega (arith, start, size, forward) in
      record {
        alignment = ap (λ (p : PlacedSection). p.alignment) is.place_is;
        begins = subst (λ (n : ℕ). holding.StandsBy g n place.load) (sym start) (subst (holding.StandsBy g is.stands.start) (sym is.load) is.stands.begins);
        below = λ small words.
            let high = is.stands.below (subst (λ (n : ℕ). n < 2 ^ 64) start small) (subst (λ (ls : List PlacedLocation). holding.AreWordsIn (places_of c.commands c.inputs) ls s) same words) in
            subst (λ (n : ℕ). n < 2 ^ 64) (sym end) high;
      }

  -- the addresses that a listed section covers are those that the section holds
  covered_is : (s : ℕ) (place : PlacedSection) (x : ℕ) → slice_get sections s ≡ Some place → Covers place.start place.size x → holding.SectionHolds state.known s x
  covered_is s place x there h =
      let is = (listed_is s place there).is in
      let start = is.start in
      let size = is.size in
      let low = h.0 in
      let high = h.1 in
      record { start = is.stands.start; end = is.stands.end; spans = is.stands.spans; from = omega (arith, start, low); to = omega (arith, start, size, low, high) }

  counted_by : (b : Bool) → not b ≡ true → b ≡ false
  counted_by true e = absurd (cc)
  counted_by false e = refl

  -- a section that is listed as counted is
  counted_is : (s : ℕ) (place : PlacedSection) → slice_get sections s ≡ Some place → place.counted ≡ true → holding.IsCounted c s
  counted_is s place there counts =
      let found = listed_is s place there in
      let same = facts_is c s found.facts_said found.there in
      ap (λ (g : Facts). g.floating) same ∙ counted_by found.facts_said.floating (sym (ap (λ (p : PlacedSection). p.counted) found.is.place_is) ∙ counts)

  -- a section that is listed as counted lies in its region, as it is listed
  section_in_region : (s : ℕ) (place : PlacedSection) → slice_get sections s ≡ Some place → place.counted ≡ true → (name : Name) → place.region ≡ Some name → StandsInRegion c.commands name place
  section_in_region s place there counts name e =
      let found = listed_is s place there in
      let is = found.is in
      let counted = counted_by found.facts_said.floating (sym (ap (λ (p : PlacedSection). p.counted) is.place_is) ∙ counts) in
      let lies = sections_lie_in_regions c state f s found.facts_said found.there counted name (sym (ap (λ (p : PlacedSection). p.region) is.place_is) ∙ e) in
      let first = one_number state.known (Start s) lies.start is.stands.start lies.spans.starts is.stands.spans.starts in
      let last = one_number state.known (End s) lies.end is.stands.end lies.spans.ends is.stands.spans.ends in
      let start = is.start in
      let size = is.size in
      let forward = is.stands.forward in
      let low = lies.inside.0 in
      let high = lies.inside.1 in
      record { region = lies.region; named = lies.named; inside = (omega (arith, first, start, low), omega (arith, first, last, start, size, forward, high)) }

  -- ---- rows

  abbrev placements : List PlacedInput
  placements = placed_inputs state.known 0 (fates c)

  -- a row that is listed has this address
  record IsAt (r s address : ℕ) : Type 0 where
    kept : Kept
    fate : slice_get (fates c) r ≡ Some (Some kept)
    own : kept.chunk.«section» ≡ s
    placed : state.known (Address r) ≡ Some address

  placed_at : (r s chunk address : ℕ) (o : Option Kept) → slice_get (fates c) r ≡ Some o → placed_input state.known r o ≡ Placed s chunk address → IsAt r s address
  placed_at r s chunk address None fate e = absurd (cc)
  placed_at r s chunk address (Some k) fate e =
      let has = kept_rows_have_addresses c state f r k fate in
      let number : number_at state.known (Address r) ≡ address = cc in
      record { kept = k; fate = fate; own = cc; placed = has.1 ∙ ap Some (sym (known_number state.known (Address r) has.0 has.1) ∙ number) }

  is_at : (r s chunk address : ℕ) → slice_get placements r ≡ Some (Placed s chunk address) → IsAt r s address
  is_at r s chunk address there =
      let each = each_at (λ n o. placed_input state.known n o) (λ n os. placed_inputs state.known n os) (λ n. refl) (λ n o os. refl) (fates c) r in
      let made = made_of (placed_input state.known r) (slice_get (fates c) r) (Placed s chunk address) (sym each ∙ there) in
      placed_at r s chunk address made.0 made.1 made.2

  -- the listed section that a row lies in
  row_stands : (r s address : ℕ) (row : InputRow) → slice_get c.inputs.rows r ≡ Some row → IsAt r s address → (plan : Layout) → plan.sections ≡ sections → RowStands plan s address row
  row_stands r s address row there at plan same =
      let lies = subst (λ (n : ℕ). holding.LiesIn state.known n address row.size) at.own (rows_lie_in_sections c state f r row at.kept there at.fate address at.placed) in
      let start = known_number state.known (Start s) lies.start lies.spans.starts in
      let end = known_number state.known (End s) lies.end lies.spans.ends in
      record {
        aligned = (rows_stand_in_place c state f r row address there at.placed).aligned;
        place = placed_section state.known s (facts_at (facts c) s);
        there = ap (λ (xs : List PlacedSection). slice_get xs s) same ∙ section_there c state.known s (starts_below c state f s lies.start lies.spans.starts);
        from = omega (arith, start);
        to = omega (arith, start, end);
      }

  -- the addresses that a listed row covers are those that the row holds
  row_covered : (r s address x : ℕ) (row : InputRow) → slice_get c.inputs.rows r ≡ Some row → IsAt r s address → Covers address row.size x → holding.RowHolds c.inputs.rows state.known r x
  row_covered r s address x row there at h = record { row = row; there = there; address = address; placed = at.placed; from = h.0; to = h.1 }

  -- ---- symbols

  -- a symbol of a row that is listed is listed with their sum
  symbol_at : (found : List PlacedSymbol) (i : ℕ) (symbol : SymbolRow) (s address : ℕ) → slice_get c.inputs.symbols i ≡ Some symbol → IsAt symbol.row s address
      → IsAmong (at_address symbol s (address + symbol.offset)) (table_symbols state.known (fates c) c.inputs.symbols ++ found)
  symbol_at found i symbol s address there at =
      let number = known_number state.known (Address symbol.row) address at.placed in
      let sum : number_at state.known (Address symbol.row) + symbol.offset ≡ address + symbol.offset = ap (λ (n : ℕ). n + symbol.offset) number in
      has_before _ (table_symbols state.known (fates c) c.inputs.symbols) found
      (subst (λ (placed : PlacedSymbol). IsAmong placed (table_symbols state.known (fates c) c.inputs.symbols))
      (ap (at_address symbol at.kept.chunk.«section») sum ∙ ap (λ (n : ℕ). at_address symbol n (address + symbol.offset)) at.own)
      (symbol_listed state.known (fates c) c.inputs.symbols i symbol at.kept there at.fate))

-- ---- plans

module _ (c : Case) (plan : Layout) (f : Fits c plan) where
  place_there : (s : ℕ) (place : PlacedSection) → slice_get plan.sections s ≡ Some place → slice_get (sections c f.state f.laid) s ≡ Some place
  place_there s place there = ap (λ (l : Layout). slice_get l.sections s) (sym f.listed) ∙ there

  row_there : (r s address : ℕ) (row : InputRow) → Lists c.inputs plan r s address row → IsAt c f.state f.laid r s address
  row_there r s address row l = is_at c f.state f.laid r s l.chunk address (ap (λ (l : Layout). slice_get l.placements r) (sym f.listed) ∙ l.listed)

  pub listed_sections_stand : (s : ℕ) (g : Facts) (place : PlacedSection) → slice_get (facts c) s ≡ Some g → slice_get plan.sections s ≡ Some place → SectionStands c plan s g place
  listed_sections_stand s g place said there = section_stands c f.state f.laid s g place said (place_there s place there) plan (ap (λ (l : Layout). l.locations) f.listed)

  pub listed_sections_stand_in_regions : (s : ℕ) (place : PlacedSection) → slice_get plan.sections s ≡ Some place → place.counted ≡ true → (name : Name) → place.region ≡ Some name → StandsInRegion c.commands name place
  listed_sections_stand_in_regions s place there counts name e = section_in_region c f.state f.laid s place (place_there s place there) counts name e

  pub listed_rows_stand : (r s address : ℕ) (row : InputRow) → Lists c.inputs plan r s address row → RowStands plan s address row
  listed_rows_stand r s address row l = row_stands c f.state f.laid r s address row l.there (row_there r s address row l) plan (ap (λ (l : Layout). l.sections) f.listed)

  pub listed_sections_do_not_overlap : (s u : ℕ) (one other : PlacedSection) → slice_get plan.sections s ≡ Some one → slice_get plan.sections u ≡ Some other
      → one.counted ≡ true → other.counted ≡ true → (x : ℕ) → Covers one.start one.size x → Covers other.start other.size x → s ≡ u
  listed_sections_do_not_overlap s u one other there here counts too x h g =
      let first = place_there s one there in
      let second = place_there u other here in
      sections_do_not_overlap c f.state f.laid s u (counted_is c f.state f.laid s one first counts) (counted_is c f.state f.laid u other second too) x
      (covered_is c f.state f.laid s one x first h) (covered_is c f.state f.laid u other x second g)

  listed_counts : (s : ℕ) → IsListedCounted plan s → holding.IsCounted c s
  listed_counts s h = counted_is c f.state f.laid s h.place (place_there s h.place h.there) h.counted

  -- the sections of two rows, where they are listed so
  kept_apart : (s u v w : ℕ) → v ≡ s → w ≡ u → AreOneOrListedCounted plan s u → holding.AreOneOrCounted c v w
  kept_apart s u v w first second (inl same) = inl (first ∙ same ∙ sym second)
  kept_apart s u v w first second (inr both) = inr (subst (holding.IsCounted c) (sym first) (listed_counts s both.0), subst (holding.IsCounted c) (sym second) (listed_counts u both.1))

  pub listed_rows_do_not_overlap : (p r s u a b : ℕ) (one other : InputRow) → Lists c.inputs plan p s a one → Lists c.inputs plan r u b other → AreOneOrListedCounted plan s u
      → (x : ℕ) → Covers a one.size x → Covers b other.size x → p ≡ r
  listed_rows_do_not_overlap p r s u a b one other l m apart x h g =
      let first = row_there p s a one l in
      let second = row_there r u b other m in
      rows_do_not_overlap c f.state f.laid p r first.kept second.kept first.fate second.fate (kept_apart s u first.kept.chunk.«section» second.kept.chunk.«section» first.own second.own apart) x
      (row_covered c f.state f.laid p s a x one l.there first h) (row_covered c f.state f.laid r u b x other m.there second g)

  pub listed_symbols_stand : (i : ℕ) (symbol : SymbolRow) → slice_get c.inputs.symbols i ≡ Some symbol → (s address : ℕ) (row : InputRow) → Lists c.inputs plan symbol.row s address row → SymbolStands plan s address symbol
  listed_symbols_stand i symbol there s address row l =
      let listed = has_there _ plan.symbols (subst (IsAmong (at_address symbol s (address + symbol.offset))) (sym (ap (λ (x : Layout). x.symbols) f.listed))
      (symbol_at c f.state f.laid f.found i symbol s address there (row_there symbol.row s address row l))) in
      record { index = listed.0; there = listed.2 ∙ ap Some listed.3 }
