-- The places of a script and its orphans nest, and each section has its first chunk: by recursion over the tree, once.
use Rattle.std.proofs.Common.{◌≡◌, ◌∙◌, ℕ, zero, suc, ◌+◌, ◌<◌, ◌≤◌, Bool, true, false, cond, List, [], ◌∷◌, ◌++◌, length, Option, Some, None, refl, sym, ap, subst, inl, inr, ⊎_elim, arith}
use Rattle.std.specs.Prelude.{IfSome, slice_get}
use Rattle.std.proofs.lemmas.Bool.{cases_lt}
use Rattle.std.proofs.lemmas.List.{length-append}
use Rattle.wild_script_tree.specs.declared.tree.Command.TheVariants as command
use Rattle.wild_script_tree.specs.declared.tree.ContentsCommand.{ContentsCommand}
use Rattle.wild_script_tree.specs.declared.tree.ContentsCommand.TheVariants as contents
use Rattle.wild_script_tree.specs.declared.tree.Command.{Command}
use Rattle.wild_script_tree.specs.declared.tree.Section.{Section}
use Rattle.wild_script_tree.specs.declared.tree.SectionCommand.TheVariants as inner
use Rattle.wild_plan_spec.specs.declared.chunk.Chunk.{Chunk}
use Rattle.wild_plan_spec.specs.declared.place.Where.TheVariants as stand
use Rattle.wild_plan_spec.specs.declared.row.InputTable.{InputTable}
use Rattle.wild_plan_spec.specs.Fates.{names_of, orphans_of, section_names}
use Rattle.wild_plan_spec.specs.Names.{Name}
use Rattle.wild_plan_spec.specs.Orphans.{orphan_places, places_of}
use Rattle.wild_plan_spec.specs.Places.{Task, Place, SetLocation, Wait, Open, Collect, Rows, Close, Discard, Idle, Memory, Headers, Format, contents_places, rest_chunk, section_places, discarding_places, discard_places, statement_places, next_section, all_places, script_places}
use Rattle.wild_plan_spec.specs.Statements.{Statement, Inner, Outer, is_discard, sections_in, statement_sections, statements_of, sections_of}
use Rattle.wild_walk_laws.specs.Nesting.{Zone, Free, Inside, Turns, Nests}
use Rattle.wild_walk_laws.proofs.Having.{Has, has_before, has_after}

-- the place lays out the rows of the chunk
abbrev pub Lays : Chunk → Place → Type 0
Lays q (Collect collects m) = collects ≡ Some q
Lays q (Rows own) = own ≡ q
Lays q (Close s rest) = rest ≡ Some q
Lays q p = ⊥

-- the first chunk of a section
abbrev pub first_of : ℕ → Chunk
first_of s = record { «section» = s; number = 0 }

-- places bring the sections from n up to m, one after the other, each with its first chunk
record Brings (n : ℕ) (ps : List Place) (m : ℕ) : Type 0 where
  nest : Nests (Free n) ps (Free m)
  lay : (s : ℕ) → n ≤ s → s < m → Has (Lays (first_of s)) ps

-- ---- one list after the other

nests_both : (xs ys : List Place) (x y z : Zone) → Nests x xs y → Nests y ys z → Nests x (xs ++ ys) z
nests_both [] ys x y z f g = subst (λ w. Nests w ys z) f g
nests_both (p ∷ ps) ys x y z f g = (f.0, f.1, nests_both ps ys f.0 y z f.2 g)

both_bring : (xs ys : List Place) (n m k : ℕ) → Brings n xs m → Brings m ys k → Brings n (xs ++ ys) k
both_bring xs ys n m k f g = record {
  nest = nests_both xs ys (Free n) (Free m) (Free k) f.nest g.nest;
  lay = λ s low high. ⊎_elim (λ lt. has_before (Lays (first_of s)) xs ys (f.lay s low lt)) (λ le. has_after (Lays (first_of s)) xs ys (g.lay s le high)) (cases_lt s m);
}

none_bring : (n : ℕ) (ps : List Place) → Nests (Free n) ps (Free n) → Brings n ps n
none_bring n ps nest = record { nest = nest; lay = λ s low high. absurd (omega (arith, low, high)) }

one_brings : (n : ℕ) (ps : List Place) → Nests (Free n) ps (Free (n + 1)) → Has (Lays (first_of n)) ps → Brings n ps (n + 1)
one_brings n ps nest lay = record { nest = nest; lay = λ s low high. let same : n ≡ s = omega (arith, low, high) in subst (λ m. Has (Lays (first_of m)) ps) same lay }

-- ---- one section

contents_nest : (s number : ℕ) (cs : List ContentsCommand) → Nests (Inside s) (contents_places s number cs) (Inside s)
contents_nest s number [] = refl
contents_nest s number (contents.Matcher m ∷ cs) = (Inside s, (refl, refl), contents_nest s (number + 1) cs)
contents_nest s number (contents.Constructors ∷ cs) = (Inside s, refl, contents_nest s number cs)
contents_nest s number (c ∷ cs) = (Inside s, (refl, refl), contents_nest s number cs)

rest_own : (s : ℕ) (cs : List ContentsCommand) → IfSome (rest_chunk s cs) (λ q. q.«section» ≡ s)
rest_own s [] = refl
rest_own s (contents.Matcher m ∷ cs) = tt
rest_own s (c ∷ cs) = rest_own s cs

contents_lay : (s : ℕ) (cs : List ContentsCommand) → Has (Lays (first_of s)) (contents_places s 0 cs ++ Close s (rest_chunk s cs) ∷ [])
contents_lay s [] = inl refl
contents_lay s (contents.Matcher m ∷ cs) = inl refl
contents_lay s (c ∷ cs) = inr (contents_lay s cs)

section_brings : (s : ℕ) (x : Section) → Brings s (section_places s x) (s + 1)
section_brings s x = one_brings s (section_places s x) (
  Inside s,
  (refl, refl),
  nests_both (contents_places s 0 x.commands) (Close s (rest_chunk s x.commands) ∷ []) (Inside s) (Inside s) (Free (s + 1))
      (contents_nest s 0 x.commands) (Free (s + 1), (refl, rest_own s x.commands, refl), refl),
)
    (inr (contents_lay s x.commands))

-- ---- statements

discarding_nest : (n : ℕ) (cs : List ContentsCommand) → Nests (Free n) (discarding_places cs) (Free n)
discarding_nest n [] = refl
discarding_nest n (contents.Matcher m ∷ cs) = (Free n, refl, discarding_nest n cs)
discarding_nest n (c ∷ cs) = (Free n, refl, discarding_nest n cs)

discard_nests : (n : ℕ) (x : Section) → Nests (Free n) (discard_places x) (Free n)
discard_nests n x = (Free n, refl, nests_both (discarding_places x.commands) (Idle ∷ []) (Free n) (Free n) (Free n) (discarding_nest n x.commands) (Free n, refl, refl))

section_or_discard : (b : Bool) (n : ℕ) (x : Section) → Brings n (cond b (discard_places x) (section_places n x)) (cond b n (n + 1))
section_or_discard true n x = none_bring n (discard_places x) (discard_nests n x)
section_or_discard false n x = section_brings n x

statement_brings : (n : ℕ) (x : Statement) → Brings n (statement_places n x) (next_section n x)
statement_brings n (Inner (inner.Section x)) = section_or_discard (is_discard x) n x
statement_brings n (Inner c) = none_bring n _ (Free n, refl, refl)
statement_brings n (Outer (command.Sections c)) = none_bring n [] refl
statement_brings n (Outer (command.SymbolDefinition name value)) = none_bring n _ (Free n, (refl, refl), refl)
statement_brings n (Outer (command.SetLocation l)) = none_bring n _ (Free n, (refl, refl), refl)
statement_brings n (Outer (command.Provide d)) = none_bring n _ (Free n, (refl, refl), refl)
statement_brings n (Outer (command.Assert c)) = none_bring n _ (Free n, (refl, refl), refl)
statement_brings n (Outer c) = none_bring n _ (Free n, refl, refl)

numbered_by : (b : Bool) (n : ℕ) (x : Section) (m : ℕ) → cond b n (n + 1) + m ≡ n + (length (cond b [] (x ∷ [])) + m)
numbered_by true n x m = omega arith
numbered_by false n x m = omega arith

-- a statement that is a section takes its number
numbered : (n : ℕ) (x : Statement) (m : ℕ) → next_section n x + m ≡ n + (length (sections_in x) + m)
numbered n (Inner (inner.Section x)) m = numbered_by (is_discard x) n x m
numbered n (Inner c) m = omega arith
numbered n (Outer c) m = omega arith

statements_bring : (n : ℕ) (xs : List Statement) → Brings n (all_places n xs) (n + length (statement_sections xs))
statements_bring n [] = let z : n ≡ n + 0 = omega arith in subst (Brings n []) z (none_bring n [] refl)
statements_bring n (x ∷ xs) =
    let both = length-append (sections_in x) (statement_sections xs) in
    let z = numbered n x (length (statement_sections xs)) ∙ ap (λ m. n + m) (sym both) in
    subst (Brings n (all_places n (x ∷ xs))) z (both_bring (statement_places n x) (all_places (next_section n x) xs) n (next_section n x) _ (statement_brings n x) (statements_bring (next_section n x) xs))

-- ---- one place among all

-- a place leads between two zones, and those after it lead on to the last one
pub record Turned (p : Place) (z : Zone) : Type 0 where
  pub from : Zone
  pub to : Zone
  pub turn : Turns from p to
  pub rest : List Place
  pub nests : Nests to rest z

pub turned : (ps : List Place) (x z : Zone) → Nests x ps z → (i : ℕ) (p : Place) → slice_get ps i ≡ Some p → Turned p z
turned [] x z nests i p there = absurd (cc)
turned (q ∷ ps) x z nests zero p there =
    let same : q ≡ p = cc in
    record { from = x; to = nests.0; turn = subst (λ (r : Place). Turns x r nests.0) same nests.1; rest = ps; nests = nests.2 }
turned (q ∷ ps) x z nests (suc i) p there = turned ps nests.0 z nests.2 i p there

-- the number of the section after it
abbrev next_number : Zone → ℕ
next_number (Free n) = n
next_number (Inside s) = s + 1

rises : (x y z : Zone) → next_number x ≤ next_number z → y ≡ z → next_number x ≤ next_number y
rises x y z low e = let same = ap next_number e in omega (arith, low, same)

turn_rises : (x : Zone) (p : Place) (y : Zone) → Turns x p y → next_number x ≤ next_number y
turn_rises (Free n) (SetLocation None e) y turn = rises (Free n) y (Free n) (omega arith) turn
turn_rises (Free n) (Wait (stand.Outermost s) task) y turn = rises (Free n) y (Free n) (omega arith) turn.1
turn_rises (Free n) (Wait stand.Between task) y turn = rises (Free n) y (Free n) (omega arith) turn
turn_rises (Free n) (Open s x) y turn = rises (Free n) y (Inside n) (omega arith) turn.1
turn_rises (Free n) (Collect None m) y turn = rises (Free n) y (Free n) (omega arith) turn
turn_rises (Free n) (Discard x) y turn = rises (Free n) y (Free n) (omega arith) turn
turn_rises (Free n) Idle y turn = rises (Free n) y (Free n) (omega arith) turn
turn_rises (Free n) (Memory regions) y turn = rises (Free n) y (Free n) (omega arith) turn
turn_rises (Free n) (Headers headers) y turn = rises (Free n) y (Free n) (omega arith) turn
turn_rises (Free n) (Format format) y turn = rises (Free n) y (Free n) (omega arith) turn
turn_rises (Inside s) (SetLocation (Some u) e) y turn = rises (Inside s) y (Inside s) (omega arith) turn.1
turn_rises (Inside s) (Wait (stand.Inside u) task) y turn = rises (Inside s) y (Inside s) (omega arith) turn.1
turn_rises (Inside s) (Collect (Some q) m) y turn = rises (Inside s) y (Inside s) (omega arith) turn.1
turn_rises (Inside s) (Rows q) y turn = rises (Inside s) y (Inside s) (omega arith) turn.1
turn_rises (Inside s) (Close u rest) y turn = rises (Inside s) y (Free (s + 1)) (omega arith) turn.2
turn_rises (Inside s) Idle y turn = rises (Inside s) y (Inside s) (omega arith) turn
turn_rises x p y turn = absurd turn

nests_rise : (ps : List Place) (x z : Zone) → Nests x ps z → next_number x ≤ next_number z
nests_rise [] x z e = rises x z x (omega arith) e
nests_rise (p ∷ ps) x z nests =
    let first = turn_rises x p nests.0 nests.1 in
    let rest = nests_rise ps nests.0 z nests.2 in
    omega (arith, first, rest)

opens_below : (x : Zone) (s : ℕ) (o : Option Section) (y : Zone) → Turns x (Open s o) y → s < next_number y
opens_below (Free n) s o y turn =
    let same = turn.0 in
    let next = ap next_number turn.1 in
    omega (arith, same, next)
opens_below (Inside u) s o y turn = absurd turn

holds_below : (x : Zone) (s : ℕ) (task : Task) (y : Zone) → Turns x (Wait (stand.Inside s) task) y → s < next_number y
holds_below (Free n) s task y turn = absurd turn
holds_below (Inside u) s task y turn =
    let same = turn.0 in
    let next = ap next_number turn.1 in
    omega (arith, same, next)

stands_behind : (x : Zone) (s : ℕ) (task : Task) (y : Zone) → Turns x (Wait (stand.Outermost s) task) y → s ≤ next_number y
stands_behind (Free n) s task y turn =
    let same = turn.0 in
    let next = ap next_number turn.1 in
    omega (arith, same, next)
stands_behind (Inside u) s task y turn = absurd turn

-- ---- orphans

orphan_brings : (n : ℕ) → Brings n (Open n None ∷ Rows (first_of n) ∷ Close n None ∷ []) (n + 1)
orphan_brings n = one_brings n _ (Inside n, (refl, refl), (Inside n, (refl, refl), (Free (n + 1), (refl, tt, refl), refl))) (inr (inl refl))

orphans_bring : (n : ℕ) (xs : List Name) → Brings n (orphan_places n xs) (n + length xs)
orphans_bring n [] = let z : n ≡ n + 0 = omega arith in subst (Brings n []) z (none_bring n [] refl)
orphans_bring n (x ∷ xs) =
    let z : n + 1 + length xs ≡ n + suc (length xs) = omega arith in
    subst (Brings n (orphan_places n (x ∷ xs))) z (both_bring (Open n None ∷ Rows (first_of n) ∷ Close n None ∷ []) (orphan_places (n + 1) xs) n (n + 1) _ (orphan_brings n) (orphans_bring (n + 1) xs))

-- ---- all places

names_length : (xs : List Section) → length (names_of xs) ≡ length xs
names_length [] = refl
names_length (x ∷ xs) = ap suc (names_length xs)

module _ (t : List Command) (inputs : InputTable) where
  all_bring : Brings 0 (places_of t inputs) (length (section_names t inputs))
  all_bring =
      let own = length (sections_of t) in
      let both = length-append (names_of (sections_of t)) (orphans_of t inputs) in
      let named = names_length (sections_of t) in
      let z : 0 + own + length (orphans_of t inputs) ≡ length (section_names t inputs) = omega (arith, both, named) in
      let first : 0 + own ≡ own = omega arith in
      subst (Brings 0 (places_of t inputs)) z (both_bring (script_places t) (orphan_places own (orphans_of t inputs)) 0 (0 + own) _
      (statements_bring 0 (statements_of t)) (subst (λ m. Brings m (orphan_places own (orphans_of t inputs)) (m + length (orphans_of t inputs))) (sym first) (orphans_bring own (orphans_of t inputs))))

  pub places_nest : Nests (Free 0) (places_of t inputs) (Free (length (section_names t inputs)))
  places_nest = all_bring.nest

  -- a place opens one of the sections
  pub opened_below : (i s : ℕ) (x : Option Section) → slice_get (places_of t inputs) i ≡ Some (Open s x) → s < length (section_names t inputs)
  opened_below i s x there =
      let at = turned (places_of t inputs) (Free 0) (Free (length (section_names t inputs))) places_nest i (Open s x) there in
      let low = opens_below at.from s x at.to at.turn in
      let high = nests_rise at.rest at.to (Free (length (section_names t inputs))) at.nests in
      omega (arith, low, high)

  -- a task in the contents of a section stands in one of them
  pub held_below : (i s : ℕ) (task : Task) → slice_get (places_of t inputs) i ≡ Some (Wait (stand.Inside s) task) → s < length (section_names t inputs)
  held_below i s task there =
      let at = turned (places_of t inputs) (Free 0) (Free (length (section_names t inputs))) places_nest i (Wait (stand.Inside s) task) there in
      let low = holds_below at.from s task at.to at.turn in
      let high = nests_rise at.rest at.to (Free (length (section_names t inputs))) at.nests in
      omega (arith, low, high)

  -- a task outside of SECTIONS stands behind as many sections as it says
  pub behind_all : (i s : ℕ) (task : Task) → slice_get (places_of t inputs) i ≡ Some (Wait (stand.Outermost s) task) → s ≤ length (section_names t inputs)
  behind_all i s task there =
      let at = turned (places_of t inputs) (Free 0) (Free (length (section_names t inputs))) places_nest i (Wait (stand.Outermost s) task) there in
      let low = stands_behind at.from s task at.to at.turn in
      let high = nests_rise at.rest at.to (Free (length (section_names t inputs))) at.nests in
      omega (arith, low, high)

  -- a place lays out the first chunk of each section
  pub first_laid : (s : ℕ) → s < length (section_names t inputs) → Has (Lays (first_of s)) (places_of t inputs)
  first_laid s low = all_bring.lay s (omega arith) low
