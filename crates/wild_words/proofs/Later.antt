-- The words that are left, after others that chose something.
use Rattle.std.proofs.Common.{◌≡◌, ◌∙◌, sym, ap, refl, ℕ, Bool, true, false, cond, ◌+◌, ◌<◌, ◌≤◌, List, [], ◌∷◌, length, drop, get_or, Option, Some, None, not, ◌&&◌, ◌||◌, is_some, is_none, if◌then◌else◌}
use Rattle.std.proofs.lemmas.List.{drop_more, drop_all}
use Rattle.std.specs.List.{list_any, list_all}
use Rattle.std.specs.Option.{option_or, option_map, option_and_then}
use Rattle.wild_names.specs.declared.target.Architecture.{Architecture}
use Rattle.wild_names.specs.declared.target.Endianness.{Endianness}
use Rattle.wild_output_kind.specs.declared.output_kind.OutputKind.{OutputKind}
use Rattle.wild_plan_spec.specs.declared.options.PlanOptions.{PlanOptions}
use Rattle.wild_words.specs.declared.choice.Choice.{Choice}
use Rattle.wild_words.specs.declared.choice.Choice.TheVariants as c
use Rattle.wild_words.specs.declared.chosen.Chosen.{Chosen}
use Rattle.wild_words.specs.Choice.{choice_of}
use Rattle.wild_words.specs.Options.{before, choices_of, answer_same, are_distinct, kind_in, architecture_in, endian_in, header_size_in, text_start_in, data_start_in, bss_start_in, chosen, options_of}
use Rattle.wild_words.specs.SoFar.{with_choice, options_so_far}

-- ---- choices after others

-- the question of a choice has no answer yet
abbrev pub is_open : Chosen → Choice → Bool
is_open s (c.Kind kind) = not (is_some s.kind)
is_open s (c.Architecture architecture) = not (is_some s.architecture)
is_open s (c.Endian endian) = not (is_some s.endian)
is_open s (c.HeaderSize size) = not (is_some s.header_size)
is_open s (c.TextStart start) = not (is_some s.text_start)
is_open s (c.DataStart start) = not (is_some s.data_start)
is_open s (c.BssStart start) = not (is_some s.bss_start)

-- what is chosen, and what later choices choose of the rest
abbrev pub joined : Chosen → List Choice → Chosen
joined s choices = record {
  kind = option_or s.kind (chosen kind_in choices);
  architecture = option_or s.architecture (chosen architecture_in choices);
  endian = option_or s.endian (chosen endian_in choices);
  header_size = option_or s.header_size (chosen header_size_in choices);
  text_start = option_or s.text_start (chosen text_start_in choices);
  data_start = option_or s.data_start (chosen data_start_in choices);
  bss_start = option_or s.bss_start (chosen bss_start_in choices);
}

-- the options that later choices come to, if no two of all answer the same question
abbrev pub later_options : Chosen → List Choice → Option PlanOptions
later_options s choices = if are_distinct choices && list_all (is_open s) choices then Some (options_so_far (joined s choices)) else None

-- the options that later words come to
unfoldable pub options_from : Chosen → List (List ℕ) → Option PlanOptions
options_from s words = option_and_then (later_options s) (choices_of words)

-- ---- tests

spread : (a b p q : Bool) → (not a && p) && (not b && q) ≡ not (a || b) && (p && q)
spread true b p q = refl
spread false true true q = refl
spread false true false q = refl
spread false false p q = refl

regroup : (d n l : Bool) → d && (n && l) ≡ (n && d) && (true && l)
regroup true true l = refl
regroup true false l = refl
regroup false true l = refl
regroup false false l = refl

refused : (b l : Bool) → b && (false && l) ≡ false
refused true l = refl
refused false l = refl

and_true : (b : Bool) → b && true ≡ b
and_true true = refl
and_true false = refl

-- ---- one choice more

-- where a choice is taken, what is open is what was open before and does not answer the same
all_open : (s n : Chosen) (choice : Choice) → ((other : Choice) → is_open n other ≡ not (answer_same choice other) && is_open s other)
    → (choices : List Choice) → list_all (is_open n) choices ≡ not (list_any (answer_same choice) choices) && list_all (is_open s) choices
all_open s n choice each [] = refl
all_open s n choice each (other ∷ choices) =
    rw (each other, all_open s n choice each choices) (spread (answer_same choice other) (list_any (answer_same choice) choices) (is_open s other) (list_all (is_open s) choices))

one_more : (s n : Chosen) (choice : Choice) (choices : List Choice) → is_open s choice ≡ true
    → ((other : Choice) → is_open n other ≡ not (answer_same choice other) && is_open s other)
    → options_so_far (joined n choices) ≡ options_so_far (joined s (choice ∷ choices))
    → later_options n choices ≡ later_options s (choice ∷ choices)
one_more s n choice choices is_free each same =
    rw (same, all_open s n choice each choices, is_free, regroup (are_distinct choices) (not (list_any (answer_same choice) choices)) (list_all (is_open s) choices)) refl

kind_open : (s : Chosen) (a : OutputKind) (other : Choice) → is_open (record s { kind = Some a }) other ≡ not (answer_same (c.Kind a) other) && is_open s other
kind_open s a (c.Kind b) = refl
kind_open s a other = refl

architecture_open : (s : Chosen) (a : Architecture) (other : Choice) → is_open (record s { architecture = Some a }) other ≡ not (answer_same (c.Architecture a) other) && is_open s other
architecture_open s a (c.Architecture b) = refl
architecture_open s a other = refl

endian_open : (s : Chosen) (a : Endianness) (other : Choice) → is_open (record s { endian = Some a }) other ≡ not (answer_same (c.Endian a) other) && is_open s other
endian_open s a (c.Endian b) = refl
endian_open s a other = refl

header_size_open : (s : Chosen) (a : ℕ) (other : Choice) → is_open (record s { header_size = Some a }) other ≡ not (answer_same (c.HeaderSize a) other) && is_open s other
header_size_open s a (c.HeaderSize b) = refl
header_size_open s a other = refl

text_start_open : (s : Chosen) (a : ℕ) (other : Choice) → is_open (record s { text_start = Some a }) other ≡ not (answer_same (c.TextStart a) other) && is_open s other
text_start_open s a (c.TextStart b) = refl
text_start_open s a other = refl

data_start_open : (s : Chosen) (a : ℕ) (other : Choice) → is_open (record s { data_start = Some a }) other ≡ not (answer_same (c.DataStart a) other) && is_open s other
data_start_open s a (c.DataStart b) = refl
data_start_open s a other = refl

bss_start_open : (s : Chosen) (a : ℕ) (other : Choice) → is_open (record s { bss_start = Some a }) other ≡ not (answer_same (c.BssStart a) other) && is_open s other
bss_start_open s a (c.BssStart b) = refl
bss_start_open s a other = refl

-- an answer was put where there was none
was_open : {A : Type 0} (o : Option A) (n new : Chosen) → Some n ≡ (if is_some o then None else Some new) → (o ≡ None) × (n ≡ new)
was_open None n new e = (refl, cc)
was_open (Some a) n new e = absurd (cc)

-- there was an answer already
was_full : {A : Type 0} (o : Option A) (new : Chosen) → None ≡ (if is_some o then None else Some new) → not (is_some o) ≡ false
was_full None new e = absurd (cc)
was_full (Some a) new e = refl

taken : (s n : Chosen) (choice : Choice) (choices : List Choice) → Some n ≡ with_choice s choice → later_options n choices ≡ later_options s (choice ∷ choices)
taken s n (c.Kind a) choices e = let p = was_open s.kind n (record s { kind = Some a }) e in rw p.1 (one_more s (record s { kind = Some a }) (c.Kind a) choices (rw p.0 refl) (kind_open s a) (rw p.0 refl))
taken s n (c.Architecture a) choices e = let p = was_open s.architecture n (record s { architecture = Some a }) e in rw p.1 (one_more s (record s { architecture = Some a }) (c.Architecture a) choices (rw p.0 refl) (architecture_open s a) (rw p.0 refl))
taken s n (c.Endian a) choices e = let p = was_open s.endian n (record s { endian = Some a }) e in rw p.1 (one_more s (record s { endian = Some a }) (c.Endian a) choices (rw p.0 refl) (endian_open s a) (rw p.0 refl))
taken s n (c.HeaderSize a) choices e = let p = was_open s.header_size n (record s { header_size = Some a }) e in rw p.1 (one_more s (record s { header_size = Some a }) (c.HeaderSize a) choices (rw p.0 refl) (header_size_open s a) (rw p.0 refl))
taken s n (c.TextStart a) choices e = let p = was_open s.text_start n (record s { text_start = Some a }) e in rw p.1 (one_more s (record s { text_start = Some a }) (c.TextStart a) choices (rw p.0 refl) (text_start_open s a) (rw p.0 refl))
taken s n (c.DataStart a) choices e = let p = was_open s.data_start n (record s { data_start = Some a }) e in rw p.1 (one_more s (record s { data_start = Some a }) (c.DataStart a) choices (rw p.0 refl) (data_start_open s a) (rw p.0 refl))
taken s n (c.BssStart a) choices e = let p = was_open s.bss_start n (record s { bss_start = Some a }) e in rw p.1 (one_more s (record s { bss_start = Some a }) (c.BssStart a) choices (rw p.0 refl) (bss_start_open s a) (rw p.0 refl))

is_answered : (s : Chosen) (choice : Choice) → None ≡ with_choice s choice → is_open s choice ≡ false
is_answered s (c.Kind a) e = was_full s.kind _ e
is_answered s (c.Architecture a) e = was_full s.architecture _ e
is_answered s (c.Endian a) e = was_full s.endian _ e
is_answered s (c.HeaderSize a) e = was_full s.header_size _ e
is_answered s (c.TextStart a) e = was_full s.text_start _ e
is_answered s (c.DataStart a) e = was_full s.data_start _ e
is_answered s (c.BssStart a) e = was_full s.bss_start _ e

full : (s : Chosen) (choice : Choice) (choices : List Choice) → None ≡ with_choice s choice → later_options s (choice ∷ choices) ≡ None
full s choice choices e =
    rw (is_answered s choice e, refused (not (list_any (answer_same choice) choices) && are_distinct choices) (list_all (is_open s) choices)) refl

-- ---- one word more

taken_before : (s n : Chosen) (choice : Choice) (later : Option (List Choice)) → Some n ≡ with_choice s choice
    → option_and_then (later_options n) later ≡ option_and_then (later_options s) (before (Some choice) later)
taken_before s n choice None e = refl
taken_before s n choice (Some choices) e = taken s n choice choices e

full_before : (s : Chosen) (choice : Choice) (later : Option (List Choice)) → None ≡ with_choice s choice
    → option_and_then (later_options s) (before (Some choice) later) ≡ None
full_before s choice None e = refl
full_before s choice (Some choices) e = full s choice choices e

-- the word is an option, and chooses what was open
word_taken : (s n : Chosen) (choice : Choice) (word : List ℕ) (words : List (List ℕ)) → Some choice ≡ choice_of word → Some n ≡ with_choice s choice
    → options_from s (word ∷ words) ≡ options_from n words
unfolding options_from choices_of
word_taken s n choice word words is e = rw (← is) (sym (taken_before s n choice (choices_of words) e))

-- the word chooses what was chosen already
word_full : (s : Chosen) (choice : Choice) (word : List ℕ) (words : List (List ℕ)) → Some choice ≡ choice_of word → None ≡ with_choice s choice
    → options_from s (word ∷ words) ≡ None
unfolding options_from choices_of
word_full s choice word words is e = rw (← is) (full_before s choice (choices_of words) e)

-- the word is no option
word_refused : (s : Chosen) (word : List ℕ) (words : List (List ℕ)) → None ≡ choice_of word → options_from s (word ∷ words) ≡ None
unfolding options_from choices_of
word_refused s word words is = rw (← is) refl

-- ---- the words from a number on

module _ (s : Chosen) (words : List (List ℕ)) (i : ℕ) (word : List ℕ) (less : i < length words) where
  pub taken_at : (n : Chosen) (choice : Choice) → Some choice ≡ choice_of (get_or words i word) → Some n ≡ with_choice s choice
      → options_from n (drop (i + 1) words) ≡ options_from s (drop i words)
  taken_at n choice is e = rw (drop_more words i word less) (sym (word_taken s n choice (get_or words i word) (drop (i + 1) words) is e))

  pub full_at : (choice : Choice) → Some choice ≡ choice_of (get_or words i word) → None ≡ with_choice s choice → options_from s (drop i words) ≡ None
  full_at choice is e = rw (drop_more words i word less) (word_full s choice (get_or words i word) (drop (i + 1) words) is e)

  pub refused_at : None ≡ choice_of (get_or words i word) → options_from s (drop i words) ≡ None
  refused_at is = rw (drop_more words i word less) (word_refused s (get_or words i word) (drop (i + 1) words) is)

-- ---- the first word, and the last

-- nothing is chosen
abbrev pub none_chosen : Chosen
none_chosen = record { kind = None; architecture = None; endian = None; header_size = None; text_start = None; data_start = None; bss_start = None }

opens : (choice : Choice) → is_open none_chosen choice ≡ true
opens (c.Kind a) = refl
opens other = refl

all_opens : (choices : List Choice) → list_all (is_open none_chosen) choices ≡ true
all_opens [] = refl
all_opens (choice ∷ choices) = rw (opens choice, all_opens choices) refl

first_of : (choices : Option (List Choice)) → option_and_then (later_options none_chosen) choices ≡ option_and_then Rattle.wild_words.specs.Options.options_of_choices choices
first_of None = refl
first_of (Some choices) = rw (all_opens choices, and_true (are_distinct choices)) refl

from_none : (words : List (List ℕ)) → options_from none_chosen words ≡ options_of words
unfolding options_from options_of
from_none words = first_of (choices_of words)

-- no question has an answer
pub from_first : (s : Chosen) (words : List (List ℕ))
    → s.kind ≡ None × (s.architecture ≡ None × (s.endian ≡ None × (s.header_size ≡ None × (s.text_start ≡ None × (s.data_start ≡ None × s.bss_start ≡ None)))))
    → options_from s words ≡ options_of words
from_first s words h =
    let none : s ≡ none_chosen = λ i. record { kind = h.0 i; architecture = h.1.0 i; endian = h.1.1.0 i; header_size = h.1.1.1.0 i; text_start = h.1.1.1.1.0 i; data_start = h.1.1.1.1.1.0 i; bss_start = h.1.1.1.1.1.1 i } in
    rw none (from_none words)

or_none : {A : Type 0} (o : Option A) → option_or o None ≡ o
or_none None = refl
or_none (Some a) = refl

at_end : (s : Chosen) → options_from s [] ≡ Some (options_so_far s)
unfolding options_from choices_of
at_end s = simp or_none

pub from_last : (s : Chosen) (words : List (List ℕ)) (i : ℕ) → length words ≤ i → options_from s (drop i words) ≡ Some (options_so_far s)
from_last s words i all = rw (drop_all i words all) (at_end s)
