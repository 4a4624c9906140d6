-- Commands rise, which nest.
use Rattle.std.proofs.Common.{◌≡◌, ℕ, zero, suc, ◌≤◌, Bool, true, false, List, length, arith}
use Rattle.std.specs.Prelude.{Option, Some, None}
use Rattle.wild_reading.specs.Position.{Bytes}
use Rattle.wild_reading.specs.Reader.{Reader, Then, Until, none, more, level, Inside}
use Rattle.wild_expression_words.specs.Dialect.{first_grammar}
use Rattle.wild_script.specs.declared.words.CommandWord.{CommandWord}
use Rattle.wild_script.specs.declared.words.CommandWord.TheVariants as c
use Rattle.wild_script.specs.Entry.{entry_command}
use Rattle.wild_script.specs.Memory as memory
use Rattle.wild_script.specs.Nest as nests
use Rattle.wild_script.specs.Outermost as o
use Rattle.wild_script.specs.OutputFormat as f
use Rattle.wild_script.specs.Phdrs as headers
use Rattle.wild_script.specs.Sections.{sections, sections_command}
use Rattle.wild_script.specs.Tree.{commands, script, tree_within}
use Rattle.wild_script.specs.Version.{version_command, content}
use Rattle.wild_script_laws.specs.Rise.{ScriptsRise}
use Rattle.wild_script_laws.proofs.Rises.{Rises, lexing, word_rises, symbol_rises, assert_rises, nothing_rises, give_rises}
use Rattle.wild_script_laws.proofs.Sections.{provide_rises, open_rises, statements_rise}

-- ---- commands that hold no others

format_rises : Rises f.format_command
unfolding f.format_command f.formats f.after_default f.default_alone f.all_three
format_rises = search lexing depth 40

entry_rises : Rises entry_command
unfolding entry_command
entry_rises = search lexing depth 20

version_rises : Rises version_command
unfolding version_command content
version_rises = search lexing depth 20

sections_rise : Rises (sections_command first_grammar)
unfolding sections_command sections
sections_rise = search (lexing, statements_rise) depth 20

memory_rises : Rises (memory.memory_command first_grammar)
unfolding memory.memory_command memory.regions memory.region memory.origin_word memory.length_word
memory_rises = search lexing depth 40

type_rises : (n : Option ℕ) → Rises (headers.number_of n)
type_rises None = nothing_rises
type_rises (Some n) = give_rises

phdrs_rise : Rises (headers.phdrs_command first_grammar)
unfolding headers.phdrs_command headers.headers headers.header headers.header_type headers.type_word headers.type_expression headers.clauses headers.clause headers.flags_clause headers.filehdr_clause headers.phdrs_clause
phdrs_rise = search (lexing, type_rises) depth 40

assert_command_rises : Rises (o.assert_command first_grammar)
unfolding o.assert_command
assert_command_rises = search (lexing, assert_rises) depth 20

provide_command_rises : (hidden : Bool) → Rises (o.provide_command first_grammar hidden)
unfolding o.provide_command
provide_command_rises hidden = search (lexing, provide_rises) depth 20

named_command_rises : (target : List ℕ) → Rises (o.named_command first_grammar target)
unfolding o.named_command o.assignment_command o.symbol_definition o.location_command o.argument
named_command_rises target = search (lexing, open_rises) depth 20

-- ---- what is made of a reader rises with it

record RisesWith {A B : Type 0} (F : Reader A → Reader B) : Type 1 where
  pub at : (n m : ℕ) → n ≤ m → (P Q : Reader A) → ((b : Bytes) (i : ℕ) (y : A) (j : ℕ) → P b n i y j → Q b m i y j) → (b : Bytes) (i : ℕ) (y : B) (j : ℕ) → F P b n i y j → F Q b m i y j

fixed_with : {A B : Type 0} {P : Reader B} → Rises P → RisesWith {A = A} (λ R. P)
fixed_with p = record { at = λ n m e P Q g b i y j h. p.at n m e b i y j h }

self_with : {A : Type 0} → RisesWith {A = A} (λ R. R)
self_with = record { at = λ n m e P Q g b i y j h. g b i y j h }

then_with : {A B C : Type 0} {P : Reader A → Reader B} {f : Reader A → B → Reader C} → RisesWith P → ((x : B) → RisesWith (λ R. f R x)) → RisesWith (λ R. Then (P R) (f R))
then_with p q = record { at = λ n m e P Q g b i y j h. record { value = h.value; middle = h.middle; first = p.at n m e P Q g b i h.value h.middle h.first; second = (q h.value).at n m e P Q g b h.middle y j h.second } }

module _ {A B : Type 0} {stop : Bytes → ℕ → Bool} {F : Reader A → Reader B} (p : RisesWith F) where
  all_with : (n m : ℕ) → n ≤ m → (P Q : Reader A) → ((b : Bytes) (i : ℕ) (y : A) (j : ℕ) → P b n i y j → Q b m i y j) → (b : Bytes) (i : ℕ) (ys : List B) (j : ℕ) → Until stop (F P) b n i ys j → Until stop (F Q) b m i ys j
  all_with n m e P Q g b i ys j (none t) = none t
  all_with n m e P Q g b i ys j (more {m = k} {x = y} {xs = zs} t h u) = more t (p.at n m e P Q g b i y k h) (all_with n m e P Q g b k zs j u)

  until_with : RisesWith (λ R. Until stop (F R))
  until_with = record { at = all_with }

module _ {A : Type 0} (F : Reader A → Reader A) (f : RisesWith F) where
  level_rises : (n m : ℕ) → n ≤ m → (b : Bytes) (i : ℕ) (y : A) (j : ℕ) → level F n b n i y j → level F m b m i y j
  unfolding level
  level_rises zero m e b i y j h = absurd h
  level_rises (suc n) zero e b i y j h = let never : ⊥ = omega (arith, e) in absurd never
  level_rises (suc n) (suc m) e b i y j h = f.at n m (omega (arith, e)) (level F n) (level F m) (level_rises n m (omega (arith, e))) b i y j h

  inside_rises : Rises (Inside F)
  inside_rises = record { at = λ n m e b i y j h. record { is = level_rises n m e b i y j h.is } }

-- ---- commands, which nest

word_with : (found : CommandWord) → RisesWith (λ R. nests.word_command_of first_grammar R found)
unfolding nests.nest_of
word_with (c.Nest kind) = then_with (fixed_with (symbol_rises 40)) (λ _. then_with self_with (λ _. fixed_with (search lexing)))
word_with c.OutputFormat = fixed_with format_rises
word_with c.Sections = fixed_with sections_rise
word_with c.Entry = fixed_with entry_rises
word_with c.Version = fixed_with version_rises
word_with c.Provide = fixed_with (provide_command_rises false)
word_with c.ProvideHidden = fixed_with (provide_command_rises true)
word_with c.Assert = fixed_with assert_command_rises
word_with c.Memory = fixed_with memory_rises
word_with c.Phdrs = fixed_with phdrs_rise

found_with : (target : List ℕ) (found : Option CommandWord) → RisesWith (λ R. nests.found_word_of first_grammar R target found)
found_with target None = fixed_with (named_command_rises target)
found_with target (Some found) = word_with found

command_with : RisesWith (nests.command_of first_grammar)
unfolding nests.command_of nests.after_word_of
command_with = then_with (fixed_with word_rises) (λ w. found_with w.content _)

list_with : RisesWith (nests.list_of first_grammar)
unfolding nests.list_of
list_with = until_with command_with

inner_list_rises : Rises (nests.inner_list first_grammar)
unfolding nests.inner_list
inner_list_rises = inside_rises (nests.list_of first_grammar) list_with

command_rises : Rises (nests.command first_grammar)
unfolding nests.command
command_rises = record { at = λ n m e b i y j h. command_with.at n m e (nests.inner_list first_grammar) (nests.inner_list first_grammar) (inner_list_rises.at n m e) b i y j h }

-- ---- scripts

script_rises : Rises (script first_grammar)
unfolding script commands
script_rises = search (lexing, command_rises) depth 20

pub rise : ScriptsRise
unfolding tree_within
rise b limit m t e h = script_rises.at limit m e b 0 t (length b) h
