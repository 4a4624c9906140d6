-- What holds no expression is read alike at each limit.
use Rattle.std.proofs.Common.{ℕ, Bool, List}
use Rattle.std.specs.Prelude.{Option, Some, None}
use Rattle.wild_reading.specs.Position.{Bytes}
use Rattle.wild_reading.specs.Reader.{Reader, Then, Give, here, Ahead, Nothing, Passes, Takes, Choice, yes, no, Until, none, more}
use Rattle.wild_reading.specs.Lex.{white, byte, gap, run, quoted, quoted_token, token, word, name, symbol}
use Rattle.wild_expression_words.specs.declared.operators.Level.{Level}
use Rattle.wild_expression_words.specs.declared.words.Call.{Call}
use Rattle.wild_expression_words.specs.Operators.{operator, sign}
use Rattle.wild_expression_words.specs.Dialect.{first_grammar}
use Rattle.wild_expression_words.specs.Identifier.{identifier}
use Rattle.wild_expression_words.specs.Literal.{literal}
use Rattle.wild_expression_words.specs.Quotes.{quoted_name}
use Rattle.wild_expression_words.specs.Words as words
use Rattle.wild_expression.specs.Grammar.{close}

pub record IsFree {A : Type 0} (P : Reader A) : Type 0 where
  pub at : (n m : ℕ) (b : Bytes) (i : ℕ) (y : A) (j : ℕ) → P b n i y j → P b m i y j

pub give_free : {A : Type 0} {x : A} → IsFree (Give x)
give_free = record { at = λ n m b i y j h. record { value = h.value; end = h.end } }

pub here_free : IsFree here
unfolding here
here_free = record { at = λ n m b i y j h. record { value = h.value; end = h.end } }

pub nothing_free : {A : Type 0} → IsFree (Nothing {A = A})
nothing_free = record { at = λ n m b i y j h. absurd h.never }

pub ahead_free : {test : Bytes → ℕ → Bool} → IsFree (Ahead test)
ahead_free = record { at = λ n m b i y j h. record { holds = h.holds; end = h.end } }

pub passes_free : {f : Bytes → ℕ → Option ℕ} → IsFree (Passes f)
passes_free = record { at = λ n m b i y j h. record { found = h.found } }

pub takes_free : {A : Type 0} {f : Bytes → ℕ → Option (A × ℕ)} → IsFree (Takes f)
takes_free = record { at = λ n m b i y j h. record { found = h.found } }

pub then_free : {A B : Type 0} {P : Reader A} {f : A → Reader B} → IsFree P → ((x : A) → IsFree (f x)) → IsFree (Then P f)
then_free p q = record { at = λ n m b i y j h. record { value = h.value; middle = h.middle; first = p.at n m b i h.value h.middle h.first; second = (q h.value).at n m b h.middle y j h.second } }

module _ {A : Type 0} {test : Bytes → ℕ → Bool} {P Q : Reader A} (p : IsFree P) (q : IsFree Q) where
  either : (n m : ℕ) (b : Bytes) (i : ℕ) (y : A) (j : ℕ) → Choice test P Q b n i y j → Choice test P Q b m i y j
  either n m b i y j (yes t h) = yes t (p.at n m b i y j h)
  either n m b i y j (no t h) = no t (q.at n m b i y j h)

  pub choice_free : IsFree (Choice test P Q)
  choice_free = record { at = either }

module _ {A : Type 0} {stop : Bytes → ℕ → Bool} {P : Reader A} (p : IsFree P) where
  all : (n m : ℕ) (b : Bytes) (i : ℕ) (ys : List A) (j : ℕ) → Until stop P b n i ys j → Until stop P b m i ys j
  all n m b i ys j (none t) = none t
  all n m b i ys j (more {m = k} {x = y} {xs = zs} t h u) = more t (p.at n m b i y k h) (all n m b k zs j u)

  pub until_free : IsFree (Until stop P)
  until_free = record { at = all }

pub ruleset free = (give_free, here_free, nothing_free, ahead_free, passes_free, takes_free, then_free, choice_free, until_free)

pub white_free : IsFree white
unfolding white
white_free = search free

pub byte_free : (c : ℕ) → IsFree (byte c)
unfolding byte
byte_free c = search free

pub gap_free : IsFree gap
unfolding gap
gap_free = search free

pub token_free : IsFree token
unfolding token quoted_token quoted run byte
token_free = search free depth 20

pub name_free : IsFree name
unfolding name word
name_free = search (free, token_free, gap_free)

pub symbol_free : (c : ℕ) → IsFree (symbol c)
unfolding symbol
symbol_free c = search (free, byte_free, gap_free)

pub close_free : IsFree (close first_grammar)
unfolding close
close_free = search (free, byte_free, white_free)

pub segment_free : IsFree quoted_name
unfolding quoted_name
segment_free = search free

pub identifier_free : IsFree identifier
unfolding identifier run
identifier_free = search free

pub operator_free : (level : Level) → IsFree (operator level)
unfolding operator
operator_free level = search free

pub sign_free : IsFree sign
unfolding sign
sign_free = search free

call_free : (o : Option Call) → IsFree (words.known_call o)
call_free None = nothing_free
call_free (Some call) = give_free

pub head_free : IsFree (words.head first_grammar)
unfolding words.head words.bracket words.number_or_word words.number literal words.word identifier run words.word_tail words.counter words.name_tail words.name_or_call words.lone_name words.word_call
head_free = search (free, white_free, call_free) depth 20
