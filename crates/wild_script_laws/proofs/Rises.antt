-- What is read within a limit is read within each greater one.
use Rattle.std.proofs.Common.{◌≡◌, ℕ, zero, suc, ◌≤◌, Bool, List, arith}
use Rattle.std.specs.Prelude.{Option}
use Rattle.wild_reading.specs.Position.{Bytes}
use Rattle.wild_reading.specs.Reader.{Reader, Then, Give, here, Ahead, Nothing, Passes, Takes, Choice, yes, no, Until, none, more, level, Inside}
use Rattle.wild_reading.specs.Family.{Fold, done, next, Folds}
use Rattle.wild_reading.specs.Lex.{byte, gap, token, word, name, symbol, optional, optional_symbol, text, keyword}
use Rattle.wild_expression_words.specs.declared.operators.Level.{Level}
use Rattle.wild_expression_words.specs.declared.operators.Level.TheVariants.{Ternary}
use Rattle.wild_expression_words.specs.Dialect.{first_grammar}
use Rattle.wild_expression.specs.declared.measured.Measured.{Measured}
use Rattle.wild_expression.specs.Grammar.{value, value_by, inner_value, inner_by}
use Rattle.wild_expression.specs.Parts.{expression, assert_body}
use Rattle.wild_expression.proofs.Free.{IsFree, token_free, gap_free}
use Rattle.wild_expression.proofs.Depths.{into, back, value_inner}

pub record Rises {A : Type 0} (R : Reader A) : Type 0 where
  pub at : (n m : ℕ) → n ≤ m → (b : Bytes) (i : ℕ) (y : A) (j : ℕ) → R b n i y j → R b m i y j

-- ---- what readers are made of

free_rises : {A : Type 0} {R : Reader A} → IsFree R → Rises R
free_rises f = record { at = λ n m e b i y j h. f.at n m b i y j h }

pub give_rises : {A : Type 0} {x : A} → Rises (Give x)
give_rises = record { at = λ n m e b i y j h. record { value = h.value; end = h.end } }

pub here_rises : Rises here
unfolding here
here_rises = record { at = λ n m e b i y j h. record { value = h.value; end = h.end } }

pub ahead_rises : {test : Bytes → ℕ → Bool} → Rises (Ahead test)
ahead_rises = record { at = λ n m e b i y j h. record { holds = h.holds; end = h.end } }

pub passes_rises : {f : Bytes → ℕ → Option ℕ} → Rises (Passes f)
passes_rises = record { at = λ n m e b i y j h. record { found = h.found } }

pub takes_rises : {A : Type 0} {f : Bytes → ℕ → Option (A × ℕ)} → Rises (Takes f)
takes_rises = record { at = λ n m e b i y j h. record { found = h.found } }

pub nothing_rises : {A : Type 0} → Rises (Nothing {A = A})
nothing_rises = record { at = λ n m e b i y j h. absurd h.never }

pub then_rises : {A B : Type 0} {P : Reader A} {f : A → Reader B} → Rises P → ((x : A) → Rises (f x)) → Rises (Then P f)
then_rises p q = record { at = λ n m e b i y j h. record { value = h.value; middle = h.middle; first = p.at n m e b i h.value h.middle h.first; second = (q h.value).at n m e b h.middle y j h.second } }

module _ {A : Type 0} {test : Bytes → ℕ → Bool} {P Q : Reader A} (p : Rises P) (q : Rises Q) where
  either : (n m : ℕ) → n ≤ m → (b : Bytes) (i : ℕ) (y : A) (j : ℕ) → Choice test P Q b n i y j → Choice test P Q b m i y j
  either n m e b i y j (yes t h) = yes t (p.at n m e b i y j h)
  either n m e b i y j (no t h) = no t (q.at n m e b i y j h)

  pub choice_rises : Rises (Choice test P Q)
  choice_rises = record { at = either }

module _ {A : Type 0} {stop : Bytes → ℕ → Bool} {P : Reader A} (p : Rises P) where
  all : (n m : ℕ) → n ≤ m → (b : Bytes) (i : ℕ) (ys : List A) (j : ℕ) → Until stop P b n i ys j → Until stop P b m i ys j
  all n m e b i ys j (none t) = none t
  all n m e b i ys j (more {m = k} {x = y} {xs = zs} t h u) = more t (p.at n m e b i y k h) (all n m e b k zs j u)

  pub until_rises : Rises (Until stop P)
  until_rises = record { at = all }

module _ {A : Type 0} {stop : Bytes → ℕ → Bool} {F : A → Reader A} (p : (x : A) → Rises (F x)) where
  on : (n m : ℕ) → n ≤ m → (b : Bytes) (x : A) (i : ℕ) (z : A) (j : ℕ) → Fold stop F b n x i z j → Fold stop F b m x i z j
  on n m e b x i z j (done t) = done t
  on n m e b x i z j (next {y = y} {m = k} t h u) = next t ((p x).at n m e b i y k h) (on n m e b y k z j u)

  pub folds_rise : {x : A} → Rises (Folds stop F x)
  folds_rise {x} = record { at = λ n m e b i y j h. record { is = on n m e b x i y j h.is } }

pub ruleset rising = (nothing_rises, give_rises, here_rises, ahead_rises, passes_rises, takes_rises, then_rises, choice_rises, until_rises, folds_rise)

-- ---- expressions

value_rises : (l : Level) → Rises (value l)
value_rises l = record { at = λ n m e b i y j h. back l b m i y j n h (omega (arith, e, into l b n i y j h)) }

inner_at : (l : Level) (n m : ℕ) → n ≤ m → (b : Bytes) (i : ℕ) (y : Measured) (j : ℕ) → inner_value l b n i y j → inner_value l b m i y j
inner_at l zero m e b i y j h = absurd ((value_inner l).never b i y j h)
inner_at l (suc n) zero e b i y j h = let never : ⊥ = omega (arith, e) in absurd never
inner_at l (suc n) (suc m) e b i y j h = (value_inner l).into b m i y j ((value_rises l).at n m (omega (arith, e)) b i y j ((value_inner l).out b n i y j h))

pub inner_value_rises : (l : Level) → Rises (inner_by first_grammar l)
unfolding inner_by inner_value
inner_value_rises l = record { at = λ n m e b i y j h. inner_at l n m e b i y j h }

pub expression_rises : Rises (expression first_grammar)
unfolding expression value_by value
expression_rises = then_rises (value_rises Ternary) (λ _. give_rises)

-- ---- bytes and tokens

pub gap_rises : Rises gap
gap_rises = free_rises gap_free

token_rises : Rises token
token_rises = free_rises token_free

pub byte_rises : (c : ℕ) → Rises (byte c)
unfolding byte
byte_rises c = passes_rises

pub symbol_rises : (c : ℕ) → Rises (symbol c)
unfolding symbol
symbol_rises c = search (rising, byte_rises, gap_rises)

pub optional_rises : (c : ℕ) → Rises (optional_symbol c)
unfolding optional_symbol optional
optional_rises c = search (rising, gap_rises)

pub word_rises : Rises word
unfolding word
word_rises = search (rising, token_rises, gap_rises)

pub name_rises : Rises name
unfolding name
name_rises = search (rising, word_rises)

pub keyword_rises : (t : List ℕ) → Rises (keyword t)
unfolding keyword text
keyword_rises t = search (rising, gap_rises)

pub ruleset lexing = (rising, gap_rises, byte_rises, symbol_rises, optional_rises, word_rises, name_rises, keyword_rises, expression_rises)

pub assert_rises : Rises (assert_body first_grammar)
unfolding assert_body
assert_rises = search lexing depth 20
