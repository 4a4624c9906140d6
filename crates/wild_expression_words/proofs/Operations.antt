-- An operator or a sign is read by its bytes, the first of which is a mark.
use Rattle.std.proofs.Common.{◌≡◌, ◌≤◌, ◌+◌, ℕ, Bool, true, false, length, arith, refl, sym, subst, ◌∙◌, Option, Some, None}
use Rattle.std.specs.Prelude.{slice_get, Ok, Err}
use Rattle.std.proofs.lemmas.Grind.{common_steps}
use Rattle.wild_reading.specs.Position.{Bytes, Text, Position, IsPaid, IsMarked, is_mark, mark_count}
use Rattle.wild_reading.specs.Bytes.{begins, is_byte}
use Rattle.wild_reading.specs.Reader.{Reader}
use Rattle.wild_reading.specs.Lex.{byte, after_byte}
use Rattle.wild_reading.specs.Only.{IsOnly, Refuses, Answers}
use Rattle.wild_reading.specs.declared.stop.Stop.{Stop}
use Rattle.wild_reading.specs.declared.stop.Stop.TheVariants.{Syntax}
use Rattle.wild_reading.proofs.Readers.{takes_only, takes_refuses, answers_ok, answers_refused}
use Rattle.wild_reading.proofs.Marks.{marked, mark_count-rises}
use Rattle.wild_expression_words.specs.declared.operators.Level.{Level}
use Rattle.wild_expression_words.specs.declared.operators.Level.TheVariants as l
use Rattle.wild_expression_words.specs.declared.operators.Operator.{Operator}
use Rattle.wild_expression_tree.specs.declared.operator.Unary.{Unary}
use Rattle.wild_expression_words.specs.Operators.{operator_of, operator_from, operator_found, operator_at, operator, width, first_byte, sign_of, sign_found, sign_at, sign, sign_byte, with_end}
use Rattle.wild_expression_words.proofs.Passing.{passed_less}

-- ---- a byte that stands there

after_found : (c : ℕ) (b : Bytes) (i j : ℕ) (t : Bool) → begins c b i ≡ t → after_byte c b i ≡ Some j → j ≡ i + 1
unfolding after_byte
after_found c b i j true e h = cc
after_found c b i j false e h = absurd cc

pub byte_end : (c : ℕ) {s r : Position} → IsOnly (byte c) s tt r → r.at ≡ s.at + 1
unfolding byte
byte_end c {s} {r} p = after_found c s.text.bytes s.at r.at _ refl p.reads.found

began : (c : ℕ) (b : Bytes) (i j : ℕ) (t : Bool) → begins c b i ≡ t → after_byte c b i ≡ Some j → begins c b i ≡ true
unfolding after_byte
began c b i j true e h = e
began c b i j false e h = absurd cc

byte_counts : (c : ℕ) {s r : Position} → is_mark c ≡ true → IsOnly (byte c) s tt r → mark_count s.text.bytes s.at + 1 ≤ mark_count s.text.bytes (s.at + 1)
unfolding byte
byte_counts c {s} {r} m p = marked c s.text.bytes s.at (began c s.text.bytes s.at r.at _ refl p.reads.found) m

-- a mark pays for one level more
pub byte_pays : (c : ℕ) {s r : Position} {more : ℕ} → is_mark c ≡ true → IsOnly (byte c) s tt r → IsPaid more s → IsPaid (more + 1) r
byte_pays c {s} {r} {more} m p q =
    let at_start : IsPaid (more + 1) (record { text = s.text; at = r.at; left = s.left }) = record { paid = omega (arith, q.paid, byte_counts c m p, mark_count-rises s.text.bytes (s.at + 1) r.at (omega (arith, byte_end c p))) } in
    let text_same : IsPaid (more + 1) (record { text = r.text; at = r.at; left = s.left }) = subst (λ (t : Text). IsPaid (more + 1) (record { text = t; at = r.at; left = s.left })) (sym p.text) at_start in
    record { paid = omega (arith, text_same.paid, p.left) }

stands : (c : ℕ) (b : Bytes) (i : ℕ) → begins c b i ≡ true → after_byte c b i ≡ Some (i + 1)
unfolding after_byte
stands c b i h = rw h refl

-- so its reader stops where memory runs out alone, and no other reader is harmed
pub byte_stands : {A : Type 0} {R : Reader A} (c : ℕ) {s : Position} {stop : Stop} → begins c s.text.bytes s.at ≡ true → Refuses (byte c) s stop → Refuses R s stop
unfolding byte
byte_stands c {s = s} h p = record {
  none = λ e y j g. p.none e tt (s.at + 1) (record { found = stands c s.text.bytes s.at h });
  never = λ e limit y j g. p.never e limit tt (s.at + 1) (record { found = stands c s.text.bytes s.at h });
  cause = p.cause;
}

pub marked_on : {m r : Position} → IsMarked m → r.text ≡ m.text → r.left ≡ m.left → m.at ≤ r.at → IsMarked r
marked_on {m} {r} p e g h =
    let here : IsMarked (record { text = m.text; at = r.at; left = m.left }) = record { paid = omega (arith, p.paid, mark_count-rises m.text.bytes m.at r.at h) } in
    let there : IsMarked (record { text = r.text; at = r.at; left = m.left }) = subst (λ (t : Text). IsMarked (record { text = t; at = r.at; left = m.left })) (sym e) here in
    record { paid = omega (arith, there.paid, g) }

-- ---- signs

sign_first : (v w : Option ℕ) (x : Unary) → sign_of v w ≡ Some x → is_byte (sign_byte x) v ≡ true
sign_first v w x h = grind (arith, common_steps)

sign_begins : (b : Bytes) (i : ℕ) (x : Unary) → sign_found b i ≡ Some x → begins (sign_byte x) b i ≡ true
unfolding sign_found begins
sign_begins b i x h = sign_first (slice_get b i) (slice_get b (i + 1)) x h

pub sign_marks : (x : Unary) → is_mark (sign_byte x) ≡ true
sign_marks x = grind arith

module _ {s : Position} {b : Bytes} {i : ℕ} (e : b ≡ s.text.bytes) (g : i ≡ s.at) where
  pub sign_reads : {r : Position} {x : Unary} {v : ℕ} → Some x ≡ sign_found b i → v ≡ sign_byte x → IsOnly (byte v) s tt r → Answers sign s r (Ok x)
  unfolding sign sign_at
  sign_reads {x = x} {v = v} h k p = let found : sign_found s.text.bytes s.at ≡ Some x = cc in answers_ok (takes_only (rw (found, byte_end v p) refl) p.text p.left p.forward p.shrinks)

  pub sign_missing : None ≡ sign_found b i → i ≤ length s.text.bytes → Answers sign s s (Err (Syntax i))
  unfolding sign sign_at
  sign_missing h w = let found : sign_found s.text.bytes s.at ≡ None = cc in answers_refused (takes_refuses (rw found refl) w)

  pub sign_stands : {stop : Stop} {x : Unary} {v : ℕ} → Some x ≡ sign_found b i → v ≡ sign_byte x → Refuses (byte v) s stop → Refuses sign s stop
  sign_stands {x = x} {v = v} h k p = let found : sign_found s.text.bytes s.at ≡ Some x = cc in byte_stands v (rw k (sign_begins s.text.bytes s.at x found)) p

-- ---- operators

operator_first : (level : Level) (c : ℕ) (w : Option ℕ) (x : Operator) → operator_of level c w ≡ Some x → is_byte (first_byte x) (Some c) ≡ true
operator_first l.Ternary c w x h = absurd cc
operator_first l.LogicalOr c w x h = grind (arith, common_steps)
operator_first l.LogicalAnd c w x h = grind (arith, common_steps)
operator_first l.Comparison c w x h = grind (arith, common_steps)
operator_first l.BitwiseOr c w x h = grind (arith, common_steps)
operator_first l.BitwiseXor c w x h = grind (arith, common_steps)
operator_first l.BitwiseAnd c w x h = grind (arith, common_steps)
operator_first l.Shift c w x h = grind (arith, common_steps)
operator_first l.Sum c w x h = grind (arith, common_steps)
operator_first l.Product c w x h = grind (arith, common_steps)
operator_first l.Sign c w x h = absurd cc

operator_from-first : (level : Level) (v w : Option ℕ) (x : Operator) → operator_from level v w ≡ Some x → is_byte (first_byte x) v ≡ true
operator_from-first level None w x h = absurd cc
operator_from-first level (Some c) w x h = operator_first level c w x h

operator_begins : (level : Level) (b : Bytes) (i : ℕ) (x : Operator) → operator_found level b i ≡ Some x → begins (first_byte x) b i ≡ true
unfolding operator_found begins
operator_begins level b i x h = operator_from-first level (slice_get b i) (slice_get b (i + 1)) x h

pub operator_marks : (x : Operator) → is_mark (first_byte x) ≡ true
operator_marks x = grind arith

width-some : (x : Operator) → 1 ≤ width x
width-some x = grind arith

module _ (level : Level) {s : Position} {b : Bytes} {i : ℕ} (e : b ≡ s.text.bytes) (g : i ≡ s.at) where
  pub operator_reads : {m r : Position} {x : Operator} {v w : ℕ} → Some x ≡ operator_found level b i → v ≡ first_byte x → w ≡ width x → IsOnly (byte v) s tt m → r.text ≡ m.text → r.at ≡ i + w → r.left ≡ m.left → Answers (operator level) s r (Ok x)
  unfolding operator operator_at
  operator_reads {m} {r} {x} {v} {w} h k a p t u z =
      let found : operator_found level s.text.bytes s.at ≡ Some x = cc in
      let end : r.at ≡ s.at + width x = omega (arith, u, g, a) in
      answers_ok (takes_only (rw (found, end) refl) (t ∙ p.text) (z ∙ p.left) (omega arith) (passed_less s r (t ∙ p.text) (omega arith)))

  pub operator_missing : None ≡ operator_found level b i → i ≤ length s.text.bytes → Answers (operator level) s s (Err (Syntax i))
  unfolding operator operator_at
  operator_missing h w = let found : operator_found level s.text.bytes s.at ≡ None = cc in answers_refused (takes_refuses (rw found refl) w)

  pub operator_stands : {stop : Stop} {x : Operator} {v : ℕ} → Some x ≡ operator_found level b i → v ≡ first_byte x → Refuses (byte v) s stop → Refuses (operator level) s stop
  operator_stands {x = x} {v = v} h k p = let found : operator_found level s.text.bytes s.at ≡ Some x = cc in byte_stands v (rw k (operator_begins level s.text.bytes s.at x found)) p

-- ---- an operator pays for one level more

reads_some : (o : Option Operator) (x : Operator) (i j : ℕ) → with_end o i ≡ Some (x, j) → (o ≡ Some x) × (j ≡ i + width x)
reads_some None x i j h = absurd cc
reads_some (Some y) x i j h = grind arith

operator_counts : (level : Level) (b : Bytes) (i : ℕ) (x : Operator) (j : ℕ) → operator_at level b i ≡ Some (x, j) → mark_count b i + 1 ≤ mark_count b j
unfolding operator_at
operator_counts level b i x j h =
    let q = reads_some (operator_found level b i) x i j h in
    omega (arith, marked (first_byte x) b i (operator_begins level b i x q.0) (operator_marks x), mark_count-rises b (i + 1) j (omega (arith, width-some x, q.1)))

pub operator_pays : (level : Level) {s r : Position} {x : Operator} {more : ℕ} → IsOnly (operator level) s x r → IsPaid more s → IsPaid (more + 1) r
unfolding operator
operator_pays level {s} {r} {x} {more} p q =
    let at_start : IsPaid (more + 1) (record { text = s.text; at = r.at; left = s.left }) = record { paid = omega (arith, q.paid, operator_counts level s.text.bytes s.at x r.at p.reads.found) } in
    let text_same : IsPaid (more + 1) (record { text = r.text; at = r.at; left = s.left }) = subst (λ (t : Text). IsPaid (more + 1) (record { text = t; at = r.at; left = s.left })) (sym p.text) at_start in
    record { paid = omega (arith, text_same.paid, p.left) }

pub ruleset operations = (sign_marks, operator_marks)
