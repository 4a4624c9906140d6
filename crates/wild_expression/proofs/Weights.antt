-- What is read costs as many marks as it is deep.
use Rattle.std.proofs.Common.{◌≡◌, ◌≤◌, ◌<◌, ◌+◌, ℕ, true, zero, suc, arith, refl, sym, subst}
use Rattle.std.specs.Prelude.{max}
use Rattle.wild_reading.specs.Position.{Text, Position, IsPaid, IsMarked, is_mark}
use Rattle.wild_reading.specs.Reader.{Reader}
use Rattle.wild_reading.specs.Lex.{byte}
use Rattle.wild_reading.specs.Family.{room}
use Rattle.wild_reading.specs.Only.{IsOnly, Refuses, IsInside, Leaves}
use Rattle.wild_reading.specs.declared.stop.Stop.{Stop}
use Rattle.wild_reading.proofs.Readers.{cause_same}
use Rattle.wild_reading.proofs.Marks.{paid_on}
use Rattle.wild_expression_words.specs.declared.operators.Level.{Level}
use Rattle.wild_expression_words.specs.declared.operators.Operator.{Operator}
use Rattle.wild_expression_words.specs.Operators.{operator}
use Rattle.wild_expression.specs.declared.measured.Measured.{Measured}
use Rattle.wild_expression.specs.Grammar.{IsCovered}
use Rattle.wild_expression_words.proofs.Operations.{operator_pays, byte_pays}

pub paid_less : {more less : ℕ} {s : Position} → less ≤ more → IsPaid more s → IsPaid less s
paid_less h p = record { paid = omega (arith, p.paid) }

pub covered_on : {X : Type 0} {R : Reader X} {s r : Position} {x : X} {depth : ℕ} → IsOnly R s x r → IsCovered depth s → IsCovered depth r
covered_on p q = record { paid = λ h. paid_on p (q.paid h) }

pub covered_by : {depth : ℕ} {s : Position} → IsPaid depth s → IsCovered depth s
covered_by p = record { paid = λ h. p }

pub covered_none : {s : Position} → IsCovered 0 s
covered_none = record { paid = λ h. absurd (omega (arith, h)) }

-- after a mark the depth before it is paid, and one more
from_cover : (depth : ℕ) {s r : Position} → (1 ≤ depth → IsPaid depth s → IsPaid (depth + 1) r) → IsCovered depth s → IsMarked r → IsPaid (depth + 1) r
from_cover zero f q m = m
from_cover (suc n) f q m = f (omega arith) (q.paid (omega arith))

pub operator_covers : (level : Level) {s r : Position} {op : Operator} {depth : ℕ} → IsOnly (operator level) s op r → IsCovered depth s → IsMarked r → IsPaid (depth + 1) r
operator_covers level {depth = depth} p q m = from_cover depth (λ h g. operator_pays level p g) q m

pub byte_covers : (c : ℕ) {s r : Position} {depth : ℕ} → is_mark c ≡ true → IsOnly (byte c) s tt r → IsCovered depth s → IsMarked r → IsPaid (depth + 1) r
byte_covers c {depth = depth} k p q m = from_cover depth (λ h g. byte_pays c k p g) q m

pub max_paid : (n m : ℕ) {s : Position} → IsPaid (n + 1) s → IsPaid (m + 1) s → IsPaid (max n m + 1) s
max_paid n m p q = record { paid = omega (arith, p.paid, q.paid) }

-- what is made of the parts is as deep as it says
pub covered_as : {x y : Measured} {s : Position} → x ≡ y → IsPaid y.depth s → IsCovered x.depth s
covered_as {x} {y} {s} e p = subst (λ (m : Measured). IsCovered m.depth s) (sym e) (covered_by p)

-- ---- room that is there

pub room_there : {A : Type 0} {R : Reader A} {depth : ℕ} {s m : Position} {stop : Stop} → depth < m.left → m.text ≡ s.text → Refuses (room depth) m stop → Refuses R s stop
unfolding room
room_there {m = m} h e p = record {
  none = λ i y j g. p.none i tt m.at (record { deep = h; end = refl });
  never = λ i limit y j g. p.never i m.left tt m.at (record { deep = h; end = refl });
  cause = cause_same _ e p.cause;
}

-- ---- one deeper

-- inside as much is paid as outside with one more
pub paid_inside : {more : ℕ} {s r : Position} → IsInside s r → IsPaid (more + 1) s → IsPaid more r
paid_inside {more} {s} {r} i p =
    let here : IsPaid more (record { text = s.text; at = s.at; left = r.left }) = record { paid = omega (arith, p.paid, i.left) } in
    let there : IsPaid more (record { text = r.text; at = s.at; left = r.left }) = subst (λ (t : Text). IsPaid more (record { text = t; at = s.at; left = r.left })) (sym i.text) here in
    subst (λ (n : ℕ). IsPaid more (record { text = r.text; at = n; left = r.left })) (sym i.at) there

pub paid_outside : {more : ℕ} {m r : Position} → Leaves m r → IsPaid more m → IsPaid (more + 1) r
paid_outside {more} {m} {r} l p =
    let here : IsPaid (more + 1) (record { text = m.text; at = m.at; left = r.left }) = record { paid = omega (arith, p.paid, l.left) } in
    let there : IsPaid (more + 1) (record { text = r.text; at = m.at; left = r.left }) = subst (λ (t : Text). IsPaid (more + 1) (record { text = t; at = m.at; left = r.left })) (sym l.text) here in
    subst (λ (n : ℕ). IsPaid (more + 1) (record { text = r.text; at = n; left = r.left })) (sym l.at) there

inside_paid : (depth : ℕ) {m : Position} → IsPaid 0 m → IsCovered depth m → IsPaid depth m
inside_paid zero p q = p
inside_paid (suc n) p q = q.paid (omega arith)

pub enclosed_paid : {X : Type 0} {R : Reader X} {s t m r : Position} {x : X} {depth : ℕ} → IsMarked s → IsInside s t → IsOnly R t x m → IsCovered depth m → Leaves m r → IsPaid (depth + 1) r
enclosed_paid {depth = depth} k i p q l = paid_outside l (inside_paid depth (paid_on p (paid_inside i k)) q)

pub ruleset weights = (paid_on, covered_on, covered_by, covered_none)
