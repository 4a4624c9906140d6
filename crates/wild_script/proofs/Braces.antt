-- Which brace closes, from position to position.
use Rattle.std.proofs.Common.{◌≡◌, get_or, ℕ, suc, ◌+◌, ◌-◌, ◌≤◌, ◌<◌, ◌==◌, Bool, true, false, length, drop, take, refl, sym, ◌∙◌, ap, arith, Some, None, if◌then◌else◌}
use Rattle.std.specs.Prelude.{Option, slice_get, count_by, ◌&&◌}
use Rattle.std.specs.List.{find, range_with_len}
use Rattle.std.proofs.lemmas.List.{get_or-drop, length-drop}
use Rattle.std.proofs.lemmas.List.Sums.{count_by_more_yes, count_by_more_no}
use Rattle.std.proofs.lemmas.Option.{slice_get-get_or}
use Rattle.std.proofs.lemmas.Bool.{false≢true, eqb-true, eq-eqb, ne_eqb}
use Rattle.std.proofs.Math.Bool.{and-false}
use Rattle.wild_reading.specs.Position.{Bytes}
use Rattle.wild_reading.specs.Bytes.{begins, is_byte}
use Rattle.wild_reading.specs.Lex.{between}
use Rattle.wild_script.specs.Version.{count_of, closes_at, closing_brace}

-- ---- the first that closes, from a position on

pub closing_from : Bytes → ℕ → ℕ → Option ℕ
closing_from b i j = find (closes_at b i) (range_with_len j (length b - j))

from_here : (b : Bytes) (i j : ℕ) → j < length b → closes_at b i j ≡ true → closing_from b i j ≡ Some j
unfolding closing_from
from_here b i j h t = let e : length b - j ≡ suc (length b - (j + 1)) = omega arith in rw (e, t) refl

from_next : (b : Bytes) (i j : ℕ) → j < length b → closes_at b i j ≡ false → closing_from b i j ≡ closing_from b i (j + 1)
unfolding closing_from
from_next b i j h t = let e : length b - j ≡ suc (length b - (j + 1)) = omega arith in rw (e, t) refl

from_end : (b : Bytes) (i j : ℕ) → length b ≤ j → closing_from b i j ≡ None
unfolding closing_from
from_end b i j h = let e : length b - j ≡ 0 = omega arith in rw e refl

-- ---- counts

byte_there : (c : ℕ) (b : Bytes) (j : ℕ) → j < length b → begins c b j ≡ (get_or b j 0 == c)
unfolding begins
byte_there c b j h = ap (is_byte c) (slice_get-get_or b j 0 h)

module _ (c : ℕ) (b : Bytes) (i j : ℕ) (l : i ≤ j) (h : j < length b) where
  same_byte : (get_or (drop i b) (j - i) 0 == c) ≡ begins c b j
  same_byte = let e : i + (j - i) ≡ j = omega (arith, l) in
      ap (λ n. n == c) (get_or-drop i b (j - i) 0 ∙ ap (λ n. get_or b n 0) e) ∙ sym (byte_there c b j h)

  further : (j + 1) - i ≡ (j - i) + 1
  further = omega (arith, l)

  count_yes : begins c b j ≡ true → count_of c b i (j + 1) ≡ count_of c b i j + 1
  unfolding count_of
  count_yes t = ap (λ n. count_by (λ d. d == c) (take n (drop i b))) further ∙ count_by_more_yes (λ d. d == c) (drop i b) (j - i) 0 (omega (arith, l, h, length-drop i b)) (same_byte ∙ t)

  count_no : begins c b j ≡ false → count_of c b i (j + 1) ≡ count_of c b i j
  unfolding count_of
  count_no t = ap (λ n. count_by (λ d. d == c) (take n (drop i b))) further ∙ count_by_more_no (λ d. d == c) (drop i b) (j - i) 0 (omega (arith, l, h, length-drop i b)) (same_byte ∙ t)

count_none : (c : ℕ) (b : Bytes) (i : ℕ) → count_of c b i i ≡ 0
unfolding count_of
count_none c b i = let e : i - i ≡ 0 = omega arith in rw e refl

-- ---- a walk over the bytes

-- no brace before the second position closes, and so many that were opened are open there
pub record IsOpen (b : Bytes) (i j depth : ℕ) : Type 0 where
  pub same : closing_brace b i ≡ closing_from b i j
  pub opened : count_of 125 b i j + depth ≡ count_of 123 b i j
  pub few : depth + i ≤ j
  pub within : j ≤ length b

pub open_start : (b : Bytes) (i : ℕ) → i ≤ length b → IsOpen b i i 0
unfolding closing_brace closing_from
open_start b i h = record { same = refl; opened = omega (arith, count_none 125 b i, count_none 123 b i); few = omega arith; within = h }

-- one byte is not another
other_byte : (c e : ℕ) → (c == e) ≡ false → (o : Option ℕ) → is_byte c o ≡ true → is_byte e o ≡ false
other_byte c e differ None t = absurd (false≢true t)
other_byte c e differ (Some d) t = ap (λ n. n == e) (eqb-true d c t) ∙ differ

closes_only : (b : Bytes) (j : ℕ) → begins 125 b j ≡ true → begins 123 b j ≡ false
unfolding begins
closes_only b j t = other_byte 125 123 refl (slice_get b j) t

-- a brace that closes another
not_last : (b : Bytes) (i j depth : ℕ) → count_of 125 b i j + depth ≡ count_of 123 b i j → 0 < depth → closes_at b i j ≡ false
unfolding closes_at
not_last b i j depth p h = ap (λ t. begins 125 b j && t) (ne_eqb (count_of 123 b i j) (count_of 125 b i j) (λ e. let never : ⊥ = omega (arith, p, h, e) in never)) ∙ and-false (begins 125 b j)

last : (b : Bytes) (i j : ℕ) → count_of 125 b i j + 0 ≡ count_of 123 b i j → begins 125 b j ≡ true → closes_at b i j ≡ true
unfolding closes_at
last b i j p t = let e : (count_of 123 b i j == count_of 125 b i j) ≡ true = eq-eqb (count_of 123 b i j) (count_of 125 b i j) (omega (arith, p)) in rw (t, e) refl

no_brace : (b : Bytes) (i j : ℕ) → begins 125 b j ≡ false → closes_at b i j ≡ false
unfolding closes_at
no_brace b i j t = rw t refl

module _ {b : Bytes} {i j depth : ℕ} (p : IsOpen b i j depth) (h : j < length b) where
  i_before : i ≤ j
  i_before = omega (arith, p.few)

  pub open_more : begins 125 b j ≡ false → begins 123 b j ≡ true → IsOpen b i (j + 1) (depth + 1)
  open_more s t = record {
    same = p.same ∙ from_next b i j h (no_brace b i j s);
    opened = omega (arith, p.opened, count_no 125 b i j i_before h s, count_yes 123 b i j i_before h t);
    few = omega (arith, p.few);
    within = omega (arith, h);
  }

  pub open_less : begins 125 b j ≡ true → 0 < depth → IsOpen b i (j + 1) (depth - 1)
  open_less t m = record {
    same = p.same ∙ from_next b i j h (not_last b i j depth p.opened m);
    opened = omega (arith, p.opened, m, count_yes 125 b i j i_before h t, count_no 123 b i j i_before h (closes_only b j t));
    few = omega (arith, p.few);
    within = omega (arith, h);
  }

  pub open_same : begins 125 b j ≡ false → begins 123 b j ≡ false → IsOpen b i (j + 1) depth
  open_same s t = record {
    same = p.same ∙ from_next b i j h (no_brace b i j s);
    opened = omega (arith, p.opened, count_no 125 b i j i_before h s, count_no 123 b i j i_before h t);
    few = omega (arith, p.few);
    within = omega (arith, h);
  }

pub open_found : {b : Bytes} {i j depth : ℕ} → IsOpen b i j depth → j < length b → depth ≡ 0 → begins 125 b j ≡ true → closing_brace b i ≡ Some j
open_found {b} {i} {j} {depth} p h e t = p.same ∙ from_here b i j h (last b i j (omega (arith, p.opened, e)) t)

pub open_ends : {b : Bytes} {i j depth : ℕ} → IsOpen b i j depth → length b ≤ j → closing_brace b i ≡ None
open_ends {b} {i} {j} p h = p.same ∙ from_end b i j h

pub ruleset braces = (open_start, open_more, open_less, open_same, open_found, open_ends)
