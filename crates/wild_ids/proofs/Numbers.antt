-- Numbers one after another.
use Rattle.std.proofs.Common.{◌≡◌, ℕ, zero, suc, ◌+◌, ◌-◌, ◌<◌, ◌≤◌, [], ◌∷◌, refl, sym, ◌∙◌, arith, slice_index}
use Rattle.std.proofs.Math.Nat.{add-zero}
use Rattle.std.specs.List.{range_with_len}

pub numbers-step : (a b : ℕ) → a < b → range_with_len a (b - a) ≡ a ∷ range_with_len (a + 1) (b - (a + 1))
numbers-step a b h = let e : b - a ≡ suc (b - (a + 1)) = omega arith in rw e refl

pub numbers-none : (a b : ℕ) → b ≤ a → range_with_len a (b - a) ≡ []
numbers-none a b h = let e : b - a ≡ 0 = omega arith in rw e refl

pub numbers-at : (first count k : ℕ) → k < count → slice_index (range_with_len first count) k ≡ first + k
numbers-at first zero k h = absurd (omega arith)
numbers-at first (suc count) zero h = sym (add-zero first)
numbers-at first (suc count) (suc k) h = numbers-at (first + 1) count k (omega arith) ∙ omega arith
