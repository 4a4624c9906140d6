-- The exponent of a power of two is found, and of nothing else.
use Rattle.std.proofs.Common.{◌≡◌, ℕ, zero, suc, ◌+◌, ◌^◌, ◌<◌, ◌≤◌, Bool, true, false, cond, refl, arith, ap, ◌∙◌, sym, inl, inr, Option, Some, None}
use Rattle.std.specs.Prelude.{◌==◌, Result, Ok, Err}
use Rattle.std.specs.List.{find, range_with_len}
use Rattle.std.specs.Result.{result_ok}
use Rattle.std.proofs.Math.Pow.{pow-lt}
use Rattle.std.proofs.lemmas.Bool.{cases_lt, eq-eqb, ne_eqb}
use Rattle.wild_ids.specs.Alignment.{exponent_of, NewAlignment}
use Rattle.wild_ids.specs.declared.alignment.AlignmentFault.{AlignmentFault}
use Rattle.wild_ids.specs.declared.alignment.AlignmentFault.TheVariants.{NotPowerOfTwo, TooLarge}

found_by : (b : Bool) (a e : ℕ) (rest : Option ℕ) → (a ≡ e → b ≡ true) → (a < e → (b ≡ false) × (rest ≡ Some e)) → a ≤ e → cond b (Some a) rest ≡ Some e
found_by b a e rest here later within =
    elim (cases_lt a e) [
      | inl less ↦ (let t = later less in rw t.0 t.1)
      | inr more ↦ (let same : a ≡ e = omega arith in rw (here same) (ap (λ n. Some n) same))
    ]

found : (p : ℕ → Bool) (a n e : ℕ) → a ≤ e → e < a + n → p e ≡ true → ((k : ℕ) → k < e → p k ≡ false) → find p (range_with_len a n) ≡ Some e
found p a zero e low high hits misses = absurd (omega arith)
found p a (suc n) e low high hits misses =
    found_by (p a) a e (find p (range_with_len (a + 1) n)) (λ same. ap p same ∙ hits) (λ less. (misses a less, found p (a + 1) n e (omega arith) (omega arith) hits misses)) low

none : (p : ℕ → Bool) (a n : ℕ) → ((k : ℕ) → k < a + n → p k ≡ false) → find p (range_with_len a n) ≡ None
none p a zero misses = refl
none p a (suc n) misses = rw (misses a (omega arith)) (none p (a + 1) n (λ k h. misses k (omega arith)))

pub exponent_is : (raw : ℕ) (r : Result ℕ AlignmentFault) → NewAlignment raw r → result_ok r ≡ exponent_of raw
unfolding exponent_of
exponent_is raw (Ok e) h =
    sym (found (λ k. raw == 2 ^ k) 0 22 e (omega arith) (omega (arith, h.1)) (eq-eqb raw (2 ^ e) h.0)
    (λ k less. ne_eqb raw (2 ^ k) (λ same. omega (arith, pow-lt less, h.0, same))))
exponent_is raw (Err NotPowerOfTwo) h = sym (none (λ k. raw == 2 ^ k) 0 22 (λ k less. ne_eqb raw (2 ^ k) (h k)))
exponent_is raw (Err TooLarge) h =
    sym (none (λ k. raw == 2 ^ k) 0 22 (λ k less. ne_eqb raw (2 ^ k) (λ same.
    let low : k < h.0 = omega (arith, h.2) in omega (arith, pow-lt low, h.1, same))))
