-- Multiples of a size lie a whole size apart.
use Rattle.std.proofs.Common.{◌≡◌, ◌≢◌, ℕ, suc, ◌+◌, ◌-◌, ◌*◌, ◌/◌, ◌%◌, ◌^◌, ◌<◌, ◌≤◌, sym, ◌∙◌, inl, inr, zero-add, arith, Option, Some, None}
use Rattle.std.specs.Prelude.{SomeIff, MatchOption}
use Rattle.std.proofs.Math.Nat.{sub-zero, mul-le-mul_left, mul-suc, div-add-mod, pow-suc, pow-le-pow_right, mod-lt, mod-add-mod, mod-mod, mod_self, mod-eq_of_lt, mul-mod_right}
use Rattle.std.proofs.lemmas.Bool.{cases_lt}
use Rattle.std.proofs.lemmas.Nat.{pow_pos}
use Rattle.std.specs.Int.{next_multiple_of}
use Rattle.wild_ids.specs.Alignment.{IsLeastMultiple, IsGreatestMultiple, IsLeastCongruent, moved_to, rounded_up, rounded_down}

gap : (s a b : ℕ) → a % s ≡ b % s → a < b → a + s ≤ b
gap s a b e h =
    elim (cases_lt (a / s) (b / s)) [
      | inl less ↦ (let above : s * suc (a / s) ≤ s * (b / s) = mul-le-mul_left s less in
          omega (arith, above, mul-suc s (a / s), div-add-mod a s, div-add-mod b s, e))
      | inr more ↦ (let below : s * (b / s) ≤ s * (a / s) = mul-le-mul_left s more in
          omega (arith, below, div-add-mod a s, div-add-mod b s, e))
    ]

-- rounding up adds what is missing
up_near : (s value : ℕ) → 0 < s → (next_multiple_of value s % s ≡ 0) × (next_multiple_of value s < value + s)
up_near s value p =
    elim (cases_lt 0 (value % s)) [
      | inl some ↦ (
          let more : (s - value % s) % s ≡ s - value % s = mod-eq_of_lt (omega (arith, mod-lt value p)) in
          let at : next_multiple_of value s ≡ s * suc (value / s) = omega (arith, more, div-add-mod value s, mul-suc s (value / s), mod-lt value p) in
          (rw at (mul-mod_right s (suc (value / s))), omega (arith, more, mod-lt value p)))
      | inr none ↦ (
          let zero_rest : value % s ≡ 0 = omega arith in
          let more : (s - value % s) % s ≡ 0 = rw (zero_rest, sub-zero) (mod_self s) in
          let at : next_multiple_of value s ≡ value = omega (arith, more) in
          (rw at zero_rest, omega (arith, more)))
    ]

up_is_least : (s value : ℕ) → 0 < s → IsLeastMultiple s value (next_multiple_of value s)
up_is_least s value p =
    let near = up_near s value p in
    record {
      multiple = near.0;
      reaches = omega arith;
      least = λ n f h. elim (cases_lt n (next_multiple_of value s)) [
        | inl less ↦ (let apart : n + s ≤ next_multiple_of value s = gap s n (next_multiple_of value s) (f ∙ sym near.0) less in omega (arith, near.1))
        | inr more ↦ more
      ];
    }

down_is_greatest : (s value : ℕ) → 0 < s → IsGreatestMultiple s value (rounded_down s value)
down_is_greatest s value p =
    let at : value - value % s ≡ s * (value / s) = omega (arith, div-add-mod value s) in
    let multiple : (value - value % s) % s ≡ 0 = rw at (mul-mod_right s (value / s)) in
    record {
      multiple = multiple;
      within = omega arith;
      greatest = λ n f h. elim (cases_lt (value - value % s) n) [
        | inl less ↦ (let apart : (value - value % s) + s ≤ n = gap s (value - value % s) n (multiple ∙ sym f) less in omega (arith, mod-lt value p))
        | inr more ↦ more
      ];
    }

moved_is_least : (s reference offset : ℕ) → 0 < s → IsLeastCongruent s reference (rounded_up s offset) (moved_to s reference offset)
moved_is_least s reference offset p =
    let near = up_near s offset p in
    let rest : moved_to s reference offset % s ≡ reference % s = sym (mod-add-mod (rounded_up s offset) s (reference % s)) ∙ (rw (near.0, zero-add) (mod-mod reference s)) in
    record {
      congruent = rest;
      reaches = omega arith;
      least = λ n f h. elim (cases_lt n (moved_to s reference offset)) [
        | inl less ↦ (let apart : n + s ≤ moved_to s reference offset = gap s n (moved_to s reference offset) (f ∙ sym rest) less in omega (arith, mod-lt reference p))
        | inr more ↦ more
      ];
    }

pub no_power : (raw e : ℕ) → 2 ^ e ≤ raw → raw < 2 * 2 ^ e → 2 ^ e ≢ raw → (k : ℕ) → raw ≢ 2 ^ k
no_power raw e low high other k is =
    elim (cases_lt e k) [
      | inl less ↦ (let above : 2 ^ suc e ≤ 2 ^ k = pow-le-pow_right (omega arith) less in omega (arith, above, pow-suc 2 e, is))
      | inr more ↦ (let below : 2 ^ k ≤ 2 ^ e = pow-le-pow_right (omega arith) more in other (omega (arith, below, is)))
    ]

pub none_fits : (s value limit : ℕ) (o : Option ℕ) → 0 < s → SomeIff o (next_multiple_of value s < limit) (next_multiple_of value s) → MatchOption o ((n : ℕ) → n % s ≡ 0 → value ≤ n → limit ≤ n) (IsLeastMultiple s value)
none_fits s value limit (Some m) p h = rw h.1 (up_is_least s value p)
none_fits s value limit None p h = λ n f above. elim (cases_lt n limit) [ inl less ↦ absurd (h (omega (arith, (up_is_least s value p).least n f above))) | inr more ↦ more ]

-- the same at powers of two
pub is_rounded_up : (e value m : ℕ) → m ≡ rounded_up (2 ^ e) value → IsLeastMultiple (2 ^ e) value m
is_rounded_up e value m is = rw is (up_is_least (2 ^ e) value (pow_pos e))

pub is_rounded_down : (e value m : ℕ) → m ≡ rounded_down (2 ^ e) value → IsGreatestMultiple (2 ^ e) value m
is_rounded_down e value m is = rw is (down_is_greatest (2 ^ e) value (pow_pos e))

pub is_moved : (e reference offset m : ℕ) → m ≡ moved_to (2 ^ e) reference offset → IsLeastCongruent (2 ^ e) reference (rounded_up (2 ^ e) offset) m
is_moved e reference offset m is = rw is (moved_is_least (2 ^ e) reference offset (pow_pos e))
