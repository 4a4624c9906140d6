-- Numbers grow with their digits.
use Rattle.std.proofs.Common.{◌≡◌, ◌<◌, ◌≤◌, ◌+◌, ◌*◌, ℕ, List, [], ◌∷◌, length, get_or, drop, arith, ap}
use Rattle.std.proofs.Common.{drop-cons, add-one}
use Rattle.std.proofs.Math.ListN.{drop_of_length-le}
use Rattle.std.proofs.Math.Nat.{mul-le-mul_left}
use Rattle.std.specs.Char.{digit_value}
use Rattle.std.specs.Str.Parse.{digits_value_after}

pub digits_value_after-grows : (radix n : ℕ) (cs : List ℕ) → 1 ≤ radix → n ≤ digits_value_after radix n cs
digits_value_after-grows radix n [] h = omega arith
digits_value_after-grows radix n (c ∷ cs) h = let m : n * 1 ≤ n * radix = mul-le-mul_left n h in omega (arith, digits_value_after-grows radix (n * radix + digit_value c) cs h)

pub digits_value_after-next : (radix n : ℕ) (cs : List ℕ) (i : ℕ) → i < length cs → digits_value_after radix n (drop i cs) ≡ digits_value_after radix (n * radix + digit_value (get_or cs i 0)) (drop (i + 1) cs)
digits_value_after-next radix n cs i h = rw (add-one, drop-cons cs i 0)

pub digits_value_after-end : (radix n : ℕ) (cs : List ℕ) (i : ℕ) → length cs ≤ i → digits_value_after radix n (drop i cs) ≡ n
digits_value_after-end radix n cs i h = ap (digits_value_after radix n) (drop_of_length-le cs h)

pub ruleset numbers = (digits_value_after-grows, digits_value_after-next, digits_value_after-end)
