-- What `from_str_radix` reads, against `numeral`.
use Rattle.std.proofs.Common.{◌≡◌, ap, refl, ℕ, ◌^◌, ◌<◌, ◌≤◌, true, false, nat_lt, List, [], ◌∷◌, length, Some, None, Result, Ok, Err, IsUtf8, ⊎_elim, arith}
use Rattle.std.proofs.lemmas.Bool.{cases_Bool, ltb-true, lt-ltb, and_from, and_parts}
use Rattle.std.proofs.lemmas.Bool.Decides.{nat_tests}
use Rattle.std.proofs.lemmas.Str.{IsUtf8-from_ascii}
use Rattle.std.proofs.lemmas.Str.Ascii.{IsAscii-nil, IsAscii-cons}
use Rattle.std.specs.List.{list_all}
use Rattle.std.specs.Char.{digit_value}
use Rattle.std.specs.Result.{OkIff}
use Rattle.std.specs.Str.{IsAscii}
use Rattle.std.specs.Str.Parse.{AllDigits, IsNumeral, digits_value}
use Rattle.std.specs.Result.{result_ok}
use Rattle.wild_table.specs.Number.{is_numeral, numeral}

digits_from_test : (radix : ℕ) (ds : List ℕ) → list_all (λ c. nat_lt (digit_value c) radix) ds ≡ true → AllDigits radix ds
digits_from_test radix [] e = tt
digits_from_test radix (c ∷ cs) e = let p = and_parts (nat_lt (digit_value c) radix) _ e in (ltb-true (digit_value c) radix p.0, digits_from_test radix cs p.1)

test_from_digits : (radix : ℕ) (ds : List ℕ) → AllDigits radix ds → list_all (λ c. nat_lt (digit_value c) radix) ds ≡ true
test_from_digits radix [] h = refl
test_from_digits radix (c ∷ cs) h = and_from (nat_lt (digit_value c) radix) _ (lt-ltb (digit_value c) radix h.0) (test_from_digits radix cs h.1)

digit_ascii : (c : ℕ) → digit_value c < 36 → c < 128
digit_ascii c h = grind (arith, nat_tests)

ascii_from_digits : (radix : ℕ) (ds : List ℕ) → radix ≤ 36 → AllDigits radix ds → IsAscii ds
ascii_from_digits radix [] low h = IsAscii-nil
ascii_from_digits radix (c ∷ cs) low h = IsAscii-cons c cs (digit_ascii c (omega (arith, h.0))) (ascii_from_digits radix cs low h.1)

-- the test says what the words of `parse` say
is_numeral_says : (radix : ℕ) (ds : List ℕ) → is_numeral radix ds ≡ true → IsNumeral radix ds × (digits_value radix ds < 2 ^ 64)
is_numeral_says radix ds e =
    let outer = and_parts _ (nat_lt (digits_value radix ds) (2 ^ 64)) e in
    let inner = and_parts (nat_lt 0 (length ds)) _ outer.0 in
    ((ltb-true 0 (length ds) inner.0, digits_from_test radix ds inner.1), ltb-true _ (2 ^ 64) outer.1)

says_is_numeral : (radix : ℕ) (ds : List ℕ) → IsNumeral radix ds × (digits_value radix ds < 2 ^ 64) → is_numeral radix ds ≡ true
says_is_numeral radix ds h =
    and_from _ _ (and_from _ _ (lt-ltb 0 (length ds) h.0.0) (test_from_digits radix ds h.0.1)) (lt-ltb _ (2 ^ 64) h.1)

not_numeral : (radix : ℕ) (ds : List ℕ) → ¬ (IsNumeral radix ds × (digits_value radix ds < 2 ^ 64)) → is_numeral radix ds ≡ false
not_numeral radix ds h = ⊎_elim (λ e. absurd (h (is_numeral_says radix ds e))) (λ e. e) (cases_Bool (is_numeral radix ds))

pub numeral_read : {E : Type 0} (radix : ℕ) (ds : List ℕ) (r : Result ℕ E) → OkIff r (IsNumeral radix ds × (digits_value radix ds < 2 ^ 64)) (digits_value radix ds) → result_ok r ≡ numeral radix ds
numeral_read radix ds (Ok x) h = rw (says_is_numeral radix ds h.0) (ap (λ n. Some n) h.1)
numeral_read radix ds (Err e) h = rw (not_numeral radix ds h) refl

pub not_text : (radix : ℕ) (ds : List ℕ) → radix ≤ 36 → ¬ (IsUtf8 ds) → None ≡ numeral radix ds
not_text radix ds low h = rw (not_numeral radix ds (λ n. h (IsUtf8-from_ascii ds (ascii_from_digits radix ds low n.0.1)))) refl

pub ruleset reads = (numeral_read, not_text)
