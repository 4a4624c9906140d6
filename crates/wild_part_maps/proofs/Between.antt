-- Entries that lie in a range.
use Rattle.std.proofs.Common.{◌≡◌, ℕ, suc, ◌+◌, ◌-◌, ◌<◌, ◌≤◌, List, [], ◌∷◌, ◌++◌, length, take, drop, refl, sym, ap, inl, inr, arith, Bool, true, false, min}
use Rattle.std.proofs.Math.Nat.{sub-zero}
use Rattle.std.specs.Prelude.{slice_range}
use Rattle.std.specs.List.{filter}
use Rattle.std.proofs.lemmas.Bool.{cases_Bool, cases_lt}
use Rattle.std.proofs.lemmas.Bool.Decides.{nat_tests}
use Rattle.std.proofs.lemmas.List.{take_min, take_all, drop_all, length-drop}
use Rattle.wild_ids.specs.Entries.{numbered}
use Rattle.wild_part_maps.specs.Parts.{is_between}

pub filter-append : {X : Type 0} (p : X → Bool) (xs ys : List X) → filter p (xs ++ ys) ≡ filter p xs ++ filter p ys
filter-append p [] ys = refl
filter-append p (x ∷ xs) ys = elim (cases_Bool (p x)) [
  | inl passes ↦ rw passes (ap (λ zs. x ∷ zs) (filter-append p xs ys))
  | inr fails ↦ rw fails (filter-append p xs ys)
]

pub filter-all : {X : Type 0} (p : X → Bool) (xs : List X) → ((x : X) → p x ≡ true) → filter p xs ≡ xs
filter-all p [] all = refl
filter-all p (x ∷ xs) all = rw (all x) (ap (λ zs. x ∷ zs) (filter-all p xs all))

module _ (start end : ℕ) where
  pub between-from : (q : ℕ) → is_between start end q ≡ true → start ≤ q
  between-from q passes = grind (arith, nat_tests)

  yes_at : (q : ℕ) → start ≤ q → q < end → is_between start end q ≡ true
  yes_at q low high = grind (arith, nat_tests)

  no_below : (q : ℕ) → q < start → is_between start end q ≡ false
  no_below q low = grind (arith, nat_tests)

  no_beyond : (q : ℕ) → end ≤ q → is_between start end q ≡ false
  no_beyond q high = grind (arith, nat_tests)

  module _ {T : Type 0} where
    abbrev p : ℕ × T → Bool
    p e = is_between start end e.0

    abbrev empty : List T
    empty = []

    none_at : (first n k : ℕ) → numbered first (take n (drop k empty)) ≡ []
    none_at first n k = rw (drop_all k empty (omega arith), take_all n empty (omega arith)) refl

    all_below : (first : ℕ) (xs : List T) → first + length xs ≤ start → filter p (numbered first xs) ≡ []
    all_below first [] low = refl
    all_below first (x ∷ xs) low = rw (no_below first (omega arith)) (all_below (first + 1) xs (omega arith))

    all_beyond : (first : ℕ) (xs : List T) → end ≤ first → filter p (numbered first xs) ≡ []
    all_beyond first [] high = refl
    all_beyond first (x ∷ xs) high = rw (no_beyond first high) (all_beyond (first + 1) xs (omega arith))

    from_here : (first : ℕ) (xs : List T) → start ≤ first → filter p (numbered first xs) ≡ numbered first (take (end - first) xs)
    from_here first [] low = sym (none_at first (end - first) 0)
    from_here first (x ∷ xs) low = elim (cases_lt first end) [
      | inl less ↦ (
          let more : end - first ≡ suc (end - (first + 1)) = omega arith in
          rw (yes_at first low less, more) (ap (λ es. (first, x) ∷ es) (from_here (first + 1) xs (omega arith))))
      | inr far ↦ (
          let none : end - first ≡ 0 = omega arith in
          rw none (all_beyond first (x ∷ xs) far))
    ]

    from_start : (first : ℕ) (xs : List T) → first ≤ start → filter p (numbered first xs) ≡ numbered start (take (end - start) (drop (start - first) xs))
    from_start first [] low = sym (none_at start (end - start) (start - first))
    from_start first (x ∷ xs) low = elim (cases_lt first start) [
      | inl less ↦ (
          let more : start - first ≡ suc (start - (first + 1)) = omega arith in
          rw (no_below first less, more) (from_start (first + 1) xs (omega arith)))
      | inr far ↦ (
          let here : first ≡ start = omega arith in
          let none : start - first ≡ 0 = omega arith in
          rw none (rw here (from_here start (x ∷ xs) (omega arith))))
    ]

    -- the dense values of the range
    pub dense_between : (xs : List T) → filter p (numbered 0 xs) ≡ numbered (min start (length xs)) (slice_range xs (min start (length xs)) (min end (length xs)))
    dense_between xs = elim (cases_lt (length xs) start) [
      | inl far ↦ (
          let first : min start (length xs) ≡ length xs = omega arith in
          rw (first, drop_all (length xs) xs (omega arith), take_all (min end (length xs) - length xs) empty (omega arith)) (all_below 0 xs (omega arith)))
      | inr near ↦ (
          let first : min start (length xs) ≡ start = omega arith in
          let count : min (end - start) (length (drop start xs)) ≡ min end (length xs) - start = omega (arith, length-drop start xs) in
          rw (first, ← count, take_min (end - start) (drop start xs)) (rw (sub-zero start) at (from_start 0 xs (omega arith))))
    ]
