-- Entries whose parts rise.
use Rattle.std.proofs.Common.{◌≡◌, ℕ, suc, ◌+◌, ◌-◌, ◌<◌, ◌≤◌, List, [], ◌∷◌, ◌++◌, length, None, refl, ap, ◌∙◌, inl, inr, arith, Bool, true, false, nat_lt}
use Rattle.std.proofs.Math.Nat.{sub-zero}
use Rattle.std.specs.Prelude.{slice_get, ◌==◌, if◌then◌else◌}
use Rattle.std.specs.List.{filter}
use Rattle.std.specs.Ordering.{nat_cmp}
use Rattle.std.specs.Map.{keys_of}
use Rattle.std.specs.BTreeMap.{insert_entry}
use Rattle.std.proofs.lemmas.Bool.{cases_Bool, cases_eq}
use Rattle.std.proofs.lemmas.Bool.Decides.{nat_tests}
use Rattle.wild_ids.specs.Entries.{numbered}
use Rattle.wild_part_maps.specs.Parts.{RisesFrom, value_in, is_part}

module _ {T : Type 0} where
  pub rises_lower : (a b : ℕ) (es : List (ℕ × T)) → a ≤ b → RisesFrom b es → RisesFrom a es
  rises_lower a b [] low rising = tt
  rises_lower a b (e ∷ es) low rising = (omega (arith, rising.0), rising.1)

  pub none_below : (limit q : ℕ) (es : List (ℕ × T)) → RisesFrom limit es → q < limit → value_in es q ≡ None
  none_below limit q [] rising low = refl
  none_below limit q (e ∷ es) rising low =
      let other : is_part q e.0 ≡ false = grind (arith, nat_tests, rising.0) in
      rw other (none_below (e.0 + 1) q es rising.1 (omega (arith, rising.0)))

  pub rises_insert : (limit part : ℕ) (v : T) (es : List (ℕ × T)) → limit ≤ part → RisesFrom limit es → RisesFrom limit (insert_entry nat_cmp es part v)
  rises_insert limit part v [] here rising = (here, tt)
  rises_insert limit part v (e ∷ es) here rising = elim (cases_Bool (nat_lt part e.0)) [
    | inl less ↦ (let above : part + 1 ≤ e.0 = grind (arith, nat_tests) in rw less (here, (above, rising.1)))
    | inr more ↦ elim (cases_Bool (part == e.0)) [
      | inl same ↦ rw (more, same) rising
      | inr other ↦ (let above : e.0 + 1 ≤ part = grind (arith, nat_tests) in rw (more, other) (rising.0, rises_insert (e.0 + 1) part v es above rising.1))
    ]
  ]

  -- only the parts count
  pub rises_same : (limit : ℕ) (es fs : List (ℕ × T)) → keys_of fs ≡ keys_of es → RisesFrom limit es → RisesFrom limit fs
  rises_same limit [] [] same rising = tt
  rises_same limit [] (f ∷ fs) same rising = cc
  rises_same limit (e ∷ es) [] same rising = cc
  rises_same limit (e ∷ es) (f ∷ fs) same rising =
      let first : f.0 ≡ e.0 = cc in
      let others : keys_of fs ≡ keys_of es = cc in
      (omega (arith, first, rising.0), rw first (rises_same (e.0 + 1) es fs others rising.1))

  pub rises_filter : (p : ℕ × T → Bool) (limit : ℕ) (es : List (ℕ × T)) → RisesFrom limit es → RisesFrom limit (filter p es)
  rises_filter p limit [] rising = tt
  rises_filter p limit (e ∷ es) rising = elim (cases_Bool (p e)) [
    | inl passes ↦ rw passes (rising.0, rises_filter p (e.0 + 1) es rising.1)
    | inr fails ↦ rw fails (rises_filter p limit es (rises_lower limit (e.0 + 1) es (omega (arith, rising.0)) rising.1))
  ]

  -- where each is at the bound or beyond it, they rise from there
  pub rises_beyond : (f : ℕ → Bool) (start limit : ℕ) (es : List (ℕ × T)) → ((q : ℕ) → f q ≡ true → start ≤ q) → RisesFrom limit es → RisesFrom start (filter (λ e. f e.0) es)
  rises_beyond f start limit [] beyond rising = tt
  rises_beyond f start limit (e ∷ es) beyond rising = elim (cases_Bool (f e.0)) [
    | inl passes ↦ rw passes (beyond e.0 passes, rises_filter (λ e. f e.0) (e.0 + 1) es rising.1)
    | inr fails ↦ rw fails (rises_beyond f start (e.0 + 1) es beyond rising.1)
  ]

  -- entries of a list that pass a test of their parts
  pub value_in_filter : (f : ℕ → Bool) (es : List (ℕ × T)) (q : ℕ) → value_in (filter (λ e. f e.0) es) q ≡ (if f q then value_in es q else None)
  value_in_filter f [] q = elim (cases_Bool (f q)) [ inl passes ↦ rw passes refl | inr fails ↦ rw fails refl ]
  value_in_filter f (e ∷ es) q = elim (cases_Bool (is_part q e.0)) [
    | inl same ↦ (let here : q ≡ e.0 = grind (arith, nat_tests) in elim (cases_Bool (f e.0)) [
      | inl passes ↦ (let as_q : f q ≡ true = ap f here ∙ passes in rw (passes, as_q, same) refl)
      | inr fails ↦ (let as_q : f q ≡ false = ap f here ∙ fails in rw (fails, as_q) (rw as_q at (value_in_filter f es q)))
    ])
    | inr other ↦ elim (cases_Bool (f e.0)) [
      | inl passes ↦ rw (passes, other) (value_in_filter f es q)
      | inr fails ↦ rw (fails, other) (value_in_filter f es q)
    ]
  ]

  pub rises_numbered : (first : ℕ) (xs : List T) (es : List (ℕ × T)) → RisesFrom (first + length xs) es → RisesFrom first (numbered first xs ++ es)
  rises_numbered first [] es rising = rises_lower first (first + 0) es (omega arith) rising
  rises_numbered first (x ∷ xs) es rising =
      let e : first + length (x ∷ xs) ≡ first + 1 + length xs = omega arith in
      (omega arith, rises_numbered (first + 1) xs es (rw e at rising))

  value_beyond : (first q : ℕ) (xs : List T) (es : List (ℕ × T)) → first + length xs ≤ q → value_in (numbered first xs ++ es) q ≡ value_in es q
  value_beyond first q [] es far = refl
  value_beyond first q (x ∷ xs) es far =
      let other : is_part q first ≡ false = grind (arith, nat_tests) in
      rw other (value_beyond (first + 1) q xs es (omega arith))

  value_inside : (first q : ℕ) (xs : List T) (es : List (ℕ × T)) → first ≤ q → q < first + length xs → value_in (numbered first xs ++ es) q ≡ slice_get xs (q - first)
  value_inside first q [] es low near = absurd (omega arith)
  value_inside first q (x ∷ xs) es low near = elim (cases_eq q first) [
    | inl same ↦ (
        let here : is_part q first ≡ true = grind (arith, nat_tests) in
        let none : q - first ≡ 0 = omega arith in
        rw (here, none) refl)
    | inr apart ↦ (
        let above : first < q = omega (arith, apart) in
        let other : is_part q first ≡ false = grind (arith, nat_tests) in
        let more : q - first ≡ suc (q - (first + 1)) = omega arith in
        rw (other, more) (value_inside (first + 1) q xs es (omega arith) (omega arith)))
  ]

  -- a list with a value for each part has what is kept
  pub value_in_all : (xs : List T) (es : List (ℕ × T)) (q : ℕ) → value_in (numbered 0 xs ++ es) q ≡ (if nat_lt q (length xs) then slice_get xs q else value_in es q)
  value_in_all xs es q = elim (cases_Bool (nat_lt q (length xs))) [
    | inl near ↦ (let low : q < 0 + length xs = grind (arith, nat_tests) in rw near (rw (sub-zero q) at (value_inside 0 q xs es (omega arith) low)))
    | inr far ↦ rw far (value_beyond 0 q xs es (grind (arith, nat_tests)))
  ]
