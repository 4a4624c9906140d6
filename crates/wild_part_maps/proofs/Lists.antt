-- What the iterators of a map begin with.
use Rattle.std.proofs.Common.{◌≡◌, ℕ, suc, ◌+◌, ◌-◌, ◌<◌, ◌^◌, List, [], ◌∷◌, ◌++◌, length, drop, None, refl, sym, ap, arith, min}
use Rattle.std.specs.Prelude.{slice_range, if◌then◌else◌}
use Rattle.std.proofs.lemmas.List.{length-append, length-drop, length-map, length-take}
use Rattle.std.specs.Map.{values_of}
use Rattle.std.specs.List.{filter}
use Rattle.wild_ids.specs.Entries.{numbered}
use Rattle.wild_part_maps.specs.Parts.{PartValues, RisesFrom, entries, entries_in, is_between, kept, value_in}
use Rattle.wild_part_maps.proofs.Between.{filter-append, dense_between, between-from}
use Rattle.wild_part_maps.proofs.Rising.{rises_numbered, rises_beyond, value_in_all, value_in_filter}

module _ {T : Type 0} where
  pub all_rise : (xs : List T) (es : List (ℕ × T)) → RisesFrom (length xs) es → RisesFrom 0 (numbered 0 xs ++ es)
  all_rise xs es rising = let e : length xs ≡ 0 + length xs = omega arith in rises_numbered 0 xs es (rw e at rising)

  module _ (m : PartValues T) (start end : ℕ) where
    pub value_between : numbered (min start (length m.dense)) (slice_range m.dense (min start (length m.dense)) (min end (length m.dense))) ++ filter (λ e. is_between start end e.0) m.sparse ≡ entries_in m start end
    value_between = rw (← dense_between start end m.dense) (sym (filter-append (λ e. is_between start end e.0) (numbered 0 m.dense) m.sparse))

    pub between_rise : RisesFrom (length m.dense) m.sparse → RisesFrom start (entries_in m start end)
    between_rise rising = rises_beyond (is_between start end) start 0 (entries m) (between-from start end) (all_rise m.dense m.sparse rising)

    pub between_listed : (q : ℕ) → value_in (entries_in m start end) q ≡ (if is_between start end q then kept m q else None)
    between_listed q = rw (← value_in_all m.dense m.sparse q) (value_in_filter (is_between start end) (entries m) q)

  length-numbered : (first : ℕ) (xs : List T) → length (numbered first xs) ≡ length xs
  length-numbered first [] = refl
  length-numbered first (x ∷ xs) = ap suc (length-numbered (first + 1) xs)

  -- so many can be counted
  pub count_fits : (first : ℕ) (xs : List T) (es : List (ℕ × T)) → length xs < 2 ^ 32 → length es < 2 ^ 63 → length (numbered first xs ++ es) < 2 ^ 64
  count_fits first xs es few some = omega (arith, length-append (numbered first xs) es, length-numbered first xs)

  pub few_between : (start end : ℕ) (xs : List T) → length xs < 2 ^ 32 → length (slice_range xs start end) < 2 ^ 32
  few_between start end xs few = omega (arith, length-take (end - start) (drop start xs), length-drop start xs)

  pub values_fit : (es : List (ℕ × T)) → length es < 2 ^ 64 → length (values_of es) < 2 ^ 64
  values_fit es fits = rw (length-map es (λ e. e.1)) fits
