-- Where all places are laid out, no address of a symbol of the table wraps.
use Rattle.std.proofs.Common.{◌≡◌, ◌∙◌, ℕ, suc, ◌+◌, ◌^◌, ◌<◌, List, [], ◌∷◌, Option, Some, None, refl, ap, arith}
use Rattle.std.specs.Prelude.{slice_get}
use Rattle.std.proofs.Math.Nat.{mod-eq_of_lt}
use Rattle.wild_value_spec.specs.Known.{Address, number_at}
use Rattle.wild_plan_spec.specs.declared.chunk.Chunk.{Chunk}
use Rattle.wild_plan_spec.specs.declared.chunk.Kept.{Kept}
use Rattle.wild_plan_spec.specs.declared.row.SymbolRow.{SymbolRow}
use Rattle.wild_plan_spec.specs.Case.{Case}
use Rattle.wild_plan_spec.specs.Definitions.{row_chunk, symbol_chunk}
use Rattle.wild_plan_spec.specs.Fates.{fates_of}
use Rattle.wild_plan_spec.specs.Fit.{IsLaid}
use Rattle.wild_plan_spec.specs.Steps.{State}
use Rattle.wild_plan_spec.specs.Symbols.{table_symbol, table_symbols}
use Rattle.wild_walk_laws.proofs.Kept.{kept_rows_have_addresses}
use Rattle.wild_walk_laws.proofs.Offsets.{symbols_stand_in_rows}
use Rattle.wild_plan.specs.Sums.{wrapped_symbol, wrapped_symbols}

-- where a row has a chunk, it is kept
kept_by : (o : Option (Option Kept)) (q : Chunk) → row_chunk o ≡ Some q → (k : Kept) × (o ≡ Some (Some k))
kept_by None q e = absurd (cc)
kept_by (Some None) q e = absurd (cc)
kept_by (Some (Some k)) q e = (k, refl)

module _ (c : Case) (state : State) (f : IsLaid c state) where
  abbrev fates : List (Option Kept)
  fates = fates_of c.commands c.inputs

  sum_fits : (i : ℕ) (s : SymbolRow) (q : Chunk) → slice_get c.inputs.symbols i ≡ Some s → symbol_chunk fates s ≡ Some q → number_at state.known (Address s.row) + s.offset < 2 ^ 64
  sum_fits i s q there chunk =
      let kept = kept_by (slice_get fates s.row) q chunk in
      let known = kept_rows_have_addresses c state f s.row kept.0 kept.1 in
      rw known.1 (symbols_stand_in_rows c state f i s there known.0 known.1)

  one_same : (i : ℕ) (s : SymbolRow) (o : Option Chunk) → slice_get c.inputs.symbols i ≡ Some s → symbol_chunk fates s ≡ o → wrapped_symbol state.known s o ≡ table_symbol state.known s o
  one_same i s None there chunk = refl
  one_same i s (Some q) there chunk = rw (mod-eq_of_lt (sum_fits i s q there chunk)) refl

  -- the first symbol of the list has the number n
  sums_from : (n : ℕ) (ss : List SymbolRow) → ((i : ℕ) → slice_get c.inputs.symbols (n + i) ≡ slice_get ss i) → wrapped_symbols state.known fates ss ≡ table_symbols state.known fates ss
  sums_from n [] same = refl
  sums_from n (s ∷ ss) same =
      let z : n ≡ n + 0 = omega arith in
      rw (
        one_same n s (symbol_chunk fates s) (ap (slice_get c.inputs.symbols) z ∙ same 0) refl,
        sums_from (n + 1) ss (λ i. let y : n + 1 + i ≡ n + suc i = omega arith in rw y (same (suc i))),
      ) refl

  pub sums_same : wrapped_symbols state.known fates c.inputs.symbols ≡ table_symbols state.known fates c.inputs.symbols
  sums_same = sums_from 0 c.inputs.symbols (λ i. let z : 0 + i ≡ i = omega arith in rw z refl)
