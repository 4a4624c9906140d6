-- The offset of a symbol is not above the size of its row, so the address of the symbol is below 2 ^ 64.
use Rattle.std.proofs.Common.{◌≡◌, ℕ, zero, suc, ◌+◌, ◌^◌, ◌<◌, ◌≤◌, Bool, true, false, not, cond, List, [], ◌∷◌, Option, Some, None, refl, sym, ◌∙◌, ap, inl, inr, arith}
use Rattle.std.specs.Prelude.{slice_get}
use Rattle.std.specs.List.{find}
use Rattle.std.specs.Option.{option_map}
use Rattle.std.proofs.lemmas.Bool.{leb-true}
use Rattle.wild_value_spec.specs.Known.{Address}
use Rattle.wild_plan_spec.specs.declared.row.InputRow.{InputRow}
use Rattle.wild_plan_spec.specs.declared.row.SymbolRow.{SymbolRow}
use Rattle.wild_plan_spec.specs.Case.{Case}
use Rattle.wild_plan_spec.specs.Checks.{Check, row_checks, holds_offset, symbol_checks, table_checks, checks, failing}
use Rattle.wild_plan_spec.specs.Fit.{IsLaid}
use Rattle.wild_plan_spec.specs.Steps.{State}
use Rattle.wild_walk_laws.proofs.Having.{Has, has_before, has_after}
use Rattle.wild_walk_laws.proofs.Standing.{rows_stand_in_place}

-- ---- checks

-- where none fails, the first check holds and none of the others fails
none_by : (b : Bool) (c : Check) (o : Option Check) → option_map (λ (d : Check). d.fault) (cond (not b) (Some c) o) ≡ None → (b ≡ true) × (option_map (λ (d : Check). d.fault) o ≡ None)
none_by true c o e = (refl, e)
none_by false c o e = absurd (cc)

-- and so does one that says this
pub none_fails : (cs : List Check) (b : Bool) → failing cs ≡ None → Has (λ (c : Check). c.holds ≡ b) cs → b ≡ true
none_fails [] b e h = absurd h
none_fails (c ∷ cs) b e (inl same) = sym same ∙ (none_by c.holds c (find (λ (d : Check). not d.holds) cs) e).0
none_fails (c ∷ cs) b e (inr h) = none_fails cs b (none_by c.holds c (find (λ (d : Check). not d.holds) cs) e).1 h

-- ---- symbols

symbol_checked : (rows : List InputRow) (n : ℕ) (ss : List SymbolRow) (i : ℕ) (s : SymbolRow) → slice_get ss i ≡ Some s → Has (λ (c : Check). c.holds ≡ holds_offset (slice_get rows s.row) s.offset) (symbol_checks rows n ss)
symbol_checked rows n [] i s e = absurd (cc)
symbol_checked rows n (first ∷ ss) zero s e = let same : first ≡ s = cc in inl (ap (λ (w : SymbolRow). holds_offset (slice_get rows w.row) w.offset) same)
symbol_checked rows n (first ∷ ss) (suc i) s e = inr (symbol_checked rows (n + 1) ss i s e)

within_row : (o : Option InputRow) (offset : ℕ) → holds_offset o offset ≡ true → (row : InputRow) × (o ≡ Some row) × (offset ≤ row.size)
within_row None offset e = absurd (cc)
within_row (Some row) offset e = (row, refl, leb-true offset row.size e)

pub symbols_stand_in_rows : (c : Case) (state : State) → IsLaid c state
    → (i : ℕ) (s : SymbolRow) → slice_get c.inputs.symbols i ≡ Some s → (a : ℕ) → state.known (Address s.row) ≡ Some a → a + s.offset < 2 ^ 64
symbols_stand_in_rows c state f i s there a known =
    let checked = has_before _ (table_checks c.inputs) _ (has_after _ (row_checks 0 c.inputs.rows) (symbol_checks c.inputs.rows 0 c.inputs.symbols) (symbol_checked c.inputs.rows 0 c.inputs.symbols i s there)) in
    let found = within_row (slice_get c.inputs.rows s.row) s.offset (none_fails (checks c) _ f.sound checked) in
    let stands = rows_stand_in_place c state f s.row found.0 a found.1 known in
    let small = found.2 in
    omega arith
