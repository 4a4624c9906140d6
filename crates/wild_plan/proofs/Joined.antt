-- Traits of lists of rows.
use Rattle.std.proofs.Common.{◌≡◌, ◌∙◌, ℕ, Bool, true, false, ◌||◌, not, List, [], ◌∷◌, max, cond, refl, sym, arith, Option}
use Rattle.std.specs.List.{list_any}
use Rattle.wild_names.specs.InputFlags.{is_alloc, is_write, is_exec, is_nobits, is_tls}
use Rattle.wild_plan_spec.specs.declared.chunk.Kept.{Kept}
use Rattle.wild_plan_spec.specs.declared.row.InputRow.{InputRow}
use Rattle.wild_plan_spec.specs.Chunks.{alignment_of, is_in, section_rows, largest_alignment}
use Rattle.wild_plan_spec.specs.Facts.{has_rows}
use Rattle.wild_plan.specs.declared.traits.Traits.{Traits}
use Rattle.wild_plan.specs.Traits.{traits_of, joined}

any_three : (a b c : Bool) → ((a || (b || false)) || c) ≡ (a || (b || c))
any_three true b c = refl
any_three false true c = refl
any_three false false c = refl

any_row : (a b : Bool) → ((a || true) || b) ≡ (a || true)
any_row true b = refl
any_row false b = refl

-- a test of a row and of those before and after it
any_more : (a : Bool) (test : InputRow → Bool) (row : InputRow) (rows : List InputRow) → ((a || list_any test (row ∷ [])) || list_any test rows) ≡ (a || list_any test (row ∷ rows))
any_more a test row rows = any_three a (test row) (list_any test rows)

-- one more row
joined_more : (t : Traits) (row : InputRow) (rows : List InputRow) → joined (joined t (traits_of (row ∷ []))) (traits_of rows) ≡ joined t (traits_of (row ∷ rows))
joined_more t row rows =
    let a : max (max t.alignment (max (alignment_of row) 0)) (largest_alignment rows) ≡ max t.alignment (max (alignment_of row) (largest_alignment rows)) = omega arith in
    rw (
      a,
      any_row t.rows (has_rows rows),
      any_more t.alloc (λ row. is_alloc row.flags) row rows,
      any_more t.write (λ row. is_write row.flags) row rows,
      any_more t.exec (λ row. is_exec row.flags) row rows,
      any_more t.bits (λ row. not (is_nobits row.flags)) row rows,
      any_more t.tls (λ row. is_tls row.flags) row rows,
    ) refl

joined_none : (rows : List InputRow) → joined (traits_of []) (traits_of rows) ≡ traits_of rows
joined_none rows =
    let a : max 0 (largest_alignment rows) ≡ largest_alignment rows = omega arith in
    rw a refl

or_false : (b : Bool) → (b || false) ≡ b
or_false true = refl
or_false false = refl

none_left : (t : Traits) → joined t (traits_of []) ≡ t
none_left t =
    let a : max t.alignment 0 ≡ t.alignment = omega arith in
    rw (a, or_false t.rows, or_false t.alloc, or_false t.write, or_false t.exec, or_false t.bits, or_false t.tls) refl

-- the traits known, with those of the rows that are left, are all
abbrev pub Noted : (ℕ → Traits) → List InputRow → List (Option Kept) → (ℕ → Traits) → Type 0
Noted known rows fates all = (s : ℕ) → joined (known s) (traits_of (section_rows s rows fates)) ≡ all s

noted_by : (b : Bool) (t : Traits) (row : InputRow) (rows : List InputRow) → joined (cond b (joined t (traits_of (row ∷ []))) t) (traits_of rows) ≡ joined t (traits_of (cond b (row ∷ rows) rows))
noted_by true t row rows = joined_more t row rows
noted_by false t row rows = refl

pub noted_none : (known : ℕ → Traits) (rows : List InputRow) (fates : List (Option Kept)) → ((s : ℕ) → known s ≡ traits_of []) → Noted known rows fates (λ s. traits_of (section_rows s rows fates))
noted_none known rows fates none s = rw (none s) (joined_none (section_rows s rows fates))

pub noted_more : (known next : ℕ → Traits) (row : InputRow) (rows : List InputRow) (q : Option Kept) (fates : List (Option Kept)) (all : ℕ → Traits) → Noted known (row ∷ rows) (q ∷ fates) all
    → ((s : ℕ) → next s ≡ cond (is_in s q) (joined (known s) (traits_of (row ∷ []))) (known s)) → Noted next rows fates all
noted_more known next row rows q fates all old step s = rw (step s) (noted_by (is_in s q) (known s) row (section_rows s rows fates)) ∙ old s

pub noted_all : (known : ℕ → Traits) (fates : List (Option Kept)) (all : ℕ → Traits) → Noted known [] fates all → (s : ℕ) → known s ≡ all s
noted_all known fates all done s = sym (none_left (known s)) ∙ done s
