-- What a definition is worth is the same at each statement and wherever its height fits.
use Rattle.std.proofs.Common.{◌≡◌, ℕ, ◌<◌, ◌≤◌, ◌⊎◌, Bool, true, false, cond, List, ◌∷◌, Some, Result, Ok, Err, refl, inl, inr, ap, sym, arith, ◌∙◌}
use Rattle.std.proofs.lemmas.Bool.{cases_lt}
use Rattle.wild_names.specs.declared.fault.Fault.{Fault}
use Rattle.wild_names.specs.declared.fault.Fault.TheVariants.{SymbolCycle}
use Rattle.wild_value_spec.specs.declared.value.Point.{Point}
use Rattle.wild_value_spec.specs.declared.value.Value.{Value}
use Rattle.wild_value_spec.specs.declared.value.Whole.{Whole}
use Rattle.wild_value_spec.specs.Answer.{◌>>=◌}
use Rattle.wild_value_spec.specs.Known.{Known}
use Rattle.wild_value_spec.specs.Scope.{Name, Definition, OfRow, OfScript, Scope, home}
use Rattle.wild_value_spec.specs.Value as v
use Rattle.wild_memo_laws.specs.Exact.{fitted, Fits}
use Rattle.wild_memo_laws.specs.Sound.{whole}
use Rattle.wild_memo_laws.proofs.Exact.{Same, same, same_then, row, full, fitted_within, fitted_above, heights_are_exact}

-- the same, if there is an answer
pub known_same : {A : Type 0} (r s : Result A Fault) (a : A) → Same r s → r ≡ Ok a → s ≡ Ok a
unfolding Same
known_same (Ok b) s a h e = h ∙ e
known_same (Err f) s a h e = absurd (cc)

bind_if : {A B : Type 0} (b : Bool) (f : Fault) (r : Result A Fault) (g : A → Result B Fault) → (cond b (Err f) r >>= g) ≡ cond b (Err f) (r >>= g)
bind_if true f r g = refl
bind_if false f r g = refl

height_by : (r : Result ℕ Fault) (h : ℕ) (w : Whole) → (r >>= (λ n. Ok (record { number = n; height = h }))) ≡ Ok w → w.height ≡ h
height_by (Ok n) h w e = cc
height_by (Err f) h w e = absurd (cc)

-- what fits so many levels
abbrev Fitted : ℕ → ℕ → Whole → Result Whole Fault
Fitted statement levels w = fitted statement levels w.height w

module _ (scope : Scope) (known : Known) where
  value_height : (statement : ℕ) (q : Point) (x : Value) (w : Whole) → v.value_whole scope statement known q x ≡ Ok w → w.height ≡ x.height
  unfolding v.value_whole
  value_height statement q x w e = height_by (v.full_number scope statement known q x) x.height w e

  row_height_by : (r : Result ℕ Fault) (f : ℕ → Result ℕ Fault) (w : Whole) → (r >>= (λ start. f start >>= (λ n. Ok (record { number = n; height = 0 })))) ≡ Ok w → w.height ≡ 0
  row_height_by (Ok n) f w e = height_by (f n) 0 w e
  row_height_by (Err g) f w e = absurd (cc)

  row_height : (statement : ℕ) (name : Name) (row offset : ℕ) (w : Whole) → v.row_whole scope statement known name row offset ≡ Ok w → w.height ≡ 0
  unfolding v.row_whole
  row_height statement name row offset w e = row_height_by (v.row_of scope statement known name row) (λ start. v.sum_of start offset) w e

  module _ (one other : ℕ) where
    value_same : (q : Point) (x : Value) → Same (v.value_whole scope one known q x) (v.value_whole scope other known q x)
    unfolding v.value_whole
    value_same q x = same_then _ _ _ _ (full scope known one other q x) (λ n. same _)

    row_same : (name : Name) (r offset : ℕ) → Same (v.row_whole scope one known name r offset) (v.row_whole scope other known name r offset)
    unfolding v.row_whole
    row_same name r offset = same_then _ _ _ _ (row scope known one other name r) (λ n. same _)

    refit_within : (levels : ℕ) (q : Point) (x : Value) (w : Whole) (s : Result Value Fault) → s ≡ fitted other levels x.height x → v.value_whole scope one known q x ≡ Ok w → x.height ≤ levels → (s >>= v.value_whole scope other known q) ≡ Fitted other levels w
    refit_within levels q x w s e k h =
        let l : w.height ≡ x.height = value_height one q x w k in
        ap (λ (t : Result Value Fault). t >>= v.value_whole scope other known q) (e ∙ fitted_within other levels x.height x h) ∙ (known_same _ _ w (value_same q x) k ∙ sym (fitted_within other levels w.height w (omega arith)))

    refit_above : (levels : ℕ) (q : Point) (x : Value) (w : Whole) (s : Result Value Fault) → s ≡ fitted other levels x.height x → v.value_whole scope one known q x ≡ Ok w → levels < x.height → (s >>= v.value_whole scope other known q) ≡ Fitted other levels w
    refit_above levels q x w s e k h =
        let l : w.height ≡ x.height = value_height one q x w k in
        ap (λ (t : Result Value Fault). t >>= v.value_whole scope other known q) (e ∙ fitted_above other levels x.height x h) ∙ sym (fitted_above other levels w.height w (omega arith))

    refit_either : (levels : ℕ) (q : Point) (x : Value) (w : Whole) (s : Result Value Fault) → s ≡ fitted other levels x.height x → v.value_whole scope one known q x ≡ Ok w → (levels < x.height) ⊎ (x.height ≤ levels) → (s >>= v.value_whole scope other known q) ≡ Fitted other levels w
    refit_either levels q x w s e k (inl h) = refit_above levels q x w s e k h
    refit_either levels q x w s e k (inr h) = refit_within levels q x w s e k h

    refit_by : (levels : ℕ) (q : Point) (w : Whole) (r s : Result Value Fault) → Fits other levels r s → (r >>= v.value_whole scope one known q) ≡ Ok w → (s >>= v.value_whole scope other known q) ≡ Fitted other levels w
    refit_by levels q w (Ok x) s f k = refit_either levels q x w s f.1 k (cases_lt levels x.height)
    refit_by levels q w (Err g) s f k = absurd (cc)

    -- what a definition is worth at one statement with so many levels, at another statement with others
    pub refit : (from levels : ℕ) (path : List Name) (name : Name) (d : Definition) (w : Whole) → whole scope one known from path name d ≡ Ok w → whole scope other known levels path name d ≡ Fitted other levels w
    refit from levels path name (OfRow r offset s) w k =
        let l : w.height ≡ 0 = row_height one name r offset w k in
        known_same _ _ w (row_same name r offset) k ∙ sym (fitted_within other levels w.height w (omega arith))
    refit from levels path name (OfScript e q) w k = refit_by levels q w _ _ (heights_are_exact scope known one other from levels path e q) k

  height_fits_by : (statement levels : ℕ) (w : Whole) → Fitted statement levels w ≡ Ok w → (levels < w.height) ⊎ (w.height ≤ levels) → w.height ≤ levels
  height_fits_by statement levels w e (inl h) = absurd (cc (fitted_above statement levels w.height w h, e))
  height_fits_by statement levels w e (inr h) = h

  -- its height fits
  pub height_fits : (statement levels : ℕ) (path : List Name) (name : Name) (d : Definition) (w : Whole) → whole scope statement known levels path name d ≡ Ok w → w.height ≤ levels
  height_fits statement levels path name d w k = height_fits_by statement levels w (sym (refit statement statement levels levels path name d w k) ∙ k) (cases_lt levels w.height)

  -- with more levels it is the same
  pub refit_more : (one other from levels : ℕ) (path : List Name) (name : Name) (d : Definition) (w : Whole) → from ≤ levels → whole scope one known from path name d ≡ Ok w → whole scope other known levels path name d ≡ Ok w
  refit_more one other from levels path name d w h k =
      let l : w.height ≤ from = height_fits one from path name d w k in
      refit one other from levels path name d w k ∙ fitted_within other levels w.height w (omega arith)

  -- ---- how a symbol is read

  -- what it is worth, unless its name is on the path
  abbrev pub plain_whole : ℕ → ℕ → Name → Definition → List Name → Result Whole Fault
  plain_whole statement levels name d path = cond (v.is_on name path) (Err (SymbolCycle name)) (whole scope statement known levels (name ∷ path) name d)

  along_by : (statement levels : ℕ) (path along : List Name) (name : Name) (d : Definition) → v.whole scope statement known (v.value scope statement known levels) path along name d ≡ whole scope statement known levels along name d
  along_by statement levels path along name (OfRow r offset s) = refl
  along_by statement levels path along name (OfScript e q) = refl

  pub symbol_in_whole : (statement levels : ℕ) (path : List Name) (name : Name) (d : Definition) (p : Point) → v.symbol_in scope statement known (v.value scope statement known levels) path name (Some d) p ≡ (plain_whole statement levels name d path >>= v.symbol_value scope statement known name (home d) p)
  unfolding v.symbol_by
  symbol_in_whole statement levels path name d p =
      ap (λ (r : Result Whole Fault). cond (v.is_on name path) (Err (SymbolCycle name)) (r >>= v.symbol_value scope statement known name (home d) p)) (along_by statement levels path (name ∷ path) name d)
      ∙ sym (bind_if (v.is_on name path) (SymbolCycle name) (whole scope statement known levels (name ∷ path) name d) (v.symbol_value scope statement known name (home d) p))
