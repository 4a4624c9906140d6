-- The definitions of entries, by their numbers.
use Rattle.std.proofs.Common.{◌≡◌, ℕ, zero, suc, ◌<◌, ◌≤◌, List, [], ◌∷◌, Some, None, length, get_or, ap, refl}
use Rattle.std.specs.Prelude.{slice_get}
use Rattle.std.specs.Option.{option_map}
use Rattle.std.proofs.lemmas.Option.{slice_get_past, slice_get_read}
use Rattle.wild_eval.specs.declared.definition.SymbolEntry.{SymbolEntry}
use Rattle.wild_eval.specs.Scope.{shown_definition, shown_definitions}

-- the definition of a number is that of the entry of the number
shown_at : (es : List SymbolEntry) (i : ℕ) → slice_get (shown_definitions es) i ≡ option_map (λ e. shown_definition e.definition) (slice_get es i)
shown_at [] i = refl
shown_at (e ∷ es) zero = refl
shown_at (e ∷ es) (suc i) = shown_at es i

-- the same of a number within the list
pub shown_within : (es : List SymbolEntry) (i : ℕ) (e : SymbolEntry) → i < length es → e ≡ get_or es i e → slice_get (shown_definitions es) i ≡ Some (shown_definition e.definition)
shown_within es i e low same = rw (shown_at es i, slice_get_read es _ i e refl low same) refl

-- no number past its end has one
pub shown_past : (es : List SymbolEntry) (i : ℕ) → length es ≤ i → slice_get (shown_definitions es) i ≡ None
shown_past es i past = rw (shown_at es i, slice_get_past es i past) refl

-- each entry has a definition
pub shown_length : (es : List SymbolEntry) → length (shown_definitions es) ≡ length es
shown_length [] = refl
shown_length (e ∷ es) = ap suc (shown_length es)
