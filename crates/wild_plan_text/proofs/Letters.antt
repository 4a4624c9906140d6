-- The letters of flags, one after the other.
use Rattle.std.proofs.Common.{◌≡◌, ℕ, List, [], ◌∷◌, ◌++◌, flat_map, refl}
use Rattle.std.proofs.lemmas.List.{append-nil, append_assoc}
use Rattle.wild_names.specs.InputFlags.{is_alloc, is_write, is_exec, is_nobits, is_tls}
use Rattle.wild_names.specs.declared.input_flags.InputFlags.{InputFlags}
use Rattle.wild_plan_spec.specs.Text.{letter, letters_of}
use Rattle.wild_plan_text.specs.Letters.{letter_in}

five_lists : (a b c d e : List ℕ) → a ++ (b ++ (c ++ (d ++ (e ++ [])))) ≡ a ++ b ++ c ++ d ++ e
five_lists a b c d e = rw (append-nil {A = ℕ}, append_assoc {A = ℕ}, append_assoc {A = ℕ}, append_assoc {A = ℕ}) refl

-- those of AWXBT
pub letters_are : (flags : InputFlags) → flat_map (letter_in flags) (65 ∷ 87 ∷ 88 ∷ 66 ∷ 84 ∷ []) ≡ letters_of flags
letters_are flags = five_lists (letter (is_alloc flags) 65) (letter (is_write flags) 87) (letter (is_exec flags) 88) (letter (is_nobits flags) 66) (letter (is_tls flags) 84)
