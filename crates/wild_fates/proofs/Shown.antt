-- Lists of places as they are kept.
use Rattle.std.proofs.Common.{◌≡◌, ◌∙◌, ℕ, List, length, Some, refl}
use Rattle.std.proofs.lemmas.List.{length-map}
use Rattle.std.proofs.lemmas.Option.{slice_get-map}
use Rattle.std.specs.Prelude.{slice_get}
use Rattle.wild_fates.specs.declared.places.Place.{Place}
use Rattle.wild_fates.specs.Shown.{shown_place, shown_places}

pub shown_length : (xs : List Place) → length (shown_places xs) ≡ length xs
shown_length xs = length-map xs shown_place

-- the place at an index
pub shown_at : (ps : List Place) (i : ℕ) (p : Place) → slice_get ps i ≡ Some p → slice_get (shown_places ps) i ≡ Some (shown_place p)
shown_at ps i p h = slice_get-map shown_place ps i ∙ rw h refl
