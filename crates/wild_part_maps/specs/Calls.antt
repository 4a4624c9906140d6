-- Calls of a closure at the entries of a map, one after another.
use Rattle.std.specs.Prelude.{◌≡◌, ℕ, List, [], ◌∷◌, Some}
use Rattle.std.specs.Borrow.{Bor, MutBor}
use Rattle.wild_part_maps.specs.Parts.{PartValues, kept}

module _ {F T U : Type 0} (step : F → ℕ → Bor T → U → F → Type 0) (answers : PartValues U) where
  -- the closure p, called at a part and a `&` to its value, answers what is kept for the part, and is q then
  pub record MapsAt (p : F) (e : ℕ × T) (q : F) : Type 0 where
    pub shown : Bor T
    pub answer : U
    pub shows : shown.now ≡ e.1
    pub answers_at : kept answers e.0 ≡ Some answer
    pub called : step p e.0 shown answer q

  -- calls at each entry lead from p to last
  abbrev pub MapsEntries : F → List (ℕ × T) → F → Type 0
  MapsEntries p [] last = p ≡ last
  MapsEntries p (e ∷ es) last = (q : F) × MapsAt p e q × MapsEntries q es last

module _ {F T U V : Type 0} (step : F → MutBor T → Bor U → V → MutBor T → F → Type 0) (before : ℕ → T → Type 0) (after : PartValues T) (answers : PartValues V) where
  -- the closure p, called at a `&mut` to a part's value and a `&` to another, leaves there what is kept for the part after it, answers what is kept for the part among the answers, and is q then
  pub record ChangesAt (p : F) (e : ℕ × U) (q : F) : Type 0 where
    pub lent : MutBor T
    pub left : MutBor T
    pub shown : Bor U
    pub answer : V
    pub starts : before e.0 lent.now
    pub leaves : kept after e.0 ≡ Some left.now
    pub shows : shown.now ≡ e.1
    pub answers_at : kept answers e.0 ≡ Some answer
    pub called : step p lent shown answer left q

  -- calls at each entry lead from p to last
  abbrev pub ChangesEntries : F → List (ℕ × U) → F → Type 0
  ChangesEntries p [] last = p ≡ last
  ChangesEntries p (e ∷ es) last = (q : F) × ChangesAt p e q × ChangesEntries q es last
