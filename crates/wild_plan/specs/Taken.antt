-- The sections that have ended, by which those are found that share an address.
use Rattle.std.specs.Prelude.{◌≡◌, ◌⊎◌, ⊤, ℕ, ◌<◌, ◌≤◌, ◌==◌, ◌&&◌, not, nat_lt, Bool, false, Option, Some, None, if◌then◌else◌}
use Rattle.std.specs.BTreeMap.{get}
use Rattle.std.specs.Ordering.{nat_cmp}
use Rattle.wild_value_spec.specs.Known.{Known, Start, End, number_at}
use Rattle.wild_walk_laws.specs.Holding.{IsKnown}
use Rattle.wild_plan_spec.specs.Places.{Place, Close}
use Rattle.wild_plan.specs.declared.taken.Taken.{Taken}

-- the number of a section by its end
abbrev pub Ends : Type 0
Ends = ℕ → Option ℕ

-- those that are kept
abbrev pub ends_of : Taken → Ends
ends_of t end = get nat_cmp t.by_end end

-- ---- lookups

-- no section ends behind the address
abbrev pub NoneEnds : Ends → ℕ → Type 0
NoneEnds ends address = (end : ℕ) → address < end → ends end ≡ None

-- section s is the one that ends first behind the address
pub record EndsFirst (ends : Ends) (address s : ℕ) : Type 0 where
  pub end : ℕ
  pub behind : address < end
  pub there : ends end ≡ Some s
  pub first : (u other : ℕ) → address < other → ends other ≡ Some u → end ≤ other

module _ (floating : ℕ → Bool) (known : Known) where
  -- ---- changes

  -- with section s, unless it floats or holds no address
  abbrev pub with_end : ℕ → Ends → Ends
  with_end s ends end =
      if not (floating s) && (nat_lt (number_at known (Start s)) (number_at known (End s)) && number_at known (End s) == end) then Some s else ends end

  -- after a place, which may end a section
  abbrev pub noted : Place → Ends → Ends
  noted (Close s rest) ends = with_end s ends
  noted p ends = ends

  -- ---- what is kept

  -- section s does not float, starts and ends there, and holds an address
  pub record Spans (s start end : ℕ) : Type 0 where
    pub counted : floating s ≡ false
    pub starts : known (Start s) ≡ Some start
    pub ends : known (End s) ≡ Some end
    pub filled : start < end

  -- section s has ended
  pub record HasEnded (s : ℕ) : Type 0 where
    pub starts : IsKnown known (Start s)
    pub ends : IsKnown known (End s)

  -- the first n sections have ended, and of two that hold addresses one ends no higher than the other starts
  pub record AreApart (n : ℕ) : Type 0 where
    pub each : (s : ℕ) → s < n → HasEnded s
    pub apart : (s u start end other_start other_end : ℕ) → s < n → u < n → Spans s start end → Spans u other_start other_end
        → (s ≡ u) ⊎ (end ≤ other_start) ⊎ (other_end ≤ start)

  -- these are the ends of those that hold addresses
  pub record AreTaken (n : ℕ) (ends : Ends) : Type 0 where
    pub below : AreApart n
    pub listed : (s start end : ℕ) → s < n → Spans s start end → ends end ≡ Some s
    pub only : (s end : ℕ) → ends end ≡ Some s → (s < n) × (start : ℕ) × Spans s start end

  -- where a place ends a section, these are the ends of those before it
  abbrev pub AreTakenBefore : Place → Ends → Type 0
  AreTakenBefore (Close s rest) ends = AreTaken s ends
  AreTakenBefore p ends = ⊤
