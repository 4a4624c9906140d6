-- Sections that share an address. A floating section shares none.
use Rattle.std.specs.Prelude.{ℕ, zero, suc, ◌&&◌, not, Bool, nat_lt, if◌then◌else◌, Option, Some, None}
use Rattle.wild_value_spec.specs.Known.{Known, Start, End, number_at}

-- whether an earlier section holds one of the addresses from start up to end
unfoldable pub shares : (ℕ → Bool) → Known → ℕ → ℕ → ℕ → Bool
shares floating known start end s =
    not (floating s) && (nat_lt (number_at known (Start s)) (number_at known (End s)) && (nat_lt start end
    && (nat_lt start (number_at known (End s)) && nat_lt (number_at known (Start s)) end)))

-- of two sections the one that starts lower, or the first of them
abbrev pub lower_section : Known → Option ℕ → Option ℕ → Option ℕ
lower_section known None found = found
lower_section known (Some s) None = Some s
lower_section known (Some s) (Some t) = if nat_lt (number_at known (Start t)) (number_at known (Start s)) then Some t else Some s

-- of the sections with numbers below n that share an address with those from start up to end, the one that starts lowest
abbrev pub lowest_sharing : (ℕ → Bool) → Known → ℕ → ℕ → ℕ → Option ℕ
lowest_sharing floating known start end zero = None
lowest_sharing floating known start end (suc n) =
    lower_section known (lowest_sharing floating known start end n) (if shares floating known start end n then Some n else None)
