-- A sort word directly in the brackets of another.
use Rattle.std.proofs.Common.{◌≡◌, ℕ, ◌≤◌, true, false, length, refl, sym, subst, ap}
use Rattle.std.specs.Prelude.{Err}
use Rattle.wild_reading.specs.Position.{Bytes, Text, Position}
use Rattle.wild_reading.specs.Lex.{byte, gap, sort_bracket}
use Rattle.wild_reading.specs.Only.{IsOnly, Refuses, Answers, IsNestedSort}
use Rattle.wild_reading.specs.declared.stop.Stop.{Stop}
use Rattle.wild_reading.specs.declared.stop.Stop.TheVariants.{NestedSort}
use Rattle.wild_reading.proofs.Readers.{bind_only, bind_refuses, bind_then_refuses, ahead_only, answers_ok, answers_refused, answers_err}
use Rattle.wild_patterns.specs.Pattern.{begins_sort, has_no_sort, no_sort, sort_open}

-- ---- what has no depth is read at any limit

gap_at : (b : Bytes) (limit other i : ℕ) (j : ℕ) → gap b limit i tt j → gap b other i tt j
unfolding gap
gap_at b limit other i j h = record { found = h.found }

bracket_at : (b : Bytes) (limit other i : ℕ) (j : ℕ) → sort_bracket b limit i tt j → sort_bracket b other i tt j
unfolding sort_bracket byte
bracket_at b limit other i j h = record {
  value = tt;
  middle = h.middle;
  first = record { found = h.first.found };
  second = record {
    value = tt;
    middle = h.second.middle;
    first = gap_at b limit other h.middle h.second.middle h.second.first;
    second = record { found = h.second.second.found };
  };
}

-- ---- a sort word and its bracket

module _ {s m : Position} {x : Unit {0}} (p : IsOnly sort_bracket s x m) where
  same_bytes : m.text.bytes ≡ s.text.bytes
  same_bytes = ap (λ (n : Text). n.bytes) p.text

  nested : m.at ≤ length m.text.bytes → begins_sort m.text.bytes m.at ≡ true → IsNestedSort m.text.bytes m.at
  unfolding begins_sort
  nested w t = record {
    within = w;
    sorts = t;
    word = s.at;
    bracket = subst (λ (b : Bytes). sort_bracket b 0 s.at tt m.at) (sym same_bytes) (bracket_at s.text.bytes s.left 0 s.at m.at p.reads);
  }

  followed : m.at ≤ length m.text.bytes → begins_sort m.text.bytes m.at ≡ true → Refuses no_sort m (NestedSort m.at)
  unfolding no_sort has_no_sort
  followed w t = record { none = λ e y j h. cc (t, h.holds); never = λ e limit y j h. cc (t, h.holds); cause = nested w t }

  pub nested_answers : begins_sort m.text.bytes m.at ≡ true → {position : ℕ} → position ≡ m.at → position ≤ length m.text.bytes → {r : Position} → Answers sort_open s r (Err (NestedSort position))
  unfolding sort_open
  nested_answers t e w = rw e (answers_refused (bind_then_refuses p (followed (subst (λ (n : ℕ). n ≤ length m.text.bytes) e w) t)))

  pub sort_opens : begins_sort m.text.bytes m.at ≡ false → IsOnly sort_open s tt m
  unfolding sort_open no_sort has_no_sort
  sort_opens f = bind_only p (ahead_only (rw f refl))

pub bracket_refuses : {s : Position} {stop : Stop} → Refuses sort_bracket s stop → Refuses sort_open s stop
unfolding sort_open
bracket_refuses p = bind_refuses p

pub ruleset opening = (sort_opens, nested_answers, bracket_refuses, answers_ok, answers_err)
