-- A comment ends here, or further on.
use Rattle.std.proofs.Common.{◌≡◌, ◌<◌, ◌≤◌, ◌+◌, ◌-◌, ℕ, suc, true, false, length, refl, arith, Some, None}
use Rattle.wild_reading.specs.Position.{Bytes}
use Rattle.wild_reading.specs.Bytes.{ends_comment}
use Rattle.wild_reading.specs.Lex.{after_close}

pub after_close-here : (b : Bytes) (i : ℕ) → i < length b → ends_comment b i ≡ true → after_close b i ≡ Some (i + 2)
unfolding after_close
after_close-here b i h t = let e : length b - i ≡ suc (length b - (i + 1)) = omega arith in rw (e, t) refl

pub after_close-next : (b : Bytes) (i : ℕ) → i < length b → ends_comment b i ≡ false → after_close b i ≡ after_close b (i + 1)
unfolding after_close
after_close-next b i h t = let e : length b - i ≡ suc (length b - (i + 1)) = omega arith in rw (e, t) refl

pub after_close-end : (b : Bytes) (i : ℕ) → length b ≤ i → after_close b i ≡ None
unfolding after_close
after_close-end b i h = let e : length b - i ≡ 0 = omega arith in rw e refl

pub ruleset closes = (after_close-here, after_close-next, after_close-end)
