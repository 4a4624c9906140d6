-- A run ends one further, or here.
use Rattle.std.proofs.Common.{◌≡◌, ◌<◌, ◌≤◌, ◌+◌, ℕ, true, false, length, get_or, arith}
use Rattle.std.proofs.lemmas.List.Sums.{prefix_len-drop_yes, prefix_len-drop_no, prefix_len-drop_all}
use Rattle.wild_reading.specs.Position.{Bytes}
use Rattle.wild_reading.specs.Bytes.{has, run_end}
use Rattle.wild_reading.specs.declared.classes.Class.{Class}

pub run_end-yes : (k : Class) (b : Bytes) (i : ℕ) → i < length b → has k (get_or b i 0) ≡ true → run_end k b i ≡ run_end k b (i + 1)
unfolding run_end
run_end-yes k b i h t = omega (arith, prefix_len-drop_yes (has k) b i 0 h t)

pub run_end-no : (k : Class) (b : Bytes) (i : ℕ) → i < length b → has k (get_or b i 0) ≡ false → run_end k b i ≡ i
unfolding run_end
run_end-no k b i h t = omega (arith, prefix_len-drop_no (has k) b i 0 h t)

pub run_end-all : (k : Class) (b : Bytes) (i : ℕ) → length b ≤ i → run_end k b i ≡ i
unfolding run_end
run_end-all k b i h = omega (arith, prefix_len-drop_all (has k) b i h)

pub ruleset run_ends = (run_end-yes, run_end-no, run_end-all)
