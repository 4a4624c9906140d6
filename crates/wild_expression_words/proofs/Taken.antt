-- What a head takes at least.
use Rattle.std.proofs.Common.{◌≡◌, ◌≤◌, ◌<◌, ◌+◌, ℕ, arith}
use Rattle.std.specs.Prelude.{Result, Ok, Err}
use Rattle.std.specs.Result.{OnOk, IfOk}
use Rattle.wild_reading.specs.declared.stop.Stop.{Stop}
use Rattle.wild_expression_words.specs.Words.{byte_count}
use Rattle.wild_expression_words.specs.declared.words.Head.{Head}
use Rattle.wild_expression_words.specs.declared.words.Head.TheVariants as h

at_most_one : (begin : Head) → byte_count begin ≤ 1
at_most_one (h.Whole x) = omega arith
at_most_one (h.Before call) = omega arith

pub none_taken : (result : Result Head Stop) (n : ℕ) → IfOk result (λ begin. byte_count begin ≡ 0) → IfOk result (λ begin. n + byte_count begin ≤ n)
none_taken (Ok x) n h = omega (arith, h)
none_taken (Err e) n h = tt

pub some_taken : (result : Result Head Stop) (n m : ℕ) → OnOk result (n < m) → IfOk result (λ begin. n + byte_count begin ≤ m)
some_taken (Ok x) n m h = omega (arith, h, at_most_one x)
some_taken (Err e) n m h = tt

pub ruleset taken = (none_taken, some_taken)
