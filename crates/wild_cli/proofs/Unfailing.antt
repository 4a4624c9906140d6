-- How runs end where nothing failed.
use Rattle.std.proofs.Common.{◌≡◌, ◌⊎◌, ℕ, List, Option, Some, inl, inr, arith}
use Rattle.wild_plan_spec.specs.Names.{Name}
use Rattle.wild_cli.specs.Device.{Rose}
use Rattle.wild_cli.specs.Due.{Answer, Task, task_of, Meets, status_of_answer}
use Rattle.wild_cli.specs.Run.{Loading, Putting, Outcome, Comes}
use Rattle.wild_words.specs.declared.words.Request.{Request}

module _ (files : Loading) (out err : Putting) (status : ℕ) (no_load : Rose files.before files.now → ⊥) (no_out : Rose out.before out.now → ⊥) (no_err : Rose err.before err.now → ⊥) where
  -- of the four ends two are left
  two_left : (answer : Answer)
      → (status ≡ status_of_answer answer) ⊎ ((status ≡ 3) × Rose files.before files.now) ⊎ ((status ≡ 4) × (Rose out.before out.now ⊎ Rose err.before err.now)) ⊎ (status ≡ 5)
      → (status ≡ status_of_answer answer) ⊎ (status ≡ 5)
  two_left answer (inl e) = inl e
  two_left answer (inr (inl h)) = absurd (no_load h.1)
  two_left answer (inr (inr (inl (e, inl h)))) = absurd (no_out h)
  two_left answer (inr (inr (inl (e, inr h)))) = absurd (no_err h)
  two_left answer (inr (inr (inr e))) = inr e

  comes_so : (wanted : Option Task) (task : Task) (answer : Answer) → Comes wanted files out err status → wanted ≡ Some task → Meets task answer
      → (status ≡ status_of_answer answer) ⊎ (status ≡ 5)
  comes_so wanted task answer comes e meets = two_left answer ((rw e at comes) answer meets)

pub ends : (held : Name → Option (List ℕ)) (command : Option Request) (files : Loading) (out err : Putting) (status : ℕ) (task : Task) (answer : Answer)
    → Outcome held command files out err status
    → (Rose files.before files.now → ⊥) → (Rose out.before out.now → ⊥) → (Rose err.before err.now → ⊥)
    → task_of held command ≡ Some task → Meets task answer
    → (status ≡ status_of_answer answer) ⊎ (status ≡ 5)
ends held command files out err status task answer o no_load no_out no_err e meets = comes_so files out err status no_load no_out no_err (task_of held command) task answer o.comes e meets

pub still_at_zero : Rose 0 0 → ⊥
still_at_zero h = absurd (omega (arith, h.1))
