-- Evaluation with a memo, from what it returned and left.
use Rattle.std.proofs.Common.{◌≡◌, ◌≤◌, ◌<◌, ℕ, zero, suc, ◌+◌, List, [], ◌∷◌, length, get_or, replicate, Some, Result, Ok, Err, IfOk, refl, inl, inr, ap, sym, subst, ◌∙◌, arith}
use Rattle.std.proofs.lemmas.List.{length-replicate}
use Rattle.wild_names.specs.declared.fault.Fault.{Fault}
use Rattle.wild_expression_tree.specs.declared.tree.AssertCommand.{AssertCommand}
use Rattle.wild_expression_tree.specs.declared.tree.Expression.{Expression}
use Rattle.wild_expression_tree.specs.Shape.{shape}
use Rattle.wild_value_spec.specs.declared.value.Point.{Point}
use Rattle.wild_value_spec.specs.declared.value.Value.{Value}
use Rattle.wild_value_spec.specs.declared.value.Whole.{Whole}
use Rattle.wild_value_spec.specs.Answer.{Fails, Returns, ◌>>=◌}
use Rattle.wild_value_spec.specs.Scope.{Name, Definition}
use Rattle.wild_value_spec.specs.Value as plain
use Rattle.wild_memo_laws.specs.declared.slot.Slot.{Slot}
use Rattle.wild_memo_laws.specs.declared.slot.Slot.TheVariants.{Unseen, InWork, Kept}
use Rattle.wild_memo_laws.specs.Nodes.{nodes, part_nodes}
use Rattle.wild_memo_laws.specs.Running.{State, Ran, give, slot_at}
use Rattle.wild_memo_laws.specs.Sound.{Agrees, GivesUp, IsDefined, IsSound, newly, newly_nodes, unseen, unseen_nodes}
use Rattle.wild_memo_laws.proofs.Agreed.{agreed, agreed_assert, agreed_node, agreed_whole, agreed_whole_kept}
use Rattle.wild_memo_laws.proofs.Refit.{plain_whole}
use Rattle.wild_memo_laws.proofs.Steps.{counted, weaken}
use Rattle.wild_eval.specs.declared.evaluator.Evaluator.{Evaluator}
use Rattle.wild_eval.specs.Evaluated.{Evaluates, IsMemo, newly_in, plain_definition, plain_statement, plain_value, unseen_in}
use Rattle.wild_eval.specs.Keeping as running
use Rattle.wild_eval.specs.Keeping.{Runs, kept}
use Rattle.wild_eval.specs.Leaves.{known, scope}
use Rattle.wild_eval.proofs.Entries.{shown_length}
use Rattle.wild_eval.proofs.Indexed.{indexed}
use Rattle.wild_eval.proofs.Runs.{behind_tick, gives_up_behind, value_runs}

-- ---- counts

one_newly : (d : Definition) (a b : Slot) → unseen_nodes d a ≤ unseen_nodes d b + newly_nodes d a b
one_newly d Unseen Unseen = omega arith
one_newly d Unseen InWork = omega arith
one_newly d Unseen (Kept w) = omega arith
one_newly d InWork b = omega arith
one_newly d (Kept w) b = omega arith

-- what was unseen is unseen, or newly kept
all_newly : (ds : List Definition) (old new : List Slot) → length old ≡ length ds → length new ≡ length ds → unseen ds old ≤ unseen ds new + newly ds old new
all_newly [] old new h k = omega arith
all_newly (d ∷ ds) [] new h k = omega arith
all_newly (d ∷ ds) (a ∷ old) [] h k = absurd (omega arith)
all_newly (d ∷ ds) (a ∷ old) (b ∷ new) h k = omega (arith, one_newly d a b, all_newly ds old new (omega arith) (omega arith))

module _ (v : Evaluator) where
  -- ---- answers

  abbrev Agree : {A : Type 0} → ℕ → State → (List Name → Result A Fault) → Ran A → Type 0
  Agree cost s plain ran = Agrees (scope v) (known v) [] cost s plain ran

  ok : {A : Type 0} (cost : ℕ) (slots new : List Slot) (ticks now : ℕ) (plain : List Name → Result A Fault) (x : A) → IsMemo v slots → Agree cost (kept slots ticks) plain (give (Ok x) (kept new now)) → Evaluates v cost slots new ticks now (plain []) (Ok x)
  ok cost slots new ticks now plain x memo a = record {
    answer = a.matches [] (λ other i d w e k. refl);
    sound = a.sound;
    grows = a.grows;
    rises = a.rises;
    most = omega (arith, a.spends);
    spent = omega (arith, a.spends);
    most_known = omega (arith, a.spends, all_newly (scope v).definitions slots new memo.size a.sound.size);
  }

  gave_up : {A : Type 0} (cost : ℕ) (slots new : List Slot) (ticks now : ℕ) (plain : Result A Fault) (f : Fault) → Fails f plain → GivesUp (scope v) (known v) [] cost (kept slots ticks) (kept new now) → Evaluates v cost slots new ticks now plain (Err f)
  gave_up cost slots new ticks now plain f fails g = record {
    answer = fails;
    sound = g.sound;
    grows = g.grows;
    rises = g.rises;
    most = omega (arith, g.most);
    spent = tt;
    most_known = tt;
  }

  pub evaluates : {A : Type 0} (cost : ℕ) (slots new : List Slot) (ticks now : ℕ) (plain : List Name → Result A Fault) (ran : Ran A) (result : Result A Fault) → IsMemo v slots → Agree cost (kept slots ticks) plain ran → Runs v cost result (kept slots ticks) (kept new now) ran → Evaluates v cost slots new ticks now (plain []) result
  evaluates cost slots new ticks now plain ran (Ok x) memo a h = ok cost slots new ticks now plain x memo (subst (λ m. Agree cost (kept slots ticks) plain m) h a)
  evaluates cost slots new ticks now plain ran (Err f) memo a (inl h) = gave_up cost slots new ticks now (plain []) f (inl h.0) (h.1 [] memo)
  evaluates cost slots new ticks now plain ran (Err f) memo a (inr h) =
      let b : Agree cost (kept slots ticks) plain (give (Err f) (kept new now)) = subst (λ m. Agree cost (kept slots ticks) plain m) h a in
      gave_up cost slots new ticks now (plain []) f (inr b.matches) (record { sound = b.sound; grows = b.grows; rises = b.rises; most = omega (arith, b.spends) })

  -- ---- steps behind it that need no memo

  fails_then : {A B : Type 0} (f : Fault) (plain : Result A Fault) (g : A → Result B Fault) → Fails f plain → Fails f (plain >>= g)
  fails_then f plain g (inl h) = inl h
  fails_then f plain g (inr h) = inr (ap (λ (r : Result _ Fault). r >>= g) h)

  pub evaluates_err : {A B : Type 0} (cost : ℕ) (slots new : List Slot) (ticks now : ℕ) (plain : Result A Fault) (g : A → Result B Fault) (f : Fault) → Evaluates {A = A} v cost slots new ticks now plain (Err f) → Evaluates {A = B} v cost slots new ticks now (plain >>= g) (Err f)
  evaluates_err cost slots new ticks now plain g f h = record { answer = fails_then f plain g h.answer; sound = h.sound; grows = h.grows; rises = h.rises; most = h.most; spent = tt; most_known = tt }

  known_then : {B : Type 0} (P : Type 0) (result : Result B Fault) → P → IfOk result (λ x. P)
  known_then P (Ok x) h = h
  known_then P (Err f) h = tt

  pub evaluates_on : {A B : Type 0} (cost : ℕ) (slots new : List Slot) (ticks now : ℕ) (plain : Result A Fault) (g : A → Result B Fault) (x : A) (result : Result B Fault) → Evaluates v cost slots new ticks now plain (Ok x) → Returns result (g x) → Evaluates v cost slots new ticks now (plain >>= g) result
  evaluates_on cost slots new ticks now plain g x result h k = record {
    answer = subst (λ p. Returns result (p >>= g)) (sym h.answer) k;
    sound = h.sound;
    grows = h.grows;
    rises = h.rises;
    most = h.most;
    spent = known_then (now + unseen_in v new ≤ ticks + cost + unseen_in v slots) result h.spent;
    most_known = known_then (now ≤ ticks + cost + newly_in v slots new) result h.most_known;
  }

  -- ---- the calls

  module _ (slots new : List Slot) (ticks now : ℕ) (memo : IsMemo v slots) where
    -- what is behind the node of an expression
    module _ (e : Expression) (p : Point) (result : Result Value Fault) (h : Runs v (part_nodes (shape e)) result (kept slots (ticks + 1)) (kept new now) (running.node v 1023 e p (kept slots (ticks + 1)))) where
      pub value_evaluates : Evaluates v (nodes e) slots new ticks now (plain_value v e p) result
      value_evaluates = evaluates (nodes e) slots new ticks now (λ other. plain.value (scope v) v.statement (known v) 1024 other e p) (running.value v 1024 e p (kept slots ticks)) result memo
          (agreed (scope v) (indexed v.scope.now) (known v) v.statement 1024 (omega arith) [] e p (kept slots ticks) memo)
          (value_runs v 1024 e p (kept slots ticks) (kept new now) result (λ k. absurd (omega arith)) h)

      pub value_once : ticks < now
      value_once =
          let g = gives_up_behind v (part_nodes (shape e)) (kept slots (ticks + 1)) (kept new now) (λ other. plain.node (scope v) v.statement (known v) (plain.value (scope v) v.statement (known v) 1023) other p (shape e)) (running.node v 1023 e p (kept slots (ticks + 1))) result
          (λ path sound. agreed_node (scope v) (indexed v.scope.now) (known v) v.statement 1023 (omega arith) path e p (kept slots (ticks + 1)) sound) h in
          let l = (g [] memo).rises in
          omega arith

    -- what is behind the node of an ASSERT
    module _ (command : AssertCommand) (p : Point) (result : Result Value Fault)
        (h : Runs v (0 + nodes command.expression) result (kept slots (ticks + 1)) (kept new now) (running.assert_value v 1023 command.expression command.message command.at p (kept slots (ticks + 1)))) where
      abbrev checked : Ran Value
      checked = running.assert_value v 1023 command.expression command.message command.at p (kept slots (ticks + 1))

      abbrev plainly : List Name → Result Value Fault
      plainly other = plain.assert_value (scope v) v.statement (known v) (plain.value (scope v) v.statement (known v) 1023) other command.expression command.message command.at p

      agrees : (path : List Name) → IsSound (scope v) (known v) path slots → Agrees (scope v) (known v) path (0 + nodes command.expression) (kept slots (ticks + 1)) plainly checked
      agrees path sound = weaken (scope v) (known v) path (nodes command.expression + 0) (0 + nodes command.expression) (kept slots (ticks + 1)) plainly checked (omega arith)
          (agreed_assert (scope v) (indexed v.scope.now) (known v) v.statement 1023 (omega arith) path command.expression command.message command.at p (kept slots (ticks + 1)) sound)

      pub assert_evaluates : Evaluates v (suc (nodes command.expression)) slots new ticks now (plain_statement v command p) result
      unfolding plain.assert_statement
      assert_evaluates = evaluates (suc (nodes command.expression)) slots new ticks now plainly checked result memo
          (weaken (scope v) (known v) [] (suc (0 + nodes command.expression)) (suc (nodes command.expression)) (kept slots ticks) plainly checked (omega arith)
          (counted (scope v) (known v) [] (0 + nodes command.expression) (kept slots ticks) plainly checked (agrees [] memo)))
          (behind_tick v (0 + nodes command.expression) (suc (nodes command.expression)) (kept slots ticks) (kept new now) result checked (omega arith) h)

      pub assert_once : ticks < now
      assert_once =
          let g = gives_up_behind v (0 + nodes command.expression) (kept slots (ticks + 1)) (kept new now) plainly checked result agrees h in
          let l = (g [] memo).rises in
          omega arith

    -- what a definition is worth
    module _ (name : Name) (i : ℕ) (d : Definition) (defined : IsDefined (scope v) name i d) (result : Result Whole Fault) (h : Runs v 0 result (kept slots ticks) (kept new now) (running.whole v 1024 name i d (kept slots ticks))) where
      pub whole_evaluates : Evaluates v 0 slots new ticks now (plain_definition v name (Some d)) result
      whole_evaluates = evaluates 0 slots new ticks now (plain_whole (scope v) (known v) v.statement 1024 name d) (running.whole v 1024 name i d (kept slots ticks)) result memo
          (agreed_whole (scope v) (indexed v.scope.now) (known v) v.statement 1024 (omega arith) [] name i d (kept slots ticks) defined memo) h

  pub whole_is_kept : (slots new : List Slot) (ticks now : ℕ) → IsMemo v slots → (name : Name) (i : ℕ) (d : Definition) → IsDefined (scope v) name i d → (result : Result Whole Fault)
      → Runs v 0 result (kept slots ticks) (kept new now) (running.whole v 1024 name i d (kept slots ticks)) → IfOk result (λ w. slot_at i new ≡ Kept w)
  whole_is_kept slots new ticks now memo name i d defined (Ok w) h = agreed_whole_kept (scope v) (indexed v.scope.now) (known v) v.statement 1024 (omega arith) [] name i d (kept slots ticks) defined memo w (kept new now) h
  whole_is_kept slots new ticks now memo name i d defined (Err f) h = tt

  -- ---- a memo in which nothing is seen

  blank : (n i : ℕ) (x : Slot) → get_or (replicate n Unseen) i Unseen ≡ x → x ≡ Unseen
  blank zero i x e = sym e
  blank (suc n) zero x e = sym e
  blank (suc n) (suc i) x e = blank n i x e

  pub new_memo : IsMemo v (replicate (length v.scope.now.entries.now) Unseen)
  new_memo = record {
    size = length-replicate (length v.scope.now.entries.now) Unseen ∙ sym (shown_length v.scope.now.entries.now);
    kept = λ name i d w e k. absurd (cc (blank (length v.scope.now.entries.now) i (Kept w) k));
    on = λ name i d e k. absurd (cc (k));
    off = λ name i d e k. absurd (cc (blank (length v.scope.now.entries.now) i InWork k));
  }
