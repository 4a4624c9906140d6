use Rattle.std.proofs.Common.{◌+◌, ◌∙◌, ap, sym, arith}
use Rattle.std.specs.Option.{option_map}
use Rattle.std.proofs.lemmas.Result.{err_from_is_err_and}
use Rattle.wild_memo_laws.specs.Memo.{arithmetic_value, division_value, comparison_value, connective_value, unary_value, ternary_value, align_value, segment_value, assert_value, worked}
use Rattle.wild_memo_laws.specs.Nodes.{nodes}
use Rattle.wild_eval.specs.Keeping.{kept}
use Rattle.wild_eval.specs.Scope.{shown_definition}
use Rattle.wild_eval.proofs.Runs.{not_zero, fails_on, leaf_same, first_of_two, last_of_two, only_one, alignment_first, condition_first, value_runs, leaf_behind, leaf_behind_two, then_last_fails, then_first_fails, then_leaf_fails, then_chosen_fails, then_held_fails, leaf_behind_whole, settle_runs}
use Rattle.wild_eval.proofs.evaluator.Evaluator.+evaluation.Goals as goal

pub value-returns-clause-value : goal.value-returns-clause-value
value-returns-clause-value g t c =
    value_runs c.args.self.now _ _ _ _ _ _ c.if-levels-eq0.false (rw c.tick.ensures at c.node.ensures.value)

-- ---- both sides

pub arithmetic_value-returns-in_err-x-clause-value : goal.arithmetic_value-returns-in_err-x-clause-value
unfolding arithmetic_value
arithmetic_value-returns-in_err-x-clause-value g t c =
    let p = err_from_is_err_and c.from_residual.result c.from_residual.ensures.1 in
    rw (p.1, p.2) (first_of_two c.args.self.now c.args.a.now c.args.b.now _ _ _ _ _ c.in_err-x.ensures.value)

pub arithmetic_value-returns-in_err-y-clause-value : goal.arithmetic_value-returns-in_err-y-clause-value
unfolding arithmetic_value
arithmetic_value-returns-in_err-y-clause-value g t c =
    let p = err_from_is_err_and c.from_residual-in_err-y.result c.from_residual-in_err-y.ensures.1 in
    rw (p.1, p.2, c.in_ok-x.ensures.value)
    (then_last_fails c.args.self.now c.args.levels (omega (arith, c.requires)) c.args.a.now c.args.b.now _ _ _ _ _ _ _ _ c.in_ok-x.ensures.value c.in_err-y.ensures.value)

pub arithmetic_value-returns-clause-value : goal.arithmetic_value-returns-clause-value
unfolding arithmetic_value
arithmetic_value-returns-clause-value g t c =
    rw (c.in_ok-x.ensures.value, c.in_ok-y.ensures.value, c.over_both.ensures, c.apply.ensures)

pub division_value-returns-in_err-y-clause-value : goal.division_value-returns-in_err-y-clause-value
unfolding division_value
division_value-returns-in_err-y-clause-value g t c =
    let p = err_from_is_err_and c.from_residual.result c.from_residual.ensures.1 in
    rw (p.1, p.2) (last_of_two c.args.self.now c.args.a.now c.args.b.now _ _ _ _ _ c.in_err-y.ensures.value)

pub division_value-returns-in_err-x-clause-value : goal.division_value-returns-in_err-x-clause-value
unfolding division_value
division_value-returns-in_err-x-clause-value g t c =
    let p = err_from_is_err_and c.from_residual-in_err-x.result c.from_residual-in_err-x.ensures.1 in
    rw (p.1, p.2, c.in_ok-y.ensures.value, not_zero _ c.if-y-eq0.false)
    (then_first_fails c.args.self.now c.args.levels (omega (arith, c.requires)) c.args.a.now c.args.b.now _ _ _ _ _ _ _ _ c.in_ok-y.ensures.value c.in_err-x.ensures.value)

pub division_value-returns-clause-value : goal.division_value-returns-clause-value
unfolding division_value
division_value-returns-clause-value g t c =
    rw (c.in_ok-y.ensures.value, not_zero _ c.if-y-eq0.false, c.in_ok-x.ensures.value, c.over_both.ensures, c.divide.ensures)

pub comparison_value-returns-in_err-x-clause-value : goal.comparison_value-returns-in_err-x-clause-value
unfolding comparison_value
comparison_value-returns-in_err-x-clause-value g t c =
    let p = err_from_is_err_and c.from_residual.result c.from_residual.ensures.1 in
    rw (p.1, p.2) (first_of_two c.args.self.now c.args.a.now c.args.b.now _ _ _ _ _ c.in_err-x.ensures.value)

pub comparison_value-returns-in_err-first-clause-value : goal.comparison_value-returns-in_err-first-clause-value
unfolding comparison_value
comparison_value-returns-in_err-first-clause-value g t c =
    let p = err_from_is_err_and c.from_residual-in_err-first.result c.from_residual-in_err-first.ensures.1 in
    rw (p.1, p.2, c.in_ok-x.ensures.value)
    (then_leaf_fails c.args.self.now c.args.levels (omega (arith, c.requires)) c.args.a.now c.args.b.now _ _ _ _ _ _ _ c.in_ok-x.ensures.value c.in_err-first.ensures)

pub comparison_value-returns-in_err-y-clause-value : goal.comparison_value-returns-in_err-y-clause-value
unfolding comparison_value
comparison_value-returns-in_err-y-clause-value g t c =
    let p = err_from_is_err_and c.from_residual-in_err-y.result c.from_residual-in_err-y.ensures.1 in
    rw (p.1, p.2, c.in_ok-x.ensures.value, c.in_ok-first.ensures)
    (then_last_fails c.args.self.now c.args.levels (omega (arith, c.requires)) c.args.a.now c.args.b.now _ _ _ _ _ _ _ _ c.in_ok-x.ensures.value c.in_err-y.ensures.value)

pub comparison_value-returns-clause-value : goal.comparison_value-returns-clause-value
unfolding comparison_value
comparison_value-returns-clause-value g t c =
    rw (c.in_ok-x.ensures.value, c.in_ok-first.ensures, c.in_ok-y.ensures.value)
    (leaf_behind_two c.args.self.now c.args.levels (omega (arith, c.requires)) c.args.a.now c.args.b.now _ _ _ _ _ _ _ _ c.in_ok-x.ensures.value c.in_ok-y.ensures.value c.judgement.ensures.value)

pub connective_value-returns-in_err-x-clause-value : goal.connective_value-returns-in_err-x-clause-value
unfolding connective_value
connective_value-returns-in_err-x-clause-value g t c =
    let p = err_from_is_err_and c.from_residual.result c.from_residual.ensures.1 in
    rw (p.1, p.2) (first_of_two c.args.self.now c.args.a.now c.args.b.now _ _ _ _ _ c.in_err-x.ensures.value)

pub connective_value-returns-in_err-y-clause-value : goal.connective_value-returns-in_err-y-clause-value
unfolding connective_value
connective_value-returns-in_err-y-clause-value g t c =
    let p = err_from_is_err_and c.from_residual-in_err-y.result c.from_residual-in_err-y.ensures.1 in
    rw (p.1, p.2, c.in_ok-x.ensures.value, ← c.decides.ensures, c.if-decides.false)
    (then_last_fails c.args.self.now c.args.levels (omega (arith, c.requires)) c.args.a.now c.args.b.now _ _ _ _ _ _ _ _ c.in_ok-x.ensures.value c.in_err-y.ensures.value)

pub connective_value-returns-clause-value : goal.connective_value-returns-clause-value
unfolding connective_value
connective_value-returns-clause-value g t c =
    rw (c.in_ok-x.ensures.value, ← c.decides.ensures, c.if-decides.false, c.in_ok-y.ensures.value, c.over_both.ensures, c.truth_of-2.ensures)

-- ---- one part, or three

pub unary_value-returns-in_err-x-clause-value : goal.unary_value-returns-in_err-x-clause-value
unfolding unary_value
unary_value-returns-in_err-x-clause-value g t c =
    let p = err_from_is_err_and c.from_residual.result c.from_residual.ensures.1 in
    rw (p.1, p.2) (only_one c.args.self.now c.args.a.now _ _ _ _ _ c.in_err-x.ensures.value)

pub ternary_value-returns-in_err-x-clause-value : goal.ternary_value-returns-in_err-x-clause-value
unfolding ternary_value
ternary_value-returns-in_err-x-clause-value g t c =
    let p = err_from_is_err_and c.from_residual.result c.from_residual.ensures.1 in
    rw (p.1, p.2) (condition_first c.args.self.now c.args.condition.now c.args.a.now c.args.b.now _ _ _ _ _ c.in_err-x.ensures.value)

pub ternary_value-returns-in_err-y-clause-value : goal.ternary_value-returns-in_err-y-clause-value
unfolding ternary_value
ternary_value-returns-in_err-y-clause-value g t c =
    let p = err_from_is_err_and c.from_residual-in_err-y.result c.from_residual-in_err-y.ensures.1 in
    rw (p.1, p.2, c.in_ok-x.ensures.value)
    (then_chosen_fails c.args.self.now c.args.levels (omega (arith, c.requires)) c.args.condition.now c.args.a.now c.args.b.now _ _ _ _ _ _ _ _ _ c.in_ok-x.ensures.value (rw c.chosen_side.ensures at c.in_err-y.ensures.value))

pub ternary_value-returns-clause-value : goal.ternary_value-returns-clause-value
unfolding ternary_value
ternary_value-returns-clause-value g t c =
    rw (c.in_ok-x.ensures.value, ← c.chosen_side.ensures, c.in_ok-y.ensures.value, c.over_both.ensures)

pub align_value-returns-in_err-x-clause-value : goal.align_value-returns-in_err-x-clause-value
unfolding align_value
align_value-returns-in_err-x-clause-value g t c =
    let p = err_from_is_err_and c.from_residual.result c.from_residual.ensures.1 in
    rw (p.1, p.2) (alignment_first c.args.self.now c.args.alignment.now _ _ _ _ _ _ c.in_err-x.ensures.value)

pub align_value-returns-in_err-y-clause-value : goal.align_value-returns-in_err-y-clause-value
unfolding align_value
align_value-returns-in_err-y-clause-value g t c =
    let p = err_from_is_err_and c.from_residual-in_err-y.result c.from_residual-in_err-y.ensures.1 in
    rw (p.1, p.2, c.in_ok-x.ensures.value, not_zero _ c.if-x-eq0.false)
    (then_held_fails c.args.self.now c.args.levels (omega (arith, c.requires)) c.args.alignment.now _ _ _ _ _ _ _ _ _ c.in_ok-x.ensures.value c.in_err-y.ensures.value)

pub align_value-returns-clause-value : goal.align_value-returns-clause-value
unfolding align_value
align_value-returns-clause-value g t c =
    rw (c.in_ok-x.ensures.value, not_zero _ c.if-x-eq0.false, c.in_ok-y.ensures.value) (leaf_same c.args.self.now _ _ _ _ _ c.multiple_value.ensures.value)

pub segment_value-returns-in_err-value-in-None-clause-value : goal.segment_value-returns-in_err-value-in-None-clause-value
unfolding segment_value
segment_value-returns-in_err-value-in-None-clause-value g t c =
    let p = err_from_is_err_and c.from_residual.result c.from_residual.ensures.1 in
    rw (p.1, p.2, ← c.segment_start.ensures, c.in-None.is) (only_one c.args.self.now c.args.default.now _ _ _ _ _ c.in_err-value-in-None.ensures.value)

pub assert_value-returns-in_err-condition-clause-value : goal.assert_value-returns-in_err-condition-clause-value
unfolding assert_value
assert_value-returns-in_err-condition-clause-value g t c =
    let p = err_from_is_err_and c.from_residual.result c.from_residual.ensures.1 in
    rw (p.1, p.2) (only_one c.args.self.now c.args.command.now.expression _ _ _ _ _ (rw c.get.ensures at c.in_err-condition.ensures.value))

pub assert_value-returns-then-condition-eq0-clause-value : goal.assert_value-returns-then-condition-eq0-clause-value
unfolding assert_value
assert_value-returns-then-condition-eq0-clause-value g t c =
    let condition = rw c.get.ensures at c.in_ok-condition.ensures.value in
    rw (condition, c.if-condition-eq0.true)
    (leaf_behind c.args.self.now c.args.levels (omega (arith, c.requires)) c.args.command.now.expression _ _ _ _ (0 + nodes c.args.command.now.expression) _ _ condition (omega arith) c.failed.ensures.value)

-- ---- definitions

pub symbol_at-returns-in_ok-whole-in-Some-clause-value : goal.symbol_at-returns-in_ok-whole-in-Some-clause-value
symbol_at-returns-in_ok-whole-in-Some-clause-value g t c =
    let placed = sym c.definition_at.ensures ∙ ap (option_map shown_definition) c.in-Some.is in
    rw (placed, c.in_ok-whole-in-Some.ensures.value, ← c.home.ensures)
    (leaf_behind_whole c.args.self.now c.args.levels (omega (arith, c.requires.levels)) c.args.name.now c.args.number (shown_definition c.in-Some.definition) _ _ _ _ _
    (record { numbered = c.requires.numbered; placed = placed }) c.in_ok-whole-in-Some.ensures.value c.symbol_value.ensures.value)

pub worked-returns-clause-value : goal.worked-returns-clause-value
unfolding worked
worked-returns-clause-value g t c =
    settle_runs c.args.self.now c.args.levels c.requires.levels c.args.name.now c.args.number (shown_definition c.args.definition) (kept c.args.memo.now c.args.steps.now)
    c.requires.defined c.requires.unseen (kept c.found-answer.new.memo c.found-answer.new.steps) c.settle.new.memo c.found-answer.result c.settle.result
    (rw c.in_ok-mark.ensures.marked at c.found-answer.ensures.value) c.settle.ensures.ok c.settle.ensures.err

pub found-returns-in_err-value-in-OfScript-clause-value : goal.found-returns-in_err-value-in-OfScript-clause-value
found-returns-in_err-value-in-OfScript-clause-value g t c =
    let p = err_from_is_err_and c.from_residual.result c.from_residual.ensures.1 in
    rw (p.1, p.2, c.in-OfScript.is)
    (fails_on c.args.self.now (nodes c.in-OfScript.value.now) (nodes c.in-OfScript.value.now) _ _ _ _ _ (omega arith) c.in_err-value-in-OfScript.ensures.value)

pub found-returns-in_ok-value-in-OfScript-clause-value : goal.found-returns-in_ok-value-in-OfScript-clause-value
found-returns-in_ok-value-in-OfScript-clause-value g t c =
    rw (c.in-OfScript.is, c.in_ok-value-in-OfScript.ensures.value)
    (leaf_behind c.args.self.now c.args.levels c.requires c.in-OfScript.value.now _ _ _ _ (nodes c.in-OfScript.value.now) _ _ c.in_ok-value-in-OfScript.ensures.value (omega arith) c.value_whole.ensures.value)
