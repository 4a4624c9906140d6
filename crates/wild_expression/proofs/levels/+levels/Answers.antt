use Rattle.std.proofs.Common.{rules, arith, refl}
use Rattle.wild_reading.proofs.Readers.{answers_ok, answers_err, bind_only, bind_answers, deeper_only, deeper_refuses, full_refuses, give_only, give_by}
use Rattle.wild_reading.proofs.Families.{fold_step, fold_only, fold_refuses}
use Rattle.wild_reading.proofs.Marks.{paid_on}
use Rattle.wild_expression.specs.Grammar.{brackets, brackets_of, pair, pair_of, align_value, align_value_of, align_rest, align, align_of, segment_start, segment_start_of, assert, assert_of, unary, unary_of, alternatives, alternatives_of, chain, layer, step, step_of}
use Rattle.wild_expression.proofs.Layers.{layer_answers, sign_answers, chain_answers, ternary_answers, comparison_answers, alone_answers, whole_answers}
use Rattle.wild_expression.proofs.Depths.{value_inner}
use Rattle.wild_expression.proofs.Weights.{enclosed_paid, room_there, operator_covers, byte_covers, paid_less, max_paid, covered_by, covered_as}
use Rattle.wild_expression.proofs.levels.+levels.Goals as goal

-- ---- one deeper

pub enclosed-returns-in_err-enter-clause-read : goal.enclosed-returns-in_err-enter-clause-read
enclosed-returns-in_err-enter-clause-read t c = answers_err c.from_residual.ensures.1 (full_refuses (value_inner c.args.level) c.in_err-enter.ensures.err)

pub enclosed-returns-in_err-x-clause-read : goal.enclosed-returns-in_err-x-clause-read
enclosed-returns-in_err-x-clause-read t c = answers_err c.from_residual-in_err-x.ensures.1 (deeper_refuses (value_inner c.args.level) c.in_ok-enter.ensures.ok c.in_err-x.ensures.read.err)

pub enclosed-returns-clause-read : goal.enclosed-returns-clause-read
enclosed-returns-clause-read t c = answers_ok (deeper_only (value_inner c.args.level) c.in_ok-enter.ensures.ok c.in_ok-x.ensures.read.ok c.leave.ensures)

pub enclosed-returns-clause-paid : goal.enclosed-returns-clause-paid
enclosed-returns-clause-paid t c = enclosed_paid c.requires c.in_ok-enter.ensures.ok c.in_ok-x.ensures.read.ok c.in_ok-x.ensures.paid c.leave.ensures

pub inner_value-returns-in_err-room-clause-read : goal.inner_value-returns-in_err-room-clause-read
inner_value-returns-in_err-room-clause-read t c = answers_err c.from_residual-in_err-room.ensures.1 (room_there (omega (arith, c.in_ok-x.ensures.deep, c.in_ok-x.ensures.read.ok.left)) c.in_ok-x.ensures.read.ok.text c.in_err-room.ensures.read.err)

-- ---- brackets and calls

pub brackets-returns-clause-read : goal.brackets-returns-clause-read
unfolding brackets brackets_of
brackets-returns-clause-read t c = answers_ok (bind_only c.in_ok-byte.ensures.read.ok (bind_only c.in_ok-x.ensures.read.ok (bind_only c.in_ok-close.ensures.ok give_only)))

pub brackets-returns-clause-paid : goal.brackets-returns-clause-paid
brackets-returns-clause-paid t c = covered_by (paid_on c.in_ok-close.ensures.ok c.in_ok-x.ensures.paid)

pub pair-inner_value-requires-2 : goal.pair-inner_value-requires-2
pair-inner_value-requires-2 t c = (search rules, paid_less (omega arith) (paid_on c.in_ok-byte-2.ensures.read.ok c.in_ok-x.ensures.paid))

pub pair-returns-clause-read : goal.pair-returns-clause-read
unfolding pair pair_of
pair-returns-clause-read t c =
    answers_ok (bind_only c.in_ok-byte.ensures.read.ok (bind_only c.in_ok-x.ensures.read.ok (bind_only c.in_ok-byte-2.ensures.read.ok
    (bind_only c.in_ok-y.ensures.read.ok (bind_only c.in_ok-close.ensures.ok (give_by c.in_ok-both.ensures))))))

pub pair-returns-clause-paid : goal.pair-returns-clause-paid
pair-returns-clause-paid t c =
    covered_as c.in_ok-both.ensures (max_paid c.in_ok-x.x.depth c.in_ok-y.y.depth (paid_on c.in_ok-close.ensures.ok (paid_on c.in_ok-y.ensures.read.ok (paid_on c.in_ok-byte-2.ensures.read.ok c.in_ok-x.ensures.paid)))
    (paid_on c.in_ok-close.ensures.ok c.in_ok-y.ensures.paid))

pub align_comma-inner_value-requires : goal.align_comma-inner_value-requires
align_comma-inner_value-requires t c = (search rules, paid_less (omega arith) (paid_on c.in_ok-byte.ensures.read.ok c.requires.paid))

pub align_comma-returns-clause-read : goal.align_comma-returns-clause-read
unfolding align_value align_value_of
align_comma-returns-clause-read t c = answers_ok (bind_only c.in_ok-byte.ensures.read.ok (bind_only c.in_ok-y.ensures.read.ok (bind_only c.in_ok-close.ensures.ok (give_by c.in_ok-aligned.ensures))))

pub align_comma-returns-clause-paid : goal.align_comma-returns-clause-paid
align_comma-returns-clause-paid t c =
    covered_as c.in_ok-aligned.ensures (max_paid c.args.x.depth c.in_ok-y.y.depth (paid_on c.in_ok-close.ensures.ok (paid_on c.in_ok-y.ensures.read.ok (paid_on c.in_ok-byte.ensures.read.ok c.requires.paid)))
    (paid_on c.in_ok-close.ensures.ok c.in_ok-y.ensures.paid))

pub align-returns-clause-read : goal.align-returns-clause-read
unfolding align align_of align_rest
align-returns-clause-read t c = bind_answers c.in_ok-byte.ensures.read.ok (bind_answers c.in_ok-x.ensures.read.ok c.align_rest.ensures.read)

pub segment_start-inner_value-requires : goal.segment_start-inner_value-requires
segment_start-inner_value-requires t c =
    (search rules, paid_on c.in_ok-byte-2.ensures.read.ok (paid_on c.in_ok-white-2.ensures.ok (paid_on c.in_ok-word.ensures.read.ok (paid_on c.in_ok-white.ensures.ok (c.in_ok-byte.ensures.marked refl)))))

pub segment_start-returns-clause-read : goal.segment_start-returns-clause-read
unfolding segment_start segment_start_of
segment_start-returns-clause-read t c =
    answers_ok (bind_only c.in_ok-byte.ensures.read.ok (bind_only c.in_ok-white.ensures.ok (bind_only c.in_ok-word.ensures.read.ok (bind_only c.in_ok-white-2.ensures.ok
    (bind_only c.in_ok-byte-2.ensures.read.ok (bind_only c.in_ok-x.ensures.read.ok (bind_only c.in_ok-close.ensures.ok (give_by (rw c.content.ensures at c.in_ok-started.ensures)))))))))

pub segment_start-returns-clause-paid : goal.segment_start-returns-clause-paid
segment_start-returns-clause-paid t c = covered_as c.in_ok-started.ensures (paid_on c.in_ok-close.ensures.ok c.in_ok-x.ensures.paid)

pub assertion-returns-clause-read : goal.assertion-returns-clause-read
unfolding assert assert_of
assertion-returns-clause-read t c =
    answers_ok (bind_only c.position-at.ensures.read (bind_only c.in_ok-symbol.ensures.read.ok (bind_only c.in_ok-x.ensures.read.ok (bind_only c.in_ok-gap.ensures.ok
    (bind_only c.in_ok-symbol-2.ensures.read.ok (bind_only c.in_ok-message.ensures.read.ok (bind_only c.in_ok-symbol-3.ensures.read.ok (give_by c.in_ok-asserted.ensures))))))))

pub assertion-returns-clause-paid : goal.assertion-returns-clause-paid
assertion-returns-clause-paid t c =
    covered_as c.in_ok-asserted.ensures (paid_on c.in_ok-symbol-3.ensures.read.ok (paid_on c.in_ok-message.ensures.read.ok (paid_on c.in_ok-symbol-2.ensures.read.ok (paid_on c.in_ok-gap.ensures.ok c.in_ok-x.ensures.paid))))

-- ---- signs and operators

pub unary-returns-clause-read : goal.unary-returns-clause-read
unfolding unary unary_of
unary-returns-clause-read t c = answers_ok (bind_only c.in_ok-before.ensures.read.ok (bind_only c.in_ok-x.ensures.read.ok (give_by c.in_ok-unary.ensures)))

pub step-room-requires : goal.step-room-requires
step-room-requires t c = paid_less (omega arith) (operator_covers c.args.level c.in_ok-operator.ensures.read.ok c.requires c.in_ok-operator.ensures.marked)

pub step-returns-clause-read : goal.step-returns-clause-read
unfolding step step_of
step-returns-clause-read t c =
    answers_ok (bind_only c.in_ok-operator.ensures.read.ok (bind_only c.in_ok-room.ensures.read.ok
    (bind_only (rw c.operand.ensures at c.in_ok-right.ensures.read.ok) (give_by c.in_ok-joined.ensures))))

pub step-returns-clause-paid : goal.step-returns-clause-paid
step-returns-clause-paid t c =
    covered_as c.in_ok-joined.ensures (max_paid c.args.whole.depth c.in_ok-right.right.depth (paid_on c.in_ok-right.ensures.read.ok (operator_covers c.args.level c.in_ok-operator.ensures.read.ok c.requires c.in_ok-operator.ensures.marked)) c.in_ok-right.ensures.paid)

pub chain-chain-preserved : goal.chain-chain-preserved
chain-chain-preserved t c = record {
  goes = fold_step c.chain.invariant.goes (search rules) c.in_ok-whole.ensures.read.ok;
  deep = search rules;
  paid = c.in_ok-whole.ensures.paid;
}

pub chain-returns-in_err-whole-clause-read : goal.chain-returns-in_err-whole-clause-read
unfolding chain
chain-returns-in_err-whole-clause-read t c = answers_err c.from_residual.ensures.1 (fold_refuses c.chain.invariant.goes (search rules) c.in_err-whole.ensures.read.err)

pub chain-returns-clause-read : goal.chain-returns-clause-read
unfolding chain
chain-returns-clause-read t c = answers_ok (fold_only c.chain.invariant.goes (search rules))

pub alternatives-room-requires : goal.alternatives-room-requires
alternatives-room-requires t c = paid_less (omega arith) (byte_covers 63 refl c.in_ok-byte.ensures.read.ok c.requires (c.in_ok-byte.ensures.marked refl))

pub alternatives-inner_value-requires-2 : goal.alternatives-inner_value-requires-2
alternatives-inner_value-requires-2 t c = (search rules, paid_less (omega arith) (paid_on c.in_ok-byte-2.ensures.read.ok c.in_ok-then.ensures.paid))

pub alternatives-returns-clause-read : goal.alternatives-returns-clause-read
unfolding alternatives alternatives_of
alternatives-returns-clause-read t c =
    answers_ok (bind_only c.in_ok-byte.ensures.read.ok (bind_only c.in_ok-room.ensures.read.ok (bind_only c.in_ok-then.ensures.read.ok
    (bind_only c.in_ok-byte-2.ensures.read.ok (bind_only c.in_ok-other.ensures.read.ok (give_by c.in_ok-chosen.ensures))))))

pub alternatives-returns-clause-paid : goal.alternatives-returns-clause-paid
alternatives-returns-clause-paid t c =
    covered_as c.in_ok-chosen.ensures (max_paid c.args.first.depth _
    (paid_on c.in_ok-other.ensures.read.ok (paid_on c.in_ok-byte-2.ensures.read.ok (paid_on c.in_ok-then.ensures.read.ok (byte_covers 63 refl c.in_ok-byte.ensures.read.ok c.requires (c.in_ok-byte.ensures.marked refl)))))
    (max_paid c.in_ok-then.then.depth c.in_ok-other.other.depth (paid_on c.in_ok-other.ensures.read.ok (paid_on c.in_ok-byte-2.ensures.read.ok c.in_ok-then.ensures.paid)) c.in_ok-other.ensures.paid))

pub rest-returns-in-Ternary-clause-read : goal.rest-returns-in-Ternary-clause-read
rest-returns-in-Ternary-clause-read t c = ternary_answers c.args.first c.in-Ternary.is c.ternary.ensures.read

pub rest-returns-in-Comparison-clause-read : goal.rest-returns-in-Comparison-clause-read
rest-returns-in-Comparison-clause-read t c = comparison_answers c.args.first c.in-Comparison.is c.comparison.ensures.read

pub rest-returns-in-Sign-clause-read : goal.rest-returns-in-Sign-clause-read
rest-returns-in-Sign-clause-read t c = alone_answers c.args.first c.in-Sign.is c.alone.ensures.read

pub rest-returns-in-LogicalOr-clause-read : goal.rest-returns-in-LogicalOr-clause-read
rest-returns-in-LogicalOr-clause-read t c = chain_answers c.args.level c.args.first (search rules) c.chain.ensures.read

-- ---- levels

pub layer-returns-clause-read : goal.layer-returns-clause-read
unfolding layer
layer-returns-clause-read t c = bind_answers (rw c.operand.ensures at c.in_ok-first.ensures.read.ok) c.rest.ensures.read

pub value-returns-in-Sign-clause-read : goal.value-returns-in-Sign-clause-read
value-returns-in-Sign-clause-read t c = sign_answers c.in-Sign.is c.sign_level.ensures.read

pub value-returns-in-Ternary-clause-read : goal.value-returns-in-Ternary-clause-read
value-returns-in-Ternary-clause-read t c = layer_answers c.args.level (search rules) c.layer.ensures.read

pub after_head-returns-in-Whole-clause-read : goal.after_head-returns-in-Whole-clause-read
after_head-returns-in-Whole-clause-read t c = whole_answers c.in-Whole.is
