use Rattle.std.proofs.Common.{of_calls, ◌∙◌, refl, sym}
use Rattle.std.proofs.lemmas.List.{length-set}
use Rattle.wild_ids.proofs.Changed.{changed_more, rest_same}
use Rattle.wild_ids.proofs.output_section_map.change_each.Goals as goal

pub loop-i-preserved : goal.loop-i-preserved
loop-i-preserved g c = (
  search of_calls,
  length-set c.loop-i.values c.loop-i.i c.cb.new.arg3 ∙ c.loop-i.invariant.1,
  rest_same c.args.values.now c.loop-i.values c.loop-i.i c.cb.new.arg3 c.loop-i.invariant.2,
  changed_more _ _ _ c.cb.new.self _ _ _ c.index-values-i.result c.cb.new.arg3 c.loop-i.invariant.1 c.loop-i-test.true c.loop-i.invariant.2 c.index-values-i.is c.loop-i.invariant.3
      (record { lent = _; left = _; shows = sym c.index-values-i.is; leaves = refl; called = c.cb.ensures }),
)
