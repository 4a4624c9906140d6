use Rattle.std.proofs.Common.{of_calls, ◌≡◌, ◌∷◌, length, arith, refl, ap}
use Rattle.wild_ids.proofs.output_section_map.call_each.Goals as goal

pub loop-x-preserved : goal.loop-x-preserved
loop-x-preserved g c =
    let e : c.loop-x.left.now ≡ c.in-Some.x.now ∷ c.in-Some.tail.now = c.in-Some.ensures.cases.0 in (
      search of_calls,
      omega (arith, ap length e),
      λ last calls. c.loop-x.invariant.2 last (rw e (c.cb.new.self, record { shown = c.in-Some.x; shows = refl; called = c.cb.ensures }, calls)),
    )
