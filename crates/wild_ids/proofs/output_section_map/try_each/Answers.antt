use Rattle.std.proofs.Common.{of_calls, ◌≡◌, ◌∷◌, length, arith, refl, ap, inl, inr}
use Rattle.wild_ids.proofs.output_section_map.try_each.Goals as goal

pub loop-x-preserved : goal.loop-x-preserved
loop-x-preserved g c =
    let e : c.loop-x.rest.now ≡ c.in-Some.x.now ∷ c.in-Some.tail.now = c.in-Some.ensures.cases.0 in (
      search of_calls,
      omega (arith, ap length e),
      λ answer last calls. c.loop-x.invariant.2 answer last (rw e (inl (c.cb.new.self, record { shown = c.in-Some.x; shows = refl; called = rw c.in-Ok.is at c.cb.ensures }, calls))),
    )

pub returns-in-Err : goal.returns-in-Err
returns-in-Err g c =
    let e : c.loop-x.rest.now ≡ c.in-Some.x.now ∷ c.in-Some.tail.now = c.in-Some.ensures.cases.0 in
    (c.cb.new.self, c.loop-x.invariant.2 _ _ (rw e (inr (c.in-Err.refusal, record { shown = c.in-Some.x; shows = refl; called = rw c.in-Err.is at c.cb.ensures }, refl))))
