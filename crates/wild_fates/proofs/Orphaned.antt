-- The places of orphan sections, one after the other.
use Rattle.std.proofs.Common.{◌≡◌, ◌∙◌, ◌++◌, ◌+◌, ◌-◌, ◌<◌, ℕ, suc, List, refl, sym, ap, arith}
use Rattle.std.proofs.lemmas.List.{append_assoc}
use Rattle.wild_plan_spec.specs.Places.{Place}
use Rattle.wild_fates.specs.Orphaned.{orphan_place, orphans_from}

first_more : (s count : ℕ) → s < count → orphans_from s (count - s) ≡ orphan_place s ++ orphans_from (s + 1) (count - (s + 1))
first_more s count h = let e : count - s ≡ suc (count - (s + 1)) = omega (arith, h) in rw e refl

pub one_more : (s count : ℕ) (places next : List Place) → s < count → next ≡ places ++ orphan_place s → next ++ orphans_from (s + 1) (count - (s + 1)) ≡ places ++ orphans_from s (count - s)
one_more s count places next h e = ap (λ (ps : List Place). ps ++ orphans_from (s + 1) (count - (s + 1))) e ∙ append_assoc places (orphan_place s) (orphans_from (s + 1) (count - (s + 1))) ∙ ap (λ (ps : List Place). places ++ ps) (sym (first_more s count h))
