-- The sections of one segment share their memory region.
use Rattle.std.proofs.Common.{◌≡◌, ◌∙◌, ℕ, ◌+◌, ◌==◌, suc, Bool, true, false, not, ◌&&◌, ◌||◌, cond, List, [], ◌∷◌, refl, sym, ap, Option, Some, None, arith, slice_get}
use Rattle.std.specs.List.{AllByRecursion}
use Rattle.std.proofs.lemmas.Bool.Decides.{nat_tests}
use Rattle.std.proofs.lemmas.Option.{same_Some}
use Rattle.std.proofs.lemmas.Slice.Eq.{bytes_eq-Decides}
use Rattle.wild_segments.specs.declared.kind.SegmentKind.{SegmentKind}
use Rattle.wild_segments.specs.declared.segment.PlacedSegment.{PlacedSegment}
use Rattle.wild_segments.specs.Kinds.{all_kinds, includes}
use Rattle.wild_segments.specs.Members.{Member}
use Rattle.wild_segments.specs.Runs.{same_region, goes_on, stays, begins, following, run_from, segment_of_kind, run_at, runs_at, runs, stack_segment, runs_and_stack}
use Rattle.wild_segments.specs.Segments.{segments_of}
use Rattle.wild_segments.specs.Laws.{is_among, SharesRegion, SegmentsShareRegions}
use Rattle.wild_segments.proofs.Longest.{all-append}

same_regions : (a b : Option (List ℕ)) → same_region a b ≡ true → a ≡ b
same_regions None None h = refl
same_regions (Some a) (Some b) h = ap Some ((bytes_eq-Decides a b).0 h)
same_regions None (Some b) h = cc
same_regions (Some a) None h = cc

both_true : (a b : Bool) → (a && b) ≡ true → b ≡ true
both_true true b h = h
both_true false b h = cc

next_region : (p m : Member) → goes_on p m ≡ true → p.region ≡ m.region
unfolding goes_on
next_region p m h = same_regions p.region m.region (both_true (not m.has_start) (same_region p.region m.region) h)

stay_region : (kind : SegmentKind) (p m : Member) → stays kind (Some p) m ≡ true → p.region ≡ m.region
stay_region kind p m h = next_region p m (both_true (includes kind m) (goes_on p m) (both_true (includes kind p) (includes kind m && goes_on p m) h))

module _ (look : ℕ → Option Member) where
  -- the sections from number n on are these
  abbrev Stand : ℕ → List Member → Type 0
  Stand n ms = (k : ℕ) → look (n + k) ≡ slice_get ms k

  next_stand : (n : ℕ) (m : Member) (ms : List Member) → Stand n (m ∷ ms) → Stand (n + 1) ms
  next_stand n m ms s k = let e : n + 1 + k ≡ n + suc k = omega arith in ap look e ∙ s (suc k)

  first_stand : (n : ℕ) (m : Member) (ms : List Member) → Stand n (m ∷ ms) → look n ≡ Some m
  first_stand n m ms s = let e : n ≡ n + 0 = omega arith in ap look e ∙ s 0

  -- section z, if there is one, has this region
  abbrev HasRegion : Option (List ℕ) → ℕ → Type 0
  HasRegion r z = (q : Member) → look z ≡ Some q → q.region ≡ r

  found : (n z : ℕ) (m : Member) → look n ≡ Some m → n ≡ z → HasRegion m.region z
  found n z m at same q here = let e : Some q ≡ Some m = sym here ∙ ap look (sym same) ∙ at in ap (λ (x : Member). x.region) (same_Some q m e)

  either : (n z : ℕ) (m : Member) (later : Bool) → look n ≡ Some m → (later ≡ true → HasRegion m.region z) → ((n == z) || later) ≡ true → HasRegion m.region z
  either n z m later at more h = by (n == z) refl h where
    by : (b : Bool) → (n == z) ≡ b → (b || later) ≡ true → HasRegion m.region z
    by true is w = let same : n ≡ z = grind (arith, nat_tests) in found n z m at same
    by false is w = more w

  follow : (kind : SegmentKind) (p : Member) (n : ℕ) (ms : List Member) → Stand n ms → (z : ℕ) → is_among z (following kind p n ms) ≡ true → HasRegion p.region z
  follow kind p n [] s z h = cc
  follow kind p n (m ∷ ms) s z h = by (stays kind (Some p) m) refl (follow kind m (n + 1) ms (next_stand n m ms s) z) h where
    by : (b : Bool) → stays kind (Some p) m ≡ b → (is_among z (following kind m (n + 1) ms) ≡ true → HasRegion m.region z) → is_among z (cond b (n ∷ following kind m (n + 1) ms) []) ≡ true → HasRegion p.region z
    by true e more w q here = either n z m (is_among z (following kind m (n + 1) ms)) (first_stand n m ms s) more w q here ∙ sym (stay_region kind p m e)
    by false e more w q here = cc

  in_run : (kind : SegmentKind) (n : ℕ) (m : Member) (ms : List Member) → Stand n (m ∷ ms) → (z : ℕ) → is_among z (run_from kind n (m ∷ ms)) ≡ true → HasRegion m.region z
  in_run kind n m ms s z h = either n z m (is_among z (following kind m (n + 1) ms)) (first_stand n m ms s) (follow kind m (n + 1) ms (next_stand n m ms s) z) h

  abbrev Shares : PlacedSegment → Type 0
  Shares s = (i j : ℕ) (m n : Member) → is_among i s.sections ≡ true → is_among j s.sections ≡ true → look i ≡ Some m → look j ≡ Some n → m.region ≡ n.region

  at_kind : (kind : SegmentKind) (p : Option Member) (n : ℕ) (m : Member) (ms : List Member) → Stand n (m ∷ ms) → AllByRecursion Shares (run_at kind p n (m ∷ ms))
  at_kind kind p n m ms s = by (begins kind p m) where
    shares : Shares (segment_of_kind kind (run_from kind n (m ∷ ms)))
    shares i j a b hi hj ai aj = in_run kind n m ms s i hi a ai ∙ sym (in_run kind n m ms s j hj b aj)

    by : (b : Bool) → AllByRecursion Shares (cond b (segment_of_kind kind (run_from kind n (m ∷ ms)) ∷ []) [])
    by true = (shares, tt)
    by false = tt

  at_kinds : (kinds : List SegmentKind) (p : Option Member) (n : ℕ) (m : Member) (ms : List Member) → Stand n (m ∷ ms) → AllByRecursion Shares (runs_at kinds p n (m ∷ ms))
  at_kinds [] p n m ms s = tt
  at_kinds (kind ∷ kinds) p n m ms s = all-append Shares (run_at kind p n (m ∷ ms)) (runs_at kinds p n (m ∷ ms)) (at_kind kind p n m ms s) (at_kinds kinds p n m ms s)

  runs_share : (p : Option Member) (n : ℕ) (ms : List Member) → Stand n ms → AllByRecursion Shares (runs p n ms)
  runs_share p n [] s = tt
  runs_share p n (m ∷ ms) s = all-append Shares (runs_at all_kinds p n (m ∷ ms)) (runs (Some m) (n + 1) ms) (at_kinds all_kinds p n m ms s) (runs_share (Some m) (n + 1) ms (next_stand n m ms s))

stands_at_0 : (ms : List Member) → Stand (slice_get ms) 0 ms
stands_at_0 ms k = let e : 0 + k ≡ k = omega arith in ap (slice_get ms) e

pub segments_share : SegmentsShareRegions
unfolding segments_of runs_and_stack
segments_share ms = all-append (SharesRegion ms) (runs None 0 ms) (stack_segment ∷ []) (runs_share (slice_get ms) None 0 ms (stands_at_0 ms))
    ((λ (i j : ℕ) (m n : Member) (p : false ≡ true) (q : false ≡ true) (a : slice_get ms i ≡ Some m) (b : slice_get ms j ≡ Some n). cc), tt)
