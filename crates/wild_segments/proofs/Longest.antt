-- Each run is a longest stretch of neighbouring sections.
use Rattle.std.proofs.Common.{◌≡◌, ◌∙◌, ℕ, ◌+◌, suc, Bool, true, false, not, ◌&&◌, cond, List, [], ◌∷◌, ◌++◌, length, refl, sym, ap, Option, Some, None, arith, append_assoc, length-append, slice_get, ◌⊎◌, inl, inr}
use Rattle.std.specs.List.{AllByRecursion, last_or, range_with_len}
use Rattle.wild_segments.specs.declared.kind.SegmentKind.{SegmentKind}
use Rattle.wild_segments.specs.declared.segment.PlacedSegment.{PlacedSegment}
use Rattle.wild_segments.specs.Kinds.{all_kinds, includes}
use Rattle.wild_segments.specs.Members.{Member}
use Rattle.wild_segments.specs.Runs.{goes_on, stays, begins, following, segment_of_kind, run_at, runs_at, runs, stack_segment, runs_and_stack}
use Rattle.wild_segments.specs.Segments.{segments_of}
use Rattle.wild_segments.specs.Laws.{IsStretch, could_join, IsLongestRun, RunsAreLongest}

pub all-append : (P : PlacedSegment → Type 0) (xs ys : List PlacedSegment) → AllByRecursion P xs → AllByRecursion P ys → AllByRecursion P (xs ++ ys)
all-append P [] ys p q = q
all-append P (x ∷ xs) ys p q = (p.0, all-append P xs ys p.1 q)

-- ---- what follows the first section of a run

-- the sections that follow in the run that holds p
abbrev others : SegmentKind → Member → List Member → List Member
others kind p [] = []
others kind p (m ∷ ms) = cond (stays kind (Some p) m) (m ∷ others kind m ms) []

-- the sections behind these
abbrev rest : SegmentKind → Member → List Member → List Member
rest kind p [] = []
rest kind p (m ∷ ms) = cond (stays kind (Some p) m) (rest kind m ms) (m ∷ ms)

both_true : (a b c : Bool) → (a && (b && c)) ≡ true → (b ≡ true) × (c ≡ true)
both_true true true true h = (refl, refl)
both_true true true false h = cc
both_true true false c h = cc
both_true false b c h = cc

parted : (kind : SegmentKind) (p : Member) (ms : List Member) → ms ≡ others kind p ms ++ rest kind p ms
parted kind p [] = refl
parted kind p (m ∷ ms) = by (stays kind (Some p) m) (parted kind m ms) where
  by : (b : Bool) → ms ≡ others kind m ms ++ rest kind m ms → m ∷ ms ≡ cond b (m ∷ others kind m ms) [] ++ cond b (rest kind m ms) (m ∷ ms)
  by true ih = ap (λ (xs : List Member). m ∷ xs) ih
  by false ih = refl

numbered : (kind : SegmentKind) (p : Member) (n : ℕ) (ms : List Member) → following kind p n ms ≡ range_with_len n (length (others kind p ms))
numbered kind p n [] = refl
numbered kind p n (m ∷ ms) = by (stays kind (Some p) m) (numbered kind m (n + 1) ms) where
  by : (b : Bool) → following kind m (n + 1) ms ≡ range_with_len (n + 1) (length (others kind m ms)) → cond b (n ∷ following kind m (n + 1) ms) [] ≡ range_with_len n (length (cond b (m ∷ others kind m ms) []))
  by true ih = ap (λ (ns : List ℕ). n ∷ ns) ih
  by false ih = refl

stretched : (kind : SegmentKind) (p : Member) (ms : List Member) → IsStretch kind p (others kind p ms)
stretched kind p [] = tt
stretched kind p (m ∷ ms) = by (stays kind (Some p) m) refl (stretched kind m ms) where
  by : (b : Bool) → stays kind (Some p) m ≡ b → IsStretch kind m (others kind m ms) → IsStretch kind p (cond b (m ∷ others kind m ms) [])
  by true e ih = let h = both_true (includes kind p) (includes kind m) (goes_on p m) e in (h.0, h.1, ih)
  by false e ih = tt

ended : (kind : SegmentKind) (p : Member) (ms : List Member) → could_join kind (last_or (Some p) (others kind p ms)) (slice_get (rest kind p ms) 0) ≡ false
ended kind p [] = refl
ended kind p (m ∷ ms) = by (stays kind (Some p) m) refl (ended kind m ms) where
  by : (b : Bool) → stays kind (Some p) m ≡ b → could_join kind (last_or (Some m) (others kind m ms)) (slice_get (rest kind m ms) 0) ≡ false
      → could_join kind (last_or (Some p) (cond b (m ∷ others kind m ms) [])) (slice_get (cond b (rest kind m ms) (m ∷ ms)) 0) ≡ false
  by true e ih = ih
  by false e ih = e

-- ---- runs

begun : (i s : Bool) → (i && not s) ≡ true → (i ≡ true) × (s ≡ false)
begun true true h = cc
begun true false h = (refl, refl)
begun false s h = cc

-- what is said of each segment
abbrev Said : List Member → PlacedSegment → Type 0
Said all s = IsLongestRun all s ⊎ (s ≡ stack_segment)

module _ (all done : List Member) (p : Option Member) (n : ℕ) (m : Member) (ms : List Member) (whole : done ++ m ∷ ms ≡ all) (last : last_or None done ≡ p) (number : length done ≡ n) where
  longest : (kind : SegmentKind) → begins kind p m ≡ true → IsLongestRun all (segment_of_kind kind (n ∷ following kind m (n + 1) ms))
  longest kind h =
      let first = begun (includes kind m) (stays kind p m) h in
      record {
        kind = kind;
        before = done;
        first = m;
        others = others kind m ms;
        behind = rest kind m ms;
        parts = sym whole ∙ ap (λ (xs : List Member). done ++ m ∷ xs) (parted kind m ms);
        segment = ap (λ (ns : List ℕ). segment_of_kind kind (n ∷ ns)) (numbered kind m (n + 1) ms) ∙ ap (λ (k : ℕ). segment_of_kind kind (range_with_len k (suc (length (others kind m ms))))) (sym number);
        longest = record {
          included = first.0;
          stretch = stretched kind m ms;
          begins = ap (λ (q : Option Member). stays kind q m) last ∙ first.1;
          ends = ended kind m ms;
        };
      }

  at_kind : (kind : SegmentKind) → AllByRecursion (Said all) (run_at kind p n (m ∷ ms))
  at_kind kind = by (begins kind p m) refl where
    by : (b : Bool) → begins kind p m ≡ b → AllByRecursion (Said all) (cond b (segment_of_kind kind (n ∷ following kind m (n + 1) ms) ∷ []) [])
    by true e = (inl (longest kind e), tt)
    by false e = tt

  at_kinds : (kinds : List SegmentKind) → AllByRecursion (Said all) (runs_at kinds p n (m ∷ ms))
  at_kinds [] = tt
  at_kinds (kind ∷ kinds) = all-append (Said all) (run_at kind p n (m ∷ ms)) (runs_at kinds p n (m ∷ ms)) (at_kind kind) (at_kinds kinds)

last_is : (q : Option Member) (done : List Member) (m : Member) → last_or q (done ++ m ∷ []) ≡ Some m
last_is q [] m = refl
last_is q (x ∷ xs) m = last_is (Some x) xs m

runs_said : (all done : List Member) (p : Option Member) (n : ℕ) (ms : List Member) → done ++ ms ≡ all → last_or None done ≡ p → length done ≡ n → AllByRecursion (Said all) (runs p n ms)
runs_said all done p n [] whole last number = tt
runs_said all done p n (m ∷ ms) whole last number =
    let longer = length-append done (m ∷ []) in
    all-append (Said all) (runs_at all_kinds p n (m ∷ ms)) (runs (Some m) (n + 1) ms)
    (at_kinds all done p n m ms whole last number all_kinds)
    (runs_said all (done ++ m ∷ []) (Some m) (n + 1) ms (append_assoc done (m ∷ []) ms ∙ whole) (last_is None done m) (omega arith))

pub runs_longest : RunsAreLongest
unfolding segments_of runs_and_stack
runs_longest ms = all-append (Said ms) (runs None 0 ms) (stack_segment ∷ []) (runs_said ms [] None 0 ms refl refl refl) (inr refl, tt)
