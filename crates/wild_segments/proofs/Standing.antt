-- Each section stands in one segment of each kind that includes it.
use Rattle.std.proofs.Common.{◌≡◌, ◌∙◌, ℕ, ◌+◌, ◌<◌, ◌==◌, zero, suc, Bool, true, false, not, ◌&&◌, ◌||◌, cond, List, [], ◌∷◌, ◌++◌, refl, sym, ap, Option, Some, None, arith, slice_get}
use Rattle.std.proofs.lemmas.Bool.Decides.{nat_tests}
use Rattle.std.proofs.lemmas.List.Recursion.{is_count_by}
use Rattle.std.proofs.lemmas.Option.{same_Some}
use Rattle.wild_segments.specs.declared.kind.SegmentKind.{SegmentKind}
use Rattle.wild_segments.specs.declared.kind.SegmentKind.TheVariants as k
use Rattle.wild_segments.specs.declared.segment.PlacedSegment.{PlacedSegment}
use Rattle.wild_segments.specs.Kinds.{all_kinds, includes, type_of, flags_of}
use Rattle.wild_segments.specs.Members.{Member}
use Rattle.wild_segments.specs.Runs.{goes_on, begins, following, run_from, segment_of_kind, runs_at, runs, stack_segment, runs_and_stack}
use Rattle.wild_segments.specs.Segments.{segments_of}
use Rattle.wild_segments.specs.Laws.{is_among, holds_as, EachStandsOnce}

abbrev one_if : Bool → ℕ
one_if b = cond b 1 0

-- how many segments of the kind hold the section
abbrev holders : SegmentKind → ℕ → List PlacedSegment → ℕ
holders kind x [] = 0
holders kind x (s ∷ ss) = cond (holds_as kind x s) (1 + holders kind x ss) (holders kind x ss)

holders-append : (kind : SegmentKind) (x : ℕ) (ss ts : List PlacedSegment) → holders kind x (ss ++ ts) ≡ holders kind x ss + holders kind x ts
holders-append kind x [] ts = omega arith
holders-append kind x (s ∷ ss) ts = by (holds_as kind x s) (holders-append kind x ss ts) where
  by : (b : Bool) → holders kind x (ss ++ ts) ≡ holders kind x ss + holders kind x ts → cond b (1 + holders kind x (ss ++ ts)) (holders kind x (ss ++ ts)) ≡ cond b (1 + holders kind x ss) (holders kind x ss) + holders kind x ts
  by true ih = omega (arith, ih)
  by false ih = ih

-- a segment that is there under a condition, and holds the section under another
one_more : (kind : SegmentKind) (x : ℕ) (b v : Bool) (s : PlacedSegment) (ss : List PlacedSegment) → holds_as kind x s ≡ v → holders kind x (cond b (s ∷ []) [] ++ ss) ≡ one_if (b && v) + holders kind x ss
one_more kind x false v s ss e = omega arith
one_more kind x true v s ss e = by (holds_as kind x s) v e where
  by : (a v : Bool) → a ≡ v → cond a (1 + holders kind x ss) (holders kind x ss) ≡ one_if v + holders kind x ss
  by true true e = refl
  by true false e = cc
  by false true e = cc
  by false false e = omega arith

none_if : (b : Bool) → one_if (b && false) ≡ 0
none_if true = refl
none_if false = refl

-- of the segments that begin at section n only that of the kind counts
module _ (x : ℕ) (p : Option Member) (n : ℕ) (m : Member) (ms : List Member) where
  abbrev sum_of : (kind : SegmentKind) (a b c d : Bool) → Type 0
  sum_of kind a b c d = holders kind x (runs_at all_kinds p n (m ∷ ms)) ≡ one_if (begins k.ReadOnly p m && a) + (one_if (begins k.Executable p m && b) + (one_if (begins k.Writable p m && c) + (one_if (begins k.Tls p m && d) + 0)))

  abbrev among : SegmentKind → Bool
  among kind = is_among x (run_from kind n (m ∷ ms))

  abbrev segment : SegmentKind → PlacedSegment
  segment kind = segment_of_kind kind (run_from kind n (m ∷ ms))

  four : (kind : SegmentKind) (a b c d : Bool) → holds_as kind x (segment k.ReadOnly) ≡ a → holds_as kind x (segment k.Executable) ≡ b → holds_as kind x (segment k.Writable) ≡ c → holds_as kind x (segment k.Tls) ≡ d → sum_of kind a b c d
  four kind a b c d ha hb hc hd =
      let at : List SegmentKind → List PlacedSegment = λ (kinds : List SegmentKind). runs_at kinds p n (m ∷ ms) in
      let e1 = one_more kind x (begins k.ReadOnly p m) a (segment k.ReadOnly) (at (k.Executable ∷ k.Writable ∷ k.Tls ∷ [])) ha in
      let e2 = one_more kind x (begins k.Executable p m) b (segment k.Executable) (at (k.Writable ∷ k.Tls ∷ [])) hb in
      let e3 = one_more kind x (begins k.Writable p m) c (segment k.Writable) (at (k.Tls ∷ [])) hc in
      let e4 = one_more kind x (begins k.Tls p m) d (segment k.Tls) [] hd in
      omega (arith, e1, e2, e3, e4)

  one_at : (kind : SegmentKind) → holders kind x (runs_at all_kinds p n (m ∷ ms)) ≡ one_if (begins kind p m && among kind)
  unfolding type_of flags_of
  one_at k.ReadOnly = omega (arith, four k.ReadOnly (among k.ReadOnly) false false false refl refl refl refl, none_if (begins k.Executable p m), none_if (begins k.Writable p m), none_if (begins k.Tls p m))
  one_at k.Executable = omega (arith, four k.Executable false (among k.Executable) false false refl refl refl refl, none_if (begins k.ReadOnly p m), none_if (begins k.Writable p m), none_if (begins k.Tls p m))
  one_at k.Writable = omega (arith, four k.Writable false false (among k.Writable) false refl refl refl refl, none_if (begins k.ReadOnly p m), none_if (begins k.Executable p m), none_if (begins k.Tls p m))
  one_at k.Tls = omega (arith, four k.Tls false false false (among k.Tls) refl refl refl refl, none_if (begins k.ReadOnly p m), none_if (begins k.Executable p m), none_if (begins k.Writable p m))

-- ---- the run that goes on, and those that begin

-- the sections of the run that holds the section before
abbrev coming : SegmentKind → Option Member → ℕ → List Member → List ℕ
coming kind None n ms = []
coming kind (Some q) n ms = following kind q n ms

-- what follows a section follows in a kind that includes it
follows : (kind : SegmentKind) (x : ℕ) (q : Member) (n : ℕ) (ms : List Member) → one_if (includes kind q && is_among x (following kind q n ms)) ≡ one_if (is_among x (following kind q n ms))
follows kind x q n [] = none_if (includes kind q)
follows kind x q n (m ∷ ms) = by (includes kind q) (includes kind m && goes_on q m) where
  by : (i g : Bool) → one_if (i && is_among x (cond (i && g) (n ∷ following kind m (n + 1) ms) [])) ≡ one_if (is_among x (cond (i && g) (n ∷ following kind m (n + 1) ms) []))
  by true g = refl
  by false g = refl

-- a run holds the section where one begins there, or one goes on
both : (kind : SegmentKind) (x : ℕ) (p : Option Member) (n : ℕ) (m : Member) (ms : List Member)
    → one_if (begins kind p m && is_among x (run_from kind n (m ∷ ms))) + one_if (is_among x (coming kind p n (m ∷ ms))) ≡ one_if (includes kind m && is_among x (run_from kind n (m ∷ ms)))
both kind x None n m ms = by (includes kind m) where
  by : (i : Bool) → one_if ((i && true) && is_among x (run_from kind n (m ∷ ms))) + 0 ≡ one_if (i && is_among x (run_from kind n (m ∷ ms)))
  by true = omega arith
  by false = refl
both kind x (Some q) n m ms = by (includes kind m) (includes kind q) (goes_on q m) where
  by : (i j g : Bool) → one_if ((i && not (j && (i && g))) && is_among x (run_from kind n (m ∷ ms))) + one_if (is_among x (cond (j && (i && g)) (n ∷ following kind m (n + 1) ms) [])) ≡ one_if (i && is_among x (run_from kind n (m ∷ ms)))
  by true true true = omega arith
  by true true false = omega arith
  by true false g = omega arith
  by false true g = refl
  by false false g = refl

-- how often the section stands in the runs that begin with these, and in the one that goes on
abbrev count : SegmentKind → ℕ → Option Member → ℕ → List Member → ℕ
count kind x p n ms = holders kind x (runs p n ms) + one_if (is_among x (coming kind p n ms))

one_section : (kind : SegmentKind) (x : ℕ) (p : Option Member) (n : ℕ) (m : Member) (ms : List Member)
    → count kind x p n (m ∷ ms) ≡ one_if (includes kind m && is_among x (run_from kind n (m ∷ ms))) + holders kind x (runs (Some m) (n + 1) ms)
one_section kind x p n m ms =
    let e1 = holders-append kind x (runs_at all_kinds p n (m ∷ ms)) (runs (Some m) (n + 1) ms) in
    let e2 = one_at x p n m ms kind in
    let e3 = both kind x p n m ms in
    omega (arith, e1, e2, e3)

-- another section than the first counts as it does behind that
other : (kind : SegmentKind) (x : ℕ) (p : Option Member) (n : ℕ) (m : Member) (ms : List Member) → (n == x) ≡ false → count kind x p n (m ∷ ms) ≡ count kind x (Some m) (n + 1) ms
other kind x p n m ms differs =
    let e1 = one_section kind x p n m ms in
    let e2 : one_if (includes kind m && ((n == x) || is_among x (following kind m (n + 1) ms))) ≡ one_if (includes kind m && is_among x (following kind m (n + 1) ms)) = ap (λ (b : Bool). one_if (includes kind m && (b || is_among x (following kind m (n + 1) ms)))) differs in
    let e3 = follows kind x m (n + 1) ms in
    omega (arith, e1, e2, e3)

-- a section before these counts nothing
none_before : (kind : SegmentKind) (x : ℕ) (p : Option Member) (n : ℕ) (ms : List Member) → x < n → count kind x p n ms ≡ 0
none_before kind x None n [] lt = refl
none_before kind x (Some q) n [] lt = refl
none_before kind x p n (m ∷ ms) lt =
    let differs : (n == x) ≡ false = grind (arith, nat_tests) in
    other kind x p n m ms differs ∙ none_before kind x (Some m) (n + 1) ms (omega arith)

true_if : (b : Bool) → one_if (b && true) ≡ one_if b
true_if true = refl
true_if false = refl

stands : (kind : SegmentKind) (x : ℕ) (p : Option Member) (n : ℕ) (ms : List Member) (i : ℕ) (q : Member) → n + i ≡ x → slice_get ms i ≡ Some q → count kind x p n ms ≡ one_if (includes kind q)
stands kind x p n [] i q at here = cc
stands kind x p n (m ∷ ms) zero q at here =
    let yes : (n == x) ≡ true = grind (arith, nat_tests) in
    let e1 = one_section kind x p n m ms in
    let e2 : one_if (includes kind m && ((n == x) || is_among x (following kind m (n + 1) ms))) ≡ one_if (includes kind m && true) = ap (λ (b : Bool). one_if (includes kind m && (b || is_among x (following kind m (n + 1) ms)))) yes in
    let e3 = true_if (includes kind m) in
    let e4 = none_before kind x (Some m) (n + 1) ms (omega arith) in
    let e5 : one_if (includes kind m) ≡ one_if (includes kind q) = ap (λ (r : Member). one_if (includes kind r)) (same_Some m q here) in
    omega (arith, e1, e2, e3, e4, e5)
stands kind x p n (m ∷ ms) (suc i) q at here =
    let differs : (n == x) ≡ false = grind (arith, nat_tests) in
    other kind x p n m ms differs ∙ stands kind x (Some m) (n + 1) ms i q (omega arith) here

no_stack : (kind : SegmentKind) (x : ℕ) → holders kind x (stack_segment ∷ []) ≡ 0
unfolding type_of flags_of
no_stack k.ReadOnly x = refl
no_stack k.Executable x = refl
no_stack k.Writable x = refl
no_stack k.Tls x = refl

pub each_stands : EachStandsOnce
unfolding segments_of runs_and_stack
each_stands ms kind x m here =
    let e1 = holders-append kind x (runs None 0 ms) (stack_segment ∷ []) in
    let e2 = no_stack kind x in
    let e3 = stands kind x None 0 ms x m (omega arith) here in
    let e4 : holders kind x (runs None 0 ms ++ stack_segment ∷ []) ≡ one_if (includes kind m) = omega (arith, e1, e2, e3) in
    sym (is_count_by (holders kind x) (holds_as kind x) refl (λ _ _. refl) (runs None 0 ms ++ stack_segment ∷ [])) ∙ e4
