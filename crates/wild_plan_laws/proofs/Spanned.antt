-- Sections stand, and those that are counted lie apart.
use Rattle.std.proofs.Common.{◌≡◌, ◌∙◌, ℕ, zero, suc, ◌+◌, ◌<◌, ◌≤◌, Bool, false, not, List, [], ◌∷◌, ◌++◌, length, Some, refl, ap, arith}
use Rattle.std.specs.Prelude.{slice_get}
use Rattle.std.proofs.lemmas.Bool.{lt-ltb, and_from, both_ways}
use Rattle.wild_value_spec.specs.Known.{Known, IsPart, Start, Load, End, number_at}
use Rattle.wild_plan_spec.specs.declared.placed.PlacedLocation.{PlacedLocation}
use Rattle.wild_plan_spec.specs.Facts.{Facts}
use Rattle.wild_plan_spec.specs.Ground.{Ground}
use Rattle.wild_plan_spec.specs.Overlaps.{shares}
use Rattle.wild_plan_spec.specs.Places.{Place}
use Rattle.wild_plan_spec.specs.Steps.{State, is_floating}
use Rattle.wild_walk_laws.proofs.Entries.{known_number, one_number}
use Rattle.wild_walk_laws.proofs.Growing.{Grows, IsPrefix}
use Rattle.wild_plan_laws.specs.Holding.{AreWordsIn, SectionHolds, LaidSectionStands, Spans}
use Rattle.wild_plan_laws.specs.Sharing.{NoneShares}
use Rattle.wild_walk_laws.proofs.Numbered.{up_to}

-- ---- locations

-- what is listed stays where it is
listed_still : (xs zs : List PlacedLocation) (i : ℕ) (l : PlacedLocation) → slice_get xs i ≡ Some l → slice_get (xs ++ zs) i ≡ Some l
listed_still [] zs i l there = absurd (cc)
listed_still (x ∷ xs) zs zero l there = there
listed_still (x ∷ xs) zs (suc i) l there = listed_still xs zs i l there

pub listed_last : (xs : List PlacedLocation) (l : PlacedLocation) → slice_get (xs ++ l ∷ []) (length xs) ≡ Some l
listed_last [] l = refl
listed_last (x ∷ xs) l = listed_last xs l

words_before : (places : List Place) (xs ys : List PlacedLocation) (s : ℕ) → IsPrefix xs ys → AreWordsIn places ys s → AreWordsIn places xs s
words_before places xs ys s part words i l e there = words i l e (ap (λ (zs : List PlacedLocation). slice_get zs i) part.1 ∙ listed_still xs part.0 i l there)

-- ---- sections

pub spans_grow : (known more : Known) (s start end : ℕ) → IsPart known more → Spans known s start end → Spans more s start end
spans_grow known more s start end part h = record { starts = part (Start s) start h.starts; ends = part (End s) end h.ends }

stands_grow : (places : List Place) (st next : State) (s : ℕ) (f : Facts) → Grows st next → LaidSectionStands places st s f → LaidSectionStands places next s f
stands_grow places st next s f on h = record {
  start = h.start;
  load = h.load;
  end = h.end;
  spans = spans_grow st.known next.known s h.start h.end on.known h.spans;
  loads = on.known (Load s) h.load h.loads;
  begins = h.begins;
  forward = h.forward;
  below = λ small words. h.below small (words_before places st.locations next.locations s on.locations words);
}

-- a section holds the addresses that it held
held_before : (known more : Known) (s start end x : ℕ) → IsPart known more → Spans known s start end → SectionHolds more s x → SectionHolds known s x
held_before known more s start end x part spans holds =
    let first = one_number more (Start s) start holds.start (part (Start s) start spans.starts) holds.spans.starts in
    let last = one_number more (End s) end holds.end (part (End s) end spans.ends) holds.spans.ends in
    record { start = start; end = end; spans = spans; from = omega (arith, first); to = omega (arith, last) }

-- where a section that does not float shares no addresses with one that stands, none is one of both
shares_none : (floating : ℕ → Bool) (known : Known) (s start end x : ℕ) → floating s ≡ false → shares floating known start end s ≡ false → SectionHolds known s x → start ≤ x → x < end → ⊥
unfolding shares
shares_none floating known s start end x counted e holds low high =
    let first : number_at known (Start s) ≡ holds.start = known_number known (Start s) holds.start holds.spans.starts in
    let last : number_at known (End s) ≡ holds.end = known_number known (End s) holds.end holds.spans.ends in
    both_ways _ e
    (and_from _ _ (ap not counted)
    (and_from _ _ (lt-ltb (number_at known (Start s)) (number_at known (End s)) (omega (arith, first, last)))
    (and_from _ _ (lt-ltb start end (omega (arith, low, high)))
    (and_from _ _ (lt-ltb start (number_at known (End s)) (omega (arith, last, low))) (lt-ltb (number_at known (Start s)) end (omega (arith, first, high)))))))

module _ (ground : Ground) (places : List Place) where
  abbrev Counted : ℕ → Type 0
  Counted s = (ground.facts s).floating ≡ false

  -- the first n sections stand, and no address is one of two of them that are counted
  pub record AreApart (n : ℕ) (st : State) : Type 0 where
    pub stand : (s : ℕ) → s < n → LaidSectionStands places st s (ground.facts s)
    pub apart : (s u x : ℕ) → s < n → u < n → Counted s → Counted u → SectionHolds st.known s x → SectionHolds st.known u x → s ≡ u

  pub apart_on : (n : ℕ) (st next : State) → Grows st next → AreApart n st → AreApart n next
  apart_on n st next on h = record {
    stand = λ s low. stands_grow places st next s (ground.facts s) on (h.stand s low);
    apart = λ s u x low high f g one other.
        let first = h.stand s low in
        let second = h.stand u high in
        h.apart s u x low high f g
        (held_before st.known next.known s first.start first.end x on.known first.spans one) (held_before st.known next.known u second.start second.end x on.known second.spans other);
  }

  -- section s stands too, which shares no address with an earlier one if it is counted
  module _ (s start end : ℕ) (st next : State) (on : Grows st next) (alone : Counted s → NoneShares (is_floating ground) st.known start end s)
      (own : LaidSectionStands places next s (ground.facts s)) (spans : Spans next.known s start end) (h : AreApart s st) where
    own_apart : (u x : ℕ) → u < s → Counted u → Counted s → SectionHolds next.known u x → SectionHolds next.known s x → ⊥
    own_apart u x low f g one other =
        let first = one_number next.known (Start s) start other.start spans.starts other.spans.starts in
        let last = one_number next.known (End s) end other.end spans.ends other.spans.ends in
        let stands = h.stand u low in
        shares_none (is_floating ground) st.known u start end x f (alone g u low) (held_before st.known next.known u stands.start stands.end x on.known stands.spans one) (omega (arith, first)) (omega (arith, last))

    pub one_apart : AreApart (s + 1) next
    one_apart =
        let all = apart_on s st next on h in
        record {
          stand = λ u low. up_to s u (λ v. LaidSectionStands places next v (ground.facts v)) (omega (arith, low)) (all.stand u) own;
          apart = λ u v x low high f g one other. up_to s u (λ w. Counted w → SectionHolds next.known w x → w ≡ v) (omega (arith, low))
              (λ lt counts holds. up_to s v (λ w. Counted w → SectionHolds next.known w x → u ≡ w) (omega (arith, high))
              (λ below too there. all.apart u v x lt below counts too holds there) (λ too there. absurd (own_apart u x lt counts too holds there)) g other)
              (λ counts holds. up_to s v (λ w. Counted w → SectionHolds next.known w x → s ≡ w) (omega (arith, high))
              (λ below too there. absurd (own_apart v x below too counts there holds)) (λ too there. refl) g other)
              f one;
        }
