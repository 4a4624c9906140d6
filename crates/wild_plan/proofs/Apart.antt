-- What the ends of sections say: of those that share an address the one that starts lowest is the first that ends behind it.
use Rattle.std.proofs.Common.{◌≡◌, ◌∙◌, ◌⊎◌, ℕ, zero, suc, ◌+◌, ◌<◌, ◌≤◌, nat_lt, ◌==◌, ◌&&◌, not, Bool, true, false, cond, Option, Some, None, refl, sym, ap, subst, inl, inr, ⊎_elim, arith}
use Rattle.std.proofs.lemmas.Bool.{cases_lt, ltb-true, ltb-false, lt-ltb, and_from, and_parts, both_ways, eq-eqb, eqb-true}
use Rattle.wild_value_spec.specs.Known.{Known, IsPart, Start, End, number_at}
use Rattle.wild_plan_spec.specs.Overlaps.{shares, lower_section, lowest_sharing}
use Rattle.wild_plan_spec.specs.Places.{Place, Close}
use Rattle.wild_walk_laws.proofs.Entries.{known_number, one_number, not_both}
use Rattle.wild_walk_laws.proofs.Numbered.{up_to}
use Rattle.wild_plan.specs.Taken.{Ends, NoneEnds, EndsFirst, with_end, Spans, HasEnded, AreApart, AreTaken, AreTakenBefore}

module _ (floating : ℕ → Bool) (known : Known) where
  -- ---- the lowest of those that share

  module _ (start end : ℕ) where
    abbrev sharing : ℕ → Bool
    sharing s = shares floating known start end s

    abbrev at : ℕ → ℕ
    at s = number_at known (Start s)

    -- of the first n sections this is the lowest, if any shares
    abbrev Found : ℕ → Option ℕ → Type 0
    Found n None = (u : ℕ) → u < n → sharing u ≡ false
    Found n (Some s) = (sharing s ≡ true) × (s < n) × ((u : ℕ) → u < n → sharing u ≡ true → at s ≤ at u)

    -- of an earlier one and section n, which shares too
    chosen : (n s : ℕ) (b : Bool) → nat_lt (at n) (at s) ≡ b → sharing n ≡ true → Found n (Some s) → Found (suc n) (cond b (Some n) (Some s))
    chosen n s true lower e h =
        let less = ltb-true (at n) (at s) lower in
        (e, omega arith, λ u low f. up_to n u (λ v. sharing v ≡ true → at n ≤ at v) (omega (arith, low)) (λ before g. let least = h.2 u before g in omega (arith, less, least)) (λ g. omega arith) f)
    chosen n s false lower e h =
        let more = ltb-false (at n) (at s) lower in
        let below = h.1 in
        (h.0, omega (arith, below), λ u low f. up_to n u (λ v. sharing v ≡ true → at s ≤ at v) (omega (arith, low)) (λ before g. h.2 u before g) (λ g. more) f)

    one_more : (n : ℕ) (o : Option ℕ) (b : Bool) → sharing n ≡ b → Found n o → Found (suc n) (lower_section known o (cond b (Some n) None))
    one_more n None false e h = λ u low. up_to n u (λ v. sharing v ≡ false) (omega (arith, low)) (λ before. h u before) e
    one_more n None true e h = (e, omega arith, λ u low f. up_to n u (λ v. sharing v ≡ true → at n ≤ at v) (omega (arith, low)) (λ before g. absurd (both_ways (sharing u) (h u before) g)) (λ g. omega arith) f)
    one_more n (Some s) false e h =
        let below = h.1 in
        (h.0, omega (arith, below), λ u low f. up_to n u (λ v. sharing v ≡ true → at s ≤ at v) (omega (arith, low)) (λ before g. h.2 u before g) (λ g. absurd (both_ways (sharing n) e g)) f)
    one_more n (Some s) true e h = chosen n s (nat_lt (at n) (at s)) refl e h

    found : (n : ℕ) → Found n (lowest_sharing floating known start end n)
    found zero = λ u low. absurd (omega (arith, low))
    found (suc n) = one_more n (lowest_sharing floating known start end n) (sharing n) refl (found n)

    none_by : (n : ℕ) (o : Option ℕ) → Found n o → o ≡ None → (u : ℕ) → u < n → sharing u ≡ false
    none_by n None h e = h
    none_by n (Some s) h e = absurd (cc)

    -- where there is none, none shares
    none_shares : (n : ℕ) → lowest_sharing floating known start end n ≡ None → (u : ℕ) → u < n → sharing u ≡ false
    none_shares n e = none_by n (lowest_sharing floating known start end n) (found n) e

    is_none : (n : ℕ) (o : Option ℕ) → Found n o → ((u : ℕ) → u < n → sharing u ≡ true → ⊥) → o ≡ None
    is_none n None h none = refl
    is_none n (Some s) h none = absurd (none s h.1 h.0)

    is_one : (n s : ℕ) (o : Option ℕ) → Found n o → s < n → sharing s ≡ true → ((u : ℕ) → u < n → sharing u ≡ true → (u ≡ s) ⊎ (at s < at u)) → o ≡ Some s
    is_one n s None h low e least = absurd (both_ways (sharing s) (h s low) e)
    is_one n s (Some u) h low e least = ⊎_elim (λ same. ap Some same) (λ less. let more = h.2 s low e in absurd (omega (arith, less, more))) (least u h.1 h.0)

  -- ---- sections that share

  -- a section that has ended, and shares
  record Sharing (start end s : ℕ) : Type 0 where
    first : ℕ
    last : ℕ
    spans : Spans floating known s first last
    filled : start < end
    after : start < last
    before : first < end

  is_not : (b : Bool) → not b ≡ true → b ≡ false
  is_not true e = absurd (cc)
  is_not false e = refl

  is_sharing : (start end s : ℕ) → HasEnded floating known s → shares floating known start end s ≡ true → Sharing start end s
  unfolding shares
  is_sharing start end s h e =
      let first = known_number known (Start s) h.starts.0 h.starts.1 in
      let last = known_number known (End s) h.ends.0 h.ends.1 in
      let low : ℕ = number_at known (Start s) in
      let high : ℕ = number_at known (End s) in
      let one = and_parts (not (floating s)) (nat_lt low high && (nat_lt start end && (nat_lt start high && nat_lt low end))) e in
      let two = and_parts (nat_lt low high) (nat_lt start end && (nat_lt start high && nat_lt low end)) one.1 in
      let three = and_parts (nat_lt start end) (nat_lt start high && nat_lt low end) two.1 in
      let four = and_parts (nat_lt start high) (nat_lt low end) three.1 in
      let own = ltb-true low high two.0 in
      let filled = ltb-true start end three.0 in
      let after = ltb-true start high four.0 in
      let before = ltb-true low end four.1 in
      record {
        first = h.starts.0;
        last = h.ends.0;
        spans = record { counted = is_not (floating s) one.0; starts = h.starts.1; ends = h.ends.1; filled = omega (arith, own, first, last) };
        filled = filled;
        after = omega (arith, after, last);
        before = omega (arith, before, first);
      }

  share : (start end s first last : ℕ) → Spans floating known s first last → start < end → start < last → first < end → shares floating known start end s ≡ true
  unfolding shares
  share start end s first last h filled after before =
      let low : number_at known (Start s) ≡ first = known_number known (Start s) first h.starts in
      let high : number_at known (End s) ≡ last = known_number known (End s) last h.ends in
      let own = h.filled in
      and_from _ _ (ap not h.counted)
      (and_from _ _ (lt-ltb (number_at known (Start s)) (number_at known (End s)) (omega (arith, own, low, high)))
      (and_from _ _ (lt-ltb start end filled)
      (and_from _ _ (lt-ltb start (number_at known (End s)) (omega (arith, after, high))) (lt-ltb (number_at known (Start s)) end (omega (arith, before, low))))))

  -- ---- the first that ends behind a start

  module _ (n : ℕ) (ends : Ends) (taken : AreTaken floating known n ends) (start end : ℕ) where
    sharer : (u : ℕ) → u < n → shares floating known start end u ≡ true → Sharing start end u
    sharer u low e = is_sharing start end u (taken.below.each u low) e

    -- where no section ends behind the start, none shares
    pub none_behind : NoneEnds ends start → lowest_sharing floating known start end n ≡ None
    none_behind none = is_none start end n _ (found start end n) (λ u low e.
        let h = sharer u low e in not_both (ends h.last) u (none h.last h.after) (taken.listed u h.first h.last low h.spans))

    -- where there are no addresses, none shares
    pub none_empty : end ≤ start → lowest_sharing floating known start end n ≡ None
    none_empty empty = is_none start end n _ (found start end n) (λ u low e. let filled = (sharer u low e).filled in omega (arith, empty, filled))

    module _ (s : ℕ) (first : EndsFirst ends start s) where
      one : (s < n) × (a : ℕ) × Spans floating known s a first.end
      one = taken.only s first.end first.there

      -- another one that shares starts no lower than it ends
      beside : (u : ℕ) (low : u < n) (e : shares floating known start end u ≡ true) → (u ≡ s) ⊎ (first.end ≤ (sharer u low e).first)
      beside u low e =
          let h = sharer u low e in
          let reaches = first.first u h.last h.after (taken.listed u h.first h.last low h.spans) in
          let own = one.2.filled in
          ⊎_elim (λ same. inl same) (λ apart. ⊎_elim (λ lower. absurd (omega (arith, lower, reaches, own))) (λ higher. inr higher) apart)
          (taken.below.apart u s h.first h.last one.1 first.end low one.0 h.spans one.2)

      -- it shares where it starts below the end
      pub first_shares : start < end → number_at known (Start s) < end → lowest_sharing floating known start end n ≡ Some s
      first_shares filled below =
          let spans = one.2 in
          let own = spans.filled in
          let behind = first.behind in
          let at_first = known_number known (Start s) one.1 spans.starts in
          is_one start end n s _ (found start end n) one.0 (share start end s one.1 first.end spans filled behind (omega (arith, below, at_first)))
          (λ u low e. let h = sharer u low e in
          let at_other = known_number known (Start u) h.first h.spans.starts in
          ⊎_elim (λ same. inl same) (λ higher. inr (omega (arith, higher, own, at_first, at_other))) (beside u low e))

      -- and else none does
      pub first_shares_not : end ≤ number_at known (Start s) → lowest_sharing floating known start end n ≡ None
      first_shares_not above =
          let spans = one.2 in
          let own = spans.filled in
          let at_first = known_number known (Start s) one.1 spans.starts in
          is_none start end n _ (found start end n)
          (λ u low e. let h = sharer u low e in
          let before = h.before in
          let at_other = known_number known (Start u) h.first h.spans.starts in
          ⊎_elim (λ same. let numbers : number_at known (Start u) ≡ number_at known (Start s) = ap (λ (v : ℕ). number_at known (Start v)) same in omega (arith, above, before, at_other, numbers))
          (λ higher. omega (arith, above, before, higher, own, at_first)) (beside u low e))

  -- ---- more is known

  module _ (more : Known) (part : IsPart known more) where
    spans_before : (s start end : ℕ) → HasEnded floating known s → Spans floating more s start end → Spans floating known s start end
    spans_before s start end h spans =
        let first = one_number more (Start s) h.starts.0 start (part (Start s) h.starts.0 h.starts.1) spans.starts in
        let last = one_number more (End s) h.ends.0 end (part (End s) h.ends.0 h.ends.1) spans.ends in
        record { counted = spans.counted; starts = h.starts.1 ∙ ap Some first; ends = h.ends.1 ∙ ap Some last; filled = spans.filled }

    spans_on : (s start end : ℕ) → Spans floating known s start end → Spans floating more s start end
    spans_on s start end spans = record { counted = spans.counted; starts = part (Start s) start spans.starts; ends = part (End s) end spans.ends; filled = spans.filled }

    ended_on : (s : ℕ) → HasEnded floating known s → HasEnded floating more s
    ended_on s h = record { starts = (h.starts.0, part (Start s) h.starts.0 h.starts.1); ends = (h.ends.0, part (End s) h.ends.0 h.ends.1) }

    pub apart_on : (n : ℕ) → AreApart floating known n → AreApart floating more n
    apart_on n h = record {
      each = λ s low. ended_on s (h.each s low);
      apart = λ s u start end other_start other_end low high one other.
          h.apart s u start end other_start other_end low high (spans_before s start end (h.each s low) one) (spans_before u other_start other_end (h.each u high) other);
    }

    pub taken_on : (n : ℕ) (ends : Ends) → AreTaken floating known n ends → AreTaken floating more n ends
    taken_on n ends h = record {
      below = apart_on n h.below;
      listed = λ s start end low spans. h.listed s start end low (spans_before s start end (h.below.each s low) spans);
      only = λ s end there. let own = h.only s end there in (own.0, own.1, spans_on s own.1 end own.2);
    }

    pub taken_before_on : (p : Place) (ends : Ends) → AreTakenBefore floating known p ends → AreTakenBefore floating more p ends
    taken_before_on (Close s rest) ends h = taken_on s ends h
    taken_before_on p ends h = tt

    -- section s has ended too, which shares no address with an earlier one unless it floats
    module _ (s start end : ℕ) (starts : more (Start s) ≡ Some start) (stops : more (End s) ≡ Some end)
        (alone : floating s ≡ false → lowest_sharing floating known start end s ≡ None) (h : AreApart floating known s) where
      beside_own : (u a b c d : ℕ) → u < s → Spans floating more u a b → Spans floating more s c d → (b ≤ c) ⊎ (d ≤ a)
      beside_own u a b c d low one own =
          let first = one_number more (Start s) start c starts own.starts in
          let last = one_number more (End s) end d stops own.ends in
          let filled = own.filled in
          let before = spans_before u a b (h.each u low) one in
          let unshared = none_shares start end s (alone own.counted) u low in
          ⊎_elim (λ after. ⊎_elim (λ below. absurd (both_ways _ unshared (share start end u a b before (omega (arith, filled, first, last)) after below)))
          (λ above. inr (omega (arith, above, last))) (cases_lt a end))
          (λ above. inl (omega (arith, above, first))) (cases_lt start b)

      pub apart_more : AreApart floating more (s + 1)
      apart_more =
          let all = apart_on s h in
          record {
            each = λ u low. up_to s u (HasEnded floating more) (omega (arith, low)) (all.each u) (record { starts = (start, starts); ends = (end, stops) });
            apart = λ u v a b c d low high one other.
                up_to s u (λ w. Spans floating more w a b → (w ≡ v) ⊎ (b ≤ c) ⊎ (d ≤ a)) (omega (arith, low))
                (λ below first. up_to s v (λ w. Spans floating more w c d → (u ≡ w) ⊎ (b ≤ c) ⊎ (d ≤ a)) (omega (arith, high))
                (λ under second. all.apart u v a b c d below under first second) (λ second. inr (beside_own u a b c d below first second)) other)
                (λ first. up_to s v (λ w. Spans floating more w c d → (s ≡ w) ⊎ (b ≤ c) ⊎ (d ≤ a)) (omega (arith, high))
                (λ under second. ⊎_elim (λ lower. inr (inr lower)) (λ higher. inr (inl higher)) (beside_own v c d a b under second first)) (λ second. inl refl) other)
                one;
          }

  -- ---- one more section is kept

  by_chosen : (b : Bool) (s u : ℕ) (o : Option ℕ) → cond b (Some s) o ≡ Some u → ((b ≡ true) × (s ≡ u)) ⊎ (o ≡ Some u)
  by_chosen true s u o e = inl (refl, cc)
  by_chosen false s u o e = inr e

  not_chosen : (b : Bool) (s : ℕ) (o : Option ℕ) → (b ≡ true → ⊥) → cond b (Some s) o ≡ o
  not_chosen true s o h = absurd (h refl)
  not_chosen false s o h = refl

  module _ (s : ℕ) (h : AreApart floating known (s + 1)) (ends after : Ends) (kept : AreTaken floating known s ends) (goes : (end : ℕ) → after end ≡ with_end floating known s ends end) where
    -- the end of section s is kept there
    own_end : (e : ℕ) → (not (floating s) && (nat_lt (number_at known (Start s)) (number_at known (End s)) && (number_at known (End s) == e))) ≡ true → (a : ℕ) × Spans floating known s a e
    own_end e b =
        let own = h.each s (omega arith) in
        let first = known_number known (Start s) own.starts.0 own.starts.1 in
        let last = known_number known (End s) own.ends.0 own.ends.1 in
        let one = and_parts _ _ b in
        let two = and_parts _ _ one.1 in
        let filled = ltb-true _ _ two.0 in
        let same = eqb-true (number_at known (End s)) e two.1 in
        (own.starts.0, record { counted = is_not (floating s) one.0; starts = own.starts.1; ends = own.ends.1 ∙ ap Some (sym last ∙ same); filled = omega (arith, filled, first, same) })

    -- that of an earlier one is another
    other_end : (u a b : ℕ) → u < s → Spans floating known u a b → with_end floating known s ends b ≡ Some u
    other_end u a b low spans =
        not_chosen _ s (ends b) (λ c. let own = own_end b c in
        let one = spans.filled in
        let two = own.1.filled in
        ⊎_elim (λ same. omega (arith, low, same)) (λ apart. ⊎_elim (λ lower. omega (arith, lower, two)) (λ higher. omega (arith, higher, one)) apart)
        (h.apart u s a b own.0 b (omega (arith, low)) (omega arith) spans own.1))
        ∙ kept.listed u a b low spans

    here_end : (a b : ℕ) → Spans floating known s a b → with_end floating known s ends b ≡ Some s
    here_end a b spans =
        let first = known_number known (Start s) a spans.starts in
        let last = known_number known (End s) b spans.ends in
        let own = spans.filled in
        let chosen = and_from _ _ (ap not spans.counted) (and_from _ _ (lt-ltb (number_at known (Start s)) (number_at known (End s)) (omega (arith, own, first, last))) (eq-eqb (number_at known (End s)) b last)) in
        rw chosen refl

    pub taken_more : AreTaken floating known (s + 1) after
    taken_more = record {
      below = h;
      listed = λ u a b low spans. goes b ∙ up_to s u (λ v. Spans floating known v a b → with_end floating known s ends b ≡ Some v) (omega (arith, low)) (λ under first. other_end u a b under first) (λ own. here_end a b own) spans;
      only = λ u e there. ⊎_elim
          (λ chosen. let own = own_end e chosen.0 in let same = chosen.1 in (omega (arith, same), own.0, subst (λ (v : ℕ). Spans floating known v own.0 e) same own.1))
          (λ old. let own = kept.only u e old in let low = own.0 in (omega (arith, low), own.1, own.2))
          (by_chosen _ s u (ends e) (sym (goes e) ∙ there));
    }
