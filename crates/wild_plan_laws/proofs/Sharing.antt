-- Which section the lowest that shares an address is.
use Rattle.std.proofs.Common.{◌≡◌, ℕ, zero, suc, ◌≤◌, Bool, true, false, nat_lt, cond, Option, Some, None, refl, ap, subst, ⊎_elim, arith}
use Rattle.std.proofs.lemmas.Bool.{cases_order, ltb-true, ltb-false, both_ways}
use Rattle.wild_value_spec.specs.Known.{Known, Start, number_at}
use Rattle.wild_plan_spec.specs.Overlaps.{shares, lower_section, lowest_sharing}
use Rattle.wild_walk_laws.proofs.Numbered.{up_to}
use Rattle.wild_plan_laws.specs.Sharing.{NoneShares, IsLowest, SharingIsLowest}

module _ (floating : ℕ → Bool) (known : Known) (start end : ℕ) where
  abbrev at : ℕ → ℕ
  at s = number_at known (Start s)

  abbrev Found : ℕ → Option ℕ → Type 0
  Found n None = NoneShares floating known start end n
  Found n (Some s) = IsLowest floating known start end n s

  shares_not : (u : ℕ) (P : Type 0) → shares floating known start end u ≡ false → shares floating known start end u ≡ true → P
  shares_not u P e f = absurd (both_ways (shares floating known start end u) e f)

  -- of an earlier one and section n, which shares one too
  chosen : (n s : ℕ) (b : Bool) → nat_lt (at n) (at s) ≡ b → shares floating known start end n ≡ true → IsLowest floating known start end n s → Found (suc n) (cond b (Some n) (Some s))
  chosen n s true lower e h =
      let less = ltb-true (at n) (at s) lower in
      record {
        below = omega arith;
        shared = e;
        lowest = λ u low f. up_to n u (λ v. shares floating known start end v ≡ true → at n ≤ at v) (omega (arith, low)) (λ before g. let least = h.lowest u before g in omega (arith, less, least)) (λ g. omega arith) f;
        first = λ u low f. let least = h.lowest u low f in omega (arith, less, least);
      }
  chosen n s false lower e h =
      let more = ltb-false (at n) (at s) lower in
      record {
        below = omega arith;
        shared = h.shared;
        lowest = λ u low f. up_to n u (λ v. shares floating known start end v ≡ true → at s ≤ at v) (omega (arith, low)) (λ before g. h.lowest u before g) (λ g. more) f;
        first = h.first;
      }

  one_more : (n : ℕ) (o : Option ℕ) (b : Bool) → shares floating known start end n ≡ b → Found n o → Found (suc n) (lower_section known o (cond b (Some n) None))
  one_more n None false e h = λ u low. up_to n u (λ v. shares floating known start end v ≡ false) (omega (arith, low)) (λ before. h u before) e
  one_more n None true e h = record {
    below = omega arith;
    shared = e;
    lowest = λ u low f. up_to n u (λ v. shares floating known start end v ≡ true → at n ≤ at v) (omega (arith, low)) (λ before g. shares_not u _ (h u before) g) (λ g. omega arith) f;
    first = λ u low f. shares_not u _ (h u low) f;
  }
  one_more n (Some s) false e h =
      record {
        below = omega arith;
        shared = h.shared;
        lowest = λ u low f. up_to n u (λ v. shares floating known start end v ≡ true → at s ≤ at v) (omega (arith, low)) (λ before g. h.lowest u before g) (λ g. shares_not n _ e g) f;
        first = h.first;
      }
  one_more n (Some s) true e h = chosen n s (nat_lt (at n) (at s)) refl e h

  found : (n : ℕ) → Found n (lowest_sharing floating known start end n)
  found zero = λ u low. absurd (omega (arith, low))
  found (suc n) = one_more n (lowest_sharing floating known start end n) (shares floating known start end n) refl (found n)

  -- there is one such section at most
  one_lowest : (n s u : ℕ) → IsLowest floating known start end n s → IsLowest floating known start end n u → s ≡ u
  one_lowest n s u f g =
      let least = f.lowest u g.below g.shared in
      let other = g.lowest s f.below f.shared in
      ⊎_elim (λ same. same) (λ apart. ⊎_elim
      (λ lt. let less = g.first s lt f.shared in absurd (omega (arith, less, least)))
      (λ gt. let less = f.first u gt g.shared in absurd (omega (arith, less, other)))
      apart) (cases_order s u)

  is_some : (n s : ℕ) (o : Option ℕ) → Found n o → IsLowest floating known start end n s → o ≡ Some s
  is_some n s None h g = shares_not s _ (h s g.below) g.shared
  is_some n s (Some u) h g = ap Some (one_lowest n u s h g)

  is_none : (n : ℕ) (o : Option ℕ) → Found n o → NoneShares floating known start end n → o ≡ None
  is_none n None h g = refl
  is_none n (Some s) h g = shares_not s _ (g s h.below) h.shared

pub sharing_is_lowest : (floating : ℕ → Bool) (known : Known) (start end n : ℕ) → SharingIsLowest floating known start end n
sharing_is_lowest floating known start end n = record {
  some = λ s. (λ e. subst (Found floating known start end n) e (found floating known start end n), is_some floating known start end n s (lowest_sharing floating known start end n) (found floating known start end n));
  none = (λ e. subst (Found floating known start end n) e (found floating known start end n), is_none floating known start end n (lowest_sharing floating known start end n) (found floating known start end n));
}
