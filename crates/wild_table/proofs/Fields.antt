-- The fields of a record by their places.
use Rattle.std.proofs.Common.{◌≡◌, ◌≢◌, refl, ℕ, zero, suc, ◌≤◌, List, [], ◌∷◌, length, Some, None, arith}
use Rattle.csv.specs.Records.{field_at}
use Rattle.wild_table.specs.Forms.{record_of}

pub no_field : (fields : List (List ℕ)) (i : ℕ) → field_at fields i ≡ None → length fields ≤ i
unfolding field_at
no_field [] i e = omega arith
no_field (f ∷ fs) zero e = absurd (cc)
no_field (f ∷ fs) (suc i) e = let rest = no_field fs i e in omega arith

pub six_are : (fields : List (List ℕ)) (a b c d e f : List ℕ) → length fields ≡ 6 → Some a ≡ field_at fields 0 → Some b ≡ field_at fields 1
    → Some c ≡ field_at fields 2 → Some d ≡ field_at fields 3 → Some e ≡ field_at fields 4 → Some f ≡ field_at fields 5
    → fields ≡ a ∷ b ∷ c ∷ d ∷ e ∷ f ∷ []
unfolding field_at
six_are (u ∷ v ∷ w ∷ x ∷ y ∷ z ∷ []) a b c d e f len ha hb hc hd he hf = cc
six_are [] a b c d e f len ha hb hc hd he hf = absurd (omega arith)
six_are (u ∷ []) a b c d e f len ha hb hc hd he hf = absurd (omega arith)
six_are (u ∷ v ∷ []) a b c d e f len ha hb hc hd he hf = absurd (omega arith)
six_are (u ∷ v ∷ w ∷ []) a b c d e f len ha hb hc hd he hf = absurd (omega arith)
six_are (u ∷ v ∷ w ∷ x ∷ []) a b c d e f len ha hb hc hd he hf = absurd (omega arith)
six_are (u ∷ v ∷ w ∷ x ∷ y ∷ []) a b c d e f len ha hb hc hd he hf = absurd (omega arith)
six_are (u ∷ v ∷ w ∷ x ∷ y ∷ z ∷ more ∷ rest) a b c d e f len ha hb hc hd he hf = absurd (omega arith)

pub no_record : (fields : List (List ℕ)) → length fields ≢ 6 → record_of fields ≡ None
no_record [] n = refl
no_record (u ∷ []) n = refl
no_record (u ∷ v ∷ []) n = refl
no_record (u ∷ v ∷ w ∷ []) n = refl
no_record (u ∷ v ∷ w ∷ x ∷ []) n = refl
no_record (u ∷ v ∷ w ∷ x ∷ y ∷ []) n = refl
no_record (u ∷ v ∷ w ∷ x ∷ y ∷ z ∷ []) n = absurd (n refl)
no_record (u ∷ v ∷ w ∷ x ∷ y ∷ z ∷ more ∷ rest) n = refl

pub ruleset fields = (no_field, six_are)
