-- What is known with one more entry.
use Rattle.std.proofs.Common.{◌≡◌, ◌∙◌, ◌⊎◌, ℕ, Bool, true, false, cond, Option, Some, None, refl, sym, inl, inr}
use Rattle.std.proofs.lemmas.Bool.{eq-eqb}
use Rattle.wild_value_spec.specs.Known.{Known, Asked, IsPart, Start, Load, End, Address, Dot, LoadDot, number_at, or_else, same_asked, with_number}
use Rattle.wild_walk_laws.specs.Holding.{IsKnown}

pub known_number : (known : Known) (x : Asked) (n : ℕ) → known x ≡ Some n → number_at known x ≡ n
known_number known x n e = rw e refl

pub one_number : (known : Known) (x : Asked) (m n : ℕ) → known x ≡ Some m → known x ≡ Some n → m ≡ n
one_number known x m n e f = sym (known_number known x m e) ∙ known_number known x n f

pub not_both : (o : Option ℕ) (n : ℕ) → o ≡ None → o ≡ Some n → ⊥
not_both o n e f = let both : None ≡ Some n = sym e ∙ f in cc

-- what asks for a number asks for that
pub same_itself : (x : Asked) → same_asked x x ≡ true
same_itself (Start s) = eq-eqb s s refl
same_itself (Load s) = eq-eqb s s refl
same_itself (End s) = eq-eqb s s refl
same_itself (Address r) = eq-eqb r r refl
same_itself (Dot i) = eq-eqb i i refl
same_itself (LoadDot i) = eq-eqb i i refl

-- ---- lookups

or_kept : (o m : Option ℕ) (n : ℕ) → o ≡ Some n → or_else o m ≡ Some n
or_kept (Some k) m n h = h
or_kept None m n h = absurd (cc)

or_none : (o : Option ℕ) → or_else o None ≡ o
or_none (Some n) = refl
or_none None = refl

known_by : (o : Option ℕ) (b : Bool) (n : ℕ) → b ≡ true → (a : ℕ) × (or_else o (cond b (Some n) None) ≡ Some a)
known_by (Some a) b n e = (a, refl)
known_by None b n e = (n, rw e refl)

new_by : (o : Option ℕ) (b : Bool) (n : ℕ) → o ≡ None → b ≡ true → or_else o (cond b (Some n) None) ≡ Some n
new_by o b n e f = rw (e, f) refl

entry_by : (o : Option ℕ) (b : Bool) (n a : ℕ) → or_else o (cond b (Some n) None) ≡ Some a → (o ≡ Some a) ⊎ ((b ≡ true) × (n ≡ a))
entry_by (Some m) b n a h = inl h
entry_by None true n a h = inr (refl, cc)
entry_by None false n a h = absurd (cc)

module _ (x : Asked) (n : ℕ) (known : Known) where
  -- what was known is known
  pub grown_entry : IsPart known (with_number x n known)
  unfolding with_number
  grown_entry y m h = or_kept (known y) _ m h

  pub known_entry : IsKnown (with_number x n known) x
  unfolding with_number
  known_entry = known_by (known x) (same_asked x x) n (same_itself x)

  -- where it was not known, it is that number
  pub new_entry : known x ≡ None → with_number x n known x ≡ Some n
  unfolding with_number
  new_entry e = new_by (known x) (same_asked x x) n e (same_itself x)

  -- nothing else changes
  pub other_entry : (y : Asked) → same_asked x y ≡ false → with_number x n known y ≡ known y
  unfolding with_number
  other_entry y e = rw e (or_none (known y))

  -- a number that is known was known before, or it is the new one
  pub entry_is : (y : Asked) (a : ℕ) → with_number x n known y ≡ Some a → (known y ≡ Some a) ⊎ ((same_asked x y ≡ true) × (n ≡ a))
  unfolding with_number
  entry_is y a h = entry_by (known y) (same_asked x y) n a h
