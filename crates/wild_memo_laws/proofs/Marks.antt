-- What is kept stays right where a slot is marked.
use Rattle.std.proofs.Common.{◌≡◌, ℕ, ◌⊎◌, true, false, List, ◌∷◌, length, set, Some, inl, inr, ap, sym, subst, ◌∙◌}
use Rattle.std.proofs.lemmas.Bool.{cases_eq}
use Rattle.std.proofs.lemmas.List.{length-set}
use Rattle.wild_value_spec.specs.declared.value.Whole.{Whole}
use Rattle.wild_value_spec.specs.Known.{Known}
use Rattle.wild_value_spec.specs.Scope.{Name, Definition, Scope}
use Rattle.wild_value_spec.specs.Value.{is_on}
use Rattle.wild_memo_laws.specs.declared.slot.Slot.{Slot}
use Rattle.wild_memo_laws.specs.declared.slot.Slot.TheVariants.{Unseen, InWork, Kept}
use Rattle.wild_memo_laws.specs.Running.{slot_at}
use Rattle.wild_memo_laws.specs.Sound.{IsDefined, IsIndexed, IsSound, IsWorth}
use Rattle.wild_memo_laws.proofs.Slots.{on_itself, on_longer, on_rest, marked, unmarked}

module _ (scope : Scope) (indexed : IsIndexed scope) (known : Known) where
  abbrev Marked : List Slot → Name → ℕ → Slot → Name → ℕ → Type 0
  Marked slots name i x other j = ((other ≡ name) × (slot_at j (set slots i x) ≡ x)) ⊎ (slot_at j (set slots i x) ≡ slot_at j slots)

  mark_by : (slots : List Slot) (name other : Name) (i j : ℕ) (d c : Definition) (x : Slot) → length slots ≡ length scope.definitions → IsDefined scope name i d → IsDefined scope other j c → (j ≡ i) ⊎ (j ≡ i → ⊥) → Marked slots name i x other j
  mark_by slots name other i j d c x size e f (inl h) =
      inl (indexed other name i (f.numbered ∙ ap Some h) e.numbered, subst (λ n. slot_at n (set slots i x) ≡ x) (sym h) (marked scope slots name i d x size e))
  mark_by slots name other i j d c x size e f (inr h) = inr (unmarked scope slots i j x h)

  -- the slot of any name behind a mark: it is the marked one, or as it was
  pub mark_cases : (slots : List Slot) (name other : Name) (i j : ℕ) (d c : Definition) (x : Slot) → length slots ≡ length scope.definitions → IsDefined scope name i d → IsDefined scope other j c → Marked slots name i x other j
  mark_cases slots name other i j d c x size e f = mark_by slots name other i j d c x size e f (cases_eq j i)

  -- a name has one number
  same_number : (name other : Name) (i j : ℕ) (d c : Definition) → IsDefined scope name i d → IsDefined scope other j c → other ≡ name → j ≡ i
  same_number name other i j d c e f same = let h : Some j ≡ Some i = sym f.numbered ∙ ap scope.symbol same ∙ e.numbered in cc

  module _ (path : List Name) (slots : List Slot) (name : Name) (i : ℕ) (d : Definition) (defined : IsDefined scope name i d) where
    -- ---- a name goes into work

    module _ (sound : IsSound scope known path slots) (free : slot_at i slots ≡ Unseen) where
      kept_before_by : (other : Name) (j : ℕ) (w : Whole) (new : Slot) → new ≡ Kept w → ((other ≡ name) × (new ≡ InWork)) ⊎ (new ≡ slot_at j slots) → slot_at j slots ≡ Kept w
      kept_before_by other j w new e (inl h) = absurd (cc (h.1, e))
      kept_before_by other j w new e (inr h) = sym h ∙ e

      kept_before : (other : Name) (j : ℕ) (c : Definition) (w : Whole) → IsDefined scope other j c → slot_at j (set slots i InWork) ≡ Kept w → slot_at j slots ≡ Kept w
      kept_before other j c w e k = kept_before_by other j w _ k (mark_cases slots name other i j d c InWork sound.size defined e)

      kept_then_by : (other : Name) (j : ℕ) (c : Definition) (w : Whole) (new : Slot) → IsDefined scope other j c → slot_at j slots ≡ Kept w → ((other ≡ name) × (new ≡ InWork)) ⊎ (new ≡ slot_at j slots) → new ≡ Kept w
      kept_then_by other j c w new f e (inl h) = absurd (cc (ap (λ n. slot_at n slots) (same_number name other i j d c defined f h.0), free, e))
      kept_then_by other j c w new f e (inr h) = h ∙ e

      pub kept_then : (other : Name) (j : ℕ) (c : Definition) (w : Whole) → IsDefined scope other j c → slot_at j slots ≡ Kept w → slot_at j (set slots i InWork) ≡ Kept w
      kept_then other j c w e k = kept_then_by other j c w _ e k (mark_cases slots name other i j d c InWork sound.size defined e)

      here_in_work : slot_at i (set slots i InWork) ≡ InWork
      here_in_work = marked scope slots name i d InWork sound.size defined

      on_by : (other : Name) (j : ℕ) (c : Definition) (new : Slot) → IsDefined scope other j c → ((other ≡ name) × (new ≡ InWork)) ⊎ (new ≡ slot_at j slots) → (name ≡ other) ⊎ (is_on other path ≡ true) → (name ≡ other → new ≡ InWork) → new ≡ InWork
      on_by other j c new e (inl h) k same = h.1
      on_by other j c new e (inr h) (inl k) same = same k
      on_by other j c new e (inr h) (inr k) same = h ∙ sound.on other j c e k

      off_by : (other : Name) (j : ℕ) (c : Definition) (new : Slot) → IsDefined scope other j c → new ≡ InWork → ((other ≡ name) × (new ≡ InWork)) ⊎ (new ≡ slot_at j slots) → is_on other (name ∷ path) ≡ true
      off_by other j c new e k (inl h) = subst (λ n. is_on n (name ∷ path) ≡ true) (sym h.0) (on_itself name path)
      off_by other j c new e k (inr h) = on_longer other name path (sound.off other j c e (sym h ∙ k))

      pub goes_in : IsSound scope known (name ∷ path) (set slots i InWork)
      goes_in = record {
        size = length-set slots i InWork ∙ sound.size;
        kept = λ other j c w e k statement along on but. sound.kept other j c w e (kept_before other j c w e k) statement along on (λ y m b v f n o. but y m b v f (kept_then y m b v f n) o);
        on = λ other j c e k. on_by other j c _ e (mark_cases slots name other i j d c InWork sound.size defined e) (on_rest other name path k)
            (λ h. subst (λ n. slot_at n (set slots i InWork) ≡ InWork) (sym (same_number name other i j d c defined e (sym h))) here_in_work);
        off = λ other j c e k. off_by other j c _ e k (mark_cases slots name other i j d c InWork sound.size defined e);
      }

    -- ---- a name comes out of work

    module _ (sound : IsSound scope known (name ∷ path) slots) (x : Slot) where
      pub in_work : slot_at i slots ≡ InWork
      in_work = sound.on name i d defined (on_itself name path)

      stays_by : (other : Name) (j : ℕ) (c : Definition) (w : Whole) (new : Slot) → IsDefined scope other j c → slot_at j slots ≡ Kept w → ((other ≡ name) × (new ≡ x)) ⊎ (new ≡ slot_at j slots) → new ≡ Kept w
      stays_by other j c w new f k (inl h) = absurd (cc (ap (λ n. slot_at n slots) (same_number name other i j d c defined f h.0), in_work, k))
      stays_by other j c w new f k (inr h) = h ∙ k

      pub stays : (other : Name) (j : ℕ) (c : Definition) (w : Whole) → IsDefined scope other j c → slot_at j slots ≡ Kept w → slot_at j (set slots i x) ≡ Kept w
      stays other j c w e k = stays_by other j c w _ e k (mark_cases slots name other i j d c x sound.size defined e)

      module _ (off_path : is_on name path ≡ false) (quiet : x ≡ InWork → ⊥) (right : (w : Whole) → x ≡ Kept w → IsWorth scope known (set slots i x) name d w) where
        the_same : (b : Definition) → IsDefined scope name i b → d ≡ b
        the_same b f = cc (defined.placed, f.placed)

        right_at : (other : Name) (j : ℕ) (c : Definition) (w : Whole) → other ≡ name → IsDefined scope other j c → x ≡ Kept w → IsWorth scope known (set slots i x) other c w
        right_at other j c w h e k =
            let number = same_number name other i j d c defined e h in
            let moved = subst (λ n. IsDefined scope n j c) h e in
            let here = subst (λ m. IsDefined scope name m c) number moved in
            subst (λ n. IsWorth scope known (set slots i x) n c w) (sym h) (subst (λ a. IsWorth scope known (set slots i x) name a w) (the_same c here) (right w k))

        kept_by : (other : Name) (j : ℕ) (c : Definition) (w : Whole) (new : Slot) → IsDefined scope other j c → new ≡ Kept w → ((other ≡ name) × (new ≡ x)) ⊎ (new ≡ slot_at j slots) → IsWorth scope known (set slots i x) other c w
        kept_by other j c w new e k (inl h) = right_at other j c w h.0 e (sym h.1 ∙ k)
        kept_by other j c w new e k (inr h) = λ statement along on but. sound.kept other j c w e (sym h ∙ k) statement along on (λ y m b v f n o. but y m b v f (stays y m b v f n) o)

        out_on_by : (other : Name) (j : ℕ) (c : Definition) (new : Slot) → IsDefined scope other j c → is_on other path ≡ true → ((other ≡ name) × (new ≡ x)) ⊎ (new ≡ slot_at j slots) → new ≡ InWork
        out_on_by other j c new e k (inl h) = absurd (cc (ap (λ n. is_on n path) h.0, off_path, k))
        out_on_by other j c new e k (inr h) = h ∙ sound.on other j c e (on_longer other name path k)

        out_off_rest : (other : Name) (j : ℕ) (c : Definition) → IsDefined scope other j c → slot_at j (set slots i x) ≡ InWork → (name ≡ other) ⊎ (is_on other path ≡ true) → is_on other path ≡ true
        out_off_rest other j c e k (inl h) =
            absurd (quiet (sym (marked scope slots name i d x sound.size defined) ∙ subst (λ n. slot_at n (set slots i x) ≡ InWork) (same_number name other i j d c defined e (sym h)) k))
        out_off_rest other j c e k (inr h) = h

        out_off_by : (other : Name) (j : ℕ) (c : Definition) → IsDefined scope other j c → slot_at j (set slots i x) ≡ InWork → Marked slots name i x other j → is_on other path ≡ true
        out_off_by other j c e k (inl h) = absurd (quiet (sym h.1 ∙ k))
        out_off_by other j c e k (inr h) = out_off_rest other j c e k (on_rest other name path (sound.off other j c e (sym h ∙ k)))

        pub comes_out : IsSound scope known path (set slots i x)
        comes_out = record {
          size = length-set slots i x ∙ sound.size;
          kept = λ other j c w e k. kept_by other j c w _ e k (mark_cases slots name other i j d c x sound.size defined e);
          on = λ other j c e k. out_on_by other j c _ e k (mark_cases slots name other i j d c x sound.size defined e);
          off = λ other j c e k. out_off_by other j c e k (mark_cases slots name other i j d c x sound.size defined e);
        }
