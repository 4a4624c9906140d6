-- Values by recursion that keeps what definitions are worth agree with those by plain recursion.
use Rattle.std.proofs.Common.{◌≡◌, ℕ, zero, suc, ◌<◌, ◌≤◌, ◌⊎◌, ◌+◌, Bool, true, false, cond, nat_le, ◌==◌, List, ◌∷◌, length, set, Option, Some, None, Result, Ok, Err, refl, inl, inr, ap, sym, subst, arith, ◌∙◌}
use Rattle.std.specs.Prelude.{slice_get}
use Rattle.std.proofs.Math.Path.{fun_ext}
use Rattle.wild_names.specs.declared.fault.Fault.{Fault}
use Rattle.wild_names.specs.declared.fault.Fault.TheVariants.{AlignZero, SymbolCycle, UnknownSymbol, AssertFailed, DeepValue}
use Rattle.wild_names.specs.declared.segment_name.SegmentName.{SegmentName}
use Rattle.wild_expression_tree.specs.declared.tree.Expression.{Expression}
use Rattle.wild_expression_tree.specs.Shape.{Shape, Number, LocationCounter, SizeofHeaders, Symbol, Named, Ternary, Align, SegmentStart, Assert, shape}
use Rattle.wild_expression_tree.specs.declared.operator.Arithmetic.{Arithmetic}
use Rattle.wild_expression_tree.specs.declared.operator.Comparison.{Comparison}
use Rattle.wild_expression_tree.specs.declared.operator.Connective.{Connective}
use Rattle.wild_expression_tree.specs.declared.operator.Division.{Division}
use Rattle.wild_expression_tree.specs.declared.operator.Unary.{Unary}
use Rattle.wild_value_spec.specs.declared.value.Point.{Point}
use Rattle.wild_value_spec.specs.declared.value.Value.{Value}
use Rattle.wild_value_spec.specs.declared.value.Whole.{Whole}
use Rattle.wild_value_spec.specs.Answer.{◌>>=◌}
use Rattle.wild_value_spec.specs.Known.{Known}
use Rattle.wild_value_spec.specs.Marks.{max_height, over, unmarked}
use Rattle.wild_value_spec.specs.Numbers.{decides, truth, is_true}
use Rattle.wild_value_spec.specs.Scope.{Name, Definition, OfRow, OfScript, Scope, definition_at, home}
use Rattle.wild_value_spec.specs.Value as v
use Rattle.wild_memo_laws.specs.declared.slot.Slot.{Slot}
use Rattle.wild_memo_laws.specs.declared.slot.Slot.TheVariants.{Unseen, InWork, Kept}
use Rattle.wild_memo_laws.specs.Exact.{fitted}
use Rattle.wild_memo_laws.specs.Memo as m
use Rattle.wild_memo_laws.specs.Memo.{settled, settled_by}
use Rattle.wild_memo_laws.specs.Nodes.{nodes, part_nodes}
use Rattle.wild_memo_laws.specs.Running.{State, Ran, give, ◌>>>◌, ticked, slot_at, mark}
use Rattle.wild_memo_laws.specs.Sound.{whole, IsIndexed, IsDefined, IsApart, IsApartBut, IsWorth, IsSound, definition_nodes, unseen_nodes, unseen, Agrees, GivesUp, Stopped}
use Rattle.wild_memo_laws.proofs.Nodes.{parts_have_fewer_nodes}
use Rattle.wild_memo_laws.proofs.Slots.{on_itself, on_rest, unseen-set, within, marked}
use Rattle.wild_memo_laws.proofs.Steps.{apart, pure, weaken, on, choose, counted}
use Rattle.wild_memo_laws.proofs.Refit.{plain_whole, symbol_in_whole, refit, refit_more}
use Rattle.wild_memo_laws.proofs.Marks.{goes_in, kept_then, comes_out, stays, in_work as is_in_work}

bool_cases : (b : Bool) → (b ≡ true) ⊎ (b ≡ false)
bool_cases true = inl refl
bool_cases false = inr refl

true_is_not_false : true ≡ false → ⊥
true_is_not_false h = cc

chosen_by : (b : Bool) (a c : Expression) → nodes (cond b c a) + 0 ≤ nodes a + (nodes c + 0)
chosen_by true a c = omega arith
chosen_by false a c = omega arith

-- the nodes of the chosen side
pub chosen_nodes : (n : ℕ) (a b : Expression) → nodes (v.chosen_side n a b) + 0 ≤ nodes a + (nodes b + 0)
unfolding v.chosen_side
chosen_nodes n a b = chosen_by (n == 0) a b

-- the nodes of what is aligned
abbrev held_nodes : Option Expression → ℕ
held_nodes (Some a) = nodes a + 0
held_nodes None = 0

module _ (scope : Scope) (indexed : IsIndexed scope) (known : Known) (statement : ℕ) where
  abbrev pub Sounds : List Name → List Slot → Type 0
  Sounds path slots = IsSound scope known path slots

  abbrev pub Agree : {A : Type 0} → List Name → ℕ → State → (List Name → Result A Fault) → Ran A → Type 0
  Agree path cost s plain ran = Agrees scope known path cost s plain ran

  -- ---- steps, for which the terms need not be written out

  at_most : {A : Type 0} {path : List Name} {s : State} {plain : List Name → Result A Fault} {ran : Ran A} (cost more : ℕ) → cost ≤ more → Agree path cost s plain ran → Agree path more s plain ran
  at_most cost more h k = weaken scope known _ cost more _ _ _ h k

  idle : {A : Type 0} {path : List Name} {s : State} (cost : ℕ) (r : Result A Fault) → Sounds path s.slots → Agree path cost s (λ other. r) (give r s)
  idle {path} {s} cost r sound = at_most 0 cost (omega arith) (pure scope known path s r sound)

  next : {A B : Type 0} {path : List Name} {s : State} {ran : Ran A} {f : A → State → Ran B} {plain : List Name → Result A Fault} {step : List Name → A → Result B Fault} (cost more : ℕ) → Agree path cost s plain ran → ((a : A) (t : State) → Sounds path t.slots → Agree path more t (λ other. step other a) (f a t)) → Agree path (cost + more) s (λ other. plain other >>= step other) (ran >>> f)
  next {path} {s} {ran} {f} {plain} {step} cost more h k = on scope known path cost more s ran f plain step h k

  pick : {A : Type 0} {path : List Name} {cost : ℕ} {s : State} {plain more : List Name → Result A Fault} {ran run : Ran A} (b : Bool) → Agree path cost s plain ran → Agree path cost s more run → Agree path cost s (λ other. cond b (plain other) (more other)) (cond b ran run)
  pick b h k = choose scope known _ _ _ b _ _ _ _ h k

  -- an answer that is the plain one along each path of which nothing is kept
  given : {A : Type 0} (path : List Name) (s : State) (plain : List Name → Result A Fault) (r : Result A Fault) → Sounds path s.slots → ((other : List Name) → IsApart scope s.slots other → plain other ≡ r) → Agree path 0 s plain (give r s)
  given path s plain (Ok a) sound h = record { sound = sound; grows = λ name i d w e k. k; matches = h; rises = omega arith; spends = omega arith }
  given path s plain (Err f) sound h = record { sound = sound; grows = λ name i d w e k. k; matches = h path (apart scope known path s.slots sound); rises = omega arith; spends = omega arith }

  -- a fault along this path
  failed : {A : Type 0} (path : List Name) (s : State) (plain : List Name → Result A Fault) (f : Fault) → Sounds path s.slots → plain path ≡ Err f → Agree path 0 s plain (give (Err f) s)
  failed path s plain f sound h = record { sound = sound; grows = λ name i d w e k. k; matches = h; rises = omega arith; spends = omega arith }

  -- ---- longer paths

  -- a name has one number
  same_number : (name other : Name) (i j : ℕ) (d c : Definition) → IsDefined scope name i d → IsDefined scope other j c → other ≡ name → j ≡ i
  same_number name other i j d c e f same = let h : Some j ≡ Some i = sym f.numbered ∙ ap scope.symbol same ∙ e.numbered in cc

  -- nothing else of a longer path is kept
  but_by : (slots : List Slot) (name : Name) (other : List Name) → IsApart scope slots other → (y : Name) (j : ℕ) (b : Definition) (w : Whole) → IsDefined scope y j b → slot_at j slots ≡ Kept w → (name ≡ y) ⊎ (v.is_on y other ≡ true) → y ≡ name
  but_by slots name other free y j b w e k (inl h) = sym h
  but_by slots name other free y j b w e k (inr h) = absurd (true_is_not_false (sym h ∙ free y j b w e k))

  but : (slots : List Slot) (name : Name) (other : List Name) → IsApart scope slots other → IsApartBut scope name slots (name ∷ other)
  but slots name other free y j b w e k h = but_by slots name other free y j b w e k (on_rest y name other h)

  module _ (name : Name) (i : ℕ) (d : Definition) (defined : IsDefined scope name i d) where
    -- what else has this name is in the same slot
    same_slot : (slots : List Slot) (y : Name) (j : ℕ) (b : Definition) (w : Whole) → IsDefined scope y j b → y ≡ name → slot_at j slots ≡ Kept w → slot_at i slots ≡ Kept w
    same_slot slots y j b w e h k = subst (λ n. slot_at n slots ≡ Kept w) (same_number name y i j d b defined e h) k

    -- nothing of a longer path is kept, where its first name is not
    free_by : (slots : List Slot) (other : List Name) → ((w : Whole) → slot_at i slots ≡ Kept w → ⊥) → IsApart scope slots other → (y : Name) (j : ℕ) (b : Definition) (w : Whole) → IsDefined scope y j b → slot_at j slots ≡ Kept w → (v.is_on y (name ∷ other) ≡ true) ⊎ (v.is_on y (name ∷ other) ≡ false) → v.is_on y (name ∷ other) ≡ false
    free_by slots other h free y j b w e k (inr off) = off
    free_by slots other h free y j b w e k (inl on) = absurd (h w (same_slot slots y j b w e (but slots name other free y j b w e k on) k))

    longer_is_free : (slots : List Slot) (other : List Name) → ((w : Whole) → slot_at i slots ≡ Kept w → ⊥) → IsApart scope slots other → IsApart scope slots (name ∷ other)
    longer_is_free slots other h free y j b w e k = free_by slots other h free y j b w e k (bool_cases (v.is_on y (name ∷ other)))

    -- a mark moves the nodes of one definition
    spent : (slots : List Slot) (x : Slot) → length slots ≡ length scope.definitions → unseen scope.definitions (set slots i x) + unseen_nodes d (slot_at i slots) ≡ unseen scope.definitions slots + unseen_nodes d x
    spent slots x size = unseen-set scope.definitions slots i x d defined.placed (within scope slots name i d size defined)

  -- ---- the work on a definition

  module _ (levels : ℕ) (fits : levels ≤ max_height) where
    abbrev pub plain : List Name → Expression → Point → Result Value Fault
    plain = v.value scope statement known levels

    abbrev pub keeping : Expression → Point → State → Ran Value
    keeping = m.value scope statement known levels

    module _ (h : (path : List Name) (e : Expression) (p : Point) (s : State) → Sounds path s.slots → Agree path (nodes e) s (λ other. plain other e p) (keeping e p s)) where
      pub found : (path : List Name) (name : Name) (d : Definition) (s : State) → Sounds path s.slots → Agree path (definition_nodes d) s (λ other. whole scope statement known levels other name d) (m.found scope statement known keeping levels name d s)
      found path name (OfRow row offset section_number) s sound = idle 0 (v.row_whole scope statement known name row offset) sound
      found path name (OfScript e q) s sound = at_most (nodes e + 0) (nodes e) (omega arith) (next (nodes e) 0 (h path e q s sound) (λ x t sound. idle 0 (v.value_whole scope statement known q x) sound))

      module _ (path : List Name) (name : Name) (i : ℕ) (d : Definition) (s : State) (defined : IsDefined scope name i d) (sound : Sounds path s.slots) where
        -- what is kept
        is_kept : (w : Whole) → slot_at i s.slots ≡ Kept w → Agree path 0 s (plain_whole scope known statement levels name d) (give (fitted statement levels w.height w) s)
        is_kept w k = given path s _ _ sound (λ other free. ap (λ b. cond b (Err (SymbolCycle name)) (whole scope statement known levels (name ∷ other) name d)) (free name i d w defined k) ∙ refit scope known statement statement max_height levels (name ∷ other) name d w (sound.kept name i d w defined k statement (name ∷ other) (on_itself name other) (but s.slots name other free)))

        -- what is in work
        in_work : slot_at i s.slots ≡ InWork → Agree path 0 s (plain_whole scope known statement levels name d) (give (Err (SymbolCycle name)) s)
        in_work k = failed path s _ (SymbolCycle name) sound (ap (λ b. cond b (Err (SymbolCycle name)) (whole scope statement known levels (name ∷ path) name d)) (sound.off name i d defined k))

        -- what is not seen yet
        module _ (new : slot_at i s.slots ≡ Unseen) where
          off_path_by : (v.is_on name path ≡ true) ⊎ (v.is_on name path ≡ false) → v.is_on name path ≡ false
          off_path_by (inl on) = absurd (cc (sound.on name i d defined on, new))
          off_path_by (inr off) = off

          off_path : v.is_on name path ≡ false
          off_path = off_path_by (bool_cases (v.is_on name path))

          abbrev pub entered : State
          entered = mark i InWork s

          entered_spent : unseen scope.definitions entered.slots + definition_nodes d ≡ unseen scope.definitions s.slots
          entered_spent =
              let e : unseen scope.definitions (set s.slots i InWork) + unseen_nodes d (slot_at i s.slots) ≡ unseen scope.definitions s.slots + 0 = spent name i d defined s.slots InWork sound.size in
              let f : unseen_nodes d (slot_at i s.slots) ≡ definition_nodes d = ap (unseen_nodes d) new in
              omega arith

          -- where it is found, it is kept
          module _ (t : State) (w : Whole) (k : Agree (name ∷ path) (definition_nodes d) entered (λ other. whole scope statement known levels other name d) (give (Ok w) t)) where
            busy : slot_at i t.slots ≡ InWork
            busy = is_in_work scope indexed known path t.slots name i d defined k.sound (Kept w)

            not_kept : (u : Whole) → slot_at i t.slots ≡ Kept u → ⊥
            not_kept u h = cc (busy, h)

            stays_kept : (y : Name) (j : ℕ) (b : Definition) (u : Whole) → IsDefined scope y j b → slot_at j t.slots ≡ Kept u → slot_at j (set t.slots i (Kept w)) ≡ Kept u
            stays_kept = stays scope indexed known path t.slots name i d defined k.sound (Kept w)

            alone_by : (along : List Name) → IsApartBut scope name (set t.slots i (Kept w)) along → (y : Name) (j : ℕ) (b : Definition) (u : Whole) → IsDefined scope y j b → slot_at j t.slots ≡ Kept u → (v.is_on y along ≡ true) ⊎ (v.is_on y along ≡ false) → v.is_on y along ≡ false
            alone_by along but y j b u e h (inl on) = absurd (not_kept u (same_slot name i d defined t.slots y j b u e (but y j b u e (stays_kept y j b u e h) on) h))
            alone_by along but y j b u e h (inr off) = off

            is_worth : IsWorth scope known (set t.slots i (Kept w)) name d w
            is_worth at along on but = refit_more scope known statement at levels max_height along name d w fits (k.matches along (λ y j b u e h. alone_by along but y j b u e h (bool_cases (v.is_on y along))))

            found_so : Agree path 0 s (plain_whole scope known statement levels name d) (give (Ok w) (mark i (Kept w) t))
            found_so = record {
              sound = comes_out scope indexed known path t.slots name i d defined k.sound (Kept w) off_path (λ h. cc) (λ u h. subst (λ a. IsWorth scope known (set t.slots i (Kept w)) name d a) (cc) is_worth);
              grows = λ y j b u e h. stays_kept y j b u e (k.grows y j b u e (kept_then scope indexed known path s.slots name i d defined sound new y j b u e h));
              matches = λ other free. ap (λ b. cond b (Err (SymbolCycle name)) (whole scope statement known levels (name ∷ other) name d)) (free name i d w defined (marked scope t.slots name i d (Kept w) k.sound.size defined)) ∙ k.matches (name ∷ other) (longer_is_free name i d defined t.slots other not_kept (λ y j b u e h. free y j b u e (stays_kept y j b u e h)));
              rises = k.rises;
              spends =
                  let e : unseen scope.definitions (set t.slots i (Kept w)) + unseen_nodes d (slot_at i t.slots) ≡ unseen scope.definitions t.slots + 0 = spent name i d defined t.slots (Kept w) k.sound.size in
                  omega (arith, e, entered_spent, k.spends);
            }

          -- where it fails, it is unseen again
          module _ (t : State) (f : Fault) (k : Agree (name ∷ path) (definition_nodes d) entered (λ other. whole scope statement known levels other name d) (give (Err f) t)) where
            failed_so : Agree path 0 s (plain_whole scope known statement levels name d) (give (Err f) (mark i Unseen t))
            failed_so = record {
              sound = comes_out scope indexed known path t.slots name i d defined k.sound Unseen off_path (λ h. cc) (λ u h. absurd (cc));
              grows = λ y j b u e h. stays scope indexed known path t.slots name i d defined k.sound Unseen y j b u e (k.grows y j b u e (kept_then scope indexed known path s.slots name i d defined sound new y j b u e h));
              matches = ap (λ b. cond b (Err (SymbolCycle name)) (whole scope statement known levels (name ∷ path) name d)) off_path ∙ k.matches;
              rises = k.rises;
              spends = omega (arith, entered_spent, k.spends);
            }

          -- where it is given up, it is unseen again
          pub given_up_so : (t : State) → GivesUp scope known (name ∷ path) (definition_nodes d) entered t → GivesUp scope known path 0 s (mark i Unseen t)
          given_up_so t k = record {
            sound = comes_out scope indexed known path t.slots name i d defined k.sound Unseen off_path (λ h. cc) (λ u h. absurd (cc));
            grows = λ y j b u e h. stays scope indexed known path t.slots name i d defined k.sound Unseen y j b u e (k.grows y j b u e (kept_then scope indexed known path s.slots name i d defined sound new y j b u e h));
            rises = k.rises;
            most = omega (arith, entered_spent, k.most);
          }

          settled_so : (t : State) (r : Result Whole Fault) → Agree (name ∷ path) (definition_nodes d) entered (λ other. whole scope statement known levels other name d) (give r t) → Agree path 0 s (plain_whole scope known statement levels name d) (settled_by i r t)
          settled_so t (Ok w) k = found_so t w k
          settled_so t (Err f) k = failed_so t f k

          settled_kept : (t : State) (r : Result Whole Fault) (w : Whole) (u : State) → Agree (name ∷ path) (definition_nodes d) entered (λ other. whole scope statement known levels other name d) (give r t) → settled_by i r t ≡ give (Ok w) u → slot_at i u.slots ≡ Kept w
          settled_kept t (Ok x) w u k e =
              let same : x ≡ w = cc (ap (λ (n : Ran Whole). n.answer) e) in
              sym (ap (λ (n : Ran Whole). slot_at i n.state.slots) e) ∙ (marked scope t.slots name i d (Kept x) k.sound.size defined ∙ ap (λ n. Kept n) same)
          settled_kept t (Err f) w u k e = absurd (cc (ap (λ (n : Ran Whole). n.answer) e))

          entered_found : Agree (name ∷ path) (definition_nodes d) entered (λ other. whole scope statement known levels other name d) (m.found scope statement known keeping levels name d entered)
          entered_found = found (name ∷ path) name d entered (goes_in scope indexed known path s.slots name i d defined sound new)

          new_kept : (w : Whole) (u : State) → m.worked scope statement known keeping levels name i d s ≡ give (Ok w) u → slot_at i u.slots ≡ Kept w
          unfolding settled m.worked
          new_kept w u e = settled_kept _ _ w u entered_found e

          pub is_new : Agree path 0 s (plain_whole scope known statement levels name d) (m.worked scope statement known keeping levels name i d s)
          unfolding settled m.worked
          is_new = settled_so _ _ entered_found

      -- ---- symbols

      fitted_kept : (w x : Whole) (b : Bool) → cond b (Ok w) (Err (DeepValue statement)) ≡ Ok x → w ≡ x
      fitted_kept w x true e = cc
      fitted_kept w x false e = absurd (cc)

      fit_kept : (w x : Whole) → fitted statement levels w.height w ≡ Ok x → w ≡ x
      unfolding fitted
      fit_kept w x e = fitted_kept w x (nat_le w.height levels) e

      module _ (path : List Name) (name : Name) (i : ℕ) (d : Definition) (s : State) (defined : IsDefined scope name i d) (sound : Sounds path s.slots) where
        whole_by : (x : Slot) → slot_at i s.slots ≡ x → Agree path 0 s (plain_whole scope known statement levels name d) (m.whole_by scope statement known keeping levels name i d x s)
        whole_by (Kept w) e = is_kept path name i d s defined sound w e
        whole_by InWork e = in_work path name i d s defined sound e
        whole_by Unseen e = is_new path name i d s defined sound e

        kept_by : (x : Slot) → slot_at i s.slots ≡ x → (w : Whole) (u : State) → m.whole_by scope statement known keeping levels name i d x s ≡ give (Ok w) u → slot_at i u.slots ≡ Kept w
        kept_by (Kept v) e w u k =
            let same : v ≡ w = fit_kept v w (ap (λ (n : Ran Whole). n.answer) k) in
            sym (ap (λ (n : Ran Whole). slot_at i n.state.slots) k) ∙ (e ∙ ap (λ n. Kept n) same)
        kept_by InWork e w u k = absurd (cc (ap (λ (n : Ran Whole). n.answer) k))
        kept_by Unseen e w u k = new_kept path name i d s defined sound e w u k

        pub whole_kept : (w : Whole) (u : State) → m.whole scope statement known keeping levels name i d s ≡ give (Ok w) u → slot_at i u.slots ≡ Kept w
        unfolding m.whole
        whole_kept w u k = kept_by (slot_at i s.slots) refl w u k

        pub whole_agreed : Agree path 0 s (plain_whole scope known statement levels name d) (m.whole scope statement known keeping levels name i d s)
        unfolding m.whole
        whole_agreed = whole_by (slot_at i s.slots) refl

      symbol_at : (path : List Name) (name : Name) (i : ℕ) (o : Option Definition) (p : Point) (s : State) → scope.symbol name ≡ Some i → slice_get scope.definitions i ≡ o → Sounds path s.slots → Agree path 0 s (λ other. v.symbol_in scope statement known plain other name o p) (m.symbol_at scope statement known keeping levels name i o p s)
      symbol_at path name i None p s e f sound = idle 0 (Err (UnknownSymbol name)) sound
      symbol_at path name i (Some d) p s e f sound =
          subst (λ (r : List Name → Result Value Fault). Agree path 0 s r (m.symbol_at scope statement known keeping levels name i (Some d) p s)) (fun_ext (λ other. sym (symbol_in_whole scope known statement levels other name d p)))
          (on scope known path 0 0 s (m.whole scope statement known keeping levels name i d s) (λ w s. give (v.symbol_value scope statement known name (home d) p w) s) (plain_whole scope known statement levels name d) (λ other w. v.symbol_value scope statement known name (home d) p w)
          (whole_agreed path name i d s (record { numbered = e; placed = f }) sound)
          (λ w t sound. idle 0 (v.symbol_value scope statement known name (home d) p w) sound))

      symbol_in : (path : List Name) (name : Name) (o : Option ℕ) (p : Point) (s : State) → scope.symbol name ≡ o → Sounds path s.slots → Agree path 0 s (λ other. v.symbol_in scope statement known plain other name (definition_at scope.definitions o) p) (m.symbol_in scope statement known keeping levels name o p s)
      symbol_in path name None p s e sound = idle 0 (Err (UnknownSymbol name)) sound
      symbol_in path name (Some i) p s e sound = symbol_at path name i (slice_get scope.definitions i) p s e refl sound

      -- ---- nodes

      module _ (path : List Name) (p : Point) where
        symbol : (name : Name) (s : State) → Sounds path s.slots → Agree path 0 s (λ other. v.symbol scope statement known plain other name p) (m.symbol scope statement known keeping levels name p s)
        unfolding v.symbol m.symbol
        symbol name s sound = symbol_in path name (scope.symbol name) p s refl sound

        arithmetic_value : (o : Arithmetic) (a b : Expression) (s : State) → Sounds path s.slots → Agree path (nodes a + (nodes b + 0)) s (λ other. v.arithmetic_value scope statement known plain other o a b p) (m.arithmetic_value scope statement known keeping levels o a b p s)
        unfolding v.arithmetic_value m.arithmetic_value
        arithmetic_value o a b s sound = next (nodes a) (nodes b + 0) (h path a p s sound) (λ x t sound. next (nodes b) 0 (h path b p t sound) (λ y u sound. idle 0 _ sound))

        division_value : (o : Division) (a b : Expression) (s : State) → Sounds path s.slots → Agree path (nodes a + (nodes b + 0)) s (λ other. v.division_value scope statement known plain other o a b p) (m.division_value scope statement known keeping levels o a b p s)
        unfolding v.division_value m.division_value
        division_value o a b s sound = at_most (nodes b + (nodes a + 0)) (nodes a + (nodes b + 0)) (omega arith) (next (nodes b) (nodes a + 0) (h path b p s sound) (λ y t sound. pick (y.number == 0) (idle (nodes a + 0) (Err (v.zero_divisor o statement)) sound) (next (nodes a) 0 (h path a p t sound) (λ x u sound. idle 0 _ sound))))

        comparison_value : (o : Comparison) (a b : Expression) (s : State) → Sounds path s.slots → Agree path (nodes a + (nodes b + 0)) s (λ other. v.comparison_value scope statement known plain other o a b p) (m.comparison_value scope statement known keeping levels o a b p s)
        unfolding v.comparison_value m.comparison_value
        comparison_value o a b s sound = at_most (nodes a + (0 + (nodes b + 0))) (nodes a + (nodes b + 0)) (omega arith) (next (nodes a) (0 + (nodes b + 0)) (h path a p s sound) (λ x t sound. next 0 (nodes b + 0) (idle 0 (v.full_number scope statement known p x) sound) (λ left t sound. next (nodes b) 0 (h path b p t sound) (λ y u sound. idle 0 _ sound))))

        connective_value : (o : Connective) (a b : Expression) (s : State) → Sounds path s.slots → Agree path (nodes a + (nodes b + 0)) s (λ other. v.connective_value scope statement known plain other o a b p) (m.connective_value scope statement known keeping levels o a b p s)
        unfolding v.connective_value m.connective_value
        connective_value o a b s sound = next (nodes a) (nodes b + 0) (h path a p s sound) (λ x t sound. pick (decides o x.number) (idle (nodes b + 0) (Ok (over (truth (is_true x.number)) x)) sound) (next (nodes b) 0 (h path b p t sound) (λ y u sound. idle 0 _ sound)))

        unary_value : (o : Unary) (a : Expression) (s : State) → Sounds path s.slots → Agree path (nodes a + 0) s (λ other. v.unary_value scope statement known plain other o a p) (m.unary_value scope statement known keeping levels o a p s)
        unfolding v.unary_value m.unary_value
        unary_value o a s sound = next (nodes a) 0 (h path a p s sound) (λ x t sound. idle 0 _ sound)

        ternary_value : (c a b : Expression) (s : State) → Sounds path s.slots → Agree path (nodes c + (nodes a + (nodes b + 0))) s (λ other. v.ternary_value scope statement known plain other c a b p) (m.ternary_value scope statement known keeping levels c a b p s)
        unfolding v.ternary_value m.ternary_value
        ternary_value c a b s sound = next (nodes c) (nodes a + (nodes b + 0)) (h path c p s sound) (λ x t sound. at_most (nodes (v.chosen_side x.number a b) + 0) (nodes a + (nodes b + 0)) (chosen_nodes x.number a b) (next (nodes (v.chosen_side x.number a b)) 0 (h path (v.chosen_side x.number a b) p t sound) (λ y u sound. idle 0 _ sound)))

        subject : (a : Option Expression) (s : State) → Sounds path s.slots → Agree path (held_nodes a) s (λ other. v.subject scope statement known plain other a p) (m.subject scope statement known keeping levels a p s)
        subject (Some a) s sound = at_most (nodes a) (nodes a + 0) (omega arith) (h path a p s sound)
        subject None s sound = idle 0 (v.counter_number scope statement known p) sound

        align_value : (n : Expression) (a : Option Expression) (s : State) → Sounds path s.slots → Agree path (nodes n + held_nodes a) s (λ other. v.align_value scope statement known plain other n a p) (m.align_value scope statement known keeping levels n a p s)
        unfolding v.align_value m.align_value
        align_value n a s sound = next (nodes n) (held_nodes a) (h path n p s sound) (λ align t sound. pick (align.number == 0) (idle (held_nodes a) (Err (AlignZero statement)) sound) (at_most (held_nodes a + 0) (held_nodes a) (omega arith) (next (held_nodes a) 0 (subject a t sound) (λ x u sound. idle 0 (v.multiple_value align x) sound))))

        started_by : (o : Option ℕ) (a : Expression) (s : State) → Sounds path s.slots → Agree path (nodes a + 0) s (λ other. v.started_by scope statement known plain other o a p) (m.started_by scope statement known keeping levels o a p s)
        started_by (Some n) a s sound = idle (nodes a + 0) _ sound
        started_by None a s sound = next (nodes a) 0 (h path a p s sound) (λ x t sound. idle 0 _ sound)

        segment_value : (segment : SegmentName) (a : Expression) (s : State) → Sounds path s.slots → Agree path (nodes a + 0) s (λ other. v.segment_value scope statement known plain other segment a p) (m.segment_value scope statement known keeping levels segment a p s)
        unfolding v.segment_value m.segment_value
        segment_value segment a s sound = started_by (scope.segment_start segment) a s sound

        pub assert_value : (c : Expression) (message : Name) (at : ℕ) (s : State) → Sounds path s.slots → Agree path (nodes c + 0) s (λ other. v.assert_value scope statement known plain other c message at p) (m.assert_value scope statement known keeping levels c message at p s)
        unfolding v.assert_value m.assert_value
        assert_value c message at s sound = next (nodes c) 0 (h path c p s sound) (λ x t sound. pick (x.number == 0) (idle 0 (Err (AssertFailed (scope.line at) message)) sound) (idle 0 (Ok (over x.number x)) sound))

        pub node : (e : Shape Expression) (s : State) → Sounds path s.slots → Agree path (part_nodes e) s (λ other. v.node scope statement known plain other p e) (m.node scope statement known keeping levels p e s)
        node (Number n) s sound = idle 0 (Ok (unmarked n)) sound
        node LocationCounter s sound = idle 0 (v.counter scope statement known p) sound
        node SizeofHeaders s sound = idle 0 (Ok (unmarked scope.header_size)) sound
        node (Symbol name) s sound = symbol name s sound
        node (Named q name) s sound = idle 0 (v.named_value scope statement known q name) sound
        node (Shape.Arithmetic o a b) s sound = at_most (nodes a + (nodes b + 0)) (0 + nodes a + nodes b) (omega arith) (arithmetic_value o a b s sound)
        node (Shape.Division o a b) s sound = at_most (nodes a + (nodes b + 0)) (0 + nodes a + nodes b) (omega arith) (division_value o a b s sound)
        node (Shape.Comparison o a b) s sound = at_most (nodes a + (nodes b + 0)) (0 + nodes a + nodes b) (omega arith) (comparison_value o a b s sound)
        node (Shape.Connective o a b) s sound = at_most (nodes a + (nodes b + 0)) (0 + nodes a + nodes b) (omega arith) (connective_value o a b s sound)
        node (Shape.Unary o a) s sound = at_most (nodes a + 0) (0 + nodes a) (omega arith) (unary_value o a s sound)
        node (Ternary c a b) s sound = at_most (nodes c + (nodes a + (nodes b + 0))) (0 + nodes c + nodes a + nodes b) (omega arith) (ternary_value c a b s sound)
        node (Align n None) s sound = at_most (nodes n + held_nodes None) (0 + nodes n) (omega arith) (align_value n None s sound)
        node (Align n (Some a)) s sound = at_most (nodes n + held_nodes (Some a)) (0 + nodes n + nodes a) (omega arith) (align_value n (Some a) s sound)
        node (SegmentStart segment a) s sound = at_most (nodes a + 0) (0 + nodes a) (omega arith) (segment_value segment a s sound)
        node (Assert c message at) s sound = at_most (nodes c + 0) (0 + nodes c) (omega arith) (assert_value c message at s sound)

  -- ---- values

  pub agreed : (levels : ℕ) → levels ≤ max_height → (path : List Name) (e : Expression) (p : Point) (s : State) → Sounds path s.slots → Agree path (nodes e) s (λ other. v.value scope statement known levels other e p) (m.value scope statement known levels e p s)
  unfolding v.value m.value
  agreed zero fits path e p s sound = idle (nodes e) (Err (DeepValue statement)) sound
  agreed (suc levels) fits path e p s sound = at_most (suc (part_nodes (shape e))) (nodes e) (parts_have_fewer_nodes e) (counted scope known path (part_nodes (shape e)) s _ _ (node levels (omega arith) (agreed levels (omega arith)) path p (shape e) (ticked s) sound))

  -- what is behind a node that was counted
  pub agreed_node : (levels : ℕ) → suc levels ≤ max_height → (path : List Name) (e : Expression) (p : Point) (s : State) → Sounds path s.slots → Agree path (part_nodes (shape e)) s (λ other. v.node scope statement known (v.value scope statement known levels) other p (shape e)) (m.node scope statement known (m.value scope statement known levels) levels p (shape e) s)
  agreed_node levels fits path e p s sound = node levels (omega arith) (agreed levels (omega arith)) path p (shape e) s sound

  -- at least once, where a level is left
  pub counted_once : (levels : ℕ) → suc levels ≤ max_height → (path : List Name) (e : Expression) (p : Point) (s : State) → Sounds path s.slots → s.ticks < (m.value scope statement known (suc levels) e p s).state.ticks
  unfolding v.value m.value
  counted_once levels fits path e p s sound =
      let a : Agree path (part_nodes (shape e)) (ticked s) (λ other. v.node scope statement known (v.value scope statement known levels) other p (shape e)) (m.node scope statement known (m.value scope statement known levels) levels p (shape e) (ticked s)) = node levels (omega arith) (agreed levels (omega arith)) path p (shape e) (ticked s) sound in
      omega (arith, a.rises)

  -- a definition by its slot
  pub agreed_whole : (levels : ℕ) → levels ≤ max_height → (path : List Name) (name : Name) (i : ℕ) (d : Definition) (s : State) → IsDefined scope name i d → Sounds path s.slots → Agree path 0 s (plain_whole scope known statement levels name d) (m.whole scope statement known (m.value scope statement known levels) levels name i d s)
  agreed_whole levels fits path name i d s defined sound = whole_agreed levels fits (agreed levels fits) path name i d s defined sound

  pub agreed_whole_kept : (levels : ℕ) → levels ≤ max_height → (path : List Name) (name : Name) (i : ℕ) (d : Definition) (s : State) → IsDefined scope name i d → Sounds path s.slots → (w : Whole) (u : State) → m.whole scope statement known (m.value scope statement known levels) levels name i d s ≡ give (Ok w) u → slot_at i u.slots ≡ Kept w
  agreed_whole_kept levels fits path name i d s defined sound w u k = whole_kept levels fits (agreed levels fits) path name i d s defined sound w u k

  pub agreed_assert : (levels : ℕ) → levels ≤ max_height → (path : List Name) (c : Expression) (message : Name) (at : ℕ) (p : Point) (s : State) → Sounds path s.slots → Agree path (nodes c + 0) s (λ other. v.assert_value scope statement known (v.value scope statement known levels) other c message at p) (m.assert_value scope statement known (m.value scope statement known levels) levels c message at p s)
  agreed_assert levels fits path c message at p s sound = assert_value levels fits (agreed levels fits) path p c message at s sound

  -- what a definition is worth, found anew
  pub agreed_found : (levels : ℕ) → levels ≤ max_height → (path : List Name) (name : Name) (d : Definition) (s : State) → Sounds path s.slots → Agree path (definition_nodes d) s (λ other. whole scope statement known levels other name d) (m.found scope statement known (m.value scope statement known levels) levels name d s)
  agreed_found levels fits path name d s sound = found levels fits (agreed levels fits) path name d s sound

  -- work on a definition that is given up
  pub given_up : (name : Name) (i : ℕ) (d : Definition) (s t : State) → IsDefined scope name i d → slot_at i s.slots ≡ Unseen → Stopped scope known (definition_nodes d) (mark i InWork s) t → Stopped scope known 0 s (mark i Unseen t)
  given_up name i d s t defined new k path sound =
      let l : GivesUp scope known (name ∷ path) (definition_nodes d) (mark i InWork s) t = k (name ∷ path) (goes_in scope indexed known path s.slots name i d defined sound new) in
      given_up_so zero (omega arith) (agreed zero (omega arith)) path name i d s defined sound new t l
