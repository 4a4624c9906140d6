-- What a step returned and left, and what the steps behind it make of that.
use Rattle.std.proofs.Common.{◌≡◌, ◌≤◌, ℕ, zero, suc, ◌+◌, ◌-◌, false, ◌==◌, List, set, Option, Some, None, Result, Ok, Err, IfOk, IfErr, ◌⊎◌, refl, inl, inr, ap, sym, subst, ◌∙◌, arith}
use Rattle.std.proofs.lemmas.Bool.Decides.{nat_tests}
use Rattle.wild_names.specs.declared.fault.Fault.{Fault}
use Rattle.wild_names.specs.declared.fault.Fault.TheVariants.{NoMemory}
use Rattle.wild_expression_tree.specs.declared.tree.Expression.{Expression}
use Rattle.wild_value_spec.specs.declared.value.Point.{Point}
use Rattle.wild_value_spec.specs.declared.value.Value.{Value}
use Rattle.wild_value_spec.specs.declared.value.Whole.{Whole}
use Rattle.wild_value_spec.specs.Answer.{Fails, Gives}
use Rattle.wild_value_spec.specs.Marks.{max_height}
use Rattle.wild_value_spec.specs.Scope.{Name, Definition}
use Rattle.wild_value_spec.specs.Value as plain
use Rattle.wild_memo_laws.specs.declared.slot.Slot.{Slot}
use Rattle.wild_memo_laws.specs.declared.slot.Slot.TheVariants.{Unseen, InWork, Kept}
use Rattle.wild_memo_laws.specs.Memo.{settled, settled_by}
use Rattle.wild_expression_tree.specs.Shape.{Align, shape}
use Rattle.wild_memo_laws.specs.Memo as machine
use Rattle.wild_memo_laws.specs.Nodes.{nodes, part_nodes}
use Rattle.wild_memo_laws.specs.Running.{State, Ran, give, ◌>>>◌, ticked, slot_at, mark}
use Rattle.wild_memo_laws.specs.Sound.{Agrees, GivesUp, IsDefined, IsSound, Stopped, definition_nodes, whole}
use Rattle.wild_memo_laws.proofs.Agreed.{agreed, agreed_found, agreed_whole, chosen_nodes, given_up}
use Rattle.wild_memo_laws.proofs.Nodes.{parts_have_fewer_nodes}
use Rattle.wild_memo_laws.proofs.Refit.{plain_whole}
use Rattle.wild_eval.specs.declared.evaluator.Evaluator.{Evaluator}
use Rattle.wild_eval.specs.Keeping as running
use Rattle.wild_eval.specs.Keeping.{Runs, found, held_nodes, kept, node, value}
use Rattle.wild_eval.specs.Leaves.{known, scope}
use Rattle.wild_eval.proofs.Indexed.{indexed}

pub not_zero : (n : ℕ) → (n ≡ 0 → ⊥) → (n == 0) ≡ false
not_zero n h = grind (arith, nat_tests)

module _ (v : Evaluator) where
  abbrev Stops : ℕ → State → State → Type 0
  Stops cost s t = Stopped (scope v) (known v) cost s t

  -- ---- where work is given up

  -- before anything is done
  pub here : (cost : ℕ) (s : State) → Stops cost s s
  here cost s path sound = record { sound = sound; grows = λ name i d w e k. k; rises = omega arith; most = omega arith }

  -- of more
  pub weaker : (cost more : ℕ) (s t : State) → cost ≤ more → Stops cost s t → Stops more s t
  weaker cost more s t low h path sound =
      let r = h path sound in
      record { sound = r.sound; grows = r.grows; rises = r.rises; most = omega (arith, low, r.most) }

  -- behind a node that was counted
  counted_then : (cost more : ℕ) (s t : State) → suc cost ≤ more → Stops cost (ticked s) t → Stops more s t
  counted_then cost more s t low h path sound =
      let r = h path sound in
      record { sound = r.sound; grows = r.grows; rises = omega (arith, r.rises); most = omega (arith, low, r.most) }

  behind : {A : Type 0} (path : List Name) (cost : ℕ) (s t : State) (plain : List Name → Result A Fault) (r : Result A Fault) → Agrees (scope v) (known v) path cost s plain (give r t) → GivesUp (scope v) (known v) path cost s t
  behind path cost s t plain (Ok x) a = record { sound = a.sound; grows = a.grows; rises = a.rises; most = omega (arith, a.spends) }
  behind path cost s t plain (Err f) a = record { sound = a.sound; grows = a.grows; rises = a.rises; most = omega (arith, a.spends) }

  -- behind a step that ran
  pub gives_up_behind : {A : Type 0} (cost : ℕ) (s t : State) (plain : List Name → Result A Fault) (ran : Ran A) (r : Result A Fault)
      → ((path : List Name) → IsSound (scope v) (known v) path s.slots → Agrees (scope v) (known v) path cost s plain ran) → Runs v cost r s t ran → Stops cost s t
  gives_up_behind cost s t plain ran (Ok x) agrees h = λ path sound. behind path cost s t plain (Ok x) (subst (λ m. Agrees (scope v) (known v) path cost s plain m) h (agrees path sound))
  gives_up_behind cost s t plain ran (Err f) agrees (inl h) = h.1
  gives_up_behind cost s t plain ran (Err f) agrees (inr h) = λ path sound. behind path cost s t plain (Err f) (subst (λ m. Agrees (scope v) (known v) path cost s plain m) h (agrees path sound))

  -- in a step behind one that ran
  then_stopped : {A : Type 0} (cost more total : ℕ) (s t u : State) (plain : List Name → Result A Fault) (ran : Ran A) (x : A)
      → ((path : List Name) → IsSound (scope v) (known v) path s.slots → Agrees (scope v) (known v) path cost s plain ran)
      → ran ≡ give (Ok x) t → cost + more ≤ total → Stops more t u → Stops total s u
  then_stopped cost more total s t u plain ran x agrees is low h path sound =
      let a = subst (λ m. Agrees (scope v) (known v) path cost s plain m) is (agrees path sound) in
      let r = h path a.sound in
      record {
        sound = r.sound;
        grows = λ name i d w e k. r.grows name i d w e (a.grows name i d w e k);
        rises = omega (arith, a.rises, r.rises);
        most = omega (arith, low, a.spends, r.most);
      }

  -- ---- what steps return

  -- a step that needs no memo
  pub leaf : {A : Type 0} (cost : ℕ) (s : State) (r answer : Result A Fault) → Gives r answer → Runs v cost r s s (give answer s)
  leaf cost s (Ok x) answer h = ap (λ a. give a s) h
  leaf cost s (Err f) answer (inl h) = inl (h.0, here cost s)
  leaf cost s (Err f) answer (inr h) = inr (ap (λ a. give a s) h)

  pub leaf_same : {A : Type 0} (cost : ℕ) (s t : State) (r answer : Result A Fault) → r ≡ answer → Runs v cost r s t (give answer t)
  leaf_same cost s t (Ok x) answer h = ap (λ a. give a t) (sym h)
  leaf_same cost s t (Err f) answer h = inr (ap (λ a. give a t) (sym h))

  -- a step behind a node that was counted
  pub behind_tick : {A : Type 0} (cost more : ℕ) (s t : State) (r : Result A Fault) (ran : Ran A) → suc cost ≤ more → Runs v cost r (ticked s) t ran → Runs v more r s t ran
  behind_tick cost more s t (Ok x) ran low h = h
  behind_tick cost more s t (Err f) ran low (inl h) = inl (h.0, counted_then cost more s t low h.1)
  behind_tick cost more s t (Err f) ran low (inr h) = inr h

  -- a fault of a step is that of the steps behind it
  pub fails_on : {A B : Type 0} (cost total : ℕ) (f : Fault) (s t : State) (m : Ran A) (k : A → State → Ran B) → cost ≤ total → Runs v cost (Err f) s t m → Runs v total (Err f) s t (m >>> k)
  fails_on cost total f s t m k low (inl h) = inl (h.0, weaker cost total s t low h.1)
  fails_on cost total f s t m k low (inr h) = inr (ap (λ (r : Ran _). r >>> k) h)

  -- the same of two parts
  pub first_of_two : {A B : Type 0} (a b : Expression) (f : Fault) (s t : State) (m : Ran A) (k : A → State → Ran B) → Runs v (nodes a) (Err f) s t m → Runs v (0 + nodes a + nodes b) (Err f) s t (m >>> k)
  first_of_two a b f s t m k h = fails_on (nodes a) (0 + nodes a + nodes b) f s t m k (omega arith) h

  pub last_of_two : {A B : Type 0} (a b : Expression) (f : Fault) (s t : State) (m : Ran A) (k : A → State → Ran B) → Runs v (nodes b) (Err f) s t m → Runs v (0 + nodes a + nodes b) (Err f) s t (m >>> k)
  last_of_two a b f s t m k h = fails_on (nodes b) (0 + nodes a + nodes b) f s t m k (omega arith) h

  -- the same of one part
  pub only_one : {A B : Type 0} (a : Expression) (f : Fault) (s t : State) (m : Ran A) (k : A → State → Ran B) → Runs v (nodes a) (Err f) s t m → Runs v (0 + nodes a) (Err f) s t (m >>> k)
  only_one a f s t m k h = fails_on (nodes a) (0 + nodes a) f s t m k (omega arith) h

  -- the same of the alignment of what is aligned
  alignment_low : (n : Expression) (held : Option Expression) → nodes n + held_nodes held ≤ part_nodes (Align n held)
  alignment_low n None = omega arith
  alignment_low n (Some a) = omega arith

  pub alignment_first : {A B : Type 0} (n : Expression) (held : Option Expression) (f : Fault) (s t : State) (m : Ran A) (k : A → State → Ran B) → Runs v (nodes n) (Err f) s t m → Runs v (part_nodes (Align n held)) (Err f) s t (m >>> k)
  alignment_first n held f s t m k h =
      let l = alignment_low n held in
      fails_on (nodes n) (part_nodes (Align n held)) f s t m k (omega arith) h

  -- the condition of what it chooses
  pub condition_first : {A B : Type 0} (c a b : Expression) (f : Fault) (s t : State) (m : Ran A) (k : A → State → Ran B) → Runs v (nodes c) (Err f) s t m → Runs v (0 + nodes c + nodes a + nodes b) (Err f) s t (m >>> k)
  condition_first c a b f s t m k h = fails_on (nodes c) (0 + nodes c + nodes a + nodes b) f s t m k (omega arith) h

  -- an expression, whose node was counted
  pub value_runs : (levels : ℕ) (e : Expression) (p : Point) (s t : State) (r : Result Value Fault) → (levels ≡ 0 → ⊥) → Runs v (part_nodes (shape e)) r (ticked s) t (node v (levels - 1) e p (ticked s)) → Runs v (nodes e) r s t (value v levels e p s)
  unfolding machine.value
  value_runs zero e p s t r left h = absurd (left refl)
  value_runs (suc levels) e p s t r left h =
      let same : suc levels - 1 ≡ levels = omega arith in
      behind_tick (part_nodes (shape e)) (nodes e) s t r (node v levels e p (ticked s)) (parts_have_fewer_nodes e) (subst (λ n. Runs v (part_nodes (shape e)) r (ticked s) t (node v n e p (ticked s))) same h)

  module _ (levels : ℕ) (low : levels ≤ max_height) where
    value_then : (e : Expression) (p : Point) (s t u : State) (x : Value) (more total : ℕ) → value v levels e p s ≡ give (Ok x) t → nodes e + more ≤ total → Stops more t u → Stops total s u
    value_then e p s t u x more total is fits h =
        then_stopped (nodes e) more total s t u (λ other. plain.value (scope v) v.statement (known v) levels other e p) (value v levels e p s) x
        (λ path sound. agreed (scope v) (indexed v.scope.now) (known v) v.statement levels low path e p s sound) is fits h

    -- a step behind the value of a part
    pub behind_value : {A : Type 0} (e : Expression) (p : Point) (s t u : State) (x : Value) (more total : ℕ) (r : Result A Fault) (ran : Ran A) → value v levels e p s ≡ give (Ok x) t → nodes e + more ≤ total → Runs v more r t u ran → Runs v total r s u ran
    behind_value e p s t u x more total (Ok y) ran is fits h = h
    behind_value e p s t u x more total (Err f) ran is fits (inl h) = inl (h.0, value_then e p s t u x more total is fits h.1)
    behind_value e p s t u x more total (Err f) ran is fits (inr h) = inr h

    -- a step that needs no memo behind the value of a part
    pub leaf_behind : {A : Type 0} (e : Expression) (p : Point) (s t : State) (x : Value) (total : ℕ) (r answer : Result A Fault) → value v levels e p s ≡ give (Ok x) t → nodes e ≤ total → Gives r answer → Runs v total r s t (give answer t)
    leaf_behind e p s t x total r answer is fits h = behind_value e p s t t x 0 total r (give answer t) is (omega arith) (leaf 0 t r answer h)

    -- the same behind those of two parts
    pub leaf_behind_two : {A : Type 0} (a b : Expression) (p : Point) (s t u : State) (x y : Value) (r answer : Result A Fault) → value v levels a p s ≡ give (Ok x) t → value v levels b p t ≡ give (Ok y) u → Gives r answer → Runs v (0 + nodes a + nodes b) r s u (give answer u)
    leaf_behind_two a b p s t u x y r answer is then h = behind_value a p s t u x (nodes b) (0 + nodes a + nodes b) r (give answer u) is (omega arith) (leaf_behind b p t u y (nodes b) r answer then (omega arith) h)

    -- a step that fails behind the value of a part
    pub then_fails : {A B : Type 0} (e : Expression) (p : Point) (s t u : State) (x : Value) (more total : ℕ) (f : Fault) (m : Ran A) (k : A → State → Ran B) → value v levels e p s ≡ give (Ok x) t → nodes e + more ≤ total → Runs v more (Err f) t u m → Runs v total (Err f) s u (m >>> k)
    then_fails e p s t u x more total f m k is fits h = behind_value e p s t u x more total (Err f) (m >>> k) is fits (fails_on more more f t u m k (omega arith) h)

    pub then_last_fails : {A B : Type 0} (a b : Expression) (p : Point) (s t u : State) (x : Value) (f : Fault) (m : Ran A) (k : A → State → Ran B) → value v levels a p s ≡ give (Ok x) t → Runs v (nodes b) (Err f) t u m → Runs v (0 + nodes a + nodes b) (Err f) s u (m >>> k)
    then_last_fails a b p s t u x f m k is h = then_fails a p s t u x (nodes b) (0 + nodes a + nodes b) f m k is (omega arith) h

    pub then_first_fails : {A B : Type 0} (a b : Expression) (p : Point) (s t u : State) (x : Value) (f : Fault) (m : Ran A) (k : A → State → Ran B) → value v levels b p s ≡ give (Ok x) t → Runs v (nodes a) (Err f) t u m → Runs v (0 + nodes a + nodes b) (Err f) s u (m >>> k)
    then_first_fails a b p s t u x f m k is h = then_fails b p s t u x (nodes a) (0 + nodes a + nodes b) f m k is (omega arith) h

    pub then_leaf_fails : {A B : Type 0} (a b : Expression) (p : Point) (s t : State) (x : Value) (f : Fault) (answer : Result A Fault) (k : A → State → Ran B) → value v levels a p s ≡ give (Ok x) t → Gives (Err f) answer → Runs v (0 + nodes a + nodes b) (Err f) s t (give answer t >>> k)
    then_leaf_fails a b p s t x f answer k is h = then_fails a p s t t x 0 (0 + nodes a + nodes b) f (give answer t) k is (omega arith) (leaf 0 t (Err f) answer h)

    pub then_chosen_fails : {A B : Type 0} (c a b : Expression) (p : Point) (s t u : State) (x : Value) (n : ℕ) (f : Fault) (m : Ran A) (k : A → State → Ran B) → value v levels c p s ≡ give (Ok x) t → Runs v (nodes (plain.chosen_side n a b)) (Err f) t u m → Runs v (0 + nodes c + nodes a + nodes b) (Err f) s u (m >>> k)
    then_chosen_fails c a b p s t u x n f m k is h =
        let l = chosen_nodes n a b in
        then_fails c p s t u x (nodes (plain.chosen_side n a b)) (0 + nodes c + nodes a + nodes b) f m k is (omega arith) h

    pub then_held_fails : {A B : Type 0} (n : Expression) (held : Option Expression) (p : Point) (s t u : State) (x : Value) (f : Fault) (m : Ran A) (k : A → State → Ran B) → value v levels n p s ≡ give (Ok x) t → Runs v (held_nodes held) (Err f) t u m → Runs v (part_nodes (Align n held)) (Err f) s u (m >>> k)
    then_held_fails n held p s t u x f m k is h = then_fails n p s t u x (held_nodes held) (part_nodes (Align n held)) f m k is (alignment_low n held) h

    -- ---- definitions

    -- a step that needs no memo behind what a definition is worth
    pub leaf_behind_whole : {A : Type 0} (name : Name) (i : ℕ) (d : Definition) (s t : State) (w : Whole) (r answer : Result A Fault) → IsDefined (scope v) name i d → running.whole v levels name i d s ≡ give (Ok w) t → Gives r answer → Runs v 0 r s t (give answer t)
    leaf_behind_whole name i d s t w (Ok x) answer defined is h = ap (λ a. give a t) h
    leaf_behind_whole name i d s t w (Err f) answer defined is (inl h) =
        inl (
          h.0,
          gives_up_behind 0 s t (plain_whole (scope v) (known v) v.statement levels name d) (running.whole v levels name i d s) (Ok w)
              (λ path sound. agreed_whole (scope v) (indexed v.scope.now) (known v) v.statement levels low path name i d s defined sound) is,
        )
    leaf_behind_whole name i d s t w (Err f) answer defined is (inr h) = inr (ap (λ a. give a t) h)

    module _ (name : Name) (i : ℕ) (d : Definition) (s : State) (defined : IsDefined (scope v) name i d) (new : slot_at i s.slots ≡ Unseen) where
      -- work on a definition that is given up behind what was found
      stops_found : (t : State) (answer : Result Whole Fault) → Runs v (definition_nodes d) answer (mark i InWork s) t (found v levels name d (mark i InWork s)) → Stops 0 s (mark i Unseen t)
      stops_found t answer h = given_up (scope v) (indexed v.scope.now) (known v) v.statement name i d s t defined new
          (gives_up_behind (definition_nodes d) (mark i InWork s) t (λ other. whole (scope v) v.statement (known v) levels other name d) (found v levels name d (mark i InWork s)) answer
          (λ path sound. agreed_found (scope v) (indexed v.scope.now) (known v) v.statement levels low path name d (mark i InWork s) sound) h)

      settles_ok : (t u : State) (answer : Result Whole Fault) (w : Whole) → answer ≡ Ok w → Runs v (definition_nodes d) answer (mark i InWork s) t (found v levels name d (mark i InWork s)) → u ≡ mark i (Kept w) t → settled i (found v levels name d (mark i InWork s)) ≡ give (Ok w) u
      unfolding settled
      settles_ok t u (Ok x) w e h same =
          ap (λ (r : Ran Whole). settled_by i r.answer r.state) h ∙ ap (λ a. settled_by i a t) e ∙ ap (λ n. give (Ok w) n) (sym same)
      settles_ok t u (Err f) w e h same = absurd (cc)

      settles_err : (t u : State) (answer : Result Whole Fault) (f : Fault) → Fails f answer → Runs v (definition_nodes d) answer (mark i InWork s) t (found v levels name d (mark i InWork s)) → Stops 0 s u → u ≡ mark i Unseen t
          → ((f ≡ NoMemory) × Stops 0 s u) ⊎ (settled i (found v levels name d (mark i InWork s)) ≡ give (Err f) u)
      unfolding settled
      settles_err t u answer f (inl none) h stops same = inl (none, stops)
      settles_err t u (Ok w) f (inr e) h stops same = absurd (cc)
      settles_err t u (Err g) f (inr e) (inl h) stops same = inl (let k : f ≡ g = cc in k ∙ h.0, stops)
      settles_err t u (Err g) f (inr e) (inr h) stops same =
          inr (ap (λ (r : Ran Whole). settled_by i r.answer r.state) h ∙ ap (λ a. settled_by i a t) e ∙ ap (λ n. give (Err f) n) (sym same))

      -- what is kept behind the work on a definition
      pub settle_runs : (t : State) (new : List Slot) (answer result : Result Whole Fault) → Runs v (definition_nodes d) answer (mark i InWork s) t (found v levels name d (mark i InWork s))
          → IfOk result (λ w. (answer ≡ Ok w) × (new ≡ set t.slots i (Kept w))) → IfErr result (λ f. Fails f answer × (new ≡ set t.slots i Unseen))
          → Runs v 0 result s (kept new t.ticks) (settled i (found v levels name d (mark i InWork s)))
      settle_runs t new answer (Ok w) h ok err = settles_ok t (kept new t.ticks) answer w ok.0 h (ap (λ n. kept n t.ticks) ok.1)
      settle_runs t new answer (Err f) h ok err =
          let same : kept new t.ticks ≡ mark i Unseen t = ap (λ n. kept n t.ticks) err.1 in
          settles_err t (kept new t.ticks) answer f err.0 h (subst (λ u. Stops 0 s u) (sym same) (stops_found t answer h)) same
