-- Steps that keep what they find agree with plain ones.
use Rattle.std.proofs.Common.{◌≡◌, ℕ, suc, ◌≤◌, ◌⊎◌, ◌+◌, Bool, true, false, cond, List, Result, Ok, Err, refl, inl, inr, ap, arith, ◌∙◌}
use Rattle.wild_names.specs.declared.fault.Fault.{Fault}
use Rattle.wild_value_spec.specs.declared.value.Whole.{Whole}
use Rattle.wild_value_spec.specs.Answer.{◌>>=◌}
use Rattle.wild_value_spec.specs.Known.{Known}
use Rattle.wild_value_spec.specs.Scope.{Name, Definition, Scope}
use Rattle.wild_value_spec.specs.Value.{is_on}
use Rattle.wild_memo_laws.specs.declared.slot.Slot.{Slot}
use Rattle.wild_memo_laws.specs.declared.slot.Slot.TheVariants.{Kept}
use Rattle.wild_memo_laws.specs.Running.{State, Ran, give, after, ◌>>>◌, slot_at, ticked}
use Rattle.wild_memo_laws.specs.Sound.{IsApart, IsDefined, Grows, IsSound, Matches, Spends, Agrees}

bool_cases : (b : Bool) → (b ≡ true) ⊎ (b ≡ false)
bool_cases true = inl refl
bool_cases false = inr refl

module _ (scope : Scope) (known : Known) where
  -- the path of what is in work holds nothing that is kept
  apart_by : (path : List Name) (slots : List Slot) → IsSound scope known path slots → (other : Name) (i : ℕ) (d : Definition) (w : Whole) → IsDefined scope other i d → slot_at i slots ≡ Kept w → (is_on other path ≡ true) ⊎ (is_on other path ≡ false) → is_on other path ≡ false
  apart_by path slots sound other i d w e k (inl h) = absurd (cc (sound.on other i d e h, k))
  apart_by path slots sound other i d w e k (inr h) = h

  pub apart : (path : List Name) (slots : List Slot) → IsSound scope known path slots → IsApart scope slots path
  apart path slots sound other i d w e k = apart_by path slots sound other i d w e k (bool_cases (is_on other path))

  -- an answer that needs no state
  pub pure : {A : Type 0} (path : List Name) (s : State) (r : Result A Fault) → IsSound scope known path s.slots → Agrees scope known path 0 s (λ other. r) (give r s)
  pure path s (Ok a) sound = record { sound = sound; grows = λ name i d w e k. k; matches = λ other h. refl; rises = omega arith; spends = omega arith }
  pure path s (Err f) sound = record { sound = sound; grows = λ name i d w e k. k; matches = refl; rises = omega arith; spends = omega arith }

  -- more may be spent
  spends_more : {A : Type 0} (cost more : ℕ) (s t : State) (r : Result A Fault) → cost ≤ more → Spends scope cost s t r → Spends scope more s t r
  spends_more cost more s t (Ok a) h k = omega arith
  spends_more cost more s t (Err f) h k = omega arith

  pub weaken : {A : Type 0} (path : List Name) (cost more : ℕ) (s : State) (plain : List Name → Result A Fault) (ran : Ran A) → cost ≤ more → Agrees scope known path cost s plain ran → Agrees scope known path more s plain ran
  weaken path cost more s plain ran h k = record { sound = k.sound; grows = k.grows; matches = k.matches; rises = k.rises; spends = spends_more cost more s ran.state ran.answer h k.spends }

  -- ---- the next step

  matches_on : {A B : Type 0} (path : List Name) (t : State) (a : A) (plain : List Name → Result A Fault) (next : List Name → A → Result B Fault) (ran : Ran B) → IsSound scope known path t.slots → ((other : List Name) → IsApart scope t.slots other → plain other ≡ Ok a) → Grows scope t.slots ran.state.slots → (answer : Result B Fault) → Matches scope ran.state.slots path (λ other. next other a) answer → Matches scope ran.state.slots path (λ other. plain other >>= next other) answer
  matches_on path t a plain next ran sound h grows (Ok b) k = λ other free. ap (λ (r : Result _ Fault). r >>= next other) (h other (λ name i d w e kept. free name i d w e (grows name i d w e kept))) ∙ k other free
  matches_on path t a plain next ran sound h grows (Err f) k = ap (λ (r : Result _ Fault). r >>= next path) (h path (apart path t.slots sound)) ∙ k

  spends_on : {A B : Type 0} (cost more : ℕ) (s t u : State) (a : A) (answer : Result B Fault) → Spends scope cost s t (Ok a) → Spends scope more t u answer → Spends scope (cost + more) s u answer
  spends_on cost more s t u a (Ok b) h k = omega arith
  spends_on cost more s t u a (Err f) h k = omega arith

  on_by : {A B : Type 0} (path : List Name) (cost more : ℕ) (s t : State) (r : Result A Fault) (f : A → State → Ran B) (plain : List Name → Result A Fault) (next : List Name → A → Result B Fault) → Agrees scope known path cost s plain (give r t) → ((a : A) (t : State) → IsSound scope known path t.slots → Agrees scope known path more t (λ other. next other a) (f a t)) → Agrees scope known path (cost + more) s (λ other. plain other >>= next other) (after r t f)
  on_by path cost more s t (Ok a) f plain next h k =
      let l : Agrees scope known path more t (λ other. next other a) (f a t) = k a t h.sound in
      record {
        sound = l.sound;
        grows = λ name i d w e kept. l.grows name i d w e (h.grows name i d w e kept);
        matches = matches_on path t a plain next (f a t) h.sound h.matches l.grows (f a t).answer l.matches;
        rises = omega (arith, h.rises, l.rises);
        spends = spends_on cost more s t (f a t).state a (f a t).answer h.spends l.spends;
      }
  on_by path cost more s t (Err e) f plain next h k = record {
    sound = h.sound;
    grows = h.grows;
    matches = ap (λ (r : Result _ Fault). r >>= next path) h.matches;
    rises = h.rises;
    spends = omega (arith, h.spends);
  }

  pub on : {A B : Type 0} (path : List Name) (cost more : ℕ) (s : State) (m : Ran A) (f : A → State → Ran B) (plain : List Name → Result A Fault) (next : List Name → A → Result B Fault) → Agrees scope known path cost s plain m → ((a : A) (t : State) → IsSound scope known path t.slots → Agrees scope known path more t (λ other. next other a) (f a t)) → Agrees scope known path (cost + more) s (λ other. plain other >>= next other) (m >>> f)
  on path cost more s m f plain next h k = on_by path cost more s m.state m.answer f plain next h k

  pub choose : {A : Type 0} (path : List Name) (cost : ℕ) (s : State) (b : Bool) (plain more : List Name → Result A Fault) (ran run : Ran A) → Agrees scope known path cost s plain ran → Agrees scope known path cost s more run → Agrees scope known path cost s (λ other. cond b (plain other) (more other)) (cond b ran run)
  choose path cost s true plain more ran run h k = h
  choose path cost s false plain more ran run h k = k

  counted_by : {A : Type 0} (cost : ℕ) (s t : State) (r : Result A Fault) → Spends scope cost (ticked s) t r → Spends scope (suc cost) s t r
  counted_by cost s t (Ok a) h = omega arith
  counted_by cost s t (Err f) h = omega arith

  -- a node is counted
  pub counted : {A : Type 0} (path : List Name) (cost : ℕ) (s : State) (plain : List Name → Result A Fault) (ran : Ran A) → Agrees scope known path cost (ticked s) plain ran → Agrees scope known path (suc cost) s plain ran
  counted path cost s plain ran h = record { sound = h.sound; grows = h.grows; matches = h.matches; rises = omega (arith, h.rises); spends = counted_by cost s ran.state ran.answer h.spends }
