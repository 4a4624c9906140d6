-- What depths and folds answer.
use Rattle.std.proofs.Common.{◌≡◌, ℕ, ◌≤◌, ◌<◌, Bool, true, false, refl, sym, ◌∙◌, subst, arith}
use Rattle.wild_reading.specs.Position.{Bytes, Position, ahead}
use Rattle.wild_reading.specs.Reader.{Reader}
use Rattle.wild_reading.specs.Family.{room, Fold, done, next, Folds}
use Rattle.wild_reading.specs.Only.{IsOnly, Refuses, IsTooDeep}
use Rattle.wild_reading.specs.declared.stop.Stop.{Stop}
use Rattle.wild_reading.specs.declared.stop.Stop.TheVariants.{TooDeep}
use Rattle.wild_reading.proofs.Readers.{moved, cause_same, bytes_same}

-- ---- room

pub room_only : {s : Position} {depth : ℕ} → depth < s.left → IsOnly (room depth) s tt s
unfolding room
room_only h = record { reads = record { deep = h; end = refl }; only = λ limit y j g. (refl, g.end); text = refl; left = refl; forward = omega arith; shrinks = omega arith }

pub room_refuses : {s : Position} {depth position : ℕ} → s.left ≤ depth → IsTooDeep s.text position → Refuses (room depth) s (TooDeep position)
unfolding room
room_refuses {s} {depth} h l = record { none = λ e y j g. let d : depth < s.left = g.deep in omega arith; never = λ e limit y j g. absurd e; cause = l }

pub ruleset rooms = (room_only, room_refuses)

-- ---- folds

module _ {A : Type 0} (stop : Bytes → ℕ → Bool) (step : A → Reader A) where
  -- from x at s, reading came to y at m
  pub record GoesOn (x : A) (s : Position) (y : A) (m : Position) : Type 0 where
    pub back : (z : A) (j : ℕ) → Fold stop step m.text.bytes m.left y m.at z j → Fold stop step s.text.bytes s.left x s.at z j
    pub forth : (limit : ℕ) (z : A) (j : ℕ) → Fold stop step s.text.bytes limit x s.at z j → Fold stop step m.text.bytes limit y m.at z j
    pub text : m.text ≡ s.text
    pub left : m.left ≡ s.left
    pub forward : s.at ≤ m.at
    pub shrinks : ahead m ≤ ahead s

module _ {A : Type 0} {stop : Bytes → ℕ → Bool} {step : A → Reader A} where
  pub fold_start : {x : A} {s : Position} → GoesOn stop step x s x s
  fold_start = record { back = λ z j h. h; forth = λ limit z j h. h; text = refl; left = refl; forward = omega arith; shrinks = omega arith }

  fold_first : {y z : A} {m n : Position} → stop m.text.bytes m.at ≡ false → IsOnly (step y) m z n → (limit : ℕ) (w : A) (j : ℕ) → Fold stop step m.text.bytes limit y m.at w j → Fold stop step n.text.bytes limit z n.at w j
  fold_first e p limit w j (done t) = cc (e, t)
  fold_first {y} {z} {m} {n} e p limit w j (next {y = v} {m = k} t h u) =
      let same = p.only limit v k h in
      let there : Fold stop step m.text.bytes limit z n.at w j = subst (λ (i : ℕ). Fold stop step m.text.bytes limit z i w j) same.1 (subst (λ (a : A). Fold stop step m.text.bytes limit a k w j) same.0 u) in
      subst (λ (b : Bytes). Fold stop step b limit z n.at w j) (sym (bytes_same p.text)) there

  pub fold_step : {x y z : A} {s m n : Position} → GoesOn stop step x s y m → stop m.text.bytes m.at ≡ false → IsOnly (step y) m z n → GoesOn stop step x s z n
  fold_step {x} {y} {z} {s} {m} {n} c e p = record {
    back = λ w j h. c.back w j (next e p.reads (moved (λ b limit i v k. Fold stop step b limit z i v k) (bytes_same p.text) p.left h));
    forth = λ limit w j h. fold_first e p limit w j (c.forth limit w j h);
    text = p.text ∙ c.text;
    left = p.left ∙ c.left;
    forward = omega (arith, c.forward, p.forward);
    shrinks = omega (arith, c.shrinks, p.shrinks);
  }

  fold_end : {b : Bytes} {i : ℕ} {y : A} → stop b i ≡ true → (limit : ℕ) (z : A) (j : ℕ) → Fold stop step b limit y i z j → (z ≡ y) × (j ≡ i)
  fold_end e limit z j (done t) = (refl, refl)
  fold_end e limit z j (next t h u) = cc (e, t)

  pub fold_only : {x y : A} {s m : Position} → GoesOn stop step x s y m → stop m.text.bytes m.at ≡ true → IsOnly (Folds stop step x) s y m
  fold_only {x} {y} {s} {m} c e = record {
    reads = record { is = c.back y m.at (done e) };
    only = λ limit z j h. fold_end e limit z j (c.forth limit z j h.is);
    text = c.text;
    left = c.left;
    forward = c.forward;
    shrinks = c.shrinks;
  }

  step_refused : {b : Bytes} {limit i : ℕ} {y : A} → stop b i ≡ false → ((z : A) (k : ℕ) → step y b limit i z k → ⊥) → (w : A) (j : ℕ) → Fold stop step b limit y i w j → ⊥
  step_refused e p w j (done t) = cc (e, t)
  step_refused e p w j (next {y = v} {m = k} t h u) = p v k h

  pub fold_refuses : {x y : A} {s m : Position} {stopped : Stop} → GoesOn stop step x s y m → stop m.text.bytes m.at ≡ false → Refuses (step y) m stopped → Refuses (Folds stop step x) s stopped
  fold_refuses {x} {y} {s} {m} c e p = record {
    none = λ i w j h. step_refused e (p.none i) w j (subst (λ (n : ℕ). Fold stop step m.text.bytes n y m.at w j) (sym c.left) (c.forth s.left w j h.is));
    never = λ i limit w j h. step_refused e (p.never i limit) w j (c.forth limit w j h.is);
    cause = cause_same _ c.text p.cause;
  }
