-- What is read by a composed reader, from what its parts read.
use Rattle.std.proofs.Common.{◌≡◌, ℕ, zero, suc, ◌≤◌, Bool, true, false, List, [], ◌∷◌, ◌++◌, length, refl, sym, ◌∙◌, ap, subst, arith, append_assoc, append-nil}
use Rattle.std.specs.Prelude.{Option, Some, None, Result, Ok, Err}
use Rattle.std.specs.Result.{IsErrAnd}
use Rattle.std.proofs.lemmas.Result.{err_from_is_err_and}
use Rattle.wild_reading.specs.Position.{Bytes, Text, Position, ahead}
use Rattle.wild_reading.specs.Reader.{Reader, Then, Give, here, Ahead, Nothing, Passes, Takes, Choice, yes, no, Until, none, more, level, Inside}
use Rattle.wild_reading.specs.Only.{IsOnly, Refuses, Answers, IsFault, IsSyntax, IsCause, IsInside, IsFull, Leaves}
use Rattle.wild_reading.specs.declared.stop.Stop.{Stop}
use Rattle.wild_reading.specs.declared.stop.Stop.TheVariants.{Syntax, OpenComment, NestedSort, TooDeep, NoMemory}

-- ---- the same position

pub moved : {A : Type 0} (R : Reader A) {b c : Bytes} {limit left i : ℕ} {y : A} {j : ℕ} → c ≡ b → left ≡ limit → R c left i y j → R b limit i y j
moved R {b} {c} {limit} {left} {i} {y} {j} e g h = subst (λ (n : Bytes). R n limit i y j) e (subst (λ (n : ℕ). R c n i y j) g h)

syntax_is_fault : (stop : Stop) → IsSyntax stop → IsFault stop
syntax_is_fault (Syntax n) h = tt
syntax_is_fault (OpenComment n) h = tt
syntax_is_fault (NestedSort n) h = tt
syntax_is_fault (TooDeep n) h = absurd h
syntax_is_fault NoMemory h = h

pub cause_same : (stop : Stop) {t u : Text} → u ≡ t → IsCause stop u → IsCause stop t
cause_same stop e w = subst (λ (n : Text). IsCause stop n) e w

pub bytes_same : {t u : Text} → u ≡ t → u.bytes ≡ t.bytes
bytes_same e = ap (λ (n : Text). n.bytes) e

-- ---- one reader after another

module _ {A B : Type 0} {P : Reader A} {f : A → Reader B} {s : Position} {x : A} {m : Position} (p : IsOnly P s x m) where
  -- what any reading goes through
  behind : {limit : ℕ} {y : B} {j : ℕ} → Then P f s.text.bytes limit s.at y j → f x m.text.bytes limit m.at y j
  behind {limit} {y} {j} h =
      let same = p.only limit h.value h.middle h.first in
      subst (λ (n : Bytes). f x n limit m.at y j) (sym (bytes_same p.text)) (subst (λ (n : ℕ). f x s.text.bytes limit n y j) same.1 (subst (λ (a : A). f a s.text.bytes limit h.middle y j) same.0 h.second))

  behind_here : {y : B} {j : ℕ} → Then P f s.text.bytes s.left s.at y j → f x m.text.bytes m.left m.at y j
  behind_here {y} {j} h = subst (λ (n : ℕ). f x m.text.bytes n m.at y j) (sym p.left) (behind h)

pub bind_only : {A B : Type 0} {P : Reader A} {f : A → Reader B} {s : Position} {x : A} {m : Position} {y : B} {r : Position} → IsOnly P s x m → IsOnly (f x) m y r → IsOnly (Then P f) s y r
bind_only {f = f} {x = x} p q = record {
  reads = record { value = _; middle = _; first = p.reads; second = moved (f x) (bytes_same p.text) p.left q.reads };
  only = λ limit y j h. q.only limit y j (behind p h);
  text = q.text ∙ p.text;
  left = q.left ∙ p.left;
  forward = omega (arith, p.forward, q.forward);
  shrinks = omega (arith, p.shrinks, q.shrinks);
}

pub bind_refuses : {A B : Type 0} {P : Reader A} {f : A → Reader B} {s : Position} {stop : Stop} → Refuses P s stop → Refuses (Then P f) s stop
bind_refuses p = record { none = λ e y j h. p.none e h.value h.middle h.first; never = λ e limit y j h. p.never e limit h.value h.middle h.first; cause = p.cause }

pub bind_then_refuses : {A B : Type 0} {P : Reader A} {f : A → Reader B} {s : Position} {x : A} {m : Position} {stop : Stop} → IsOnly P s x m → Refuses (f x) m stop → Refuses (Then P f) s stop
bind_then_refuses p q = record {
  none = λ e y j h. q.none e y j (behind_here p h);
  never = λ e limit y j h. q.never e limit y j (behind p h);
  cause = cause_same _ p.text q.cause;
}

pub no_memory : {A : Type 0} {P : Reader A} {s : Position} → Refuses P s NoMemory
no_memory = record { none = λ e y j h. absurd e; never = λ e limit y j h. absurd e; cause = tt }

-- ---- at a return

pub answers_ok : {A : Type 0} {R : Reader A} {s r : Position} {x : A} → IsOnly R s x r → Answers R s r (Ok x)
answers_ok p = record { ok = p; err = tt }

pub answers_refused : {A : Type 0} {R : Reader A} {s r : Position} {stop : Stop} → Refuses R s stop → Answers R s r (Err stop)
answers_refused p = record { ok = tt; err = p }

pub answers_err : {A : Type 0} {R : Reader A} {s r : Position} {stop : Stop} {result : Result A Stop} → IsErrAnd result (λ e. e ≡ stop) → Refuses R s stop → Answers R s r result
answers_err {A} {R} {s} {r} {stop} {result} h p =
    let e = err_from_is_err_and result h in
    subst (λ (q : Result A Stop). Answers R s r q) (sym (e.1 ∙ ap (λ (d : Stop). Err d) e.2)) (answers_refused p)

-- after a part that was read, the answer of the rest
pub bind_answers : {A B : Type 0} {P : Reader A} {f : A → Reader B} {s : Position} {x : A} {m r : Position} {result : Result B Stop} → IsOnly P s x m → Answers (f x) m r result → Answers (Then P f) s r result
bind_answers {result = Ok y} p h = answers_ok (bind_only p h.ok)
bind_answers {result = Err e} p h = answers_refused (bind_then_refuses p h.err)

-- ---- what takes no bytes

pub give_only : {A : Type 0} {x : A} {s : Position} → IsOnly (Give x) s x s
give_only = record { reads = record { value = refl; end = refl }; only = λ limit y j h. (h.value, h.end); text = refl; left = refl; forward = omega arith; shrinks = omega arith }

pub give_by : {A : Type 0} {x y : A} {s : Position} → y ≡ x → IsOnly (Give x) s y s
give_by e = record { reads = record { value = e; end = refl }; only = λ limit y j h. (h.value ∙ sym e, h.end); text = refl; left = refl; forward = omega arith; shrinks = omega arith }

pub here_only : {s : Position} {x : ℕ} → x ≡ s.at → IsOnly here s x s
unfolding here
here_only e = record { reads = record { value = e; end = refl }; only = λ limit y j h. (h.value ∙ sym e, h.end); text = refl; left = refl; forward = omega arith; shrinks = omega arith }

pub ahead_only : {test : Bytes → ℕ → Bool} {s : Position} → test s.text.bytes s.at ≡ true → IsOnly (Ahead test) s tt s
ahead_only h = record { reads = record { holds = h; end = refl }; only = λ limit y j g. (refl, g.end); text = refl; left = refl; forward = omega arith; shrinks = omega arith }

pub ahead_refuses : {test : Bytes → ℕ → Bool} {s : Position} {position : ℕ} → test s.text.bytes s.at ≡ false → position ≤ length s.text.bytes → Refuses (Ahead test) s (Syntax position)
ahead_refuses h l = record { none = λ e y j g. cc (h, g.holds); never = λ e limit y j g. cc (h, g.holds); cause = l }

pub nothing_refuses : {A : Type 0} {s : Position} {position : ℕ} → position ≤ length s.text.bytes → Refuses (Nothing {A = A}) s (Syntax position)
nothing_refuses l = record { none = λ e y j g. g.never; never = λ e limit y j g. g.never; cause = l }

-- ---- functions

same_some : {A : Type 0} {x y : A} {o : Option A} → o ≡ Some x → o ≡ Some y → y ≡ x
same_some h g = cc

pub passes_only : {f : Bytes → ℕ → Option ℕ} {s r : Position} → f s.text.bytes s.at ≡ Some r.at → r.text ≡ s.text → r.left ≡ s.left → s.at ≤ r.at → ahead r ≤ ahead s → IsOnly (Passes f) s tt r
passes_only h e g w l = record { reads = record { found = h }; only = λ limit y j k. (refl, same_some h k.found); text = e; left = g; forward = w; shrinks = l }

pub passes_refuses : {f : Bytes → ℕ → Option ℕ} {s : Position} {stop : Stop} → f s.text.bytes s.at ≡ None → IsCause stop s.text → Refuses (Passes f) s stop
passes_refuses h l = record { none = λ e y j g. cc (h, g.found); never = λ e limit y j g. cc (h, g.found); cause = l }

pair_of : {A : Type 0} {x y : A} {i j : ℕ} {o : Option (A × ℕ)} → o ≡ Some (x, i) → o ≡ Some (y, j) → (y ≡ x) × (j ≡ i)
pair_of {A} {x} {y} {i} {j} h g = let e : (y, j) ≡ (x, i) = same_some h g in (ap (λ (p : A × ℕ). p.0) e, ap (λ (p : A × ℕ). p.1) e)

pub takes_only : {A : Type 0} {f : Bytes → ℕ → Option (A × ℕ)} {s r : Position} {x : A} → f s.text.bytes s.at ≡ Some (x, r.at) → r.text ≡ s.text → r.left ≡ s.left → s.at ≤ r.at → ahead r ≤ ahead s → IsOnly (Takes f) s x r
takes_only h e g w l = record { reads = record { found = h }; only = λ limit y j k. pair_of h k.found; text = e; left = g; forward = w; shrinks = l }

pub takes_refuses : {A : Type 0} {f : Bytes → ℕ → Option (A × ℕ)} {s : Position} {stop : Stop} → f s.text.bytes s.at ≡ None → IsCause stop s.text → Refuses (Takes f) s stop
takes_refuses h l = record { none = λ e y j g. cc (h, g.found); never = λ e limit y j g. cc (h, g.found); cause = l }

-- ---- a choice

module _ {A : Type 0} {test : Bytes → ℕ → Bool} {P Q : Reader A} {b : Bytes} {i : ℕ} where
  of_yes : {limit : ℕ} {y : A} {j : ℕ} → test b i ≡ true → Choice test P Q b limit i y j → P b limit i y j
  of_yes e (yes t p) = p
  of_yes e (no t q) = cc (e, t)

  of_no : {limit : ℕ} {y : A} {j : ℕ} → test b i ≡ false → Choice test P Q b limit i y j → Q b limit i y j
  of_no e (yes t p) = cc (e, t)
  of_no e (no t q) = q

module _ {A : Type 0} {test : Bytes → ℕ → Bool} {P Q : Reader A} {s : Position} where
  pub choice_yes : {y : A} {r : Position} → test s.text.bytes s.at ≡ true → IsOnly P s y r → IsOnly (Choice test P Q) s y r
  choice_yes e p = record { reads = yes e p.reads; only = λ limit y j h. p.only limit y j (of_yes e h); text = p.text; left = p.left; forward = p.forward; shrinks = p.shrinks }

  pub choice_no : {y : A} {r : Position} → test s.text.bytes s.at ≡ false → IsOnly Q s y r → IsOnly (Choice test P Q) s y r
  choice_no e p = record { reads = no e p.reads; only = λ limit y j h. p.only limit y j (of_no e h); text = p.text; left = p.left; forward = p.forward; shrinks = p.shrinks }

  pub choice_yes_refuses : {stop : Stop} → test s.text.bytes s.at ≡ true → Refuses P s stop → Refuses (Choice test P Q) s stop
  choice_yes_refuses e p = record { none = λ i y j h. p.none i y j (of_yes e h); never = λ i limit y j h. p.never i limit y j (of_yes e h); cause = p.cause }

  pub choice_no_refuses : {stop : Stop} → test s.text.bytes s.at ≡ false → Refuses Q s stop → Refuses (Choice test P Q) s stop
  choice_no_refuses e p = record { none = λ i y j h. p.none i y j (of_no e h); never = λ i limit y j h. p.never i limit y j (of_no e h); cause = p.cause }

module _ {A : Type 0} {test : Bytes → ℕ → Bool} {P Q : Reader A} {s r : Position} where
  pub choice_yes_answers : {result : Result A Stop} → test s.text.bytes s.at ≡ true → Answers P s r result → Answers (Choice test P Q) s r result
  choice_yes_answers {result = Ok x} e h = answers_ok (choice_yes e h.ok)
  choice_yes_answers {result = Err x} e h = answers_refused (choice_yes_refuses e h.err)

  pub choice_no_answers : {result : Result A Stop} → test s.text.bytes s.at ≡ false → Answers Q s r result → Answers (Choice test P Q) s r result
  choice_no_answers {result = Ok x} e h = answers_ok (choice_no e h.ok)
  choice_no_answers {result = Err x} e h = answers_refused (choice_no_refuses e h.err)

-- ---- what nests

ahead_same : (s r : Position) → r.text ≡ s.text → r.at ≡ s.at → ahead r ≤ ahead s
unfolding ahead
ahead_same s r e g = omega (arith, ap (λ (n : Text). length n.bytes) e, g)

at_end : {A : Type 0} {x y : A} {i j k : ℕ} → k ≡ i → (y ≡ x) × (j ≡ i) → (y ≡ x) × (j ≡ k)
at_end g p = (p.0, p.1 ∙ sym g)

-- what is made of a reader uses it at the limit that is given
pub record IsLocal {A B : Type 0} (F : Reader A → Reader B) : Type 1 where
  pub keeps : (n : ℕ) (P Q : Reader A) → ((b : Bytes) (i : ℕ) (y : A) (j : ℕ) → P b n i y j → Q b n i y j) → (b : Bytes) (i : ℕ) (y : B) (j : ℕ) → F P b n i y j → F Q b n i y j

pub self_local : {A : Type 0} → IsLocal {A = A} (λ R. R)
self_local = record { keeps = λ n P Q g b i y j h. g b i y j h }

pub same_local : {A B : Type 0} {P : Reader B} → IsLocal {A = A} (λ R. P)
same_local = record { keeps = λ n P Q g b i y j h. h }

pub then_local : {A B C : Type 0} {P : Reader A → Reader B} {f : Reader A → B → Reader C} → IsLocal P → ((x : B) → IsLocal (λ R. f R x)) → IsLocal (λ R. Then (P R) (f R))
then_local p q = record {
  keeps = λ n P Q g b i y j h. record { value = h.value; middle = h.middle; first = p.keeps n P Q g b i h.value h.middle h.first; second = (q h.value).keeps n P Q g b h.middle y j h.second };
}

module _ {A B : Type 0} {test : Bytes → ℕ → Bool} {P Q : Reader A → Reader B} (p : IsLocal P) (q : IsLocal Q) where
  choice_keeps : (n : ℕ) (R S : Reader A) → ((b : Bytes) (i : ℕ) (y : A) (j : ℕ) → R b n i y j → S b n i y j) → (b : Bytes) (i : ℕ) (y : B) (j : ℕ) → Choice test (P R) (Q R) b n i y j → Choice test (P S) (Q S) b n i y j
  choice_keeps n R S g b i y j (yes t h) = yes t (p.keeps n R S g b i y j h)
  choice_keeps n R S g b i y j (no t h) = no t (q.keeps n R S g b i y j h)

  pub choice_local : IsLocal (λ R. Choice test (P R) (Q R))
  choice_local = record { keeps = choice_keeps }

module _ {A B : Type 0} {stop : Bytes → ℕ → Bool} {P : Reader A → Reader B} (p : IsLocal P) where
  until_keeps : (n : ℕ) (R S : Reader A) → ((b : Bytes) (i : ℕ) (y : A) (j : ℕ) → R b n i y j → S b n i y j) → (b : Bytes) (i : ℕ) (ys : List B) (j : ℕ) → Until stop (P R) b n i ys j → Until stop (P S) b n i ys j
  until_keeps n R S g b i [] j (none t) = none t
  until_keeps n R S g b i (y ∷ ys) j (more {m = m} t h u) = more t (p.keeps n R S g b i y m h) (until_keeps n R S g b m ys j u)

  pub until_local : IsLocal (λ R. Until stop (P R))
  until_local = record { keeps = until_keeps }

pub ruleset local = (self_local, same_local, then_local, choice_local, until_local)

nothing_inside : {A : Type 0} (F : Reader A → Reader A) (b : Bytes) (i : ℕ) (y : A) (j : ℕ) → Inside F b zero i y j → ⊥
unfolding level
nothing_inside F b i y j h = h.is

-- the inner reader is the outer one, one deeper
pub record IsInner {A : Type 0} (R Q : Reader A) : Type 0 where
  pub into : (b : Bytes) (limit i : ℕ) (y : A) (j : ℕ) → R b limit i y j → Q b (suc limit) i y j
  pub out : (b : Bytes) (limit i : ℕ) (y : A) (j : ℕ) → Q b (suc limit) i y j → R b limit i y j
  pub never : (b : Bytes) (i : ℕ) (y : A) (j : ℕ) → Q b zero i y j → ⊥

module _ {A : Type 0} (F : Reader A → Reader A) (f : IsLocal F) where
  out_of : (b : Bytes) (limit i : ℕ) (y : A) (j : ℕ) → Inside F b (suc limit) i y j → F (Inside F) b limit i y j
  unfolding level
  out_of b limit i y j h = f.keeps limit (level F limit) (Inside F) (λ c k z l g. record { is = g }) b i y j h.is

  into : (b : Bytes) (limit i : ℕ) (y : A) (j : ℕ) → F (Inside F) b limit i y j → Inside F b (suc limit) i y j
  unfolding level
  into b limit i y j h = record { is = f.keeps limit (Inside F) (level F limit) (λ c k z l g. g.is) b i y j h }

pub inner : {A : Type 0} (F : Reader A → Reader A) → IsLocal F → IsInner (F (Inside F)) (Inside F)
inner F f = record { into = into F f; out = out_of F f; never = nothing_inside F }

module _ {A : Type 0} {R Q : Reader A} (k : IsInner R Q) where
  -- what holds of all that is read one deeper
  from_inside : {C : A → ℕ → Type 0} {b c : Bytes} {i k : ℕ} → c ≡ b → k ≡ i → ((limit : ℕ) (y : A) (j : ℕ) → R c limit k y j → C y j) → (limit : ℕ) (y : A) (j : ℕ) → Q b limit i y j → C y j
  from_inside e g holds zero y j h = absurd (k.never _ _ y j h)
  from_inside {b = b} {c = c} {i = i} {k = l} e g holds (suc limit) y j h =
      holds limit y j (subst (λ (n : ℕ). R c limit n y j) (sym g) (subst (λ (n : Bytes). R n limit i y j) (sym e) (k.out b limit i y j h)))

module _ {A : Type 0} {R Q : Reader A} {s : Position} {t : Position} (k : IsInner R Q) (e : IsInside s t) where
  same_bytes : t.text.bytes ≡ s.text.bytes
  same_bytes = bytes_same e.text

  outwards : {y : A} {j l : ℕ} → l ≡ j → R t.text.bytes t.left t.at y j → Q s.text.bytes s.left s.at y l
  outwards {y} {j} {l} g h =
      let at_place : Q s.text.bytes (suc t.left) s.at y j = subst (λ (n : ℕ). Q s.text.bytes (suc t.left) n y j) e.at (subst (λ (n : Bytes). Q n (suc t.left) t.at y j) same_bytes (k.into t.text.bytes t.left t.at y j h)) in
      subst (λ (n : ℕ). Q s.text.bytes s.left s.at y n) (sym g) (subst (λ (n : ℕ). Q s.text.bytes n s.at y j) e.left at_place)

  inwards : {y : A} {j : ℕ} → Q s.text.bytes s.left s.at y j → R t.text.bytes t.left t.at y j
  inwards {y} {j} h =
      let deep : Q s.text.bytes (suc t.left) s.at y j = subst (λ (n : ℕ). Q s.text.bytes n s.at y j) (sym e.left) h in
      subst (λ (n : ℕ). R t.text.bytes t.left n y j) (sym e.at) (subst (λ (n : Bytes). R n t.left s.at y j) (sym same_bytes) (k.out s.text.bytes t.left s.at y j deep))

  pub deeper_only : {x : A} {m r : Position} → IsOnly R t x m → Leaves m r → IsOnly Q s x r
  deeper_only {x} {m} {r} p l = record {
    reads = outwards l.at p.reads;
    only = λ limit y j h. at_end l.at (from_inside k {C = λ z o. (z ≡ x) × (o ≡ m.at)} same_bytes e.at p.only limit y j h);
    text = l.text ∙ p.text ∙ e.text;
    left = l.left ∙ ap suc p.left ∙ e.left;
    forward = omega (arith, l.at, p.forward, e.at);
    shrinks = omega (arith, ahead_same m r l.text l.at, p.shrinks, ahead_same s t e.text e.at);
  }

  pub deeper_refuses : {stop : Stop} → Refuses R t stop → Refuses Q s stop
  deeper_refuses p = record {
    none = λ i y j h. p.none i y j (inwards h);
    never = λ i limit y j h. from_inside k {C = λ _ _. ⊥} same_bytes e.at (p.never i) limit y j h;
    cause = cause_same _ e.text p.cause;
  }

pub full_refuses : {A : Type 0} {R Q : Reader A} {s : Position} {stop : Stop} → IsInner R Q → IsFull s stop → Refuses Q s stop
full_refuses {A} {R} {Q} {s} k p = record {
  none = λ i y j h. k.never s.text.bytes s.at y j (subst (λ (n : ℕ). Q s.text.bytes n s.at y j) p.left h);
  never = λ i limit y j h. absurd (p.deep i);
  cause = p.cause;
}

-- ---- lists

module _ {A : Type 0} (stop : Bytes → ℕ → Bool) (item : Reader A) where
  -- front was read from s on, and reading stands at m
  pub record Continues (s : Position) (front : List A) (m : Position) : Type 0 where
    pub back : (zs : List A) (j : ℕ) → Until stop item m.text.bytes m.left m.at zs j → Until stop item s.text.bytes s.left s.at (front ++ zs) j
    pub forth : (limit : ℕ) (ys : List A) (j : ℕ) → Until stop item s.text.bytes limit s.at ys j → (zs : List A) × (ys ≡ front ++ zs) × Until stop item m.text.bytes limit m.at zs j
    pub text : m.text ≡ s.text
    pub left : m.left ≡ s.left
    pub forward : s.at ≤ m.at
    pub shrinks : ahead m ≤ ahead s

module _ {A : Type 0} {stop : Bytes → ℕ → Bool} {item : Reader A} where
  pub until_start : {s : Position} → Continues stop item s [] s
  until_start = record { back = λ zs j h. h; forth = λ limit ys j h. (ys, refl, h); text = refl; left = refl; forward = omega arith; shrinks = omega arith }

  until_first : {m n : Position} {x : A} → stop m.text.bytes m.at ≡ false → IsOnly item m x n → (limit : ℕ) (ys : List A) (j : ℕ) → Until stop item m.text.bytes limit m.at ys j → (zs : List A) × (ys ≡ x ∷ zs) × Until stop item n.text.bytes limit n.at zs j
  until_first e p limit [] j (none t) = cc (e, t)
  until_first {m} {n} {x} e p limit (y ∷ ys) j (more {m = k} t h u) =
      let same = p.only limit y k h in
      let there : Until stop item m.text.bytes limit n.at ys j = subst (λ (i : ℕ). Until stop item m.text.bytes limit i ys j) same.1 u in
      (ys, ap (λ (a : A). a ∷ ys) same.0, subst (λ (b : Bytes). Until stop item b limit n.at ys j) (sym (bytes_same p.text)) there)

  pub until_step : {s m n : Position} {front whole : List A} {x : A} → whole ≡ front ++ x ∷ [] → Continues stop item s front m → stop m.text.bytes m.at ≡ false → IsOnly item m x n → Continues stop item s whole n
  until_step {s} {m} {n} {front} {whole} {x} g c e p = subst (λ (l : List A). Continues stop item s l n) (sym g) (record {
    back = λ zs j h. subst (λ (l : List A). Until stop item s.text.bytes s.left s.at l j) (sym (append_assoc front (x ∷ []) zs))
        (c.back (x ∷ zs) j (more e p.reads (moved (λ b limit i ys k. Until stop item b limit i ys k) (bytes_same p.text) p.left h)));
    forth = λ limit ys j h.
        let rest = c.forth limit ys j h in
        let next = until_first e p limit rest.0 j rest.2 in
        (next.0, rest.1 ∙ ap (λ (l : List A). front ++ l) next.1 ∙ sym (append_assoc front (x ∷ []) next.0), next.2);
    text = p.text ∙ c.text;
    left = p.left ∙ c.left;
    forward = omega (arith, c.forward, p.forward);
    shrinks = omega (arith, c.shrinks, p.shrinks);
  })

  no_more : {b : Bytes} {i : ℕ} → stop b i ≡ true → (limit : ℕ) (ys : List A) (j : ℕ) → Until stop item b limit i ys j → (ys ≡ []) × (j ≡ i)
  no_more e limit [] j (none t) = (refl, refl)
  no_more e limit (y ∷ ys) j (more t h u) = cc (e, t)

  pub until_only : {s m : Position} {front : List A} → Continues stop item s front m → stop m.text.bytes m.at ≡ true → IsOnly (Until stop item) s front m
  until_only {s} {m} {front} c e = record {
    reads = subst (λ (l : List A). Until stop item s.text.bytes s.left s.at l m.at) (append-nil front) (c.back [] m.at (none e));
    only = λ limit ys j h.
        let rest = c.forth limit ys j h in
        let end = no_more e limit rest.0 j rest.2 in
        (rest.1 ∙ ap (λ (l : List A). front ++ l) end.0 ∙ append-nil front, end.1);
    text = c.text;
    left = c.left;
    forward = c.forward;
    shrinks = c.shrinks;
  }

  first_refused : {b : Bytes} {limit i : ℕ} → stop b i ≡ false → ((x : A) (k : ℕ) → item b limit i x k → ⊥) → (ys : List A) (j : ℕ) → Until stop item b limit i ys j → ⊥
  first_refused e p [] j (none t) = cc (e, t)
  first_refused e p (y ∷ ys) j (more {m = k} t h u) = p y k h

  pub until_refuses : {s m : Position} {front : List A} {stopped : Stop} → Continues stop item s front m → stop m.text.bytes m.at ≡ false → Refuses item m stopped → Refuses (Until stop item) s stopped
  until_refuses {s} {m} c e p = record {
    none = λ i ys j h. let rest = c.forth s.left ys j h in first_refused e (p.none i) rest.0 j (subst (λ (n : ℕ). Until stop item m.text.bytes n m.at rest.0 j) (sym c.left) rest.2);
    never = λ i limit ys j h. let rest = c.forth limit ys j h in first_refused e (p.never i limit) rest.0 j rest.2;
    cause = cause_same _ c.text p.cause;
  }

  -- a list ends where the test holds
  pub until_ends : (b : Bytes) (limit i : ℕ) (xs : List A) (j : ℕ) → Until stop item b limit i xs j → stop b j ≡ true
  until_ends b limit i [] j (none t) = t
  until_ends b limit i (x ∷ xs) j (more t h u) = until_ends b limit _ xs j u

-- what a function that reads step by step answers with
pub ruleset reading = (bind_only, bind_refuses, bind_then_refuses, bind_answers, no_memory, answers_ok, answers_refused, answers_err, give_only, give_by, ahead_only, ahead_refuses, nothing_refuses)

pub ruleset choosing = (choice_yes, choice_no, choice_yes_refuses, choice_no_refuses, choice_yes_answers, choice_no_answers, answers_refused, nothing_refuses)

pub ruleset checking = (ahead_only, ahead_refuses, answers_ok, answers_refused)

pub ruleset leaves = (passes_only, passes_refuses, takes_only, takes_refuses, answers_ok, answers_refused)

pub ruleset repeating = (until_start, until_step, until_only, until_refuses, no_memory, answers_ok, answers_refused, answers_err)
