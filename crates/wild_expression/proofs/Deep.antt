-- How deep what a reader reads is, and within which limits it is read.
use Rattle.std.proofs.Common.{ℕ, ◌+◌, ◌≤◌, ◌<◌, max, Bool, sym, subst, arith}
use Rattle.wild_reading.specs.Position.{Bytes}
use Rattle.wild_reading.specs.Reader.{Reader, Then, Give, Choice, yes, no}
use Rattle.wild_reading.specs.Family.{room, Fold, done, next, Folds}
use Rattle.wild_expression_words.specs.declared.operators.Level.{Level}
use Rattle.wild_expression.specs.declared.measured.Measured.{Measured}
use Rattle.wild_expression.specs.Grammar.{Values}
use Rattle.wild_expression.proofs.Free.{IsFree}

-- what it reads at the limit is less deep
abbrev pub Below : ℕ → Values → Type 0
Below n P = (k : Level) (b : Bytes) (i : ℕ) (y : Measured) (j : ℕ) → P k b n i y j → y.depth < n

-- what P reads at one limit, Q reads at the other, if it is less deep than that
abbrev pub Lends : ℕ → ℕ → Values → Values → Type 0
Lends n m P Q = (k : Level) (b : Bytes) (i : ℕ) (y : Measured) (j : ℕ) → P k b n i y j → y.depth < m → Q k b m i y j

-- what is made of such readers is at least d deep, at most as the limit, and is read within each limit that its depth allows
pub record AreDeep (n d : ℕ) (F : Values → Reader Measured) : Type 1 where
  pub floor : (P : Values) → Below n P → (b : Bytes) (i : ℕ) (y : Measured) (j : ℕ) → F P b n i y j → d ≤ y.depth
  pub bound : (P : Values) → Below n P → (b : Bytes) (i : ℕ) (y : Measured) (j : ℕ) → F P b n i y j → y.depth ≤ n
  pub keeps : (m : ℕ) (P Q : Values) → Below n P → Lends n m P Q → (b : Bytes) (i : ℕ) (y : Measured) (j : ℕ) → F P b n i y j → y.depth ≤ m → F Q b m i y j

pub give_deep : {n d : ℕ} {x : Measured} → d ≤ x.depth → x.depth ≤ n → AreDeep n d (λ R. Give x)
give_deep {n} {d} {x} l u = record {
  floor = λ P p b i y j h. subst (λ (z : Measured). d ≤ z.depth) (sym h.value) l;
  bound = λ P p b i y j h. subst (λ (z : Measured). z.depth ≤ n) (sym h.value) u;
  keeps = λ m P Q p q b i y j h e. record { value = h.value; end = h.end };
}

pub then_fixed : {n d : ℕ} {B : Type 0} {P : Reader B} {G : Values → B → Reader Measured} → IsFree P → ((x : B) → AreDeep n d (λ R. G R x)) → AreDeep n d (λ R. Then P (G R))
then_fixed {n} f g = record {
  floor = λ P p b i y j h. (g h.value).floor P p b h.middle y j h.second;
  bound = λ P p b i y j h. (g h.value).bound P p b h.middle y j h.second;
  keeps = λ m P Q p q b i y j h e. record { value = h.value; middle = h.middle; first = f.at n m b i h.value h.middle h.first; second = (g h.value).keeps m P Q p q b h.middle y j h.second e };
}

pub then_inner : {n d : ℕ} {G : Values → Measured → Reader Measured} (k : Level) → ((x : Measured) → x.depth < n → AreDeep n (max d (x.depth + 1)) (λ R. G R x)) → AreDeep n d (λ R. Then (R k) (G R))
then_inner {n} {d} k g = record {
  floor = λ P p b i y j h. let u = p k b i h.value h.middle h.first in omega (arith, (g h.value u).floor P p b h.middle y j h.second);
  bound = λ P p b i y j h. let u = p k b i h.value h.middle h.first in (g h.value u).bound P p b h.middle y j h.second;
  keeps = λ m P Q p q b i y j h e.
      let u = p k b i h.value h.middle h.first in
      let w : h.value.depth < m = omega (arith, e, (g h.value u).floor P p b h.middle y j h.second) in
      record { value = h.value; middle = h.middle; first = q k b i h.value h.middle h.first w; second = (g h.value u).keeps m P Q p q b h.middle y j h.second e };
}

pub then_first : {n d : ℕ} {F : Values → Reader Measured} {G : Values → Measured → Reader Measured} → AreDeep n 0 F → ((x : Measured) → x.depth ≤ n → AreDeep n (max d x.depth) (λ R. G R x)) → AreDeep n d (λ R. Then (F R) (G R))
then_first {n} {d} f g = record {
  floor = λ P p b i y j h. let u = f.bound P p b i h.value h.middle h.first in omega (arith, (g h.value u).floor P p b h.middle y j h.second);
  bound = λ P p b i y j h. let u = f.bound P p b i h.value h.middle h.first in (g h.value u).bound P p b h.middle y j h.second;
  keeps = λ m P Q p q b i y j h e.
      let u = f.bound P p b i h.value h.middle h.first in
      let w : h.value.depth ≤ m = omega (arith, e, (g h.value u).floor P p b h.middle y j h.second) in
      record { value = h.value; middle = h.middle; first = f.keeps m P Q p q b i h.value h.middle h.first w; second = (g h.value u).keeps m P Q p q b h.middle y j h.second e };
}

pub then_room : {n d : ℕ} {G : Values → Unit {0} → Reader Measured} (e : ℕ) → (e < n → AreDeep n (max d (e + 1)) (λ R. G R tt)) → AreDeep n d (λ R. Then (room e) (G R))
unfolding room
then_room {n} {d} e g = record {
  floor = λ P p b i y j h. omega (arith, (g h.first.deep).floor P p b h.middle y j h.second);
  bound = λ P p b i y j h. (g h.first.deep).bound P p b h.middle y j h.second;
  keeps = λ m P Q p q b i y j h l.
      let w : e < m = omega (arith, l, (g h.first.deep).floor P p b h.middle y j h.second) in
      record { value = tt; middle = h.middle; first = record { deep = w; end = h.first.end }; second = (g h.first.deep).keeps m P Q p q b h.middle y j h.second l };
}

module _ {n d : ℕ} {test : Bytes → ℕ → Bool} {F G : Values → Reader Measured} (f : AreDeep n d F) (g : AreDeep n d G) where
  choice_floor : (P : Values) → Below n P → (b : Bytes) (i : ℕ) (y : Measured) (j : ℕ) → Choice test (F P) (G P) b n i y j → d ≤ y.depth
  choice_floor P p b i y j (yes t h) = f.floor P p b i y j h
  choice_floor P p b i y j (no t h) = g.floor P p b i y j h

  choice_bound : (P : Values) → Below n P → (b : Bytes) (i : ℕ) (y : Measured) (j : ℕ) → Choice test (F P) (G P) b n i y j → y.depth ≤ n
  choice_bound P p b i y j (yes t h) = f.bound P p b i y j h
  choice_bound P p b i y j (no t h) = g.bound P p b i y j h

  choice_keeps : (m : ℕ) (P Q : Values) → Below n P → Lends n m P Q → (b : Bytes) (i : ℕ) (y : Measured) (j : ℕ) → Choice test (F P) (G P) b n i y j → y.depth ≤ m → Choice test (F Q) (G Q) b m i y j
  choice_keeps m P Q p q b i y j (yes t h) e = yes t (f.keeps m P Q p q b i y j h e)
  choice_keeps m P Q p q b i y j (no t h) e = no t (g.keeps m P Q p q b i y j h e)

  pub choice_deep : AreDeep n d (λ R. Choice test (F R) (G R))
  choice_deep = record { floor = choice_floor; bound = choice_bound; keeps = choice_keeps }

module _ {n : ℕ} {stop : Bytes → ℕ → Bool} {F : Values → Measured → Reader Measured} (f : (x : Measured) → x.depth ≤ n → AreDeep n x.depth (λ R. F R x)) where
  fold_bound : (P : Values) → Below n P → (b : Bytes) (x : Measured) (i : ℕ) (y : Measured) (j : ℕ) → x.depth ≤ n → Fold stop (F P) b n x i y j → (x.depth ≤ y.depth) × (y.depth ≤ n)
  fold_bound P p b x i y j u (done t) = (omega arith, u)
  fold_bound P p b x i y j u (next {y = z} {m = k} t h more) =
      let s = f x u in
      let rest = fold_bound P p b z k y j (s.bound P p b i z k h) more in
      (omega (arith, s.floor P p b i z k h, rest.0), rest.1)

  fold_keeps : (m : ℕ) (P Q : Values) → Below n P → Lends n m P Q → (b : Bytes) (x : Measured) (i : ℕ) (y : Measured) (j : ℕ) → x.depth ≤ n → Fold stop (F P) b n x i y j → y.depth ≤ m → Fold stop (F Q) b m x i y j
  fold_keeps m P Q p q b x i y j u (done t) e = done t
  fold_keeps m P Q p q b x i y j u (next {y = z} {m = k} t h more) e =
      let s = f x u in
      let v = s.bound P p b i z k h in
      let rest = fold_bound P p b z k y j v more in
      next t (s.keeps m P Q p q b i z k h (omega (arith, rest.0, e))) (fold_keeps m P Q p q b z k y j v more e)

  pub folds_deep : {d : ℕ} (x : Measured) → d ≤ x.depth → x.depth ≤ n → AreDeep n d (λ R. Folds stop (F R) x)
  folds_deep x l u = record {
    floor = λ P p b i y j h. omega (arith, l, (fold_bound P p b x i y j u h.is).0);
    bound = λ P p b i y j h. (fold_bound P p b x i y j u h.is).1;
    keeps = λ m P Q p q b i y j h e. record { is = fold_keeps m P Q p q b x i y j u h.is e };
  }
