-- What a walk over arguments shows, argument by argument.
use Rattle.std.proofs.Common.{◌≡◌, ◌≢◌, ◌<◌, ◌≤◌, length, get_or, ◌∙◌, ℕ, ◌+◌, ◌-◌, ◌^◌, min, Bool, true, false, List, [], ◌∷◌, ◌++◌, map, drop, refl, sym, ap, subst, ⊎_elim, IsUtf8}
use Rattle.std.specs.Prelude.{codes, Result, Ok, Err}
use Rattle.std.specs.List.{starts_with}
use Rattle.std.specs.Str.Pattern.{LacksTextAt, FindsTextPrefix, StripsPrefix}
use Rattle.std.proofs.lemmas.Bool.{cases_Bool}
use Rattle.std.proofs.lemmas.Bool.Decides.{Decides-eqb}
use Rattle.std.proofs.lemmas.Slice.Eq.{starts_is}
use Rattle.std.proofs.lemmas.List.{drop_more}
use Rattle.std.proofs.Math.ListN.{drop_of_length-le}
use Rattle.wild_script_tree.specs.declared.tree.Command.{Command, out-Command}
use Rattle.wild_script_tree.specs.declared.tree.Command.TheVariants as variant
use Rattle.wild_script_tree.specs.declared.tree.Command.TheVariants.{rolls-Arg, rolls-Group, rolls-AsNeeded}
use Rattle.wild_script_tree.specs.declared.tree.Command.TheOpen.{Command-F}
use Rattle.wild_script_tree.specs.declared.tree.Command.TheFolds.{fold_out-Command, fold-roll-Command, map-Command}
use Rattle.wild_script_tree.specs.declared.tree.Command.TheViews.{roll-Command, roll-out-Command}
use Rattle.wild_script.specs.declared.input.InputKind.TheVariants as kind
use Rattle.wild_script.specs.declared.input.Modifiers.{Modifiers}
use Rattle.wild_script.specs.declared.input.InputFault.TheVariants as fault
use Rattle.wild_script.specs.Inputs.{Argument, Arguments, needed, in_all, arguments_step, command_arguments, arguments, is_library, Input, input_of, Visit, next_number, End, Walk, done, strange, stopped, shown, Step, Sees, Shows}

-- ---- inputs

library_true : (bs : List ℕ) → bs ≡ codes "-l" ++ drop 2 bs → is_library bs ≡ true
library_true bs e = ap is_library e

library_false : (bs : List ℕ) → LacksTextAt (codes "-l") bs 0 → is_library bs ≡ false
library_false bs h = ⊎_elim (λ e. absurd (h (drop 2 bs) ((starts_is Decides-eqb bs (codes "-l") true (sym e)).0 refl))) (λ e. e) (cases_Bool (is_library bs))

library_of : (bs : List ℕ) (m : Modifiers) → is_library bs ≡ true → input_of (record { name = bs; modifiers = m }) ≡ record { kind = kind.Lib; name = drop 2 bs; modifiers = m }
unfolding input_of
library_of bs m e = rw e refl

file_of : (bs : List ℕ) (m : Modifiers) → is_library bs ≡ false → input_of (record { name = bs; modifiers = m }) ≡ record { kind = kind.File; name = bs; modifiers = m }
unfolding input_of
file_of bs m e = rw e refl

module _ {V : Type 0} (step : Step V) where
  sees_one : {a b : V} {i j : Input} {answer : Bool} → j ≡ i → step a i.kind i.name i.modifiers answer b → Sees step a ((j, answer) ∷ []) b
  sees_one {a} {b} {i} {j} {answer} e h = (b, subst (λ (k : Input). step a k.kind k.name k.modifiers answer b) (sym e) h, refl)

  pub sees_library : {a b : V} {answer : Bool} (bs x : List ℕ) (m : Modifiers) → StripsPrefix (FindsTextPrefix (codes "-l")) bs x → step a kind.Lib x m answer b → Sees step a ((input_of (record { name = bs; modifiers = m }), answer) ∷ []) b
  sees_library {a} {b} {answer} bs x m e h =
      let begins : bs ≡ codes "-l" ++ drop 2 bs = subst (λ (n : ℕ). bs ≡ codes "-l" ++ drop n bs) e.1.0 e.1.1 in
      let rest : x ≡ drop 2 bs = subst (λ (n : ℕ). x ≡ drop n bs) e.1.0 e.2 in
      sees_one (library_of bs m (library_true bs begins)) (subst (λ (k : List ℕ). step a kind.Lib k m answer b) rest h)

  pub sees_file : {a b : V} {answer : Bool} (bs : List ℕ) (m : Modifiers) → LacksTextAt (codes "-l") bs 0 → step a kind.File bs m answer b → Sees step a ((input_of (record { name = bs; modifiers = m }), answer) ∷ []) b
  sees_file bs m e h = sees_one (file_of bs m (library_false bs e)) h

-- ---- one argument

pub shows_strange : {V : Type 0} {step : Step V} {n : ℕ} {x : Argument} {a : V} → (IsUtf8 x.name → ⊥) → Shows step n a (x ∷ []) a (Err (fault.NotUtf8 n))
shows_strange u = record { visits = []; walked = strange u; seen = refl }

module _ {V : Type 0} {step : Step V} {n : ℕ} {x : Argument} {a b : V} where
  pub shows_last : {answer : Bool} → IsUtf8 x.name → Sees step a ((input_of x, answer) ∷ []) b → answer ≡ false → Shows step n a (x ∷ []) b (Err fault.Stopped)
  shows_last u s e = record { visits = (input_of x, false) ∷ []; walked = stopped u; seen = subst (λ (t : Bool). Sees step a ((input_of x, t) ∷ []) b) e s }

  pub shows_one : {answer : Bool} {m : ℕ} → IsUtf8 x.name → Sees step a ((input_of x, answer) ∷ []) b → answer ≡ true → m ≡ next_number n → Shows step n a (x ∷ []) b (Ok m)
  shows_one u s e g = record {
    visits = (input_of x, true) ∷ [];
    walked = subst (λ (k : ℕ). Walk n (x ∷ []) ((input_of x, true) ∷ []) (Ok k)) (sym g) (shown u done);
    seen = subst (λ (t : Bool). Sees step a ((input_of x, t) ∷ []) b) e s;
  }

-- ---- several

walked_on : {n m : ℕ} {xs ys : List Argument} {es fs : List Visit} {end : End} → Walk n xs es (Ok m) → Walk m ys fs end → Walk n (xs ++ ys) (es ++ fs) end
walked_on done w = w
walked_on (shown u v) w = shown u (walked_on v w)

walked_out : {n : ℕ} {xs : List Argument} {es : List Visit} {f : _} → Walk n xs es (Err f) → (ys : List Argument) → Walk n (xs ++ ys) es (Err f)
walked_out (strange u) ys = strange u
walked_out (stopped u) ys = stopped u
walked_out (shown u v) ys = shown u (walked_out v ys)

seen_on : {V : Type 0} (step : Step V) (a : V) (es : List Visit) (b : V) (fs : List Visit) (c : V) → Sees step a es b → Sees step b fs c → Sees step a (es ++ fs) c
seen_on step a [] b fs c p q = subst (λ v. Sees step v fs c) (sym p) q
seen_on step a (e ∷ es) b fs c p q = (p.0, p.1, seen_on step p.0 es b fs c p.2 q)

pub shows_none : {V : Type 0} {step : Step V} {n : ℕ} {a : V} → Shows step n a [] a (Ok n)
shows_none = record { visits = []; walked = done; seen = refl }

module _ {V : Type 0} {step : Step V} {a b : V} {n : ℕ} where
  pub shows_on : {m : ℕ} {c : V} {xs ys : List Argument} {end : End} → Shows step n a xs b (Ok m) → Shows step m b ys c end → Shows step n a (xs ++ ys) c end
  shows_on {c = c} p q = record { visits = p.visits ++ q.visits; walked = walked_on p.walked q.walked; seen = seen_on step a p.visits b q.visits c p.seen q.seen }

  pub shows_out : {xs : List Argument} {f : _} (ys : List Argument) → Shows step n a xs b (Err f) → Shows step n a (xs ++ ys) b (Err f)
  shows_out ys p = record { visits = p.visits; walked = walked_out p.walked ys; seen = p.seen }

-- ---- commands

pub group_arguments : (cs : List Command) → command_arguments (variant.Group cs) ≡ arguments cs
unfolding arguments
group_arguments cs = ap command_arguments (sym (rolls-Group cs)) ∙ fold-roll-Command Arguments arguments_step (Command-F.Group cs)

pub needed_arguments : (cs : List Command) (m : Modifiers) → command_arguments (variant.AsNeeded cs) m ≡ arguments cs needed
unfolding arguments
needed_arguments cs m = ap (λ f. f m) (ap command_arguments (sym (rolls-AsNeeded cs)) ∙ fold-roll-Command Arguments arguments_step (Command-F.AsNeeded cs))

other_layer : (x : Command-F Command) → ((n : List ℕ) → roll-Command x ≡ variant.Arg n → ⊥) → ((cs : List Command) → roll-Command x ≡ variant.Group cs → ⊥) → ((cs : List Command) → roll-Command x ≡ variant.AsNeeded cs → ⊥)
    → (m : Modifiers) → arguments_step (map-Command Command Arguments command_arguments x) m ≡ []
other_layer (Command-F.Arg n) p q r m = absurd (p n (rolls-Arg n))
other_layer (Command-F.Group cs) p q r m = absurd (q cs (rolls-Group cs))
other_layer (Command-F.AsNeeded cs) p q r m = absurd (r cs (rolls-AsNeeded cs))
other_layer x p q r m = refl

pub no_arguments : (c : Command) → ((n : List ℕ) → c ≡ variant.Arg n → ⊥) → ((cs : List Command) → c ≡ variant.Group cs → ⊥) → ((cs : List Command) → c ≡ variant.AsNeeded cs → ⊥) → (m : Modifiers) → command_arguments c m ≡ []
no_arguments c p q r m =
    ap (λ f. f m) (fold_out-Command Arguments arguments_step c)
    ∙ other_layer (out-Command c) (λ n e. p n (sym (roll-out-Command c) ∙ e)) (λ cs e. q cs (sym (roll-out-Command c) ∙ e)) (λ cs e. r cs (sym (roll-out-Command c) ∙ e)) m

pub arguments_more : (cs : List Command) (i : ℕ) (x : Command) (m : Modifiers) → i < length cs → x ≡ get_or cs i x → arguments (drop i cs) m ≡ command_arguments x m ++ arguments (drop (i + 1) cs) m
unfolding arguments
arguments_more cs i x m h e =
    ap (λ (l : List Command). in_all (map command_arguments l) m) (drop_more cs i x h)
    ∙ ap (λ (y : Command). command_arguments y m ++ in_all (map command_arguments (drop (i + 1) cs)) m) (sym e)

pub arguments_end : (cs : List Command) (i : ℕ) (m : Modifiers) → length cs ≤ i → arguments (drop i cs) m ≡ []
unfolding arguments
arguments_end cs i m h = ap (λ (l : List Command). in_all (map command_arguments l) m) (drop_of_length-le cs h)
