-- Visits that follow each other.
use Rattle.std.proofs.Common.{◌≡◌, ◌∙◌, true, false, List, [], ◌∷◌, ◌++◌, None, Some, refl, sym, ap, subst, append_assoc}
use Rattle.std.specs.Prelude.{Bool, Option, slice_get, option_to_list}
use Rattle.std.proofs.lemmas.List.{append-nil}
use Rattle.wild_expression_tree.specs.Shape.{Shape, Align, shape, parts}
use Rattle.wild_expression_tree.specs.Visit.{Visit, Walk, done, declined, entered, Step, Sees, Visited}
use Rattle.wild_expression_tree.specs.declared.tree.Expression.{Expression}

walked : {xs ys : List Expression} {es fs : List Visit} → Walk xs es → Walk ys fs → Walk (xs ++ ys) (es ++ fs)
walked done v = v
walked (declined w) v = declined (walked w v)
walked {ys = ys} {fs = fs} (entered {x = x} {xs = xs} {visits = visits} w) v = entered (subst (λ zs. Walk zs (visits ++ fs)) (append_assoc (parts (shape x)) xs ys) (walked w v))

seen : {V : Type 0} (step : Step V) (a : V) (es : List Visit) (b : V) (fs : List Visit) (c : V) → Sees step a es b → Sees step b fs c → Sees step a (es ++ fs) c
seen step a [] b fs c p q = subst (λ v. Sees step v fs c) (sym p) q
seen step a (e ∷ es) b fs c p q = (p.0, p.1, seen step p.0 es b fs c p.2 q)

pub visited : {V : Type 0} {step : Step V} {a b c : V} {xs ys : List Expression} → Visited step a xs b → Visited step b ys c → Visited step a (xs ++ ys) c
visited {step = step} {a = a} {b = b} {c = c} p q = record { visits = p.visits ++ q.visits; walked = walked p.walked q.walked; seen = seen step a p.visits b q.visits c p.seen q.seen }

pub unvisited : {V : Type 0} {step : Step V} {a : V} → Visited step a [] a
unvisited = record { visits = []; walked = done; seen = refl }

pub left : {V : Type 0} {step : Step V} {a b : V} {x : Expression} {answer : Bool} → step a x answer b → answer ≡ false → Visited step a (x ∷ []) b
left {step = step} {a = a} {b = b} {x = x} p e = record { visits = (x, false) ∷ []; walked = declined done; seen = (b, subst (λ y. step a x y b) e p, refl) }

-- the three parts of a node are all
all_parts : {X : Type 0} (s : Shape X) → option_to_list (slice_get (parts s) 0) ++ (option_to_list (slice_get (parts s) 1) ++ option_to_list (slice_get (parts s) 2)) ≡ parts s
all_parts (Align x None) = refl
all_parts (Align x (Some y)) = refl
all_parts s = refl

inside : {V : Type 0} (step : Step V) (a b c : V) (x : Expression) → step a x true b → Visited step b (parts (shape x)) c → Visited step a (x ∷ []) c
inside step a b c x p q = record { visits = (x, true) ∷ q.visits; walked = entered (subst (λ zs. Walk zs q.visits) (sym (append-nil (parts (shape x)))) q.walked); seen = (b, p, q.seen) }

-- a node that was entered, with its first, its second and its third part
pub through : {V : Type 0} {step : Step V} {a b c d e : V} {x : Expression} {answer : Bool} {s : Shape Expression} {u v w : Option Expression} → step a x answer b → answer ≡ true → s ≡ shape x
    → (u ≡ slice_get (parts s) 0) × (v ≡ slice_get (parts s) 1) × (w ≡ slice_get (parts s) 2)
    → Visited step b (option_to_list u) c → Visited step c (option_to_list v) d → Visited step d (option_to_list w) e → Visited step a (x ∷ []) e
through {step = step} {a = a} {b = b} {e = e} {x = x} {s = s} p wanted shaped are k l m =
    let all = (λ i. option_to_list (are.0 i) ++ (option_to_list (are.1 i) ++ option_to_list (are.2 i))) ∙ all_parts s ∙ ap parts shaped in
    inside step a b e x (subst (λ y. step a x y b) wanted p) (subst (λ zs. Visited step b zs e) all (visited k (visited l m)))

pub ruleset visiting = (unvisited, left, through)
