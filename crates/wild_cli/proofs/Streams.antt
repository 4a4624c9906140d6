-- What was read and written so far, and one read or write more.
use Rattle.std.proofs.Common.{◌≡◌, ◌∙◌, sym, ap, refl, subst, ℕ, ◌+◌, ◌-◌, ◌<◌, ◌≤◌, List, [], ◌++◌, length, take, drop, Option, Some, None, IfSome, append_assoc, append-nil, take_all, arith, length-append}
use Rattle.std.proofs.Math.Seq.{take-add}
use Rattle.std.proofs.lemmas.List.{take_rest}
use Rattle.std.specs.Io.KnownBytes.{Appends, Keeps, Consumes, IsAtEnd}
use Rattle.wild_cli.specs.Device.{Got, max_length}

-- nothing is put yet
pub got_none : (a : Option (List ℕ)) → Got a a []
got_none None = tt
got_none (Some x) = ap (λ l. Some l) (sym (append-nil x))

got_join : (a b c : Option (List ℕ)) (bs cs : List ℕ) → Got a b bs → Appends b c cs → Got a c (bs ++ cs)
got_join None b c bs cs p q = tt
got_join (Some x) None c bs cs p q = absurd (cc)
got_join (Some x) (Some y) None bs cs p q = absurd q
got_join (Some x) (Some y) (Some z) bs cs p q =
    let front : y ≡ x ++ bs = cc in
    ap (λ l. Some l) (q ∙ ap (λ l. l ++ cs) front ∙ append_assoc x bs cs)

-- n bytes more of the piece
pub got_more : (a b c : Option (List ℕ)) (piece : List ℕ) (i n : ℕ) → Got a b (take i piece) → Appends b c (take n (take (length piece - i) (drop i piece))) → Got a c (take (i + n) piece)
got_more a b c piece i n p q = subst (Got a c) (sym (take-add i n piece)) (got_join a b c _ _ p (subst (λ l. Appends b c (take n l)) (take_rest piece i) q))

-- the whole piece
pub got_all : (a b : Option (List ℕ)) (piece : List ℕ) (i : ℕ) → length piece ≤ i → Got a b (take i piece) → Got a b piece
got_all a b piece i h p = subst (Got a b) (take_all i piece h) p

-- a write that failed took nothing
pub got_kept : (a b c : Option (List ℕ)) (bs : List ℕ) → Got a b bs → Keeps b c → Got a c bs
got_kept None b c bs p q = tt
got_kept (Some x) None c bs p q = absurd (cc)
got_kept (Some x) (Some y) None bs p q = absurd q
got_kept (Some x) (Some y) (Some z) bs p q = ap (λ l. Some l) q ∙ p

-- a write of no byte took nothing
pub got_same : (a b c : Option (List ℕ)) (bs : List ℕ) → Got a b bs → Appends b c [] → Got a c bs
got_same a b c bs p q = subst (Got a c) (append-nil bs) (got_join a b c bs [] p q)

pub ruleset writes = (got_none, got_more, got_all, got_kept, got_same)

-- nothing is read yet
pub read_none : (a : Option (List ℕ)) → Consumes a a []
read_none None = tt
read_none (Some x) = refl

-- more bytes are read
pub read_more : (a b c : Option (List ℕ)) (bs cs : List ℕ) → Consumes a b bs → Consumes b c cs → Consumes a c (bs ++ cs)
read_more None b c bs cs p q = tt
read_more (Some x) None c bs cs p q = absurd p
read_more (Some x) (Some y) None bs cs p q = absurd q
read_more (Some x) (Some y) (Some z) bs cs p q = p ∙ ap (λ l. bs ++ l) q ∙ sym (append_assoc bs cs z)

-- a read that gave nothing is at the end
pub read_all : (a b c : Option (List ℕ)) (bs : List ℕ) → Consumes a b bs → Consumes b c [] → IsAtEnd c → length bs ≤ max_length → IfSome a (λ content. (bs ≡ content) × (length content ≤ max_length))
read_all None b c bs p q e h = tt
read_all (Some x) None c bs p q e h = absurd p
read_all (Some x) (Some y) None bs p q e h = absurd q
read_all (Some x) (Some y) (Some z) bs p q e h =
    let whole : bs ≡ x = sym (p ∙ ap (λ l. bs ++ l) (q ∙ e) ∙ append-nil bs) in
    (whole, subst (λ l. length l ≤ max_length) whole h)

-- what was read is too long already
pub read_too_long : (a b : Option (List ℕ)) (bs : List ℕ) → Consumes a b bs → max_length < length bs → IfSome a (λ content. max_length < length content)
read_too_long None b bs p h = tt
read_too_long (Some x) None bs p h = absurd p
read_too_long (Some x) (Some y) bs p h = subst (λ l. max_length < length l) (sym p) (omega (arith, length-append {A = ℕ}))

pub ruleset reads = (read_none, read_more, read_all, read_too_long)
