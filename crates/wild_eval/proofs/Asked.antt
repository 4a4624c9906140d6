-- A number more in one of the lists is one number more of what is known.
use Rattle.std.proofs.Common.{◌≡◌, ℕ, Option, Some, None, refl}
use Rattle.std.proofs.Math.Path.{fun_ext}
use Rattle.std.specs.Prelude.{◌==◌, if◌then◌else◌}
use Rattle.std.specs.Global.{Vec}
use Rattle.wild_value_spec.specs.Known.{Asked, Start, Load, End, Address, Dot, LoadDot, same_asked, or_else, with_number}
use Rattle.wild_eval.specs.declared.addresses.Addresses.{Addresses}
use Rattle.wild_eval.specs.Addresses.{known_at, known_of}

-- the new numbers are the old ones, and one more where there was none
abbrev Learned : Vec (Option ℕ) → Vec (Option ℕ) → ℕ → ℕ → Type 0
Learned old new at n = (i : ℕ) → known_at new.items i ≡ or_else (known_at old.items i) (if at == i then Some n else None)

none_more : (o : Option ℕ) → o ≡ or_else o None
none_more (Some n) = refl
none_more None = refl

start_more : (t : Addresses) (new : Vec (Option ℕ)) (s n : ℕ) → Learned t.starts new s n → (x : Asked) → known_of (record t { starts = new }) x ≡ or_else (known_of t x) (if same_asked (Start s) x then Some n else None)
start_more t new s n h (Start i) = h i
start_more t new s n h (Load i) = none_more _
start_more t new s n h (End i) = none_more _
start_more t new s n h (Address i) = none_more _
start_more t new s n h (Dot i) = none_more _
start_more t new s n h (LoadDot i) = none_more _

load_more : (t : Addresses) (new : Vec (Option ℕ)) (s n : ℕ) → Learned t.loads new s n → (x : Asked) → known_of (record t { loads = new }) x ≡ or_else (known_of t x) (if same_asked (Load s) x then Some n else None)
load_more t new s n h (Start i) = none_more _
load_more t new s n h (Load i) = h i
load_more t new s n h (End i) = none_more _
load_more t new s n h (Address i) = none_more _
load_more t new s n h (Dot i) = none_more _
load_more t new s n h (LoadDot i) = none_more _

end_more : (t : Addresses) (new : Vec (Option ℕ)) (s n : ℕ) → Learned t.ends new s n → (x : Asked) → known_of (record t { ends = new }) x ≡ or_else (known_of t x) (if same_asked (End s) x then Some n else None)
end_more t new s n h (Start i) = none_more _
end_more t new s n h (Load i) = none_more _
end_more t new s n h (End i) = h i
end_more t new s n h (Address i) = none_more _
end_more t new s n h (Dot i) = none_more _
end_more t new s n h (LoadDot i) = none_more _

address_more : (t : Addresses) (new : Vec (Option ℕ)) (r n : ℕ) → Learned t.rows new r n → (x : Asked) → known_of (record t { rows = new }) x ≡ or_else (known_of t x) (if same_asked (Address r) x then Some n else None)
address_more t new r n h (Start i) = none_more _
address_more t new r n h (Load i) = none_more _
address_more t new r n h (End i) = none_more _
address_more t new r n h (Address i) = h i
address_more t new r n h (Dot i) = none_more _
address_more t new r n h (LoadDot i) = none_more _

dot_more : (t : Addresses) (new : Vec (Option ℕ)) (p n : ℕ) → Learned t.dots new p n → (x : Asked) → known_of (record t { dots = new }) x ≡ or_else (known_of t x) (if same_asked (Dot p) x then Some n else None)
dot_more t new p n h (Start i) = none_more _
dot_more t new p n h (Load i) = none_more _
dot_more t new p n h (End i) = none_more _
dot_more t new p n h (Address i) = none_more _
dot_more t new p n h (Dot i) = h i
dot_more t new p n h (LoadDot i) = none_more _

load_dot_more : (t : Addresses) (new : Vec (Option ℕ)) (p n : ℕ) → Learned t.load_dots new p n → (x : Asked) → known_of (record t { load_dots = new }) x ≡ or_else (known_of t x) (if same_asked (LoadDot p) x then Some n else None)
load_dot_more t new p n h (Start i) = none_more _
load_dot_more t new p n h (Load i) = none_more _
load_dot_more t new p n h (End i) = none_more _
load_dot_more t new p n h (Address i) = none_more _
load_dot_more t new p n h (Dot i) = none_more _
load_dot_more t new p n h (LoadDot i) = h i

pub with_start : (t : Addresses) (new : Vec (Option ℕ)) (s n : ℕ) → Learned t.starts new s n → known_of (record t { starts = new }) ≡ with_number (Start s) n (known_of t)
unfolding with_number
with_start t new s n h = fun_ext (start_more t new s n h)

pub with_load : (t : Addresses) (new : Vec (Option ℕ)) (s n : ℕ) → Learned t.loads new s n → known_of (record t { loads = new }) ≡ with_number (Load s) n (known_of t)
unfolding with_number
with_load t new s n h = fun_ext (load_more t new s n h)

pub with_end : (t : Addresses) (new : Vec (Option ℕ)) (s n : ℕ) → Learned t.ends new s n → known_of (record t { ends = new }) ≡ with_number (End s) n (known_of t)
unfolding with_number
with_end t new s n h = fun_ext (end_more t new s n h)

pub with_address : (t : Addresses) (new : Vec (Option ℕ)) (r n : ℕ) → Learned t.rows new r n → known_of (record t { rows = new }) ≡ with_number (Address r) n (known_of t)
unfolding with_number
with_address t new r n h = fun_ext (address_more t new r n h)

pub with_dot : (t : Addresses) (new : Vec (Option ℕ)) (p n : ℕ) → Learned t.dots new p n → known_of (record t { dots = new }) ≡ with_number (Dot p) n (known_of t)
unfolding with_number
with_dot t new p n h = fun_ext (dot_more t new p n h)

pub with_load_dot : (t : Addresses) (new : Vec (Option ℕ)) (p n : ℕ) → Learned t.load_dots new p n → known_of (record t { load_dots = new }) ≡ with_number (LoadDot p) n (known_of t)
unfolding with_number
with_load_dot t new p n h = fun_ext (load_dot_more t new p n h)
