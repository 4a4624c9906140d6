-- A rule that takes a name has its key, or is short.
use lib.Utf8.{encodes}
use Rattle.std.proofs.Common.{◌≡◌, ◌≤◌, ◌<◌, ℕ, Bool, true, false, cond, ◌&&◌, ◌==◌, List, [], ◌∷◌, ◌++◌, length, take, Option, Some, None, refl, sym, ◌∙◌, ap, subst, ◌⊎◌, inl, inr, ⊎_elim, arith}
use Rattle.std.specs.Prelude.{nat_lt, nat_le}
use Rattle.std.specs.List.{slice_index}
use Rattle.std.specs.Str.{bytes_eq, is_utf8, chars}
use Rattle.std.proofs.lemmas.Bool.{cases_Bool, cases_lt, eqb-true, ltb-true, leb-true}
use Rattle.std.proofs.Math.Seq.{take-append_seam}
use Rattle.std.proofs.lemmas.List.{get_or-take, take_all}
use Rattle.std.proofs.lemmas.Slice.Eq.{bytes_eq-Decides}
use Rattle.std.proofs.lemmas.Str.{IsUtf8-from_is_utf8, encodes-chars, encode_ascii}
use Rattle.wild_glob.specs.Match.{matches, character_of}
use Rattle.wild_glob.specs.declared.piece.Piece.{Piece}
use Rattle.wild_glob.specs.declared.piece.Piece.TheVariants.{AnyRun, AnyCharacter, Class, Literal}
use Rattle.wild_rules.specs.Index.{name_key, ascii_byte, ascii_run, byte_then, literal, key_of, is_key, is_short_key, TakesByKey}
use Rattle.wild_rules.specs.Taking.{takes_name, takes_file}
use Rattle.wild_rules.specs.declared.matcher.SectionNameMatcher.{SectionNameMatcher}
use Rattle.wild_rules.specs.declared.matcher.SectionNameMatcher.TheVariants as names

pub and_left : (a b : Bool) → a && b ≡ true → a ≡ true
and_left true b e = refl
and_left false b e = cc

and_right : (a b : Bool) → a && b ≡ true → b ≡ true
and_right true b e = e
and_right false b e = cc

same_key : (xs ys : List ℕ) → xs ≡ ys → bytes_eq xs ys ≡ true
same_key xs ys e = (bytes_eq-Decides xs ys).1 e

some_bytes : (a b : List ℕ) → Some a ≡ Some b → a ≡ b
some_bytes a b e = cc

-- ---- beginnings

-- four bytes that both names have
four_same : (xs ys : List ℕ) → ((i : ℕ) → i < 4 → slice_index xs i ≡ slice_index ys i) → name_key xs ≡ name_key ys
four_same xs ys each =
    ap (λ a. a ∷ slice_index xs 1 ∷ slice_index xs 2 ∷ slice_index xs 3 ∷ []) (each 0 (omega arith))
    ∙ ap (λ b. slice_index ys 0 ∷ b ∷ slice_index xs 2 ∷ slice_index xs 3 ∷ []) (each 1 (omega arith))
    ∙ ap (λ c. slice_index ys 0 ∷ slice_index ys 1 ∷ c ∷ slice_index xs 3 ∷ []) (each 2 (omega arith))
    ∙ ap (λ d. slice_index ys 0 ∷ slice_index ys 1 ∷ slice_index ys 2 ∷ d ∷ []) (each 3 (omega arith))

-- bytes are the name, or four or more with which it begins
abbrev pub Begins : List ℕ → List ℕ → Type 0
Begins bytes name = (bytes ≡ name) ⊎ ((4 ≤ length bytes) × (length bytes < length name) × (bytes ≡ take (length bytes) name))

begins_by : (bytes name : List ℕ) → 4 ≤ length bytes → bytes ≡ take (length bytes) name → (length bytes < length name) ⊎ (length name ≤ length bytes) → Begins bytes name
begins_by bytes name long e (inl less) = inr (long, less, e)
begins_by bytes name long e (inr all) = inl (e ∙ take_all (length bytes) name all)

pub beginning_key : (bytes name : List ℕ) → Begins bytes name → name_key bytes ≡ name_key name
beginning_key bytes name (inl e) = ap (λ n. name_key n) e
beginning_key bytes name (inr h) = four_same bytes name (λ i low. ap (λ n. slice_index n i) h.2 ∙ get_or-take (length bytes) name i 0 (omega (arith, low, h.0)))

long_is : (bytes l : List ℕ) (b : Bool) → nat_le 4 (length bytes) ≡ b → cond b (Some bytes) None ≡ Some l → (bytes ≡ l) × (4 ≤ length bytes)
long_is bytes l true e h = (some_bytes bytes l h, leb-true 4 (length bytes) e)
long_is bytes l false e h = absurd (cc)

-- ---- patterns

-- the text begins with this character, and the pieces match what is behind it
abbrev Starts : List Piece → List ℕ → ℕ → Type 0
Starts ps cs c = (behind : List ℕ) × ((cs ≡ c ∷ behind) × (matches ps behind ≡ true))

some_number : (a b : ℕ) → Some a ≡ Some b → a ≡ b
some_number a b e = cc

literal_starts : (a c : ℕ) (ps : List Piece) (cs : List ℕ) → a ≡ c → matches (Literal a ∷ ps) cs ≡ true → Starts ps cs c
literal_starts a c ps [] e m = absurd (cc)
literal_starts a c ps (d ∷ ds) e m =
    let same : d ≡ a = eqb-true d a (and_left (d == a) (matches ps ds) m) in
    (ds, (ap (λ x. x ∷ ds) (same ∙ e), and_right (d == a) (matches ps ds) m))

starts : (p : Piece) (ps : List Piece) (cs : List ℕ) (c : ℕ) → character_of p ≡ Some c → matches (p ∷ ps) cs ≡ true → Starts ps cs c
starts AnyRun ps cs c e m = absurd (cc)
starts AnyCharacter ps cs c e m = absurd (cc)
starts (Class negated items) ps cs c e m = absurd (cc)
starts (Literal a) ps cs c e m = literal_starts a c ps cs (some_number a c e) m

-- a byte stands for a character of ASCII
record IsAsciiByte (character : Option ℕ) (byte : ℕ) : Type 0 where
  is : character ≡ Some byte
  low : byte < 128

ascii_is : (character : Option ℕ) (byte : ℕ) → ascii_byte character ≡ Some byte → IsAsciiByte character byte
ascii_is None byte e = cc
ascii_is (Some c) byte e =
    ⊎_elim
    (λ t. let h : Some c ≡ Some byte = rw t at e in let same = some_number c byte h in record { is = h; low = subst (λ x. x < 128) same (ltb-true c 128 t) })
    (λ f. let h : None ≡ Some byte = rw f at e in cc)
    (cases_Bool (nat_lt c 128))

encodes_ascii : (c : ℕ) (cs : List ℕ) → c < 128 → encodes (c ∷ cs) ≡ c ∷ encodes cs
encodes_ascii c cs low = ap (λ x. x ++ encodes cs) (encode_ascii c low)

run_by : (p : Piece) (ps : List Piece) (cs : List ℕ) (o : Option ℕ) → ascii_byte (character_of p) ≡ o → matches (p ∷ ps) cs ≡ true
    → ((c : List ℕ) → matches ps c ≡ true → (rest : List ℕ) × (encodes c ≡ ascii_run ps ++ rest)) → (rest : List ℕ) × (encodes cs ≡ byte_then o (ascii_run ps) ++ rest)
run_by p ps cs None e m more = (encodes cs, refl)
run_by p ps cs (Some b) e m more =
    let a = ascii_is (character_of p) b e in
    let s = starts p ps cs b a.is m in
    let r = more s.0 s.1.1 in
    (r.0, ap (λ c. encodes c) s.1.0 ∙ encodes_ascii b s.0 a.low ∙ ap (λ bs. b ∷ bs) r.1)

-- a text begins with the bytes with which a pattern begins that matches it
run_begins : (ps : List Piece) (cs : List ℕ) → matches ps cs ≡ true → (rest : List ℕ) × (encodes cs ≡ ascii_run ps ++ rest)
run_begins [] cs m = (encodes cs, refl)
run_begins (p ∷ ps) cs m = run_by p ps cs (ascii_byte (character_of p)) refl m (λ c h. run_begins ps c h)

pattern_begins : (ps : List Piece) (bytes l : List ℕ) → is_utf8 bytes ≡ true → matches ps (chars bytes) ≡ true → ascii_run ps ≡ l → 4 ≤ length l → Begins l bytes
pattern_begins ps bytes l u m e long =
    let r = run_begins ps (chars bytes) m in
    let same : bytes ≡ l ++ r.0 = sym (encodes-chars bytes (IsUtf8-from_is_utf8 bytes u)) ∙ r.1 ∙ ap (λ n. n ++ r.0) e in
    begins_by l bytes long (sym (take-append_seam l r.0) ∙ ap (λ n. take (length l) n) (sym same)) (cases_lt (length l) (length bytes))

-- ---- rules

-- the bytes of a rule begin each name that it takes
pub names_begin : (matcher : SectionNameMatcher) (section_name l : List ℕ) → takes_name matcher section_name ≡ true → literal matcher ≡ Some l → Begins l section_name
names_begin (names.Exact name) section_name l t e = inl (sym (some_bytes name l e) ∙ sym ((bytes_eq-Decides section_name name).0 t))
names_begin (names.Prefix name) section_name l t e =
    let h = long_is name l (nat_le 4 (length name)) refl e in
    let begins = (bytes_eq-Decides name (take (length name) section_name)).0 t in
    subst (λ n. Begins n section_name) h.0 (begins_by name section_name h.1 begins (cases_lt (length name) (length section_name)))
names_begin (names.Pattern ps) section_name l t e =
    let h = long_is (ascii_run ps) l (nat_le 4 (length (ascii_run ps))) refl e in
    pattern_begins ps section_name l (and_left (is_utf8 section_name) (matches ps (chars section_name)) t) (and_right (is_utf8 section_name) (matches ps (chars section_name)) t) h.0 (subst (λ n. 4 ≤ length n) h.0 h.1)

key_by : (matcher : SectionNameMatcher) (section_name : List ℕ) (o : Option (List ℕ)) → literal matcher ≡ o → takes_name matcher section_name ≡ true → is_short_key o ≡ false → is_key (name_key section_name) (key_of o) ≡ true
key_by matcher section_name None e t s = absurd (cc)
key_by matcher section_name (Some l) e t s = same_key _ _ (beginning_key l section_name (names_begin matcher section_name l t e))

pub takes_by_key : TakesByKey
takes_by_key rule section_name file_name t s = key_by rule.matcher section_name (literal rule.matcher) refl (and_left (takes_name rule.matcher section_name) (takes_file rule.file file_name) t) s
