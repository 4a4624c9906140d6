-- A script takes all of the bytes.
use Rattle.std.proofs.Common.{◌≡◌, ◌⊎◌, ℕ, ◌+◌, ◌≤◌, true, length, subst, sym, ◌∙◌, ap, inl, inr, refl, arith}
use Rattle.std.proofs.lemmas.Bool.{eqb-true}
use Rattle.wild_names.specs.declared.fault.Fault.TheVariants as fault
use Rattle.wild_reading.specs.Position as positions
use Rattle.wild_reading.specs.Position.{Bytes, Text, Position, max_depth}
use Rattle.wild_reading.specs.Bytes.{is_end}
use Rattle.wild_reading.specs.Only.{IsOnly, Refuses, IsOpenComment, IsNestedSort}
use Rattle.wild_reading.specs.declared.stop.Stop.{Stop}
use Rattle.wild_reading.specs.declared.stop.Stop.TheVariants.{Syntax, OpenComment, NestedSort, TooDeep, NoMemory}
use Rattle.wild_reading.proofs.Readers.{until_ends}
use Rattle.wild_reading.specs.Faults.{fault_of}
use Rattle.wild_expression_words.specs.Dialect.{first_grammar}
use Rattle.wild_script.specs.Tree.{script, commands, tree_within, IsTree, IsParseFault}
use Rattle.wild_script.specs.declared.tree.LinkerScript.{LinkerScript}

is_length : (b : Bytes) (j : ℕ) → is_end b j ≡ true → j ≡ length b
unfolding is_end
is_length b j h = eqb-true j (length b) h

script_ends : (b : Bytes) (depth i : ℕ) (t : LinkerScript) (j : ℕ) → script first_grammar b depth i t j → j ≡ length b
unfolding script commands
script_ends b depth i t j h = h.second.second.end ∙ is_length b _ (until_ends b depth _ _ _ h.second.first)

-- a tree of the bytes is what is read from their start
from_position : (b : Bytes) (s : Position) → s.text.bytes ≡ b → s.at ≡ 0 → (depth : ℕ) (t : LinkerScript) (j : ℕ) → script first_grammar s.text.bytes depth s.at t j → tree_within depth b t
unfolding tree_within
from_position b s e g depth t j h =
    let there : script first_grammar b depth 0 t j = subst (λ (n : ℕ). script first_grammar b depth n t j) g (subst (λ (n : Bytes). script first_grammar n depth s.at t j) e h) in
    subst (λ (n : ℕ). script first_grammar b depth 0 t n) (script_ends b depth 0 t j there) there

to_position : (b : Bytes) (s : Position) → s.text.bytes ≡ b → s.at ≡ 0 → (depth : ℕ) (t : LinkerScript) → tree_within depth b t → script first_grammar s.text.bytes depth s.at t (length b)
unfolding tree_within
to_position b s e g depth t h = subst (λ (n : ℕ). script first_grammar s.text.bytes depth n t (length b)) (sym g) (subst (λ (n : Bytes). script first_grammar n depth 0 t (length b)) (sym e) h)

module _ {b : Bytes} {s : Position} (w : s.text ≡ record { bytes = b; start = 0; limit = max_depth }) (g : s.at ≡ 0) (l : s.left ≡ max_depth) where
  same_bytes : s.text.bytes ≡ b
  same_bytes = ap (λ (t : Text). t.bytes) w

  pub one_tree : {t : LinkerScript} {r : Position} → IsOnly (script first_grammar) s t r → IsTree b t
  one_tree {t} {r} p = record {
    is = subst (λ (n : ℕ). tree_within n b t) l (from_position b s same_bytes g s.left t r.at p.reads);
    only = λ depth u h. (p.only depth u (length b) (to_position b s same_bytes g depth u h)).0;
  }

  within_bytes : {n : ℕ} → n ≤ length s.text.bytes → n ≤ length b
  within_bytes {n} h = subst (λ (c : Bytes). n ≤ length c) same_bytes h

  never : ((limit : ℕ) (y : LinkerScript) (j : ℕ) → script first_grammar s.text.bytes limit s.at y j → ⊥) → (depth : ℕ) (t : LinkerScript) → tree_within depth b t → ⊥
  never h depth t k = h depth t (length b) (to_position b s same_bytes g depth t k)

  pub no_tree : {stop : Stop} → Refuses (script first_grammar) s stop → (fault_of stop ≡ fault.NoMemory) ⊎ IsParseFault b (fault_of stop)
  no_tree {stop = Syntax n} p = inr (record { none = never (p.never tt); within = within_bytes p.cause })
  no_tree {stop = OpenComment n} p = inr (record { none = never (p.never tt); comment = subst (λ (c : Bytes). IsOpenComment c n) same_bytes p.cause })
  no_tree {stop = NestedSort n} p = inr (record { none = never (p.never tt); sort = subst (λ (c : Bytes). IsNestedSort c n) same_bytes p.cause })
  no_tree {stop = TooDeep n} p =
      let marks = subst (λ (t : Text). positions.mark_count t.bytes t.start + t.limit ≤ positions.mark_count t.bytes n) w p.cause.marks in
      inr (record {
        none = λ t h. p.none tt t (length b) (to_position b s same_bytes g s.left t (subst (λ (m : ℕ). tree_within m b t) (sym l) h));
        marks = omega (arith, marks);
        within = within_bytes p.cause.within;
      })
  no_tree {stop = NoMemory} p = inl refl
