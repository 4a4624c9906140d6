-- The first VERSION is a command, or among those after it.
use Rattle.std.proofs.Common.{◌≡◌, ◌∙◌, ℕ, ◌+◌, ◌<◌, ◌≤◌, Bool, true, false, List, ◌∷◌, drop, length, get_or, refl, sym, ap, None, Some, Bor}
use Rattle.std.specs.Prelude.{Option}
use Rattle.std.specs.Option.{option_or, option_copied, is_some}
use Rattle.std.proofs.lemmas.List.{drop_more}
use Rattle.std.proofs.Math.ListN.{drop_of_length-le}
use Rattle.wild_script_tree.specs.declared.tree.Command.{Command}
use Rattle.wild_script.specs.Versions.{version_content, first_version}

here : {A : Type 0} (o : Option (Bor A)) (p : Option A) → is_some o ≡ true → option_or (option_copied o) p ≡ option_copied o
here None p t = absurd cc
here (Some x) p t = refl

later : {A : Type 0} (o : Option (Bor A)) (p : Option A) → is_some o ≡ false → option_or (option_copied o) p ≡ p
later None p t = refl
later (Some x) p t = absurd cc

module _ (cs : List Command) (i : ℕ) (x : Command) (h : i < length cs) (e : x ≡ get_or cs i x) where
  step : first_version (drop i cs) ≡ option_or (version_content x) (first_version (drop (i + 1) cs))
  unfolding first_version
  step = ap first_version (drop_more cs i x h) ∙ ap (λ (y : Command). option_or (version_content y) (first_version (drop (i + 1) cs))) (sym e)

  pub version_here : (o : Option (Bor (List ℕ))) → option_copied o ≡ version_content x → is_some o ≡ true → first_version (drop i cs) ≡ option_copied o
  version_here o s t = step ∙ ap (λ q. option_or q (first_version (drop (i + 1) cs))) (sym s) ∙ here o (first_version (drop (i + 1) cs)) t

  pub version_later : (o : Option (Bor (List ℕ))) → option_copied o ≡ version_content x → is_some o ≡ false → first_version (drop i cs) ≡ first_version (drop (i + 1) cs)
  version_later o s t = step ∙ ap (λ q. option_or q (first_version (drop (i + 1) cs))) (sym s) ∙ later o (first_version (drop (i + 1) cs)) t

pub no_version : (cs : List Command) (i : ℕ) → length cs ≤ i → first_version (drop i cs) ≡ None
unfolding first_version
no_version cs i h = ap first_version (drop_of_length-le cs h)
