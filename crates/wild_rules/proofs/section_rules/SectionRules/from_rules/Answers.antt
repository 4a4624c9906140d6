use Rattle.std.proofs.Common.{◌≡◌, ◌+◌, ◌++◌, ◌∷◌, [], ◌∙◌, cond, suc, take, drop, ap, sym, arith}
use Rattle.std.proofs.Math.Seq.{take-suc}
use Rattle.std.proofs.lemmas.List.{at_drop_more}
use Rattle.wild_rules.specs.Index.{all_measured, has_literal, is_key, is_short, is_short_key, literal_key, literal_key_of, measured_with, numbers, numbers_at}
use Rattle.wild_rules.proofs.Numbers.{all_indexed, one_more}
use Rattle.wild_rules.proofs.section_rules.SectionRules.from_rules.Goals as goal

pub loop-number-preserved : goal.loop-number-preserved
loop-number-preserved c =
    let rules = c.args.rules.now in let i = c.loop-number.number in let item = c.index-rules-number.result in
    let old = c.loop-number.index in let new = c.push-in-loop-number.new.self in let literal = c.in_ok-literal.ensures in
    let rest = drop (i + 1) rules in let low = c.loop-number-test.true in (
      c.in_ok-push.ensures.ok ∙ ap (λ l. l ++ c.in_ok-copy.copy ∷ []) c.loop-number.invariant.0 ∙ ap (λ x. take i rules ++ x ∷ []) (c.in_ok-copy.ensures ∙ c.index-rules-number.is)
          ∙ sym (take-suc rules i item low) ∙ (let z : suc i ≡ i + 1 = omega arith in ap (λ n. take n rules) z),
      λ q. one_more (has_literal q) i item rest (numbers_at old q) (numbers_at new q) (c.in_ok-push-2.ensures.found q ∙ ap (λ o. numbers_at old q ++ cond (is_key (literal_key q) (literal_key_of o)) (i ∷ []) []) literal)
          ∙ ap (λ r. numbers_at old q ++ numbers (has_literal q) i (r ∷ rest)) c.index-rules-number.is
          ∙ sym (at_drop_more (λ rs. numbers_at old q ++ numbers (has_literal q) i rs) rules i item low) ∙ c.loop-number.invariant.1 q,
      ap (all_measured rest) c.in_ok-push-2.ensures.lengths ∙ ap (λ o. all_measured rest (measured_with o old.lengths)) literal
          ∙ ap (λ r. all_measured (r ∷ rest) old.lengths) c.index-rules-number.is
          ∙ sym (at_drop_more (λ rs. all_measured rs old.lengths) rules i item low) ∙ c.loop-number.invariant.2,
      one_more is_short i item rest old.short new.short (c.in_ok-push-2.ensures.short ∙ ap (λ o. old.short ++ cond (is_short_key o) (i ∷ []) []) literal)
          ∙ ap (λ r. old.short ++ numbers is_short i (r ∷ rest)) c.index-rules-number.is
          ∙ sym (at_drop_more (λ rs. old.short ++ numbers is_short i rs) rules i item low) ∙ c.loop-number.invariant.3,
    )

pub invariant_of-result : goal.invariant_of-result
invariant_of-result c =
    all_indexed c.loop-number.index c.loop-number.copies c.args.rules.now c.loop-number.number c.loop-number-test.false c.loop-number.invariant.0 c.loop-number.invariant.1 c.loop-number.invariant.2 c.loop-number.invariant.3
