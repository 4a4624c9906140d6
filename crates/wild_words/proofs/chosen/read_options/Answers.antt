use Rattle.std.proofs.Common.{◌≡◌, ◌<◌, ◌≤◌, ◌∙◌, rules, sym, length, get_or, None, Some}
use Rattle.std.proofs.lemmas.Grind.{common_steps}
use Rattle.wild_words.specs.Choice.{choice_of}
use Rattle.wild_words.specs.SoFar.{with_choice, options_so_far}
use Rattle.wild_words.proofs.Later.{from_first, taken_at, full_at, refused_at, from_last}
use Rattle.wild_words.proofs.chosen.read_options.Goals as goal

pub loop-word-init : goal.loop-word-init
loop-word-init c = from_first c.default-chosen.result c.args.words.now c.default-chosen.ensures

pub returns-in_err-read_choice : goal.returns-in_err-read_choice
returns-in_err-read_choice c =
    let less : c.loop-word.word-index < length c.args.words.now = search rules in
    let read : None ≡ choice_of (get_or c.args.words.now c.loop-word.word-index c.word-item.result) = search rules in
    c.from_residual.ensures ∙ sym (refused_at c.loop-word.chosen c.args.words.now c.loop-word.word-index c.word-item.result less read) ∙ c.loop-word.invariant

pub returns-in_err-chosen : goal.returns-in_err-chosen
returns-in_err-chosen c =
    let less : c.loop-word.word-index < length c.args.words.now = search rules in
    let read : Some c.in_ok-read_choice.field-0 ≡ choice_of (get_or c.args.words.now c.loop-word.word-index c.word-item.result) = search rules in
    let filled : None ≡ with_choice c.loop-word.chosen c.in_ok-read_choice.field-0 = search rules in
    c.from_residual-in_err-chosen.ensures ∙ sym (full_at c.loop-word.chosen c.args.words.now c.loop-word.word-index c.word-item.result less c.in_ok-read_choice.field-0 read filled) ∙ c.loop-word.invariant

pub loop-word-preserved : goal.loop-word-preserved
loop-word-preserved c =
    let less : c.loop-word.word-index < length c.args.words.now = search rules in
    let read : Some c.in_ok-read_choice.field-0 ≡ choice_of (get_or c.args.words.now c.loop-word.word-index c.word-item.result) = search rules in
    let taken : Some c.in_ok-chosen.chosen ≡ with_choice c.loop-word.chosen c.in_ok-read_choice.field-0 = search rules in
    taken_at c.loop-word.chosen c.args.words.now c.loop-word.word-index c.word-item.result less c.in_ok-chosen.chosen c.in_ok-read_choice.field-0 read taken ∙ c.loop-word.invariant

pub returns : goal.returns
returns c =
    let all : length c.args.words.now ≤ c.loop-word.word-index = search rules in
    let last : Some c.options.result ≡ Some (options_so_far c.loop-word.chosen) = search rules in
    last ∙ sym (from_last c.loop-word.chosen c.args.words.now c.loop-word.word-index all) ∙ c.loop-word.invariant
