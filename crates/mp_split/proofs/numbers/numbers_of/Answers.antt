use Rattle.mp_split.proofs.Basics.{ap, map, subst, sym, ◌∙◌, number_in}
use Rattle.std.proofs.lemmas.List.{take_all}
use Rattle.mp_sets.specs.Numbers.{IsAboveLast}
use Rattle.mp_split.proofs.Numbering.{may_follow, numbered, numbers_rise}
use Rattle.mp_split.proofs.numbers.numbers_of.Goals as goal

pub push-requires : goal.push-requires
push-requires c =
    let table = c.args.table.now in
    let l = c.loop-text in
    subst (IsAboveLast l.numbers) (sym c.number_of.ensures)
    (may_follow (number_in table) c.args.texts.now l.text-index c.text-item.result l.numbers
    (numbers_rise table c.requires.rise c.args.texts.now c.requires.texts.rise c.requires.texts.there)
    c.loop-text-test.true c.text-item.is l.invariant)

pub returns : goal.returns
returns c =
    c.loop-text.invariant ∙ ap (map (number_in c.args.table.now)) (take_all c.loop-text.text-index c.args.texts.now c.loop-text-test.false)
    ∙ numbered c.args.table.now c.requires.rise c.args.texts.now c.requires.texts.rise c.requires.texts.there
