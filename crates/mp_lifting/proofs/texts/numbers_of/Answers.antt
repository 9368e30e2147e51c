use Rattle.mp_lifting.proofs.Basics.{sym, ◌∙◌}
use Rattle.mp_lifting.proofs.Known.{numbers_absent, numbers_found}
use Rattle.mp_lifting.proofs.texts.numbers_of.Goals as goal

pub returns-in_default : goal.returns-in_default
returns-in_default c =
    sym (numbers_absent c.args.table.now c.loop-word.numbers c.args.words.now c.loop-word.word-index _ _ c.loop-word-test.true c.find.ensures c.in_default.is)
    ∙ c.loop-word.invariant

pub loop-word-preserved : goal.loop-word-preserved
loop-word-preserved c =
    numbers_found c.args.table.now c.loop-word.numbers c.push.new.self c.args.words.now c.loop-word.word-index _ _ _ _ c.loop-word-test.true c.find.ensures c.in-Some.is
    c.in_ok-to_u32.ensures.ok c.in_ok-push.ensures.ok
    ∙ c.loop-word.invariant
