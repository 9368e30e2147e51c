use Rattle.mp_typing.proofs.RepeatLemmas.{repeats_on, repeats_end, repeats_begin, seen_on, seen_none}
use Rattle.mp_typing.proofs.repeats.repeated_fault.Goals as goal

pub loop-item-init : goal.loop-item-init
loop-item-init g c = (seen_none _ c.new-before.ensures, repeats_begin g.T.Named.called c.args.file _ c.args.items.now)

pub loop-item-preserved : goal.loop-item-preserved
loop-item-preserved g c = (
  seen_on g.T.Named.called c.args.items.now c.loop-item.item-index c.item-item.result c.word-word.result.now _ c.insert.new.self
      c.loop-item-test.true c.item-item.is c.word-word.ensures c.loop-item.invariant.0 c.in_ok-is_new.ensures.members,
  repeats_on g.T.Named.called c.args.file _ _ _ c.args.items.now c.loop-item.item-index c.item-item.result c.word-word.result.now _ _
      c.loop-item-test.true c.item-item.is c.word-word.ensures c.loop-item.invariant.0 c.in_ok-is_new.ensures.added c.in_ok-first.ensures c.loop-item.invariant.1,
)

pub returns : goal.returns
returns g c =
    repeats_end g.T.Named.called c.args.file _ _ c.args.items.now c.loop-item.item-index c.loop-item-test.false c.loop-item.invariant.1
