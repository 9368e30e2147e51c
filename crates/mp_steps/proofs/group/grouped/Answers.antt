use Rattle.std.proofs.Common.{◌+◌, get_or, ◌∙◌}
use Rattle.mp_steps.specs.Marks.{no_mark, with_time}
use Rattle.mp_steps.proofs.GroupLemmas.{grouped_at}
use Rattle.mp_steps.proofs.group.grouped.Goals as goal

pub loop-place-preserved : goal.loop-place-preserved
loop-place-preserved c = λ interfere are.
    let l = c.loop-place in
    let mets = c.args.mets.now in
    c.in_ok-add_time.ensures
    ∙ (λ i. with_time (l.invariant interfere are i) (get_or mets l.place no_mark).level (l.place + 1))
    ∙ grouped_at interfere mets l.place are c.loop-place-test.true
