use Rattle.std.proofs.Common.{ap, get_or, ◌∙◌}
use Rattle.mp_steps.specs.Numbered.{marks_at, with_mark}
use Rattle.mp_steps.proofs.NumberedLemmas.{noted}
use Rattle.mp_steps.proofs.facts.note.Goals as goal

pub loop-fact-preserved : goal.loop-fact-preserved
loop-fact-preserved c =
    let l = c.loop-fact in
    let role = c.args.role in
    let mark = c.args.mark in
    noted role mark c.args.facts.now l.fact-index (marks_at c.args.marks.now.items) (marks_at l.marks.items) (marks_at c.put.new.items.items)
    c.with_mark-new.result c.loop-fact-test.true
    (c.with_mark-new.ensures ∙ ap (with_mark role mark) (c.marks_at.ensures ∙ (λ i. marks_at (c.as_slice.ensures.value i) (get_or c.args.facts.now l.fact-index 0))))
    l.invariant c.in_ok-put.ensures
