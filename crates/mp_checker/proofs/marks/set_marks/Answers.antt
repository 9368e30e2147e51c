use Rattle.std.proofs.Common.{◌∙◌}
use Rattle.mp_checker.specs.Marked.{is_marked}
use Rattle.mp_checker.proofs.MarkLemmas.{set_more}
use Rattle.mp_checker.proofs.marks.set_marks.Goals as goal

pub loop-number-preserved : goal.loop-number-preserved
loop-number-preserved c = λ k.
    let l = c.loop-number in
    set_more c.args.mark c.args.numbers.now l.number-index k (is_marked l.marks.items k) (is_marked c.set_mark.new.marks.items k)
    c.loop-number-test.true (c.in_ok-set_mark.ensures k)
    ∙ l.invariant k
