use Rattle.std.proofs.Common.{sym, ◌∙◌}
use Rattle.mp_estimates.specs.Lowering.{value_at}
use Rattle.mp_lmcut.proofs.AskLemmas.{found_marks}
use Rattle.mp_lmcut.proofs.near.learn.Goals as goal

pub returns-then-has-clause-value : goal.returns-then-has-clause-value
returns-then-has-clause-value c = λ s h. sym (c.requires.marks s h c.args.x (sym c.has.ensures ∙ c.if-has.true))

pub returns-clause-marks : goal.returns-clause-marks
returns-clause-marks c =
    found_marks (value_at c.args.numbers.now) c.args.problem.now.operators c.args.problem.now.goals c.args.most c.args.x c.args.near.now c.mark_found.new.near _
    c.in_ok-found.ensures c.in_ok-mark_found.ensures c.requires.marks
