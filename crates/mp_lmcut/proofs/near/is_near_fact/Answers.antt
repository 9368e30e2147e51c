use Rattle.std.proofs.Common.{sym, ◌∙◌}
use Rattle.mp_estimates.specs.Lowering.{value_at}
use Rattle.mp_lmcut.proofs.AskLemmas.{cheap_is_near, inside_far}
use Rattle.mp_lmcut.proofs.near.is_near_fact.Goals as goal

pub returns-then-is_cheap : goal.returns-then-is_cheap
returns-then-is_cheap c = λ s h.
    sym (cheap_is_near (value_at c.args.numbers.now) c.args.problem.now.operators c.args.problem.now.goals c.args.most s h c.args.x (sym c.is_cheap.ensures ∙ c.if-is_cheap.true))

pub returns-then-has : goal.returns-then-has
returns-then-has c = λ s h.
    inside_far (value_at c.args.numbers.now) c.args.problem.now.operators c.args.problem.now.goals c.args.most s h c.args.x (sym (c.requires.zone c.args.x) ∙ sym c.has.ensures ∙ c.if-has.true)
