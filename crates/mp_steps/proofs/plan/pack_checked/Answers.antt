use Rattle.std.proofs.Common.{sym, ap, subst, ◌∙◌}
use Rattle.mp_joint.specs.FactorContribution.{team_of}
use Rattle.mp_plan_verdict.specs.declared.verdict.CheckVerdict.{CheckVerdict}
use Rattle.mp_plan_verdict.specs.declared.verdict.CheckVerdict.TheVariants.{Valid}
use Rattle.mp_checker.specs.Checked.{IfValid}
use Rattle.mp_steps.specs.Levelled.{AreMetIn}
use Rattle.mp_steps.proofs.plan.pack_checked.Goals as goal

pub returns-in_ok-packed_at-in-Some-clause-packed : goal.returns-in_ok-packed_at-in-Some-clause-packed
returns-in_ok-packed_at-in-Some-clause-packed c = λ factors plan is met.
    let team = team_of factors in
    let given : AreMetIn team plan c.args.mets.now =
    subst (λ (v : CheckVerdict). IfValid v (AreMetIn team plan c.args.mets.now)) c.in-Some.ensures met in
    record {
      valid = sym is ∙ c.in-Some.ensures ∙ ap Valid (sym c.in_ok-packed_at-in-Some.ensures.cost);
      steps = c.in_ok-packed_at-in-Some.ensures.steps team plan given;
      chain = c.in_ok-packed_at-in-Some.ensures.chain team plan given;
    }

pub returns-in-None-clause-refused : goal.returns-in-None-clause-refused
returns-in-None-clause-refused c = λ factors plan is. (is, c.in-None.ensures)
