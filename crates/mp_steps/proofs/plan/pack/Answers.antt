use Rattle.std.proofs.Common.{length, subst, sym, ap, ◌∙◌}
use Rattle.mp_joint.specs.FactorContribution.{team_of}
use Rattle.mp_checker.specs.Sink.{HasPlanCome}
use Rattle.mp_checker.proofs.VerdictLemmas.{if_valid}
use Rattle.mp_steps.specs.Levelled.{AreMetIn}
use Rattle.mp_steps.specs.Marks.{AreMet}
use Rattle.mp_steps.specs.Numbered.{clash_at}
use Rattle.mp_steps.proofs.plan.pack.Goals as goal

pub returns-clause-packed : goal.returns-clause-packed
returns-clause-packed c =
    let factors = c.args.factors.now in
    let plan = c.args.plan.now in
    let mets = c.as_slice.result.now in
    c.pack_checked.ensures.packed factors plan c.in_ok-found.ensures.verdict
    (if_valid _ (AreMetIn (team_of factors) plan mets) c.in_ok-found.found
    (λ (h : HasPlanCome _ (team_of factors) plan). record {
      steps = h.steps;
      long = ap length c.as_slice.ensures.value ∙ h.came.long;
      met = subst (AreMet (clash_at h.steps)) (sym c.as_slice.ensures.value) h.came.met;
      numbered = h.numbered;
    })
    c.in_ok-found.ensures.steps)

pub returns-clause-refused : goal.returns-clause-refused
returns-clause-refused c = c.pack_checked.ensures.refused c.args.factors.now c.args.plan.now c.in_ok-found.ensures.verdict
