use Rattle.std.proofs.Common.{◌≡◌, ◌≤◌, length, subst, sym, arith}
use Rattle.mp_audit.specs.Failures.{verdict_on}
use Rattle.mp_audit.specs.Fits.{CertificateFits, IsCertificateFor}
use Rattle.mp_audit.specs.FlatCertificates.{certificate_of}
use Rattle.mp_certificates.specs.Accepted.{IsTextOf}
use Rattle.mp_plan_verdict.specs.Verdict.{verdict}
use Rattle.mp_plans.proofs.PlanSizes.{short_plan}
use Rattle.mp_optimality.specs.Audits.{Tells}
use Rattle.mp_optimality.specs.Reading.{IsCertificateUnread}
use Rattle.mp_optimality.proofs.Audited.{audited_by, certificate_refused, plan_refused}
use Rattle.mp_optimality.proofs.auditing.audit_plan.Goals as goal

pub certificate_in-requires : goal.certificate_in-requires
certificate_in-requires c =
    let stands = c.tasks_stand_for_files.ensures c.args.factors.now c.in-Ok.given c.checked_factors_are_checked.ensures c.in-Ok.ensures.tasks in
    let size : length c.in-Ok.given.tasks ≡ length c.args.factors.now = stands.2.one_each in
    subst (λ ts. length ts ≤ 16) (sym c.as_slice.ensures) (subst (λ n. n ≤ 16) (sym size) c.requires.at_most)

pub audited-requires-clause-short : goal.audited-requires-clause-short
audited-requires-clause-short c =
    let plan = c.in-Ok-plan_of.plan in
    let few : length plan.plan ≤ length c.args.plan_text.now = short_plan _ c.args.plan_text.now plan c.in-Ok-plan_of.ensures.found in
    let most = c.requires.short in
    omega (arith, few, most)

pub audited-requires-clause-certificate : goal.audited-requires-clause-certificate
audited-requires-clause-certificate c =
    let stands = c.tasks_stand_for_files.ensures c.args.factors.now c.in-Ok.given c.checked_factors_are_checked.ensures c.in-Ok.ensures.tasks in
    let certificate = certificate_of c.in-Ok-certificate_in.certificate in
    subst (λ ts. IsCertificateFor ts certificate) (sym c.as_slice-2.ensures) (record {
      agree = stands.2.agree;
      fits = subst (λ ts. CertificateFits ts certificate) c.as_slice.ensures c.in-Ok-certificate_in.ensures.found.certificate_fits.fits;
    })

pub returns-in-Err-certificate_in-clause-refused : goal.returns-in-Err-certificate_in-clause-refused
returns-in-Err-certificate_in-clause-refused c =
    let r = c.in-Err-certificate_in.refusal in
    let text = c.args.certificate_text.now in
    certificate_refused c.args.factors.now c.in-Ok.given c.requires.some c.requires.at_most c.in-Ok.ensures.within c.in-Ok.ensures.tasks
    text c.args.plan_text.now r
    (subst (λ ts. IsCertificateUnread ts text r) c.as_slice.ensures c.in-Err-certificate_in.ensures.refused)

pub returns-in-Err-plan_of-clause-refused : goal.returns-in-Err-plan_of-clause-refused
returns-in-Err-plan_of-clause-refused c =
    let text = c.args.certificate_text.now in
    let certificate = certificate_of c.in-Ok-certificate_in.certificate in
    plan_refused c.args.factors.now c.in-Ok.given c.requires.some c.requires.at_most c.in-Ok.ensures.within c.in-Ok.ensures.tasks
    text c.args.plan_text.now certificate
    (subst (λ ts. IsTextOf ts certificate text) c.as_slice.ensures c.in-Ok-certificate_in.ensures.found)
    c.in-Err-plan_of.refusal c.in-Err-plan_of.ensures.refused

pub returns-clause-audited : goal.returns-clause-audited
returns-clause-audited c =
    let team = c.args.factors.now in
    let text = c.args.certificate_text.now in
    let certificate = certificate_of c.in-Ok-certificate_in.certificate in
    let plan = c.in-Ok-plan_of.plan in
    audited_by team c.in-Ok.given c.requires.some c.requires.at_most c.in-Ok.ensures.within c.in-Ok.ensures.tasks
    text c.args.plan_text.now certificate
    (subst (λ ts. IsTextOf ts certificate text) c.as_slice.ensures c.in-Ok-certificate_in.ensures.found)
    (record {
      valid = c.verdicts_are_right.ensures.valid;
      wrong = c.failures_are_what_is_wrong.ensures;
      least = c.no_plan_is_cheaper.ensures;
    })
    c.checked_factors_are_checked.ensures plan c.in-Ok-plan_of.ensures.found c.in_ok-audited.field-0
    (subst (λ ts. Tells (verdict team plan.plan) (verdict_on ts certificate) certificate.cost plan.cost c.in_ok-audited.field-0)
    c.as_slice-2.ensures c.in_ok-audited.ensures)
