use Rattle.std.proofs.Common.{rules, ◌≡◌, ◌+◌, List, map, sym, ap, ◌∙◌}
use Rattle.std.proofs.lemmas.Option.{slice_get_past}
use Rattle.std.proofs.lemmas.Result.{IfOk-weaker}
use Rattle.mp_ground_laws.specs.Named.{step_of}
use Rattle.mp_joint.specs.declared.plan.PlanStep.{PlanStep}
use Rattle.mp_text.specs.Outcome.{names_at, share_lines}
use Rattle.mp_outcome.specs.Names.{names_of}
use Rattle.mp_outcome.specs.Renumbered.{IsRenumbered}
use Rattle.mp_outcome.proofs.NamesLemmas.{no_factor, no_steps, both}
use Rattle.mp_outcome.proofs.Pushed.{got}
use Rattle.mp_outcome.proofs.ShareLemmas.{no_lines}
use Rattle.mp_outcome.proofs.text.named_at.Goals as goal

pub returns-in_default : goal.returns-in_default
returns-in_default c =
    no_lines _ c.new.result.names c.args.share.now c.new.result.share
    (no_factor 1 c.args.factors.now c.args.steps.now c.args.place
    (slice_get_past c.args.factors.now c.args.place c.in_default.ensures.lookup.3))
    c.new.ensures.names c.new.ensures.share

pub returns-in_default-get : goal.returns-in_default-get
returns-in_default-get c =
    no_lines _ c.new-in_default-get.result.names c.args.share.now c.new-in_default-get.result.share
    (no_steps 1 c.args.factors.now c.args.steps.now c.args.place
    (slice_get_past c.args.steps.now c.args.place c.in_default-get.ensures.lookup.3))
    c.new-in_default-get.ensures.names c.new-in_default-get.ensures.share

pub returns : goal.returns
returns c =
    let number : c.in-Some-new.me ≡ 1 + c.args.place = search rules in
    let old : List PlanStep = names_at (names_of c.args.factors.now c.args.steps.now) c.args.place in
    let own : List PlanStep = map (step_of c.in-Some-new.me c.in-Some.factor.now) c.in-Some-get.own.now in
    let names : old ≡ own =
    both 1 c.args.factors.now c.args.steps.now c.args.place c.in-Some-new.me c.in-Some.factor.now c.in-Some-get.own.now
    (got c.args.factors.now c.args.place c.in-Some.factor.now
    c.in-Some.ensures.lookup.3.0 c.in-Some.ensures.lookup.1)
    (got c.args.steps.now c.args.place c.in-Some-get.own.now
    c.in-Some-get.ensures.lookup.3.0 c.in-Some-get.ensures.lookup.1)
    number in
    IfOk-weaker c.named_share.result (λ named. IsRenumbered own c.args.share.now named.names named.share)
    (λ named. share_lines named.names named.share ≡ share_lines old c.args.share.now)
    (λ named known. known.lines ∙ sym (ap (λ ns. share_lines ns c.args.share.now) names)) c.named_share.ensures
