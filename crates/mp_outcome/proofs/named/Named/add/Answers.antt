use Rattle.std.proofs.Common.{rules, ◌≡◌, length, refl, sym, ap, ◌∙◌, Some}
use Rattle.std.specs.Option.{option_map}
use Rattle.std.proofs.lemmas.Option.{slice_get-map}
use Rattle.mp_ground_laws.specs.Named.{step_of}
use Rattle.mp_outcome.proofs.ShareLemmas.{none_added, when_added}
use Rattle.mp_outcome.proofs.named.Named.add.Goals as goal

pub returns-in_default : goal.returns-in_default
returns-in_default c =
    λ share known. none_added _ share c.args.timed c.args.self.now.names c.args.self.now.share
    (slice_get-map (step_of c.args.me c.args.told.now) c.args.steps.now c.args.timed.action
    ∙ ap (option_map (step_of c.args.me c.args.told.now)) (sym c.in_default.ensures))
    known

pub returns : goal.returns
returns c =
    let number : c.in_ok-action.action ≡ length c.args.self.now.names = search rules in
    λ share known. when_added c.push-2.result _ share c.args.timed
    (record { time = c.args.timed.time; action = c.in_ok-action.action }) c.in_ok-step.field-0
    c.args.self.now.names c.push.new.self c.args.self.now.share c.push-2.new.self
    (slice_get-map (step_of c.args.me c.args.told.now) c.args.steps.now c.args.timed.action
    ∙ ap (option_map (step_of c.args.me c.args.told.now)) (sym c.in-Some.ensures)
    ∙ ap Some (sym c.in_ok-step.ensures))
    refl number c.in_ok-push.ensures.ok c.push-2.ensures.ok known
