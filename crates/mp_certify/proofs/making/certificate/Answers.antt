use Rattle.std.proofs.Common.{sym, ◌∙◌}
use Rattle.std.proofs.lemmas.Option.{none-some}
use Rattle.mp_certify.proofs.CertificateLemmas.{are_of_team, is_sound, proved}
use Rattle.mp_certify.proofs.making.certificate.Goals as goal

pub all_bounds-requires : goal.all_bounds-requires
all_bounds-requires c =
    let run = c.comes_from_a_run.ensures in
    are_of_team c.machines-agents.result.now c.args.world.now run.team (run.run c.requires.going) c.machines-agents.ensures.agents (c.machines-agents.ensures.free c.requires.going)

pub unreachable-requires : goal.unreachable-requires
unreachable-requires c =
    let p = proved c.machines-agents.result.now c.args.world.now.world c.machines-agents.ensures.agents c.requires.solved in
    none-some p.0 (c.in_default.ensures ∙ p.2)

pub returns-clause-certified : goal.returns-clause-certified
returns-clause-certified c =
    let run = c.comes_from_a_run.ensures in
    let p = proved c.machines-agents.result.now c.args.world.now.world c.machines-agents.ensures.agents c.requires.solved in
    (is_sound c.machines-agents.result.now c.args.world.now run.team (run.run c.requires.going) c.machines-agents.ensures.agents
    c.in-Some.cost c.in_ok-bounds.bounds (p.1 ∙ sym (c.in-Some.ensures ∙ p.2))
    c.in_ok-bounds.ensures.said c.in_ok-bounds.ensures.team).certified

pub returns-clause-holds : goal.returns-clause-holds
returns-clause-holds c =
    let run = c.comes_from_a_run.ensures in
    let p = proved c.machines-agents.result.now c.args.world.now.world c.machines-agents.ensures.agents c.requires.solved in
    (is_sound c.machines-agents.result.now c.args.world.now run.team (run.run c.requires.going) c.machines-agents.ensures.agents
    c.in-Some.cost c.in_ok-bounds.bounds (p.1 ∙ sym (c.in-Some.ensures ∙ p.2))
    c.in_ok-bounds.ensures.said c.in_ok-bounds.ensures.team).holds

pub returns-clause-fits : goal.returns-clause-fits
returns-clause-fits c =
    let run = c.comes_from_a_run.ensures in
    let p = proved c.machines-agents.result.now c.args.world.now.world c.machines-agents.ensures.agents c.requires.solved in
    (is_sound c.machines-agents.result.now c.args.world.now run.team (run.run c.requires.going) c.machines-agents.ensures.agents
    c.in-Some.cost c.in_ok-bounds.bounds (p.1 ∙ sym (c.in-Some.ensures ∙ p.2))
    c.in_ok-bounds.ensures.said c.in_ok-bounds.ensures.team).fits

pub returns-clause-agents : goal.returns-clause-agents
returns-clause-agents c =
    let run = c.comes_from_a_run.ensures in
    let p = proved c.machines-agents.result.now c.args.world.now.world c.machines-agents.ensures.agents c.requires.solved in
    (is_sound c.machines-agents.result.now c.args.world.now run.team (run.run c.requires.going) c.machines-agents.ensures.agents
    c.in-Some.cost c.in_ok-bounds.bounds (p.1 ∙ sym (c.in-Some.ensures ∙ p.2))
    c.in_ok-bounds.ensures.said c.in_ok-bounds.ensures.team).agents_fit
