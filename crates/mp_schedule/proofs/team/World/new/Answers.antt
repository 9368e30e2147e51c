use Rattle.std.proofs.Common.{◌∙◌, ap, refl, replicate, []}
use Rattle.mp_schedule.proofs.Keeping.{kept}
use Rattle.mp_schedule.proofs.Starts.{is_run, starts}
use Rattle.mp_schedule.proofs.team.World.new.Goals as goal

pub invariant_of-result : goal.invariant_of-result
invariant_of-result g c =
    is_run g.H.Heuristic.value c.args.machines.items c.in_ok-mail.mail c.new-2.result c.requires
    (c.in_ok-mail.ensures ∙ ap (λ n. replicate n (replicate n [])) (c.len.ensures
    ∙ c.args.machines.ok.0)) c.new-2.ensures

pub returns-clause-made : goal.returns-clause-made
returns-clause-made g c =
    starts g.H.Heuristic.value c.args.machines.items c.in_ok-mail.mail c.new-2.result c.requires
    (c.in_ok-mail.ensures ∙ ap (λ n. replicate n (replicate n [])) (c.len.ensures
    ∙ c.args.machines.ok.0)) c.new-2.ensures

pub returns-clause-laws : goal.returns-clause-laws
returns-clause-laws g c =
    let ms = c.args.machines.items in
    let value = g.H.Heuristic.value in
    kept value ms c.in_ok-mail.mail c.new-2.result _ (is_run value ms c.in_ok-mail.mail c.new-2.result c.requires
    (c.in_ok-mail.ensures ∙ ap (λ n. replicate n (replicate n [])) (c.len.ensures
    ∙ c.args.machines.ok.0)) c.new-2.ensures) refl c.runs_keep_laws.ensures.laws
