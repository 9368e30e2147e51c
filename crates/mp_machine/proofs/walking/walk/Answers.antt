use Rattle.std.proofs.Common.{◌+◌, ◌≤◌, ◌++◌, sym, ap, subst, ◌∙◌, arith}
use Rattle.mp_search.proofs.SendingSteps.{on_ok}
use Rattle.mp_trail.specs.declared.steps.Walked.{Walked}
use Rattle.mp_trail.specs.Walk.{Walk, back_at}
use Rattle.mp_machine.proofs.StoreSeen.{EndFits, end_fits, walk_seen}
use Rattle.mp_machine.proofs.WalkSteps.{hop_stepped, on_both, root_stepped}
use Rattle.mp_machine.proofs.walking.walk.Goals as goal

pub send-requires-clause-numbers : goal.send-requires-clause-numbers
send-requires-clause-numbers g c =
    let kept = c.args.search.now.done.kept in
    let ends = c.in_ok-length.ensures.end ∙ ap (λ (w : Walk). w.end) (walk_seen c.store.result.now kept c.store.ensures c.args.entry c.args.back) in
    let below = subst EndFits (sym ends ∙ c.in-Hop.is) (end_fits kept c.requires.ready.search.entries c.args.entry c.args.back) in
    let small = subst (λ (w : Walked). back_at w ≤ c.args.back + c.args.entry) c.in-Hop.is c.in_ok-length.ensures.small in
    (below, omega (arith, c.requires.bounded))

pub returns-in-Root-clause-step : goal.returns-in-Root-clause-step
returns-in-Root-clause-step g c =
    let s = c.args.search.now in
    let m = c.args.member.now in
    let seen = walk_seen c.store.result.now s.done.kept c.store.ensures c.args.entry c.args.back in
    let noted = c.in_ok-length.ensures.noted ∙ ap (λ (w : Walk). m.trail ++ w.noted) seen in
    let ends = c.in_ok-length.ensures.end ∙ ap (λ (w : Walk). w.end) seen in
    on_both c.solve_and_tell.result _ _ _ c.solve_and_tell.ensures.out c.solve_and_tell.ensures.member
    (λ sent is.
    root_stepped s m c.args.entry c.args.back c.walk.new.self c.in_ok-length.field-0 noted ends c.requires.ready.member c.args.outs.now
    c.solve_and_tell.new.outs c.in-Root.length c.solve_and_tell.new.member c.in-Root.is sent is)

pub returns-in-Hop-clause-step : goal.returns-in-Hop-clause-step
returns-in-Hop-clause-step g c =
    let s = c.args.search.now in
    let m = c.args.member.now in
    let seen = walk_seen c.store.result.now s.done.kept c.store.ensures c.args.entry c.args.back in
    let noted = c.in_ok-length.ensures.noted ∙ ap (λ (w : Walk). m.trail ++ w.noted) seen in
    let ends = c.in_ok-length.ensures.end ∙ ap (λ (w : Walk). w.end) seen in
    on_ok c.send.result _ _ c.send.ensures
    (λ sent.
    hop_stepped s m c.args.entry c.args.back c.walk.new.self c.in_ok-length.field-0 noted ends c.requires.ready.member c.args.outs.now
    c.send.new.outs c.in-Hop.agent c.in-Hop.sent c.in-Hop.back c.in-Hop.is sent)
