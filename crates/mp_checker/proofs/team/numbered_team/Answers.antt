use Rattle.std.proofs.Common.{◌≡◌, ◌+◌, List, ◌++◌, drop, ℕ, ◌∙◌, ap, subst}
use Rattle.std.specs.Prelude.{IfSome, Option}
use Rattle.mp_checker.specs.AgentView.{AgentView, views_from}
use Rattle.mp_checker.proofs.TeamLemmas.{covers_one, one_more, all_made}
use Rattle.mp_checker.proofs.team.numbered_team.Goals as goal

pub new-requires-in-loop-place : goal.new-requires-in-loop-place
new-requires-in-loop-place c =
    covers_one c.args.names.now c.args.factors.now c.loop-place.place c.index-factors-place.result c.requires.covers
    c.loop-place-test.true c.index-factors-place.is

pub loop-place-preserved : goal.loop-place-preserved
loop-place-preserved c =
    let l = c.loop-place in
    let number = subst (λ (o : Option ℕ). IfSome o (λ a. a ≡ l.place + 1)) c.unwrap-agent.ensures c.new.ensures.value in
    ap (λ (t : List AgentView). t ++ views_from c.args.names.now ((l.place + 1) + 1) (drop (l.place + 1) c.args.factors.now)) c.in_ok-push.ensures.items
    ∙ one_more c.args.names.now l.team.items c.in_ok-new.field-0 c.args.factors.now l.place c.unwrap-agent.result c.index-factors-place.result
    c.loop-place-test.true c.index-factors-place.is number c.in_ok-new.ensures l.invariant

pub returns : goal.returns
returns c = all_made c.args.names.now c.loop-place.team.items c.args.factors.now c.loop-place.place c.loop-place-test.false c.loop-place.invariant
