use Rattle.std.proofs.Common.{sym, ◌∙◌, arith}
use Rattle.mp_search.specs.Steps.{parent_of}
use Rattle.mp_search.proofs.ActionSteps.{found_applied, last_applied}
use Rattle.mp_search.proofs.expansion.add_actions.Goals as goal

pub add_found-requires-clause-found : goal.add_found-requires-clause-found
add_found-requires-clause-found g c =
    sym (c.requires.found.numbers c.in-Some.number) ∙ c.in-Some.ensures.some.member

pub loop-number-preserved : goal.loop-number-preserved
loop-number-preserved g c =
    let t = c.args.context.now.task in
    record {
      inside = omega (arith, c.in-Some.ensures.next.0, c.requires.found.size);
      applied =
          found_applied t (g.H.Heuristic.value t) (parent_of c.args.parent.now) c.loop-number.from c.in-Some.number
          c.loop-number.out c.add_sending.new.out
          c.args.progress.now.states c.loop-number.progress.states c.add_found.new.progress.states c.args.found.now c.in_ok-sending.sending c.requires.found
          c.in-Some.ensures.some c.loop-number.invariant.applied c.in_ok-sending.ensures.sent c.in_ok-add_sending.ensures;
      heuristic = c.in_ok-sending.ensures.heuristic;
      sizes = c.in_ok-sending.ensures.sizes;
      tags = c.in_ok-sending.ensures.tags;
    }

pub returns-clause-sent : goal.returns-clause-sent
returns-clause-sent g c =
    let t = c.args.context.now.task in
    last_applied t (g.H.Heuristic.value t) (parent_of c.args.parent.now) c.loop-number.from c.loop-number.out
    c.args.progress.now.states c.loop-number.progress.states c.args.found.now c.requires.found c.loop-number.invariant.inside c.in_default.ensures.none c.loop-number.invariant.applied
