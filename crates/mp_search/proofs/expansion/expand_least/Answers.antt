use Rattle.mp_store.proofs.Popped.{popped_inside, popped_kept, popped_least}
use Rattle.mp_search.proofs.ActionSteps.{if_expanded}
use Rattle.mp_search.proofs.expansion.expand_least.Goals as goal

pub expand_entry-requires-clause-inside : goal.expand_entry-requires-clause-inside
expand_entry-requires-clause-inside g c =
    popped_inside c.args.progress.now.states.kept c.in-Some.number c.pop_least.result c.pop_least.new.self.kept c.pop_least.ensures.popped c.in-Some.is

pub returns-clause-expanded : goal.returns-clause-expanded
returns-clause-expanded g c =
    let r = c.args.progress.now.states.kept in
    let n = c.in-Some.number in
    let popped = c.pop_least.new.self.kept in
    let pops = c.pop_least.ensures.popped in
    if_expanded c.args.context.now.task (g.H.Heuristic.value c.args.context.now.task) n r popped c.expand_entry.new.progress.states.kept
    (popped_least r n c.pop_least.result popped pops c.in-Some.is) (popped_kept r n c.pop_least.result popped pops c.in-Some.is)
    c.expand_entry.result c.expand_entry.ensures.sent
