use Rattle.std.proofs.Common.{ℕ, None, Some, subst, arith}
use Rattle.mp_audit.specs.Chains.{IsFound}
use Rattle.mp_audit.specs.States.{known_by}
use Rattle.mp_audit.proofs.TableLemmas.{found_bound, missing_bound, small_bound}
use Rattle.mp_audit.proofs.lookup.bound_in.Goals as goal

pub find-requires-clause-chained : goal.find-requires-clause-chained
find-requires-clause-chained c = c.requires.ready.all.chained

pub bound_of_entry-requires : goal.bound_of_entry-requires
bound_of_entry-requires c =
    let all = c.requires.ready.all.all in
    let lt = c.in-Some.ensures.0 in
    omega (arith, all, lt)

pub returns-in-Some-clause-bound : goal.returns-in-Some-clause-bound
returns-in-Some-clause-bound c =
    let d = c.args.known.now in
    let k = known_by c.args.agent c.args.state.now in
    found_bound d.tasks.now d.bounds.now.entries c.requires.ready.fits k c.in-Some.place c.bound_of_entry.result
    (subst (λ (n : ℕ). IsFound d.bounds.now.entries n k (Some c.in-Some.place)) c.requires.ready.all.all c.in-Some.ensures)
    c.bound_of_entry.ensures c.requires.ready.once

pub returns-in-Some-clause-small : goal.returns-in-Some-clause-small
returns-in-Some-clause-small c =
    let d = c.args.known.now in
    let k = known_by c.args.agent c.args.state.now in
    small_bound d.tasks.now d.bounds.now.entries c.requires.ready.fits k c.in-Some.place c.bound_of_entry.result
    (subst (λ (n : ℕ). IsFound d.bounds.now.entries n k (Some c.in-Some.place)) c.requires.ready.all.all c.in-Some.ensures)
    c.bound_of_entry.ensures

pub returns-in-None-clause-bound : goal.returns-in-None-clause-bound
returns-in-None-clause-bound c =
    let d = c.args.known.now in
    let k = known_by c.args.agent c.args.state.now in
    missing_bound d.bounds.now.entries k (subst (λ (n : ℕ). IsFound d.bounds.now.entries n k None) c.requires.ready.all.all c.in-None.ensures)
