use Rattle.std.proofs.Common.{ap}
use Rattle.mp_machine.specs.declared.member.Member.{Member}
use Rattle.mp_machine.proofs.StartLemmas.{IsNew, member_new, ready_new}
use Rattle.mp_machine.proofs.machine.Machine.new.Goals as goal

pub invariant_of-result : goal.invariant_of-result
invariant_of-result g c =
    let t = c.args.task in
    let value = g.H.Heuristic.value t in
    let m = c.new_member-member.result in
    let is = c.new_member-member.ensures.member in
    let new : IsNew t value c.args.limit c.in_ok-search.search m = record {
      search = c.in_ok-search.ensures;
      me = ap (λ (x : Member). x.me) is;
      agents = ap (λ (x : Member). x.agents) is;
      publics = ap (λ (x : Member). x.publics) is;
      snapshot = ap (λ (x : Member). x.snapshot) is;
      goal = ap (λ (x : Member). x.goal) is;
      trail = ap (λ (x : Member). x.trail) is;
    } in
    let limits = c.new_member-member.ensures.limits in
    record {
      member = member_new t limits value c.args.limit c.requires.limit c.in_ok-search.search m new;
      ready = λ _. ready_new t limits value c.args.limit c.requires.limit c.in_ok-search.search m new;
    }
