use Rattle.std.proofs.Common.{List, ◌-◌, [], All, flat_map, map, slice_get, sym, ap, ◌∙◌, subst, arith, ◌≡◌}
use Rattle.std.proofs.lemmas.List.{take_all}
use Rattle.std.proofs.lemmas.List.Elements.{All-append, All-nil}
use Rattle.mp_machine.specs.Machine.{AgentMachine}
use Rattle.mp_schedule.specs.Machines.{tasks_of, world_of}
use Rattle.mp_audit.specs.LastCut.{said_by}
use Rattle.mp_certify.specs.Latest.{latest_bounds_of}
use Rattle.mp_certify.specs.Team.{IsOfTeam}
use Rattle.mp_certify.proofs.FactLemmas.{at_place}
use Rattle.mp_certify.proofs.MadeLemmas.{bounds_more}
use Rattle.mp_certify.proofs.bounds.all_bounds.Goals as goal

pub loop-place-init : goal.loop-place-init
loop-place-init g c = record {
  said = ap (map said_by) c.new-bounds.ensures;
  team = subst (All (IsOfTeam (tasks_of c.args.machines.now))) (sym c.new-bounds.ensures) (All-nil (IsOfTeam (tasks_of c.args.machines.now)));
}

pub agent_at-requires : goal.agent_at-requires
agent_at-requires g c =
    let lt = c.loop-place-test.true in
    let few = c.requires.at_most in
    omega (arith, lt, few)

pub bounds_of-requires-clause-from_1 : goal.bounds_of-requires-clause-from_1
bounds_of-requires-clause-from_1 g c = let is = c.agent_at.ensures in omega (arith, is)

pub bounds_of-requires-clause-there : goal.bounds_of-requires-clause-there
bounds_of-requires-clause-there g c =
    let is = c.agent_at.ensures in
    let place : c.agent_at.result - 1 ≡ c.loop-place.place = omega (arith, is) in
    ap (slice_get c.args.machines.now) place
    ∙ at_place c.args.machines.now c.loop-place.place c.index-machines-place.result c.loop-place-test.true c.index-machines-place.is

pub loop-place-preserved : goal.loop-place-preserved
loop-place-preserved g c =
    let l = c.loop-place in
    let machines = c.args.machines.now in
    let made = c.in_ok-made.made.items in
    let fits = IsOfTeam (tasks_of machines) in
    record {
      said =
          bounds_more machines c.args.cost l.place c.index-machines-place.result l.bounds made c.add_all.new.bounds c.loop-place-test.true c.index-machines-place.is
          c.in_ok-add_all.ensures c.in_ok-made.ensures.said l.invariant.said;
      team = subst (All fits) (sym c.in_ok-add_all.ensures) (All-append fits l.bounds made l.invariant.team c.in_ok-made.ensures.team);
    }

pub returns-clause-said : goal.returns-clause-said
returns-clause-said g c =
    let machines = c.args.machines.now in
    c.loop-place.invariant.said
    ∙ ap (λ (ms : List AgentMachine). flat_map (latest_bounds_of (world_of machines []) c.args.cost) (map (λ (m : AgentMachine). m.done) ms))
    (take_all c.loop-place.place machines c.loop-place-test.false)

pub returns-clause-team : goal.returns-clause-team
returns-clause-team g c = c.loop-place.invariant.team
