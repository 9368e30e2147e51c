use Rattle.std.proofs.Common.{[], map, sym, ap, ◌∙◌}
use Rattle.std.proofs.lemmas.List.Sorted.{All-permutation}
use Rattle.mp_schedule.specs.Machines.{tasks_of, world_of}
use Rattle.mp_audit.specs.LastCut.{said_by, worth}
use Rattle.mp_certify.specs.Latest.{latest}
use Rattle.mp_certify.specs.Team.{IsOfTeam}
use Rattle.mp_certify.proofs.MadeLemmas.{me_is}
use Rattle.mp_certify.proofs.bounds.bounds_of.Goals as goal

pub returns-clause-said : goal.returns-clause-said
returns-clause-said g c =
    let machines = c.args.machines.now in
    let me = me_is machines c.requires.team c.args.me c.args.machine.now c.requires.from_1 c.requires.there in
    ap (map said_by) c.reverse.ensures.items
    ∙ c.in_ok-made.ensures.said
    ∙ (λ j. map (worth (world_of machines []) c.args.cost (sym me j)) (latest c.args.cost (c.noted_count-count.ensures.entries j)))

pub returns-clause-team : goal.returns-clause-team
returns-clause-team g c =
    All-permutation (IsOfTeam (tasks_of c.args.machines.now)) c.in_ok-made.made.items c.reverse.new.self.items c.reverse.ensures.permutation c.in_ok-made.ensures.team
