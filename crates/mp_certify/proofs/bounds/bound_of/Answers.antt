use Rattle.std.proofs.Common.{List, ℕ, [], ◌-◌, ◌≤◌, length, map, sym, ap, ◌∙◌, subst}
use Rattle.std.specs.List.{enumerate_from}
use Rattle.std.proofs.lemmas.List.{length-map}
use Rattle.mp_sets.specs.declared.tag.Tag.{Tag}
use Rattle.mp_task.specs.Limits.{AllLess}
use Rattle.mp_machine.specs.Machine.{AgentMachine}
use Rattle.mp_world.specs.Joint.{private_facts}
use Rattle.mp_schedule.specs.Machines.{world_of}
use Rattle.mp_certify.proofs.bounds.bound_of.Goals as goal

pub private_lists-requires-clause-few : goal.private_lists-requires-clause-few
private_lists-requires-clause-few g c = c.requires.team.at_most

pub private_lists-requires-clause-free : goal.private_lists-requires-clause-free
private_lists-requires-clause-free g c = c.requires.team.free

pub private_lists-requires-clause-own : goal.private_lists-requires-clause-own
private_lists-requires-clause-own g c = c.requires.state.own_size

pub private_lists-requires-clause-tags : goal.private_lists-requires-clause-tags
private_lists-requires-clause-tags g c = ap length c.as_slice.ensures ∙ c.requires.state.tags_length

pub returns-clause-said : goal.returns-clause-said
returns-clause-said g c =
    let me = c.args.me in
    let x = c.args.shown.now in
    let facts = private_facts (world_of c.args.machines.now []) me x.mine.members in
    let privates = c.in_ok-privates.ensures.facts ∙ ap (λ (tags : List Tag). map facts (enumerate_from 1 tags)) c.as_slice.ensures in
    λ j. (record { agent = me; state = record { publics = c.in_ok-publics.ensures.set j; privates = privates j } }, c.args.cost - x.g)

pub returns-clause-team : goal.returns-clause-team
returns-clause-team g c = record {
  agent_number = subst (λ (n : ℕ). c.args.me ≤ n) (sym (length-map c.args.machines.now (λ (m : AgentMachine). m.done.task))) c.requires.me;
  publics_fit = subst (λ (n : ℕ). AllLess n c.in_ok-publics.publics) c.requires.state.publics_size c.in_ok-publics.ensures.below;
  privates_fit = c.in_ok-privates.ensures.fits;
}
