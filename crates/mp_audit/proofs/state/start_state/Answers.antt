use Rattle.std.proofs.Common.{◌∙◌, ap}
use Rattle.mp_audit.specs.States.{members_of, sizes_of}
use Rattle.mp_audit.proofs.FitLemmas.{members_at_start, sizes_at_start}
use Rattle.mp_audit.proofs.state.start_state.Goals as goal

pub returns-clause-joint : goal.returns-clause-joint
returns-clause-joint c =
    let publics = c.in_ok-publics.ensures in
    let privates = ap members_of c.in_ok-privates.ensures ∙ members_at_start c.args.tasks.now in
    λ j. record { publics = (publics j).members; privates = privates j }

pub returns-clause-sizes : goal.returns-clause-sizes
returns-clause-sizes c = record {
  publics = λ j. (c.in_ok-publics.ensures j).size;
  privates = ap sizes_of c.in_ok-privates.ensures ∙ sizes_at_start c.args.tasks.now;
}
