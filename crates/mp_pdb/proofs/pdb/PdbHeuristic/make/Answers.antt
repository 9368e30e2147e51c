use Rattle.std.proofs.Common.{◌≡◌, ℕ, ◌+◌, ◌^◌, ◌<◌, All, length, ap, sym, subst, ◌∙◌}
use Rattle.std.proofs.lemmas.List.Elements.{All-weaker}
use Rattle.std.specs.FinSet as set
use Rattle.mp_sets.specs.Numbers.{Numbers}
use Rattle.mp_task.specs.AgentTask.{AgentTask}
use Rattle.mp_task.specs.Projected.{facts_of, projected}
use Rattle.mp_pdb.specs.Masks.{Shows, SizedPattern}
use Rattle.mp_pdb.specs.Moves.{IsMoveOf}
use Rattle.mp_pdb.specs.Pattern.{abstract_distance, abstract_state, is_in}
use Rattle.mp_estimates.specs.Lowering.{known, number_at}
use Rattle.mp_pdb.specs.Table.{IsTable, MoveFits}
use Rattle.mp_pdb.specs.Laws.Bounds.{costs_fit}
use Rattle.mp_pdb.proofs.Found.{numbers_are_distances}
use Rattle.mp_pdb.proofs.MaskLemmas.{shows_below}
use Rattle.mp_pdb.proofs.pdb.PdbHeuristic.make.Goals as goal

pub settled-requires-clause-fits : goal.settled-requires-clause-fits
settled-requires-clause-fits c =
    let facts = c.in_ok-pattern.pattern.facts in
    subst (All (MoveFits (2 ^ c.len.result))) (sym c.as_slice.ensures.value)
    (subst (λ n. All (MoveFits (2 ^ n)) c.in_ok-moves.moves.items) (sym c.len.ensures.len)
    (All-weaker (IsMoveOf facts (projected c.args.task.now).operators) (MoveFits (2 ^ length facts))
    (λ m found. record {
      pre = shows_below facts (is_in found.operator.pre) m.pre found.stands.lists.pre;
      add = shows_below facts (is_in found.operator.add) m.add found.stands.lists.add;
      del = shows_below facts (is_in found.operator.del) m.del found.stands.lists.del;
    })
    c.in_ok-moves.moves.items c.in_ok-moves.ensures.sound))

pub returns : goal.returns
returns c =
    let t = c.args.task.now in
    let facts = c.in_ok-pattern.pattern.facts in
    let table = c.in_ok-table.table.items in
    let mask = c.mask_of-goal.result in
    let is_made = c.in_ok-pattern.ensures.made in
    let same : c.into_facts-facts.result.items ≡ facts = c.into_facts-facts.ensures in
    let goals = subst (λ (u : AgentTask). Shows facts (is_in (facts_of u.publics u.goal_pub u.goal_priv)) mask) c.task.view_is c.mask_of-goal.ensures in
    let found = subst (λ ms. IsTable (2 ^ length facts) ms mask table) c.as_slice.ensures.value (subst (λ n. IsTable (2 ^ n) c.as_slice.result.now mask table) c.len.ensures.len c.in_ok-table.ensures) in
    record {
      same_publics = ap (λ (u : AgentTask). u.publics) c.task.view_is;
      pattern = same ∙ ap (λ (s : SizedPattern). s.facts) is_made;
      below =
          subst (All (λ x. x < t.publics + t.privates)) (sym same)
          (subst (λ n. All (λ x. x < n) facts) (ap (λ (s : SizedPattern). s.size) is_made) c.len.ensures.below);
      numbers =
          subst (λ fs. (s : Numbers) (m : ℕ) → Shows fs (set.contains s) m → known (number_at table m) ≡ abstract_distance fs (projected t) (abstract_state fs s)) (sym same)
          (numbers_are_distances facts (projected t) c.in_ok-moves.moves.items mask table c.len.ensures.few c.in_ok-moves.ensures goals found (costs_fit t c.in_ok-pattern.ensures.limits));
    }
