use Rattle.std.proofs.Common.{ap, ◌∙◌, ℕ}
use Rattle.std.specs.Prelude.{option_map, None}
use Rattle.mp_machine.proofs.StoreSeen.{f_seen, goal_seen}
use Rattle.mp_machine.proofs.snapshots.findings.Goals as goal

pub returns : goal.returns
returns g c =
    let store = c.store-store.result.now in
    let kept = c.args.search.now.done.kept in
    λ j. record {
      number = 0;
      least = (c.least_f.ensures ∙ f_seen store kept c.store-store.ensures) j;
      under_way = None;
      goal =
          (c.cost_of.ensures
          ∙ ap (option_map (λ (found : ℕ × ℕ). found.0)) (c.least_goal.ensures ∙ goal_seen store kept c.store-store.ensures)) j;
      spent = c.spent.ensures j;
    }
