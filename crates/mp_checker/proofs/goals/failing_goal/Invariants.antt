use Rattle.std.proofs.Common.{◌≡◌, List, drop}
use Rattle.std.specs.List.{flat_map}
use Rattle.mp_joint.specs.Fact.{Text}
use Rattle.mp_checker.specs.AgentView.{AreOf}
use Rattle.mp_checker.specs.At.{named_state}
use Rattle.mp_checker.specs.Marked.{HaveStayed, true_facts}
use Rattle.mp_checker.specs.Taken.{failing}
use Rattle.mp_checker.specs.Team.{goals_of}
use Rattle.mp_checker.proofs.goals.failing_goal.Given as goal

abbrev pub invariant-loop-factor : goal.invariant-loop-factor
invariant-loop-factor l =
    HaveStayed l.fn.facts l.facts
    × ((names : List Text) → AreOf names l.team
    → failing (named_state names (true_facts l.fn.facts)) (flat_map goals_of (drop l.factor-index l.team))
    ≡ failing (named_state names (true_facts l.fn.facts)) (flat_map goals_of l.team))
