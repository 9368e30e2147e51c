use Rattle.std.proofs.Common.{◌≡◌, ◌||◌, List, drop}
use Rattle.std.specs.List.{list_any}
use Rattle.mp_joint.specs.declared.fact.NamedFact.{NamedFact}
use Rattle.mp_joint.specs.Fact.{Text}
use Rattle.mp_checker.specs.AgentView.{AgentView, AreOf}
use Rattle.mp_checker.specs.At.{is_true, numbers_of}
use Rattle.mp_checker.specs.Marked.{true_facts}
use Rattle.mp_checker.specs.Team.{starts}
use Rattle.mp_checker.proofs.start.start.Given as goal

abbrev pub invariant-loop-factor : goal.invariant-loop-factor
invariant-loop-factor l = (names : List Text) → AreOf names l.team → (f : NamedFact)
    → (list_any (λ (w : AgentView). starts w f) (drop l.factor-index l.team) || is_true (true_facts l.facts) (numbers_of names f))
    ≡ list_any (λ (w : AgentView). starts w f) l.team
