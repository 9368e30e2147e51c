-- There is a plan at a stage exactly where agent 1's verdict is that one is proved.
use Rattle.mp_world.proofs.Basics.{◌≡◌, ℕ, false, Option, Some, None, refl, sym, ap, ◌∙◌, false≢true, same_Some}
use Rattle.mp_world.specs.AgentWords.{Verdict, Proved, NoPlan, Spent, Continue, AgentRecord, given_verdict, is_deciding, is_proved}
use Rattle.mp_world.specs.World.{World, agent_at}
use Rattle.mp_team_verdicts.specs.Ending.{IsAt, Stage, has_plan}
use Rattle.mp_team_verdicts.specs.Ending.Stage.{over, picking, searching, walking, without_plan}
use Rattle.mp_team_verdicts.proofs.Proving.{end_unproved}

undecided_unproved : (o : Option Verdict) → is_deciding o ≡ false → false ≡ is_proved o
undecided_unproved None test = refl
undecided_unproved (Some (Proved agent cost)) test = absurd (false≢true (sym test))
undecided_unproved (Some NoPlan) test = refl
undecided_unproved (Some (Spent agent)) test = refl
undecided_unproved (Some Continue) test = refl

pub plan_if_proved : (publics : ℕ) (w : World) (stage : Stage) (first : AgentRecord) → IsAt publics w stage → agent_at w 1 ≡ Some first
    → has_plan stage ≡ is_proved (given_verdict first)
plan_if_proved publics w stage first old there = by stage old
  where
    same : (x : AgentRecord) → agent_at w 1 ≡ Some x → is_proved (given_verdict x) ≡ is_proved (given_verdict first)
    same x at = ap (λ (r : AgentRecord). is_proved (given_verdict r)) (same_Some x first (sym at ∙ there))

    by : (stage : Stage) → IsAt publics w stage → has_plan stage ≡ is_proved (given_verdict first)
    by searching old = undecided_unproved (given_verdict old.first) old.verdict ∙ same old.first old.there
    by (without_plan kind) old = sym (end_unproved (given_verdict old.first) kind old.verdict.verdict) ∙ same old.first old.there
    by (picking agent number plan) old = sym (ap is_proved old.verdict.proved.verdict) ∙ same old.first old.there
    by (walking sender receiver sent earlier later) old = sym (ap is_proved old.verdict.proved.verdict) ∙ same old.first old.there
    by (over teller plan) old = sym (ap is_proved old.verdict.proved.verdict) ∙ same old.first old.there
