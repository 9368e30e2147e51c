-- What holds of each agent after an event: it holds of the event's agent, and all others are as they were.
use Rattle.mp_world.proofs.Basics.{◌≡◌, ◌≢◌, ℕ, ◌⊎◌, Some, sym, ap, subst, ◌∙◌, inl, inr, cases_eq, same_Some}
use Rattle.mp_world.specs.AgentWords.{Event, AgentRecord}
use Rattle.mp_world.specs.Events.{agent_of}
use Rattle.mp_world.specs.Steps.{IsStepOf}
use Rattle.mp_world.specs.Values.{Values}
use Rattle.mp_world.specs.World.{World, agent_at}

pub each_agent : (value : Values) (w : World) (event : Event) (next : World) (step : IsStepOf value w event next)
    (P : ℕ → AgentRecord → Type 0) → P (agent_of event) step.step.after
    → ((i : ℕ) (r : AgentRecord) → agent_at w i ≡ Some r → i ≢ agent_of event → P i r)
    → (i : ℕ) (r : AgentRecord) → agent_at next i ≡ Some r → P i r
each_agent value w event next step P here others i r there = by (cases_eq i (agent_of event))
  where
    by : (i ≡ agent_of event) ⊎ (i ≡ agent_of event → ⊥) → P i r
    by (inl same) =
        let one : step.step.after ≡ r = same_Some step.step.after r (sym step.after ∙ sym (ap (agent_at next) same) ∙ there) in
        subst (λ (k : ℕ). P k r) (sym same) (subst (P (agent_of event)) one here)
    by (inr other) = others i r (sym (step.others i other) ∙ there) other
