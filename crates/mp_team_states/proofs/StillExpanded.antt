-- What an agent has expanded stays expanded at each event.
use Rattle.mp_world.proofs.Basics.{◌≡◌, ℕ, ◌⊎◌, List, Option, sym, ap, subst, ◌∙◌, inl, inr, Ok, cases_eq, same_Some}
use Rattle.mp_world.specs.AgentWords.{Event, Local, AgentRecord, local, Step, with_state}
use Rattle.mp_world.specs.SearchWords.{Numbers, SearchRecord}
use Rattle.mp_world.specs.Events.{agent_of, local_of, taken}
use Rattle.mp_world.specs.Steps.{IsStepOf}
use Rattle.mp_world.specs.Values.{Values}
use Rattle.mp_world.specs.World.{World, agent_at}
use Rattle.mp_team_states.proofs.ReachedEntries.{HasIt, entry_in, has_it}
use Rattle.mp_team_states.proofs.WorldsGrow.{search_holds}
use Rattle.mp_team_states.specs.Expansions.{IsExpandedAt}
use Rattle.mp_team_states.proofs.Continuing.{WasExpanded}
use Rattle.mp_team_states.proofs.Expanded.{received_continues, still_expanded}

local_still : (value : Numbers → Numbers → Option ℕ) (r : AgentRecord) (s : Step) (m : ℕ) → WasExpanded r.search.kept m
    → (event : Local) (bytes : List ℕ) → local value r event bytes ≡ Ok s → WasExpanded s.after.search.kept m
unfolding with_state
local_still value r s m was event bytes is =
    search_holds value r event bytes (λ (s : Step). WasExpanded s.after.search.kept m) (record {
      expands = λ at. still_expanded r.task value r.search m was;
      receives = λ from x at reads. (received_continues r.task value from x r.search.kept).still m was;
      quiet = λ s quiet. subst (λ (x : SearchRecord). WasExpanded x.kept m) (sym quiet.search_is) was;
    }) s is

pub stays_expanded : (value : Values) (w next : World) (event : Event) → IsStepOf value w event next
    → (agent m : ℕ) → IsExpandedAt w agent m → IsExpandedAt next agent m
stays_expanded value w next event is agent m before = by (cases_eq agent (agent_of event))
  where
    h : HasIt w agent m before.entry
    h = has_it w agent m before.entry before.there

    by : (agent ≡ agent_of event) ⊎ (agent ≡ agent_of event → ⊥) → IsExpandedAt next agent m
    by (inl same) =
        let one : h.agent_is ≡ is.agent = same_Some h.agent_is is.agent (sym h.there ∙ ap (agent_at w) same ∙ is.there) in
        let was : WasExpanded is.agent.search.kept m =
        subst (λ (r : AgentRecord). WasExpanded r.search.kept m) one (record { entry = before.entry; at = h.at; is = before.is })
        in
        let later = local_still (value is.agent.task) is.agent is.step m was (local_of event) (taken w event) is.local in
        record { entry = later.entry; there = entry_in next agent m is.step.after later.entry (ap (agent_at next) same ∙ is.after) later.at; is = later.is }
    by (inr other) =
        record { entry = before.entry; there = entry_in next agent m h.agent_is before.entry (is.others agent other ∙ h.there) h.at; is = before.is }
