-- What an event changes in a world, and that the world stays one of its team.
use Rattle.mp_world.proofs.Basics.{◌≡◌, ℕ, zero, suc, ◌-◌, Bool, true, false, List, [], ◌∷◌, length, map, drop, Some, None, refl, sym, ap, subst, ◌∙◌, Result, Ok, Err, if◌then◌else◌, All, replicate, slice_get, slice_set, option_and_then, option_map_or, and_parts}
use Rattle.mp_world.proofs.Basics.{length-map, length-replicate, length-set, none-some, same_Some}
use Rattle.std.proofs.lemmas.List.{map-set}
use Rattle.std.proofs.lemmas.List.Elements.{All-replicate}
use Rattle.std.proofs.lemmas.Option.{option_and_then_some}
use Rattle.mp_world.specs.AgentWords.{AgentTask, Event, Expand, Take, Start, BadKind, AgentRecord, new_record, local, may, Step}
use Rattle.mp_world.specs.Events.{after_event, after_local, agent_may, agent_of, has_message, if_good, is_legal, local_of, local_step, sent_in, taken, without_taken}
use Rattle.mp_world.specs.Steps.{IsStepOf}
use Rattle.mp_world.specs.Team.{Team}
use Rattle.mp_world.specs.Values.{Values}
use Rattle.mp_world.specs.World.{World, IsAgent, IsTeamWorld, agent_at, start_world, under_way, with_agent}
use Rattle.mp_world.proofs.Mail.{HasLists, one_before, IsAgent-agents, agent_at-agents, agent_at-other, agent_at-same, agent_of_team, all_sent-agents, all_sent-lists, under_way-all_sent, under_way-lists}
use Rattle.mp_world.proofs.Tasks.{local_keeps_task}

-- ---- worlds of a team

pub team_lists : (tasks : List AgentTask) (w : World) → IsTeamWorld tasks w → HasLists w
team_lists tasks w is =
    let many : length tasks ≡ length w.agents = ap length (sym is.team) ∙ length-map w.agents (λ r. r.task) in
    record {
      senders = is.senders ∙ many;
      receivers = subst (λ n. All (λ row. length row ≡ n) w.mail) many is.receivers;
    }

pub team_size : (tasks : List AgentTask) (w : World) → IsTeamWorld tasks w → length w.agents ≡ length tasks
team_size tasks w is = sym (length-map w.agents (λ r. r.task)) ∙ ap length is.team

pub team_of : (tasks : List AgentTask) (w : World) → map (λ r. r.task) w.agents ≡ tasks → HasLists w → IsTeamWorld tasks w
team_of tasks w team lists =
    let many : length w.agents ≡ length tasks = sym (length-map w.agents (λ r. r.task)) ∙ ap length team in
    record {
      team = team;
      senders = lists.senders ∙ many;
      receivers = subst (λ n. All (λ row. length row ≡ n) w.mail) many lists.receivers;
    }

-- ---- an event

-- what it means that an event leads to a world
pub record Stepped (value : Values) (w : World) (event : Event) (next : World) : Type 0 where
  pub agent : AgentRecord
  pub there : agent_at w (agent_of event) ≡ Some agent
  pub may : may agent (local_of event) ≡ true
  pub message : has_message w event ≡ true
  pub step : Step
  pub local : local_step value w event agent ≡ Ok step
  pub is : after_local w event step ≡ next

module _ (value : Values) (w : World) (event : Event) (next : World) where
  pub stepped : after_event value w event ≡ Some next → Stepped value w event next
  unfolding after_event
  stepped = by (is_legal w event) refl
    where
      good : (r : AgentRecord) → agent_at w (agent_of event) ≡ Some r → is_legal w event ≡ true
          → (result : Result Step BadKind) → local_step value w event r ≡ result → if_good w event result ≡ Some next → Stepped value w event next
      good r there legal (Err kind) local leads = absurd (none-some next leads)
      good r there legal (Ok s) local leads =
          let both = and_parts (agent_may w event) (has_message w event) legal in
          record {
            agent = r;
            there = there;
            may = ap (λ o. option_map_or (λ (x : AgentRecord). may x (local_of event)) o false) (sym there) ∙ both.0;
            message = both.1;
            step = s;
            local = local;
            is = same_Some (after_local w event s) next leads;
          }

      by : (b : Bool) → is_legal w event ≡ b
          → (if b then option_and_then (λ r. if_good w event (local_step value w event r)) (agent_at w (agent_of event)) else None) ≡ Some next
          → Stepped value w event next
      by false legal leads = absurd (none-some next leads)
      by true legal leads =
          option_and_then_some (λ r. if_good w event (local_step value w event r)) (agent_at w (agent_of event)) next leads
          (λ r there leads'. good r there legal (local_step value w event r) refl leads')

-- the message that is taken is no longer under way
taken-agents : (w : World) (event : Event) → (without_taken w event).agents ≡ w.agents
taken-agents w (Expand agent) = refl
taken-agents w (Take by from) = refl
taken-agents w Start = refl

taken-lists : (w : World) (event : Event) → HasLists w → HasLists (without_taken w event)
taken-lists w (Expand agent) lists = lists
taken-lists w (Take by from) lists = under_way-lists w from by (drop 1 (under_way w from by)) lists
taken-lists w Start lists = lists

-- the agent of the event has done more
module _ (w : World) (event : Event) (r s : AgentRecord) (there : agent_at w (agent_of event) ≡ Some r) where
  abbrev changed : World
  changed = with_agent (without_taken w event) (agent_of event) s

  there_taken : agent_at (without_taken w event) (agent_of event) ≡ Some r
  there_taken = agent_at-agents (without_taken w event) w (agent_of event) (taken-agents w event) ∙ there

  changed-size : length changed.agents ≡ length w.agents
  changed-size = length-set (without_taken w event).agents (agent_of event - 1) s ∙ ap length (taken-agents w event)

  changed-agent : (agent : ℕ) → IsAgent w agent → IsAgent changed agent
  changed-agent agent = IsAgent-agents changed w agent changed-size

  changed-lists : HasLists w → HasLists changed
  changed-lists lists =
      let before = taken-lists w event lists in
      let many : length (without_taken w event).agents ≡ length changed.agents = sym (length-set (without_taken w event).agents (agent_of event - 1) s) in
      record {
        senders = before.senders ∙ many;
        receivers = subst (λ n. All (λ row. length row ≡ n) changed.mail) many before.receivers;
      }

  -- the tasks are the same where the agent's is
  changed-tasks : s.task ≡ r.task → map (λ x. x.task) changed.agents ≡ map (λ x. x.task) w.agents
  changed-tasks same =
      map-set (λ x. x.task) (without_taken w event).agents (agent_of event - 1) s
      ∙ ap (λ t. slice_set (map (λ x. x.task) (without_taken w event).agents) (agent_of event - 1) t) same
      ∙ task_again (without_taken w event) (agent_of event) r there_taken
      ∙ ap (λ rs. map (λ x. x.task) rs) (taken-agents w event)
    where
      item_again : (rs : List AgentRecord) (k : ℕ) (x : AgentRecord) → slice_get rs k ≡ Some x → slice_set (map (λ y. y.task) rs) k x.task ≡ map (λ y. y.task) rs
      item_again [] k x here = absurd (none-some x here)
      item_again (y ∷ ys) zero x here = ap (λ (z : AgentRecord). z.task ∷ map (λ (u : AgentRecord). u.task) ys) (sym (same_Some y x here))
      item_again (y ∷ ys) (suc k) x here = ap (λ ts. y.task ∷ ts) (item_again ys k x here)

      task_again : (v : World) (agent : ℕ) (x : AgentRecord) → agent_at v agent ≡ Some x → slice_set (map (λ y. y.task) v.agents) (agent - 1) x.task ≡ map (λ y. y.task) v.agents
      task_again v zero x here = absurd (none-some x here)
      task_again v (suc k) x here = subst (λ i. slice_set (map (λ (y : AgentRecord). y.task) v.agents) i x.task ≡ map (λ (y : AgentRecord). y.task) v.agents) (sym (one_before k)) (item_again v.agents k x here)

-- an event changes its agent and what goes to it and from it, and nothing else
module _ (value : Values) (w : World) (lists : HasLists w) (event : Event) where
  step_made : (next : World) → Stepped value w event next → IsStepOf value w event next
  step_made next s = subst (IsStepOf value w event) s.is (record {
    agent = s.agent;
    there = s.there;
    may = s.may;
    message = s.message;
    step = s.step;
    local = s.local;
    after =
        agent_at-agents after before a agents ∙ agent_at-same (without_taken w event) a s.agent s.step.after (there_taken w event s.agent s.step.after s.there);
    others = λ other apart.
        agent_at-agents after before other agents
        ∙ agent_at-other (without_taken w event) a other s.agent s.step.after (there_taken w event s.agent s.step.after s.there) apart
        ∙ agent_at-agents (without_taken w event) w other (taken-agents w event);
    mail = λ from to is_from is_to.
        under_way-all_sent before (changed-lists w event s.agent s.step.after s.there lists) a from to (sent_in s.step)
        (still a (agent_of_team w a s.agent s.there)) (still from is_from) (still to is_to);
  })
    where
      a : ℕ
      a = agent_of event

      before : World
      before = with_agent (without_taken w event) (agent_of event) s.step.after

      after : World
      after = after_local w event s.step

      agents : after.agents ≡ before.agents
      agents = all_sent-agents a before (sent_in s.step)

      still : (agent : ℕ) → IsAgent w agent → IsAgent before agent
      still = changed-agent w event s.agent s.step.after s.there

  pub event_is_step : (next : World) → after_event value w event ≡ Some next → IsStepOf value w event next
  event_is_step next leads = step_made next (stepped value w event next leads)

-- the world is one of the team still
pub event_keeps_team : (value : Values) (tasks : List AgentTask) (w : World) (event : Event) (next : World)
    → IsTeamWorld tasks w → after_event value w event ≡ Some next → IsTeamWorld tasks next
event_keeps_team value tasks w event next is leads = subst (IsTeamWorld tasks) s.is (team_of tasks after team (lists))
  where
    s : Stepped value w event next
    s = stepped value w event next leads

    before : World
    before = with_agent (without_taken w event) (agent_of event) s.step.after

    after : World
    after = after_local w event s.step

    agents : after.agents ≡ before.agents
    agents = all_sent-agents (agent_of event) before (sent_in s.step)

    same : s.step.after.task ≡ s.agent.task
    same = local_keeps_task (value s.agent.task) s.agent (local_of event) (taken w event) s.step s.local

    team : map (λ x. x.task) after.agents ≡ tasks
    team = ap (λ rs. map (λ x. x.task) rs) agents ∙ changed-tasks w event s.agent s.step.after s.there same ∙ is.team

    lists : HasLists after
    lists = all_sent-lists (agent_of event) before (sent_in s.step) (changed-lists w event s.agent s.step.after s.there (team_lists tasks w is))

-- so is the world at the start
pub start_is_team : (team : Team) → IsTeamWorld team.tasks (start_world team)
start_is_team team = record {
  team = tasks_again tasks;
  senders = length-replicate (length tasks) (replicate (length tasks) []);
  receivers = All-replicate (λ row. length row ≡ length tasks) (length tasks) (replicate (length tasks) []) (length-replicate (length tasks) []);
}
  where
    open team use {tasks, value, limit}

    tasks_again : (ts : List AgentTask) → map (λ r. r.task) (map (λ t. new_record t (value t) limit) ts) ≡ ts
    tasks_again [] = refl
    tasks_again (t ∷ ts) = ap (λ us. t ∷ us) (tasks_again ts)
