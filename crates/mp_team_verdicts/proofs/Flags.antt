-- An entry is marked as a goal exactly where its state is one.
use Rattle.mp_world.proofs.Basics.{◌≡◌, ℕ, ◌⊎◌, List, [], Option, Some, sym, ap, subst, ◌∙◌, inl, inr, Ok, slice_get, none-some}
use Rattle.mp_world.specs.AgentWords.{AgentTask, Event, State, Local, AgentRecord, local, Step, with_state}
use Rattle.mp_world.specs.SearchWords.{Numbers, Entry, Origin, Record, empty, AgentState, is_goal_state, expanded, start_record, received, SearchRecord}
use Rattle.mp_world.specs.Events.{agent_of, local_of, run, taken}
use Rattle.mp_world.specs.Steps.{IsStepOf}
use Rattle.mp_world.specs.Team.{IsTeam, Team}
use Rattle.mp_world.specs.World.{World, agent_at, start_world}
use Rattle.mp_world.proofs.Runs.{run_has}
use Rattle.mp_team_states.specs.Growing.{IsAlike}
use Rattle.mp_team_states.proofs.Entries.{IsNew, IsOld, changes_entry}
use Rattle.mp_team_states.proofs.Expanding.{IsEntryOf, IsFirst, IsReceived, Led, expanded_changes, received_changes, start_changes}
use Rattle.mp_team_states.proofs.StartReached.{task_is}
use Rattle.mp_team_states.proofs.WorldsGrow.{search_holds}
use Rattle.mp_team_states.proofs.EachAgent.{each_agent}

-- the mark of an entry says whether its state is a goal
abbrev pub IsFlagged : AgentTask → Entry AgentState → Type 0
IsFlagged t e = e.goal ≡ is_goal_state t e.key

abbrev pub AreFlagged : AgentTask → Record AgentState → Type 0
AreFlagged t r = (n : ℕ) (e : Entry AgentState) → slice_get r.entries n ≡ Some e → IsFlagged t e

alike_flagged : (t : AgentTask) (e later : Entry AgentState) → IsAlike e later → IsFlagged t e → IsFlagged t later
alike_flagged t e later alike flagged = alike.goal ∙ flagged ∙ ap (is_goal_state t) (sym alike.key)

new_flagged : (t : AgentTask) (s : AgentState) (cost : ℕ) (value : Option ℕ) (from : Origin) (new : Entry AgentState) → IsEntryOf t s cost value from new → IsFlagged t new
new_flagged t s cost value from new is = is.goal ∙ ap (is_goal_state t) (sym is.key)

module _ (t : AgentTask) (value : Numbers → Numbers → Option ℕ) where
  expanded_flagged : (r : SearchRecord) → AreFlagged t r.kept → AreFlagged t (expanded t value r).1.kept
  expanded_flagged r old n e at =
      by (changes_entry (Led t value r.kept) t r.kept (expanded t value r).1.kept (expanded t value r).0 (expanded_changes t value r) n e at)
    where
      by : IsOld r.kept n e ⊎ IsNew (Led t value r.kept) t (expanded t value r).1.kept n e → IsFlagged t e
      by (inl is) = alike_flagged t is.old e is.alike (old n is.old is.there)
      by (inr is) = alike_flagged t is.new e is.alike (new_flagged t _ _ _ _ is.new is.comes.is)

  received_flagged : (from : ℕ) (m : State) (r : Record AgentState) → AreFlagged t r → AreFlagged t (received t value from m r).1
  received_flagged from m r old n e at =
      by (changes_entry (IsReceived t value from m r) t r (received t value from m r).1 [] (received_changes t value from m r) n e at)
    where
      by : IsOld r n e ⊎ IsNew (IsReceived t value from m r) t (received t value from m r).1 n e → IsFlagged t e
      by (inl is) = alike_flagged t is.old e is.alike (old n is.old is.there)
      by (inr is) = alike_flagged t is.new e is.alike (new_flagged t _ _ _ _ is.new is.comes)

  start_flagged : AreFlagged t (start_record t value).kept
  start_flagged n e at = by (changes_entry (IsFirst t value) t empty (start_record t value).kept [] (start_changes t value) n e at)
    where
      by : IsOld empty n e ⊎ IsNew (IsFirst t value) t (start_record t value).kept n e → IsFlagged t e
      by (inl is) = absurd (none-some is.old is.there)
      by (inr is) = alike_flagged t is.new e is.alike (new_flagged t _ _ _ _ is.new is.comes)

-- ---- a step of an agent

abbrev pub HasFlags : AgentRecord → Type 0
HasFlags r = AreFlagged r.task r.search.kept

local_flags : (value : Numbers → Numbers → Option ℕ) (r : AgentRecord) → HasFlags r → (event : Local) (bytes : List ℕ) (s : Step)
    → local value r event bytes ≡ Ok s → HasFlags s.after
unfolding with_state
local_flags value r old event bytes =
    search_holds value r event bytes (λ (s : Step). HasFlags s.after) (record {
      expands = λ at. expanded_flagged r.task value r.search old;
      receives = λ from m at reads. received_flagged r.task value from m r.search.kept old;
      quiet = λ s quiet.
          subst (λ (t : AgentTask). AreFlagged t s.after.search.kept) (sym quiet.task)
          (subst (λ (x : SearchRecord). AreFlagged r.task x.kept) (sym quiet.search_is) old);
    })

-- ---- in all runs

abbrev pub HaveFlags : World → Type 0
HaveFlags w = (i : ℕ) (r : AgentRecord) → agent_at w i ≡ Some r → HasFlags r

module _ (team : Team) (is_team : IsTeam team) where
  open team use {value}

  start_flags : HaveFlags (start_world team)
  start_flags i r there =
      let of = task_is team is_team i r there in
      subst HasFlags (sym of.2) (start_flagged of.0 (value of.0))

  event_flags : (w : World) (event : Event) (next : World) → HaveFlags w → IsStepOf value w event next → HaveFlags next
  event_flags w event next old is =
      each_agent value w event next is (λ i r. HasFlags r)
      (local_flags (value is.agent.task) is.agent (old (agent_of event) is.agent is.there) (local_of event) (taken w event) is.step is.local)
      (λ i r there other. old i r there)

  pub flags_in_runs : (schedule : List Event) (w : World) → run team schedule ≡ Some w → HaveFlags w
  flags_in_runs = run_has team HaveFlags start_flags (λ w event next of_team old is. event_flags w event next old is)
