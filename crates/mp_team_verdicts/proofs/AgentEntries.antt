-- The entries of an agent: its messages go to other agents of its team.
use Rattle.mp_world.proofs.Basics.{◌≡◌, ◌≤◌, ℕ, true, List, [], ◌∷◌, map, length, Option, refl, subst, arith, All, Contains, Ok, All-append, All-cons, All-contains, All-head, All-nil, All-tail, All-weaker}
use Rattle.mp_messages.specs.declared.history.Entry.{Entry}
use Rattle.mp_world.specs.AgentWords.{AgentTask, Event, Expand, Take, Start, part, AgentRecord, new_record, local, may, Outgoing, Step, in_bytes}
use Rattle.mp_world.specs.SearchWords.{Numbers}
use Rattle.mp_world.specs.Events.{agent_of, local_of, sent_in}
use Rattle.mp_world.specs.Logs.{HasDone, IsLog, entries_of, entry_of, put_by}
use Rattle.mp_world.specs.Logs.HasDone.{nothing, onward}
use Rattle.mp_world.specs.Team.{Team}
use Rattle.mp_world.specs.World.{AreNumbered}
use Rattle.mp_logs.proofs.Made.{number_of}
use Rattle.mp_logs.proofs.Onward.{done_task}
use Rattle.mp_team_states.proofs.Joint.{IsReceiver}
use Rattle.mp_team_verdicts.specs.Others.{IsAnother, IsOfAgent}
use Rattle.mp_team_verdicts.proofs.Bytes.{spelled_bytes, spelled_some}
use Rattle.mp_team_verdicts.proofs.Expansions.{GoOut, GoesOut}
use Rattle.mp_team_verdicts.proofs.Others.{start_of_others}
use Rattle.mp_team_verdicts.proofs.StepMessages.{IsSound, local_goes, taken_from_other}

another_is : (t : AgentTask) (agent : ℕ) → IsReceiver t agent → IsAnother t agent
another_is t agent is = record { from_1 = is.from_1; in_team = is.in_team; another = is.another }

module _ (value : Numbers → Numbers → Option ℕ) where
  -- ---- the entries of one step

  own_of_agent : (r : AgentRecord) (event : Event) (bytes : List ℕ) → agent_of event ≡ r.task.me
      → may r (local_of event) ≡ true → IsOfAgent r.task (entry_of event bytes)
  own_of_agent r (Expand agent) bytes mine allowed = mine
  own_of_agent r (Take by from) bytes mine allowed = (mine, another_is r.task from (taken_from_other r from allowed))
  own_of_agent r Start bytes mine allowed = mine

  puts_of_agent : (t : AgentTask) (agent : ℕ) (out : List Outgoing) → agent ≡ t.me → GoOut t out
      → All (IsOfAgent t) (map (put_by agent) (map in_bytes out))
  puts_of_agent t agent [] mine go = All-nil (IsOfAgent t)
  puts_of_agent t agent (x ∷ xs) mine go =
      All-cons (IsOfAgent t) (put_by agent (in_bytes x)) (map (put_by agent) (map in_bytes xs))
      (mine, another_is t x.to (All-head (GoesOut t) x xs go), spelled_some x.message, spelled_bytes x.message)
      (puts_of_agent t agent xs mine (All-tail (GoesOut t) x xs go))

  -- ---- one step after another

  done_sound : (r last : AgentRecord) (log : List Entry) → HasDone value r log last → IsSound r → IsSound last
  done_sound _ _ _ (nothing r) sound = sound
  done_sound _ last _ (onward r _ event bytes s later mine allowed did rest) sound =
      done_sound s.after last later rest (local_goes value r s (local_of event) bytes sound allowed did).after

  done_of_agent : (r last : AgentRecord) (log : List Entry) → HasDone value r log last → IsSound r
      → All (IsOfAgent r.task) log
  done_of_agent _ _ _ (nothing r) sound = All-nil (IsOfAgent r.task)
  done_of_agent _ last _ (onward r _ event bytes s later mine allowed did rest) sound =
      let stepped = local_goes value r s (local_of event) bytes sound allowed did in
      All-append (IsOfAgent r.task) (entries_of event bytes (sent_in s)) later
      (All-cons (IsOfAgent r.task) (entry_of event bytes) (map (put_by (agent_of event)) (sent_in s))
      (own_of_agent r event bytes mine allowed)
      (puts_of_agent r.task (agent_of event) s.out mine stepped.out))
      (subst (λ t. All (IsOfAgent t) later) stepped.task
      (done_of_agent s.after last later rest stepped.after))

  module _ (limit : ℕ) (t : AgentTask) (some : 1 ≤ t.agents) where
    start_sound : IsSound (new_record t value limit)
    start_sound = record { some = some; notes = refl; heard = start_of_others t value }

    pub entries_of_agent : (log : List Entry) (last : AgentRecord) → HasDone value (new_record t value limit) log last
        → All (IsOfAgent t) log
    entries_of_agent log last done = done_of_agent (new_record t value limit) last log done start_sound

    pub step_goes : (log : List Entry) (r : AgentRecord) (event : Event) (bytes : List ℕ) (s : Step)
        → HasDone value (new_record t value limit) log r → may r (local_of event) ≡ true
        → local value r (local_of event) bytes ≡ Ok s → All (λ x. IsAnother t x.to) s.out
    step_goes log r event bytes s done allowed did =
        let same : r.task ≡ t = done_task value (new_record t value limit) r log done in
        let stepped = local_goes value r s (local_of event) bytes (done_sound (new_record t value limit) r log done start_sound) allowed did in
        subst (λ (u : AgentTask). All (λ (x : Outgoing). IsAnother u x.to) s.out) same
        (All-weaker (GoesOut r.task) (λ (x : Outgoing). IsAnother r.task x.to) (λ x is. another_is r.task x.to is)
        s.out stepped.out)

pub parts_of_agents : (team : Team) (log : List Entry) (t : AgentTask) → AreNumbered team.tasks → IsLog team log → Contains team.tasks t
    → All (IsOfAgent t) (part log t.me)
parts_of_agents team log t numbered is here =
    let number = number_of team numbered t here in
    let low = number.0 in
    let high = number.1 in
    let many : t.agents ≡ length team.tasks = All-contains (λ u. u.agents ≡ length team.tasks) team.tasks t numbered.team here in
    let p = is.parts t here in
    entries_of_agent (team.value t) team.limit t (omega arith) (part log t.me) p.last p.done
