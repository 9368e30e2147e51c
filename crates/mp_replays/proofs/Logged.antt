-- Each entry of a log of a team is one of the team: its agents are, the two of a message differ, and what is put are bytes.
use Rattle.std.proofs.Common.{◌≡◌, ℕ, List, length, sym, ◌∙◌, arith}
use Rattle.std.specs.Prelude.{◌==◌, All, Contains}
use Rattle.std.proofs.lemmas.Bool.{eq-eqb}
use Rattle.std.proofs.lemmas.List.Elements.{All-contains, All-contains_itself, All-weaker}
use Rattle.mp_store.proofs.RankLemmas.{member_kept}
use Rattle.mp_task.specs.AgentTask.{AgentTask}
use Rattle.mp_messages.specs.declared.history.Entry.{Entry}
use Rattle.mp_messages.specs.declared.history.Entry.TheVariants.{Act, Put, Took}
use Rattle.mp_messages.specs.History.{agent_of, part}
use Rattle.mp_world.specs.Logs.{IsLog}
use Rattle.mp_world.specs.Team.{team_with}
use Rattle.mp_world.specs.Values.{Values}
use Rattle.mp_world.specs.World.{AreNumbered}
use Rattle.mp_logs.proofs.Made.{number_of}
use Rattle.mp_team_verdicts.specs.Others.{IsAnother, IsOfAgent}
use Rattle.mp_team_verdicts.proofs.AgentEntries.{parts_of_agents}
use Rattle.mp_text.specs.Again.{IsAgent as IsOneOf, IsOfTeam}

module _ (agents : ℕ) (t : AgentTask) (number : IsOneOf agents t.me) (many : t.agents ≡ agents) where
  own : (agent : ℕ) → agent ≡ t.me → IsOneOf agents agent
  own agent mine =
      let low = number.0 in
      let high = number.1 in
      (omega arith, omega arith)

  another : (agent : ℕ) → IsAnother t agent → IsOneOf agents agent
  another agent is =
      let high = is.in_team in
      (is.from_1, omega arith)

  entry_of_team : (e : Entry) → IsOfAgent t e → IsOfTeam agents e
  entry_of_team (Act agent kind) mine = own agent mine
  entry_of_team (Put from to bytes) (mine, other, some, are_bytes) =
      (own from mine, another to other, λ same. other.another (sym same ∙ mine), some, are_bytes)
  entry_of_team (Took by from bytes) (mine, other) =
      (own by mine, another from other, λ same. other.another (sym same ∙ mine))

module _ (value : Values) (limit : ℕ) (tasks : List AgentTask)
    (numbered : AreNumbered tasks) (log : List Entry) (is : IsLog (team_with value limit tasks) log) where
  pub logged_of_team : All (IsOfTeam (length tasks)) log
  logged_of_team =
      All-weaker (Contains log) (IsOfTeam (length tasks)) (λ e here. one e here (is.of_team e here)) log
      (All-contains_itself log)
    where
      one : (e : Entry) → Contains log e → (t : AgentTask) × Contains tasks t × (agent_of e ≡ t.me)
          → IsOfTeam (length tasks) e
      one e here (t, in_team, mine) =
          entry_of_team (length tasks) t (number_of (team_with value limit tasks) numbered t in_team)
          (All-contains (λ u. u.agents ≡ length tasks) tasks t numbered.team in_team) e
          (All-contains (IsOfAgent t) (part log t.me) e
          (parts_of_agents (team_with value limit tasks) log t numbered is in_team)
          (member_kept (λ x. agent_of x == t.me) log e here (eq-eqb (agent_of e) t.me mine)))
