-- What is known where nothing was decided about a plan: an agent has expanded as many entries as it may, by the log; and an
-- agent that is alone and searches without a heuristic may expand fewer than there are sets of its facts.
use Rattle.std.specs.Prelude.{◌≡◌, ◌≤◌, ◌+◌, ◌^◌, ◌==◌, ℕ, Bool, false, List, [], ◌∷◌, filter, length, Option, Some}
use Rattle.mp_forms.specs.declared.factor.Factor.{Factor}
use Rattle.mp_files.specs.Team.{FoundTwo}
use Rattle.mp_messages.specs.declared.history.Entry.{Entry}
use Rattle.mp_messages.specs.declared.history.Entry.TheVariants.{Act, Put, Took}
use Rattle.mp_messages.specs.declared.history.Kind.TheVariants.{Expand, Start}
use Rattle.mp_outside.specs.Source.{Files}
use Rattle.mp_split.specs.Team.{AreTasksOf}
use Rattle.mp_split.specs.declared.team.Tasks.{Tasks}
use Rattle.mp_task.specs.AgentTask.{AgentTask}
use Rattle.mp_words.specs.Requests.{Searching}
use Rattle.mp_words.specs.declared.asked.Choice.TheVariants.{Blind}
use Rattle.mp_top.specs.Asked.{Texts, names_of_texts}
use Rattle.mp_top.specs.Team.{IsTeam, found_for}

-- an agent expanded an entry
abbrev pub is_expansion : ℕ → Entry → Bool
is_expansion agent (Act by Expand) = by == agent
is_expansion agent (Act by Start) = false
is_expansion agent (Put from to bytes) = false
is_expansion agent (Took by from bytes) = false

-- how many entries an agent expanded, by a log
abbrev pub expansions : ℕ → List Entry → ℕ
expansions agent log = length (filter (is_expansion agent) log)

-- an agent of so many expanded as many entries as it may, no more and no fewer
pub record HasSpent (agents limit : ℕ) (log : List Entry) : Type 0 where
  pub agent : ℕ
  pub from_1 : 1 ≤ agent
  pub in_team : agent ≤ agents
  pub spent : expansions agent log ≡ limit

-- Texts that are made, or held by a source that tells, lead to a team of one agent, which may expand as many entries as there
-- are sets of its facts.
pub record MayExpandAll (held : Option Files) (texts : Texts) (limit : ℕ) : Type 0 where
  pub found : List FoundTwo
  pub is_found : found_for held texts ≡ Some found
  pub team : List Factor
  pub is_team : IsTeam held texts team
  pub tasks : Tasks
  pub are_tasks : AreTasksOf team tasks
  pub task : AgentTask
  pub alone : tasks.tasks ≡ task ∷ []
  pub room : 2 ^ (task.publics + task.privates) ≤ limit

-- the agents of these texts, which search so, decided nothing
pub record IsSpent (held : Option Files) (texts : Texts) (s : Searching) (log : List Entry) : Type 0 where
  pub agent : HasSpent (length (names_of_texts texts)) s.limit log
  pub few : s.heuristic ≡ Blind → MayExpandAll held texts s.limit → ⊥
