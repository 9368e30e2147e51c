-- What one agent of a team has done so far, as contracts see it: its search (MAD-A*, Nissim and
-- Brafman 2014), its part in snapshots (Chandy and Lamport 1985), and its part in walking the
-- plan back.
use Rattle.std.specs.Prelude.{ℕ, ◌==◌, Bool, true, false, List, [], Option, None, if◌then◌else◌}
use Rattle.mp_sets.specs.Numbers.{Numbers}
use Rattle.mp_task.specs.AgentTask.{AgentTask}
use Rattle.mp_search.specs.Offering.{start_record}
use Rattle.mp_search.specs.Search.{SearchRecord}
use Rattle.mp_snapshot.specs.declared.verdict.Verdict.{Verdict}
use Rattle.mp_snapshot.specs.Notes.{Notes}
use Rattle.mp_snapshot.specs.Rules.{before_all, verdict}
use Rattle.mp_trail.specs.declared.steps.Noted.{Noted}
use Rattle.mp_trail.specs.declared.steps.Timed.{Timed}
use Rattle.mp_machine.specs.declared.event.Ending.{Ending}
use Rattle.mp_machine.specs.declared.event.Ending.TheVariants.{Going, Solved, NoPlan, Spent}

pub record AgentRecord : Type 0 where
  pub task : AgentTask
  -- how many entries it may expand
  pub limit : ℕ
  -- what it kept and sent, and how many entries it expanded
  pub search : SearchRecord
  -- what it keeps of the last snapshot
  pub snapshot : Notes
  -- how many entries it had when that snapshot began here, and 0 before the first
  pub noted : ℕ
  -- the goal entry that it had then, of which it would walk a plan back
  pub goal : Option ℕ
  -- whether a pick has come
  pub picked : Bool
  -- the own actions that it has noted of the plan that is walked back
  pub trail : List Noted
  pub ending : Ending
  -- its actions of the plan with their times, once there is one
  pub share : List Timed

-- An agent at the start. A heuristic's value is a parameter: none where no plan leads on from a
-- state.
abbrev pub new_record : AgentTask → (Numbers → Numbers → Option ℕ) → ℕ → AgentRecord
new_record t value limit = record {
  task = t;
  limit = limit;
  search = start_record t value;
  snapshot = before_all t.me t.agents;
  noted = 0;
  goal = None;
  picked = false;
  trail = [];
  ending = Going;
  share = [];
}

abbrev pub is_going : Ending → Bool
is_going Going = true
is_going (Solved length) = false
is_going NoPlan = false
is_going Spent = false

-- the verdict that was given on the last snapshot, if one was: agent 1 alone gives verdicts
abbrev pub given_verdict : AgentRecord → Option Verdict
given_verdict r = if r.task.me == 1 then verdict r.snapshot else None
