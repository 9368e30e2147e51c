-- A search as the plain record that contracts see.
use Rattle.std.specs.Prelude.{◌≡◌, ◌≤◌, ℕ, Bool, false}
use Rattle.mp_task.specs.AgentTask.{AgentTask}
use Rattle.mp_task.specs.Limits.{most_expansions}
use Rattle.mp_search.specs.Applying.{HasRoom}
use Rattle.mp_search.specs.declared.context.Context.{Context}
use Rattle.mp_search.specs.declared.expansion.Scratch.{Scratch}
use Rattle.mp_search.specs.declared.reached.Reached.{Reached}
use Rattle.mp_search.specs.Search.{AgentSearch}
use Rattle.mp_search.specs.StateKeys.{HasSizes, KeptStates}
use Rattle.mp_search.specs.Steps.{AreStatesOf, IsContext}

abbrev pub agent_search : AgentTask → ℕ → KeptStates → ℕ → Bool → AgentSearch
agent_search t limit k expansions failed = record {
  task = t;
  limit = limit;
  done = record { kept = k.kept; expansions = expansions };
  failed = failed;
}

pub record IsSearch
    (IsFor : AgentTask → Type 0)
    (c : Context)
    (limit : ℕ)
    (k : KeptStates)
    (scratch : Scratch)
    (came : Reached)
    (expansions : ℕ)
    (failed : Bool)
    : Type 0 where
  pub at_most : limit ≤ most_expansions
  pub within : expansions ≤ limit
  pub heuristic : IsFor c.task
  pub context : IsContext c
  pub room : failed ≡ false → HasRoom c.task scratch
  pub sizes : HasSizes c.task.publics c.task.privates came
  pub states : failed ≡ false → AreStatesOf c.task k
