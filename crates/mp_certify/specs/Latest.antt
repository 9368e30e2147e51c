-- The bounds of a last cut, by the latest entries of the states that agents had noted.
use Rattle.std.specs.Prelude.{ℕ, Bool, not, ◌&&◌, nat_lt, List, [], ◌∷◌, map, flat_map, if◌then◌else◌}
use Rattle.std.specs.List.{list_any}
use Rattle.mp_store.specs.declared.entry.Entry.{Entry}
use Rattle.mp_search.specs.AgentState.{AgentState, same_state}
use Rattle.mp_machine.specs.AgentRecord.{AgentRecord}
use Rattle.mp_reach.specs.LeadsOn.{Known}
use Rattle.mp_world.specs.World.{World}
use Rattle.mp_audit.specs.LastCut.{noted_entries, worth}

-- whether some entry has the same state
abbrev pub has_state : List (Entry AgentState) → Entry AgentState → Bool
has_state entries e = list_any (λ x. same_state x.key e.key) entries

-- the entries that cost less than a plan, and behind which no other one has the same state
abbrev pub latest : ℕ → List (Entry AgentState) → List (Entry AgentState)
latest cost [] = []
latest cost (e ∷ later) = if nat_lt e.g cost && not (has_state later e) then e ∷ latest cost later else latest cost later

-- the bounds of these entries of what an agent had noted
abbrev pub latest_bounds_of : World → ℕ → AgentRecord → List (Known × ℕ)
latest_bounds_of w cost r = map (worth w cost r.task.me) (latest cost (noted_entries r))

-- those of all agents, agent by agent and within an agent in the order of its entries
abbrev pub latest_bounds : World → ℕ → List (Known × ℕ)
latest_bounds w cost = flat_map (latest_bounds_of w cost) w.agents
