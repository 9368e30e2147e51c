-- What a finished run shows at its last cut: the bounds of the states that the agents had found there.
use Rattle.std.specs.Prelude.{ℕ, ◌-◌, Bool, not, ◌&&◌, ◌||◌, nat_lt, nat_le, List, map, filter, flat_map, take}
use Rattle.std.specs.List.{list_all}
use Rattle.mp_store.specs.declared.entry.Entry.{Entry}
use Rattle.mp_search.specs.AgentState.{AgentState, same_state}
use Rattle.mp_machine.specs.AgentRecord.{AgentRecord}
use Rattle.mp_reach.specs.LeadsOn.{Known}
use Rattle.mp_world.specs.Joint.{joint}
use Rattle.mp_world.specs.World.{World}
use Rattle.mp_audit.specs.declared.certificate.Bound.{Bound}
use Rattle.mp_audit.specs.Audited.{known_of}

-- the entries that an agent had when it noted what it found for its last snapshot
abbrev pub noted_entries : AgentRecord → List (Entry AgentState)
noted_entries r = take r.noted r.search.kept.entries

-- whether no entry of the same state is cheaper
abbrev pub is_cheapest : List (Entry AgentState) → Entry AgentState → Bool
is_cheapest entries e = list_all (λ x. not (same_state x.key e.key) || nat_le e.g x.g) entries

-- the state of an entry in the search of its agent, and what is to be paid from there on at least where each plan costs so much
abbrev pub worth : World → ℕ → ℕ → Entry AgentState → Known × ℕ
worth w cost agent e = (record { agent = agent; state = joint w agent e.key }, cost - e.g)

-- those that an agent had noted: of each state the cheapest entry, where it costs less than a plan
abbrev pub noted_bounds : World → ℕ → AgentRecord → List (Known × ℕ)
noted_bounds w cost r =
    map (worth w cost r.task.me)
    (filter (λ e. nat_lt e.g cost && is_cheapest (noted_entries r) e) (noted_entries r))

-- those of all agents, agent by agent and within an agent in the order of its entries
abbrev pub last_bounds : World → ℕ → List (Known × ℕ)
last_bounds w cost = flat_map (noted_bounds w cost) w.agents

-- an entry of a certificate, as the state and its bound
abbrev pub said_by : Bound → Known × ℕ
said_by b = (known_of b, b.bound)
