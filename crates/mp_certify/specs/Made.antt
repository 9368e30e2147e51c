-- Bounds that are made of the entries of an agent.
use Rattle.std.specs.Prelude.{◌≡◌, ℕ, ◌-◌, Bool, List, [], ◌∷◌, length, map, reverse, All, if◌then◌else◌}
use Rattle.mp_store.specs.declared.entry.Entry.{Entry}
use Rattle.mp_search.specs.AgentState.{AgentState}
use Rattle.mp_search.specs.declared.states.Shown.{Shown}
use Rattle.mp_machine.specs.Machine.{AgentMachine}
use Rattle.mp_reach.specs.LeadsOn.{Known}
use Rattle.mp_world.specs.Joint.{joint}
use Rattle.mp_schedule.specs.Machines.{tasks_of, world_of}
use Rattle.mp_audit.specs.declared.certificate.Bound.{Bound}
use Rattle.mp_audit.specs.Fits.{publics_of}
use Rattle.mp_audit.specs.LastCut.{said_by, worth}
use Rattle.mp_certify.specs.declared.key.StateKey.{StateKey}
use Rattle.mp_certify.specs.Keys.{AreKeysOf}
use Rattle.mp_certify.specs.Latest.{latest}
use Rattle.mp_certify.specs.Team.{privates_of, IsOfTeam}

-- the state of an entry as a caller sees it
abbrev pub shown_state : Shown → AgentState
shown_state x =
    record { publics = x.publics.members; mine = x.mine.members; tags = x.tags.now }

-- it is a state of an agent of a team: its sets have the sizes that the tasks say, and there is a tag for each agent
pub record IsStateIn (machines : List AgentMachine) (agent : ℕ) (x : Shown) : Type 0 where
  pub publics_size : x.publics.size ≡ publics_of (tasks_of machines)
  pub own_size : x.mine.size ≡ privates_of machines agent
  pub tags_length : length x.tags.now ≡ length machines

-- the joint state, and what is to be paid from there on at least where each plan costs so much
abbrev pub shown_worth : List AgentMachine → ℕ → ℕ → Shown → Known × ℕ
shown_worth machines cost agent x =
    (record { agent = agent; state = joint (world_of machines []) agent (shown_state x) }, cost - x.g)

-- a list with one item more in front, if there is to be one more
abbrev pub with_first : {X : Type 0} → Bool → X → List X → List X
with_first more x xs = if more then x ∷ xs else xs

-- Of the last entries of an agent the bounds of the latest ones of their states are made, the last one first, and the keys of
-- all their states are known.
pub record AreMade
    (machines : List AgentMachine)
    (agent cost : ℕ)
    (entries : List (Entry AgentState))
    (keys : List StateKey)
    (made : List Bound)
    : Type 0 where
  pub known : AreKeysOf (publics_of (tasks_of machines)) (privates_of machines agent) entries keys
  pub said : map said_by (reverse made)
      ≡ map (worth (world_of machines []) cost agent) (latest cost entries)
  pub team : All (IsOfTeam (tasks_of machines)) made
