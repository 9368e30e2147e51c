-- How the notes of an agent change: the rules on markers, on states under way and on reports.
use Rattle.std.specs.Prelude.{◌≡◌, ◌≢◌, ◌≤◌, ℕ, ◌+◌, ◌-◌, ◌==◌, ◌&&◌, ◌||◌, not, nat_lt, Bool, true, false, List, take, replicate, slice_index_or, slice_set, Option, Some, None, if◌then◌else◌}
use Rattle.std.specs.List.{list_all}
use Rattle.mp_messages.specs.declared.message.Findings.{Findings}
use Rattle.mp_snapshot.specs.Minima.{lesser}
use Rattle.mp_snapshot.specs.Notes.{Notes}
use Rattle.mp_snapshot.specs.VerdictRule.{verdict_of}
use Rattle.mp_snapshot.specs.declared.verdict.Verdict.{Verdict}

-- what is found of an agent that has nothing
abbrev pub nothing : Findings
nothing = record { number = 0; least = None; under_way = None; goal = None; spent = false }

-- an agent before the first snapshot
abbrev pub before_all : ℕ → ℕ → Notes
before_all me agents =
    record { me = me; agents = agents; number = 0; marked = replicate 16 false; reported = replicate 16 false; found = replicate 16 nothing }

-- whether an agent is listed
abbrev pub has : List Bool → ℕ → Bool
has flags agent = slice_index_or flags (agent - 1) false

-- whether all agents of the team are
abbrev pub all_of : Notes → List Bool → Bool
all_of s flags = list_all (λ b. b) (take s.agents flags)

-- no marker is awaited, so that the agent's own findings are whole
abbrev pub is_whole : Notes → Bool
is_whole s = all_of s s.marked

-- the findings of all agents are here and whole
abbrev pub is_complete : Notes → Bool
is_complete s = is_whole s && all_of s s.reported

-- A snapshot is under way: at agent 1 until its verdict, and at another agent until no marker is awaited.
abbrev pub is_under_way : Notes → Bool
is_under_way s = nat_lt 0 s.number && not (if s.me == 1 then is_complete s else is_whole s)

-- an agent of the team other than the agent itself
pub record IsAnother (s : Notes) (agent : ℕ) : Type 0 where
  pub from_1 : 1 ≤ agent
  pub in_team : agent ≤ s.agents
  pub another : agent ≢ s.me

-- the notes are of the same agent of the same team
pub record IsSameTeam (s t : Notes) : Type 0 where
  pub me : t.me ≡ s.me
  pub agents : t.agents ≡ s.agents

-- the agent's own findings
abbrev pub own : Notes → Findings
own s = slice_index_or s.found (s.me - 1) nothing

-- findings as they are noted when the snapshot of a number begins: no state under way is counted yet
abbrev pub noted : ℕ → Findings → Findings
noted number mine = record mine { number = number; under_way = None }

-- the snapshot of a number begins: the agent notes what it found
abbrev pub begun : Notes → ℕ → Findings → Notes
begun s number mine =
    record s {
      number = number;
      marked = slice_set (replicate 16 false) (s.me - 1) true;
      reported = slice_set (replicate 16 false) (s.me - 1) true;
      found = slice_set (replicate 16 nothing) (s.me - 1) (noted number mine);
    }

-- the marker of an agent has come
abbrev pub with_marker : Notes → ℕ → Notes
with_marker s from = record s { marked = slice_set s.marked (from - 1) true }

-- A marker is strange: one of this agent has come for the snapshot under way; another snapshot is under way; or none
-- is, and the agent is agent 1, which begins snapshots by itself, or the number is not the next one.
abbrev pub is_strange_marker : Notes → ℕ → ℕ → Bool
is_strange_marker s from number =
    if is_under_way s then not (number == s.number) || has s.marked from else (s.me == 1) || not (number == s.number + 1)

-- The notes after a marker that is not strange: where no snapshot is under way it begins with it.
abbrev pub after_marker : Notes → ℕ → ℕ → Findings → Notes
after_marker s from number mine = with_marker (if is_under_way s then s else begun s number mine) from

-- A state from an agent counts where the marker of that agent is awaited.
abbrev pub is_counted : Notes → ℕ → Bool
is_counted s from = nat_lt 0 s.number && not (has s.marked from)

abbrev pub with_state : Notes → ℕ → Notes
with_state s f =
    record s { found = slice_set s.found (s.me - 1) (record (own s) { under_way = lesser (own s).under_way (Some f) }) }

abbrev pub after_state : Notes → ℕ → ℕ → Notes
after_state s from f = if is_counted s from then with_state s f else s

-- A report is strange: agent 1 alone takes reports, one of each agent, for the snapshot that is under way.
abbrev pub is_strange_report : Notes → ℕ → Findings → Bool
is_strange_report s from findings =
    not (s.me == 1) || not (is_under_way s && (findings.number == s.number)) || has s.reported from

abbrev pub after_report : Notes → ℕ → Findings → Notes
after_report s from findings =
    record s {
      reported = slice_set s.reported (from - 1) true;
      found = slice_set s.found (from - 1) findings;
    }

-- the verdict, where the findings of all agents are here
abbrev pub verdict : Notes → Option Verdict
verdict s = if nat_lt 0 s.number && is_complete s then Some (verdict_of (take s.agents s.found)) else None
