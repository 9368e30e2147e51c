-- Steps of an agent that leave its snapshot as it is and send no marker and no report: walks back, verdicts, expansions.
use Rattle.mp_world.proofs.Basics.{◌≡◌, ℕ, List, [], ◌∷◌, None, refl, flat_map}
use Rattle.mp_world.specs.AgentWords.{Message, Pick, Trace, Length, Done, AgentRecord, outgoing_of, with_search, Step, others, to_each, without_messages, judged, ending_of, solved}
use Rattle.mp_world.specs.SearchWords.{Sending, SearchRecord}
use Rattle.mp_world.proofs.LocalCases.{ActingCases, judged_holds, on_trail, states_such}
use Rattle.mp_team_snapshots.specs.Messages.{marker_of, report_of}
use Rattle.mp_team_snapshots.specs.Team.{HasRoom}
use Rattle.mp_team_snapshots.proofs.Sendings.{IsPlain, IsSilent, each_silent, nothing_silent, silent_of}

-- the search and the snapshot are as they were, and no marker and no report goes out
pub record IsQuiet (r : AgentRecord) (s : Step) : Type 0 where
  pub search : s.after.search ≡ r.search
  pub snapshot : s.after.snapshot ≡ r.snapshot
  pub silent : IsSilent s.out

-- the same, but for the search
pub record IsSearched (r : AgentRecord) (s : Step) : Type 0 where
  pub snapshot : s.after.snapshot ≡ r.snapshot
  pub silent : IsSilent s.out

pub expansion_quiet : (r : AgentRecord) (made : List Sending × SearchRecord) → IsSearched r (with_search r made)
expansion_quiet r made = record {
  snapshot = refl;
  silent =
      silent_of (flat_map outgoing_of made.0)
      (states_such IsPlain (λ m. record { marker = refl; report = refl; room = tt }) made.0);
}

pub without_quiet : (r s : AgentRecord) → s.search ≡ r.search → s.snapshot ≡ r.snapshot → IsQuiet r (without_messages s)
without_quiet r s search same = record { search = search; snapshot = same; silent = nothing_silent }

-- a message of the end goes to each of some agents
saying : (r s : AgentRecord) → s.search ≡ r.search → s.snapshot ≡ r.snapshot → (agents : List ℕ) (m : Message)
    → marker_of m ≡ None → report_of m ≡ None → HasRoom m → IsQuiet r (record { out = to_each agents m; after = s })
saying r s search same agents m marker report room = record {
  search = search;
  snapshot = same;
  silent = each_silent m (record { marker = marker; report = report; room = room }) agents;
}

pub quiet_acts : (r : AgentRecord) → ActingCases r (IsQuiet r)
quiet_acts r = record {
  silent = without_quiet r r refl refl;
  root = λ entry back length is.
      saying r (solved (on_trail r entry back) length) refl refl (others r.task.me r.task.agents) (Length length) refl refl tt;
  hop = λ entry back agent sent more is.
      saying r (on_trail r entry back) refl refl (agent ∷ []) (Trace sent more) refl refl tt;
  pick = λ agent cost given other. saying r r refl refl (agent ∷ []) (Pick r.snapshot.number) refl refl tt;
  ended = λ v kind given.
      saying r (record r { ending = ending_of kind }) refl refl (others r.task.me r.task.agents) (Done kind) refl refl tt;
}

pub judged_quiet : (r : AgentRecord) → IsQuiet r (judged r)
judged_quiet r = judged_holds r (IsQuiet r) (quiet_acts r)
