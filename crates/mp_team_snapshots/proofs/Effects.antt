-- What an agent does with a message that it takes, as far as snapshots go.
use Rattle.mp_world.proofs.Basics.{◌≡◌, ◌≢◌, ℕ, ◌+◌, ◌<◌, ◌^◌, Bool, true, List, [], ◌∷◌, ◌++◌, Option, Some, None, refl, sym, ap, subst, ◌∙◌, append-nil, ◌⊎◌, inl, inr, All, Ok}
use Rattle.mp_messages.specs.declared.message.Message.TheVariants.{State as AState}
use Rattle.mp_machine.proofs.NotesLemmas.{report_fair}
use Rattle.mp_world.specs.AgentWords.{Findings, Message, Marker, Report, Pick, Trace, Length, Done, message_of, AreFindings, after_report, after_state, begun, is_whole, own, with_marker, AgentRecord, Step, after_sending, others, to_one, to_others, findings}
use Rattle.mp_world.specs.AgentWords.{judged_or_reported, with_notes, ending_of, took, with_state, solved}
use Rattle.mp_world.specs.SearchWords.{Numbers}
use Rattle.mp_world.proofs.LocalCases.{Begins, GoesOn, MessageCases, both_such, each_such, either_holds, from_goal_holds}
use Rattle.mp_world.proofs.LocalCases.{message_holds, none_such, walked_holds}
use Rattle.mp_team_states.proofs.WorldsGrow.{taking}
use Rattle.mp_team_snapshots.specs.Messages.{marker_of}
use Rattle.mp_team_snapshots.specs.Snapshots.{one_if_due}
use Rattle.mp_team_snapshots.specs.Team.{HasRoom}
use Rattle.mp_team_snapshots.proofs.Costs.{AreSmall, received_small}
use Rattle.mp_team_snapshots.proofs.Quiet.{IsQuiet, judged_quiet, quiet_acts, without_quiet}
use Rattle.mp_team_snapshots.proofs.Sendings.{IsSilent, markers_to, markers_to-append, none_to, nothing_silent, reports_to, reports_to-append}
-- a message that is no bad one
pub use Rattle.mp_world.proofs.LocalCases.{bad_or_good, good, good_step, not_false, same_step}

-- ---- a marker

-- after a marker an agent sends no more markers, and agents but agent 1 report once their findings are whole
pub record IsReporting (r : AgentRecord) (s : Step) : Type 0 where
  pub search : s.after.search ≡ r.search
  pub room : AreFindings (own r.snapshot) → All (λ x. HasRoom x.message) s.out
  pub snapshot : s.after.snapshot ≡ r.snapshot
  pub markers : (to : ℕ) → markers_to to s.out ≡ []
  pub reports : r.task.me ≢ 1 → reports_to 1 s.out ≡ one_if_due (is_whole r.snapshot) (own r.snapshot)

either_reporting : (r : AgentRecord) → IsReporting r (judged_or_reported r)
either_reporting r =
    let due = λ (b : Bool). one_if_due b (own r.snapshot) in
    either_holds r (IsReporting r)
    (λ first.
    let quiet = judged_quiet r in
    record {
      search = quiet.search;
      room = λ fits. quiet.silent.room;
      snapshot = quiet.snapshot;
      markers = quiet.silent.markers;
      reports = λ other. absurd (other first);
    })
    (λ other whole. record {
      search = refl;
      room = λ fits. each_such HasRoom (Report (own r.snapshot)) fits (1 ∷ []);
      snapshot = refl;
      markers = none_to marker_of (to_one 1 (Report (own r.snapshot))) (each_such (λ m. marker_of m ≡ None) (Report (own r.snapshot)) refl (1 ∷ []));
      reports = λ other. sym (ap due whole);
    })
    (λ other waits. record {
      search = refl;
      room = λ fits. none_such HasRoom;
      snapshot = refl;
      markers = λ to. refl;
      reports = λ other. sym (ap due waits);
    })

-- a marker of a snapshot that is under way at the agent
pub record IsMarkedOn (r : AgentRecord) (from number : ℕ) (s : Step) : Type 0 where
  pub same : r.snapshot.number ≡ number
  pub search : s.after.search ≡ r.search
  pub room : AreFindings (own s.after.snapshot) → All (λ x. HasRoom x.message) s.out
  pub snapshot : s.after.snapshot ≡ with_marker r.snapshot from
  pub markers : (to : ℕ) → markers_to to s.out ≡ []
  pub reports : r.task.me ≢ 1 → reports_to 1 s.out ≡ one_if_due (is_whole s.after.snapshot) (own s.after.snapshot)

-- a marker by which a snapshot begins
pub record IsBegun (r : AgentRecord) (from number : ℕ) (s : Step) : Type 0 where
  pub other : r.snapshot.me ≢ 1
  pub next : number ≡ r.snapshot.number + 1
  pub search : s.after.search ≡ r.search
  pub room : number < 2 ^ 60 → AreFindings (own s.after.snapshot) → All (λ x. HasRoom x.message) s.out
  pub snapshot : s.after.snapshot ≡ with_marker (begun r.snapshot number (findings r)) from
  pub markers : (to : ℕ) → markers_to to s.out ≡ markers_to to (to_others r.task (Marker number))
  pub reports : r.task.me ≢ 1
      → reports_to 1 s.out ≡ reports_to 1 (to_others r.task (Marker number)) ++ one_if_due (is_whole s.after.snapshot) (own s.after.snapshot)

marked_on : (r : AgentRecord) (from number : ℕ) → GoesOn r from number
    → IsMarkedOn r from number (judged_or_reported (record r { snapshot = with_marker r.snapshot from }))
marked_on r from number on =
    let reporting = either_reporting (record r { snapshot = with_marker r.snapshot from }) in
    record {
      same = on.same;
      search = reporting.search;
      room = λ fits. reporting.room (subst (λ t. AreFindings (own t)) reporting.snapshot fits);
      snapshot = reporting.snapshot;
      markers = reporting.markers;
      reports = λ other. reporting.reports other ∙ sym (ap (λ t. one_if_due (is_whole t) (own t)) reporting.snapshot);
    }

marked_first : (r : AgentRecord) (from number : ℕ) → Begins r number
    → IsBegun r from number
    (after_sending (to_others r.task (Marker number)) (judged_or_reported (with_notes (with_marker (begun r.snapshot number (findings r)) from) r)))
marked_first r from number begins =
    let after = with_notes (with_marker (begun r.snapshot number (findings r)) from) r in
    let reporting = either_reporting after in
    let first = to_others r.task (Marker number) in
    let more = (judged_or_reported after).out in
    record {
      other = begins.other;
      next = begins.next;
      search = reporting.search;
      room = λ small fits.
          both_such HasRoom first more (each_such HasRoom (Marker number) small (others r.task.me r.task.agents))
          (reporting.room (subst (λ t. AreFindings (own t)) reporting.snapshot fits));
      snapshot = reporting.snapshot;
      markers = λ to. markers_to-append to first more ∙ ap (λ ms. markers_to to first ++ ms) (reporting.markers to) ∙ append-nil (markers_to to first);
      reports = λ off.
          reports_to-append 1 first more
          ∙ ap (λ ms. reports_to 1 first ++ ms) (reporting.reports off ∙ sym (ap (λ t. one_if_due (is_whole t) (own t)) reporting.snapshot));
    }

-- ---- any message

pub record IsReported (r : AgentRecord) (from : ℕ) (found : Findings) (s : Step) : Type 0 where
  pub first : r.snapshot.me ≡ 1
  pub search : s.after.search ≡ r.search
  pub snapshot : s.after.snapshot ≡ after_report r.snapshot from found
  pub silent : IsSilent s.out

pub record IsCounted (r : AgentRecord) (from f : ℕ) (s : Step) : Type 0 where
  pub small : AreSmall r.search.kept → AreSmall s.after.search.kept
  pub snapshot : s.after.snapshot ≡ after_state r.snapshot from f
  pub silent : IsSilent s.out

abbrev pub Effect : AgentRecord → ℕ → Message → Step → Type 0
Effect r from (AState m) s = IsCounted r from (m.g + m.h) s
Effect r from (Marker number) s = IsMarkedOn r from number s ⊎ IsBegun r from number s
Effect r from (Report found) s = IsReported r from found s
Effect r from (Pick number) s = IsQuiet r s
Effect r from (Trace sent back) s = IsQuiet r s
Effect r from (Length plan) s = IsQuiet r s
Effect r from (Done kind) s = IsQuiet r s

-- a message that an agent took, and what it did
pub record IsTaken (r : AgentRecord) (from : ℕ) (bytes : List ℕ) (s : Step) : Type 0 where
  pub message : Message
  pub read : message_of r.task.agents r.task.publics bytes ≡ Some message
  pub effect : Effect r from message s

effects : (value : Numbers → Numbers → Option ℕ) (r : AgentRecord) (from : ℕ) → MessageCases value r from (Effect r from)
unfolding with_state
effects value r from = record {
  state = λ m given right. record { small = received_small r.task value from m r.search.kept; snapshot = refl; silent = nothing_silent };
  on = λ number on. inl (marked_on r from number on);
  begins = λ number begins. inr (marked_first r from number begins);
  report = λ found good.
      let quiet = judged_quiet (record r { snapshot = after_report r.snapshot from found }) in
      record {
        first = (report_fair r.snapshot from found good).0;
        search = quiet.search;
        snapshot = quiet.snapshot;
        silent = quiet.silent;
      };
  pick = λ number good.
      let picked : AgentRecord = record r { picked = true } in
      let quiet = from_goal_holds picked (IsQuiet picked) (quiet_acts picked) in
      record { search = quiet.search; snapshot = quiet.snapshot; silent = quiet.silent };
  trace = λ sent back entry there good. walked_holds r (IsQuiet r) (quiet_acts r) entry back;
  length = λ plan good. without_quiet r (solved r plan) refl refl;
  done = λ kind first. without_quiet r (record r { ending = ending_of kind }) refl refl;
}

pub took_effect : (value : Numbers → Numbers → Option ℕ) (r : AgentRecord) (from : ℕ) (bytes : List ℕ) (s : Step)
    → took value r from bytes ≡ Ok s → IsTaken r from bytes s
took_effect value r from bytes s is =
    let t = taking value r from bytes s is in
    record { message = t.message; read = t.reads; effect = message_holds value r from (Effect r from) (effects value r from) t.message s t.took }
