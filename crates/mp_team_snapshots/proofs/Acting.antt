-- What a step of an agent changes of what it noted of its last snapshot.
use Rattle.mp_world.proofs.Basics.{◌≡◌, ◌≢◌, ℕ, ◌+◌, ◌-◌, ◌≤◌, ◌<◌, Bool, true, false, List, [], ◌++◌, length, Option, Some, None, refl, sym, ap, ◌∙◌, arith, ◌⊎◌, inl, inr, Ok, if◌then◌else◌, get_or-set_same}
use Rattle.mp_snapshot.specs.Rules.{with_state as with_counted}
use Rattle.mp_machine.specs.declared.event.Ending.TheVariants.{Going}
use Rattle.mp_machine.proofs.NotesLemmas.{own_begun, own_reported}
use Rattle.mp_world.specs.AgentWords.{Findings, Message, Marker, message_of, lesser, Notes, after_report, begun, is_counted, noted as noted_findings, nothing, own, with_marker, AgentRecord, Outgoing, Step, to_others, findings, goal_entry, judged, judged_or_reported}
use Rattle.mp_world.specs.AgentWords.{started, with_notes, took, with_state}
use Rattle.mp_world.specs.SearchWords.{Numbers, SearchRecord}
use Rattle.mp_world.proofs.LocalCases.{ActingCases, MessageCases, either_holds, from_goal_holds, judged_holds}
use Rattle.mp_world.proofs.LocalCases.{message_holds, walked_holds}
use Rattle.mp_team_snapshots.specs.Messages.{marker_of}
use Rattle.mp_team_snapshots.specs.Snapshots.{AreNotesOf}
use Rattle.mp_team_snapshots.proofs.Protocol.{IsOf}
use Rattle.mp_team_states.proofs.WorldsGrow.{taking}
use Rattle.mp_team_snapshots.specs.Found.{state_f}
use Rattle.mp_team_snapshots.proofs.Leasts.{lesser_none}

-- ---- walks back and verdicts

-- an agent but for what belongs to a walk back and to the end
abbrev pub still : AgentRecord → AgentRecord
still r = record r { picked = false; trail = []; ending = Going; share = [] }

abbrev IsStill : AgentRecord → Step → Type 0
IsStill r s = still s.after ≡ still r

acts_still : (r : AgentRecord) → ActingCases r (IsStill r)
acts_still r = record {
  silent = refl;
  root = λ entry back length is. refl;
  hop = λ entry back agent sent more is. refl;
  pick = λ agent cost given other. refl;
  ended = λ v kind given. refl;
}

judged_still : (r : AgentRecord) → IsStill r (judged r)
judged_still r = judged_holds r (IsStill r) (acts_still r)

either_still : (r : AgentRecord) → IsStill r (judged_or_reported r)
either_still r =
    either_holds r (IsStill r) (λ first. judged_still r) (λ other whole. refl) (λ other waits. refl)

-- ---- what stays of the last snapshot

-- The last snapshot stays, and what was noted of it, but for the states that are counted.
pub record Keeps (r s : AgentRecord) : Type 0 where
  pub limit : s.limit ≡ r.limit
  pub number : s.snapshot.number ≡ r.snapshot.number
  pub noted : s.noted ≡ r.noted
  pub goal : s.goal ≡ r.goal
  pub least : (own s.snapshot).least ≡ (own r.snapshot).least
  pub cost : (own s.snapshot).goal ≡ (own r.snapshot).goal
  pub spent : (own s.snapshot).spent ≡ (own r.snapshot).spent

-- and so do the markers that have come: a state of this cost and estimate is counted or not
pub record Takes (r : AgentRecord) (counted : Bool) (f : Option ℕ) (s : AgentRecord) : Type 0 where
  pub keeps : Keeps r s
  pub marks : s.snapshot.marked ≡ r.snapshot.marked
  pub under_way : (own s.snapshot).under_way
      ≡ (if counted then lesser (own r.snapshot).under_way f else (own r.snapshot).under_way)

uncounted : (counted : Bool) (a : Option ℕ) → a ≡ (if counted then lesser a None else a)
uncounted true a = sym (lesser_none a)
uncounted false a = refl

-- a marker of a snapshot that is under way at the agent
pub record Marks (r : AgentRecord) (from number : ℕ) (s : Step) : Type 0 where
  pub same : r.snapshot.number ≡ number
  pub snapshot : s.after.snapshot ≡ with_marker r.snapshot from
  pub keeps : Keeps r s.after

-- a snapshot begins: the agent notes what it has, and first of all sends its marker to all others
pub record Begins (r : AgentRecord) (number : ℕ) (notes : Notes) (s : Step) : Type 0 where
  pub next : number ≡ r.snapshot.number + 1
  pub snapshot : s.after.snapshot ≡ notes
  pub after : still s.after ≡ still (with_notes notes r)
  pub more : List Outgoing
  pub out : s.out ≡ to_others r.task (Marker number) ++ more

pub start_begins : (r : AgentRecord)
    → Begins r (r.snapshot.number + 1) (begun r.snapshot (r.snapshot.number + 1) (findings r)) (started r)
start_begins r =
    let new = with_notes (begun r.snapshot (r.snapshot.number + 1) (findings r)) r in
    let after = judged_still new in
    record { next = refl; snapshot = ap (λ t. t.snapshot) after; after = after; more = (judged new).out; out = refl }

abbrev pub BeginsBy : AgentRecord → ℕ → ℕ → Step → Type 0
BeginsBy r from number s = Begins r number (with_marker (begun r.snapshot number (findings r)) from) s

-- A snapshot begins at an agent, and it notes what it has.
pub record Starts (r s : AgentRecord) : Type 0 where
  pub limit : s.limit ≡ r.limit
  pub number : s.snapshot.number ≡ r.snapshot.number + 1
  pub noted : s.noted ≡ length r.search.kept.entries
  pub goal : s.goal ≡ goal_entry r.search.kept
  pub own_findings : own s.snapshot ≡ noted_findings (r.snapshot.number + 1) (findings r)

-- what an agent does with a message
abbrev pub Took : AgentRecord → ℕ → Message → Step → Type 0
Took r from m s =
    ((marker_of m ≡ None) × Takes r (is_counted r.snapshot from) (state_f m) s.after)
    ⊎ ((number : ℕ) × (m ≡ Marker number) × (Marks r from number s ⊎ BeginsBy r from number s))

-- other notes with the same own findings
same_keeps : (r : AgentRecord) (new : Notes) (s : AgentRecord) → new.number ≡ r.snapshot.number → own new ≡ own r.snapshot
    → still s ≡ still (record r { snapshot = new }) → Keeps r s
same_keeps r new s number mine is = record {
  limit = ap (λ t. t.limit) is;
  number = ap (λ t. t.snapshot.number) is ∙ number;
  noted = ap (λ t. t.noted) is;
  goal = ap (λ t. t.goal) is;
  least = ap (λ t. (own t.snapshot).least) is ∙ ap (λ g. g.least) mine;
  cost = ap (λ t. (own t.snapshot).goal) is ∙ ap (λ g. g.goal) mine;
  spent = ap (λ t. (own t.snapshot).spent) is ∙ ap (λ g. g.spent) mine;
}

same_takes : (r : AgentRecord) (from : ℕ) (new : Notes) (s : AgentRecord) → new.number ≡ r.snapshot.number
    → own new ≡ own r.snapshot → new.marked ≡ r.snapshot.marked → still s ≡ still (record r { snapshot = new })
    → Takes r (is_counted r.snapshot from) None s
same_takes r from new s number mine marked is = record {
  keeps = same_keeps r new s number mine is;
  marks = ap (λ t. t.snapshot.marked) is ∙ marked;
  under_way =
      ap (λ t. (own t.snapshot).under_way) is ∙ ap (λ g. g.under_way) mine
      ∙ uncounted (is_counted r.snapshot from) (own r.snapshot).under_way;
}

module _ (agents b : ℕ) (small : agents ≤ 16) (r : AgentRecord) (notes : AreNotesOf agents b r.snapshot)
    (is_b : IsOf agents b) where
  low : 1 ≤ r.snapshot.me
  low = let me = notes.me in let from_1 = is_b.from_1 in omega arith

  high : r.snapshot.me ≤ 16
  high = let me = notes.me in let at_most = is_b.at_most in omega arith

  begins_starts : (number : ℕ) (new : Notes) (s : Step) → new.number ≡ number
      → own new ≡ own (begun r.snapshot number (findings r)) → Begins r number new s → Starts r s.after
  begins_starts number new s is_number mine begins = record {
    limit = ap (λ t. t.limit) begins.after;
    number = ap (λ t. t.number) begins.snapshot ∙ is_number ∙ begins.next;
    noted = ap (λ t. t.noted) begins.after;
    goal = ap (λ t. t.goal) begins.after;
    own_findings =
        ap own begins.snapshot ∙ mine ∙ own_begun r.snapshot number (findings r) low high
        ∙ ap (λ m. noted_findings m (findings r)) begins.next;
  }

  -- agent 1 starts a snapshot
  pub start_starts : (s : Step)
      → Begins r (r.snapshot.number + 1) (begun r.snapshot (r.snapshot.number + 1) (findings r)) s → Starts r s.after
  start_starts s =
      begins_starts (r.snapshot.number + 1) (begun r.snapshot (r.snapshot.number + 1) (findings r)) s refl refl

  state_takes : (f : ℕ) (x : SearchRecord) (counted : Bool) → Takes r counted (Some f)
      (record r { search = x; snapshot = if counted then with_counted r.snapshot f else r.snapshot })
  state_takes f x true =
      let new : Findings = record (own r.snapshot) { under_way = lesser (own r.snapshot).under_way (Some f) } in
      let me = notes.me in
      let from_1 = is_b.from_1 in
      let at_most = is_b.at_most in
      let many = notes.found in
      let inside : r.snapshot.me - 1 < length r.snapshot.found = omega arith in
      let e : own (with_counted r.snapshot f) ≡ new = get_or-set_same r.snapshot.found (r.snapshot.me - 1) new nothing inside in
      record {
        keeps = record {
          limit = refl;
          number = refl;
          noted = refl;
          goal = refl;
          least = ap (λ g. g.least) e;
          cost = ap (λ g. g.goal) e;
          spent = ap (λ g. g.spent) e;
        };
        marks = refl;
        under_way = ap (λ g. g.under_way) e;
      }
  state_takes f x false = record {
    keeps = record { limit = refl; number = refl; noted = refl; goal = refl; least = refl; cost = refl; spent = refl };
    marks = refl;
    under_way = refl;
  }

  module _ (value : Numbers → Numbers → Option ℕ) (from : ℕ) (is_from : IsOf agents from) (apart : from ≢ b) where
    took_cases : MessageCases value r from (Took r from)
    unfolding with_state
    took_cases = record {
      state = λ m given right. inl (refl, state_takes (m.g + m.h) _ (is_counted r.snapshot from));
      on = λ number on.
          let after = either_still (record r { snapshot = with_marker r.snapshot from }) in
          inr (
            number,
            refl,
            inl (record {
              same = on.same;
              snapshot = ap (λ t. t.snapshot) after;
              keeps = same_keeps r (with_marker r.snapshot from) _ refl refl after;
            }),
          );
      begins = λ number begins.
          let new = with_notes (with_marker (begun r.snapshot number (findings r)) from) r in
          let after = either_still new in
          inr (
            number,
            refl,
            inr (record {
              next = begins.next;
              snapshot = ap (λ t. t.snapshot) after;
              after = after;
              more = (judged_or_reported new).out;
              out = refl;
            }),
          );
      report = λ found good.
          let new = after_report r.snapshot from found in
          let mine = own_reported r.snapshot from found low is_from.from_1 (λ same. apart (same ∙ notes.me)) in
          inl (refl, same_takes r from new _ refl mine refl (judged_still (record r { snapshot = new })));
      pick = λ number good.
          let picked : AgentRecord = record r { picked = true } in
          inl (refl, plain _ (from_goal_holds picked (IsStill r) (acts_still picked)));
      trace = λ sent back entry there good. inl (refl, plain _ (walked_holds r (IsStill r) (acts_still r) entry back));
      length = λ number good. inl (refl, plain _ refl);
      done = λ kind first. inl (refl, plain _ refl);
    }
      where
        plain : (s : AgentRecord) → still s ≡ still r → Takes r (is_counted r.snapshot from) None s
        plain s = same_takes r from r.snapshot s refl refl refl

    -- any bytes
    pub record TookBytes (bytes : List ℕ) (s : Step) : Type 0 where
      pub message : Message
      pub read : message_of r.task.agents r.task.publics bytes ≡ Some message
      pub took : Took r from message s

    pub took_bytes : (bytes : List ℕ) (s : Step) → took value r from bytes ≡ Ok s → TookBytes bytes s
    took_bytes bytes s is =
        let t = taking value r from bytes s is in
        record {
          message = t.message;
          read = t.reads;
          took = message_holds value r from (Took r from) took_cases t.message s t.took;
        }

    -- the last snapshot stays, or a new one begins
    pub took_passes : (m : Message) (s : Step) → Took r from m s → Keeps r s.after ⊎ Starts r s.after
    took_passes m s (inl (plain, takes)) = inl takes.keeps
    took_passes m s (inr (number, is, inl marks)) = inl marks.keeps
    took_passes m s (inr (number, is, inr begins)) =
        inr (begins_starts number (with_marker (begun r.snapshot number (findings r)) from) s refl refl begins)
