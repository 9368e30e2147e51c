-- What a step of an agent does for the end of a search, unless it takes a message of the end.
use Rattle.mp_world.proofs.Basics.{◌≡◌, ◌≢◌, ℕ, ◌+◌, ◌-◌, ◌≤◌, Bool, true, false, ◌&&◌, List, [], ◌∷◌, length, take, Option, Some, None, refl, ap, ◌∙◌, arith, if◌then◌else◌, nat_lt, get_or-set_same, All-nil}
use Rattle.mp_snapshot.specs.Rules.{with_state as counted_with}
use Rattle.mp_machine.proofs.NotesLemmas.{given_at_first, own_begun, under_way_none}
use Rattle.mp_machine.proofs.StepLemmas.{start_parts}
use Rattle.mp_world.specs.AgentWords.{Findings, Marker, Report, State, Verdict, lesser, Notes, after_state, begun, is_complete, is_under_way, nothing, own, verdict, verdict_of, AgentRecord, given_verdict, may_start, with_search, Outgoing, Step, after_sending, others}
use Rattle.mp_world.specs.AgentWords.{to_others, without_messages, findings, goal_entry, judged, judged_or_reported, started, with_notes, with_state, is_deciding, walked, walked_from_goal}
use Rattle.mp_world.specs.SearchWords.{Numbers, Sending, SearchRecord, bound}
use Rattle.mp_world.proofs.LocalCases.{ActingCases, both_such, each_such, either_holds, from_goal_holds, judged_holds, states_such, walked_holds}
use Rattle.mp_team_verdicts.proofs.CountedStates.{counted_has}
use Rattle.mp_team_verdicts.proofs.EndMessages.{HasNoEnds, IsNoEnd, IsNotOfEnd}

-- ---- what stays as it was

-- an agent has no more part in the end than before
pub record IsCalm (r : AgentRecord) (s : Step) : Type 0 where
  pub trail : s.after.trail ≡ r.trail
  pub picked : s.after.picked ≡ r.picked
  pub ending : s.after.ending ≡ r.ending
  pub share : s.after.share ≡ r.share
  pub task : s.after.task ≡ r.task
  pub out : HasNoEnds s.out

-- what a snapshot noted stays: the goal entry, and its cost in the findings
pub record KeepsGoal (r s : AgentRecord) : Type 0 where
  pub goal : s.goal ≡ r.goal
  pub own : (own s.snapshot).goal ≡ (own r.snapshot).goal

-- a snapshot begins, and the agent notes its least goal entry
pub record NotesGoal (r s : AgentRecord) : Type 0 where
  pub goal : s.goal ≡ goal_entry r.search.kept
  pub own : (own s.snapshot).goal ≡ bound r.search.kept
  pub search : s.search ≡ r.search

-- the agent has a place in its notes
pub record HasPlace (s : Notes) : Type 0 where
  pub low : 1 ≤ s.me
  pub high : s.me ≤ 16
  pub many : length s.found ≡ 16

-- ---- an expansion, and a state that is taken

pub expansion_calm : (r : AgentRecord) (made : List Sending × SearchRecord) → IsCalm r (with_search r made)
expansion_calm r made = record { trail = refl; picked = refl; ending = refl; share = refl; task = refl; out = states_such IsNotOfEnd (λ m. refl) made.0 }

pub counted_goal : (s : Notes) (from f : ℕ) → HasPlace s → (own (after_state s from f)).goal ≡ (own s).goal
counted_goal s from f place =
    let low = place.low in
    let high = place.high in
    let many = place.many in
    counted_has (λ t. (own t).goal ≡ (own s).goal) s from f refl
    (ap (λ (x : Findings). x.goal) (get_or-set_same s.found (s.me - 1) (record (own s) { under_way = lesser (own s).under_way (Some f) }) nothing (omega arith)))

-- a state that counts comes while the snapshot is under way
pub counted_none : (s : Notes) (from f : ℕ) → verdict s ≡ None → verdict (after_state s from f) ≡ None
counted_none s from f none =
    counted_has (λ t. verdict t ≡ None) s from f none
    (kept (nat_lt 0 s.number && is_complete s) (verdict_of (take s.agents s.found)) (verdict_of (take s.agents (counted_with s f).found)) none)
  where
    kept : (b : Bool) (found more : Verdict) → (if b then Some found else None) ≡ None → (if b then Some more else None) ≡ None
    kept true found more is = absurd (let impossible : ⊥ = cc in impossible)
    kept false found more is = refl

module _ (value : Numbers → Numbers → Option ℕ) where
  pub state_calm : (r : AgentRecord) (from : ℕ) (m : State) → IsCalm r (without_messages (with_state value r from m))
  unfolding with_state
  state_calm r from m = record { trail = refl; picked = refl; ending = refl; share = refl; task = refl; out = All-nil IsNoEnd }

  pub state_goal : (r : AgentRecord) (from : ℕ) (m : State) → HasPlace r.snapshot → KeepsGoal r (with_state value r from m)
  unfolding with_state
  state_goal r from m place = record { goal = refl; own = counted_goal r.snapshot from (m.g + m.h) place }

  pub state_snapshot : (r : AgentRecord) (from : ℕ) (m : State) → (with_state value r from m).snapshot ≡ after_state r.snapshot from (m.g + m.h)
  unfolding with_state
  state_snapshot r from m = refl

-- ---- a verdict is given

-- all but the agent's part in the end
pub record KeepsNotes (r s : AgentRecord) : Type 0 where
  pub goal : s.goal ≡ r.goal
  pub snapshot : s.snapshot ≡ r.snapshot
  pub search : s.search ≡ r.search
  pub task : s.task ≡ r.task

keeping : (r : AgentRecord) → ActingCases r (λ s. KeepsNotes r s.after)
keeping r = record {
  silent = record { goal = refl; snapshot = refl; search = refl; task = refl };
  root = λ entry back length is. record { goal = refl; snapshot = refl; search = refl; task = refl };
  hop = λ entry back agent sent more is. record { goal = refl; snapshot = refl; search = refl; task = refl };
  pick = λ agent cost given other. record { goal = refl; snapshot = refl; search = refl; task = refl };
  ended = λ v kind given. record { goal = refl; snapshot = refl; search = refl; task = refl };
}

pub walked_keeps : (r : AgentRecord) (entry back : ℕ) → KeepsNotes r (walked r entry back).after
walked_keeps r = walked_holds r (λ s. KeepsNotes r s.after) (keeping r)

pub from_goal_keeps : (r : AgentRecord) → KeepsNotes r (walked_from_goal r).after
from_goal_keeps r = from_goal_holds r (λ s. KeepsNotes r s.after) (keeping r)

pub judged_keeps : (r : AgentRecord) → KeepsNotes r (judged r).after
judged_keeps r = judged_holds r (λ s. KeepsNotes r s.after) (keeping r)

pub either_keeps : (r : AgentRecord) → KeepsNotes r (judged_or_reported r).after
either_keeps r =
    either_holds r (λ s. KeepsNotes r s.after) (λ first. judged_keeps r)
    (λ other whole. record { goal = refl; snapshot = refl; search = refl; task = refl }) (λ other waits. (keeping r).silent)

-- agent 1 gives its verdict, in a step before which the search was not decided
pub record IsJudged (r : AgentRecord) (s : Step) : Type 0 where
  pub before : AgentRecord
  pub first : List Outgoing
  pub is : after_sending first (judged before) ≡ s
  pub silent : HasNoEnds first
  pub me : r.task.me ≡ 1
  pub undecided : is_deciding (given_verdict r) ≡ false
  pub trail : before.trail ≡ r.trail
  pub picked : before.picked ≡ r.picked
  pub ending : before.ending ≡ r.ending
  pub share : before.share ≡ r.share
  pub task : before.task ≡ r.task

-- Agent 1 has other notes, for which it gives its verdict. It may have noted what it has before, and sent messages.
pub gives : (r : AgentRecord) (notes : Notes) (noted : ℕ) (goal : Option ℕ) (first : List Outgoing) (s : Step) → HasNoEnds first → r.task.me ≡ 1
    → is_deciding (given_verdict r) ≡ false → after_sending first (judged (record r { snapshot = notes; noted = noted; goal = goal })) ≡ s → IsJudged r s
gives r notes noted goal first s silent me undecided is = record {
  before = record r { snapshot = notes; noted = noted; goal = goal };
  first = first;
  is = is;
  silent = silent;
  me = me;
  undecided = undecided;
  trail = refl;
  picked = refl;
  ending = refl;
  share = refl;
  task = refl;
}

-- while a snapshot is under way
pub gives_over : (r : AgentRecord) (notes : Notes) (s : Step) → r.snapshot.me ≡ 1 → r.task.me ≡ 1 → is_under_way r.snapshot ≡ true
    → judged (record r { snapshot = notes }) ≡ s → IsJudged r s
gives_over r notes s noted_me me on is =
    gives r notes r.noted r.goal [] s (All-nil IsNoEnd) me (ap is_deciding (given_at_first r me ∙ under_way_none r.snapshot noted_me on)) is

-- a snapshot is started
pub start_judged : (r : AgentRecord) → may_start r ≡ true → IsJudged r (started r)
start_judged r may =
    let parts = start_parts r may in
    let m = Marker (r.snapshot.number + 1) in
    gives r (begun r.snapshot (r.snapshot.number + 1) (findings r)) (length r.search.kept.entries) (goal_entry r.search.kept) (to_others r.task m) (started r)
    (each_such IsNotOfEnd m refl (others r.task.me r.task.agents)) parts.first parts.undecided refl

-- ---- another agent has other notes

pub noted_calm : (r : AgentRecord) (notes : Notes) (noted : ℕ) (goal : Option ℕ) → r.task.me ≢ 1
    → IsCalm r (judged_or_reported (record r { snapshot = notes; noted = noted; goal = goal }))
noted_calm r notes noted goal other =
    let new : AgentRecord = record r { snapshot = notes; noted = noted; goal = goal } in
    either_holds new (IsCalm r) (λ first. absurd (other first))
    (λ other whole. record {
      trail = refl;
      picked = refl;
      ending = refl;
      share = refl;
      task = refl;
      out = each_such IsNotOfEnd (Report (own notes)) refl (1 ∷ []);
    })
    (λ other waits. record { trail = refl; picked = refl; ending = refl; share = refl; task = refl; out = All-nil IsNoEnd })

-- markers go out first
pub told_calm : (r : AgentRecord) (number : ℕ) (s : Step) → IsCalm r s → IsCalm r (after_sending (to_others r.task (Marker number)) s)
told_calm r number s calm = record {
  trail = calm.trail;
  picked = calm.picked;
  ending = calm.ending;
  share = calm.share;
  task = calm.task;
  out = both_such IsNotOfEnd (to_others r.task (Marker number)) s.out (each_such IsNotOfEnd (Marker number) refl (others r.task.me r.task.agents)) calm.out;
}

-- ---- the goal that is noted

pub data GoalAfter (r s : AgentRecord) : Type 0 where
  keeps : KeepsGoal r s → GoalAfter r s
  notes : NotesGoal r s → GoalAfter r s

-- with other notes that have the same own goal
pub goal_kept : (r new s : AgentRecord) → KeepsNotes new s → new.goal ≡ r.goal → (own new.snapshot).goal ≡ (own r.snapshot).goal → GoalAfter r s
goal_kept r new s k goal mine = keeps (record { goal = k.goal ∙ goal; own = ap (λ (n : Notes). (own n).goal) k.snapshot ∙ mine })

-- a snapshot begins
pub goal_begun : (r : AgentRecord) (new : Notes) (s : AgentRecord) → KeepsNotes (with_notes new r) s → (own new).goal ≡ bound r.search.kept → GoalAfter r s
goal_begun r new s k mine = notes (record { goal = k.goal; own = ap (λ (n : Notes). (own n).goal) k.snapshot ∙ mine; search = k.search })

pub begun_goal : (r : AgentRecord) (number : ℕ) → HasPlace r.snapshot → (own (begun r.snapshot number (findings r))).goal ≡ bound r.search.kept
begun_goal r number place = ap (λ (x : Findings). x.goal) (own_begun r.snapshot number (findings r) place.low place.high)
