-- An agent that can take a step can take the next one.
use Rattle.std.proofs.Common.{◌≡◌, ◌≢◌, ℕ, ◌+◌, ◌-◌, ◌<◌, ◌≤◌, ◌^◌, Bool, true, false, cond, [], length, Option, Some, None, refl, sym, ap, subst, ◌∙◌, arith}
use Rattle.std.specs.Prelude.{IfSome, replicate, slice_set, not, ◌==◌, ◌&&◌, if◌then◌else◌}
use Rattle.std.proofs.lemmas.List.{length-replicate, length-set}
use Rattle.mp_task.specs.AgentTask.{AgentTask}
use Rattle.mp_messages.specs.declared.message.Findings.{Findings}
use Rattle.mp_messages.specs.Spelling.{AreFindings}
use Rattle.mp_search.specs.Search.{AgentSearch}
use Rattle.mp_snapshot.specs.declared.verdict.Verdict.{Verdict}
use Rattle.mp_snapshot.specs.Notes.{Notes}
use Rattle.mp_snapshot.specs.Rules.{after_marker, after_report, after_state, begun, is_counted, is_strange_marker, is_strange_report, is_under_way, own, verdict, with_state}
use Rattle.mp_machine.specs.declared.member.Member.{Member}
use Rattle.mp_machine.specs.MemberFields.{IsAtWork, IsMember, IsReady, record_of}
use Rattle.mp_machine.specs.Snapshots.{found_by, goal_entry}
use Rattle.mp_machine.specs.Taking.{knows_of_no_plan}
use Rattle.mp_machine.specs.Verdicts.{is_proved}
use Rattle.mp_machine.proofs.FindingLemmas.{findings_fit, goal_inside}
use Rattle.mp_machine.proofs.NotesLemmas.{marker_under_way, own_begun, own_fits_marked, own_fits_state, own_reported, report_fair, state_changes_nothing, trail_at_first, under_way_none, unknown_if_none}

-- the agent's number, as its notes have it
notes_low : (s : AgentSearch) (m : Member) → IsReady s m → 1 ≤ m.snapshot.me
notes_low s m ready = let is = ready.member.notes_me in let low = ready.search.task.from_1 in omega arith

notes_high : (s : AgentSearch) (m : Member) → IsReady s m → m.snapshot.me ≤ 16
notes_high s m ready =
    let is = ready.member.notes_me in let in_team = ready.search.task.in_team in let high = ready.search.task.at_most_16_agents in omega arith

notes_team : (s : AgentSearch) (m : Member) → IsReady s m → m.snapshot.agents ≤ 16
notes_team s m ready = let is = ready.member.notes_agents in let high = ready.search.task.at_most_16_agents in omega arith

-- agent 1 has noted no action of a plan while it knows of none
pub trail_if_none : (s : AgentSearch) (m : Member) → IsReady s m → (s.task.me ≡ 1 → verdict m.snapshot ≡ None) → s.task.me ≡ 1 → m.trail ≡ []
trail_if_none s m ready none first = ready.trail (unknown_if_none (record_of s m) first (none first))

-- other notes of the same agent
module _ (s : AgentSearch) (m : Member) (notes : Notes) (ready : IsReady s m) (me : notes.me ≡ m.snapshot.me) (agents : notes.agents ≡ m.snapshot.agents)
    (small : notes.number < 2 ^ 60) (marked : length notes.marked ≡ 16) (fits : AreFindings (own notes))
    (trail : knows_of_no_plan (record_of s (record m { snapshot = notes })) ≡ true → m.trail ≡ []) where
  member : IsMember s.task (record m { snapshot = notes })
  member = record {
    me = ready.member.me;
    agents = ready.member.agents;
    publics = ready.member.publics;
    notes_me = me ∙ ready.member.notes_me;
    notes_agents = agents ∙ ready.member.notes_agents;
  }

  pub ready_with : IsReady s (record m { snapshot = notes })
  ready_with = record {
    search = ready.search;
    member = member;
    number = small;
    marked = marked;
    own = fits;
    goal = ready.goal;
    trail = trail;
  }

-- what is noted of a snapshot that begins
pub ready_noted : (s : AgentSearch) (m : Member) → IsReady s m
    → IsReady s (record m { noted = length s.done.kept.entries; goal = goal_entry s.done.kept })
ready_noted s m ready = record {
  search = ready.search;
  member = record {
    me = ready.member.me;
    agents = ready.member.agents;
    publics = ready.member.publics;
    notes_me = ready.member.notes_me;
    notes_agents = ready.member.notes_agents;
  };
  number = ready.number;
  marked = ready.marked;
  own = ready.own;
  goal = goal_inside s.done.kept ready.search.entries;
  trail = ready.trail;
}

begun_marked : (s : Notes) (number : ℕ) (mine : Findings) → length (begun s number mine).marked ≡ 16
begun_marked s number mine = length-set (replicate 16 false) (s.me - 1) true ∙ length-replicate 16 false

module _ (s : AgentSearch) (m : Member) (ready : IsReady s m) where
  -- a snapshot that agent 1 starts
  pub ready_begun : m.snapshot.number + 1 < 2 ^ 60 → m.trail ≡ []
      → IsReady s (record m { snapshot = begun m.snapshot (m.snapshot.number + 1) (found_by s.limit s.done) })
  ready_begun small empty =
      let mine = found_by s.limit s.done in
      let notes = begun m.snapshot (m.snapshot.number + 1) mine in
      ready_with s m notes ready refl refl small (begun_marked m.snapshot (m.snapshot.number + 1) mine)
      (subst AreFindings (sym (own_begun m.snapshot (m.snapshot.number + 1) mine (notes_low s m ready) (notes_high s m ready)))
      (findings_fit s.limit (m.snapshot.number + 1) s.done ready.search.entries small))
      (λ unknown. empty)

  module _ (from number : ℕ) (small : number < 2 ^ 60) (fair : is_strange_marker m.snapshot from number ≡ false) where
    pub trail_marked : s.task.me ≡ 1 → m.trail ≡ []
    trail_marked =
        trail_if_none s m ready
        (λ first.
        let me : m.snapshot.me ≡ 1 = ready.member.notes_me ∙ first in
        under_way_none m.snapshot me (marker_under_way m.snapshot from number me fair))

    pub ready_marked : IsReady s (record m { snapshot = after_marker m.snapshot from number (found_by s.limit s.done) })
    ready_marked =
        let mine = found_by s.limit s.done in
        ready_with s m (after_marker m.snapshot from number mine) ready (me (is_under_way m.snapshot)) (agents (is_under_way m.snapshot))
        (below (is_under_way m.snapshot)) (marked (is_under_way m.snapshot))
        (own_fits_marked m.snapshot from number mine (notes_low s m ready) (notes_high s m ready) ready.own
        (findings_fit s.limit number s.done ready.search.entries small))
        (trail_at_first (record_of s (record m { snapshot = after_marker m.snapshot from number mine })) trail_marked)
      where
        notes : Bool → Notes
        notes b = cond b m.snapshot (begun m.snapshot number (found_by s.limit s.done))

        me : (b : Bool) → (notes b).me ≡ m.snapshot.me
        me true = refl
        me false = refl

        agents : (b : Bool) → (notes b).agents ≡ m.snapshot.agents
        agents true = refl
        agents false = refl

        below : (b : Bool) → (notes b).number < 2 ^ 60
        below true = ready.number
        below false = small

        marked : (b : Bool) → length (slice_set (notes b).marked (from - 1) true) ≡ 16
        marked true = length-set m.snapshot.marked (from - 1) true ∙ ready.marked
        marked false = length-set (begun m.snapshot number (found_by s.limit s.done)).marked (from - 1) true ∙ begun_marked m.snapshot number (found_by s.limit s.done)

  module _ (from : ℕ) (found : Findings) (low : 1 ≤ from) (other : from ≢ m.snapshot.me) (fair : is_strange_report m.snapshot from found ≡ false) where
    pub report_first : s.task.me ≡ 1
    report_first = sym ready.member.notes_me ∙ (report_fair m.snapshot from found fair).0

    pub trail_reported : m.trail ≡ []
    trail_reported =
        trail_if_none s m ready
        (λ first. under_way_none m.snapshot (ready.member.notes_me ∙ first) (report_fair m.snapshot from found fair).1) report_first

    pub ready_reported : IsReady s (record m { snapshot = after_report m.snapshot from found })
    ready_reported =
        ready_with s m (after_report m.snapshot from found) ready refl refl ready.number ready.marked
        (subst AreFindings (sym (own_reported m.snapshot from found (notes_low s m ready) low other)) ready.own) (λ unknown. trail_reported)

-- ---- after an expansion or a state

module _ (s t : AgentSearch) (m : Member) (ready : IsReady s m) (work : IsAtWork t) (task : t.task ≡ s.task)
    (longer : length s.done.kept.entries ≤ length t.done.kept.entries) where
  same_knowledge : knows_of_no_plan (record_of t m) ≡ knows_of_no_plan (record_of s m)
  same_knowledge = ap (λ (x : AgentTask). (x.me == 1) && not (is_proved (if x.me == 1 then verdict m.snapshot else None))) task

  still_inside : (o : Option ℕ) → IfSome o (λ n. (n < length s.done.kept.entries) × (n < 2 ^ 60)) → IfSome o (λ n. (n < length t.done.kept.entries) × (n < 2 ^ 60))
  still_inside None h = tt
  still_inside (Some n) h = (let inside = h.0 in omega arith, h.1)

  -- another search of the same agent, with more entries
  pub ready_searched : IsReady t m
  ready_searched = record {
    search = work;
    member = subst (λ (x : AgentTask). IsMember x m) (sym task) ready.member;
    number = ready.number;
    marked = ready.marked;
    own = ready.own;
    goal = still_inside m.goal ready.goal;
    trail = λ unknown. ready.trail (sym same_knowledge ∙ unknown);
  }

-- a state that a snapshot counts, if it was under way
pub ready_state : (s : AgentSearch) (m : Member) (from f : ℕ) → IsReady s m → f < 2 ^ 60 → 1 ≤ from → from ≤ s.task.agents
    → IsReady s (record m { snapshot = after_state m.snapshot from f })
ready_state s m from f ready small low high =
    ready_with s m (after_state m.snapshot from f) ready (me (is_counted m.snapshot from)) (agents (is_counted m.snapshot from))
    (number (is_counted m.snapshot from)) (marked (is_counted m.snapshot from)) (own_fits_state m.snapshot from f small ready.own)
    (trail (verdict m.snapshot) refl)
  where
    notes : Bool → Notes
    notes b = cond b (with_state m.snapshot f) m.snapshot

    me : (b : Bool) → (notes b).me ≡ m.snapshot.me
    me true = refl
    me false = refl

    agents : (b : Bool) → (notes b).agents ≡ m.snapshot.agents
    agents true = refl
    agents false = refl

    number : (b : Bool) → (notes b).number < 2 ^ 60
    number true = ready.number
    number false = ready.number

    marked : (b : Bool) → length (notes b).marked ≡ 16
    marked true = ready.marked
    marked false = ready.marked

    trail : (o : Option Verdict) → verdict m.snapshot ≡ o
        → knows_of_no_plan (record_of s (record m { snapshot = after_state m.snapshot from f })) ≡ true → m.trail ≡ []
    trail None none unknown =
        trail_at_first (record_of s (record m { snapshot = after_state m.snapshot from f })) (λ first. trail_if_none s m ready (λ _. none) first) unknown
    trail (Some v) some unknown =
        let same =
        state_changes_nothing m.snapshot from f ready.marked (notes_team s m ready) low
        (let team = ready.member.notes_agents in omega arith) (λ none. let impossible : ⊥ = cc in impossible)
        in
        ready.trail (sym (ap (λ (x : Notes). knows_of_no_plan (record_of s (record m { snapshot = x }))) same) ∙ unknown)
