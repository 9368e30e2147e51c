-- How many entries an agent has expanded after some events, and that fewer of these come before a cut.
use Rattle.mp_world.proofs.Basics.{◌≡◌, ◌≢◌, ℕ, ◌+◌, ◌≤◌, ◌⊎◌, Bool, true, false, List, [], ◌∷◌, ◌++◌, Option, Some, None, refl, sym, ap, ◌∙◌, arith, inl, inr, Ok, ◌==◌, if◌then◌else◌, slice_get, option_map_or, and_parts, cases_eq, eq-eqb, ne_eqb, same_Some}
use Rattle.mp_machine.specs.declared.event.Local.TheVariants as locals
use Rattle.mp_world.specs.AgentWords.{AgentTask, Event, Expand, Take, Start, AgentRecord, is_going, Local, local, with_search, Step, with_state}
use Rattle.mp_world.specs.SearchWords.{Numbers, Entry, Sending, AgentState, expanded, expanded_entry, SearchRecord, is_open_below, may_expand}
use Rattle.mp_world.specs.Events.{after_event, agent_of, run, taken}
use Rattle.mp_world.specs.Steps.{IsStepOf}
use Rattle.mp_world.specs.Team.{IsTeam, Team}
use Rattle.mp_world.specs.Values.{Values}
use Rattle.mp_world.specs.World.{World, agent_at}
use Rattle.mp_world.proofs.Runs.{run_has_history}
use Rattle.mp_team_snapshots.specs.Cut.{cut_from, is_before_cut, kept_event}
use Rattle.mp_team_states.proofs.Worth.{IsWorth, worth}
use Rattle.mp_team_states.proofs.StartReached.{task_is}
use Rattle.mp_team_states.proofs.WorldsGrow.{search_holds}

-- ---- how many of some events are expansions of an agent

abbrev pub is_by : ℕ → Event → ℕ
is_by agent (Expand other) = if other == agent then 1 else 0
is_by agent (Take by from) = 0
is_by agent Start = 0

abbrev pub count_by : ℕ → List Event → ℕ
count_by agent [] = 0
count_by agent (e ∷ es) = is_by agent e + count_by agent es

count_append : (agent : ℕ) (es fs : List Event) → count_by agent (es ++ fs) ≡ count_by agent es + count_by agent fs
count_append agent [] fs = omega arith
count_append agent (e ∷ es) fs = let more = count_append agent es fs in omega arith

pub count_more : (agent : ℕ) (es : List Event) (e : Event) → count_by agent (es ++ e ∷ []) ≡ count_by agent es + is_by agent e
count_more agent es e = let more = count_append agent es (e ∷ []) in omega arith

module _ (value : Values) (k agent : ℕ) where
  -- no more come before a cut
  pub count_cut : (w : World) (es : List Event) → count_by agent (cut_from value k w es) ≤ count_by agent es
  unfolding cut_from
  count_cut w [] = omega arith
  count_cut w (e ∷ es) = by (after_event value w e) (λ next. count_cut next es)
    where
      kept_at_most : (b : Bool) → count_by agent (if b then e ∷ [] else []) ≤ is_by agent e
      kept_at_most true = omega arith
      kept_at_most false = omega arith

      by : (o : Option World) → ((next : World) → count_by agent (cut_from value k next es) ≤ count_by agent es)
          → count_by agent (option_map_or (λ next. kept_event k w e next ++ cut_from value k next es) o []) ≤ count_by agent (e ∷ es)
      by None rest = omega arith
      by (Some next) rest =
          let split = count_append agent (kept_event k w e next) (cut_from value k next es) in
          let here = kept_at_most (is_before_cut k w e next) in
          let later = rest next in
          omega arith

-- ---- a step

-- an agent may expand as many entries as before, and has expanded so many more
pub record HasDone (more : ℕ) (r : AgentRecord) (s : Step) : Type 0 where
  pub limit : s.after.limit ≡ r.limit
  pub count : s.after.search.expansions ≡ r.search.expansions + more

-- any other event leaves them
other_done : (value : Numbers → Numbers → Option ℕ) (r : AgentRecord) (event : Local) (bytes : List ℕ) → event ≢ locals.Expand
    → (s : Step) → local value r event bytes ≡ Ok s → HasDone 0 r s
unfolding with_state
other_done value r event bytes other =
    search_holds value r event bytes (HasDone 0 r) (record {
      expands = λ at. absurd (other at);
      receives = λ from m at reads. record { limit = refl; count = omega arith };
      quiet = λ s quiet. record { limit = quiet.limit_is; count = let same = ap (λ (x : SearchRecord). x.expansions) quiet.search_is in omega arith };
    })

entry_counts : (t : AgentTask) (value : Numbers → Numbers → Option ℕ) (n : ℕ) (e : Entry AgentState) (r : SearchRecord)
    → (expanded_entry t value n e r).1.expansions ≡ r.expansions + 1
unfolding expanded_entry
entry_counts t value n e r = refl

expand_done : (value : Numbers → Numbers → Option ℕ) (r : AgentRecord) → may_expand r.limit r.search ≡ true → HasDone 1 r (with_search r (expanded r.task value r.search))
unfolding expanded
expand_done value r may = record { limit = refl; count = ap (λ (d : List Sending × SearchRecord). d.1.expansions) is ∙ one }
  where
    found : IsWorth r.search.kept
    found = worth r.search.kept (and_parts _ (is_open_below r.search.kept) may).1

    is : expanded r.task value r.search ≡ expanded_entry r.task value found.number found.entry r.search
    is =
        (λ j. option_map_or (λ n. option_map_or (λ e. expanded_entry r.task value n e r.search) (slice_get r.search.kept.entries n) ([], r.search)) (found.first j) ([], r.search))
        ∙ (λ j. option_map_or (λ e. expanded_entry r.task value found.number e r.search) (found.at j) ([], r.search))

    one : (expanded_entry r.task value found.number found.entry r.search).1.expansions ≡ r.search.expansions + 1
    one = entry_counts r.task value found.number found.entry r.search

module _ (value : Values) (w next : World) where
  step_done : (event : Event) (is : IsStepOf value w event next) → HasDone (is_by (agent_of event) event) is.agent is.step
  step_done (Expand agent) is =
      let r = is.agent in
      let d = expanded r.task (value r.task) r.search in
      let same : with_search r d ≡ is.step = let done : Ok (with_search r d) ≡ Ok is.step = is.local in cc in
      let may = and_parts (is_going r.ending) (may_expand r.limit r.search) is.may in
      let done = expand_done (value r.task) r may.1 in
      let one : is_by agent (Expand agent) ≡ 1 = ap (λ (b : Bool). if b then 1 else 0) (eq-eqb agent agent refl) in
      let count = ap (λ (s : Step). s.after.search.expansions) (sym same) ∙ done.count in
      record { limit = ap (λ (s : Step). s.after.limit) (sym same) ∙ done.limit; count = omega arith }
  step_done (Take by from) is =
      other_done (value is.agent.task) is.agent (locals.Take from) (taken w (Take by from)) (λ at. let impossible : ⊥ = cc in impossible) is.step is.local
  step_done Start is = other_done (value is.agent.task) is.agent locals.Start [] (λ at. let impossible : ⊥ = cc in impossible) is.step is.local

  -- events of others are not counted
  not_by : (agent : ℕ) (event : Event) → agent ≢ agent_of event → is_by agent event ≡ 0
  not_by agent (Expand other) apart = ap (λ (b : Bool). if b then 1 else 0) (ne_eqb other agent (λ same. apart (sym same)))
  not_by agent (Take by from) apart = refl
  not_by agent Start apart = refl

-- an agent may expand so many entries, and has expanded as many as its events say
pub record IsCounted (limit : ℕ) (past : List Event) (agent : ℕ) (r : AgentRecord) : Type 0 where
  pub limit_is : r.limit ≡ limit
  pub count : r.search.expansions ≡ count_by agent past

abbrev pub AreCounted : ℕ → List Event → World → Type 0
AreCounted limit past w = (agent : ℕ) (r : AgentRecord) → agent_at w agent ≡ Some r → IsCounted limit past agent r

module _ (team : Team) (is_team : IsTeam team) where
  open team use {value, limit}

  count_next : (past : List Event) (w : World) (event : Event) (next : World) → AreCounted limit past w → IsStepOf value w event next → AreCounted limit (past ++ event ∷ []) next
  count_next past w event next old is agent r there = by (cases_eq agent (agent_of event))
    where
      more : count_by agent (past ++ event ∷ []) ≡ count_by agent past + is_by agent event
      more = count_more agent past event

      by : (agent ≡ agent_of event) ⊎ (agent ≡ agent_of event → ⊥) → IsCounted limit (past ++ event ∷ []) agent r
      by (inl same) =
          let one : is.step.after ≡ r = same_Some is.step.after r (sym is.after ∙ sym (ap (agent_at next) same) ∙ there) in
          let was = old agent is.agent (ap (agent_at w) same ∙ is.there) in
          let done = step_done value w next event is in
          let limit_now = ap (λ (x : AgentRecord). x.limit) (sym one) ∙ done.limit ∙ was.limit_is in
          let count_now = ap (λ (x : AgentRecord). x.search.expansions) (sym one) ∙ done.count in
          let e = was.count in
          let mine = ap (λ (i : ℕ). is_by i event) same in
          let m = more in
          record { limit_is = limit_now; count = omega arith }
      by (inr other) =
          let was = old agent r (sym (is.others agent other) ∙ there) in
          let none = not_by value w next agent event other in
          let e = was.count in
          let m = more in
          record { limit_is = was.limit_is; count = omega arith }

  pub counted_in_runs : (schedule : List Event) (w : World) → run team schedule ≡ Some w → AreCounted limit schedule w
  counted_in_runs =
      run_has_history team (AreCounted limit)
      (λ agent r there.
      let of = task_is team is_team agent r there in
      record { limit_is = ap (λ (x : AgentRecord). x.limit) of.2; count = ap (λ (x : AgentRecord). x.search.expansions) of.2 })
      (λ past w event next of_team old is. count_next past w event next old is)
