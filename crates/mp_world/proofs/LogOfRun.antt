-- The log of a run: its schedule, what is under way after it, and that it is a log of its team.
use Rattle.mp_world.proofs.Basics.{◌≡◌, ◌≢◌, ℕ, zero, suc, ◌+◌, ◌-◌, ◌<◌, ◌≤◌, Bool, true, false, ◌&&◌, List, [], ◌∷◌, ◌++◌, length, map, drop, replicate, Some, refl, sym, ap, subst, ◌∙◌, append_assoc, append-nil, arith, length-append, ◌⊎◌, inl, inr, ◌==◌, All}
use Rattle.mp_world.proofs.Basics.{Contains, if◌then◌else◌, not, slice_get, slice_index_or, option_map_or, eqb-false, eqb-true, get_or-replicate, All-append, All-contains, All-nil, All-weaker, filter-append, filter_map-append, none-some, same_Some, slice_get-get_or}
use Rattle.std.proofs.Common.{length-drop}
use Rattle.std.proofs.lemmas.List.{drop-append-le}
use Rattle.mp_runs.specs.Run.{run as run_of}
use Rattle.mp_runs.proofs.Runs.{run-none, run_parts}
use Rattle.mp_messages.specs.declared.history.Entry.{Entry}
use Rattle.mp_messages.specs.History.{IsHistory, MayFollow, agent_of as owner_of, event_of, put_between, received, taken_between, under_way as under_way_in}
use Rattle.mp_messages.proofs.Histories.{history_empty, history_grows}
use Rattle.mp_world.specs.AgentWords.{AgentTask, Event, Expand, Take, Start, part, schedule, sent, Out, AgentRecord, new_record, may}
use Rattle.mp_world.specs.Events.{after_event, agent_of, has_message, local_of, local_step, sent_in, taken, without_taken}
use Rattle.mp_world.specs.Logs.{HasDone, IsLocalLog, IsLog, entries_if_good, entries_of, entry_of, log_after, log_from, log_of_run, put_by}
use Rattle.mp_world.specs.Logs.HasDone.{nothing, onward}
use Rattle.mp_world.specs.Steps.{IsStepOf}
use Rattle.mp_world.specs.Team.{Team, team_with}
use Rattle.mp_world.specs.Values.{Values}
use Rattle.mp_world.specs.World.{AreNumbered, IsAgent, IsTeamWorld, World, agent_at, start_world, under_way}
use Rattle.mp_world.proofs.Agents.{member_of, sender_of, task_there}
use Rattle.mp_world.proofs.Entries.{entries_owners, entries_received, entries_schedule, entries_sent, part_others, part_own, taken_from}
use Rattle.mp_world.proofs.Mail.{IsAgent-agents, agent_of_team, sent_from, under_way-other, under_way-same}
use Rattle.mp_world.proofs.Stepping.{event_is_step, event_keeps_team, start_is_team, team_lists, team_size}
use Rattle.mp_world.proofs.Tasks.{local_keeps_task}

-- ---- lists from which some are taken and to which others come

drop_none : (n : ℕ) → drop {A = List ℕ} n [] ≡ []
drop_none zero = refl
drop_none (suc n) = refl

pub drop_twice : (n m : ℕ) (xs : List (List ℕ)) → drop (n + m) xs ≡ drop m (drop n xs)
drop_twice zero m xs = ap (λ n. drop n xs) none_first
  where
    none_first : 0 + m ≡ m
    none_first = omega arith
drop_twice (suc n) m [] = drop_none (suc n + m) ∙ sym (drop_none m)
drop_twice (suc n) m (x ∷ xs) = ap (λ k. drop k (x ∷ xs)) one_first ∙ drop_twice n m xs
  where
    one_first : suc n + m ≡ suc (n + m)
    one_first = omega arith

-- ---- agents of the world at the start are new

pub new_at : (team : Team) (agent : ℕ) (r : AgentRecord)
    → agent_at (start_world team) agent ≡ Some r → r ≡ new_record r.task (team.value r.task) team.limit
new_at team zero r here = absurd (none-some r here)
new_at team (suc k) r here = new_in team.tasks k r here
  where
    open team use {value, limit}

    new_in : (ts : List AgentTask) (k : ℕ) (x : AgentRecord) → slice_get (map (λ t. new_record t (value t) limit) ts) k ≡ Some x → x ≡ new_record x.task (value x.task) limit
    new_in [] k x here = absurd (none-some x here)
    new_in (t ∷ ts) zero x here = subst (λ y. y ≡ new_record y.task (value y.task) limit) (same_Some (new_record t (value t) limit) x here) refl
    new_in (t ∷ ts) (suc k) x here = new_in ts k x here

-- ---- the messages of a log are those of a world

pub record MatchesPair (past : List Entry) (w : World) (from to : ℕ) : Type 0 where
  pub same : under_way w from to ≡ under_way_in from to past
  pub within : length (received from to past) ≤ length (sent from to past)

-- between each two agents
abbrev pub Matches : List Entry → World → Type 0
Matches past w = (from to : ℕ) → IsAgent w from → IsAgent w to → MatchesPair past w from to

-- a list that is not empty
not_empty : (xs : List (List ℕ)) → not (length xs == 0) ≡ true → 0 < length xs
not_empty [] test = absurd (let impossible : ⊥ = cc in impossible)
not_empty (x ∷ xs) test = omega arith

module _ (value : Values) (tasks : List AgentTask) (numbered : AreNumbered tasks) where
  -- one event more
  module _ (past : List Entry) (w : World) (event : Event) (next : World) (team : IsTeamWorld tasks w) (is : IsStepOf value w event next) where
    abbrev pub new : List Entry
    new = entries_of event (taken w event) (sent_in is.step)

    pub log_is : log_after value w event ≡ new
    log_is =
        ap (λ o. option_map_or (λ r. entries_if_good value w event (local_step value w event r)) o []) is.there
        ∙ ap (entries_if_good value w event) is.local

    module _ (from to : ℕ) (is_from : IsAgent w from) (is_to : IsAgent w to) where
      -- what is taken away of the messages under way
      pub record Left (gone : List (List ℕ)) : Type 0 where
        pub fits : length gone ≤ length (under_way w from to)
        pub left : under_way (without_taken w event) from to ≡ drop (length gone) (under_way w from to)

      pub left_over : (e : Event) → e ≡ event → Left (taken_from from to e (taken w e))
      left_over (Expand agent) same =
          record { fits = omega arith; left = subst (λ e. under_way (without_taken w e) from to ≡ under_way w from to) same refl }
      left_over Start same =
          record { fits = omega arith; left = subst (λ e. under_way (without_taken w e) from to ≡ under_way w from to) same refl }
      left_over (Take by sender) same = by_pair (sender == from) refl (by == to) refl
        where
          there : agent_at w by ≡ Some is.agent
          there = subst (λ e. agent_at w (agent_of e) ≡ Some is.agent) (sym same) is.there

          allowed : may is.agent (local_of (Take by sender)) ≡ true
          allowed = subst (λ e. may is.agent (local_of e) ≡ true) (sym same) is.may

          message : has_message w (Take by sender) ≡ true
          message = subst (λ e. has_message w e ≡ true) (sym same) is.message

          is_sender : IsAgent w sender
          is_sender = (sender_of tasks numbered w team by sender is.agent there allowed).0

          is_by : IsAgent w by
          is_by = agent_of_team w by is.agent there

          untouched : (sender ≢ from) ⊎ (by ≢ to) → under_way (without_taken w event) from to ≡ under_way w from to
          untouched apart =
              subst (λ e. under_way (without_taken w e) from to ≡ under_way w from to) same
              (under_way-other w (team_lists tasks w team) sender by from to (drop 1 (under_way w sender by)) is_sender is_by is_from is_to (turned apart))
            where
              turned : (sender ≢ from) ⊎ (by ≢ to) → (from ≢ sender) ⊎ (to ≢ by)
              turned (inl apart) = inl (λ e. apart (sym e))
              turned (inr apart) = inr (λ e. apart (sym e))

          none : (sender ≢ from) ⊎ (by ≢ to) → Left []
          none apart = record { fits = omega arith; left = untouched apart }

          one : sender ≡ from → by ≡ to → Left (taken w (Take by sender) ∷ [])
          one from_it for_it =
              let full : 0 < length (under_way w from to) = subst (λ i. 0 < length (under_way w i to)) from_it (subst (λ j. 0 < length (under_way w sender j)) for_it (not_empty (under_way w sender by) message)) in
              let taken_away : under_way (without_taken w (Take by sender)) sender by ≡ drop 1 (under_way w sender by) = under_way-same w (team_lists tasks w team) sender by (drop 1 (under_way w sender by)) is_sender is_by in
              record {
                fits = omega arith;
                left = subst (λ e. under_way (without_taken w e) from to ≡ drop 1 (under_way w from to)) same
                    (subst (λ i. under_way (without_taken w (Take by sender)) i to ≡ drop 1 (under_way w i to)) from_it
                    (subst (λ j. under_way (without_taken w (Take by sender)) sender j ≡ drop 1 (under_way w sender j)) for_it taken_away));
              }

          by_pair : (b : Bool) → (sender == from) ≡ b → (c : Bool) → (by == to) ≡ c → Left (if b && c then taken w (Take by sender) ∷ [] else [])
          by_pair true from_it true for_it = one (eqb-true sender from from_it) (eqb-true by to for_it)
          by_pair true from_it false for_it = none (inr (eqb-false by to for_it))
          by_pair false from_it c for_it = none (inl (eqb-false sender from from_it))

    module _ (matches : Matches past w) (from to : ℕ) (is_from : IsAgent w from) (is_to : IsAgent w to) where
      abbrev out : List (List ℕ)
      out = sent_from (agent_of event) from to (sent_in is.step)

      before : MatchesPair past w from to
      before = matches from to is_from is_to

      abbrev gone : List (List ℕ)
      gone = taken_from from to event (taken w event)

      all_received : received from to (past ++ new) ≡ received from to past ++ gone
      all_received =
          filter_map-append (taken_between from to) past new ∙ ap (λ ms. received from to past ++ ms) (entries_received from to event (taken w event) (sent_in is.step))

      all_sent : sent from to (past ++ new) ≡ sent from to past ++ out
      all_sent =
          filter_map-append (put_between from to) past new ∙ ap (λ ms. sent from to past ++ ms) (entries_sent from to event (taken w event) (sent_in is.step))

      drop_both : (n m : ℕ) (xs ys : List (List ℕ)) → n + m ≤ length xs → drop (n + m) (xs ++ ys) ≡ drop m (drop n xs) ++ ys
      drop_both n m xs ys short = drop-append-le (n + m) xs ys short ∙ ap (λ zs. zs ++ ys) (drop_twice n m xs)

      still_matches : MatchesPair (past ++ new) next from to
      still_matches =
          let l = left_over from to is_from is_to event refl in
          let fits = l.fits in
          let short = before.within in
          let there = ap length before.same ∙ length-drop (length (received from to past)) (sent from to past) in
          let enough : length (received from to past) + length gone ≤ length (sent from to past) = omega arith in
          let many = ap length all_received ∙ length-append (received from to past) gone in
          let all = ap length all_sent ∙ length-append (sent from to past) out in
          record {
            same =
                is.mail from to is_from is_to
                ∙ ap (λ ms. ms ++ out) (l.left ∙ ap (drop (length gone)) before.same)
                ∙ sym (drop_both (length (received from to past)) (length gone) (sent from to past) out enough)
                ∙ ap (λ n. drop n (sent from to past ++ out)) (sym many)
                ∙ ap (drop (length (received from to (past ++ new)))) (sym all_sent);
            within = omega arith;
          }

    -- the entry of the event may follow what came before
    own_may_follow : Matches past w → MayFollow past (entry_of event (taken w event))
    own_may_follow matches = by event refl
      where
        by : (e : Event) → e ≡ event → MayFollow past (entry_of e (taken w e))
        by (Expand agent) same = tt
        by Start same = tt
        by (Take taker sender) same =
            let there = subst (λ e. agent_at w (agent_of e) ≡ Some is.agent) (sym same) is.there in
            let allowed = subst (λ e. may is.agent (local_of e) ≡ true) (sym same) is.may in
            let message = subst (λ e. has_message w e ≡ true) (sym same) is.message in
            let is_sender = (sender_of tasks numbered w team taker sender is.agent there allowed).0 in
            let is_taker = agent_of_team w taker is.agent there in
            ap (λ ms. slice_get ms 0) (sym (matches sender taker is_sender is_taker).same)
            ∙ slice_get-get_or (under_way w sender taker) 0 [] (not_empty (under_way w sender taker) message)

    puts_follow : (log : List Entry) (agent : ℕ) (out : List Out) → IsHistory log → IsHistory (log ++ map (put_by agent) out)
    puts_follow log agent [] legal = subst IsHistory (sym (append-nil log)) legal
    puts_follow log agent (x ∷ xs) legal =
        subst IsHistory (append_assoc log (put_by agent x ∷ []) (map (put_by agent) xs))
        (puts_follow (log ++ put_by agent x ∷ []) agent xs (history_grows log (put_by agent x) legal tt))

    pub still_legal : Matches past w → IsHistory past → IsHistory (past ++ new)
    still_legal matches legal =
        subst IsHistory (append_assoc past (entry_of event (taken w event) ∷ []) (map (put_by (agent_of event)) (sent_in is.step)))
        (puts_follow (past ++ entry_of event (taken w event) ∷ []) (agent_of event) (sent_in is.step)
        (history_grows past (entry_of event (taken w event)) legal (own_may_follow matches)))

    pub matches_on : IsTeamWorld tasks next → Matches past w → Matches (past ++ new) next
    matches_on team' matches from to is_from is_to = still_matches matches from to (back from is_from) (back to is_to)
      where
        back : (agent : ℕ) → IsAgent next agent → IsAgent w agent
        back agent = IsAgent-agents w next agent (team_size tasks w team ∙ sym (team_size tasks next team'))

  -- the log from a world on, by its first event
  pub log_from-cons : (w next : World) (event : Event) (events : List Event) → after_event value w event ≡ Some next → log_from value w (event ∷ events) ≡ log_after value w event ++ log_from value next events
  unfolding log_from
  log_from-cons w next event events leads = ap (λ o. log_after value w event ++ option_map_or (λ v. log_from value v events) o []) leads

  pub log_from-none : (w : World) → log_from value w [] ≡ []
  unfolding log_from
  log_from-none w = refl

  -- ---- whole runs

  -- the log of a run has its schedule
  pub log_schedule : (events : List Event) (w last : World) → IsTeamWorld tasks w → run_of (after_event value) w events ≡ Some last → schedule (log_from value w events) ≡ events
  log_schedule [] w last team ran = ap schedule (log_from-none w)
  log_schedule (event ∷ events) w last team ran =
      let parts = run_parts (after_event value) w last event events ran in
      let is = event_is_step value w (team_lists tasks w team) event parts.0 parts.1 in
      ap schedule (log_from-cons w parts.0 event events parts.1)
      ∙ filter_map-append event_of (log_after value w event) (log_from value parts.0 events)
      ∙ ap (λ es. schedule es ++ schedule (log_from value parts.0 events)) (log_is [] w event parts.0 team is)
      ∙ ap (λ es. es ++ schedule (log_from value parts.0 events)) (entries_schedule event (taken w event) (sent_in is.step))
      ∙ ap (λ es. event ∷ es) (log_schedule events parts.0 last (event_keeps_team value tasks w event parts.0 team parts.1) parts.2)

  pub record IsSound (log : List Entry) (w : World) : Type 0 where
    pub matches : Matches log w
    pub legal : IsHistory log

  pub log_sound : (events : List Event) (past : List Entry) (w last : World) → IsTeamWorld tasks w → Matches past w → IsHistory past
      → run_of (after_event value) w events ≡ Some last → IsSound (past ++ log_from value w events) last
  log_sound [] past w last team matches legal ran =
      subst (λ es. IsSound (past ++ es) last) (sym (log_from-none w))
      (subst (λ es. IsSound es last) (sym (append-nil past))
      (subst (IsSound past) (same_Some w last (sym (run-none (after_event value) w) ∙ ran)) (record { matches = matches; legal = legal })))
  log_sound (event ∷ events) past w last team matches legal ran =
      let parts = run_parts (after_event value) w last event events ran in
      let is = event_is_step value w (team_lists tasks w team) event parts.0 parts.1 in
      let team' = event_keeps_team value tasks w event parts.0 team parts.1 in
      let more = entries_of event (taken w event) (sent_in is.step) in
      let whole = log_sound events (past ++ more) parts.0 last team' (matches_on past w event parts.0 team is team' matches) (still_legal past w event parts.0 team is matches legal) parts.2 in
      subst (λ es. IsSound (past ++ es) last) (sym (log_from-cons w parts.0 event events parts.1 ∙ ap (λ es. es ++ log_from value parts.0 events) (log_is past w event parts.0 team is)))
      (subst (λ es. IsSound es last) (append_assoc past more (log_from value parts.0 events)) whole)

  -- each entry is one of the team's agents
  abbrev pub IsOfTeam : Entry → Type 0
  IsOfTeam e = (t : AgentTask) × Contains tasks t × (owner_of e ≡ t.me)

  pub log_owners : (events : List Event) (w last : World) → IsTeamWorld tasks w → run_of (after_event value) w events ≡ Some last → All IsOfTeam (log_from value w events)
  log_owners [] w last team ran = subst (All IsOfTeam) (sym (log_from-none w)) (All-nil IsOfTeam)
  log_owners (event ∷ events) w last team ran =
      let parts = run_parts (after_event value) w last event events ran in
      let is = event_is_step value w (team_lists tasks w team) event parts.0 parts.1 in
      let of = member_of tasks numbered w team (agent_of event) is.agent is.there in
      let more = entries_of event (taken w event) (sent_in is.step) in
      let owners = All-weaker (λ e. owner_of e ≡ agent_of event) IsOfTeam (λ e own. (is.agent.task, of.task, own ∙ sym of.me)) more (entries_owners event (taken w event) (sent_in is.step)) in
      subst (All IsOfTeam) (sym (log_from-cons w parts.0 event events parts.1 ∙ ap (λ es. es ++ log_from value parts.0 events) (log_is [] w event parts.0 team is)))
      (All-append IsOfTeam more (log_from value parts.0 events) owners
      (log_owners events parts.0 last (event_keeps_team value tasks w event parts.0 team parts.1) parts.2))

  -- what an agent has done in a run
  pub record HasPart (w last : World) (agent : ℕ) (r : AgentRecord) (log : List Entry) : Type 0 where
    pub final : AgentRecord
    pub there : agent_at last agent ≡ Some final
    pub done : HasDone (value r.task) r (part log agent) final

  pub log_part : (events : List Event) (w last : World) → IsTeamWorld tasks w → run_of (after_event value) w events ≡ Some last
      → (agent : ℕ) (r : AgentRecord) → agent_at w agent ≡ Some r → HasPart w last agent r (log_from value w events)
  log_part [] w last team ran agent r there =
      let same : w ≡ last = same_Some w last (sym (run-none (after_event value) w) ∙ ran) in
      record {
        final = r;
        there = subst (λ v. agent_at v agent ≡ Some r) same there;
        done = subst (λ es. HasDone (value r.task) r (part es agent) r) (sym (log_from-none w)) (nothing r);
      }
  log_part (event ∷ events) w last team ran agent r there =
      by (agent_of event == agent) refl (λ i x at. log_part events parts.0 last team' parts.2 i x at)
    where
      parts : (t : World) × (after_event value w event ≡ Some t) × (run_of (after_event value) t events ≡ Some last)
      parts = run_parts (after_event value) w last event events ran

      is : IsStepOf value w event parts.0
      is = event_is_step value w (team_lists tasks w team) event parts.0 parts.1

      team' : IsTeamWorld tasks parts.0
      team' = event_keeps_team value tasks w event parts.0 team parts.1

      more : List Entry
      more = entries_of event (taken w event) (sent_in is.step)

      rest : List Entry
      rest = log_from value parts.0 events

      whole : part (log_from value w (event ∷ events)) agent ≡ part more agent ++ part rest agent
      whole =
          ap (λ es. part es agent) (log_from-cons w parts.0 event events parts.1 ∙ ap (λ es. es ++ rest) (log_is [] w event parts.0 team is))
          ∙ filter-append (λ e. owner_of e == agent) more rest

      by : (b : Bool) → (agent_of event == agent) ≡ b → ((i : ℕ) (x : AgentRecord) → agent_at parts.0 i ≡ Some x → HasPart parts.0 last i x rest) → HasPart w last agent r (log_from value w (event ∷ events))
      by false apart others =
          let later = others agent r (is.others agent (λ e. eqb-false (agent_of event) agent apart (sym e)) ∙ there) in
          record {
            final = later.final;
            there = later.there;
            done = subst (λ es. HasDone (value r.task) r es later.final) (sym (whole ∙ ap (λ es. es ++ part rest agent) (part_others (agent_of event) agent more apart (entries_owners event (taken w event) (sent_in is.step))))) later.done;
          }
      by true test others =
          let mine : agent_of event ≡ agent = eqb-true (agent_of event) agent test in
          let same_one : is.agent ≡ r = same_Some is.agent r (sym is.there ∙ ap (agent_at w) mine ∙ there) in
          let task : is.step.after.task ≡ is.agent.task = local_keeps_task (value is.agent.task) is.agent (local_of event) (taken w event) is.step is.local in
          let later = others agent is.step.after (sym (ap (agent_at parts.0) mine) ∙ is.after) in
          let of = member_of tasks numbered w team (agent_of event) is.agent is.there in
          let own : part more agent ≡ more = subst (λ i. part more i ≡ more) mine (part_own (agent_of event) more (entries_owners event (taken w event) (sent_in is.step))) in
          let more_done : HasDone (value is.agent.task) is.agent (more ++ part rest agent) later.final =
          onward is.agent later.final event (taken w event) is.step (part rest agent) (sym of.me) is.may is.local (subst (λ t. HasDone (value t) is.step.after (part rest agent) later.final) task later.done) in
          record {
            final = later.final;
            there = later.there;
            done =
                subst (λ es. HasDone (value r.task) r es later.final) (sym (whole ∙ ap (λ es. es ++ part rest agent) own))
                (subst (λ x. HasDone (value x.task) x (more ++ part rest agent) later.final) same_one more_done);
          }

  -- nothing is under way at the start
  pub start_matches : (limit : ℕ) → Matches [] (start_world (team_with value limit tasks))
  start_matches limit from to is_from is_to =
      let n = length tasks in
      let size = team_size tasks (start_world (team_with value limit tasks)) (start_is_team (team_with value limit tasks)) in
      let low_from = is_from.from_1 in
      let low_to = is_to.from_1 in
      let high_from = is_from.at_most in
      let high_to = is_to.at_most in
      record {
        same =
            ap (λ row. slice_index_or row (to - 1) []) (get_or-replicate n (from - 1) (replicate n []) [] (omega arith))
            ∙ get_or-replicate n (to - 1) [] [] (omega arith);
        within = omega arith;
      }

  module _ (limit : ℕ) (events : List Event) (last : World) (ran : run_of (after_event value) (start_world (team_with value limit tasks)) events ≡ Some last) where
    abbrev start : World
    start = start_world (team_with value limit tasks)

    team : IsTeamWorld tasks start
    team = start_is_team (team_with value limit tasks)

    sound : IsSound (log_of_run (team_with value limit tasks) events) last
    sound = log_sound events [] start last team (start_matches limit) history_empty ran

    pub run_log_schedule : schedule (log_of_run (team_with value limit tasks) events) ≡ events
    run_log_schedule = log_schedule events start last team ran

    pub run_log_mail : (from to : ℕ) → IsAgent last from → IsAgent last to → under_way last from to ≡ under_way_in from to (log_of_run (team_with value limit tasks) events)
    run_log_mail from to is_from is_to = (sound.matches from to is_from is_to).same

    pub run_log_is_log : IsLog (team_with value limit tasks) (log_of_run (team_with value limit tasks) events)
    run_log_is_log = record {
      history = sound.legal;
      of_team = λ e there. All-contains IsOfTeam (log_of_run (team_with value limit tasks) events) e (log_owners events start last team ran) there;
      parts = λ t there. part_of t there;
    }
      where
        part_of : (t : AgentTask) → Contains tasks t → IsLocalLog value limit t (part (log_of_run (team_with value limit tasks) events) t.me)
        part_of t there =
            let found = task_there tasks numbered start team t there in
            let p = log_part events start last team ran t.me found.0 found.1 in
            let fresh : found.0 ≡ new_record t (value t) limit = new_at (team_with value limit tasks) t.me found.0 found.1 ∙ ap (λ u. new_record u (value u) limit) found.2 in
            record {
              last = p.final;
              done = subst (λ (r : AgentRecord). HasDone (value r.task) r (part (log_of_run (team_with value limit tasks) events) t.me) p.final) fresh p.done;
            }
