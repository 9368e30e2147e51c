-- A log of a team has a run, in which each agent does what its part of the log says.
use Rattle.mp_world.proofs.Basics.{◌≡◌, ◌≢◌, ℕ, ◌+◌, ◌≤◌, Bool, true, false, ◌&&◌, List, [], ◌∷◌, ◌++◌, length, map, drop, Option, Some, None, refl, sym, ap, subst, ◌∙◌, append_assoc, append-nil, arith, length-append, Result, Ok, ◌==◌, Contains, if◌then◌else◌, not}
use Rattle.mp_world.proofs.Basics.{slice_get, slice_index_or, option_and_then, option_map_or, eqb-suc-zero, eq-eqb, eqb-false, eqb-true, Contains-append_right, filter-append, filter_map-append, get_or_from_slice_get, none-some, same_Some}
use Rattle.std.proofs.lemmas.List.{append_cancel_left, drop-append-le, length-take}
use Rattle.mp_runs.specs.Run.{run as run_of}
use Rattle.mp_runs.proofs.Runs.{run-first, run-none}
use Rattle.mp_list.proofs.Members.{contains_head}
use Rattle.mp_messages.specs.declared.history.Entry.{Entry}
use Rattle.mp_messages.specs.declared.history.Entry.TheVariants.{Act, Put, Took}
use Rattle.mp_messages.specs.History.{IsHistory, MayFollow, agent_of as owner_of, put_between, received, taken_between, under_way as under_way_in}
use Rattle.mp_messages.proofs.Histories.{history_front, history_in_order}
use Rattle.mp_world.specs.AgentWords.{AgentTask, Event, Expand, Take, Start, part, schedule, sent, Out, BadKind, AgentRecord, new_record, local, may, Step}
use Rattle.mp_world.specs.SearchWords.{Numbers}
use Rattle.mp_world.specs.Events.{after_event, after_local, agent_may, agent_of, has_message, if_good, is_legal, local_of, local_step, sent_in, taken}
use Rattle.mp_world.specs.Logs.{HasDone, HasRun, IsLog, entries_if_good, entries_of, entry_of, log_after, log_from, log_of_run, put_by}
use Rattle.mp_world.specs.Logs.HasDone.{nothing, onward}
use Rattle.mp_world.specs.Steps.{IsStepOf, sent_between, sent_to}
use Rattle.mp_world.specs.Team.{Team}
use Rattle.mp_world.specs.Values.{Values}
use Rattle.mp_world.specs.World.{AreNumbered, IsAgent, IsTeamWorld, World, agent_at, start_world, under_way}
use Rattle.mp_world.proofs.Agents.{agent_there, member_of, sender_of, task_there}
use Rattle.mp_world.proofs.Entries.{eqb-turned, entries_owners, entries_received, part_others, part_own, put_sent, taken_from}
use Rattle.mp_world.proofs.LogOfRun.{drop_twice, left_over, log_from-cons, log_from-none, log_part, new_at, run_log_mail, start_matches}
use Rattle.mp_world.proofs.Mail.{IsAgent-agents, agent_of_team, sent_from, sent_to-cons}
use Rattle.mp_world.proofs.Runs.{run_of_team}
use Rattle.mp_world.proofs.Stepping.{event_is_step, event_keeps_team, start_is_team, team_lists, team_size}
use Rattle.mp_world.proofs.Tasks.{local_keeps_task}

-- ---- lists and results that are one

same_head : {X : Type 0} (x y : X) (xs ys : List X) → x ∷ xs ≡ y ∷ ys → x ≡ y
same_head x y xs ys same = cc

same_tail : {X : Type 0} (x y : X) (xs ys : List X) → x ∷ xs ≡ y ∷ ys → xs ≡ ys
same_tail x y xs ys same = cc

not_longer : {X : Type 0} (x : X) (xs : List X) → [] ≡ x ∷ xs → ⊥
not_longer x xs same = let impossible : ⊥ = cc in impossible

same_step : (result : Result Step BadKind) (s u : Step) → result ≡ Ok s → result ≡ Ok u → s ≡ u
same_step result s u first second = cc

-- ---- what an agent has done, by its first event

module _ (value : Numbers → Numbers → Option ℕ) where
  record First (r : AgentRecord) (e : Entry) (es : List Entry) (last : AgentRecord) : Type 0 where
    event : Event
    bytes : List ℕ
    step : Step
    later : List Entry
    own : agent_of event ≡ r.task.me
    may : may r (local_of event) ≡ true
    local : local value r (local_of event) bytes ≡ Ok step
    entry : entry_of event bytes ≡ e
    others : map (put_by (agent_of event)) (sent_in step) ++ later ≡ es
    done : HasDone value step.after later last

  done_first : (r last : AgentRecord) (log : List Entry) → HasDone value r log last → (e : Entry) (es : List Entry) → log ≡ e ∷ es → First r e es last
  done_first r last log (nothing _) e es is = absurd (not_longer e es is)
  done_first r last log (onward _ _ event bytes s later own allowed leads rest) e es is = record {
    event = event;
    bytes = bytes;
    step = s;
    later = later;
    own = own;
    may = allowed;
    local = leads;
    entry = same_head (entry_of event bytes) e (map (put_by (agent_of event)) (sent_in s) ++ later) es is;
    others = same_tail (entry_of event bytes) e (map (put_by (agent_of event)) (sent_in s) ++ later) es is;
    done = rest;
  }

  done_end : (r last : AgentRecord) (log : List Entry) → HasDone value r log last → log ≡ [] → r ≡ last
  done_end r last log (nothing _) is = refl
  done_end r last log (onward _ _ event bytes s later own allowed leads rest) is =
      absurd (not_longer (entry_of event bytes) (map (put_by (agent_of event)) (sent_in s) ++ later) (sym is))

  -- events of one entry are one, and lead to the same
  same_event : (a b : Event) (bytes others : List ℕ) → entry_of a bytes ≡ entry_of b others → (r : AgentRecord)
      → (a ≡ b) × (local value r (local_of a) bytes ≡ local value r (local_of b) others)
  same_event (Expand i) (Expand j) bytes others same r = (cc, refl)
  same_event (Take i j) (Take k l) bytes others same r =
      let from : j ≡ l = cc in
      let message : bytes ≡ others = cc in
      (cc, ap (λ n. local value r (local_of (Take i n)) bytes) from ∙ ap (λ m. local value r (local_of (Take k l)) m) message)
  same_event Start Start bytes others same r = (refl, refl)
  same_event (Expand i) (Take k l) bytes others same r = absurd (let impossible : ⊥ = cc in impossible)
  same_event (Expand i) Start bytes others same r = absurd (let impossible : ⊥ = cc in impossible)
  same_event (Take i j) (Expand k) bytes others same r = absurd (let impossible : ⊥ = cc in impossible)
  same_event (Take i j) Start bytes others same r = absurd (let impossible : ⊥ = cc in impossible)
  same_event Start (Expand k) bytes others same r = absurd (let impossible : ⊥ = cc in impossible)
  same_event Start (Take k l) bytes others same r = absurd (let impossible : ⊥ = cc in impossible)

  -- what an agent does leads to one record
  pub done_same : (r a b : AgentRecord) (log : List Entry) → HasDone value r log a → HasDone value r log b → a ≡ b
  done_same r a b log (nothing _) second = done_end r b [] second refl
  done_same r a b log (onward _ _ event bytes s later own allowed leads rest) second =
      let puts = map (put_by (agent_of event)) (sent_in s) in
      let f = done_first r b (entries_of event bytes (sent_in s) ++ later) second (entry_of event bytes) (puts ++ later) refl in
      let same = same_event f.event event f.bytes bytes f.entry r in
      let step : f.step ≡ s = same_step (local value r (local_of event) bytes) f.step s (sym same.1 ∙ f.local) leads in
      let front : map (put_by (agent_of f.event)) (sent_in f.step) ≡ puts =
      ap (λ e. map (put_by (agent_of e)) (sent_in f.step)) same.0 ∙ ap (λ u. map (put_by (agent_of event)) (sent_in u)) step in
      let others : f.later ≡ later = append_cancel_left puts f.later later (ap (λ es. es ++ f.later) (sym front) ∙ f.others) in
      done_same s.after a b later rest (subst (λ es. HasDone value s.after es b) others (subst (λ (u : Step). HasDone value u.after f.later b) step f.done))

-- ---- parts of a log with one entry more

part_mine : (e : Entry) (es : List Entry) (agent : ℕ) → owner_of e ≡ agent → part (e ∷ es) agent ≡ e ∷ part es agent
part_mine e es agent own = rw (eq-eqb (owner_of e) agent own) refl

part_other : (e : Entry) (es : List Entry) (agent : ℕ) → owner_of e ≢ agent → part (e ∷ es) agent ≡ part es agent
part_other e es agent apart = by (owner_of e == agent) refl
  where
    by : (b : Bool) → (owner_of e == agent) ≡ b → part (e ∷ es) agent ≡ part es agent
    by true same = absurd (apart (eqb-true (owner_of e) agent same))
    by false test = rw test refl

-- ---- an event that may happen leads to a world

module _ (value : Values) (w : World) (event : Event) (r : AgentRecord) (s : Step) where
  pub event_leads : agent_at w (agent_of event) ≡ Some r → may r (local_of event) ≡ true → has_message w event ≡ true → local_step value w event r ≡ Ok s
      → after_event value w event ≡ Some (after_local w event s)
  unfolding after_event
  event_leads there allowed message leads =
      ap (λ b. if b then option_and_then (λ x. if_good w event (local_step value w event x)) (agent_at w (agent_of event)) else None) legal
      ∙ ap (option_and_then (λ x. if_good w event (local_step value w event x))) there
      ∙ ap (if_good w event) leads
    where
      by_agent : agent_may w event ≡ true
      by_agent = ap (λ o. option_map_or (λ (x : AgentRecord). may x (local_of event)) o false) there ∙ allowed

      legal : is_legal w event ≡ true
      legal = λ j. by_agent j && message j

-- ---- a message that was put and not taken

first_of : (xs ys : List (List ℕ)) (x : List ℕ) → slice_get xs 0 ≡ Some x → slice_get (xs ++ ys) 0 ≡ Some x
first_of [] ys x is = absurd (none-some x is)
first_of (z ∷ zs) ys x is = is

some_there : (xs : List (List ℕ)) (x : List ℕ) → slice_get xs 0 ≡ Some x → not (length xs == 0) ≡ true
some_there [] x is = absurd (none-some x is)
some_there (z ∷ zs) x is = ap not (eqb-suc-zero (length zs))

-- in a history no more is taken than was put
no_more_taken : (from to : ℕ) (log : List Entry) → IsHistory log → length (received from to log) ≤ length (sent from to log)
no_more_taken from to log legal =
    let many = ap length (history_in_order from to log legal) ∙ length-take (length (received from to log)) (sent from to log) in
    omega arith

-- ---- an entry of an event alone

own_sent : (from to : ℕ) (event : Event) (bytes : List ℕ) → sent from to (entry_of event bytes ∷ []) ≡ []
own_sent from to (Expand agent) bytes = refl
own_sent from to (Take by sender) bytes = refl
own_sent from to Start bytes = refl

own_schedule : (event : Event) (bytes : List ℕ) (rest : List Entry) → schedule (entry_of event bytes ∷ rest) ≡ event ∷ schedule rest
own_schedule (Expand agent) bytes rest = refl
own_schedule (Take by sender) bytes rest = refl
own_schedule Start bytes rest = refl

-- nothing is left to be put where nothing is left
none_put : (agent : ℕ) (outs : List Out) (later more : List Entry) → [] ≡ map (put_by agent) outs ++ later → more ≡ [] → [] ≡ map (put_by agent) outs ++ more
none_put agent [] later more is none = sym none
none_put agent (x ∷ xs) later more is none = absurd (not_longer (put_by agent x) (map (put_by agent) xs ++ later) is)

module _ (value : Values) (tasks : List AgentTask) (numbered : AreNumbered tasks) (log : List Entry) where
  -- What an agent has still to do from a place of the log on: it has put some messages in the world and not yet in the log, and
  -- behind them stands what its next steps leave.
  record Doing (w : World) (rest : List Entry) (outs : List Out) (agent : ℕ) : Type 0 where
    r : AgentRecord
    there : agent_at w agent ≡ Some r
    later : List Entry
    final : AgentRecord
    is : part rest agent ≡ map (put_by agent) outs ++ later
    done : HasDone (value r.task) r later final

  -- a place of the log, and the world after the events before it
  record State (past rest : List Entry) (w : World) (outs : ℕ → List Out) : Type 0 where
    team : IsTeamWorld tasks w
    whole : log ≡ past ++ rest
    doing : (agent : ℕ) → IsAgent w agent → Doing w rest (outs agent) agent
    mail : (from to : ℕ) → IsAgent w from → IsAgent w to
        → under_way w from to ≡ drop (length (received from to past)) (sent from to past ++ sent_to to (outs from))

  -- the events of the rest of the log have a run from the world, with the same parts
  record Ran (rest : List Entry) (w : World) (outs : ℕ → List Out) : Type 0 where
    last : World
    ran : run_of (after_event value) w (schedule rest) ≡ Some last
    parts : (agent : ℕ) → IsAgent w agent → part rest agent ≡ map (put_by agent) (outs agent) ++ part (log_from value w (schedule rest)) agent

  ran_none : (past : List Entry) (w : World) (outs : ℕ → List Out) → State past [] w outs → Ran [] w outs
  ran_none past w outs state = record {
    last = w;
    ran = run-none (after_event value) w;
    parts = λ agent is. none_put agent (outs agent) (state.doing agent is).later (part (log_from value w []) agent) (state.doing agent is).is
        (ap (λ es. part es agent) (log_from-none value tasks numbered w));
  }

  module _ (legal : IsHistory log) (owners : (e : Entry) → Contains log e → (t : AgentTask) × Contains tasks t × (owner_of e ≡ t.me)) where
    -- the next entry
    module _ (past rest : List Entry) (e : Entry) (w : World) (outs : ℕ → List Out) (state : State past (e ∷ rest) w outs) where
      abbrev a : ℕ
      a = owner_of e

      is_a : IsAgent w a
      is_a =
          let own = owners e (subst (λ es. Contains es e) (sym state.whole) (Contains-append_right past (e ∷ rest) e (contains_head e rest))) in
          let found = task_there tasks numbered w state.team own.0 own.1 in
          subst (IsAgent w) (sym own.2) (agent_of_team w own.0.me found.0 found.1)

      whole_on : log ≡ (past ++ e ∷ []) ++ rest
      whole_on = state.whole ∙ sym (append_assoc past (e ∷ []) rest)

      legal_on : IsHistory (past ++ e ∷ [])
      legal_on = history_front (past ++ e ∷ []) rest (subst IsHistory whole_on legal)

      legal_past : IsHistory past
      legal_past = history_front past (e ∷ rest) (subst IsHistory state.whole legal)

      -- the agent has other messages still to be put
      abbrev with_outs : List Out → ℕ → List Out
      with_outs new agent = if agent == a then new else outs agent

      -- a message that is put in the log
      module _ (x : Out) (xs : List Out) (put : outs (owner_of e) ≡ x ∷ xs) where
        it_is : e ≡ put_by (owner_of e) x
        it_is =
            same_head e (put_by a x) (part rest a) (map (put_by a) xs ++ (state.doing a is_a).later)
            (sym (part_mine e rest a refl) ∙ (state.doing a is_a).is ∙ ap (λ o. map (put_by a) o ++ (state.doing a is_a).later) put)

        put_doing : (agent : ℕ) → IsAgent w agent → (b : Bool) → (agent == owner_of e) ≡ b → Doing w rest (if b then xs else outs agent) agent
        put_doing agent is true test =
            let d = state.doing agent is in
            let mine : agent ≡ owner_of e = eqb-true agent (owner_of e) test in
            record {
              r = d.r;
              there = d.there;
              later = d.later;
              final = d.final;
              is = same_tail e (put_by agent x) (part rest agent) (map (put_by agent) xs ++ d.later)
                  (sym (part_mine e rest agent (sym mine)) ∙ d.is ∙ ap (λ o. map (put_by agent) o ++ d.later) (ap outs mine ∙ put));
              done = d.done;
            }
        put_doing agent is false test =
            let d = state.doing agent is in
            record {
              r = d.r;
              there = d.there;
              later = d.later;
              final = d.final;
              is = sym (part_other e rest agent (λ same. eqb-false agent (owner_of e) test (sym same))) ∙ d.is;
              done = d.done;
            }

        received_on : (from to : ℕ) → received from to (past ++ e ∷ []) ≡ received from to past
        received_on from to =
            filter_map-append (taken_between from to) past (e ∷ [])
            ∙ ap (λ y. received from to past ++ received from to (y ∷ [])) it_is
            ∙ append-nil (received from to past)

        sent_on : (from to : ℕ) → sent from to (past ++ e ∷ []) ≡ sent from to past ++ sent_from (owner_of e) from to (x ∷ [])
        sent_on from to =
            filter_map-append (put_between from to) past (e ∷ [])
            ∙ ap (λ y. sent from to past ++ sent from to (y ∷ [])) it_is
            ∙ ap (λ ms. sent from to past ++ ms) (put_sent from to (owner_of e) (x ∷ []))

        -- what was put in the world and what stands in the log are together as before
        together : (from to : ℕ) (b : Bool) → (from == owner_of e) ≡ b
            → sent from to (past ++ e ∷ []) ++ sent_to to (if b then xs else outs from) ≡ sent from to past ++ sent_to to (outs from)
        together from to true test =
            ap (λ ms. ms ++ sent_to to xs) (sent_on from to ∙ ap (λ b. sent from to past ++ (if b then sent_to to (x ∷ []) else [])) test)
            ∙ append_assoc (sent from to past) (sent_to to (x ∷ [])) (sent_to to xs)
            ∙ ap (λ ms. sent from to past ++ ms) (sent_to-cons to x xs)
            ∙ ap (λ o. sent from to past ++ sent_to to o) (sym (ap outs (eqb-true from (owner_of e) test) ∙ put))
        together from to false test =
            ap (λ ms. ms ++ sent_to to (outs from))
            (sent_on from to ∙ ap (λ b. sent from to past ++ (if b then sent_to to (x ∷ []) else [])) test ∙ append-nil (sent from to past))

        put_state : State (past ++ e ∷ []) rest w (with_outs xs)
        put_state = record {
          team = state.team;
          whole = whole_on;
          doing = λ agent is. put_doing agent is (agent == owner_of e) refl;
          mail = λ from to is_from is_to.
              state.mail from to is_from is_to
              ∙ ap (λ ms. drop (length (received from to past)) ms) (sym (together from to (from == owner_of e) refl))
              ∙ ap (λ ms. drop (length ms) (sent from to (past ++ e ∷ []) ++ sent_to to (with_outs xs from))) (sym (received_on from to));
        }

        put_ran : Ran rest w (with_outs xs) → Ran (e ∷ rest) w outs
        put_ran later = record {
          last = later.last;
          ran = ap (λ events. run_of (after_event value) w events) same ∙ later.ran;
          parts = λ agent is. by agent (agent == owner_of e) refl (later.parts agent is);
        }
          where
            same : schedule (e ∷ rest) ≡ schedule rest
            same = ap (λ y. schedule (y ∷ rest)) it_is

            by : (agent : ℕ) (b : Bool) → (agent == owner_of e) ≡ b
                → part rest agent ≡ map (put_by agent) (if b then xs else outs agent) ++ part (log_from value w (schedule rest)) agent
                → part (e ∷ rest) agent ≡ map (put_by agent) (outs agent) ++ part (log_from value w (schedule (e ∷ rest))) agent
            by agent true test is =
                let mine : agent ≡ owner_of e = eqb-true agent (owner_of e) test in
                let more = part (log_from value w (schedule rest)) agent in
                part_mine e rest agent (sym mine)
                ∙ ap (λ y. y ∷ part rest agent) (it_is ∙ ap (λ i. put_by i x) (sym mine))
                ∙ ap (λ es. put_by agent x ∷ es) is
                ∙ ap (λ o. map (put_by agent) o ++ more) (sym (ap outs mine ∙ put))
                ∙ ap (λ events. map (put_by agent) (outs agent) ++ part (log_from value w events) agent) (sym same)
            by agent false test is =
                part_other e rest agent (λ mine. eqb-false agent (owner_of e) test (sym mine)) ∙ is
                ∙ ap (λ events. map (put_by agent) (outs agent) ++ part (log_from value w events) agent) (sym same)

      -- an event
      module _ (none : outs (owner_of e) ≡ []) where
        mine : Doing w (e ∷ rest) (outs (owner_of e)) (owner_of e)
        mine = state.doing (owner_of e) is_a

        first : First (value mine.r.task) mine.r e (part rest (owner_of e)) mine.final
        first =
            done_first (value mine.r.task) mine.r mine.final mine.later mine.done e (part rest (owner_of e))
            (sym (mine.is ∙ ap (λ o. map (put_by (owner_of e)) o ++ mine.later) none) ∙ part_mine e rest (owner_of e) refl)

        agent_is : agent_of first.event ≡ owner_of e
        agent_is = first.own ∙ (member_of tasks numbered w state.team (owner_of e) mine.r mine.there).me

        there_is : agent_at w (agent_of first.event) ≡ Some mine.r
        there_is = ap (agent_at w) agent_is ∙ mine.there

        -- the message that is taken in the log is the one that is taken in the world
        record Alike (event : Event) (bytes : List ℕ) : Type 0 where
          message : has_message w event ≡ true
          entry : entry_of event (taken w event) ≡ entry_of event bytes
          leads : local_step value w event mine.r ≡ local (value mine.r.task) mine.r (local_of event) bytes

        alike : (event : Event) (bytes : List ℕ) → first.event ≡ event → first.bytes ≡ bytes → Alike event bytes
        alike (Expand agent) bytes is same = record { message = refl; entry = refl; leads = refl }
        alike Start bytes is same = record { message = refl; entry = refl; leads = refl }
        alike (Take by from) bytes is same = record {
          message = some_there (under_way w from by) bytes oldest;
          entry = ap (entry_of (Take by from)) taken_is;
          leads = ap (local (value mine.r.task) mine.r (local_of (Take by from))) taken_is;
        }
          where
            there_by : agent_at w by ≡ Some mine.r
            there_by = ap (λ event. agent_at w (agent_of event)) (sym is) ∙ there_is

            is_by : IsAgent w by
            is_by = agent_of_team w by mine.r there_by

            is_from : IsAgent w from
            is_from = (sender_of tasks numbered w state.team by from mine.r there_by (ap (λ event. may mine.r (local_of event)) (sym is) ∙ first.may)).0

            entry_is : e ≡ entry_of (Take by from) bytes
            entry_is = sym first.entry ∙ ap (λ event. entry_of event first.bytes) is ∙ ap (entry_of (Take by from)) same

            follows : slice_get (under_way_in from by past) 0 ≡ Some bytes
            follows = subst (λ y. MayFollow past y) entry_is (legal past rest e state.whole)

            oldest : slice_get (under_way w from by) 0 ≡ Some bytes
            oldest =
                ap (λ ms. slice_get ms 0)
                (state.mail from by is_from is_by ∙ drop-append-le (length (received from by past)) (sent from by past) (sent_to by (outs from)) (no_more_taken from by past legal_past))
                ∙ first_of (under_way_in from by past) (sent_to by (outs from)) bytes follows

            taken_is : slice_index_or (under_way w from by) 0 [] ≡ bytes
            taken_is = get_or_from_slice_get (under_way w from by) 0 bytes [] oldest

        abbrev next : World
        next = after_local w first.event first.step

        same_one : Alike first.event first.bytes
        same_one = alike first.event first.bytes refl refl

        leads_on : after_event value w first.event ≡ Some next
        leads_on = event_leads value w first.event mine.r first.step there_is first.may same_one.message (same_one.leads ∙ first.local)

        is : IsStepOf value w first.event next
        is = event_is_step value w (team_lists tasks w state.team) first.event next leads_on

        step_is : is.step ≡ first.step
        step_is =
            same_step (local_step value w first.event mine.r) is.step first.step
            (ap (local_step value w first.event) (same_Some mine.r is.agent (sym there_is ∙ is.there)) ∙ is.local)
            (same_one.leads ∙ first.local)

        team_on : IsTeamWorld tasks next
        team_on = event_keeps_team value tasks w first.event next state.team leads_on

        back : (agent : ℕ) → IsAgent next agent → IsAgent w agent
        back agent = IsAgent-agents w next agent (team_size tasks w state.team ∙ sym (team_size tasks next team_on))

        on : (agent : ℕ) → IsAgent w agent → IsAgent next agent
        on agent = IsAgent-agents next w agent (team_size tasks next team_on ∙ sym (team_size tasks w state.team))

        event_doing : (agent : ℕ) → IsAgent w agent → (b : Bool) → (agent == owner_of e) ≡ b → Doing next rest (if b then sent_in first.step else outs agent) agent
        event_doing agent is_agent true test = subst (λ i. Doing next rest (sent_in first.step) i) (sym (eqb-true agent (owner_of e) test)) (record {
          r = first.step.after;
          there = ap (agent_at next) (sym agent_is) ∙ is.after ∙ ap (λ (u : Step). Some u.after) step_is;
          later = first.later;
          final = mine.final;
          is = sym first.others ∙ ap (λ i. map (put_by i) (sent_in first.step) ++ first.later) agent_is;
          done = subst (λ t. HasDone (value t) first.step.after first.later mine.final)
              (sym (local_keeps_task (value mine.r.task) mine.r (local_of first.event) first.bytes first.step first.local)) first.done;
        })
        event_doing agent is_agent false test =
            let d = state.doing agent is_agent in
            let other : agent ≢ owner_of e = eqb-false agent (owner_of e) test in
            record {
              r = d.r;
              there = is.others agent (λ same. other (same ∙ agent_is)) ∙ d.there;
              later = d.later;
              final = d.final;
              is = sym (part_other e rest agent (λ same. other (sym same))) ∙ d.is;
              done = d.done;
            }

        -- what is taken
        abbrev gone : ℕ → ℕ → List (List ℕ)
        gone from to = taken_from from to first.event (taken w first.event)

        entry_is : e ≡ entry_of first.event (taken w first.event)
        entry_is = sym (same_one.entry ∙ first.entry)

        event_received : (from to : ℕ) → received from to (past ++ e ∷ []) ≡ received from to past ++ gone from to
        event_received from to =
            filter_map-append (taken_between from to) past (e ∷ [])
            ∙ ap (λ y. received from to past ++ received from to (y ∷ [])) entry_is
            ∙ ap (λ ms. received from to past ++ ms) (entries_received from to first.event (taken w first.event) [])

        event_sent : (from to : ℕ) → sent from to (past ++ e ∷ []) ≡ sent from to past
        event_sent from to =
            filter_map-append (put_between from to) past (e ∷ [])
            ∙ ap (λ y. sent from to past ++ sent from to (y ∷ [])) entry_is
            ∙ ap (λ ms. sent from to past ++ ms) (own_sent from to first.event (taken w first.event))
            ∙ append-nil (sent from to past)

        -- what goes out behind what was put and not taken
        behind : (from to : ℕ) (n : ℕ) → n ≤ length (sent from to past) → (b : Bool) → (from == owner_of e) ≡ b
            → drop n (sent from to past ++ sent_to to (outs from)) ++ (if b then sent_to to (sent_in first.step) else [])
            ≡ drop n (sent from to past ++ sent_to to (if b then sent_in first.step else outs from))
        behind from to n short true test =
            ap (λ o. drop n (sent from to past ++ sent_to to o) ++ sent_to to (sent_in first.step)) (ap outs (eqb-true from (owner_of e) test) ∙ none)
            ∙ ap (λ ms. drop n ms ++ sent_to to (sent_in first.step)) (append-nil (sent from to past))
            ∙ sym (drop-append-le n (sent from to past) (sent_to to (sent_in first.step)) short)
        behind from to n short false test = append-nil (drop n (sent from to past ++ sent_to to (outs from)))

        event_mail : (from to : ℕ) → IsAgent w from → IsAgent w to
            → under_way next from to ≡ drop (length (received from to (past ++ e ∷ []))) (sent from to (past ++ e ∷ []) ++ sent_to to (with_outs (sent_in first.step) from))
        event_mail from to is_from is_to =
            let taken_away = left_over value tasks numbered past w first.event next state.team is from to is_from is_to first.event refl in
            let g = gone from to in
            let k = length (received from to past) in
            let many : length (received from to (past ++ e ∷ [])) ≡ k + length g = ap length (event_received from to) ∙ length-append (received from to past) g in
            let all = ap length (event_sent from to) in
            let short = no_more_taken from to (past ++ e ∷ []) legal_on in
            is.mail from to is_from is_to
            ∙ ap (λ ms. ms ++ sent_between first.event is.step from to) (taken_away.left ∙ ap (drop (length g)) (state.mail from to is_from is_to) ∙ sym (drop_twice k (length g) (sent from to past ++ sent_to to (outs from))))
            ∙ ap (λ (u : Step). drop (k + length g) (sent from to past ++ sent_to to (outs from)) ++ sent_between first.event u from to) step_is
            ∙ ap (λ i. drop (k + length g) (sent from to past ++ sent_to to (outs from)) ++ (if from == i then sent_to to (sent_in first.step) else [])) agent_is
            ∙ behind from to (k + length g) (omega arith) (from == owner_of e) refl
            ∙ ap (λ n. drop n (sent from to past ++ sent_to to (with_outs (sent_in first.step) from))) (sym many)
            ∙ ap (λ ms. drop (length (received from to (past ++ e ∷ []))) (ms ++ sent_to to (with_outs (sent_in first.step) from))) (sym (event_sent from to))

        event_state : State (past ++ e ∷ []) rest next (with_outs (sent_in first.step))
        event_state = record {
          team = team_on;
          whole = whole_on;
          doing = λ agent is_agent. event_doing agent (back agent is_agent) (agent == owner_of e) refl;
          mail = λ from to is_from is_to. event_mail from to (back from is_from) (back to is_to);
        }

        -- the entries of the event in the log of the run
        abbrev new : List Entry
        new = entries_of first.event (taken w first.event) (sent_in first.step)

        new_is : log_after value w first.event ≡ new
        new_is =
            ap (λ o. option_map_or (λ x. entries_if_good value w first.event (local_step value w first.event x)) o []) there_is
            ∙ ap (entries_if_good value w first.event) (same_one.leads ∙ first.local)

        event_ran : Ran rest next (with_outs (sent_in first.step)) → Ran (e ∷ rest) w outs
        event_ran later = record {
          last = later.last;
          ran = ap (λ events. run_of (after_event value) w events) same ∙ run-first (after_event value) w next first.event (schedule rest) leads_on ∙ later.ran;
          parts = λ agent is_agent. by agent (agent == owner_of e) refl (later.parts agent (on agent is_agent));
        }
          where
            same : schedule (e ∷ rest) ≡ first.event ∷ schedule rest
            same = ap (λ y. schedule (y ∷ rest)) entry_is ∙ own_schedule first.event (taken w first.event) rest

            more : List Entry
            more = log_from value next (schedule rest)

            whole_log : (agent : ℕ) → part (log_from value w (schedule (e ∷ rest))) agent ≡ part new agent ++ part more agent
            whole_log agent =
                ap (λ es. part es agent)
                (ap (log_from value w) same ∙ log_from-cons value tasks numbered w next first.event (schedule rest) leads_on ∙ ap (λ es. es ++ more) new_is)
                ∙ filter-append (λ y. owner_of y == agent) new more

            by : (agent : ℕ) (b : Bool) → (agent == owner_of e) ≡ b
                → part rest agent ≡ map (put_by agent) (if b then sent_in first.step else outs agent) ++ part more agent
                → part (e ∷ rest) agent ≡ map (put_by agent) (outs agent) ++ part (log_from value w (schedule (e ∷ rest))) agent
            by agent true test is_rest =
                let own : agent ≡ owner_of e = eqb-true agent (owner_of e) test in
                let by_it : agent_of first.event ≡ agent = agent_is ∙ sym own in
                let all_own : part new agent ≡ new = subst (λ i. part new i ≡ new) by_it (part_own (agent_of first.event) new (entries_owners first.event (taken w first.event) (sent_in first.step))) in
                part_mine e rest agent (sym own)
                ∙ ap (λ y. y ∷ part rest agent) entry_is
                ∙ ap (λ es. entry_of first.event (taken w first.event) ∷ es) (is_rest ∙ ap (λ i. map (put_by i) (sent_in first.step) ++ part more agent) (sym by_it))
                ∙ ap (λ es. es ++ part more agent) (sym all_own)
                ∙ sym (whole_log agent)
                ∙ ap (λ o. map (put_by agent) o ++ part (log_from value w (schedule (e ∷ rest))) agent) (sym (ap outs own ∙ none))
            by agent false test is_rest =
                let other : agent ≢ owner_of e = eqb-false agent (owner_of e) test in
                let not_by_it : (agent_of first.event == agent) ≡ false = ap (λ i. i == agent) agent_is ∙ eqb-turned (owner_of e) agent ∙ test in
                part_other e rest agent (λ same'. other (sym same'))
                ∙ is_rest
                ∙ ap (λ es. map (put_by agent) (outs agent) ++ (es ++ part more agent)) (sym (part_others (agent_of first.event) agent new not_by_it (entries_owners first.event (taken w first.event) (sent_in first.step))))
                ∙ ap (λ es. map (put_by agent) (outs agent) ++ es) (sym (whole_log agent))

    -- the rest of the log has a run
    run_rest : (rest past : List Entry) (w : World) (outs : ℕ → List Out) → State past rest w outs → Ran rest w outs
    run_rest [] past w outs state = ran_none past w outs state
    run_rest (e ∷ rest) past w outs state = by (outs (owner_of e)) refl (λ v o s. run_rest rest (past ++ e ∷ []) v o s)
      where
        by : (o : List Out) → outs (owner_of e) ≡ o → ((v : World) (u : ℕ → List Out) → State (past ++ e ∷ []) rest v u → Ran rest v u) → Ran (e ∷ rest) w outs
        by [] none go =
            event_ran past rest e w outs state none
            (go (next past rest e w outs state none) (with_outs past rest e w outs state (sent_in (first past rest e w outs state none).step)) (event_state past rest e w outs state none))
        by (x ∷ xs) put go =
            put_ran past rest e w outs state x xs put
            (go w (with_outs past rest e w outs state xs) (put_state past rest e w outs state x xs put))

-- ---- what is put and taken stands in the parts

sent_part : (from to : ℕ) (log : List Entry) → sent from to log ≡ sent from to (part log from)
sent_part from to [] = refl
sent_part from to (e ∷ es) = by (owner_of e == from) refl (sent_part from to es)
  where
    none : (x : Entry) → (owner_of x == from) ≡ false → sent from to (x ∷ []) ≡ []
    none (Act agent kind) test = refl
    none (Put sender receiver bytes) test = rw test refl
    none (Took by sender bytes) test = refl

    by : (b : Bool) → (owner_of e == from) ≡ b → sent from to es ≡ sent from to (part es from) → sent from to (e ∷ es) ≡ sent from to (part (e ∷ es) from)
    by true test later =
        filter_map-append (put_between from to) (e ∷ []) es ∙ ap (λ ms. sent from to (e ∷ []) ++ ms) later
        ∙ sym (filter_map-append (put_between from to) (e ∷ []) (part es from))
        ∙ ap (sent from to) (sym (part_mine e es from (eqb-true (owner_of e) from test)))
    by false test later =
        filter_map-append (put_between from to) (e ∷ []) es ∙ ap (λ ms. ms ++ sent from to es) (none e test) ∙ later
        ∙ ap (sent from to) (sym (part_other e es from (eqb-false (owner_of e) from test)))

received_part : (from to : ℕ) (log : List Entry) → received from to log ≡ received from to (part log to)
received_part from to [] = refl
received_part from to (e ∷ es) = by (owner_of e == to) refl (received_part from to es)
  where
    none : (x : Entry) → (owner_of x == to) ≡ false → received from to (x ∷ []) ≡ []
    none (Act agent kind) test = refl
    none (Put sender receiver bytes) test = refl
    none (Took by sender bytes) test = not_by (sender == from) refl
      where
        not_by : (b : Bool) → (sender == from) ≡ b → received from to (Took by sender bytes ∷ []) ≡ []
        not_by true is = rw (is, test) refl
        not_by false is = rw is refl

    by : (b : Bool) → (owner_of e == to) ≡ b → received from to es ≡ received from to (part es to) → received from to (e ∷ es) ≡ received from to (part (e ∷ es) to)
    by true test later =
        filter_map-append (taken_between from to) (e ∷ []) es ∙ ap (λ ms. received from to (e ∷ []) ++ ms) later
        ∙ sym (filter_map-append (taken_between from to) (e ∷ []) (part es to))
        ∙ ap (received from to) (sym (part_mine e es to (eqb-true (owner_of e) to test)))
    by false test later =
        filter_map-append (taken_between from to) (e ∷ []) es ∙ ap (λ ms. ms ++ received from to es) (none e test) ∙ later
        ∙ ap (received from to) (sym (part_other e es to (eqb-false (owner_of e) to test)))

-- ---- a log has the run of its schedule

module _ (team : Team) (numbered : AreNumbered team.tasks) (log : List Entry) (is : IsLog team log) where
  open team use {tasks, value, limit}

  abbrev start : World
  start = start_world team

  of_team : IsTeamWorld tasks start
  of_team = start_is_team team

  start_doing : (agent : ℕ) → IsAgent start agent → Doing value tasks numbered log start log [] agent
  start_doing agent is_agent =
      let found = agent_there start agent is_agent in
      let of = member_of tasks numbered start of_team agent found.0 found.1 in
      let p = is.parts found.0.task of.task in
      record {
        r = found.0;
        there = found.1;
        later = part log agent;
        final = p.last;
        is = refl;
        done = subst (λ r. HasDone (value found.0.task) r (part log agent) p.last) (sym (new_at team agent found.0 found.1))
            (subst (λ i. HasDone (value found.0.task) (new_record found.0.task (value found.0.task) limit) (part log i) p.last) of.me p.done);
      }

  start_state : State value tasks numbered log [] log start (λ agent. [])
  start_state = record {
    team = of_team;
    whole = refl;
    doing = start_doing;
    mail = λ from to is_from is_to. (start_matches value tasks numbered limit from to is_from is_to).same;
  }

  ran : Ran value tasks numbered log log start (λ agent. [])
  ran = run_rest value tasks numbered log is.history is.of_team log [] start (λ agent. []) start_state

  abbrev run_log : List Entry
  run_log = log_of_run team (schedule log)

  team_last : IsTeamWorld tasks ran.last
  team_last = run_of_team team (schedule log) ran.last ran.ran

  at_start : (agent : ℕ) → IsAgent ran.last agent → IsAgent start agent
  at_start agent = IsAgent-agents start ran.last agent (team_size tasks start of_team ∙ sym (team_size tasks ran.last team_last))

  parts_are : (agent : ℕ) → IsAgent ran.last agent → part run_log agent ≡ part log agent
  parts_are agent is_agent = sym (ran.parts agent (at_start agent is_agent))

  sent_is : (from to : ℕ) → IsAgent ran.last from → sent from to run_log ≡ sent from to log
  sent_is from to is_from = sent_part from to run_log ∙ ap (sent from to) (parts_are from is_from) ∙ sym (sent_part from to log)

  received_is : (from to : ℕ) → IsAgent ran.last to → received from to run_log ≡ received from to log
  received_is from to is_to = received_part from to run_log ∙ ap (received from to) (parts_are to is_to) ∙ sym (received_part from to log)

  final_is : (t : AgentTask) (here : Contains tasks t) → agent_at ran.last t.me ≡ Some (is.parts t here).last
  final_is t here =
      let found = task_there tasks numbered start of_team t here in
      let p = log_part value tasks numbered (schedule log) start ran.last of_team ran.ran t.me found.0 found.1 in
      let fresh : found.0 ≡ new_record t (value t) limit = new_at team t.me found.0 found.1 ∙ ap (λ u. new_record u (value u) limit) found.2 in
      let mine : IsAgent ran.last t.me = agent_of_team ran.last t.me p.final p.there in
      let done : HasDone (value t) (new_record t (value t) limit) (part log t.me) p.final =
      subst (λ (r : AgentRecord). HasDone (value r.task) r (part log t.me) p.final) fresh
      (subst (λ es. HasDone (value found.0.task) found.0 es p.final) (parts_are t.me mine) p.done) in
      p.there ∙ ap Some (done_same (value t) (new_record t (value t) limit) p.final (is.parts t here).last (part log t.me) done (is.parts t here).done)

  pub log_has_run : HasRun team log is
  log_has_run = record {
    last = ran.last;
    runs = ran.ran;
    agents = final_is;
    mail = λ from to is_from is_to.
        run_log_mail value tasks numbered limit (schedule log) ran.last ran.ran from to is_from is_to
        ∙ ap (λ ms. drop (length ms) (sent from to run_log)) (received_is from to is_to)
        ∙ ap (λ ms. drop (length (received from to log)) ms) (sent_is from to is_from);
    same_parts = parts_are;
    same_puts = sent_is;
  }
