-- No message that is under way is a bad one to the agent that it goes to.
use Rattle.mp_world.proofs.Basics.{◌≡◌, ◌≢◌, ℕ, ◌+◌, ◌≤◌, ◌<◌, ◌^◌, Bool, true, false, ◌&&◌, List, [], ◌∷◌, ◌++◌, length, Option, Some, All, refl, sym, ap, subst, ◌∙◌, arith, ◌⊎◌, inl, inr, Contains, Ok, Err, ◌==◌, ◌||◌, filter, if◌then◌else◌, nat_lt, not}
use Rattle.mp_world.proofs.Basics.{filter_map, option_map_or, and_parts, cases_eq, eq-eqb, eqb-true, false_from_ne_true, lt-ltb, length-append, All-contains, All-head, same_Some, slice_get_within}
use Rattle.std.specs.Option.{is_none}
use Rattle.mp_messages.specs.declared.message.Message.TheVariants.{State as AState}
use Rattle.mp_messages.specs.Spelling.{IsSpelling}
use Rattle.mp_search.proofs.Spelled.{spelled_is_message}
use Rattle.mp_trail.specs.Share.{fits}
use Rattle.mp_machine.specs.declared.refusal.BadKind.TheVariants.{StrangeMarker, StrangeReport}
use Rattle.mp_machine.specs.Snapshots.{marked}
use Rattle.mp_machine.specs.Taking.{knows_of_no_plan}
use Rattle.mp_machine.proofs.NotesLemmas.{known_at_others}
use Rattle.mp_machine.proofs.TakingLemmas.{took_spelled}
use Rattle.mp_world.specs.AgentWords.{AgentTask, TaskStep, task_of, EndKind, Findings, Message, Marker, Report, Pick, Trace, Length, Done, State, message_of, Proved, after_report, is_complete, is_strange_marker, is_strange_report, is_under_way, BadKind, StrangeDone}
use Rattle.mp_world.specs.AgentWords.{StrangeLength, StrangePick, StrangeTrace, AgentRecord, given_verdict, is_going, Step, without_messages, judged, ending_of, is_strange_length, is_strange_pick, is_strange_trace, took, took_message, traced, unless_bad, with_state}
use Rattle.mp_world.specs.AgentWords.{is_proved, solved, walked, walked_from_goal}
use Rattle.mp_world.specs.SearchWords.{Numbers}
use Rattle.mp_world.specs.Team.{AreTeamTasks}
use Rattle.mp_world.specs.World.{IsAgent, World, agent_at, under_way}
use Rattle.mp_world.proofs.Agents.{agent_there, member_of}
use Rattle.mp_world.proofs.Mail.{agent_of_team}
use Rattle.mp_team_snapshots.specs.Messages.{marker_of, markers, messages, report_of, reports}
use Rattle.mp_team_snapshots.specs.Snapshots.{AreTwo, IsSnapshotOver}
use Rattle.mp_team_snapshots.specs.Team.{IsTeamOf}
use Rattle.mp_team_snapshots.proofs.Consequences.{marker_is_good, report_is_good, verdict_is_over}
use Rattle.mp_team_snapshots.proofs.Protocol.{IsOf}
use Rattle.mp_team_snapshots.proofs.Reading.{read_first}
use Rattle.mp_team_snapshots.proofs.Worlds.{is_of_agent, me_of, team_numbers}
use Rattle.mp_team_states.proofs.GoodStates.{state_is_taken, what_is_read}
use Rattle.mp_team_states.specs.Paths.{IsSentAt}
use Rattle.mp_team_states.proofs.ReachedEntries.{has_it}
use Rattle.mp_team_states.proofs.RoomCounts.{few_expansions}
use Rattle.mp_team_states.proofs.StepsSound.{task_at}
use Rattle.mp_team_verdicts.specs.Ending.{IsAt, IsProved, due, end_messages, is_of_end, notes}
use Rattle.mp_team_verdicts.specs.Ending.Stage.{over, picking, walking}
use Rattle.mp_team_verdicts.proofs.Few.{keeps_few}
use Rattle.mp_team_verdicts.proofs.Fitting.{IsRead}
use Rattle.mp_team_verdicts.proofs.Frames.{IsKnownWorld}
use Rattle.mp_team_verdicts.proofs.InRuns.{EndsSoFar}
use Rattle.mp_team_verdicts.proofs.NotesOfPlans.{notes_fit, notes_none}
use Rattle.mp_team_verdicts.proofs.Short.{path_entry}
use Rattle.mp_team_verdicts.proofs.TakenEnds.{sent_is}
use Rattle.mp_team_verdicts.proofs.TakingEnds.{due_holds}

-- what is not bad is taken
not_bad : (bad : Bool) (kind : BadKind) (s : Step) → bad ≡ false → unless_bad bad kind s ≡ Ok s
not_bad bad kind s is = ap (λ (b : Bool). unless_bad b kind s) is

and_false : (p : Bool) → (p && false) ≡ false
and_false true = refl
and_false false = refl

first_among : {X : Type 0} (x : X) (xs ys : List X) → xs ≡ x ∷ ys → Contains xs x
first_among {X} x xs ys is = subst (λ (zs : List X). Contains zs x) (sym is) (0, omega arith, refl)

module _ (publics : ℕ) (tasks : List AgentTask) (are : AreTeamTasks tasks) (team : IsTeamOf publics tasks) (w : World)
    (known : IsKnownWorld publics tasks w) (ends : EndsSoFar publics tasks w) (a b : ℕ) (sender : IsAgent w a) (apart : a ≢ b) (r : AgentRecord)
    (there : agent_at w b ≡ Some r) (going : is_going r.ending ≡ true) where
  me_is : r.task.me ≡ b
  me_is = me_of publics tasks team w (team_numbers publics tasks team w known.team) b r there

  is_a : IsOf (length tasks) a
  is_a = is_of_agent publics tasks team w (team_numbers publics tasks team w known.team) a sender

  is_b : IsOf (length tasks) b
  is_b = is_of_agent publics tasks team w (team_numbers publics tasks team w known.team) b (agent_of_team w b r there)

  other : (x : AgentRecord) × (agent_at w a ≡ Some x)
  other = agent_there w a sender

  other_me : other.0.task.me ≡ a
  other_me = me_of publics tasks team w (team_numbers publics tasks team w known.team) a other.0 other.1

  mine_at : agent_at w r.task.me ≡ Some r
  mine_at = ap (agent_at w) me_is ∙ there

  other_at : agent_at w other.0.task.me ≡ Some other.0
  other_at = ap (agent_at w) other_me ∙ other.1

  abbrev IsTaken : Message → Type 0
  IsTaken m = (value : Numbers → Numbers → Option ℕ) → (s : Step) × (took_message value r a m ≡ Ok s)

  -- ---- markers and reports

  marker_taken : (number : ℕ) (rest : List Message) → messages publics w a b ≡ Marker number ∷ rest → IsTaken (Marker number)
  marker_taken number rest first value =
      let two : AreTwo w other.0 r = record { one = other_at; other = mine_at; different = λ same. apart (sym other_me ∙ same ∙ me_is) } in
      let here : markers publics w other.0.task.me r.task.me ≡ number ∷ filter_map marker_of rest =
      (λ k. markers publics w (other_me k) (me_is k)) ∙ ap (filter_map marker_of) first in
      let good = marker_is_good publics tasks team w known.team known.in_runs.sound other.0 r number two (first_among number (markers publics w other.0.task.me r.task.me) (filter_map marker_of rest) here) in
      (marked r a number, not_bad (is_strange_marker r.snapshot a number) StrangeMarker (marked r a number) (ap (λ (k : ℕ). is_strange_marker r.snapshot k number) (sym other_me) ∙ good))

  report_taken : (found : Findings) (rest : List Message) → messages publics w a b ≡ Report found ∷ rest → IsTaken (Report found)
  report_taken found rest first value = by (cases_eq b 1)
    where
      no_item : (x : Findings) (xs : List Findings) → x ∷ xs ≡ [] → ⊥
      no_item x xs e = cc

      here : reports publics w a b ≡ found ∷ filter_map report_of rest
      here = ap (filter_map report_of) first

      by : (b ≡ 1) ⊎ (b ≡ 1 → ⊥) → (s : Step) × (took_message value r a (Report found) ≡ Ok s)
      by (inl is) =
          let two : AreTwo w r other.0 = record { one = mine_at; other = other_at; different = λ same. apart (sym other_me ∙ sym same ∙ me_is) } in
          let among : Contains (reports publics w other.0.task.me 1) found =
          first_among found (reports publics w other.0.task.me 1) (filter_map report_of rest) ((λ k. reports publics w (other_me k) (sym is k)) ∙ here) in
          let good = report_is_good publics tasks team w known.team known.in_runs.sound r other.0 found (me_is ∙ is) two among in (
            judged (record r { snapshot = after_report r.snapshot a found }),
            not_bad (is_strange_report r.snapshot a found) StrangeReport (judged (record r { snapshot = after_report r.snapshot a found }))
                (ap (λ (k : ℕ). is_strange_report r.snapshot k found) (sym other_me) ∙ good),
          )
      by (inr elsewhere) = absurd (no_item found (filter_map report_of rest) (sym here ∙ ends.reports a b is_a is_b elsewhere))

  -- ---- messages of the end

  -- agent 1 knows of a plan that is proved, and other agents may be told of one
  knows : (first : AgentRecord) (agent cost : ℕ) → agent_at w 1 ≡ Some first → given_verdict first ≡ Some (Proved agent cost) → knows_of_no_plan r ≡ false
  knows first agent cost first_there given = by (cases_eq r.task.me 1)
    where
      by : (r.task.me ≡ 1) ⊎ (r.task.me ≡ 1 → ⊥) → knows_of_no_plan r ≡ false
      by (inl is) =
          let one : first ≡ r = same_Some first r (sym first_there ∙ ap (agent_at w) (sym is ∙ me_is) ∙ there) in
          (λ k. (r.task.me == 1) && not (is_proved ((ap given_verdict (sym one) ∙ given) k))) ∙ and_false (r.task.me == 1)
      by (inr off) = known_at_others r off

  -- a proved plan is short
  short : (first : AgentRecord) (plan : List TaskStep) → IsProved w first plan → length plan ≤ 160000000
  short first plan p =
      let few = known.so_far.short p.agent p.number plan p.path in
      let most = few_expansions tasks are w known.team known.so_far.sound in
      omega arith

  fits_trail : (later : List TaskStep) → r.trail ≡ notes r.task.me later → fits (length later) r.trail ≡ true
  fits_trail later trail = ap (fits (length later)) trail ∙ notes_fit r.task.me later

  -- the snapshot is over, and agent 1's pick has its number
  module _ (first : AgentRecord) (agent cost : ℕ) (first_there : agent_at w 1 ≡ Some first) (given : given_verdict first ≡ Some (Proved agent cost)) where
    is_over : IsSnapshotOver publics w first
    is_over = verdict_is_over publics tasks team w known.team known.in_runs.sound first (Proved agent cost) first_there given

    same_number : r.snapshot.number ≡ first.snapshot.number
    same_number = eqb-true r.snapshot.number first.snapshot.number (and_parts (nat_lt 0 first.snapshot.number) (r.snapshot.number == first.snapshot.number) (is_over.begun r mine_at)).1

    no_snapshot : r.task.me ≢ 1 → is_under_way r.snapshot ≡ false
    no_snapshot off =
        let notes_of = known.in_runs.sound.notes r mine_at in
        let not_first : (r.snapshot.me == 1) ≡ false = false_from_ne_true (r.snapshot.me == 1) (λ is. off (sym notes_of.me ∙ eqb-true r.snapshot.me 1 is)) in
        (λ k. nat_lt 0 r.snapshot.number && not (if not_first k then is_complete r.snapshot else is_over.whole r mine_at k)) ∙ and_false (nat_lt 0 r.snapshot.number)

  pick_taken : (agent number : ℕ) (plan : List TaskStep) → a ≡ 1 → agent ≡ b → IsAt publics w (picking agent number plan) → IsTaken (Pick number)
  pick_taken agent number plan a_is b_is old value =
      let p = old.verdict.proved in
      let who : p.picked ≡ r = same_Some p.picked r (sym p.there ∙ ap (agent_at w) (old.verdict.agent_is ∙ b_is) ∙ there) in
      let idle = old.agents b r there in
      let number_is : number ≡ r.snapshot.number = old.verdict.number_is ∙ sym (same_number old.first p.agent p.cost old.there p.verdict) in
      let resting = no_snapshot old.first p.agent p.cost old.there p.verdict (λ is. old.verdict.other (b_is ∙ sym me_is ∙ is)) in
      let goal : r.goal ≡ Some p.number = ap (λ (x : AgentRecord). x.goal) (sym who) ∙ p.goal.noted in
      let trail : r.trail ≡ [] = idle.walked.trail ∙ notes_none r.task.me in
      let after : AgentRecord = record r { picked = true } in (
        walked_from_goal after,
        not_bad (is_strange_pick r a number) StrangePick (walked_from_goal after)
            (λ k.
            not (eq-eqb a 1 a_is k) || not (eq-eqb number r.snapshot.number number_is k) || resting k || is_none (goal k) || idle.picked k
            || not (length (trail k) == 0)),
      )

  trace_taken : (from to sent : ℕ) (earlier later : List TaskStep) → to ≡ b → IsAt publics w (walking from to sent earlier later)
      → IsTaken (Trace sent (length later))
  trace_taken from to sent earlier later b_is old value =
      let p = old.verdict.proved in
      let leads = old.verdict.next in
      let entry = sent_is w b sent leads.number r there (subst (λ (k : ℕ). IsSentAt w k sent leads.number) b_is leads.given) in
      let found = path_entry w to leads.number earlier leads.path in
      let at = has_it w to leads.number found.0 found.1 in
      let inside = slice_get_within at.agent_is.search.kept.entries leads.number found.0 at.at in
      let few = keeps_few tasks are w known.team known.so_far to at.agent_is at.there in
      let long = length-append earlier later in
      let most = short old.first (earlier ++ later) p in
      let small : length later + leads.number < 2 ^ 60 = omega arith in
      let room = fits_trail later (old.agents b r there).trail in
      let known_plan = knows old.first p.agent p.cost old.there p.verdict in (
        walked r leads.number (length later),
        ap (λ (o : Option ℕ). option_map_or (traced r (length later)) o (Err StrangeTrace)) entry
            ∙ not_bad (is_strange_trace r leads.number (length later)) StrangeTrace (walked r leads.number (length later))
            (λ k. not (lt-ltb (length later + leads.number) (2 ^ 60) small k) || not (room k) || known_plan k),
      )

  length_taken : (teller : ℕ) (plan : List TaskStep) → IsAt publics w (over teller plan) → IsTaken (Length (length plan))
  length_taken teller plan old value =
      let p = old.verdict.proved in
      let room = fits_trail plan (old.agents b r there).trail in
      let known_plan = knows old.first p.agent p.cost old.there p.verdict in
      let after = solved r (length plan) in
      (without_messages after, not_bad (is_strange_length r (length plan)) StrangeLength (without_messages after) (λ k. not (room k) || known_plan k))

  done_taken : (kind : EndKind) → a ≡ 1 → IsTaken (Done kind)
  done_taken kind a_is value =
      let after : AgentRecord = record r { ending = ending_of kind } in
      (without_messages after, not_bad (not (a == 1)) StrangeDone (without_messages after) (λ k. not (eq-eqb a 1 a_is k)))

  -- a message of the end that is under way is due
  end_taken : (m : Message) (rest : List Message) → end_messages publics w a b ≡ m ∷ rest → IsTaken m
  end_taken m rest first =
      due_holds a b true rest (λ stage m. IsAt publics w stage → IsTaken m) (record {
        done = λ kind a_is none old. done_taken kind a_is;
        pick = λ agent number plan a_is b_is none. pick_taken agent number plan a_is b_is;
        trace = λ from to sent earlier later a_is b_is none. trace_taken from to sent earlier later b_is;
        length = λ teller plan a_is none. length_taken teller plan;
      }) ends.stage m (sym (ends.is.mail a b r sender there ∙ ap (due ends.stage a b) going) ∙ first) ends.is

  -- ---- any message

  module _ (value : Numbers → Numbers → Option ℕ) (bytes : List ℕ) (later : List (List ℕ)) (front : under_way w a b ≡ bytes ∷ later) where
    read : IsRead (length tasks) publics bytes
    read =
        All-head (IsRead (length tasks) publics) bytes later
        (subst (λ (ms : List (List ℕ)). All (IsRead (length tasks) publics) ms) front (ends.read a b is_a is_b))

    first_message : messages publics w a b ≡ read.message ∷ filter_map (message_of (length tasks) publics) later
    unfolding read
    first_message =
        ap (λ n. filter_map (message_of n publics) (under_way w a b)) (team_numbers publics tasks team w known.team).size
        ∙ ap (filter_map (message_of (length tasks) publics)) front
        ∙ read_first (length tasks) publics bytes later read.message (spelled_is_message (length tasks) publics read.message bytes team.facts read.spelled)

    -- as the receiver reads it
    spelled : IsSpelling r.task.agents r.task.publics read.message bytes
    unfolding read
    spelled =
        let of = member_of tasks team.numbered w known.team b r there in
        let alike = All-contains (λ t. t.publics ≡ publics) tasks r.task team.alike of.task in
        let agents = of.agents in
        subst (λ (n : ℕ). IsSpelling n r.task.publics read.message bytes) (sym agents)
        (subst (λ (n : ℕ). IsSpelling (length tasks) n read.message bytes) (sym alike) read.spelled)

    few_facts : r.task.publics < 2 ^ 32
    few_facts =
        let of = member_of tasks team.numbered w known.team b r there in
        let alike = All-contains (λ t. t.publics ≡ publics) tasks r.task team.alike of.task in
        subst (λ (n : ℕ). n < 2 ^ 32) (sym alike) team.facts

    IsGood : Type 0
    IsGood = (s : Step) × (took value r a bytes ≡ Ok s)

    -- a state
    state_good : (m : State) → IsSpelling r.task.agents r.task.publics (AState m) bytes → IsGood
    unfolding IsGood
    state_good m is =
        let at : task_of tasks a ≡ Some other.0.task = task_at tasks are w known.team a other.0 other.1 in
        let reads = spelled_is_message r.task.agents r.task.publics (AState m) bytes few_facts is in
        let found = what_is_read tasks are w known.team known.so_far.sound a b other.0.task r at there bytes m
        (first_among bytes (under_way w a b) later front) reads in
        let good = state_is_taken tasks are w known.team known.so_far.sound a b other.0.task r at there value m found.1 in
        (without_messages (with_state value r a m), ap (took value r a) found.0 ∙ good.2)

    -- another one
    other_good : (m : Message) → IsSpelling r.task.agents r.task.publics m bytes → IsTaken m → IsGood
    unfolding IsGood
    other_good m is taken =
        let t = taken value in
        (t.0, sym (took_spelled value r a bytes m few_facts is) ∙ t.1)

    -- the messages of the end begin with it
    end_first : (m : Message) (rest : List Message) → messages publics w a b ≡ m ∷ rest → is_of_end m ≡ true → end_messages publics w a b ≡ m ∷ filter is_of_end rest
    end_first m rest first is = ap (filter is_of_end) first ∙ rw is refl

    by_kind : (m : Message) (rest : List Message) → messages publics w a b ≡ m ∷ rest → IsSpelling r.task.agents r.task.publics m bytes → IsGood
    by_kind (AState m) rest first is = state_good m is
    by_kind (Marker number) rest first is = other_good (Marker number) is (marker_taken number rest first)
    by_kind (Report found) rest first is = other_good (Report found) is (report_taken found rest first)
    by_kind (Pick n) rest first is = other_good (Pick n) is (end_taken (Pick n) (filter is_of_end rest) (end_first (Pick n) rest first refl))
    by_kind (Trace sent back) rest first is =
        other_good (Trace sent back) is (end_taken (Trace sent back) (filter is_of_end rest) (end_first (Trace sent back) rest first refl))
    by_kind (Length n) rest first is = other_good (Length n) is (end_taken (Length n) (filter is_of_end rest) (end_first (Length n) rest first refl))
    by_kind (Done kind) rest first is = other_good (Done kind) is (end_taken (Done kind) (filter is_of_end rest) (end_first (Done kind) rest first refl))

    pub is_good : (s : Step) × (took value r a bytes ≡ Ok s)
    unfolding read IsGood
    is_good = by_kind read.message (filter_map (message_of (length tasks) publics) later) first_message spelled
