-- A schedule's text has at most one refused line, and none where it is replayed.
use Rattle.std.proofs.Common.{◌≡◌, ℕ, false, cond, ◌⊎◌, List, [], ◌∷◌, ◌++◌, length, map, Some, None, All, sym, ap, subst, ◌∙◌, inl, inr}
use Rattle.std.specs.Prelude.{Ok, Err}
use Rattle.std.specs.Option.{option_and_then}
use Rattle.std.proofs.lemmas.List.{map-append}
use Rattle.std.proofs.lemmas.Option.{none-some, same_Some}
use Rattle.mp_runs.proofs.Runs.{run_cut, run_parts}
use Rattle.mp_forms.specs.declared.factor.Factor.{Factor}
use Rattle.mp_ground_laws.specs.Checked.{IsChecked}
use Rattle.mp_joint.specs.Fact.{Text}
use Rattle.mp_task.specs.AgentTask.{AgentTask}
use Rattle.mp_messages.specs.declared.history.Event.{Event}
use Rattle.mp_world.specs.Events.{after_event, agent_of, if_good, is_legal, local_step, run}
use Rattle.mp_world.specs.Team.{team_with}
use Rattle.mp_world.specs.Values.{Values}
use Rattle.mp_world.specs.World.{World, agent_at, start_world}
use Rattle.mp_text.specs.Schedule.{schedule_in}
use Rattle.mp_text.specs.declared.schedule.EventLine.{EventLine}
use Rattle.mp_solutions.specs.Solution.{IsFound, IsRefusedLine, IsReplayed, StopsAt}
use Rattle.mp_solutions.specs.declared.solution.Solution.{Solution}
use Rattle.mp_replays.specs.Renamed.{KeepsTasks}
use Rattle.mp_replays.proofs.OneTeam.{one_tasks}

abbrev events : List EventLine → List Event
events lines = map (λ line. line.event) lines

-- ---- a list that is parted twice

-- the first part begins the second one, and an item comes there behind it
record Begins (first second : List EventLine) (line : EventLine) : Type 0 where
  more : List EventLine
  is : second ≡ first ++ line ∷ more

abbrev Parted : (x y : List EventLine) (p q : EventLine) → Type 0
Parted x y p q = (p ≡ q) ⊎ (Begins x y p ⊎ Begins y x q)

parted : (x y : List EventLine) (p q : EventLine) (v w : List EventLine) → x ++ p ∷ v ≡ y ++ q ∷ w → Parted x y p q
parted [] [] p q v w same = inl cc
parted [] (e ∷ y) p q v w same =
    let first : e ≡ p = cc in
    inr (inl (record { more = y; is = ap (λ d. d ∷ y) first }))
parted (e ∷ x) [] p q v w same =
    let first : e ≡ q = cc in
    inr (inr (record { more = x; is = ap (λ d. d ∷ x) first }))
parted (e ∷ x) (d ∷ y) p q v w same =
    let first : e ≡ d = cc in
    let rest : x ++ p ∷ v ≡ y ++ q ∷ w = cc in
    by first (parted x y p q v w rest)
  where
    by : e ≡ d → Parted x y p q → Parted (e ∷ x) (d ∷ y) p q
    by first (inl same) = inl same
    by first (inr (inl begins)) = inr (inl (record { more = begins.more; is = λ i. sym first i ∷ begins.is i }))
    by first (inr (inr begins)) = inr (inr (record { more = begins.more; is = λ i. first i ∷ begins.is i }))

-- ---- an event that may not happen

module _ (value : Values) where
  not_legal : (w : World) (event : Event) → is_legal w event ≡ false → after_event value w event ≡ None
  unfolding after_event
  not_legal w event illegal =
      ap (λ b. cond b (option_and_then (λ r. if_good w event (local_step value w event r))
      (agent_at w (agent_of event))) None) illegal

  module _ (limit : ℕ) (tasks : List AgentTask) where
    -- no run goes on with an event that may not happen
    no_run : (before : List EventLine) (line : EventLine) (more : List EventLine) (last w : World)
        → run (team_with value limit tasks) (events before) ≡ Some last
        → is_legal last line.event ≡ false → run (team_with value limit tasks) (events (before ++ line ∷ more)) ≡ Some w → ⊥
    no_run before line more last w leads illegal ran =
        let start = start_world (team_with value limit tasks) in
        let whole : run (team_with value limit tasks) (events before ++ line.event ∷ events more) ≡ Some w =
        ap (run (team_with value limit tasks)) (sym (map-append (λ line. line.event) before (line ∷ more))) ∙ ran
        in
        let cut = run_cut (after_event value) start w (events before) (line.event ∷ events more) whole in
        let same : cut.0 ≡ last = same_Some cut.0 last (sym cut.1 ∙ leads) in
        let parts = run_parts (after_event value) cut.0 w line.event (events more) cut.2 in
        let stops : after_event value cut.0 line.event ≡ None = ap (λ v. after_event value v line.event) same
        ∙ not_legal last line.event illegal in
        none-some parts.0 (sym stops ∙ parts.1)

    stops_once : (lines : List EventLine) (m n : ℕ) → StopsAt (team_with value limit tasks) lines m
        → StopsAt (team_with value limit tasks) lines n → m ≡ n
    stops_once lines m n a b = by
        (parted a.before b.before a.line b.line a.later b.later (sym a.lines_are ∙ b.lines_are))
      where
        by : Parted a.before b.before a.line b.line → m ≡ n
        by (inl same) = sym a.numbered ∙ ap (λ (line : EventLine). line.line) same ∙ b.numbered
        by (inr (inl begins)) =
            absurd (no_run a.before a.line begins.more a.last b.last a.leads a.illegal
            (ap (λ lines. run (team_with value limit tasks) (events lines)) (sym begins.is) ∙ b.leads))
        by (inr (inr begins)) =
            absurd (no_run b.before b.line begins.more b.last a.last b.leads b.illegal
            (ap (λ lines. run (team_with value limit tasks) (events lines)) (sym begins.is) ∙ a.leads))

    no_stop : (lines : List EventLine) (n : ℕ) (w : World) → run (team_with value limit tasks) (events lines) ≡ Some w
        → StopsAt (team_with value limit tasks) lines n → ⊥
    no_stop lines n w ran a =
        no_run a.before a.line a.later a.last w a.leads a.illegal
        (ap (λ lines. run (team_with value limit tasks) (events lines)) (sym a.lines_are) ∙ ran)

-- ---- lines of a text

module _ (law : KeepsTasks) (value : Values) (limit : ℕ) (team : List Factor)
    (text : Text) (checked : All IsChecked team) where
  both : (lines : List EventLine) (n : ℕ) (R : Type 0) → schedule_in (length team) text ≡ Ok lines
      → schedule_in (length team) text ≡ Err n → R
  both lines n R read unread =
      let same : Ok lines ≡ Err n = sym read ∙ unread in
      absurd (let impossible : ⊥ = cc in impossible)

  -- what is read is read once
  pub one_reading : (lines others : List EventLine) → schedule_in (length team) text ≡ Ok lines
      → schedule_in (length team) text ≡ Ok others → lines ≡ others
  one_reading lines others read also =
      let same : Ok lines ≡ Ok others = sym read ∙ also in
      cc

  one_line : (m n : ℕ) → schedule_in (length team) text ≡ Err m → schedule_in (length team) text ≡ Err n → m ≡ n
  one_line m n unread also =
      let same : Err m ≡ Err n = sym unread ∙ also in
      cc

  pub one_refused : (m n : ℕ) → IsRefusedLine value limit team text m → IsRefusedLine value limit team text n → m ≡ n
  one_refused m n (inl unread) (inl also) = one_line m n unread also
  one_refused m n (inl unread) (inr b) = both b.lines m (m ≡ n) b.read unread
  one_refused m n (inr a) (inl unread) = both a.lines n (m ≡ n) a.read unread
  one_refused m n (inr a) (inr b) =
      let tasks = one_tasks law team checked a.tasks b.tasks a.are_tasks b.are_tasks in
      let lines = one_reading b.lines a.lines b.read a.read in
      stops_once value limit a.tasks.tasks a.lines m n a.stops
      (subst (λ ls. StopsAt (team_with value limit a.tasks.tasks) ls n) lines
      (subst (λ ts. StopsAt (team_with value limit ts) b.lines n) tasks b.stops))

  -- nothing was found by the events of a text with a refused line
  pub no_refusal : (found : Solution) (n : ℕ) (lines : List EventLine) → schedule_in (length team) text ≡ Ok lines
      → IsFound value limit team (events lines) found → IsRefusedLine value limit team text n → ⊥
  no_refusal found n lines read f (inl unread) = both lines n ⊥ read unread
  no_refusal found n lines read f (inr b) =
      let tasks = one_tasks law team checked f.tasks b.tasks f.are_tasks b.are_tasks in
      let same = one_reading b.lines lines b.read read in
      no_stop value limit f.tasks.tasks lines n f.last f.leads
      (subst (λ ls. StopsAt (team_with value limit f.tasks.tasks) ls n) same
      (subst (λ ts. StopsAt (team_with value limit ts) b.lines n) tasks b.stops))

  pub not_refused : (found : Solution) (n : ℕ) → IsReplayed value limit team text found
      → IsRefusedLine value limit team text n → ⊥
  not_refused found n f refused = no_refusal found n f.lines f.read f.in_turn.is_found refused
