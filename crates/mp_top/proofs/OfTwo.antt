-- What is printed for two requests.
use Rattle.std.proofs.Common.{◌≡◌, ◌≤◌, ℕ, Bool, true, List, [], ◌∷◌, ◌++◌, length, map, All, Option, Some, None, refl, sym, ap, subst, ◌∙◌}
use Rattle.std.proofs.lemmas.Option.{same_Some}
use Rattle.mp_forms.specs.declared.factor.Factor.{Factor}
use Rattle.mp_ground_laws.specs.Checked.{IsChecked}
use Rattle.mp_joint.specs.Fact.{Text}
use Rattle.mp_logs.specs.Alike.{AreAlike}
use Rattle.mp_messages.specs.History.{schedule}
use Rattle.mp_messages.specs.declared.history.Event.{Event}
use Rattle.mp_maker.specs.Delivery.{delivery}
use Rattle.mp_outside.specs.Acts.{FileAsked}
use Rattle.mp_outside.specs.Source.{Files}
use Rattle.mp_stands.specs.Renaming.{Renaming}
use Rattle.mp_stands.specs.Team.{IsRenamedTeam}
use Rattle.mp_replays.specs.Same.{AreSameSearches, IsFoundAgain}
use Rattle.mp_replays.specs.Traces.{IsTraceOf}
use Rattle.mp_solutions.specs.Solution.{IsFound, IsFoundInTurn, IsFoundOn, IsRefusedLine, IsReplayed, IsSolution}
use Rattle.mp_solutions.proofs.ToEnd.{found_to_end}
use Rattle.mp_solutions.specs.declared.solution.Solution.{Solution}
use Rattle.mp_split.specs.Team.{AreTasksOf}
use Rattle.mp_split.specs.declared.team.Tasks.{Tasks}
use Rattle.mp_text.specs.Alike.{TellTheSame}
use Rattle.mp_text.specs.Schedule.{is_end}
use Rattle.mp_text.specs.Trace.{trace_text}
use Rattle.mp_words.specs.Requests.{Searching, ToReplay, Wanted}
use Rattle.mp_words.specs.Requests.Wanted.{audits, certifies, checks, makes, replays, solves}
use Rattle.mp_solve.specs.Refused.{AreWithin}
use Rattle.mp_world.specs.Logs.{IsLog}
use Rattle.mp_world.specs.Team.{team_with}
use Rattle.mp_world.specs.Values.{Values}
use Rattle.mp_world.specs.declared.answer.Answer.{Answer}
use Rattle.mp_world.specs.declared.answer.Answer.TheVariants as answer
use Rattle.mp_top.specs.Asked.Work.{searched}
use Rattle.mp_top.specs.Asked.{KeepsLimits, TeamRequest, Texts, agents_of, longest_schedule, names_of_texts, team_request, texts_of, values_of, without_heuristic}
use Rattle.mp_top.specs.First.{IsAccepted, IsFirst}
use Rattle.mp_top.specs.FirstText.{AreTextsOf, IsHeld, IsTextOf, text_at}
use Rattle.mp_top.specs.Outcome.{AreSameRuns, HasTrace, IsInTurn, IsOutcome, IsPrintedAgain, Printed, Searches, Tells, answer_status, behind_trace, printed_text, reported}
use Rattle.mp_top.specs.Team.{IsFoundForBoth, IsReadFor, IsTeam}
use Rattle.mp_top.specs.declared.refusal.Refusal.{Refusal}
use Rattle.mp_top.specs.declared.refusal.Refusal.TheVariants.{Files as FilesRefused, First, Sizes}
use Rattle.mp_top.specs.declared.refusal.FirstRefusal.TheVariants as of_first
use Rattle.mp_top.specs.declared.report.Report.{Report}
use Rattle.mp_top.specs.declared.status.Status.{Status}
use Rattle.mp_top.proofs.Checked.{checked_read, checked_team, read_each, team_read}
use Rattle.mp_top.proofs.Made.{made_for_each}
use Rattle.mp_top.proofs.One.{one_texts}
use Rattle.mp_top.proofs.OneTeam.{TeamLaw, one_team, team_held, team_of_both}

-- what was found was found for a team by the events of some schedule, and has a text
abbrev pub FoundBy : Searching → List Factor → Report → Text → Type 0
FoundBy s team report outcome =
    (events : List Event) × IsFound (values_of s.heuristic) s.limit team events (reported report outcome)

-- the events happened one after another
abbrev FoundInTurn : Searching → List Factor → Report → Text → Type 0
FoundInTurn s team report outcome =
    (events : List Event) × IsFoundInTurn (values_of s.heuristic) s.limit team events (reported report outcome)

solved_by : (s : Searching) (one : Bool) (team : List Factor) (report : Report) (outcome : Text) → IsFoundOn (values_of s.heuristic) s.limit team one (reported report outcome) → FoundBy s team report outcome
solved_by s one team report outcome found =
    let ended = found_to_end (values_of s.heuristic) s.limit team (reported report outcome) one found in
    (ended.schedule, ended.is_found)

solved_in_turn : (s : Searching) (one : Bool) (team : List Factor) (report : Report) (outcome : Text) → one ≡ true → IsFoundOn (values_of s.heuristic) s.limit team one (reported report outcome) → FoundInTurn s team report outcome
solved_in_turn s one team report outcome alone by =
    let found : IsSolution (values_of s.heuristic) s.limit team (reported report outcome) =
    subst (λ o. IsFoundOn (values_of s.heuristic) s.limit team o (reported report outcome)) alone by in
    (found.schedule, found.in_turn)

-- ---- what is told of a team whose agents search

module _ (team : List Factor) (report : Report) (ended : Status) (text : Text) (first : List Text) (s : Searching) where
  abbrev pub told_text : (request : Wanted) → Searches request s → Tells team report ended text request first → Text
  told_text (solves w) is t = t.outcome
  told_text (replays w) is t = t.outcome
  told_text (checks w) is t = absurd is
  told_text (certifies w) is t = t.outcome
  told_text (audits w) is t = absurd is
  told_text (makes w) is t = t.outcome

  told_found : (request : Wanted) (is : Searches request s) (t : Tells team report ended text request first) → FoundBy s team report (told_text request is t)
  told_found (solves w) is t =
      subst (λ how. FoundBy how team report t.outcome) is (solved_by w.search w.work.one team report t.outcome t.found)
  told_found (replays w) is t =
      subst (λ how. FoundBy how team report t.outcome) is (map (λ line. line.event) t.found.lines, t.found.in_turn.is_found)
  told_found (checks w) is t = absurd is
  told_found (certifies w) is t =
      subst (λ how. FoundBy how team report t.outcome) is
      (solved_by (without_heuristic w.limit) true team report t.outcome t.certified.solution)
  told_found (audits w) is t = absurd is
  told_found (makes w) is t =
      subst (λ how. FoundBy how team report t.outcome) is (solved_by w.search w.work.one team report t.outcome t.found)

  told_in_turn : (request : Wanted) (is : Searches request s) → IsInTurn request → (t : Tells team report ended text request first) → FoundInTurn s team report (told_text request is t)
  told_in_turn (solves w) is turn t =
      subst (λ how. FoundInTurn how team report t.outcome) is (solved_in_turn w.search w.work.one team report t.outcome turn t.found)
  told_in_turn (replays w) is turn t =
      subst (λ how. FoundInTurn how team report t.outcome) is (map (λ line. line.event) t.found.lines, t.found.in_turn)
  told_in_turn (checks w) is turn t = absurd is
  told_in_turn (certifies w) is turn t =
      subst (λ how. FoundInTurn how team report t.outcome) is
      (solved_in_turn (without_heuristic w.limit) true team report t.outcome refl t.certified.solution)
  told_in_turn (audits w) is turn t = absurd is
  told_in_turn (makes w) is turn t =
      subst (λ how. FoundInTurn how team report t.outcome) is (solved_in_turn w.search w.work.one team report t.outcome turn t.found)

  told_within : (request : Wanted) → Searches request s → Tells team report ended text request first → AreWithin team
  told_within (solves w) is t = t.within
  told_within (replays w) is t = t.within
  told_within (checks w) is t = absurd is
  told_within (certifies w) is t = t.within
  told_within (audits w) is t = absurd is
  told_within (makes w) is t = t.within

  told_status : (request : Wanted) → Searches request s → Tells team report ended text request first → ended ≡ answer_status report.answer
  told_status (solves w) is t = t.is_ended
  told_status (replays w) is t = t.is_ended
  told_status (checks w) is t = absurd is
  told_status (certifies w) is t = t.is_ended
  told_status (audits w) is t = absurd is
  told_status (makes w) is t = t.is_ended

  told_trace : (request : Wanted) (is : Searches request s) → HasTrace request → (t : Tells team report ended text request first) → text ≡ printed_text true report.log report.answer (told_text request is t)
  told_trace (solves w) is trace t = t.printed ∙ ap (λ b. printed_text b report.log report.answer t.outcome) trace
  told_trace (replays w) is trace t = t.printed
  told_trace (checks w) is trace t = absurd is
  told_trace (certifies w) is trace t = absurd trace
  told_trace (audits w) is trace t = absurd is
  told_trace (makes w) is trace t = absurd trace

-- there is one factor for each agent
pub for_each : (held : Option Files) (request : Wanted) (team : List Factor) → IsReadFor held (texts_of request) team → length team ≡ length (names_of_texts (texts_of request))
for_each held (solves w) team read = read_each held (agents_of w.names) team read
for_each held (replays w) team read = read_each held (agents_of w.names) team read
for_each held (checks w) team read = read_each held (agents_of w.names) team read
for_each held (certifies w) team read = read_each held (agents_of w.names) team read
for_each held (audits w) team read = read_each held (agents_of w.names) team read
for_each held (makes w) team read = made_for_each (delivery w.size w.number) team w.size w.number refl read

-- what is known of an outcome
module _ (held : Option Files) (request : Wanted) (report : Report) (ended : Status) (text : Text) (o : IsOutcome held request report ended text) where
  pub outcome_checked : All IsChecked o.team
  outcome_checked = checked_read held (texts_of request) o.team o.is_team

  pub of_each : length o.team ≡ length (names_of_texts (texts_of request))
  of_each = for_each held request o.team o.is_team

  pub few_agents : KeepsLimits request → length o.team ≤ 16
  few_agents keeps = subst (λ n. n ≤ 16) (sym of_each) keeps.at_most

  pub outcome_team : IsTeam held (texts_of request) o.team
  outcome_team = team_read held (texts_of request) o.team o.is_team

  module _ (s : Searching) (is : Searches request s) where
    abbrev pub outcome_text : Text
    outcome_text = told_text o.team report ended text o.first s request is o.told

    pub outcome_found : FoundBy s o.team report outcome_text
    outcome_found = told_found o.team report ended text o.first s request is o.told

    pub outcome_in_turn : IsInTurn request → FoundInTurn s o.team report outcome_text
    outcome_in_turn turn = told_in_turn o.team report ended text o.first s request is turn o.told

    pub outcome_within : AreWithin o.team
    outcome_within = told_within o.team report ended text o.first s request is o.told

    pub outcome_status : ended ≡ answer_status report.answer
    outcome_status = told_status o.team report ended text o.first s request is o.told

    pub traced : HasTrace request → text ≡ printed_text true report.log report.answer outcome_text
    traced trace = told_trace o.team report ended text o.first s request is trace o.told

-- ---- traces

-- the text of the first file is the one that is held
text_held : (held : Option Files) (file : FileAsked) (text first : Text) → IsHeld held file.name text → IsTextOf held file first → first ≡ text
text_held None file text first there is = absurd there
text_held (Some files) file text first there is = same_Some first text (sym is.0 ∙ there)

first_text_is : (held : Option Files) (file : FileAsked) (files : List FileAsked) (first : List Text) → AreTextsOf held (file ∷ files) first → IsTextOf held file (text_at first 0)
first_text_is held file files [] are = absurd are
first_text_is held file files (text ∷ texts) are = are.0

behind_ends : (a : Answer) → is_end (behind_trace a) ≡ true
behind_ends answer.Nothing = refl
behind_ends (answer.Solved cost steps) = refl
behind_ends answer.Unsolvable = refl
behind_ends answer.Undecided = refl

-- what is printed with a trace begins with it
is_trace : (report : Report) (text outcome : Text) → text ≡ printed_text true report.log report.answer outcome → IsTraceOf report.log text
is_trace report text outcome printed = record {
  end = behind_trace report.answer;
  later = outcome;
  ends = behind_ends report.answer;
  text_is = printed;
}

-- the law of mp_replays: no line of a trace is refused
abbrev pub NoLineRefused : Type 0
NoLineRefused =
    (value : Values) (limit : ℕ) (team : List Factor) (schedule : List Event)
    (found : Solution) (text : Text) (n : ℕ)
    → All IsChecked team → length team ≤ 16
    → IsFound value limit team schedule found → IsTraceOf found.log text
    → IsRefusedLine value limit team text n → ⊥

-- where nothing is refused of what the texts lead to, there is no first refusal
abbrev pub NoneFirst : Type 0
NoneFirst =
    (files : Files) (request : TeamRequest) (texts : List Text) (team : List Factor) (r : Refusal)
    → AreTextsOf (Some files) request.first texts
    → IsTeam (Some files) request.texts team → IsAccepted request.work team texts
    → IsFirst files request r → ⊥

-- the same texts for a search
abbrev to_search : ToReplay → TeamRequest
to_search replay = record {
  first = (team_request (replays replay)).first;
  texts = texts_of (replays replay);
  work = searched replay.search;
}

-- Texts lead to a team whose sizes keep the limits, and no line of the first file is refused: then nothing is.
module _ (law : TeamLaw) (none : NoneFirst) (files : Files) (replay : ToReplay) (text : Text) (team : List Factor)
    (are_texts : AreTextsOf (Some files) (team_request (replays replay)).first (text ∷ []))
    (is_team : IsTeam (Some files) (texts_of (replays replay)) team) (within : AreWithin team)
    (no_line : (n : ℕ) → IsRefusedLine (values_of replay.search.heuristic) replay.search.limit team text n → ⊥) where
  none_else : (r : Refusal) → IsFirst files (to_search replay) r → ⊥
  none_else r comes = none files (to_search replay) (text ∷ []) team r are_texts is_team within comes

  none_refused : (r : Refusal) → IsFirst files (team_request (replays replay)) r → ⊥
  none_refused (FilesRefused r) h = none_else (FilesRefused r) (record { first_texts = h.first_texts; first = h.first })
  none_refused (Sizes r) h =
      none_else (Sizes r) (record { first_texts = h.first_texts; team = h.team; is_team = h.is_team; refused = h.refused })
  none_refused (First place of_first.Read) h = none_else (First place of_first.Read) (record { file = h.file; asked = h.asked; before = h.before; absent = h.absent })
  none_refused (First place of_first.TooLarge) h = none_else (First place of_first.TooLarge) (record { file = h.file; asked = h.asked; before = h.before; long = h.long })
  none_refused (First place (of_first.Line n)) h =
      let same : h.team ≡ team = one_team law files (texts_of (replays replay)) team h.team is_team h.is_team in
      let read : text_at h.texts 0 ≡ text =
      ap (λ ts. text_at ts 0) (one_texts files (team_request (replays replay)).first h.texts (text ∷ []) h.are_texts are_texts) in
      no_line n
      (subst (λ t. IsRefusedLine (values_of replay.search.heuristic) replay.search.limit team t n) read
      (subst (λ t. IsRefusedLine (values_of replay.search.heuristic) replay.search.limit t (text_at h.texts 0) n) same h.refused.1.1))

pub trace_accepted : NoLineRefused → TeamLaw → NoneFirst → (held : Option Files) (files : Files) (request : Wanted) (replay : ToReplay) (first : Printed held request) (r : Refusal) → KeepsLimits request → Searches request replay.search → HasTrace request → IsFoundForBoth held (Some files) (texts_of request) (texts_of (replays replay)) → files replay.schedule ≡ Some first.text → length first.text ≤ longest_schedule → IsFirst files (team_request (replays replay)) r → ⊥
trace_accepted accepted law none held files request replay first r keeps is trace both there short refused =
    let s = replay.search in
    let team = first.outcome.team in
    let found = outcome_found held request first.report first.ended first.text first.outcome s is in
    let outcome = outcome_text held request first.report first.ended first.text first.outcome s is in
    none_refused law none files replay first.text team
    ((there, short), tt)
    (team_held law held files (texts_of request) (agents_of replay.names) team both (outcome_team held request first.report first.ended first.text first.outcome))
    (outcome_within held request first.report first.ended first.text first.outcome s is)
    (λ n. accepted (values_of s.heuristic) s.limit team found.0 (reported first.report outcome) first.text n
    (outcome_checked held request first.report first.ended first.text first.outcome)
    (few_agents held request first.report first.ended first.text first.outcome keeps) found.1
    (is_trace first.report first.text outcome (traced held request first.report first.ended first.text first.outcome s is trace)))
    r refused

-- and it is replayed as it was
abbrev pub Replays : Type 0
Replays =
    (value : Values) (limit : ℕ) (team : List Factor) (schedule : List Event)
    (found again : Solution) (text : Text)
    → All IsChecked team → length team ≤ 16
    → IsFound value limit team schedule found → IsTraceOf found.log text
    → IsReplayed value limit team text again
    → IsFoundAgain found again

-- with an equal log where the events of both happened one after another
abbrev pub ReplaysInTurn : Type 0
ReplaysInTurn =
    (value : Values) (limit : ℕ) (team : List Factor) (schedule : List Event)
    (found again : Solution) (text : Text)
    → All IsChecked team → length team ≤ 16
    → IsFoundInTurn value limit team schedule found → IsTraceOf found.log text
    → IsReplayed value limit team text again
    → again.log ≡ found.log

module _ (held other : Option Files) (request : Wanted) (replay : ToReplay) (report again : Report) (ended its_end : Status) (text printed : Text) (first : IsOutcome held request report ended text) (second : IsOutcome other (replays replay) again its_end printed) where
  replayed_same : second.team ≡ first.team → text_at second.first 0 ≡ text → IsReplayed (values_of replay.search.heuristic) replay.search.limit first.team text (reported again second.told.outcome)
  replayed_same team text_is =
      subst (λ t. IsReplayed (values_of replay.search.heuristic) replay.search.limit first.team t (reported again second.told.outcome)) text_is
      (subst (λ t. IsReplayed (values_of replay.search.heuristic) replay.search.limit t (text_at second.first 0) (reported again second.told.outcome)) team second.told.found)

  same_printed : (outcome : Text) → text ≡ printed_text true report.log report.answer outcome → trace_text again.log ≡ trace_text report.log → again.answer ≡ report.answer → second.told.outcome ≡ outcome → printed ≡ text
  same_printed outcome is traces answer same =
      second.told.printed ∙ (λ i. traces i ++ (behind_trace (answer i) ++ 10 ∷ same i)) ∙ sym is

  pub trace_again : Replays → KeepsLimits request → Searches request replay.search → HasTrace request → second.team ≡ first.team → text_at second.first 0 ≡ text → (printed ≡ text) × AreAlike report.log again.log × TellTheSame report.log again.log × (again.answer ≡ report.answer) × (again.views ≡ report.views)
  trace_again law keeps is trace team text_is =
      let s = replay.search in
      let found = outcome_found held request report ended text first s is in
      let outcome = outcome_text held request report ended text first s is in
      let told = traced held request report ended text first s is trace in
      let same =
      law (values_of s.heuristic) s.limit first.team found.0 (reported report outcome) (reported again second.told.outcome) text
      (outcome_checked held request report ended text first) (few_agents held request report ended text first keeps) found.1
      (is_trace report text outcome told) (replayed_same team text_is) in (
        same_printed outcome told same.search.texts.traces same.search.answer same.text,
        same.search.alike,
        same.search.texts,
        same.search.answer,
        same.views,
      )

  pub log_again : ReplaysInTurn → KeepsLimits request → Searches request replay.search → HasTrace request → second.team ≡ first.team → text_at second.first 0 ≡ text → IsInTurn request → again.log ≡ report.log
  log_again law keeps is trace team text_is turn =
      let s = replay.search in
      let found = outcome_in_turn held request report ended text first s is turn in
      let outcome = outcome_text held request report ended text first s is in
      law (values_of s.heuristic) s.limit first.team found.0 (reported report outcome) (reported again second.told.outcome) text
      (outcome_checked held request report ended text first) (few_agents held request report ended text first keeps) found.1
      (is_trace report text outcome (traced held request report ended text first s is trace)) (replayed_same team text_is)

pub printed_again : Replays → ReplaysInTurn → TeamLaw → (held other : Option Files) (request : Wanted) (replay : ToReplay) (first : Printed held request) (second : Printed other (replays replay)) → KeepsLimits request → Searches request replay.search → HasTrace request → IsFoundForBoth held other (texts_of request) (texts_of (replays replay)) → IsHeld other replay.schedule first.text → IsPrintedAgain held other request (replays replay) first second
printed_again law turn files held other request replay first second keeps is trace both there =
    let team =
    team_of_both files held other (texts_of request) (texts_of (replays replay))
    first.outcome.team second.outcome.team both
    (outcome_team held request first.report first.ended first.text first.outcome) (outcome_team other (replays replay) second.report second.ended second.text second.outcome) in
    let text =
    text_held other (record { name = replay.schedule; longest = longest_schedule }) first.text (text_at second.outcome.first 0)
    there (first_text_is other (record { name = replay.schedule; longest = longest_schedule }) [] second.outcome.first second.outcome.are_first) in
    let again =
    trace_again held other request replay first.report second.report first.ended second.ended first.text second.text
    first.outcome second.outcome law keeps is trace team text in
    record {
      text = again.0;
      ended =
          second.outcome.told.is_ended ∙ ap answer_status again.3
          ∙ sym (outcome_status held request first.report first.ended first.text first.outcome replay.search is);
      runs = record { alike = again.1; texts = again.2; answer = again.3 };
      views = again.4;
      log =
          log_again held other request replay first.report second.report first.ended second.ended first.text second.text
          first.outcome second.outcome turn keeps is trace team text;
    }

-- ---- renaming

abbrev pub KeepsViews : Type 0
KeepsViews =
    (value : Values) (limit place : ℕ) (r : Renaming)
    (team other : List Factor) (schedule : List Event) (found : Solution) (u : Tasks)
    → All IsChecked team → All IsChecked other → IsRenamedTeam place r team other
    → IsFound value limit team schedule found → AreTasksOf other u → u.views ≡ found.views

abbrev pub KeepsLog : Type 0
KeepsLog =
    (value : Values) (limit place : ℕ) (r : Renaming)
    (team other : List Factor) (schedule : List Event) (found : Solution) (u : Tasks)
    → All IsChecked team → All IsChecked other → IsRenamedTeam place r team other
    → IsFound value limit team schedule found → AreTasksOf other u → IsLog (team_with value limit u.tasks) found.log

abbrev pub KeepsMessages : Type 0
KeepsMessages =
    (value : Values) (limit place : ℕ) (r : Renaming)
    (team other : List Factor) (schedule : List Event) (found its : Solution)
    → All IsChecked team → All IsChecked other → IsRenamedTeam place r team other
    → IsFound value limit team schedule found → IsFound value limit other schedule its
    → AreSameSearches found its

abbrev pub KeepsLogs : Type 0
KeepsLogs =
    (value : Values) (limit place : ℕ) (r : Renaming)
    (team other : List Factor) (schedule : List Event) (found its : Solution)
    → All IsChecked team → All IsChecked other → IsRenamedTeam place r team other
    → IsFoundInTurn value limit team schedule found → IsFoundInTurn value limit other schedule its
    → its.log ≡ found.log

module _ (law : TeamLaw) (files others : Files) (request : Wanted) (s : Searching) (first : Printed (Some files) request)
    (team other : List Factor) (place : ℕ) (r : Renaming) (is : Searches request s)
    (of_files : IsTeam (Some files) (texts_of request) team) (renames : IsRenamedTeam place r team other) where
  abbrev own : List Factor
  own = first.outcome.team

  own_checked : All IsChecked own
  own_checked = outcome_checked (Some files) request first.report first.ended first.text first.outcome

  same_own : team ≡ own
  same_own =
      one_team law files (texts_of request) own team
      (outcome_team (Some files) request first.report first.ended first.text first.outcome) of_files

  own_renames : IsRenamedTeam place r own other
  own_renames = subst (λ t. IsRenamedTeam place r t other) same_own renames

  abbrev own_text : Text
  own_text = outcome_text (Some files) request first.report first.ended first.text first.outcome s is

  own_found : FoundBy s own first.report own_text
  own_found = outcome_found (Some files) request first.report first.ended first.text first.outcome s is

  module _ (texts : Texts) (of_others : IsTeam (Some others) texts other) (tasks : Tasks) (are : AreTasksOf other tasks) where
    pub views_kept : KeepsViews → tasks.views ≡ first.report.views
    views_kept keeps =
        keeps (values_of s.heuristic) s.limit place r own other own_found.0 (reported first.report own_text) tasks
        own_checked (checked_team others texts other of_others) own_renames own_found.1 are

    pub log_kept : KeepsLog → IsLog (team_with (values_of s.heuristic) s.limit tasks.tasks) first.report.log
    log_kept keeps =
        keeps (values_of s.heuristic) s.limit place r own other own_found.0 (reported first.report own_text) tasks
        own_checked (checked_team others texts other of_others) own_renames own_found.1 are

  module _ (its : Wanted) (second : Printed (Some others) its) (also : Searches its s)
      (of_others : IsTeam (Some others) (texts_of its) other)
      (events : schedule second.report.log ≡ schedule first.report.log) where
    abbrev theirs : List Factor
    theirs = second.outcome.team

    same_theirs : other ≡ theirs
    same_theirs =
        one_team law others (texts_of its) theirs other
        (outcome_team (Some others) its second.report second.ended second.text second.outcome) of_others

    they_rename : IsRenamedTeam place r own theirs
    they_rename = subst (λ t. IsRenamedTeam place r own t) same_theirs own_renames

    abbrev their_text : Text
    their_text = outcome_text (Some others) its second.report second.ended second.text second.outcome s also

    theirs_checked : All IsChecked theirs
    theirs_checked = outcome_checked (Some others) its second.report second.ended second.text second.outcome

    -- the second by the events that the first was found by
    found_by_same : IsFound (values_of s.heuristic) s.limit theirs own_found.0 (reported second.report their_text)
    found_by_same =
        let too = outcome_found (Some others) its second.report second.ended second.text second.outcome s also in
        let same : too.0 ≡ own_found.0 = sym too.1.logged ∙ events ∙ own_found.1.logged in
        subst (λ es. IsFound (values_of s.heuristic) s.limit theirs es (reported second.report their_text)) same too.1

    pub messages_kept : KeepsMessages → AreSameRuns first.report second.report
    messages_kept keeps =
        let search =
        keeps (values_of s.heuristic) s.limit place r own theirs own_found.0 (reported first.report own_text) (reported second.report their_text)
        own_checked theirs_checked they_rename own_found.1 found_by_same in
        record { alike = search.alike; texts = search.texts; answer = search.answer }

    pub logs_kept : KeepsLogs → IsInTurn request → IsInTurn its → second.report.log ≡ first.report.log
    logs_kept keeps turn their_turn =
        let mine = outcome_in_turn (Some files) request first.report first.ended first.text first.outcome s is turn in
        let too = outcome_in_turn (Some others) its second.report second.ended second.text second.outcome s also their_turn in
        let same : too.0 ≡ mine.0 = sym too.1.is_found.logged ∙ events ∙ mine.1.is_found.logged in
        keeps (values_of s.heuristic) s.limit place r own theirs mine.0 (reported first.report own_text) (reported second.report their_text)
        own_checked theirs_checked they_rename mine.1
        (subst (λ es. IsFoundInTurn (values_of s.heuristic) s.limit theirs es (reported second.report their_text)) same too.1)
