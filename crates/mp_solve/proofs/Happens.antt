-- Events of a schedule that happen one after another, up to one that may not.
use Rattle.std.proofs.Common.{◌≡◌, ℕ, suc, ◌+◌, ◌<◌, false, List, ◌∷◌, ◌++◌, map, length, get_or, drop, take}
use Rattle.std.proofs.Common.{sym, ap, ◌∙◌, add-one, drop-cons}
use Rattle.std.proofs.lemmas.List.{take-append-drop}
use Rattle.mp_task.specs.AgentTask.{AgentTask}
use Rattle.mp_world.specs.Events.{is_legal, run}
use Rattle.mp_world.specs.Team.{team_with}
use Rattle.mp_world.specs.Values.{Values}
use Rattle.mp_schedule.specs.TeamRun.{TeamRun}
use Rattle.mp_text.specs.declared.schedule.EventLine.{EventLine}
use Rattle.mp_solutions.specs.Solution.{StopsAt}
use Rattle.mp_solve.specs.Ended.{HasDoneAll}
use Rattle.mp_solve.specs.Refused.{MayNot, Stops}
use Rattle.mp_solve.specs.declared.refusal.ReplayRefusal.{ReplayRefusal}
use Rattle.mp_solve.specs.declared.refusal.ReplayRefusal.TheVariants.{Sizes, Line}

-- a list at a place
drop_here : {A : Type 0} (items : List A) (i : ℕ) (item : A) → i < length items → item ≡ get_or items i item
    → drop i items ≡ item ∷ drop (i + 1) items
drop_here items i item within is =
    rw (add-one, drop-cons items i item within) (ap (λ x. x ∷ drop (suc i) items) (sym is))

pub parted : {A : Type 0} (items : List A) (i : ℕ) (item : A) → i < length items → item ≡ get_or items i item
    → items ≡ take i items ++ item ∷ drop (i + 1) items
parted items i item within is =
    sym (take-append-drop i items) ∙ ap (λ xs. take i items ++ xs) (drop_here items i item within is)

module _ (value : Values) (limit : ℕ) (tasks : List AgentTask)
    (lines before later : List EventLine) (line : EventLine) (old : TeamRun)
    (are : lines ≡ before ++ line ∷ later)
    (done : HasDoneAll (team_with value limit tasks) (map (λ (l : EventLine). l.event) before) old)
  where
    stops_at : (number : ℕ) → is_legal old.world line.event ≡ false → line.line ≡ number
        → StopsAt (team_with value limit tasks) lines number
    stops_at number illegal numbered =
        record {
          before = before;
          line = line;
          later = later;
          lines_are = are;
          last = old.world;
          leads = sym (λ i. run (team_with value (done.limit_is i) (done.tasks_are i)) (done.schedule_is i)) ∙ done.run.leads;
          illegal = illegal;
          numbered = numbered;
        }

    -- the event of a line does not happen
    pub stops : (refusal : ReplayRefusal) → MayNot old.world line refusal → Stops (team_with value limit tasks) lines refusal
    stops (Sizes refusal) is = is
    stops (Line number) (illegal, numbered) = stops_at number illegal numbered
