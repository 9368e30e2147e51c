-- What is refused of a schedule, of the team and of the text.
use Rattle.std.proofs.Common.{◌≡◌, ◌≤◌, ℕ, List, length, Result, Ok, Err, IfErr, sym, subst, inl, inr}
use Rattle.mp_forms.specs.declared.factor.Factor.{Factor}
use Rattle.mp_joint.specs.Fact.{Text}
use Rattle.mp_world.specs.Team.{team_with}
use Rattle.mp_world.specs.Values.{Values}
use Rattle.mp_split.specs.Team.{AreTasksOf, IsFirstRefusal}
use Rattle.mp_split.specs.declared.team.Tasks.{Tasks}
use Rattle.mp_split.proofs.FirstAgents.{no_memory}
use Rattle.mp_text.specs.Schedule.{schedule_in}
use Rattle.mp_text.specs.declared.schedule.EventLine.{EventLine}
use Rattle.mp_solve.specs.Refused.{AreWithin, IsUnread, Refuses, Stops}
use Rattle.mp_solve.specs.declared.refusal.ReplayRefusal.{ReplayRefusal}
use Rattle.mp_solve.specs.declared.refusal.ReplayRefusal.TheVariants.{Sizes, Line}

module _ (value : Values) (limit : ℕ) (team : List Factor) (text : Text)
    (some : 1 ≤ length team)
    (within : AreWithin team)
  where
    -- a line that can't be read
    pub unread : (refusal : ReplayRefusal) → IsUnread (length team) text refusal → Refuses value limit team text refusal
    unread (Sizes refusal) is = subst (IsFirstRefusal team) (sym is) (no_memory team some)
    unread (Line number) is = (within, inl is)

    module _ (tasks : Tasks) (are : AreTasksOf team tasks) (lines : List EventLine)
        (read : schedule_in (length team) text ≡ Ok lines)
      where
        -- an event that may not happen
        stopped : (refusal : ReplayRefusal) → Stops (team_with value limit tasks.tasks) lines refusal
            → Refuses value limit team text refusal
        stopped (Sizes refusal) is = subst (IsFirstRefusal team) (sym is) (no_memory team some)
        stopped (Line number) is =
            (within, inr (record { tasks = tasks; are_tasks = are; lines = lines; read = read; stops = is }))

        pub if_stopped : {X : Type 0} (found : Result X ReplayRefusal) → IfErr found (Stops (team_with value limit tasks.tasks) lines)
            → IfErr found (Refuses value limit team text)
        if_stopped (Ok x) is = tt
        if_stopped (Err refusal) is = stopped refusal is
