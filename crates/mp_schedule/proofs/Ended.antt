-- How agent 1 has ended, once a run is over.
use Rattle.std.proofs.Common.{◌≡◌, ℕ, Bool, true, false, List, [], ◌∷◌, length, map, Option, Some, None}
use Rattle.std.proofs.Common.{refl, sym, ap, subst, ◌∙◌, inl, inr}
use Rattle.std.specs.Prelude.{◌⊎◌, IfSome, not, slice_get}
use Rattle.std.specs.List.{list_all}
use Rattle.std.proofs.lemmas.Bool.{and_parts, false≢true}
use Rattle.std.proofs.lemmas.Option.{none-some, same_Some}
use Rattle.mp_task.specs.Plan.{TaskStep}
use Rattle.mp_messages.specs.declared.history.Event.{Event}
use Rattle.mp_messages.specs.declared.message.EndKind.{EndKind}
use Rattle.mp_snapshot.specs.declared.verdict.Verdict.{Verdict}
use Rattle.mp_snapshot.specs.declared.verdict.Verdict.TheVariants.{Proved, NoPlan, Spent, Continue}
use Rattle.mp_machine.specs.declared.event.Ending.{Ending}
use Rattle.mp_machine.specs.AgentRecord.{AgentRecord, given_verdict, is_going}
use Rattle.mp_machine.specs.Machine.{AgentMachine}
use Rattle.mp_machine.specs.Taking.{ending_of}
use Rattle.mp_world.specs.Events.{run}
use Rattle.mp_world.specs.IsRun.{IsRun}
use Rattle.mp_world.specs.Team.{Team, team_with}
use Rattle.mp_world.specs.Values.{Values}
use Rattle.mp_world.specs.World.{World, agent_at}
use Rattle.mp_world.proofs.Agents.{agree_numbered, member_of}
use Rattle.mp_world.proofs.Runs.{run_of_team}
use Rattle.mp_team_snapshots.proofs.Agreeing.{are_of_team}
use Rattle.mp_team_verdicts.specs.Ending.{EndsWith, EndsWithout, HasShare, IsAt, Stage, end_by}
use Rattle.mp_team_verdicts.specs.Ending.Stage.{over, picking, searching, walking, without_plan}
use Rattle.mp_team_verdicts.proofs.InRuns.{ends_so_far}
use Rattle.mp_schedule.specs.Finished.{AreOfRun, EndsBy}

-- an agent does not both go on and not
never_both : (ending : Ending) → is_going ending ≡ false → is_going ending ≡ true → ⊥
never_both ending ended going = false≢true (sym ended ∙ going)

-- a verdict that ends the search without a plan
ends_without : (verdict : Option Verdict) (kind : EndKind) (ending : Ending) → end_by verdict ≡ Some kind
    → ending ≡ ending_of kind → EndsBy verdict ending
ends_without None kind ending is same = none-some kind is
ends_without (Some (Proved agent cost)) kind ending is same = absurd (none-some kind is)
ends_without (Some NoPlan) kind ending is same = same ∙ ap ending_of (sym (same_Some _ kind is))
ends_without (Some (Spent agent)) kind ending is same = same ∙ ap ending_of (sym (same_Some _ kind is))
ends_without (Some Continue) kind ending is same = none-some kind is

module _ (publics : ℕ) (w : World) (first : AgentRecord) (there : agent_at w 1 ≡ Some first)
    (ended : is_going first.ending ≡ false)
  where
    same_verdict : (x : AgentRecord) → agent_at w 1 ≡ Some x → given_verdict x ≡ given_verdict first
    same_verdict x here = ap (λ (r : AgentRecord). given_verdict r) (same_Some x first (sym here ∙ there))

    without : (kind : EndKind) → end_by (given_verdict first) ≡ Some kind → EndsWithout kind first
        → EndsBy (given_verdict first) first.ending
    without kind is ends = by ends.ending
      where
        by : (is_going first.ending ≡ true) ⊎ (first.ending ≡ ending_of kind)
            → EndsBy (given_verdict first) first.ending
        by (inl going) = absurd (never_both first.ending ended going)
        by (inr same) = ends_without (given_verdict first) kind first.ending is same

    with_plan : (agent cost : ℕ) (plan : List TaskStep) → given_verdict first ≡ Some (Proved agent cost)
        → EndsWith plan first → EndsBy (given_verdict first) first.ending
    with_plan agent cost plan is ends = by ends.ending
      where
        by : (is_going first.ending ≡ true) ⊎ HasShare plan first → EndsBy (given_verdict first) first.ending
        by (inl going) = absurd (never_both first.ending ended going)
        by (inr has) = subst (λ v. EndsBy v first.ending) (sym is) (length plan, has.ending)

    by_stage : (stage : Stage) → IsAt publics w stage → EndsBy (given_verdict first) first.ending
    by_stage searching at = absurd (never_both first.ending ended (at.agents 1 first there).walked.going)
    by_stage (without_plan kind) at =
        without kind (ap end_by (sym (same_verdict at.first at.there)) ∙ at.verdict.verdict) (at.agents 1 first there)
    by_stage (picking agent number plan) at =
        absurd (never_both first.ending ended (at.agents 1 first there).walked.going)
    by_stage (walking from to sent earlier later) at =
        absurd (never_both first.ending ended (at.agents 1 first there).going)
    by_stage (over by plan) at =
        let p = at.verdict.proved in
        with_plan p.agent p.cost plan (sym (same_verdict at.first at.there) ∙ p.verdict) (at.agents 1 first there)

ends_in_run : (team : Team) (schedule : List Event) (w : World) → IsRun team schedule w
    → (first : AgentRecord) → agent_at w 1 ≡ Some first → is_going first.ending ≡ false
    → EndsBy (given_verdict first) first.ending
ends_in_run team schedule w run first there ended =
    let of_world = run_of_team team schedule w run.leads in
    let member = (member_of team.tasks (agree_numbered team.tasks run.is_team.tasks.agree) w of_world 1 first there).task in
    let of_team = are_of_team team.tasks first.task run.is_team.tasks member in
    let ends = ends_so_far team run.is_team first.task.publics of_team schedule w run.leads in
    by_stage first.task.publics w first there ended ends.stage ends.is

-- where all machines of a run have ended, agent 1 has ended by its verdict
pub first_ends : (value : Values) (ms : List AgentMachine) → AreOfRun value ms
    → list_all (λ r. not (is_going r.ending)) (map (λ m. m.done) ms) ≡ true
    → IfSome (slice_get ms 0) (λ m. EndsBy (given_verdict m.done) m.done.ending)
first_ends value [] is ended = tt
first_ends value (m ∷ ms) is ended =
    let others = list_all (λ r. not (is_going r.ending)) (map (λ m. m.done) ms) in
    let parts = and_parts (not (is_going m.done.ending)) others ended in
    ends_in_run (team_with value is.limit is.tasks) is.schedule is.last is.run m.done
    (ap (λ rs. slice_get rs 0) is.agents) (flipped (is_going m.done.ending) parts.0)
  where
    flipped : (b : Bool) → not b ≡ true → b ≡ false
    flipped true h = sym h
    flipped false h = refl
