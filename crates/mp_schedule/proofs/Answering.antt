-- The answers to an event, and that the run goes on.
use Rattle.std.proofs.Common.{◌≡◌, Bool, true, false, List, Option, Some, None, refl, sym, ap}
use Rattle.std.proofs.Common.{subst, ◌∙◌}
use Rattle.std.specs.Prelude.{IfSome, Result, Ok, Err, if◌then◌else◌}
use Rattle.std.proofs.lemmas.Bool.{false≢true}
use Rattle.mp_messages.specs.declared.history.Entry.{Entry}
use Rattle.mp_messages.specs.declared.history.Event.{Event}
use Rattle.mp_messages.specs.declared.history.Event.TheVariants.{Expand, Take, Start}
use Rattle.mp_messages.specs.History.{schedule as schedule_of}
use Rattle.mp_machine.specs.Machine.{AgentMachine}
use Rattle.mp_world.specs.Events.{agent_may, agent_of, has_message, is_legal}
use Rattle.mp_world.specs.Values.{Values}
use Rattle.mp_world.specs.World.{World}
use Rattle.mp_schedule.specs.declared.refusal.EventRefusal.{EventRefusal}
use Rattle.mp_schedule.specs.declared.refusal.EventRefusal.TheVariants.{NotNow}
use Rattle.mp_schedule.specs.Happening.{HasHappened, IsAnswer, missing, refusal_of}
use Rattle.mp_schedule.specs.Machines.{AreOneRun, limit_of, tasks_of, team_run, world_of}
use Rattle.mp_schedule.specs.Steps.{AreAfter}
use Rattle.mp_schedule.specs.TeamRun.{IsSameTeam, TeamRun}
use Rattle.mp_schedule.specs.UnderWay.{Mail}
use Rattle.mp_schedule.proofs.Goes.{run_again, schedule_more, team_again}

-- what a refusal says of the run after it
abbrev Refuses : TeamRun → Result (Unit {0}) EventRefusal → TeamRun → Option EventRefusal → Type 0
Refuses old answer new o = IfSome o (λ refusal. (answer ≡ Err refusal) × (new ≡ old))

-- an event that nothing speaks against is legal
pub nothing_against : (w : World) (event : Event) → refusal_of w event ≡ None → is_legal w event ≡ true
nothing_against w event none = by (agent_may w event) refl (has_message w event) refl
  where
    speaks : (e : Event) (b : Bool) → has_message w e ≡ b → (if b then None else missing e) ≡ None → b ≡ true
    speaks (Expand agent) true is same = refl
    speaks (Expand agent) false is same = absurd (let impossible : ⊥ = cc in impossible)
    speaks (Take by from) true is same = refl
    speaks (Take by from) false is same = absurd (let impossible : ⊥ = cc in impossible)
    speaks Start true is same = refl
    speaks Start false is same = absurd (let impossible : ⊥ = cc in impossible)

    by : (p : Bool) → agent_may w event ≡ p → (q : Bool) → has_message w event ≡ q → is_legal w event ≡ true
    by true may true there = rw (may, there) refl
    by true may false there =
        let same : (if false then None else missing event) ≡ None = rw (may, there) at none in
        absurd (false≢true (speaks event false there same))
    by false may q there = let same : Some (NotNow (agent_of event)) ≡ None = rw may at none in absurd
        (let impossible : ⊥ = cc in impossible)

module _ (value : Values)
    (ms ms' : List AgentMachine) (mail mail' : Mail) (log log' : List Entry) (event : Event)
    (failed : Bool)
    (works : failed ≡ false)
    (tasks : tasks_of ms' ≡ tasks_of ms)
    (limit : limit_of ms' ≡ limit_of ms)
  where
    abbrev old : TeamRun
    old = team_run ms mail log failed

    abbrev new : Bool → TeamRun
    new stops = team_run ms' mail' log' stops

    pub still : (stops : Bool) → IsSameTeam old (new stops)
    still stops = record { tasks = tasks; limit = limit }

    -- for want of memory
    pub fails : AreOneRun value ms mail log failed → AreOneRun value ms' mail' log' true
    fails is = record {
      team = team_again old (new true) (still true) is.team;
      going = λ no. absurd
          (let impossible : ⊥ = cc in impossible);
    }

    module _ (after : AreAfter value (record { machines = ms; mail = mail; log = log }) event
        (record { machines = ms'; mail = mail'; log = log' })) where
      pub happened : HasHappened value old event (new failed)
      happened = record {
        leads = after.leads;
        appended = ap schedule_of after.logged
            ∙ schedule_more value (world_of ms mail) (world_of ms' mail') event log after.leads;
        logged = after.logged;
        kept = refl;
      }

      pub goes_on : AreOneRun value ms mail log failed → AreOneRun value ms' mail' log' failed
      goes_on is = record {
        team = team_again old (new failed) (still failed) is.team;
        going = λ still_works.
            let before = is.going works in
            record {
              free = after.free;
              run = run_again value (team_run ms mail log false) (team_run ms' mail' log' false) event
                  (record { tasks = tasks; limit = limit }) before.run
                  (record {
                    leads = after.leads;
                    appended = ap schedule_of after.logged
                        ∙ schedule_more value (world_of ms mail) (world_of ms' mail') event log after.leads;
                    logged = after.logged;
                    kept = refl;
                  });
            };
      }

      module _ (none : refusal_of (world_of ms mail) event ≡ None) where
        pub answer_ok : IsAnswer value {A = Unit {0}} old event (Ok tt) (new failed)
        answer_ok = record {
          again = λ no. absurd (false≢true (sym works ∙ no));
          refused = λ _. subst (Refuses old (Ok tt) (new failed)) (sym none) tt;
          says = happened;
          same = still failed;
        }
