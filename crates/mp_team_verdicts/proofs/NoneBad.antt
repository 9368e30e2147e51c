-- No agent has taken a message that it found to be a bad one.
use Rattle.mp_world.proofs.Basics.{◌≡◌, ℕ, true, false, ◌&&◌, List, [], ◌∷◌, length, Option, Some, None, refl, sym, ap, subst, ◌∙◌, ◌==◌, Contains, Result, Ok, Err, not, slice_get, slice_index_or, option_map_or, eqb-suc-zero, none-some, same_Some}
use Rattle.mp_messages.specs.declared.history.Entry.{Entry}
use Rattle.mp_machine.specs.declared.event.Local.TheVariants as locals
use Rattle.mp_world.specs.AgentWords.{AgentTask, Event, Take, part, schedule, BadKind, AgentRecord, new_record, local, may, Step}
use Rattle.mp_world.specs.Events.{agent_may, is_legal, taken}
use Rattle.mp_world.specs.Team.{IsTeam, Team}
use Rattle.mp_world.specs.World.{AreNumbered, IsAgent, World, agent_at, under_way}
use Rattle.mp_world.proofs.Agents.{agree_numbered, sender_of}
use Rattle.mp_world.proofs.Mail.{agent_of_team}
use Rattle.mp_world.proofs.Runs.{run_of_team}
use Rattle.mp_world.proofs.Stepping.{event_is_step, team_lists}
use Rattle.mp_team_verdicts.proofs.Leading.{leads_in_runs}
use Rattle.mp_logs.specs.Parts.{IsTeamHistory}
use Rattle.mp_logs.specs.Served.{HasServed, IsBadFor, IsSettled, Receipt, Served}
use Rattle.mp_logs.proofs.Onward.{done_task}
use Rattle.mp_logs.proofs.Settled.{is_settled, settled}

-- a list with a first item has one
some_there : (xs : List (List ℕ)) (x : List ℕ) → slice_get xs 0 ≡ Some x → not (length xs == 0) ≡ true
some_there [] x is = absurd (none-some x is)
some_there (z ∷ zs) x is = ap not (eqb-suc-zero (length zs))

first_is : (xs : List (List ℕ)) (x : List ℕ) → slice_get xs 0 ≡ Some x → slice_index_or xs 0 [] ≡ x
first_is [] x is = absurd (none-some x is)
first_is (z ∷ zs) x is = same_Some z x is

not_both : (result : Result Step BadKind) (s : Step) (kind : BadKind) → result ≡ Ok s → result ≡ Err kind → ⊥
not_both result s kind good bad = let impossible : ⊥ = cc in impossible

module _ (team : Team) (is_team : IsTeam team) (log : List Entry) (served : AgentTask → Served)
    (history : IsTeamHistory team.tasks log)
    (has : (u : AgentTask) → Contains team.tasks u → HasServed team.value team.limit u (part log u.me) (served u)) where
  open team use {tasks, value, limit}

  numbered : AreNumbered tasks
  numbered = agree_numbered tasks is_team.tasks.agree

  abbrev whole : List Entry
  whole = settled team log served numbered history has

  is : IsSettled team served whole
  is = is_settled team log served numbered history has

  module _ (t : AgentTask) (here : Contains tasks t) (m : Receipt) (bad : (served t).bad ≡ Some m)
      (allowed : may (served t).last (locals.Take m.from) ≡ true) (kind : BadKind)
      (found : local (value t) (served t).last (locals.Take m.from) m.bytes ≡ Err kind) where
    abbrev w : World
    w = is.log.last

    abbrev r : AgentRecord
    r = (served t).last

    abbrev event : Event
    event = Take t.me m.from

    there : agent_at w t.me ≡ Some r
    there = is.log.agents t here

    sender : IsAgent w m.from
    sender = (sender_of tasks numbered w (run_of_team team (schedule whole) w is.log.runs) t.me m.from r there
        allowed).0

    first : slice_get (under_way w m.from t.me) 0 ≡ Some m.bytes
    first =
        ap (λ ms. slice_get ms 0) (is.log.mail m.from t.me sender (agent_of_team w t.me r there))
        ∙ is.next t m here bad

    by_agent : agent_may w event ≡ true
    by_agent = ap (λ o. option_map_or (λ (x : AgentRecord). may x (locals.Take m.from)) o false) there ∙ allowed

    legal : is_legal w event ≡ true
    legal = λ i. by_agent i && some_there (under_way w m.from t.me) m.bytes first i

    task : r.task ≡ t
    task = done_task (value t) (new_record t (value t) limit) r _ (has t here).done

    pub impossible_receipt : ⊥
    impossible_receipt =
        let next = leads_in_runs team is_team (schedule whole) w is.log.runs event legal in
        let of_team = run_of_team team (schedule whole) w is.log.runs in
        let step = event_is_step value w (team_lists tasks w of_team) event next.0 next.1 in
        let same : step.agent ≡ r = same_Some step.agent r (sym step.there ∙ there) in
        let good : local (value r.task) r (locals.Take m.from) (taken w event) ≡ Ok step.step =
        subst (λ (x : AgentRecord). local (value x.task) x (locals.Take m.from) (taken w event) ≡ Ok step.step) same step.local
        in
        let taken_is : taken w event ≡ m.bytes = first_is (under_way w m.from t.me) m.bytes first in
        not_both (local (value t) r (locals.Take m.from) m.bytes) step.step kind
        ((λ i. local (value (sym task i)) r (locals.Take m.from) (sym taken_is i)) ∙ good) found

  pub none_bad : (t : AgentTask) → Contains tasks t → (served t).bad ≡ None
  none_bad t here = by (served t).bad refl (has t here).bad
    where
      by : (o : Option Receipt) → (served t).bad ≡ o → IsBadFor (value t) (served t).last o → o ≡ None
      by None same bad = refl
      by (Some m) same bad = absurd (impossible_receipt t here m same bad.0 bad.1.0 bad.1.1)
