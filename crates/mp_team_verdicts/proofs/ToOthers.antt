-- States go to other agents alone: none is under way from an agent to itself.
use Rattle.mp_world.proofs.Basics.{◌≡◌, ◌≢◌, ℕ, ◌-◌, ◌≤◌, ◌⊎◌, Bool, true, false, List, [], length, Some, refl, sym, ap, subst, ◌∙◌, arith, inl, inr, Contains, replicate, ◌==◌, if◌then◌else◌, slice_index_or, filter, cases_eq, eqb-true, get_or-replicate}
use Rattle.mp_world.proofs.Basics.{All-contains, Contains-append_cases}
use Rattle.mp_list.proofs.Members.{no_member, from_map}
use Rattle.mp_messages.specs.declared.message.Message.TheVariants as kinds
use Rattle.mp_store.proofs.RankLemmas.{member_passes}
use Rattle.mp_world.specs.AgentWords.{AgentTask, Event, Expand, Take, Start, State, spelling, Out, in_bytes}
use Rattle.mp_world.specs.Events.{agent_of, local_of, run, sent_in, taken, without_taken}
use Rattle.mp_world.specs.Steps.{IsStepOf, sent_between, sent_to}
use Rattle.mp_world.specs.Team.{Team}
use Rattle.mp_world.specs.World.{AreNumbered, IsAgent, IsTeamWorld, World, start_world, under_way}
use Rattle.mp_world.proofs.Agents.{member_of, sender_of}
use Rattle.mp_world.proofs.Mail.{agent_of_team, under_way-other}
use Rattle.mp_world.proofs.Runs.{run_has}
use Rattle.mp_world.proofs.Stepping.{team_lists, team_size}
use Rattle.mp_team_verdicts.proofs.Expansions.{GoesOut}
use Rattle.mp_team_verdicts.proofs.Heard.{HearOthers, event_hears, start_hears}
use Rattle.mp_team_verdicts.proofs.StepMessages.{local_goes}

-- no state is under way from an agent of a team to itself
abbrev pub HaveNoneToThemselves : List AgentTask → World → Type 0
HaveNoneToThemselves tasks w = (agent : ℕ) (m : State) → 1 ≤ agent → agent ≤ length tasks → Contains (under_way w agent agent) (spelling (kinds.State m)) → ⊥

module _ (team : Team) (numbered : AreNumbered team.tasks) where
  open team use {tasks, value}

  none_next : (w : World) (event : Event) (next : World) → IsTeamWorld tasks w → HearOthers w → HaveNoneToThemselves tasks w → IsStepOf value w event next
      → HaveNoneToThemselves tasks next
  none_next w event next of_team hears old is agent m low high here =
      elim (Contains-append_cases (under_way (without_taken w event) agent agent) (sent_between event is.step agent agent) (spelling (kinds.State m))
      (subst (λ (ms : List (List ℕ)). Contains ms (spelling (kinds.State m))) (is.mail agent agent there there) here)) [
        | inl before ↦ old agent m low high (left event is before)
        | inr new ↦ sent (agent == agent_of event) refl new
      ]
    where
      there : IsAgent w agent
      there = record { from_1 = low; at_most = let size = team_size tasks w of_team in omega arith }

      -- no event takes a message from an agent to itself
      left : (event : Event) → IsStepOf value w event next → Contains (under_way (without_taken w event) agent agent) (spelling (kinds.State m))
          → Contains (under_way w agent agent) (spelling (kinds.State m))
      left (Expand other) is here = here
      left Start is here = here
      left (Take by of) is here =
          let sender = sender_of tasks numbered w of_team by of is.agent is.there is.may in
          subst (λ (ms : List (List ℕ)). Contains ms (spelling (kinds.State m)))
          (under_way-other w (team_lists tasks w of_team) of by agent agent _ sender.0 (agent_of_team w by is.agent is.there) there there (apart sender.1 (cases_eq agent of))) here
        where
          apart : of ≢ by → (agent ≡ of) ⊎ (agent ≡ of → ⊥) → (agent ≢ of) ⊎ (agent ≢ by)
          apart off (inl same) = inr (λ same_by. off (sym same ∙ same_by))
          apart off (inr other) = inl other

      sent : (b : Bool) → (agent == agent_of event) ≡ b → Contains (if b then sent_to agent (sent_in is.step) else []) (spelling (kinds.State m)) → ⊥
      sent false test new = no_member (spelling (kinds.State m)) new
      sent true test new =
          let out = from_map (λ (x : Out). x.bytes) (filter (λ (x : Out). x.to == agent) (sent_in is.step)) (spelling (kinds.State m)) new in
          let passes = member_passes (λ (x : Out). x.to == agent) (sent_in is.step) out.0 out.1 in
          let x = from_map in_bytes is.step.out out.0 passes.0 in
          let to : x.0.to ≡ agent = ap (λ (y : Out). y.to) x.2 ∙ eqb-true out.0.to agent passes.1 in
          let r = is.agent in
          let me = (member_of tasks numbered w of_team (agent_of event) r is.there).me in
          let goes = local_goes (value r.task) r is.step (local_of event) (taken w event) (hears (agent_of event) r is.there) is.may is.local in
          (All-contains (GoesOut r.task) is.step.out x.0 goes.out x.1).another (to ∙ eqb-true agent (agent_of event) test ∙ sym me)

  start_none : HaveNoneToThemselves tasks (start_world team)
  start_none agent m low high here = no_member (spelling (kinds.State m)) (subst (λ (ms : List (List ℕ)). Contains ms (spelling (kinds.State m))) nothing here)
    where
      nothing : under_way (start_world team) agent agent ≡ []
      nothing =
          ap (λ (row : List (List (List ℕ))). slice_index_or row (agent - 1) []) (get_or-replicate (length tasks) (agent - 1) (replicate (length tasks) []) [] (omega arith))
          ∙ get_or-replicate (length tasks) (agent - 1) [] [] (omega arith)

  pub none_to_themselves : (schedule : List Event) (w : World) → run team schedule ≡ Some w → HaveNoneToThemselves tasks w
  none_to_themselves schedule w ran =
      (run_has team (λ w. HearOthers w × HaveNoneToThemselves tasks w) (start_hears team numbered, start_none)
      (λ w event next of_team old is. (event_hears team numbered w event next old.0 is, none_next w event next of_team old.0 old.1 is)) schedule w ran).1
