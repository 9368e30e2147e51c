-- No end is under way from any agent but agent 1.
use Rattle.mp_world.proofs.Basics.{◌≡◌, ◌≢◌, ℕ, Bool, true, false, List, [], ◌∷◌, length, Option, Some, None, refl, sym, ap, subst, ◌∙◌, arith, ◌⊎◌, inl, inr, ◌==◌, Contains, not, filter_map, eqb-false}
use Rattle.mp_world.specs.AgentWords.{AgentTask, Event, Expand, Take, Start, EndKind, Message, AgentRecord}
use Rattle.mp_world.specs.Events.{agent_of, local_of, taken}
use Rattle.mp_world.specs.Steps.{IsStepOf}
use Rattle.mp_world.specs.Team.{Team}
use Rattle.mp_world.specs.Values.{Values}
use Rattle.mp_world.specs.World.{IsTeamWorld, World, agent_at, start_world}
use Rattle.mp_team_snapshots.specs.Messages.{end_of, ends, messages}
use Rattle.mp_team_snapshots.specs.Snapshots.{AreEndsOfFirst, AreTwo}
use Rattle.mp_team_snapshots.specs.Team.{IsTeamOf, SendsFitting}
use Rattle.mp_team_snapshots.proofs.Changes.{left, me_before, messages_before, numbers_next, unsent}
use Rattle.mp_team_snapshots.proofs.Effects.{IsTaken, took_effect}
use Rattle.mp_team_snapshots.proofs.EndsSent.{local_sends}
use Rattle.mp_team_snapshots.proofs.Kept.{no_messages}
use Rattle.mp_team_snapshots.proofs.Protocol.{IsOf, pair}
use Rattle.mp_team_snapshots.proofs.Reading.{IsPart}
use Rattle.mp_team_snapshots.proofs.Sendings.{messages_to}
use Rattle.mp_team_snapshots.proofs.TakingFirst.{left_others, taken_first}
use Rattle.mp_team_snapshots.proofs.Worlds.{HasNumbers, both, is_of_there, team_numbers}

ends_part : IsPart end_of
ends_part = record { state = λ s. refl; pick = λ n. refl; trace = λ sent back. refl; length = λ n. refl }

-- Where no message with some part is under way between certain agents, none is after an event that sends none.
module _ {X : Type 0} (part : Message → Option X) (is_part : IsPart part) (Between : ℕ → ℕ → Type 0)
    (value : Values) (publics : ℕ) (tasks : List AgentTask) (team : IsTeamOf publics tasks) (w : World)
    (is : IsTeamWorld tasks w)
    (before : (i j : ℕ) → IsOf (length tasks) i → IsOf (length tasks) j → Between i j → filter_map part (messages publics w i j) ≡ []) where
  -- none in a list, and none where the first is taken
  none_behind : (m : Message) (ms : List Message) → filter_map part (m ∷ ms) ≡ [] → filter_map part ms ≡ []
  none_behind m ms none = by (part m) refl
    where
      no_item : (x : X) (xs : List X) → x ∷ xs ≡ [] → ⊥
      no_item x xs e = cc

      by : (o : Option X) → part m ≡ o → filter_map part ms ≡ []
      by None is = sym (rw is refl) ∙ none
      by (Some x) is = absurd (no_item x (filter_map part ms) (sym (rw is refl) ∙ none))

  -- what is left has none
  left_none : (event : Event) (next : World) (step : IsStepOf value w event next) (i j : ℕ) → IsOf (length tasks) i → IsOf (length tasks) j
      → Between i j → filter_map part (left value publics tasks team w is event next step i j) ≡ []
  left_none (Expand agent) next step i j is_i is_j off =
      ap (filter_map part) (sym (messages_before value publics tasks team w is (Expand agent) next step i j)) ∙ before i j is_i is_j off
  left_none Start next step i j is_i is_j off =
      ap (filter_map part) (sym (messages_before value publics tasks team w is Start next step i j)) ∙ before i j is_i is_j off
  left_none (Take b a) next step i j is_i is_j off = by (pair i j a b)
    where
      it : IsTaken step.agent a (taken w (Take b a)) step.step
      it = took_effect (value step.agent.task) step.agent a (taken w (Take b a)) step.step step.local

      this : filter_map part (messages publics w a b) ≡ [] → filter_map part (left value publics tasks team w is (Take b a) next step a b) ≡ []
      this none =
          none_behind it.message (left value publics tasks team w is (Take b a) next step a b)
          (sym (ap (filter_map part) (taken_first value publics tasks team w is b a next step it.message it.read)) ∙ none)

      by : ((i ≡ a) × (j ≡ b)) ⊎ ((i ≢ a) ⊎ (j ≢ b)) → filter_map part (left value publics tasks team w is (Take b a) next step i j) ≡ []
      by (inl same) =
          (λ k. filter_map part (left value publics tasks team w is (Take b a) next step (same.0 k) (same.1 k)))
          ∙ this ((λ k. filter_map part (messages publics w (sym same.0 k) (sym same.1 k))) ∙ before i j is_i is_j off)
      by (inr apart) =
          ap (filter_map part) (left_others value publics tasks team w is b a next step it.message it.read i j is_i is_j apart)
          ∙ before i j is_i is_j off

  pub none_next : (event : Event) (next : World) (step : IsStepOf value w event next) → SendsFitting step.step
      → ((j : ℕ) → Between (agent_of event) j → filter_map part (messages_to j step.step.out) ≡ [])
      → (i j : ℕ) → IsOf (length tasks) i → IsOf (length tasks) j → Between i j → filter_map part (messages publics next i j) ≡ []
  none_next event next step fits silent i j is_i is_j off =
      unsent value publics tasks team w is event next step fits part is_part i j is_i is_j
      (λ here. silent j (subst (λ k. Between k j) here off))
      ∙ left_none event next step i j is_i is_j off

-- ---- in worlds

pub ends_kept : (value : Values) (publics : ℕ) (tasks : List AgentTask) → IsTeamOf publics tasks
    → (w : World) (event : Event) (next : World) → IsTeamWorld tasks w → (step : IsStepOf value w event next) → SendsFitting step.step
    → AreEndsOfFirst publics w → AreEndsOfFirst publics next
ends_kept value publics tasks team w event next is step fits old = record {
  none = λ a b two other.
      none_next end_of ends_part (λ i j. (i ≢ j) × (i ≢ 1)) value publics tasks team w is
      (λ i j is_i is_j off. before i j is_i is_j off.0 off.1) event next step fits
      (λ j off. local_sends (value step.agent.task) step.agent
      (λ first. off.1 (sym (me_before value publics tasks team w is event next step) ∙ first))
      (local_of event) (taken w event) step.step step.local j)
      a.task.me b.task.me (of a two.one) (of b two.other) (two.different, other);
}
  where
    numbers : HasNumbers tasks next
    numbers = numbers_next value publics tasks team w is event next step

    of : (r : AgentRecord) → agent_at next r.task.me ≡ Some r → IsOf (length tasks) r.task.me
    of r there = is_of_there publics tasks team next numbers r.task.me r there

    before : (i j : ℕ) → IsOf (length tasks) i → IsOf (length tasks) j → i ≢ j → i ≢ 1 → ends publics w i j ≡ []
    before = both publics tasks team w (team_numbers publics tasks team w is) (λ i j. i ≢ j → i ≢ 1 → ends publics w i j ≡ [])
        (λ a b there_a there_b off other. old.none a b (record { one = there_a; other = there_b; different = off }) other)

pub ends_new : (team : Team) (publics : ℕ) → IsTeamOf publics team.tasks → AreEndsOfFirst publics (start_world team)
ends_new team publics of_team = record {
  none = λ a b two other. ap (filter_map end_of) (no_messages team publics of_team a.task.me b.task.me);
}

-- so an end that is under way is not strange
pub end_is_good : (publics : ℕ) (w : World) (a b : AgentRecord) (kind : EndKind) → AreEndsOfFirst publics w → AreTwo w a b
    → Contains (ends publics w a.task.me b.task.me) kind → not (a.task.me == 1) ≡ false
end_is_good publics w a b kind sound two among = by (a.task.me == 1) refl
  where
    nowhere : (xs : List EndKind) → xs ≡ [] → Contains xs kind → ⊥
    nowhere [] none (k, inside, here) = omega arith
    nowhere (x ∷ xs) none among = cc

    by : (test : Bool) → (a.task.me == 1) ≡ test → not test ≡ false
    by true is = refl
    by false is = absurd (nowhere (ends publics w a.task.me b.task.me) (sound.none a b two (eqb-false a.task.me 1 is)) among)
