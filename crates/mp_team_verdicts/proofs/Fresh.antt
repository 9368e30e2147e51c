-- In a world in which no state is under way and no agent has anything to expand, agent 1 starts at most one snapshot more: the
-- verdict on it decides.
use Rattle.mp_world.proofs.Basics.{◌≡◌, ◌≢◌, ℕ, suc, ◌+◌, ◌≤◌, ◌<◌, Bool, true, false, ◌&&◌, List, length, map, take, Option, Some, None, refl, sym, ap, subst, ◌∙◌, arith, ◌⊎◌, inl, inr, nat_lt, not, if◌then◌else◌, option_map, slice_get, and_from, and_parts}
use Rattle.mp_world.proofs.Basics.{false≢true, lt-ltb, none-some, same_Some, slice_get-map}
use Rattle.mp_messages.specs.declared.message.Message.TheVariants.{State as AState}
use Rattle.mp_store.specs.Minima.{least_f}
use Rattle.mp_machine.proofs.NotesLemmas.{given_at_first, own_begun, own_reported}
use Rattle.mp_machine.proofs.StepLemmas.{start_parts}
use Rattle.mp_world.specs.AgentWords.{AgentTask, Event, Expand, Take, Start, Findings, Message, Notes, begun, is_complete, is_under_way, own, with_marker, verdict_of, Verdict, Proved, NoPlan, Spent, Continue, AgentRecord, given_verdict, is_going, may_start, findings}
use Rattle.mp_world.specs.AgentWords.{is_deciding}
use Rattle.mp_world.specs.SearchWords.{SearchRecord, bound, is_below_bound, is_spent, may_expand}
use Rattle.mp_world.specs.Events.{agent_of}
use Rattle.mp_world.specs.Steps.{IsStepOf}
use Rattle.mp_world.specs.Values.{Values}
use Rattle.mp_world.specs.World.{IsTeamWorld, World, agent_at}
use Rattle.mp_team_snapshots.specs.Snapshots.{AreNotesOf}
use Rattle.mp_team_snapshots.specs.Team.{IsTeamOf}
use Rattle.mp_team_snapshots.proofs.Consequences.{verdict_is_over, verdict_is_rule}
use Rattle.mp_team_snapshots.proofs.Due.{begun_number}
use Rattle.mp_team_snapshots.proofs.InRuns.{HoldsInRuns}
use Rattle.mp_team_snapshots.proofs.Protocol.{IsOf}
use Rattle.mp_team_snapshots.proofs.Started.{is_over_of}
use Rattle.mp_team_snapshots.proofs.TakingFirst.{apart, is_receiver, is_sender}
use Rattle.mp_team_snapshots.proofs.Worlds.{team_numbers}
use Rattle.mp_team_states.proofs.Quiet.{IsOther}
use Rattle.mp_team_states.proofs.EachAgent.{each_agent}
use Rattle.mp_team_snapshots.proofs.Taken.{is_its, its_notes}
use Rattle.mp_team_verdicts.specs.Quiet.{is_quiet}
use Rattle.mp_team_verdicts.proofs.Decides.{FoundNothingToDo, decides}
use Rattle.mp_team_verdicts.proofs.Noting.{Moves, moved}
use Rattle.mp_team_verdicts.proofs.Noting.Moves.{begins, counts, marks, reports, starts, stays}
use Rattle.mp_team_verdicts.proofs.Silence.{HasNoStates, keeps_search, none_next, takes_other}

-- no state is under way, and no agent has anything to expand
pub record IsSilent (agents publics : ℕ) (w : World) : Type 0 where
  pub no_states : (i j : ℕ) → IsOf agents i → IsOf agents j → i ≢ j → HasNoStates agents publics w i j
  pub idle : (i : ℕ) (r : AgentRecord) → agent_at w i ≡ Some r → may_expand r.limit r.search ≡ false

-- what an agent has found still holds, and no state was counted
pub record IsCurrent (r : AgentRecord) : Type 0 where
  pub least : (own r.snapshot).least ≡ least_f r.search.kept
  pub goal : (own r.snapshot).goal ≡ bound r.search.kept
  pub spent : (own r.snapshot).spent ≡ is_spent r.limit r.search
  pub none : (own r.snapshot).under_way ≡ None

-- an agent has not begun the snapshot of a number, or what it has found holds
abbrev pub IsFresh : ℕ → AgentRecord → Type 0
IsFresh k r = (r.snapshot.number < k) ⊎ IsCurrent r

abbrev pub AreFresh : ℕ → World → Type 0
AreFresh k w = (i : ℕ) (r : AgentRecord) → agent_at w i ≡ Some r → IsFresh k r

-- ---- what stays current

current_by : (r s : AgentRecord) → own s.snapshot ≡ own r.snapshot → s.search ≡ r.search → s.limit ≡ r.limit → IsCurrent r → IsCurrent s
current_by r s mine search limit old = record {
  least = ap (λ (f : Findings). f.least) mine ∙ old.least ∙ sym (ap (λ (x : SearchRecord). least_f x.kept) search);
  goal = ap (λ (f : Findings). f.goal) mine ∙ old.goal ∙ sym (ap (λ (x : SearchRecord). bound x.kept) search);
  spent = ap (λ (f : Findings). f.spent) mine ∙ old.spent ∙ sym (λ k. is_spent (limit k) (search k));
  none = ap (λ (f : Findings). f.under_way) mine ∙ old.none;
}

fresh_by : (k : ℕ) (r s : AgentRecord) → s.snapshot.number ≡ r.snapshot.number → own s.snapshot ≡ own r.snapshot → s.search ≡ r.search
    → s.limit ≡ r.limit → IsFresh k r → IsFresh k s
fresh_by k r s number mine search limit (inl low) = inl (omega arith)
fresh_by k r s number mine search limit (inr old) = inr (current_by r s mine search limit old)

module _ (agents me : ℕ) (small : agents ≤ 16) (is_me : IsOf agents me) (k : ℕ) (r s : AgentRecord) (notes : AreNotesOf agents me r.snapshot)
    (search : s.search ≡ r.search) (limit : s.limit ≡ r.limit) where
  low_me : 1 ≤ r.snapshot.me
  low_me = let is = notes.me in let low = is_me.from_1 in omega arith

  high_me : r.snapshot.me ≤ 16
  high_me = let is = notes.me in let high = is_me.at_most in omega arith

  -- what is noted as a snapshot begins is current
  begun_current : (t : Notes) → s.snapshot ≡ t → own t ≡ own (begun r.snapshot (r.snapshot.number + 1) (findings r)) → IsCurrent s
  begun_current t is same =
      let mine = ap own is ∙ same ∙ own_begun r.snapshot (r.snapshot.number + 1) (findings r) low_me high_me in
      record {
        least = ap (λ (f : Findings). f.least) mine ∙ sym (ap (λ (x : SearchRecord). least_f x.kept) search);
        goal = ap (λ (f : Findings). f.goal) mine ∙ sym (ap (λ (x : SearchRecord). bound x.kept) search);
        spent = ap (λ (f : Findings). f.spent) mine ∙ sym (λ i. is_spent (limit i) (search i));
        none = ap (λ (f : Findings). f.under_way) mine;
      }

  fresh_moves : (o : Option Message) → ((m : Message) → o ≡ Some m → IsOther m) → Moves me o r s → IsFresh k r → IsFresh k s
  fresh_moves o other (stays is) old = fresh_by k r s (ap (λ (t : Notes). t.number) is) (ap own is) search limit old
  fresh_moves o other (counts from m state is) old = absurd (other (AState m) state)
  fresh_moves o other (marks from low is) old = fresh_by k r s (ap (λ (t : Notes). t.number) is) (ap own is) search limit old
  fresh_moves o other (reports from found low off is) old =
      fresh_by k r s (ap (λ (t : Notes). t.number) is)
      (ap own is ∙ own_reported r.snapshot from found low_me low (λ same. off (same ∙ notes.me))) search limit old
  fresh_moves o other (begins from off is) old =
      inr (begun_current (with_marker (begun r.snapshot (r.snapshot.number + 1) (findings r)) from) is refl)
  fresh_moves o other (starts is) old = inr (begun_current (begun r.snapshot (r.snapshot.number + 1) (findings r)) is refl)

module _ (value : Values) (publics : ℕ) (tasks : List AgentTask) (team : IsTeamOf publics tasks)
    (w : World) (is : IsTeamWorld tasks w) (holds : HoldsInRuns publics w) (silent : IsSilent (length tasks) publics w) where
  -- in silence no agent expands
  pub quiet_in_silence : (event : Event) (next : World) → IsStepOf value w event next → is_quiet event ≡ true
  quiet_in_silence (Expand agent) next step =
      let parts = and_parts (is_going step.agent.ending) (may_expand step.agent.limit step.agent.search) step.may in
      absurd (false≢true (sym (silent.idle agent step.agent step.there) ∙ parts.1))
  quiet_in_silence (Take b a) next step = refl
  quiet_in_silence Start next step = refl

  -- a message that is taken in silence is no state
  others : (event : Event) (next : World) (step : IsStepOf value w event next)
      → (m : Message) → (moved value publics tasks team w is event next step).message ≡ Some m → IsOther m
  others (Expand agent) next step m is_m = absurd ((moved value publics tasks team w is (Expand agent) next step).reads m is_m).0
  others (Take b a) next step m is_m =
      takes_other value publics tasks team w is b a next step
      (silent.no_states a b (is_sender value publics tasks team w is b a next step) (is_receiver value publics tasks team w is b a next step)
      (apart value publics tasks team w is b a next step)) m
      ((moved value publics tasks team w is (Take b a) next step).reads m is_m).1
  others Start next step m is_m = absurd ((moved value publics tasks team w is Start next step).reads m is_m).0

  module _ (event : Event) (next : World) (step : IsStepOf value w event next) where
    quiet : is_quiet event ≡ true
    quiet = quiet_in_silence event next step

    kept : (step.step.after.search ≡ step.agent.search) × (step.step.after.limit ≡ step.agent.limit)
    kept = keeps_search value publics tasks team w is event next step quiet silent.no_states

    pub silent_next : IsSilent (length tasks) publics next
    silent_next = record {
      no_states = λ i j is_i is_j off.
          none_next value publics tasks team w is event next step quiet i j is_i is_j (silent.no_states i j is_i is_j off);
      idle = each_agent value w event next step (λ i r. may_expand r.limit r.search ≡ false)
          ((λ k. may_expand (kept.1 k) (kept.0 k)) ∙ silent.idle (agent_of event) step.agent step.there)
          (λ i r there off. silent.idle i r there);
    }

    pub fresh_next : (k : ℕ) → AreFresh k w → AreFresh k next
    fresh_next k fresh =
        let move = moved value publics tasks team w is event next step in
        each_agent value w event next step (λ i r. IsFresh k r)
        (fresh_moves (length tasks) (agent_of event) team.agents (is_its value publics tasks team w is holds event next step) k step.agent step.step.after
        (its_notes value publics tasks team w is holds event next step) kept.0 kept.1 move.message
        (others event next step) move.moves
        (fresh (agent_of event) step.agent step.there))
        (λ i r there off. fresh i r there)

  -- ---- the verdict on a snapshot that was begun in silence

  module _ (k : ℕ) (fresh : AreFresh k w) (first : AgentRecord) (there : agent_at w 1 ≡ Some first) (late : k ≤ first.snapshot.number) where
    pub not_continue : given_verdict first ≡ Some Continue → ⊥
    not_continue given = decides (map (λ r. own r.snapshot) w.agents) nothing_to_do rule
      where
        rule : verdict_of (map (λ r. own r.snapshot) w.agents) ≡ Continue
        rule = verdict_is_rule publics tasks team w is holds.sound first Continue there given

        current : (place : ℕ) (r : AgentRecord) → slice_get w.agents place ≡ Some r → IsCurrent r
        current place r here = by (fresh (suc place) r here)
          where
            at_me : agent_at w r.task.me ≡ Some r
            at_me = ap (agent_at w) ((team_numbers publics tasks team w is).me (suc place) r here) ∙ here

            same : r.snapshot.number ≡ first.snapshot.number
            same = begun_number first.snapshot.number r.snapshot.number
                ((verdict_is_over publics tasks team w is holds.sound first Continue there given).begun r at_me)

            by : IsFresh k r → IsCurrent r
            by (inl early) = let equal = same in absurd (omega arith)
            by (inr now) = now

        nothing_to_do : (place : ℕ) (x : Findings) → slice_get (map (λ r. own r.snapshot) w.agents) place ≡ Some x → FoundNothingToDo x
        nothing_to_do place x here = by (slice_get w.agents place) refl
          where
            mapped : option_map (λ (r : AgentRecord). own r.snapshot) (slice_get w.agents place) ≡ Some x
            mapped = sym (slice_get-map (λ (r : AgentRecord). own r.snapshot) w.agents place) ∙ here

            by : (o : Option AgentRecord) → slice_get w.agents place ≡ o → FoundNothingToDo x
            by None none = absurd (none-some x (sym (ap (option_map (λ (r : AgentRecord). own r.snapshot)) none) ∙ mapped))
            by (Some r) some =
                let mine : own r.snapshot ≡ x =
                same_Some (own r.snapshot) x (sym (ap (option_map (λ (r : AgentRecord). own r.snapshot)) some) ∙ mapped) in
                let now = current place r some in
                subst FoundNothingToDo mine
                (record {
                  none_counted = now.none;
                  idle = (λ i. not (now.spent i) && is_below_bound (now.least i) (now.goal i)) ∙ silent.idle (suc place) r some;
                })

    -- agent 1 does not start another one
    pub no_start : 1 ≤ k → may_start first ≡ true → ⊥
    no_start some may = by (is_over_of first.snapshot me free)
      where
        me_1 : first.task.me ≡ 1
        me_1 = (team_numbers publics tasks team w is).me 1 first there

        at_me : agent_at w first.task.me ≡ Some first
        at_me = ap (agent_at w) me_1 ∙ there

        me : first.snapshot.me ≡ 1
        me = (holds.sound.notes first at_me).me ∙ me_1

        free : is_under_way first.snapshot ≡ false
        free = (start_parts first may).free

        given : is_complete first.snapshot ≡ true → 0 < first.snapshot.number
            → given_verdict first ≡ Some (verdict_of (take first.snapshot.agents first.snapshot.found))
        given complete begun =
            given_at_first first (start_parts first may).first
            ∙ ap (λ (b : Bool). if b then Some (verdict_of (take first.snapshot.agents first.snapshot.found)) else None)
            (and_from (nat_lt 0 first.snapshot.number) (is_complete first.snapshot) (lt-ltb 0 first.snapshot.number begun) complete)

        undecided : (v : Verdict) → given_verdict first ≡ Some v → is_deciding (Some v) ≡ false → ⊥
        undecided (Proved agent cost) is_v test = false≢true (sym test)
        undecided NoPlan is_v test = false≢true (sym test)
        undecided (Spent agent) is_v test = false≢true (sym test)
        undecided Continue is_v test = not_continue is_v

        by : (first.snapshot.number ≡ 0) ⊎ ((0 < first.snapshot.number) × (is_complete first.snapshot ≡ true)) → ⊥
        by (inl none) = omega arith
        by (inr (begun, complete)) =
            let v = verdict_of (take first.snapshot.agents first.snapshot.found) in
            undecided v (given complete begun)
            (sym (ap is_deciding (given complete begun)) ∙ (start_parts first may).undecided)
