-- An agent takes a message of the end of the search.
use Rattle.mp_world.proofs.Basics.{◌≡◌, ◌≢◌, ℕ, Bool, true, false, ◌&&◌, List, [], ◌∷◌, ◌++◌, length, Some, None, All, refl, sym, ap, subst, ◌∙◌, append-nil, ◌⊎◌, inl, inr, ◌==◌, filter, if◌then◌else◌, and_parts, cases_eq, eqb-true, false_from_ne_true, All-nil}
use Rattle.mp_world.proofs.Basics.{same_Some}
use Rattle.mp_machine.specs.declared.event.Local.TheVariants as locals
use Rattle.mp_world.specs.AgentWords.{AgentTask, TaskStep, Take, EndKind, Message, Done, Length, Pick, Trace, message_of, Notes, verdict, AgentRecord, is_going, may_now, Outgoing, Step, walked}
use Rattle.mp_world.specs.Events.{taken}
use Rattle.mp_world.specs.Steps.{IsStepOf}
use Rattle.mp_world.specs.Team.{AreTeamTasks}
use Rattle.mp_world.specs.Values.{Values}
use Rattle.mp_world.specs.World.{IsAgent, World, agent_at}
use Rattle.mp_team_snapshots.specs.Snapshots.{one_if_due}
use Rattle.mp_team_snapshots.specs.Team.{HasRoom, IsTeamOf}
use Rattle.mp_team_snapshots.proofs.Changes.{left}
use Rattle.mp_team_snapshots.proofs.Protocol.{IsOf, pair}
use Rattle.mp_team_snapshots.proofs.TakingFirst.{is_receiver, is_sender}
use Rattle.mp_team_snapshots.proofs.Worlds.{is_agent_of, team_numbers}
use Rattle.mp_team_states.specs.Paths.{IsPath}
use Rattle.mp_team_states.proofs.ReachedEntries.{path_stays}
use Rattle.mp_team_states.proofs.WorldsGrow.{step_grows}
use Rattle.mp_team_verdicts.specs.Ending.{HasWalked, IsAt, IsProved, Stage, due, end_messages, is_of_end, notes}
use Rattle.mp_team_verdicts.specs.Ending.Stage.{over, picking, searching, walking, without_plan}
use Rattle.mp_team_verdicts.proofs.Calmly.{IsSameVerdict, first_same}
use Rattle.mp_team_verdicts.proofs.EndMessages.{IsNoEnd, ends_to}
use Rattle.mp_team_verdicts.proofs.Fitting.{AllFit, HasEndRoom, ends_next}
use Rattle.mp_team_verdicts.proofs.Frames.{IsKnownWorld, agent_before, end_others, end_taken, me_before, of_agent_next, of_next, proved_stays}
use Rattle.mp_team_verdicts.proofs.EndSteps.{walked_keeps}
use Rattle.mp_team_verdicts.proofs.WalkOn.{ComesTo, team_fits, walk_comes}

-- ---- what is due is the message that is taken

pub record IsDue (test : Bool) (m taken_one : Message) (rest : List Message) : Type 0 where
  pub so : test ≡ true
  pub same : m ≡ taken_one
  pub none : rest ≡ []

pub one_due : (test : Bool) (m taken_one : Message) (rest : List Message) → one_if_due test m ≡ taken_one ∷ rest → IsDue test m taken_one rest
one_due true m taken_one rest is = record { so = refl; same = cc; none = cc }
one_due false m taken_one rest is = absurd (let impossible : ⊥ = cc in impossible)

pub nothing_due : (m : Message) (rest : List Message) → [] ≡ m ∷ rest → ⊥
nothing_due m rest is = cc

-- The message that is due from one agent to another one, by stages. No other message is under way behind it.
pub record DueCases (a b : ℕ) (rest : List Message) (Q : Stage → Message → Type 0) : Type 0 where
  pub done : (kind : EndKind) → a ≡ 1 → rest ≡ [] → Q (without_plan kind) (Done kind)
  pub pick : (agent number : ℕ) (plan : List TaskStep) → a ≡ 1 → agent ≡ b → rest ≡ [] → Q (picking agent number plan) (Pick number)
  pub trace : (sender receiver sent : ℕ) (earlier later : List TaskStep) → a ≡ sender → receiver ≡ b → rest ≡ []
      → Q (walking sender receiver sent earlier later) (Trace sent (length later))
  pub length : (teller : ℕ) (plan : List TaskStep) → a ≡ teller → rest ≡ [] → Q (over teller plan) (Length (length plan))

module _ (a b : ℕ) (going : Bool) (rest : List Message) (Q : Stage → Message → Type 0) (cases : DueCases a b rest Q) where
  pub due_holds : (stage : Stage) (m : Message) → due stage a b going ≡ m ∷ rest → Q stage m
  due_holds searching m is = absurd (nothing_due m rest is)
  due_holds (without_plan kind) m is =
      let d = one_due (a == 1 && going) (Done kind) m rest is in
      subst (Q (without_plan kind)) d.same (cases.done kind (eqb-true a 1 (and_parts (a == 1) going d.so).0) d.none)
  due_holds (picking agent number plan) m is =
      let d = one_due (a == 1 && agent == b) (Pick number) m rest is in
      let parts = and_parts (a == 1) (agent == b) d.so in
      subst (Q (picking agent number plan)) d.same (cases.pick agent number plan (eqb-true a 1 parts.0) (eqb-true agent b parts.1) d.none)
  due_holds (walking sender receiver sent earlier later) m is =
      let d = one_due (a == sender && receiver == b) (Trace sent (length later)) m rest is in
      let parts = and_parts (a == sender) (receiver == b) d.so in
      subst (Q (walking sender receiver sent earlier later)) d.same
      (cases.trace sender receiver sent earlier later (eqb-true a sender parts.0) (eqb-true receiver b parts.1) d.none)
  due_holds (over teller plan) m is =
      let d = one_due (a == teller && going) (Length (length plan)) m rest is in
      subst (Q (over teller plan)) d.same (cases.length teller plan (eqb-true a teller (and_parts (a == teller) going d.so).0) d.none)

-- nothing is due elsewhere
elsewhere : (sender receiver i j : ℕ) → (i ≢ sender) ⊎ (j ≢ receiver) → (i == sender && receiver == j) ≡ false
elsewhere sender receiver i j (inl other) =
    and_left_false (i == sender) (receiver == j) (false_from_ne_true (i == sender) (λ is. other (eqb-true i sender is)))
  where
    and_left_false : (p q : Bool) → p ≡ false → (p && q) ≡ false
    and_left_false p q is = ap (λ (p : Bool). p && q) is
elsewhere sender receiver i j (inr other) =
    and_right_false (i == sender) (receiver == j) (false_from_ne_true (receiver == j) (λ is. other (sym (eqb-true receiver j is))))
  where
    and_right_false : (p q : Bool) → q ≡ false → (p && q) ≡ false
    and_right_false true q is = is
    and_right_false false q is = refl

module _ (value : Values) (publics : ℕ) (tasks : List AgentTask) (are : AreTeamTasks tasks)
    (team : IsTeamOf publics tasks) (w next : World) (known : IsKnownWorld publics tasks w) (known_next : IsKnownWorld publics tasks next) (b a : ℕ)
    (step : IsStepOf value w (Take b a) next) (room : All (λ x. HasRoom x.message) step.step.out) (stage : Stage) (old : IsAt publics w stage) where
  abbrev rest : ℕ → ℕ → List Message
  rest i j = filter is_of_end (left value publics tasks team w known.team (Take b a) next step i j)

  abbrev Reads : Message → Type 0
  Reads m = message_of step.agent.task.agents step.agent.task.publics (taken w (Take b a)) ≡ Some m

  is_a : IsOf (length tasks) a
  is_a = is_sender value publics tasks team w known.team b a next step

  is_b : IsOf (length tasks) b
  is_b = is_receiver value publics tasks team w known.team b a next step

  going : is_going step.agent.ending ≡ true
  going = (and_parts (is_going step.agent.ending) (may_now step.agent (locals.Take a)) step.may).0

  me_is : step.agent.task.me ≡ b
  me_is = me_before value publics tasks team w known.team (Take b a) next step b step.agent step.there

  -- what was due to the agent
  due_here : end_messages publics w a b ≡ due stage a b true
  due_here =
      old.mail a b step.agent (is_agent_of publics tasks team w (team_numbers publics tasks team w known.team) a is_a) step.there ∙ ap (due stage a b) going

  module _ (m : Message) (read : Reads m) (is_end : is_of_end m ≡ true) where
    pub due_is : due stage a b true ≡ m ∷ rest a b
    due_is = sym due_here ∙ end_taken value publics tasks team w known.team b a next step m read is_end

    -- where a message is due to one agent from one agent alone, nothing is left
    pub none_left : (taken_one : Message) → ((i j : ℕ) (g : Bool) → due stage i j g ≡ one_if_due (i == a && b == j) taken_one) → rest a b ≡ []
        → (i j : ℕ) → IsOf (length tasks) i → IsOf (length tasks) j → rest i j ≡ []
    none_left taken_one only here i j is_i is_j = by (pair i j a b)
      where
        by : ((i ≡ a) × (j ≡ b)) ⊎ ((i ≢ a) ⊎ (j ≢ b)) → rest i j ≡ []
        by (inl same) = subst (λ (k : ℕ). rest k j ≡ []) (sym same.0) (subst (λ (k : ℕ). rest a k ≡ []) (sym same.1) here)
        by (inr apart) =
            let x = agent_before value publics tasks team w known.team (Take b a) next step j is_j in
            end_others value publics tasks team w known.team b a next step m read i j is_i is_j apart
            ∙ old.mail i j x.0 (is_agent_of publics tasks team w (team_numbers publics tasks team w known.team) i is_i) x.1
            ∙ only i j (is_going x.0.ending) ∙ ap (λ (t : Bool). one_if_due t taken_one) (elsewhere a b i j apart)

    -- a message that is due to all that go on from one agent alone: the agent has ended, and nothing more is due to it
    module _ (taken_one : Message) (teller : ℕ) (all : (i j : ℕ) (g : Bool) → due stage i j g ≡ one_if_due (i == teller && g) taken_one)
        (is_teller : (a == teller) ≡ true) (here : rest a b ≡ []) (silent : step.step.out ≡ []) (ended : is_going step.step.after.ending ≡ false) where
      fits_nothing : AllFit (length tasks) publics step.step.out
      fits_nothing =
          team_fits value publics tasks are team w next known known_next (Take b a) step room
          (subst (λ (out : List Outgoing). All (λ y. HasEndRoom y.message) out) (sym silent) (All-nil (λ (y : Outgoing). HasEndRoom y.message)))

      pub fits_all : AllFit (length tasks) publics step.step.out
      fits_all = fits_nothing

      left_only : (i j : ℕ) → IsOf (length tasks) i → IsOf (length tasks) j → end_messages publics next i j ≡ rest i j
      left_only i j is_i is_j =
          ends_next value publics tasks team w known.team (Take b a) next step fits_nothing i j is_i is_j
          ∙ ap (λ (out : List Outgoing). rest i j ++ (if i == b then ends_to j out else [])) silent
          ∙ nothing (i == b)
        where
          nothing : (t : Bool) → rest i j ++ (if t then ends_to j [] else []) ≡ rest i j
          nothing true = append-nil (rest i j)
          nothing false = append-nil (rest i j)

      -- to another agent as before, and to this one nothing
      pub mail_now : (i j : ℕ) (y : AgentRecord) → IsAgent next i → agent_at next j ≡ Some y → end_messages publics next i j ≡ due stage i j (is_going y.ending)
      mail_now i j y agent there = left_only i j of_i of_j ∙ by (cases_eq j b)
        where
          of_i : IsOf (length tasks) i
          of_i = of_agent_next value publics tasks team w known.team (Take b a) next step i agent

          of_j : IsOf (length tasks) j
          of_j = of_next value publics tasks team w known.team (Take b a) next step j y there

          at_w : IsAgent w i
          at_w = is_agent_of publics tasks team w (team_numbers publics tasks team w known.team) i of_i

          false_right : (p : Bool) → (p && false) ≡ false
          false_right true = refl
          false_right false = refl

          to_it : (i ≡ a) ⊎ (i ≡ a → ⊥) → rest i b ≡ []
          to_it (inl same) = subst (λ (k : ℕ). rest k b ≡ []) (sym same) here
          to_it (inr other) =
              end_others value publics tasks team w known.team b a next step m read i b of_i is_b (inl other)
              ∙ old.mail i b step.agent at_w step.there ∙ all i b (is_going step.agent.ending)
              ∙ ap (λ (t : Bool). one_if_due (t && is_going step.agent.ending) taken_one)
              (false_from_ne_true (i == teller) (λ is. other (eqb-true i teller is ∙ sym (eqb-true a teller is_teller))))

          by : (j ≡ b) ⊎ (j ≡ b → ⊥) → rest i j ≡ due stage i j (is_going y.ending)
          by (inl same) =
              let one : step.step.after ≡ y = same_Some step.step.after y (sym step.after ∙ sym (ap (agent_at next) same) ∙ there) in
              ap (rest i) same ∙ to_it (cases_eq i a)
              ∙ sym (all i j (is_going y.ending)
              ∙ ap (λ (g : Bool). one_if_due (i == teller && g) taken_one) (ap (λ (x : AgentRecord). is_going x.ending) (sym one) ∙ ended)
              ∙ ap (λ (t : Bool). one_if_due t taken_one) (false_right (i == teller)))
          by (inr other) =
              end_others value publics tasks team w known.team b a next step m read i j of_i of_j (inr other)
              ∙ old.mail i j y at_w (sym (step.others j other) ∙ there)

  -- ---- the walk goes on at the agent

  walked_same : (r : AgentRecord) (entry back : ℕ) → r.task ≡ step.agent.task → r.snapshot ≡ step.agent.snapshot → r.goal ≡ step.agent.goal → walked r entry back ≡ step.step
      → IsSameVerdict step.agent step.step.after × (step.step.after.goal ≡ step.agent.goal)
  walked_same r entry back task snapshot goal is =
      let keeps = walked_keeps r entry back in
      let task_now : step.step.after.task ≡ step.agent.task = ap (λ (s : Step). s.after.task) (sym is) ∙ keeps.task ∙ task in
      let notes_now : step.step.after.snapshot ≡ step.agent.snapshot = ap (λ (s : Step). s.after.snapshot) (sym is) ∙ keeps.snapshot ∙ snapshot in (
        record {
          verdict = λ k. if (task_now k).me == 1 then verdict (notes_now k) else None;
          number = ap (λ (s : Notes). s.number) notes_now;
        },
        ap (λ (s : Step). s.after.goal) (sym is) ∙ keeps.goal ∙ goal,
      )

  module _ (r : AgentRecord) (task : r.task ≡ step.agent.task) (snapshot : r.snapshot ≡ step.agent.snapshot) (goal : r.goal ≡ step.agent.goal) (trail : r.trail ≡ step.agent.trail)
      (ending : r.ending ≡ step.agent.ending) (entry : ℕ) (earlier later : List TaskStep) (is : walked r entry (length later) ≡ step.step)
      (all_walked : (i : ℕ) (x : AgentRecord) → agent_at w i ≡ Some x → HasWalked later x)
      (none : (i j : ℕ) → IsOf (length tasks) i → IsOf (length tasks) j → rest i j ≡ [])
      (proved : IsProved w old.first (earlier ++ later)) (path : IsPath w b entry earlier) where
    pub walks_on : ComesTo publics tasks step.step.out next
    walks_on =
        let same = walked_same r entry (length later) task snapshot goal is in
        let one = first_same value publics tasks are team w next known known_next (Take b a) step room (λ e. same.0) old.first old.there in
        let now = proved_stays value publics tasks team w known.team (Take b a) next step old.first one.0 (earlier ++ later) one.2.verdict same.1 proved in
        let mine = all_walked b step.agent step.there in
        walk_comes value publics tasks are team w next known known_next (Take b a) step room r entry earlier later [] (All-nil IsNoEnd)
        is task (trail ∙ mine.trail ∙ ap (λ (i : ℕ). notes i later) me_is) (ap is_going ending ∙ mine.going)
        (λ i x there other. all_walked i x there) none one.0 one.1 now.0
        (path_stays w next (step_grows value w next (Take b a) step) b entry earlier path)
