-- The messages under way between two agents, before and after an event.
use Rattle.mp_world.proofs.Basics.{◌≡◌, ◌≢◌, ℕ, Bool, true, List, [], ◌∷◌, ◌++◌, length, drop, refl, sym, ap, ◌∙◌, append-nil, ◌⊎◌, inl, inr, ◌==◌, not, if◌then◌else◌, slice_index_or, eq-eqb, eqb-true, false_from_ne_true}
use Rattle.mp_world.specs.AgentWords.{AgentTask, Event, Expand, Take, Start}
use Rattle.mp_world.specs.Events.{agent_of, sent_in, taken, without_taken}
use Rattle.mp_world.specs.Steps.{IsStepOf, sent_to}
use Rattle.mp_world.specs.Values.{Values}
use Rattle.mp_world.specs.World.{IsAgent, IsTeamWorld, World, under_way}
use Rattle.mp_world.proofs.Mail.{under_way-other, under_way-same}
use Rattle.mp_world.proofs.Stepping.{team_lists}
use Rattle.mp_team_snapshots.specs.Team.{IsTeamOf}
use Rattle.mp_team_snapshots.proofs.Protocol.{IsOf}
use Rattle.mp_team_snapshots.proofs.TakingFirst.{apart, is_receiver, is_sender}
use Rattle.mp_team_snapshots.proofs.Worlds.{is_agent_of, team_numbers}

front_there : (xs : List (List ℕ)) → not (length xs == 0) ≡ true → xs ≡ slice_index_or xs 0 [] ∷ drop 1 xs
front_there [] some = absurd cc
front_there (x ∷ xs) some = refl

module _ (value : Values) (publics : ℕ) (tasks : List AgentTask)
    (team : IsTeamOf publics tasks) (w : World)
    (is : IsTeamWorld tasks w) where
  in_world : (i : ℕ) → IsOf (length tasks) i → IsAgent w i
  in_world = is_agent_of publics tasks team w (team_numbers publics tasks team w is)

  -- messages go out behind those that are left
  module _ (event : Event) (next : World) (step : IsStepOf value w event next) (i j : ℕ) (is_i : IsOf (length tasks) i)
      (is_j : IsOf (length tasks) j) where
    from_it : i ≡ agent_of event
        → under_way next i j ≡ under_way (without_taken w event) i j ++ sent_to j (sent_in step.step)
    from_it same =
        step.mail i j (in_world i is_i) (in_world j is_j)
        ∙ ap (λ (b : Bool). under_way (without_taken w event) i j ++ (if b then sent_to j (sent_in step.step) else []))
        (eq-eqb i (agent_of event) same)

    from_others : i ≢ agent_of event → under_way next i j ≡ under_way (without_taken w event) i j
    from_others off =
        step.mail i j (in_world i is_i) (in_world j is_j)
        ∙ ap (λ (b : Bool). under_way (without_taken w event) i j ++ (if b then sent_to j (sent_in step.step) else []))
        (false_from_ne_true (i == agent_of event) (λ same. off (eqb-true i (agent_of event) same)))
        ∙ append-nil (under_way (without_taken w event) i j)

  left_same : (b a i j : ℕ) (next : World) → IsStepOf value w (Take b a) next → IsOf (length tasks) i
      → IsOf (length tasks) j → (i ≢ a) ⊎ (j ≢ b)
      → under_way (without_taken w (Take b a)) i j ≡ under_way w i j
  left_same b a i j next step is_i is_j other =
      under_way-other w (team_lists tasks w is) a b i j (drop 1 (under_way w a b))
      (in_world a (is_sender value publics tasks team w is b a next step))
      (in_world b (is_receiver value publics tasks team w is b a next step))
      (in_world i is_i) (in_world j is_j) other

  -- the agent sends, and between two others nothing changes
  pub record IsMoved (event : Event) (next : World) (step : IsStepOf value w event next) : Type 0 where
    pub from : (j : ℕ) → IsOf (length tasks) j → j ≢ agent_of event
        → under_way next (agent_of event) j ≡ under_way w (agent_of event) j ++ sent_to j (sent_in step.step)
    pub others : (i j : ℕ) → IsOf (length tasks) i → IsOf (length tasks) j → i ≢ agent_of event → j ≢ agent_of event
        → under_way next i j ≡ under_way w i j

  alone_moved : (event : Event) (next : World) (step : IsStepOf value w event next)
      → IsOf (length tasks) (agent_of event)
      → ((i j : ℕ) → under_way (without_taken w event) i j ≡ under_way w i j) → IsMoved event next step
  alone_moved event next step is_b same = record {
    from = λ j is_j off.
        from_it event next step (agent_of event) j is_b is_j refl
        ∙ ap (λ ms. ms ++ sent_to j (sent_in step.step)) (same (agent_of event) j);
    others = λ i j is_i is_j off_i off_j. from_others event next step i j is_i is_j off_i ∙ same i j;
  }

  taking_moved : (b a : ℕ) (next : World) (step : IsStepOf value w (Take b a) next) → IsMoved (Take b a) next step
  taking_moved b a next step =
      let is_b = is_receiver value publics tasks team w is b a next step in
      record {
        from = λ j is_j off.
            from_it (Take b a) next step b j is_b is_j refl
            ∙ ap (λ ms. ms ++ sent_to j (sent_in step.step)) (left_same b a b j next step is_b is_j (inr off));
        others = λ i j is_i is_j off_i off_j.
            from_others (Take b a) next step i j is_i is_j off_i ∙ left_same b a i j next step is_i is_j (inr off_j);
      }

  pub moved : (event : Event) (next : World) (step : IsStepOf value w event next) → IsOf (length tasks) (agent_of event)
      → IsMoved event next step
  moved (Expand agent) next step is_b = alone_moved (Expand agent) next step is_b (λ i j. refl)
  moved (Take b a) next step is_b = taking_moved b a next step
  moved Start next step is_b = alone_moved Start next step is_b (λ i j. refl)

  -- to the agent of an event that takes nothing
  pub to_expanding : (agent : ℕ) (next : World) (step : IsStepOf value w (Expand agent) next)
      → IsOf (length tasks) agent
      → (i : ℕ) → IsOf (length tasks) i → i ≢ agent → under_way next i agent ≡ under_way w i agent
  to_expanding agent next step is_b i is_i off = from_others (Expand agent) next step i agent is_i is_b off

  pub to_starting : (next : World) (step : IsStepOf value w Start next) → IsOf (length tasks) 1
      → (i : ℕ) → IsOf (length tasks) i → i ≢ 1 → under_way next i 1 ≡ under_way w i 1
  to_starting next step is_b i is_i off = from_others Start next step i 1 is_i is_b off

  -- to the agent of an event that takes a message
  pub to_taking : (b a : ℕ) (next : World) (step : IsStepOf value w (Take b a) next)
      → (i : ℕ) → IsOf (length tasks) i → i ≢ b → i ≢ a → under_way next i b ≡ under_way w i b
  to_taking b a next step i is_i off off_a =
      let is_b = is_receiver value publics tasks team w is b a next step in
      from_others (Take b a) next step i b is_i is_b off ∙ left_same b a i b next step is_i is_b (inl off_a)

  pub taken_front : (b a : ℕ) (next : World) (step : IsStepOf value w (Take b a) next)
      → under_way w a b ≡ taken w (Take b a) ∷ under_way next a b
  taken_front b a next step =
      let is_a = is_sender value publics tasks team w is b a next step in
      let is_b = is_receiver value publics tasks team w is b a next step in
      front_there (under_way w a b) step.message
      ∙ ap (λ ms. taken w (Take b a) ∷ ms)
      (sym (from_others (Take b a) next step a b is_a is_b (apart value publics tasks team w is b a next step)
      ∙ under_way-same w (team_lists tasks w is) a b (drop 1 (under_way w a b)) (in_world a is_a) (in_world b is_b)))
