-- Over how many messages an entry was reached.
use Rattle.mp_world.proofs.Basics.{◌≡◌, ℕ, ◌+◌, ◌<◌, List, refl, sym, ap, subst, ◌∙◌, get_or_from_slice_get, slice_get_within}
use Rattle.mp_world.specs.AgentWords.{TaskStep}
use Rattle.mp_world.specs.SearchWords.{Entry, Root, Own, From, IsEarlier, AgentState}
use Rattle.mp_world.specs.World.{World}
use Rattle.mp_team_states.specs.Further.{HaveSoundRecords}
use Rattle.mp_team_states.specs.Paths.{IsEntryAt, IsOver, IsPath, IsSentAt}
use Rattle.mp_team_states.specs.Paths.IsOver.{at_start, by_own, over_one}
use Rattle.mp_team_states.specs.Paths.IsPath.{at_root, by_action, by_message}
use Rattle.mp_team_states.proofs.ReachedEntries.{has_it, origins, same_sent}

module _ (w : World) (records : HaveSoundRecords w) where
  -- an own action leads from an earlier entry
  pub parent_earlier : (agent number : ℕ) (e : Entry AgentState) (action parent : ℕ) → IsEntryAt w agent number e → e.origin ≡ Own action parent → parent < number
  parent_earlier agent number e action parent is own =
      let h = has_it w agent number e is in
      let earlier = (records agent h.agent_is h.there).earlier number e (slice_get_within h.agent_is.search.kept.entries number e h.at) in
      subst (IsEarlier number) (ap (λ (x : Entry AgentState). x.origin) (get_or_from_slice_get h.agent_is.search.kept.entries number e e h.at) ∙ own) earlier

  pub path_over : (agent number : ℕ) (steps : List TaskStep) → IsPath w agent number steps → (messages : ℕ) × IsOver w agent number messages
  path_over agent number steps (at_root _ _ e is root) = (0, at_start agent number e is root)
  path_over agent number steps (by_action _ _ e action parent before is own path) =
      let rest = path_over agent parent before path in
      (rest.0, by_own agent number e action parent rest.0 is own (parent_earlier agent number e action parent is own) rest.1)
  path_over agent number steps (by_message _ _ e sender sent there _ is from given path) =
      let rest = path_over sender there steps path in
      (rest.0 + 1, over_one agent number e sender sent there rest.0 is from given rest.1)

module _ (w : World) where
  pub one_number : (agent number m n : ℕ) → IsOver w agent number m → IsOver w agent number n → m ≡ n
  one_number agent number m n (at_start _ _ e a root) (at_start _ _ f b root_too) = refl
  one_number agent number m n (at_start _ _ e a root) (by_own _ _ f action parent _ b own less over) =
      absurd (let same = origins w agent number e f Root (Own action parent) a b root own in let impossible : ⊥ = cc in impossible)
  one_number agent number m n (at_start _ _ e a root) (over_one _ _ f sender sent there messages b from given over) =
      absurd (let same = origins w agent number e f Root (From sender sent) a b root from in let impossible : ⊥ = cc in impossible)
  one_number agent number m n (by_own _ _ e action parent _ a own less over) (at_start _ _ f b root) =
      absurd (let same = origins w agent number e f (Own action parent) Root a b own root in let impossible : ⊥ = cc in impossible)
  one_number agent number m n (by_own _ _ e action parent _ a own less over) (by_own _ _ f action_too parent_too _ b own_too less_too over_too) =
      let same = origins w agent number e f (Own action parent) (Own action_too parent_too) a b own own_too in
      let parents : parent ≡ parent_too = cc in
      one_number agent parent m n over (subst (λ (p : ℕ). IsOver w agent p n) (sym parents) over_too)
  one_number agent number m n (by_own _ _ e action parent _ a own less over) (over_one _ _ f sender sent there messages b from given later) =
      absurd (let same = origins w agent number e f (Own action parent) (From sender sent) a b own from in let impossible : ⊥ = cc in impossible)
  one_number agent number m n (over_one _ _ e sender sent there messages a from given over) (at_start _ _ f b root) =
      absurd (let same = origins w agent number e f (From sender sent) Root a b from root in let impossible : ⊥ = cc in impossible)
  one_number agent number m n (over_one _ _ e sender sent there messages a from given over) (by_own _ _ f action parent _ b own less later) =
      absurd (let same = origins w agent number e f (From sender sent) (Own action parent) a b from own in let impossible : ⊥ = cc in impossible)
  one_number agent number m n (over_one _ _ e sender sent there messages a from given over) (over_one _ _ f sender_too sent_too there_too messages_too b from_too given_too over_too) =
      let same = origins w agent number e f (From sender sent) (From sender_too sent_too) a b from from_too in
      let senders : sender ≡ sender_too = cc in
      let numbers : sent ≡ sent_too = cc in
      let now : IsSentAt w sender sent there_too = subst (λ (n : ℕ). IsSentAt w sender n there_too) (sym numbers) (subst (λ (s : ℕ). IsSentAt w s sent_too there_too) (sym senders) given_too) in
      let place = same_sent w sender sent there there_too given now in
      ap (λ (k : ℕ). k + 1)
      (one_number sender there messages messages_too over
      (subst (λ (n : ℕ). IsOver w sender n messages_too) (sym place) (subst (λ (s : ℕ). IsOver w s there_too messages_too) (sym senders) over_too)))
