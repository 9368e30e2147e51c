-- For each way from a root to a goal something found shows that its cost may be.
use Rattle.std.proofs.Common.{◌≡◌, ℕ, ◌+◌, ◌≤◌, refl, sym, ◌∙◌, subst, ⊎_elim, None, arith}
use Rattle.std.proofs.lemmas.Option.{none-some}
use Rattle.mp_store.specs.declared.entry.Mark.{Mark}
use Rattle.mp_store.specs.declared.entry.Mark.TheVariants.{Open, Expanded, Replaced}
use Rattle.mp_reach.specs.Explored.{HasEntry, HasMessage, HasLiveEntry, Reaches, IsExplored, HasWitness}
use Rattle.mp_reach.specs.Explored.HasWitness.{open_entry, under_way, goal_entry}
use Rattle.mp_reach.specs.Found.{Found}
use Rattle.mp_reach.specs.Ways.{Way}
use Rattle.mp_reach.specs.Ways.Way.{arrived, onward}

pub more : {I S : Type 0} (Goal : S → Type 0) (found : Found I S) (c d : ℕ) → HasWitness Goal found c → c ≤ d → HasWitness Goal found d
more Goal found c d (open_entry i e at is within) le = open_entry i e at is (omega arith)
more Goal found c d (under_way m at within) le = under_way m at (omega arith)
more Goal found c d (goal_entry i e at is within) le = goal_entry i e at is (omega arith)

module _ {I S : Type 0} (Step : S → ℕ → S → Type 0) (Goal Root : S → Type 0) (found : Found I S) (x : IsExplored Step Goal Root None found) where
  -- from what is reached, where the way goes on
  from_reached : (s t : S) (c later : ℕ) → Reaches Step Goal found s c → Way Step s later t → Goal t → (HasEntry found s c → HasWitness Goal found (c + later)) → HasWitness Goal found (c + later)
  from_reached s t c later reached way goal by_entry =
      ⊎_elim by_entry
      (λ other. ⊎_elim
      (λ (m : HasMessage found s c).
      let bound = x.messages m.message m.there later t (subst (λ u. Way Step u later t) (sym m.of) way) goal in
      let within = m.within in
      under_way m.message m.there (omega arith))
      (λ hopeless. absurd (hopeless later t way goal))
      other)
      reached

  along : (s t : S) (c cost : ℕ) → HasEntry found s c → Way Step s cost t → Goal t → HasWitness Goal found (c + cost)
  along s t c cost here (arrived _) goal =
      let within = here.within in
      goal_entry here.index here.entry here.there (subst Goal (sym here.of) goal) (omega arith)
  along s t c cost here (onward _ next _ now later step way) goal =
      go_on (x.live here.index here.entry here.there) (λ d q. along next t d later q way goal)
    where
      go_on : HasLiveEntry found here.entry.state here.entry.cost → ((d : ℕ) → HasEntry found next d → HasWitness Goal found (d + later)) → HasWitness Goal found (c + (now + later))
      go_on l again = by l.has.entry.mark refl
        where
          of : l.has.entry.state ≡ s
          of = l.has.of ∙ here.of

          by : (m : Mark) → l.has.entry.mark ≡ m → HasWitness Goal found (c + (now + later))
          by Open is =
              let bound = x.entries l.has.index l.has.entry l.has.there (now + later) t (subst (λ u. Way Step u (now + later) t) (sym of) (onward s next t now later step way)) goal in
              let a = here.within in
              let b = l.has.within in
              open_entry l.has.index l.has.entry l.has.there is (omega arith)
          by Expanded is =
              let reached : Reaches Step Goal found next (l.has.entry.cost + now) =
              ⊎_elim (λ none. absurd (none-some _ none)) (λ each. each now next (subst (λ u. Step u now next) (sym of) step)) (x.closed l.has.index l.has.entry l.has.there is) in
              let a = here.within in
              let b = l.has.within in
              more Goal found (l.has.entry.cost + now + later) (c + (now + later)) (from_reached next t (l.has.entry.cost + now) later reached way goal (λ q. again (l.has.entry.cost + now) q)) (omega arith)
          by Replaced is = absurd (l.live is)

  pub witness : (s t : S) (cost : ℕ) → Root s → Way Step s cost t → Goal t → HasWitness Goal found cost
  witness s t cost root way goal =
      more Goal found (0 + cost) cost (from_reached s t 0 cost (x.roots s root) way goal (λ here. along s t 0 cost here way goal)) (omega arith)
