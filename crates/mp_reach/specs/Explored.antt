-- What a best-first search by several searchers keeps, over any graph (A*, Hart, Nilsson and
-- Raphael 1968; MAD-A*, Nissim and Brafman 2014).
use Rattle.std.specs.Prelude.{◌≡◌, ℕ, ◌+◌, ◌≤◌, Option, Some, ◌⊎◌, Contains}
use Rattle.mp_store.specs.declared.entry.Mark.TheVariants.{Open, Expanded, Replaced}
use Rattle.mp_reach.specs.Found.{Entry, Message, Found}
use Rattle.mp_reach.specs.Ways.{IsHopeless, IsBound}

module _ {I S : Type 0} (found : Found I S) where
  -- an index is that of an entry
  abbrev pub IsAt : I → Entry S → Type 0
  IsAt i e = found.entry i ≡ Some e

  -- a state has an entry at a cost or less
  pub record HasEntry (s : S) (cost : ℕ) : Type 0 where
    pub index : I
    pub entry : Entry S
    pub there : IsAt index entry
    pub of : entry.state ≡ s
    pub within : entry.cost ≤ cost

  -- a state is under way at a cost or less
  pub record HasMessage (s : S) (cost : ℕ) : Type 0 where
    pub message : Message S
    pub there : Contains found.under_way message
    pub of : message.state ≡ s
    pub within : message.cost ≤ cost

  -- a state has an entry at a cost or less that is not replaced
  pub record HasLiveEntry (s : S) (cost : ℕ) : Type 0 where
    pub has : HasEntry s cost
    pub live : ¬ (has.entry.mark ≡ Replaced)

  -- a state has an entry at a cost or less, or is under way at such a cost
  abbrev pub IsFoundAt : S → ℕ → Type 0
  IsFoundAt s cost = HasEntry s cost ⊎ HasMessage s cost

module _ {I S : Type 0} (Step : S → ℕ → S → Type 0) (Goal : S → Type 0) where
  -- A state is reached at a cost: it has an entry at that cost or less, or is under way at such a
  -- cost, or leads to no goal.
  abbrev pub Reaches : Found I S → S → ℕ → Type 0
  Reaches found s cost =
      HasEntry found s cost ⊎ (HasMessage found s cost ⊎ IsHopeless Step Goal s)

  -- What the search keeps. One entry may be exempt, as that whose successors are being offered.
  pub record IsExplored (Root : S → Type 0) (exempt : Option I) (found : Found I S) : Type 0 where
    -- each root is reached at no cost
    pub roots : (s : S) → Root s → Reaches found s 0
    -- for each entry there is one of its state that costs no more and is not replaced
    pub live : (i : I) (e : Entry S) → IsAt found i e → HasLiveEntry found e.state e.cost
    -- what an expanded entry's state leads to is reached
    pub closed : (i : I) (e : Entry S) → IsAt found i e → e.mark ≡ Expanded
        → (exempt ≡ Some i)
        ⊎ ((cost : ℕ) (t : S) → Step e.state cost t → Reaches found t (e.cost + cost))
    -- what was sent is reached
    pub sent : (m : Message S) → Contains found.sent m → Reaches found m.state m.cost
    -- estimates are at most what is still to be paid
    pub entries : (i : I) (e : Entry S) → IsAt found i e → IsBound Step Goal e.state e.estimate
    pub messages : (m : Message S) → Contains found.under_way m
        → IsBound Step Goal m.state m.estimate

-- Nothing is left out, whether or not it leads to a goal: each root is found at no cost; for each
-- entry there is one of its state that costs no more and is not replaced; and what an expanded
-- entry's state leads to is found at its cost.
pub record LeavesNothingOut
    {I S : Type 0}
    (Step : S → ℕ → S → Type 0)
    (Root : S → Type 0)
    (found : Found I S)
    : Type 0 where
  pub roots : (s : S) → Root s → IsFoundAt found s 0
  pub live : (i : I) (e : Entry S) → IsAt found i e → HasLiveEntry found e.state e.cost
  pub closed : (i : I) (e : Entry S) → IsAt found i e → e.mark ≡ Expanded
      → (cost : ℕ) (t : S) → Step e.state cost t → IsFoundAt found t (e.cost + cost)

module _ {I S : Type 0} (Goal : S → Type 0) where
  -- Something found shows that a cost may be: an open entry, a state under way, or a goal entry.
  pub data HasWitness (found : Found I S) (cost : ℕ) : Type 0 where
    open_entry :
        (i : I) (e : Entry S)
        → IsAt found i e
        → e.mark ≡ Open
        → e.cost + e.estimate ≤ cost
        → HasWitness found cost
    under_way :
        (m : Message S)
        → Contains found.under_way m
        → m.cost + m.estimate ≤ cost
        → HasWitness found cost
    goal_entry :
        (i : I) (e : Entry S)
        → IsAt found i e
        → Goal e.state
        → e.cost ≤ cost
        → HasWitness found cost
