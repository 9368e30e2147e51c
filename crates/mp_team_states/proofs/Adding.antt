-- Which entries own actions add, by their costs and estimates.
use Rattle.mp_world.proofs.Basics.{◌≡◌, ℕ, ◌+◌, ◌⊎◌, List, map, Option, Some, refl, sym, subst, ◌∙◌, inl, inr, slice_get}
use Rattle.mp_world.specs.AgentWords.{Act, AgentTask}
use Rattle.mp_world.specs.SearchWords.{Numbers, Entry, Replaced, Origin, Own, Record, gives_way, kept, AgentState, same_state, successor, Parent, with_actions, offered_at, own_value}
use Rattle.mp_team_states.proofs.Continuing.{gave_way}
use Rattle.mp_team_states.proofs.Keeping.{IsKeepable, KeepingCases, actions_hold, offered_holds}
use Rattle.mp_team_states.proofs.Members.{pushed_back}

-- an entry was there, and its mark may say since then that it gave way
pub record WasThere (r : Record AgentState) (n : ℕ) (e : Entry AgentState) : Type 0 where
  pub entry : Entry AgentState
  pub at : slice_get r.entries n ≡ Some entry
  pub cost : e.g ≡ entry.g
  pub estimate : e.h ≡ entry.h
  pub mark : (e.mark ≡ entry.mark) ⊎ (e.mark ≡ Replaced)

-- each entry was there, or its cost and estimate are such ones
abbrev pub Adds : (ℕ → ℕ → Type 0) → Record AgentState → Record AgentState → Type 0
Adds New r s = (n : ℕ) (e : Entry AgentState) → slice_get s.entries n ≡ Some e → WasThere r n e ⊎ New e.g e.h

module _ (New : ℕ → ℕ → Type 0) where
  pub adds_not : (r : Record AgentState) → Adds New r r
  adds_not r n e at = inl (record { entry = e; at = at; cost = refl; estimate = refl; mark = inl refl })

  pub adds_then : (r s u : Record AgentState) → Adds New r s → Adds New s u → Adds New r u
  adds_then r s u first second n e at = by (second n e at)
    where
      marked : (a b c : Entry AgentState) → (a.mark ≡ b.mark) ⊎ (a.mark ≡ Replaced) → (b.mark ≡ c.mark) ⊎ (b.mark ≡ Replaced) → (a.mark ≡ c.mark) ⊎ (a.mark ≡ Replaced)
      marked a b c (inr gone) any = inr gone
      marked a b c (inl same) (inl again) = inl (same ∙ again)
      marked a b c (inl same) (inr gone) = inr (same ∙ gone)

      earlier : (was : WasThere s n e) → WasThere r n was.entry ⊎ New was.entry.g was.entry.h → WasThere r n e ⊎ New e.g e.h
      earlier was (inl old) = inl (record {
        entry = old.entry;
        at = old.at;
        cost = was.cost ∙ old.cost;
        estimate = was.estimate ∙ old.estimate;
        mark = marked e was.entry old.entry was.mark old.mark;
      })
      earlier was (inr new) = inr (subst (λ (g : ℕ). New g e.h) (sym was.cost) (subst (λ (h : ℕ). New was.entry.g h) (sym was.estimate) new))

      by : WasThere s n e ⊎ New e.g e.h → WasThere r n e ⊎ New e.g e.h
      by (inl was) = earlier was (first n was.entry was.at)
      by (inr new) = inr new

  adds_kept : (new : Entry AgentState) (r : Record AgentState) → New new.g new.h → Adds New r (kept same_state new r)
  adds_kept new r is n e at = by (pushed_back (map (gives_way same_state new.key) r.entries) new n e at)
    where
      by : (slice_get (map (gives_way same_state new.key) r.entries) n ≡ Some e) ⊎ (new ≡ e) → WasThere r n e ⊎ New e.g e.h
      by (inl old) =
          let g = gave_way new.key r n e old in
          inl (record { entry = g.entry; at = g.at; cost = g.cost; estimate = g.estimate; mark = g.mark })
      by (inr same) = inr (subst (λ (x : Entry AgentState). New x.g x.h) same is)

  module _ (t : AgentTask) where
    adding : KeepingCases t (λ r out s. Adds New r s)
    adding = record { same = adds_not; after = λ r s u a b. adds_then r s u; sends = λ r n e at. adds_not r }

    keeps_adds : (s : AgentState) (g : ℕ) (value : Option ℕ) (origin : Origin) → ((h : ℕ) → value ≡ Some h → New g h)
        → (r : Record AgentState) (new : Entry AgentState) → IsKeepable t s g value origin r new → Adds New r (kept same_state new r)
    keeps_adds s g value origin each r new k = adds_kept new r (subst (λ (g : ℕ). New g new.h) (sym k.is.g) (each new.h k.is.h))

    pub offered_adds : (s : AgentState) (g : ℕ) (origin : Origin) (r : Record AgentState) (value : Option ℕ)
        → ((h : ℕ) → value ≡ Some h → New g h) → Adds New r (offered_at t s g value origin r).1
    offered_adds s g origin r value each =
        offered_holds t (λ r out s. Adds New r s) adding s g value origin r (keeps_adds s g value origin each r)

    pub actions_add : (value : Numbers → Numbers → Option ℕ) (parent : Parent) (number : ℕ) (acts : List Act) (r : Record AgentState)
        → ((act : Act) (h : ℕ) → own_value t value (successor act parent.state) ≡ Some h → New (parent.g + act.cost) h)
        → Adds New r (with_actions t value parent number acts r).1
    actions_add value parent number acts r each =
        actions_hold t (λ r out s. Adds New r s) adding value parent number acts r
        (λ k act at r may.
        keeps_adds (successor act parent.state) (parent.g + act.cost) (own_value t value (successor act parent.state)) (Own (number + k) parent.number) (each act) r)
