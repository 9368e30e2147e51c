-- Agents that are kept, where works are changed one after another or some of them alone.
use Rattle.std.proofs.Common.{◌≡◌, ◌⊎◌, inl, inr, ℕ, List, [], ◌∷◌, ◌++◌, Some, None, refl, sym, ◌∙◌}
use Rattle.std.specs.Prelude.{Option}
use Rattle.std.proofs.lemmas.Option.{none-some}
use Rattle.mp_nodes.specs.Nodes.{AreSameAgents, Orders}
use Rattle.mp_team.specs.Kept.{AreKept, HasOrders, IsThere, Places, orders_at}

module _ (agent : ℕ) (o : Orders) where
  pub at_left : (ps qs : List Places) → HasOrders agent o ps → HasOrders agent o (ps ++ qs)
  at_left [] qs h = absurd h
  at_left (p ∷ ps) qs (inl e) = inl e
  at_left (p ∷ ps) qs (inr h) = inr (at_left ps qs h)

  pub at_right : (ps qs : List Places) → HasOrders agent o qs → HasOrders agent o (ps ++ qs)
  at_right [] qs h = h
  at_right (p ∷ ps) qs h = inr (at_right ps qs h)

  pub in_parts : (ps qs : List Places) → HasOrders agent o (ps ++ qs) → HasOrders agent o ps ⊎ HasOrders agent o qs
  in_parts [] qs h = inr h
  in_parts (p ∷ ps) qs (inl e) = inl (inl e)
  in_parts (p ∷ ps) qs (inr h) = further (in_parts ps qs h)
    where
      further : HasOrders agent o ps ⊎ HasOrders agent o qs → HasOrders agent o (p ∷ ps) ⊎ HasOrders agent o qs
      further (inl at) = inl (inr at)
      further (inr at) = inr at

pub same_kept : (ps : List Places) → AreKept ps ps
same_kept ps = record { there = λ agent h. h; orders = λ agent o h. h }

pub then_kept : (ps qs rs : List Places) → AreKept ps qs → AreKept qs rs → AreKept ps rs
then_kept ps qs rs first second = record {
  there = λ agent h. second.there agent (first.there agent h);
  orders = λ agent o h. first.orders agent o (second.orders agent o h);
}

pub both_kept : (ps qs rs ss : List Places) → AreKept ps qs → AreKept rs ss → AreKept (ps ++ rs) (qs ++ ss)
both_kept ps qs rs ss first second = record {
  there = λ agent h. forth agent h.0 (in_parts agent h.0 ps rs h.1);
  orders = λ agent o h. back agent o (in_parts agent o qs ss h);
}
  where
    from_first : (agent : ℕ) → IsThere agent qs → IsThere agent (qs ++ ss)
    from_first agent h = (h.0, at_left agent h.0 qs ss h.1)

    from_second : (agent : ℕ) → IsThere agent ss → IsThere agent (qs ++ ss)
    from_second agent h = (h.0, at_right agent h.0 qs ss h.1)

    forth : (agent : ℕ) (o : Orders) → HasOrders agent o ps ⊎ HasOrders agent o rs → IsThere agent (qs ++ ss)
    forth agent o (inl h) = from_first agent (first.there agent (o, h))
    forth agent o (inr h) = from_second agent (second.there agent (o, h))

    back : (agent : ℕ) (o : Orders) → HasOrders agent o qs ⊎ HasOrders agent o ss → HasOrders agent o (ps ++ rs)
    back agent o (inl h) = at_left agent o ps rs (first.orders agent o h)
    back agent o (inr h) = at_right agent o ps rs (second.orders agent o h)

turned : (agent : ℕ) (o : Orders) (ps qs : List Places) → HasOrders agent o ps ⊎ HasOrders agent o qs → HasOrders agent o (qs ++ ps)
turned agent o ps qs (inl h) = at_right agent o qs ps h
turned agent o ps qs (inr h) = at_left agent o qs ps h

-- the order of works does not count
pub swap_kept : (ps qs : List Places) → AreKept (ps ++ qs) (qs ++ ps)
swap_kept ps qs = record {
  there = λ agent h. (h.0, turned agent h.0 ps qs (in_parts agent h.0 ps qs h.1));
  orders = λ agent o h. turned agent o qs ps (in_parts agent o qs ps h);
}

-- the same agents are kept
pub agents_kept : (old new : Places) → AreSameAgents old new → AreKept (old ∷ []) (new ∷ [])
agents_kept old new same = record { there = λ agent h. (h.0, forth agent h.0 h.1); orders = back }
  where
    forth : (agent : ℕ) (o : Orders) → HasOrders agent o (old ∷ []) → HasOrders agent o (new ∷ [])
    forth agent o (inl e) = inl (same agent ∙ e)
    forth agent o (inr h) = absurd h

    back : (agent : ℕ) (o : Orders) → HasOrders agent o (new ∷ []) → HasOrders agent o (old ∷ [])
    back agent o (inl e) = inl (sym (same agent) ∙ e)
    back agent o (inr h) = absurd h

-- and agents that are kept are the same
pub kept_agents : (old new : Places) → AreKept (old ∷ []) (new ∷ []) → AreSameAgents old new
kept_agents old new kept agent = by (orders_at new agent) refl (orders_at old agent) refl
  where
    one : (places : Places) (o : Orders) → HasOrders agent o (places ∷ []) → orders_at places agent ≡ Some o
    one places o (inl e) = e
    one places o (inr h) = absurd h

    by : (x : Option Orders) → orders_at new agent ≡ x → (y : Option Orders) → orders_at old agent ≡ y → orders_at new agent ≡ orders_at old agent
    by (Some o) e y f = e ∙ sym (one old o (kept.orders agent o (inl e)))
    by None e None f = e ∙ sym f
    by None e (Some o) f =
        let there = kept.there agent (o, inl f) in
        absurd (none-some there.0 (sym e ∙ one new there.0 there.1))
