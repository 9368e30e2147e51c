-- Works that are split and joined: their nodes fit their parties again.
use Rattle.std.proofs.Common.{◌≡◌, ◌≢◌, ◌⊎◌, inl, inr, ℕ, zero, suc, ◌+◌, ◌-◌, ◌<◌, List, [], ◌∷◌, length, map, get_or, get_or-set_same, get_or-set_other, set, Some, None, refl, sym, ap, ◌∙◌, arith, subst}
use Rattle.std.specs.Prelude.{Option, replicate}
use Rattle.std.specs.Option.{option_map}
use Rattle.std.proofs.lemmas.List.{length-replicate, length-set}
use Rattle.std.proofs.lemmas.Option.{none-some}
use Rattle.mp_world.specs.Values.{Values}
use lib.ListN.{length-map}
use mathlib.Core.Logic.{dite}
use native.Mathlib.Decide.{ℕ_discrete}
use Rattle.mp_nodes.specs.Nodes.{AreServed, IsNodeAt, IsPlaceAt, Orders, SeenNode, node_at, orders}
use Rattle.mp_post.specs.Parts.{HasMerged, HasSplit}
use Rattle.mp_post_rule.proofs.Parties.{either_at, first_at, second_at}
use Rattle.mp_post_rule.proofs.Places.{present}
use Rattle.mp_post_rule.specs.Views.{either_each, no_party, party_at, party_in}
use Rattle.mp_post_rule.specs.declared.view.Party.{Party}
use Rattle.mp_post_rule.specs.declared.view.View.{View}
use Rattle.mp_team.specs.Joined.{either_node, either_nodes}
use Rattle.mp_team.specs.Kept.{AreKept, HasOrders, Places}
use Rattle.mp_team.proofs.Changing.{either_at as node_either_at, either_length}

-- places that are all empty
abbrev no_places : ℕ → Places
no_places n = replicate n None

no_item : (n k : ℕ) → get_or (no_places n) k None ≡ None
no_item zero k = refl
no_item (suc n) zero = refl
no_item (suc n) (suc k) = no_item n k

nowhere : (ps : List (Option Party)) (k : ℕ) → get_or (map no_party ps) k None ≡ None
nowhere [] k = refl
nowhere (p ∷ ps) zero = refl
nowhere (p ∷ ps) (suc k) = nowhere ps k

module _ (value : Values) (agents : ℕ) where
  -- a place and its party stay what they were
  carried : (agent : ℕ) (v w : View) (x y : Option SeenNode) → y ≡ x → party_at w agent ≡ party_at v agent
      → IsPlaceAt value agents agent v x → IsPlaceAt value agents agent w y
  carried agent v w x y same party is = subst (IsPlaceAt value agents agent w) (sym same) (by x is)
    where
      by : (z : Option SeenNode) → IsPlaceAt value agents agent v z → IsPlaceAt value agents agent w z
      by None at = party ∙ at
      by (Some n) at = record { party = at.party; held = party ∙ at.held; fits = at.fits }

  -- ---- two works in one

  module _ (v u w : View) (merged : HasMerged v u w) where
    parties_are : (agent : ℕ) → party_at w agent ≡ party_in (either_each v.parties u.parties) agent
    parties_are agent = ap (λ x. party_at x agent) merged.view

    -- the party of the first, that of the other where the first has none, or none
    pub first_held : (agent : ℕ) (p : Party) → party_at v agent ≡ Some p → party_at w agent ≡ Some p
    first_held agent p held = parties_are agent ∙ first_at v.parties u.parties agent p held

    pub second_held : (agent : ℕ) (p : Party) → party_at v agent ≡ None → party_at u agent ≡ Some p → party_at w agent ≡ Some p
    second_held agent p none held = parties_are agent ∙ second_at v.parties u.parties agent p none held

    pub neither : (agent : ℕ) → party_at v agent ≡ None → party_at u agent ≡ None → party_at w agent ≡ None
    neither agent none nor = by (party_at w agent) refl
      where
        not_both : (p : Party) → (party_at v agent ≡ Some p) ⊎ (party_at u agent ≡ Some p) → ⊥
        not_both p (inl e) = none-some p (sym none ∙ e)
        not_both p (inr e) = none-some p (sym nor ∙ e)

        by : (q : Option Party) → party_at w agent ≡ q → party_at w agent ≡ None
        by None e = e
        by (Some p) e = absurd (not_both p (either_at v.parties u.parties agent p (sym (parties_are agent) ∙ e)))

    both_at : (agent : ℕ) (x y : Option SeenNode) → IsPlaceAt value agents agent v x → IsPlaceAt value agents agent u y
        → IsPlaceAt value agents agent w (either_node x y)
    both_at agent (Some n) y here there =
        record { party = here.party; held = first_held agent here.party here.held; fits = here.fits }
    both_at agent None (Some n) here there =
        record { party = there.party; held = second_held agent there.party here there.held; fits = there.fits }
    both_at agent None None here there = neither agent here there

  module _ (ns ms : Places) (v u w : View) (own : AreServed value agents ns v) (other : AreServed value agents ms u) (merged : HasMerged v u w) where
    pub joined_served : AreServed value agents (either_nodes ns ms) w
    joined_served = record {
      many = either_length ns ms ∙ own.many;
      each = λ agent. subst (IsPlaceAt value agents agent w) (sym (node_either_at ns ms (other.many ∙ sym own.many) agent))
          (both_at v u w merged agent (node_at ns agent) (node_at ms agent) (own.each agent) (other.each agent));
    }

  -- a node has its party
  pub party_there : (ns : Places) (at : ℕ) (n : SeenNode) (v : View) → AreServed value agents ns v → Some n ≡ get_or ns at None
      → (p : Party) × (party_at v (at + 1) ≡ Some p)
  party_there ns at n v own there =
      let node : IsNodeAt value agents (suc at) v n = subst (IsPlaceAt value agents (suc at) v) (sym there) (own.each (suc at)) in
      let same : at + 1 ≡ suc at = omega arith in
      (node.party, ap (λ (a : ℕ). party_at v a) same ∙ node.held)

  -- ---- one agent goes to a work of its own

  module _ (ns : Places) (at : ℕ) (n : SeenNode) (v left right : View) (own : AreServed value agents ns v) (inside : at < length ns)
      (there : Some n ≡ get_or ns at None) (split : HasSplit (at + 1) v left right) where
    up : at + 1 - 1 ≡ at
    up = omega arith

    node : IsNodeAt value agents (suc at) v n
    node = subst (IsPlaceAt value agents (suc at) v) (sym there) (own.each (suc at))

    held : get_or v.parties at None ≡ Some node.party
    held = node.held

    low : at < length v.parties
    low = present v.parties at node.party held

    here : party_at v (at + 1) ≡ Some node.party
    here =
        let same : at + 1 ≡ suc at = omega arith in
        ap (λ (a : ℕ). party_at v a) same ∙ held

    left_is : left.parties ≡ set v.parties at None
    left_is = ap (λ x. x.parties) split.left_is ∙ ap (λ i. set v.parties i None) up

    right_is : right.parties ≡ set (map no_party v.parties) at (Some node.party)
    right_is = ap (λ x. x.parties) split.right_is ∙ (λ i. set (map no_party v.parties) (up i) (here i))

    abbrev emptied : Places
    emptied = set ns at None

    abbrev alone : Places
    alone = set (no_places (length ns)) at (Some n)

    low_right : at < length (map no_party v.parties)
    low_right =
        let e = length-map v.parties no_party in
        let l = low in
        omega arith

    low_alone : at < length (no_places (length ns))
    low_alone =
        let e : length (no_places (length ns)) ≡ length ns = length-replicate (length ns) None in
        omega arith

    -- at the agent's own place and at any other
    own_emptied : get_or emptied at None ≡ None
    own_emptied = get_or-set_same ns at None None inside

    own_alone : get_or alone at None ≡ get_or ns at None
    own_alone = get_or-set_same (no_places (length ns)) at (Some n) None low_alone ∙ there

    other_emptied : (k : ℕ) → k ≢ at → get_or emptied k None ≡ get_or ns k None
    other_emptied k other = get_or-set_other ns at k None None other

    other_alone : (k : ℕ) → k ≢ at → get_or alone k None ≡ None
    other_alone k other = get_or-set_other (no_places (length ns)) at k (Some n) None other ∙ no_item (length ns) k

    own_left : get_or left.parties at None ≡ None
    own_left = ap (λ l. get_or l at None) left_is ∙ get_or-set_same v.parties at None None low

    own_right : get_or right.parties at None ≡ get_or v.parties at None
    own_right = ap (λ l. get_or l at None) right_is ∙ (get_or-set_same (map no_party v.parties) at (Some node.party) None low_right ∙ sym held)

    other_left : (k : ℕ) → k ≢ at → get_or left.parties k None ≡ get_or v.parties k None
    other_left k other = ap (λ l. get_or l k None) left_is ∙ get_or-set_other v.parties at k None None other

    other_right : (k : ℕ) → k ≢ at → get_or right.parties k None ≡ None
    other_right k other =
        ap (λ l. get_or l k None) right_is
        ∙ (get_or-set_other (map no_party v.parties) at k (Some node.party) None other ∙ nowhere v.parties k)

    pub left_served : AreServed value agents emptied left
    left_served = record { many = length-set ns at None ∙ own.many; each = each }
      where
        each : (agent : ℕ) → IsPlaceAt value agents agent left (node_at emptied agent)
        each zero = refl
        each (suc k) = dite (ℕ_discrete k at)
            (λ same. subst (λ (i : ℕ). IsPlaceAt value agents (suc i) left (get_or emptied i None)) (sym same)
            (subst (IsPlaceAt value agents (suc at) left) (sym own_emptied) own_left))
            (λ other. carried (suc k) v left (get_or ns k None) (get_or emptied k None) (other_emptied k other) (other_left k other)
            (own.each (suc k)))

    pub right_served : AreServed value agents alone right
    right_served = record {
      many = length-set (no_places (length ns)) at (Some n) ∙ (length-replicate (length ns) None ∙ own.many);
      each = each;
    }
      where
        each : (agent : ℕ) → IsPlaceAt value agents agent right (node_at alone agent)
        each zero = refl
        each (suc k) = dite (ℕ_discrete k at)
            (λ same. subst (λ (i : ℕ). IsPlaceAt value agents (suc i) right (get_or alone i None)) (sym same)
            (carried (suc at) v right (get_or ns at None) (get_or alone at None) own_alone own_right (own.each (suc at))))
            (λ other. subst (IsPlaceAt value agents (suc k) right) (sym (other_alone k other)) (other_right k other))

    -- no agent is lost
    pub split_kept : AreKept (ns ∷ []) (emptied ∷ alone ∷ [])
    split_kept = record { there = λ agent h. (h.0, forth agent h.0 h.1); orders = back }
      where
        forth : (agent : ℕ) (o : Orders) → HasOrders agent o (ns ∷ []) → HasOrders agent o (emptied ∷ alone ∷ [])
        forth agent o (inr h) = absurd h
        forth zero o (inl e) = absurd (none-some o e)
        forth (suc k) o (inl e) = dite (ℕ_discrete k at)
            (λ same. inr (inl (ap (λ (i : ℕ). option_map orders (get_or alone i None)) same
            ∙ (ap (option_map orders) own_alone ∙ (ap (λ (i : ℕ). option_map orders (get_or ns i None)) (sym same) ∙ e)))))
            (λ other. inl (ap (option_map orders) (other_emptied k other) ∙ e))

        back : (agent : ℕ) (o : Orders) → HasOrders agent o (emptied ∷ alone ∷ []) → HasOrders agent o (ns ∷ [])
        back zero o (inl e) = absurd (none-some o e)
        back zero o (inr (inl e)) = absurd (none-some o e)
        back agent o (inr (inr h)) = absurd h
        back (suc k) o (inl e) = dite (ℕ_discrete k at)
            (λ same. absurd (none-some o (sym (ap (λ (i : ℕ). option_map orders (get_or emptied i None)) same
            ∙ ap (option_map orders) own_emptied) ∙ e)))
            (λ other. inl (sym (ap (option_map orders) (other_emptied k other)) ∙ e))
        back (suc k) o (inr (inl e)) = dite (ℕ_discrete k at)
            (λ same. inl (ap (λ (i : ℕ). option_map orders (get_or ns i None)) same
            ∙ (sym (ap (option_map orders) own_alone)
            ∙ (ap (λ (i : ℕ). option_map orders (get_or alone i None)) (sym same) ∙ e))))
            (λ other. absurd (none-some o (sym (ap (option_map orders) (other_alone k other)) ∙ e)))
