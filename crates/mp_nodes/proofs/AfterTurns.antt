-- A node after a turn of its own, whose batch was signed.
use Rattle.std.proofs.Common.{◌≡◌, ℕ, true, List, [], ◌∷◌, refl, sym, ap, subst, ◌∙◌, arith}
use Rattle.std.specs.Prelude.{All, Contains, IfSome}
use Rattle.std.proofs.lemmas.List.Elements.{All-head}
use Rattle.atomic_table.specs.Seated.{TableId}
use Rattle.mp_messages.specs.declared.history.Entry.{Entry}
use Rattle.mp_world.specs.Values.{Values}
use Rattle.mp_post_rule.specs.Views.{party_at, with_seen}
use Rattle.mp_post_rule.specs.declared.view.Party.{Party}
use Rattle.mp_post_rule.specs.declared.view.View.{View}
use Rattle.mp_post.specs.Desks.{HoldsParty, SeenDesk}
use Rattle.mp_post.specs.Turns.{HasFoundHalted, HasRefused, HasSignedNothing}
use Rattle.mp_post.specs.declared.refusal.TurnRefusal.{TurnRefusal}
use Rattle.mp_post.specs.declared.refusal.TurnRefusal.TheVariants as turns
use Rattle.mp_nodes.specs.declared.served.Stop.{Stop}
use Rattle.mp_nodes.specs.Nodes.{IsNodeAt, SeenNode}
use Rattle.mp_nodes.specs.Steps.{IsSeenHalted, IsTakenBack, Stops, me_of}

abbrev pub signed_node : SeenNode → SeenNode
signed_node n = record n { batch = [] }

module _ (value : Values) (agents agent : ℕ) where
  -- a turn that signed nothing
  pub nothing_signed : (n : SeenNode) (v w : View) → IsNodeAt value agents agent v n → w.parties ≡ v.parties
      → IsNodeAt value agents agent w n
  nothing_signed n v w at same =
      record { party = at.party; held = ap (λ l. party_at (record v { parties = l }) agent) same ∙ at.held; fits = at.fits }

-- ---- Why a turn signed nothing.

module _ (value : Values) (table : TableId) (agents : ℕ) (n : SeenNode) (v w : View)
    (at : IsNodeAt value agents (me_of n) v n)
  where
    -- somebody was halted at the agent's own post
    found_halted : (other : ℕ) → HasFoundHalted (me_of n) v w agents other
        → IsNodeAt value agents (me_of n) w n × IsSeenHalted agents other w
    found_halted other h =
        let seen : w.seen ≡ other ∷ v.seen = ap (λ x. x.seen) h.view ∙ ap (λ o. with_seen o v.seen) h.names in
        let marks = subst (All (λ agent. IfSome (party_at w agent) (λ (p : Party). p.halted ≡ true))) seen h.marks in (
          nothing_signed value agents (me_of n) n v w at (ap (λ x. x.parties) h.view),
          record {
            of_team = h.of_team;
            seen = subst (λ l. Contains l other) (sym seen) (0, omega arith, refl);
            marked = All-head (λ agent. IfSome (party_at w agent) (λ (p : Party). p.halted ≡ true)) other v.seen marks;
          },
        )

    signed_nothing : HasSignedNothing (me_of n) v w → HoldsParty (me_of n) w
    signed_nothing h = (at.party, ap (λ x. party_at x (me_of n)) h.view ∙ at.held)

    pub turn_stopped : (d : SeenDesk) → d.view ≡ w → (signed new : SeenNode) (me : ℕ) (batch : List Entry) (refusal : TurnRefusal) (stop : Stop)
        → me ≡ me_of n → batch ≡ n.batch → signed ≡ signed_node n
        → HasRefused agents me batch v w refusal → IsTakenBack refusal signed new stop
        → Stops value table agents new d stop
    turn_stopped d is signed new me batch (turns.OutOfMemory back) stop mine own left refused back_again =
        subst (λ s. Stops value table agents new d s) (sym back_again.1)
        (subst (λ u. HoldsParty (me_of new) u) (sym is)
        (subst (λ a. HoldsParty a w) (sym (ap me_of (back_again.0 ∙ ap (λ (m : SeenNode). record m { batch = back }) left)))
        (signed_nothing (subst (λ a. HasSignedNothing a v w) mine refused.1))))
    turn_stopped d is signed new me batch (turns.Halted other back) stop mine own left refused back_again =
        let same : new ≡ n =
        back_again.0 ∙ (ap (λ (m : SeenNode). record m { batch = back }) left ∙ ap (λ b. record n { batch = b }) (refused.0 ∙ own)) in
        let found : HasFoundHalted (me_of n) v w agents other = subst (λ a. HasFoundHalted a v w agents other) mine refused.1 in
        subst (λ s. Stops value table agents new d s) (sym back_again.1)
        (subst (λ u. IsNodeAt value agents (me_of new) u new × IsSeenHalted agents other u) (sym is)
        (subst (λ m. IsNodeAt value agents (me_of m) w m × IsSeenHalted agents other w) (sym same) (found_halted other found)))
