-- The party of an agent after a turn: its mark is as it was, and the entries of its list are as the turn says.
use Rattle.std.proofs.Common.{◌≡◌, ℕ, zero, suc, ◌-◌, ◌≤◌, true, List, refl, ap, ◌∙◌, get_or, get_or-set_same, set, arith, Some, None}
use Rattle.std.specs.Prelude.{Option}
use Rattle.std.specs.Option.{option_map}
use Rattle.mp_messages.specs.declared.history.Entry.{Entry}
use Rattle.mp_post_rule.specs.Views.{found, marked, party_at, with_batch, with_receipt}
use Rattle.mp_post_rule.specs.declared.view.Party.{Party}
use Rattle.mp_post_rule.specs.declared.view.View.{View}
use Rattle.mp_post.specs.Halts.{HasHalted, HasHaltedAt}
use Rattle.mp_post.specs.Turns.{HasHandedOver, HasSigned, HasTurned}
use Rattle.mp_post.proofs.Lists.{from_place, positive, within}

-- a party with the mark that it had
pub record HasMarkOf (agent : ℕ) (v : View) (old : Party) : Type 0 where
  pub party : Party
  pub held : party_at v agent ≡ Some party
  pub mark : party.halted ≡ old.halted

-- one party is in the place of another
replaced : (agent : ℕ) (v w : View) (p q : Party) → party_at v agent ≡ Some p → w.parties ≡ set v.parties (agent - 1) (Some q)
    → party_at w agent ≡ Some q
replaced agent v w p q held is =
    from_place w.parties agent q (positive v.parties agent p held)
    (ap (λ l. get_or l (agent - 1) None) is ∙ get_or-set_same v.parties (agent - 1) (Some q) None (within v.parties agent p held))

module _ (by : ℕ) where
  signed : (v w : View) (batch : List Entry) (p : Party) → party_at v by ≡ Some p → HasSigned by v w batch → HasMarkOf by w p
  signed v w batch p held s = record {
    party = with_batch batch p;
    held = replaced by v w p (with_batch batch p) held
        (ap (λ x. x.parties) s.view ∙ ap (λ o. set v.parties (by - 1) (option_map (with_batch batch) o)) held);
    mark = refl;
  }

  same_parties : (v w : View) (p : Party) → party_at v by ≡ Some p → w.parties ≡ v.parties → HasMarkOf by w p
  same_parties v w p held same = record { party = p; held = ap (λ (l : List (Option Party)). party_of l) same ∙ held; mark = refl }
    where
      party_of : List (Option Party) → Option Party
      party_of l = party_at (record v { parties = l }) by

  handed : (v w : View) (from : Option ℕ) (handed : Option (List ℕ)) (p : Party) → party_at v by ≡ Some p
      → HasHandedOver by v w from handed → HasMarkOf by w p
  handed v w None given p held h = same_parties v w p held (ap (λ x. x.parties) h.1)
  handed v w (Some from) None p held h = same_parties v w p held (ap (λ x. x.parties) h.view)
  handed v w (Some from) (Some bytes) p held h = record {
    party = with_receipt by (Some (found from h.kept)) p;
    held = replaced by v w p (with_receipt by (Some (found from h.kept)) p) held
        (ap (λ x. x.parties) h.view
        ∙ ap (λ o. set v.parties (by - 1) (option_map (with_receipt by (Some (found from h.kept))) o)) held);
    mark = refl;
  }

  pub turned : (v w : View) (batch : List Entry) (from : Option ℕ) (handed_over : Option (List ℕ)) (p : Party)
      → party_at v by ≡ Some p → HasTurned by batch from handed_over v w → HasMarkOf by w p
  turned v w batch from handed_over p held t =
      let first = signed v t.between batch p held t.first in
      let second = handed t.between w from handed_over first.party first.held t.second in
      record { party = second.party; held = second.held; mark = second.mark ∙ first.mark }

-- a party that was halted at a post, and at all posts, is marked
marked_at : (by post : ℕ) (v w : View) (p : Party) → party_at v by ≡ Some p → HasHaltedAt by post v w → party_at w by ≡ Some (marked p)
marked_at by post v w p held h =
    replaced by v w p (marked p) held (ap (λ x. x.parties) h.view ∙ ap (λ o. set v.parties (by - 1) (option_map marked o)) held)

pub record IsMarked (by : ℕ) (w : View) (old : Party) : Type 0 where
  pub party : Party
  pub held : party_at w by ≡ Some party
  pub list : party.list ≡ old.list
  pub mark : party.halted ≡ true

marked_all : (by posts : ℕ) (v w : View) (p : Party) → party_at v by ≡ Some p → HasHalted by (suc posts) v w → IsMarked by w p
marked_all by zero v w p held h = record {
  party = marked p;
  held = marked_at by 1 h.0 w p (ap (λ x. party_at x by) h.1 ∙ held) h.2;
  list = refl;
  mark = refl;
}
marked_all by (suc posts) v w p held h =
    let before = marked_all by posts v h.0 p held h.1 in record {
      party = marked before.party;
      held = marked_at by (suc (suc posts)) h.0 w before.party before.held h.2;
      list = before.list;
      mark = refl;
    }

pub marked_by : (by posts : ℕ) (v w : View) (p : Party) → 1 ≤ posts → party_at v by ≡ Some p → HasHalted by posts v w → IsMarked by w p
marked_by by zero v w p some held h = absurd (omega arith)
marked_by by (suc posts) v w p some held h = marked_all by posts v w p held h
