-- The halves of a turn, as equations between views.
use Rattle.std.proofs.Common.{◌≡◌, ℕ, ◌+◌, ◌-◌, ◌≤◌, List, [], ◌++◌, length, set, sym, ap, subst, ◌∙◌, arith, Some, None}
use Rattle.std.specs.Prelude.{All, MatchOption, MatchResult, OnOk, Option, Result, Ok, Err}
use Rattle.std.specs.Option.{option_map}
use Rattle.mp_messages.specs.declared.history.Entry.{Entry}
use Rattle.mp_stamps.specs.Lists.{clock}
use Rattle.mp_stamps.specs.declared.stamped.Stamped.{Stamped}
use Rattle.mp_post_rule.specs.Queues.{IsSignable, stamped_after, waiting_for, with_puts}
use Rattle.mp_post_rule.specs.Kinds.{Seated}
use Rattle.mp_post_rule.specs.Table.{Holds}
use Rattle.mp_post_rule.specs.Views.{after_receipt, after_release, after_signing, after_take, found, list_at, party_at, receipt_at, receipt_of, with_batch, with_receipt, with_value}
use Rattle.mp_post_rule.specs.declared.kept.Kept.{Kept}
use Rattle.mp_post_rule.specs.declared.view.View.{View}
use Rattle.mp_post.specs.Desks.{HasList, HasNewList}
use Rattle.mp_post.specs.Growth.{with_all}
use Rattle.mp_post.proofs.Batched.{joined}
use Rattle.mp_post.proofs.Lists.{clock_more, list_at_is, same_list}

-- what a post keeps with the messages of a batch
abbrev pub grown : ℕ → List Entry → Kept → Kept
grown last batch kept = record kept { waiting = with_all last batch kept.waiting }

-- a batch is signed: what the seat notes for the post
pub signed_turn : (agents by : ℕ) (batch : List Entry) (list : List Stamped) (kept : Kept) (v w : View)
    → All (IsSignable agents by) batch → HasList by list v → Holds by kept v → w ≡ after_signing by batch v
    → Holds by (grown (clock list) batch kept) w
signed_turn agents by batch list kept v w can has holds e =
    let last = list_at_is by list v has in
    ap (λ u. u.turn) e
    ∙ (ap (option_map (with_value (with_puts by (stamped_after (clock (list_at v by)) batch)))) holds
    ∙ (ap (λ l. Some (found by (with_puts by (stamped_after (clock l) batch) kept))) (sym last)
    ∙ ap (λ rows. Some (found by (record kept { waiting = rows }))) (joined agents by (clock list) batch kept.waiting can)))

-- its party's list
pub signed_list : (by : ℕ) (batch : List Entry) (list new : List Stamped) (v w : View)
    → HasList by list v → w ≡ after_release (after_signing by batch v) → new ≡ list ++ stamped_after (clock list) batch
    → HasNewList by new v w
signed_list by batch list new v w has e is = (
  with_batch batch has.0,
  ap (λ u. u.parties) e ∙ ap (λ o. set v.parties (by - 1) (option_map (with_batch batch) o)) has.1,
  is ∙ ap (λ l. l ++ stamped_after (clock l) batch) has.2,
)

pub received_list : (by from : ℕ) (kept : Kept) (list new : List Stamped) (v w : View)
    → HasList by list v → Holds from kept v → w ≡ after_release (after_receipt by v)
    → new ≡ list ++ receipt_of (clock list) by from (waiting_for by kept) → HasNewList by new v w
received_list by from kept list new v w has holds e is = (
  with_receipt by v.turn has.0,
  ap (λ u. u.parties) e ∙ ap (λ o. set v.parties (by - 1) (option_map (with_receipt by v.turn) o)) has.1,
  is ∙ (ap (λ l. l ++ receipt_of (clock l) by from (waiting_for by kept)) has.2
      ∙ ap (λ t. has.0.list ++ receipt_at (clock has.0.list) by t) (sym holds)),
)

-- a turn was taken, which changes no list
taken_has : (by post : ℕ) (kept : Kept) (list : List Stamped) (v u : View) → HasList by list v → u ≡ after_take post kept v → HasList by list u
taken_has by post kept list v u has taken = (has.0, ap (λ x. party_at x by) taken ∙ has.1, has.2)

taken_new : (by post : ℕ) (kept : Kept) (list : List Stamped) (v u w : View) → u ≡ after_take post kept v → HasNewList by list u w → HasNewList by list v w
taken_new by post kept list v u w taken new = (new.0, new.1 ∙ ap (λ x. set x.parties (by - 1) (Some new.0)) taken, new.2)

-- and released with nothing signed
pub turned_list : (by post : ℕ) (kept : Kept) (list : List Stamped) (v u : View) (w : Seated)
    → HasList by list v → u ≡ after_take post kept v → w ≡ (after_release u, []) → HasNewList by list v w.0
turned_list by post kept list v u w has taken e = same_list by list v w.0 has (ap (λ m. m.0.parties) e ∙ ap (λ x. x.parties) taken)

module _ (by : ℕ) (kept : Kept) (old new : List Stamped) (v u : View) (w : Seated) (has : HasList by old v) where
  -- the party's list after the first half
  pub list_signed : {T E : Type 0} (batch : List Entry) (r : Result T E) → u ≡ after_take by kept v
      → MatchResult r (λ x. w ≡ (after_release (after_signing by batch u), [])) (λ x. w ≡ (after_release u, []))
      → MatchResult r (λ x. new ≡ old ++ stamped_after (clock old) batch) (λ x. new ≡ old)
      → HasNewList by new v w.0
  list_signed batch (Ok x) taken e is = taken_new by by kept new v u w.0 taken
      (signed_list by batch old new u w.0 (taken_has by by kept old v u has taken) (ap (λ m. m.0) e) is)
  list_signed batch (Err x) taken e is = subst (λ l. HasNewList by l v w.0) (sym is) (turned_list by by kept old v u w has taken e)

  -- and after the second
  pub list_received : {T : Type 0} (from : ℕ) (r : Option T) → u ≡ after_take from kept v
      → MatchOption r (w ≡ (after_release u, [])) (λ x. w ≡ (after_release (after_receipt by u), []))
      → MatchOption r (new ≡ old) (λ x. new ≡ old ++ receipt_of (clock old) by from (waiting_for by kept))
      → HasNewList by new v w.0
  list_received from (Some x) taken e is = taken_new by from kept new v u w.0 taken
      (received_list by from kept old new u w.0 (taken_has by from kept old v u has taken) (ap (λ x. x.turn) taken) (ap (λ m. m.0) e) is)
  list_received from None taken e is = subst (λ l. HasNewList by l v w.0) (sym is) (turned_list by from kept old v u w has taken e)

-- stamps are left for a receipt
pub stamps_left : {T E : Type 0} (most : ℕ) (batch : List Entry) (old new : List Stamped) (r : Result T E) (Q : E → Type 0)
    → OnOk r (clock old + length batch ≤ most) → MatchResult r (λ x. new ≡ old ++ stamped_after (clock old) batch) Q
    → OnOk r (clock new ≤ most)
stamps_left most batch old new (Ok x) Q low is = let e = ap clock is ∙ clock_more old batch in omega arith
stamps_left most batch old new (Err x) Q low is = tt
