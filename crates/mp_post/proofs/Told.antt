-- What a turn tells of a party's entries, of other parties, and of turns.
use Rattle.std.proofs.Common.{◌≡◌, ◌≢◌, ℕ, suc, ◌<◌, ◌≤◌, List, [], ◌∷◌, ◌++◌, refl, sym, ap, subst, ◌∙◌, arith, Some, None}
use Rattle.std.specs.Prelude.{IfOk, IfSome, IsSomeAnd, OnOk, Option, Result, Ok, Err}
use Rattle.std.proofs.lemmas.List.{map-append, append-nil}
use Rattle.mp_messages.specs.declared.history.Entry.{Entry}
use Rattle.mp_messages.specs.declared.history.Entry.TheVariants.{Took}
use Rattle.mp_stamps.specs.Lists.{clock, entries}
use Rattle.mp_stamps.specs.declared.stamped.Stamped.{Stamped}
use Rattle.mp_post_rule.specs.Queues.{stamped_after, waiting_for}
use Rattle.mp_post_rule.specs.Views.{after_take, found, list_at, list_in, party_at, party_in, receipt_of}
use Rattle.mp_post_rule.specs.declared.kept.Kept.{Kept}
use Rattle.mp_post_rule.specs.declared.view.View.{View}
use Rattle.mp_post.specs.Desks.{HasList, HasNewList, HoldsParty}
use Rattle.mp_post.specs.Turns.{HasFoundNone, HasHandedOver, HasSigned, HasTakenOldest, HasTurned, receipts_of}
use Rattle.mp_post.proofs.Halves.{received_list, signed_list}
use Rattle.mp_post.proofs.Lists.{list_at_is, new_list, positive, set_other, still_held}

-- parties that did not turn stay as they are, and who is held stays held
pub others_stay : (by : ℕ) (list new : List Stamped) (v w : View) → HasList by list v → HasNewList by new v w
    → (agent : ℕ) → agent ≢ by → party_at w agent ≡ party_at v agent
others_stay by list new v w has changed agent other =
    ap (λ l. party_in l agent) changed.1 ∙ set_other v.parties by (Some changed.0) (positive v.parties by has.0 has.1) agent other

pub holds_still : (by : ℕ) (list new : List Stamped) (v w : View) → HasList by list v → HasNewList by new v w
    → (agent : ℕ) → HoldsParty agent v → HoldsParty agent w
holds_still by list new v w has changed =
    let now = new_list by list new v w has changed in
    still_held by v w (now.0, now.1) (others_stay by list new v w has changed)

-- turns
turns_signed : (by : ℕ) (v w : View) (batch : List Entry) → HasSigned by v w batch → v.turns < w.turns
turns_signed by v w batch s = let e = ap (λ x. x.turns) s.view in omega arith

turns_handed : (by : ℕ) (v w : View) (from : Option ℕ) (handed : Option (List ℕ)) → HasHandedOver by v w from handed → v.turns ≤ w.turns
turns_handed by v w None handed h = let e = ap (λ x. x.turns) h.1 in omega arith
turns_handed by v w (Some from) None h = let e = ap (λ x. x.turns) h.view in omega arith
turns_handed by v w (Some from) (Some bytes) h = let e = ap (λ x. x.turns) h.view in omega arith

pub turns_rose : {E : Type 0} (by : ℕ) (batch : List Entry) (from : Option ℕ) (v w : View) (r : Result (Option (List ℕ)) E)
    → IfOk r (λ handed. HasTurned by batch from handed v w) → OnOk r (v.turns < w.turns)
turns_rose by batch from v w (Ok handed) t =
    let a = turns_signed by v t.between batch t.first in let b = turns_handed by t.between w from handed t.second in omega arith
turns_rose by batch from v w (Err why) t = tt

-- the post that was found last
last_is : (from : ℕ) (kept : Kept) (w : View) → w.last ≡ Some (found from kept) → IsSomeAnd w.last (λ f. f.post ≡ from)
last_is from kept w e = subst (λ o. IsSomeAnd o (λ f. f.post ≡ from)) (sym e) refl

last_handed : (by : ℕ) (v w : View) (from : Option ℕ) (handed : Option (List ℕ)) → HasHandedOver by v w from handed
    → IfSome from (λ sender. IsSomeAnd w.last (λ f. f.post ≡ sender))
last_handed by v w None handed h = tt
last_handed by v w (Some from) None h = last_is from h.kept w (ap (λ x. x.last) h.view)
last_handed by v w (Some from) (Some bytes) h = last_is from h.kept w (ap (λ x. x.last) h.view)

pub found_last : {E : Type 0} (by : ℕ) (batch : List Entry) (from : Option ℕ) (v w : View) (r : Result (Option (List ℕ)) E)
    → IfOk r (λ handed. HasTurned by batch from handed v w) → OnOk r (IfSome from (λ sender. IsSomeAnd w.last (λ f. f.post ≡ sender)))
found_last by batch from v w (Ok handed) t = last_handed by t.between w from handed t.second
found_last by batch from v w (Err why) t = tt

-- entries
entries_more : (xs ys : List Stamped) → entries (xs ++ ys) ≡ entries xs ++ entries ys
entries_more xs ys = map-append (λ (s : Stamped). s.entry) xs ys

batch_entries : (last : ℕ) (batch : List Entry) → entries (stamped_after last batch) ≡ batch
batch_entries last [] = refl
batch_entries last (e ∷ es) = ap (λ l. e ∷ l) (batch_entries (suc last) es)

signed_entries : (by : ℕ) (v w : View) (batch : List Entry) → HoldsParty by v → HasSigned by v w batch
    → HoldsParty by w × (entries (list_at w by) ≡ entries (list_at v by) ++ batch)
signed_entries by v w batch holds s =
    let list = list_at v by in
    let u = after_take by s.kept v in
    let has : HasList by list u = (holds.0, holds.1, ap list_in holds.1) in
    let new = signed_list by batch list (list ++ stamped_after (clock list) batch) u w has s.view refl in
    let now = new_list by list (list ++ stamped_after (clock list) batch) u w has new in (
      (now.0, now.1),
      ap entries (sym (list_at_is by (list ++ stamped_after (clock list) batch) w now))
          ∙ (entries_more list (stamped_after (clock list) batch) ∙ ap (λ l. entries list ++ l) (batch_entries (clock list) batch)),
    )

taken_entries : (by from : ℕ) (v w : View) (bytes : List ℕ) → HoldsParty by v → HasTakenOldest by v w from bytes
    → entries (list_at w by) ≡ entries (list_at v by) ++ Took by from bytes ∷ []
taken_entries by from v w bytes holds s =
    let list = list_at v by in
    let u = after_take from s.kept v in
    let receipts = receipt_of (clock list) by from (waiting_for by s.kept) in
    let has : HasList by list u = (holds.0, holds.1, ap list_in holds.1) in
    let new = received_list by from s.kept list (list ++ receipts) u w has refl s.view refl in
    let now = new_list by list (list ++ receipts) u w has new in
    ap entries (sym (list_at_is by (list ++ receipts) w now))
    ∙ (entries_more list receipts
    ∙ (ap (λ l. entries list ++ entries (receipt_of (clock list) by from l)) s.waited
    ∙ ap (λ b. entries list ++ Took by from b ∷ []) (sym s.its_bytes)))

none_entries : (by from : ℕ) (v w : View) → HasFoundNone by v w from → list_at w by ≡ list_at v by
none_entries by from v w s = ap (λ x. list_at x by) s.view

handed_entries : (by : ℕ) (v w : View) (from : Option ℕ) (handed : Option (List ℕ)) → HoldsParty by v → HasHandedOver by v w from handed
    → entries (list_at w by) ≡ entries (list_at v by) ++ receipts_of by from handed
handed_entries by v w None handed holds h = ap (λ x. entries (list_at x by)) h.1 ∙ sym (append-nil (entries (list_at v by)))
handed_entries by v w (Some from) None holds h = ap entries (none_entries by from v w h) ∙ sym (append-nil (entries (list_at v by)))
handed_entries by v w (Some from) (Some bytes) holds h = taken_entries by from v w bytes holds h

pub own_entries : {E : Type 0} (by : ℕ) (batch : List Entry) (from : Option ℕ) (v w : View) (r : Result (Option (List ℕ)) E)
    → HoldsParty by v → IfOk r (λ handed. HasTurned by batch from handed v w)
    → IfOk r (λ handed. entries (list_at w by) ≡ (entries (list_at v by) ++ batch) ++ receipts_of by from handed)
own_entries by batch from v w (Ok handed) holds t =
    let first = signed_entries by v t.between batch holds t.first in
    handed_entries by t.between w from handed first.0 t.second ∙ ap (λ l. l ++ receipts_of by from handed) first.1
own_entries by batch from v w (Err why) holds t = tt
