-- The private sets in the states that were sent: what leaves them as they are, and what adds one.
use Rattle.std.proofs.Common.{◌≡◌, ℕ, zero, suc, ◌<◌, Bool, true, false, cond, ◌&&◌, List, [], ◌∷◌, ◌++◌, length, map, Option, Some, None, All, Result, Ok, Err, refl, sym, ap, subst, ◌∙◌, arith}
use Rattle.std.specs.Prelude.{filter_map, slice_get, slice_set, IfOk, OnOk}
use Rattle.std.specs.List.{cons_option}
use Rattle.std.specs.Option.{option_map_or}
use Rattle.std.proofs.Math.Seq.{map-set_same}
use Rattle.std.proofs.lemmas.List.{length-map, map-append}
use Rattle.std.proofs.lemmas.List.Elements.{All-head, All-tail, filter_map-append}
use Rattle.std.proofs.lemmas.Option.{get_or_from_slice_get}
use Rattle.mp_list.specs.declared.memory.OutOfMemory.{OutOfMemory}
use Rattle.mp_sets.specs.Numbers.{Numbers}
use Rattle.mp_tokens.specs.Order.{with_set, order_of_use}
use Rattle.mp_tokens.proofs.Orders.{one_after_another}
use Rattle.mp_store.specs.declared.entry.Entry.{Entry}
use Rattle.mp_store.specs.declared.entry.Mark.TheVariants.{Expanded, Replaced}
use Rattle.mp_store.specs.declared.entry.Offer.{Offer}
use Rattle.mp_store.specs.declared.entry.Offer.TheVariants.{Kept, Worse}
use Rattle.mp_store.specs.Minima.{closed, least_open, popped}
use Rattle.mp_store.specs.Record.{Record, gives_way, is_known, is_open, kept, offered}
use Rattle.mp_store.specs.Sent.{mark_sent, sent_if_new, was_sent}
use Rattle.mp_store.proofs.Mapped.{sent-map}
use Rattle.mp_search.specs.AgentState.{AgentState, same_state}
use Rattle.mp_search.specs.Search.{sent_sets}

abbrev mine : Entry AgentState → Numbers
mine e = e.key.mine

-- each sent number is that of an entry
abbrev pub SentInside : Record AgentState → Type 0
SentInside r = All (λ n. n < length r.entries) r.sent

-- the sets, read from those of all entries
read_sets : (r : Record AgentState) → sent_sets r ≡ filter_map (slice_get (map mine r.entries)) r.sent
read_sets r = sym (sent-map mine r.entries r.sent)

get_before : {X : Type 0} (xs ys : List X) (n : ℕ) → n < length xs → slice_get (xs ++ ys) n ≡ slice_get xs n
get_before [] ys n h = absurd (omega arith)
get_before (x ∷ xs) ys zero h = refl
get_before (x ∷ xs) ys (suc n) h = get_before xs ys n (omega arith)

read_before : {X : Type 0} (xs ys : List X) (ns : List ℕ) → All (λ n. n < length xs) ns → filter_map (slice_get (xs ++ ys)) ns ≡ filter_map (slice_get xs) ns
read_before xs ys [] all = refl
read_before xs ys (n ∷ ns) all =
    λ j. cons_option (get_before xs ys n (All-head (λ n. n < length xs) n ns all) j) (read_before xs ys ns (All-tail (λ n. n < length xs) n ns all) j)

-- ---- an offer

offered_sets : (new : Entry AgentState) (r : Record AgentState) → SentInside r → sent_sets (offered same_state new r).1 ≡ sent_sets r
offered_sets new r inside = by (is_known same_state new.key new.g r.entries)
  where
    gives : (b : Bool) (e : Entry AgentState) → mine (cond b (record e { mark = Replaced }) e) ≡ mine e
    gives true e = refl
    gives false e = refl

    all_mine : (es : List (Entry AgentState)) → map mine (map (gives_way same_state new.key) es) ≡ map mine es
    all_mine [] = refl
    all_mine (e ∷ es) = λ j. gives (same_state e.key new.key && is_open e.mark) e j ∷ all_mine es j

    entries : map mine (map (gives_way same_state new.key) r.entries ++ new ∷ []) ≡ map mine r.entries ++ mine new ∷ []
    entries = map-append mine (map (gives_way same_state new.key) r.entries) (new ∷ []) ∙ ap (λ xs. xs ++ mine new ∷ []) (all_mine r.entries)

    after : Bool → Offer × Record AgentState
    after b = cond b (Worse, r) (Kept (length r.entries), kept same_state new r)

    by : (b : Bool) → sent_sets (after b).1 ≡ sent_sets r
    by true = refl
    by false =
        read_sets (kept same_state new r)
        ∙ ap (λ (xs : List Numbers). filter_map (slice_get xs) r.sent) entries
        ∙ read_before (map mine r.entries) (mine new ∷ []) r.sent
        (subst (λ (m : ℕ). All (λ n. n < m) r.sent) (sym (length-map r.entries mine)) inside)
        ∙ sym (read_sets r)

pub offer_sets : (res : Result Offer OutOfMemory) (new : Entry AgentState) (after r : Record AgentState) → SentInside r
    → IfOk res (λ a. (a, after) ≡ offered same_state new r) → OnOk res (sent_sets after ≡ sent_sets r)
offer_sets (Ok a) new after r inside answer = ap (λ (p : Offer × Record AgentState). sent_sets p.1) answer ∙ offered_sets new r inside
offer_sets (Err e) new after r inside answer = tt

-- ---- an entry that is closed

closed_sets : (n : ℕ) (r : Record AgentState) → sent_sets (closed n r) ≡ sent_sets r
closed_sets n r = by (slice_get r.entries n) refl
  where
    after : Option (Entry AgentState) → Record AgentState
    after o = option_map_or (λ (e : Entry AgentState). record r { entries = slice_set r.entries n (record e { mark = Expanded }) }) o r

    by : (o : Option (Entry AgentState)) → slice_get r.entries n ≡ o → sent_sets (after o) ≡ sent_sets r
    by None is = refl
    by (Some e) is =
        read_sets (after (Some e))
        ∙ ap (λ (xs : List Numbers). filter_map (slice_get xs) r.sent)
        (map-set_same mine r.entries n (record e { mark = Expanded }) e (ap mine (sym (get_or_from_slice_get r.entries n e e is))))
        ∙ sym (read_sets r)

pub popped_sets : (r : Record AgentState) → sent_sets (popped r).1 ≡ sent_sets r
popped_sets r = by (least_open r)
  where
    by : (o : Option ℕ) → sent_sets (option_map_or (λ n. closed n r) o r) ≡ sent_sets r
    by None = refl
    by (Some n) = closed_sets n r

-- ---- a state that is sent

module _ (n : ℕ) (r : Record AgentState) (e : Entry AgentState) (is : slice_get r.entries n ≡ Some e) (o : Option ℕ) (after : Record AgentState)
    (marked : (o, after) ≡ mark_sent same_state n r) where
  abbrev sent_if : Bool → Option ℕ × Record AgentState
  sent_if b = cond b (None, r) (Some (length r.sent), record r { sent = r.sent ++ n ∷ [] })

  decided : (o, after) ≡ sent_if (was_sent same_state e.key e.g r)
  decided = marked ∙ ap (λ (x : Option (Entry AgentState)). option_map_or (λ (e : Entry AgentState). sent_if_new same_state n e r) x (None, r)) is

  pub same_entries : after.entries ≡ r.entries
  same_entries = by (was_sent same_state e.key e.g r) decided
    where
      by : (b : Bool) → (o, after) ≡ sent_if b → after.entries ≡ r.entries
      by true d = ap (λ (p : Option ℕ × Record AgentState). p.1.entries) d
      by false d = ap (λ (p : Option ℕ × Record AgentState). p.1.entries) d

  -- no number, no set more
  pub unsent_sets : o ≡ None → after ≡ r
  unsent_sets none = by (was_sent same_state e.key e.g r) decided
    where
      by : (b : Bool) → (o, after) ≡ sent_if b → after ≡ r
      by true d = ap (λ (p : Option ℕ × Record AgentState). p.1) d
      by false d = absurd (let number : o ≡ Some (length r.sent) = ap (λ (p : Option ℕ × Record AgentState). p.0) d in let impossible : ⊥ = cc in impossible)

  -- with a number, the entry's set too
  pub more_sets : (k : ℕ) → o ≡ Some k → sent_sets after ≡ sent_sets r ++ e.key.mine ∷ []
  more_sets k some = by (was_sent same_state e.key e.g r) decided
    where
      by : (b : Bool) → (o, after) ≡ sent_if b → sent_sets after ≡ sent_sets r ++ e.key.mine ∷ []
      by true d = absurd (let number : o ≡ None = ap (λ (p : Option ℕ × Record AgentState). p.0) d in let impossible : ⊥ = cc in impossible)
      by false d =
          ap (λ (p : Option ℕ × Record AgentState). sent_sets p.1) d
          ∙ ap (map mine) (filter_map-append (slice_get r.entries) r.sent (n ∷ []))
          ∙ map-append mine (filter_map (slice_get r.entries) r.sent) (filter_map (slice_get r.entries) (n ∷ []))
          ∙ ap (λ (x : Option (Entry AgentState)). map mine (filter_map (slice_get r.entries) r.sent) ++ map mine (cons_option x [])) is

-- one use more adds its set to the order of use
pub order_more : (start : Numbers) (uses : List Numbers) (s : Numbers) → order_of_use start (uses ++ s ∷ []) ≡ with_set (order_of_use start uses) s
order_more start uses s = one_after_another (start ∷ []) uses (s ∷ [])
