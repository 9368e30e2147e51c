-- What an agent keeps and sent of a state, when states are offered and sent.
use Rattle.mp_world.proofs.Basics.{◌≡◌, ℕ, ◌+◌, ◌<◌, ◌≤◌, ◌^◌, ◌⊎◌, Bool, true, false, cond, ◌&&◌, List, [], length, map, get_or, Option, Some, None, refl, sym, ap, subst, ◌∙◌, arith, inl, inr, Contains, nat_le, nat_lt, option_map, slice_get, option_map_or}
use Rattle.mp_world.proofs.Basics.{and_parts, cases_lt, false≢true, leb-true, lt-ltb, get_or_from_slice_get, slice_get-get_or, slice_get_within}
use Rattle.mp_list.specs.First.{leftmost}
use Rattle.mp_list.proofs.FirstLemmas.{found_first, nothing_found}
use Rattle.mp_list.proofs.Members.{no_member, some_member}
use Rattle.mp_store.specs.Record.{offered}
use Rattle.mp_store.specs.Sent.{sent_entries}
use Rattle.mp_store.proofs.RankLemmas.{cheaper_less, cheaper_strict, those_have, those_hold}
use Rattle.mp_search.specs.declared.answer.Received.TheVariants as receptions
use Rattle.mp_search.proofs.KeyedStates.{Decides-state}
use Rattle.mp_world.specs.AgentWords.{AgentTask}
use Rattle.mp_world.specs.SearchWords.{Entry, Kept, Worse, Origin, Numbered, best, is_cheaper, those, Record, gives_way, is_known, kept, new_entry, sent_if_new, was_sent, AgentState, is_goal_state, same_state, by_keep_rule, offered_at, offered_with, sending_of}
use Rattle.mp_world.specs.SearchWords.{sent_best, sent_entry_of}
use Rattle.mp_team_states.specs.Growing.{HasGrown}
use Rattle.mp_team_states.proofs.Changes.{with_number}
use Rattle.mp_team_states.proofs.Growth.{stays_at}
use Rattle.mp_team_states.proofs.Members.{at_end, at_place, from_filter_map}

-- a state has an entry at a cost or less
pub record IsKept (r : Record AgentState) (s : AgentState) (cost : ℕ) : Type 0 where
  pub number : ℕ
  pub entry : Entry AgentState
  pub at : slice_get r.entries number ≡ Some entry
  pub key : entry.key ≡ s
  pub within : entry.g ≤ cost

-- a state was sent at a cost or less
pub record WasSent (r : Record AgentState) (s : AgentState) (cost : ℕ) : Type 0 where
  pub sent : ℕ
  pub number : ℕ
  pub entry : Entry AgentState
  pub given : slice_get r.sent sent ≡ Some number
  pub at : slice_get r.entries number ≡ Some entry
  pub key : entry.key ≡ s
  pub within : entry.g ≤ cost

pub kept_stays : (r later : Record AgentState) (s : AgentState) (cost : ℕ) → HasGrown r later → IsKept r s cost → IsKept later s cost
kept_stays r later s cost grown k =
    let e = grown.entries k.number k.entry k.at in
    let same = e.2.g in
    let within = k.within in
    record { number = k.number; entry = e.0; at = e.1; key = e.2.key ∙ k.key; within = omega arith }

pub sent_on : (r later : Record AgentState) (sent number : ℕ) → HasGrown r later → slice_get r.sent sent ≡ Some number → slice_get later.sent sent ≡ Some number
sent_on r later sent number grown is = ap (λ (ns : List ℕ). slice_get ns sent) grown.sent.is ∙ stays_at r.sent grown.sent.more sent number is

pub sent_stays : (r later : Record AgentState) (s : AgentState) (cost : ℕ) → HasGrown r later → WasSent r s cost → WasSent later s cost
sent_stays r later s cost grown k =
    let e = grown.entries k.number k.entry k.at in
    let same = e.2.g in
    let within = k.within in
    record {
      sent = k.sent;
      number = k.number;
      entry = e.0;
      given = sent_on r later k.sent k.number grown k.given;
      at = e.1;
      key = e.2.key ∙ k.key;
      within = omega arith;
    }

-- ---- what tests of the record say

passes : (s : AgentState) (g : ℕ) (e : Entry AgentState) → (same_state e.key s && nat_le e.g g) ≡ true → (e.key ≡ s) × (e.g ≤ g)
passes s g e h =
    let both = and_parts (same_state e.key s) (nat_le e.g g) h in
    ((Decides-state e.key s).0 both.0, leb-true e.g g both.1)

known_is_kept : (s : AgentState) (g : ℕ) (r : Record AgentState) → is_known same_state s g r.entries ≡ true → IsKept r s g
known_is_kept s g r known =
    let found = some_member (λ e. same_state e.key s && nat_le e.g g) r.entries known in
    let place = at_place r.entries found.0 found.1 in
    let is = passes s g found.0 found.2 in
    record { number = place.0; entry = found.0; at = place.1; key = is.0; within = is.1 }

was_sent_is : (s : AgentState) (g : ℕ) (r : Record AgentState) → was_sent same_state s g r ≡ true → WasSent r s g
was_sent_is s g r test =
    let found = some_member (λ e. same_state e.key s && nat_le e.g g) (sent_entries r) test in
    let number = from_filter_map (slice_get r.entries) r.sent found.0 found.1 in
    let place = at_place r.sent number.0 number.1 in
    let is = passes s g found.0 found.2 in
    record { sent = place.0; number = number.0; entry = found.0; given = place.1; at = number.2; key = is.0; within = is.1 }

-- ---- an offer

new_is_kept : (new : Entry AgentState) (r : Record AgentState) → IsKept (kept same_state new r) new.key new.g
new_is_kept new r = record {
  number = length (map (gives_way same_state new.key) r.entries);
  entry = new;
  at = at_end (map (gives_way same_state new.key) r.entries) new;
  key = refl;
  within = omega arith;
}

module _ (t : AgentTask) (s : AgentState) (g : ℕ) (origin : Origin) (r : Record AgentState) where
  pub offer_is_kept : (h : ℕ) → g + h < 2 ^ 60 → IsKept (offered_with t s g h origin r).1 s g
  unfolding offered_with
  offer_is_kept h small = by (nat_lt (g + h) (2 ^ 60)) (lt-ltb (g + h) (2 ^ 60) small)
    where
      new : Entry AgentState
      new = new_entry s g h origin (is_goal_state t s)

      chosen : (b : Bool) → is_known same_state new.key new.g r.entries ≡ b
          → IsKept (by_keep_rule (cond b (Worse, r) (Kept (length r.entries), kept same_state new r))).1 s g
      chosen true known = known_is_kept s g r known
      chosen false known = new_is_kept new r

      by : (b : Bool) → b ≡ true → IsKept (cond b (by_keep_rule (offered same_state new r)) (receptions.Worse, r)).1 s g
      by true below = chosen (is_known same_state new.key new.g r.entries) refl
      by false below = absurd (false≢true below)

  -- a state that is offered has an entry then, where it has an estimate
  pub offered_is_kept : (value : Option ℕ) → ((h : ℕ) → value ≡ Some h → g + h < 2 ^ 60)
      → (value ≡ None) ⊎ IsKept (offered_at t s g value origin r).1 s g
  offered_is_kept None small = inl refl
  offered_is_kept (Some h) small = inr (offer_is_kept h (small h refl))

-- ---- a sending

-- the best entry of a state that has one costs no more than that one
pub best_of_kept : (s : AgentState) (r : Record AgentState) (cost : ℕ) → IsKept r s cost
    → (n : ℕ) × (e : Entry AgentState) × (best same_state s r ≡ Some n) × (slice_get r.entries n ≡ Some e) × (e.key ≡ s) × (e.g ≤ cost)
best_of_kept s r cost k = by (leftmost is_cheaper None (those has_key r.entries)) refl
  where
    has_key : Entry AgentState → Bool
    has_key e = same_state e.key s

    it : get_or r.entries k.number k.entry ≡ k.entry
    it = get_or_from_slice_get r.entries k.number k.entry k.entry k.at

    there : Contains (those has_key r.entries) (k.number, k.entry)
    there =
        subst (λ (x : Entry AgentState). Contains (those has_key r.entries) (k.number, x)) it
        (those_hold has_key r.entries k.number k.entry (slice_get_within r.entries k.number k.entry k.at)
        (ap has_key it ∙ (Decides-state k.entry.key s).1 k.key))

    by : (o : Option (Numbered AgentState)) → leftmost is_cheaper None (those has_key r.entries) ≡ o
        → (n : ℕ) × (e : Entry AgentState) × (option_map (λ x. x.0) (leftmost is_cheaper None (those has_key r.entries)) ≡ Some n) × (slice_get r.entries n ≡ Some e) × (e.key ≡ s) × (e.g ≤ cost)
    by None is = absurd (no_member (k.number, k.entry) (subst (λ xs. Contains xs (k.number, k.entry)) (nothing_found is_cheaper (those has_key r.entries) is) there))
    by (Some x) is =
        let first = found_first is_cheaper cheaper_strict (those has_key r.entries) x is in
        let that = those_have has_key r.entries x first.among in
        let within = k.within in
        let least : x.1.g ≤ k.entry.g =
        elim (cases_lt k.entry.g x.1.g) [
          | inl less ↦ absurd (false≢true (sym (first.least (k.number, k.entry) there) ∙ cheaper_less (k.number, k.entry) x less))
          | inr more ↦ more
        ] in (
          x.0,
          x.1,
          ap (option_map (λ y. y.0)) is,
          slice_get-get_or r.entries x.0 x.1 that.inside ∙ ap Some that.is,
          (Decides-state x.1.key s).0 that.passes,
          omega arith,
        )

module _ (t : AgentTask) (s : AgentState) (r : Record AgentState) where
  entry_is_sent : (n : ℕ) (e : Entry AgentState) → slice_get r.entries n ≡ Some e → WasSent (sending_of t s e (sent_if_new same_state n e r)).1 e.key e.g
  entry_is_sent n e at = by (was_sent same_state e.key e.g r) refl
    where
      by : (b : Bool) → was_sent same_state e.key e.g r ≡ b → WasSent (sending_of t s e (cond b (None, r) (Some (length r.sent), with_number n r))).1 e.key e.g
      by true test = was_sent_is e.key e.g r test
      by false test =
          record { sent = length r.sent; number = n; entry = e; given = at_end r.sent n; at = at; key = refl; within = omega arith }

  -- a state that has an entry was sent once it is due
  pub best_is_sent : (cost : ℕ) → IsKept r s cost → WasSent (sent_best t s r).1 s cost
  unfolding sent_entry_of
  best_is_sent cost k =
      let found = best_of_kept s r cost k in
      subst (λ (o : Option ℕ). WasSent (sent_entry_of t s o r).1 s cost) (sym found.2)
      (by found.0 found.1 found.3 found.4 found.5)
    where
      by : (n : ℕ) (e : Entry AgentState) → slice_get r.entries n ≡ Some e → e.key ≡ s → e.g ≤ cost → WasSent (sent_entry_of t s (Some n) r).1 s cost
      by n e at key within =
          subst
          (λ (o : Option (Entry AgentState)). WasSent (option_map_or (λ e. sending_of t s e (option_map_or (λ e. sent_if_new same_state n e r) o (None, r))) o ([], r)).1 s cost)
          (sym at)
          (let w = entry_is_sent n e at in
          let less = w.within in
          record { sent = w.sent; number = w.number; entry = w.entry; given = w.given; at = w.at; key = w.key ∙ key; within = omega arith })
