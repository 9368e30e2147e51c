-- The numbers of all entries and of all states that go out fit messages, whatever is expanded and received.
use Rattle.std.proofs.Common.{◌≡◌, ℕ, ◌+◌, ◌*◌, ◌<◌, ◌≤◌, ◌^◌, Bool, true, false, cond, ◌&&◌, List, [], ◌∷◌, ◌++◌, length, map, Option, Some, None, All, refl, sym, subst, ◌-◌, arith, inl, inr}
use Rattle.std.specs.Prelude.{nat_lt, filter_map, slice_get, slice_set}
use Rattle.std.specs.FinSet as set
use Rattle.std.specs.Option.{option_map_or}
use Rattle.std.specs.List.{cons_option}
use Rattle.std.proofs.lemmas.Bool.{ltb-true}
use Rattle.std.proofs.lemmas.List.{length-append, length-map, length-set, length_push}
use Rattle.std.proofs.lemmas.List.Elements.{All-append, All-cons, All-map, All-nil, All-push, All-set, All-weaker}
use Rattle.std.proofs.lemmas.Option.{get_or_from_slice_get, slice_get_within}
use Rattle.mp_sets.specs.declared.tag.Tag.{Tag}
use Rattle.mp_sets.specs.Numbers.{Numbers}
use Rattle.mp_sets.proofs.ListedLemmas.{passing_below}
use Rattle.mp_task.specs.declared.act.Act.{Act}
use Rattle.mp_task.specs.AgentTask.{AgentTask}
use Rattle.mp_task.specs.Limits.{IsWithinLimits, most_expansions}
use Rattle.mp_messages.specs.declared.message.State.{State}
use Rattle.mp_messages.specs.Spelling.{AreStateNumbers}
use Rattle.mp_tokens.specs.Order.{place, with_set, with_sets}
use Rattle.mp_tokens.proofs.Places.{old_or_new, place_within, with_new, with_old}
use Rattle.mp_store.specs.declared.entry.Entry.{Entry}
use Rattle.mp_store.specs.declared.entry.Mark.TheVariants.{Expanded, Replaced}
use Rattle.mp_store.specs.declared.entry.Offer.{Offer}
use Rattle.mp_store.specs.declared.entry.Offer.TheVariants.{Kept, Worse}
use Rattle.mp_store.specs.declared.entry.Origin.{Origin}
use Rattle.mp_store.specs.declared.entry.Origin.TheVariants.{Own, From}
use Rattle.mp_store.specs.Minima.{best, closed, least_open}
use Rattle.mp_store.specs.Record.{Record, gives_way, is_known, is_open, kept, new_entry, offered}
use Rattle.mp_store.specs.Sent.{mark_sent, sent_if_new, was_sent}
use Rattle.mp_search.specs.declared.answer.Received.TheVariants as receptions
use Rattle.mp_search.specs.declared.answer.Sending.{Sending}
use Rattle.mp_search.specs.AgentState.{AgentState, applies, is_goal_state, same_state, successor}
use Rattle.mp_search.specs.Concern.{receivers}
use Rattle.mp_search.specs.Expansion.{Parent, expanded, expanded_entry, with_action, with_actions, with_successor}
use Rattle.mp_search.specs.Offering.{by_keep_rule, offered_at, offered_with, own_value}
use Rattle.mp_search.specs.Receipt.{greater_value, received, state_of}
use Rattle.mp_search.specs.Search.{SearchRecord, sent_sets, tokens_given}
use Rattle.mp_search.specs.Sending.{is_due, message_of_entry, sending_of, sent_best, sent_entry_of, sent_if_due}
use Rattle.mp_machine.specs.MemberFields.{EntryFits, HasSentBelow, SendingFits}

-- all entries fit, there are at least so many, and at most so many were sent
pub record FitsUpTo (least many : ℕ) (r : Record AgentState) : Type 0 where
  pub entries : All EntryFits r.entries
  pub longer : least ≤ length r.entries
  pub sent : length r.sent ≤ many

-- the tags of a state fit
abbrev pub TagsFit : List Tag → Type 0
TagsFit tags = All (λ t. t.token < 2 ^ 60) tags

-- ---- how many sets have tokens

with_set_longer : (sets : List Numbers) (s : Numbers) → length (with_set sets s) ≤ length sets + 1
with_set_longer sets s = elim (old_or_new sets s) [
  | inl old ↦ subst (λ (xs : List Numbers). length xs ≤ length sets + 1) (sym (with_old sets s old)) (omega arith)
  | inr new ↦ subst (λ (xs : List Numbers). length xs ≤ length sets + 1) (sym (with_new sets s new)) (omega (arith, length-append sets (s ∷ [])))
]

with_sets_longer : (sets more : List Numbers) → length (with_sets sets more) ≤ length sets + length more
with_sets_longer sets [] = omega arith
with_sets_longer sets (s ∷ more) = omega (arith, with_sets_longer (with_set sets s) more, with_set_longer sets s)

found_at_most : {X : Type 0} (f : ℕ → Option X) (ns : List ℕ) → length (filter_map f ns) ≤ length ns
found_at_most f [] = omega arith
found_at_most {X} f (n ∷ ns) = by (f n) (found_at_most f ns)
  where
    by : (o : Option X) → length (filter_map f ns) ≤ length ns → length (cons_option o (filter_map f ns)) ≤ length (n ∷ ns)
    by None rest = omega arith
    by (Some x) rest = omega arith

pub few_tokens : (t : AgentTask) (r : Record AgentState) → length (tokens_given t r) ≤ length r.sent + 1
few_tokens t r =
    let start : Numbers = set.from_list t.start_priv in
    let entries : List (Entry AgentState) = filter_map (slice_get r.entries) r.sent in
    omega (arith, with_sets_longer (start ∷ []) (sent_sets r), length-map entries (λ (e : Entry AgentState). e.key.mine), found_at_most (slice_get r.entries) r.sent)

module _ (least : ℕ) where
  -- ---- entries that are closed and offered

  pub up_closed : (sent n : ℕ) (r : Record AgentState) → FitsUpTo least sent r → FitsUpTo least sent (closed n r)
  up_closed sent n r fits = by (slice_get r.entries n) refl
    where
      by : (o : Option (Entry AgentState)) → slice_get r.entries n ≡ o
          → FitsUpTo least sent (option_map_or (λ (e : Entry AgentState). record r { entries = slice_set r.entries n (record e { mark = Expanded }) }) o r)
      by None is = fits
      by (Some e) is =
          let fit : EntryFits e = subst EntryFits (get_or_from_slice_get r.entries n e e is) (fits.entries n e (slice_get_within r.entries n e is)) in
          record {
            entries = All-set EntryFits r.entries n (record e { mark = Expanded }) (record { f = fit.f; tokens = fit.tokens; sent = fit.sent }) fits.entries;
            longer = subst (λ (n : ℕ). least ≤ n) (sym (length-set r.entries n (record e { mark = Expanded }))) fits.longer;
            sent = fits.sent;
          }

  up_offered : (sent : ℕ) (new : Entry AgentState) (r : Record AgentState) → EntryFits new → FitsUpTo least sent r → FitsUpTo least sent (offered same_state new r).1
  up_offered sent new r here fits = by (is_known same_state new.key new.g r.entries)
    where
      gives : (b : Bool) (e : Entry AgentState) → EntryFits e → EntryFits (cond b (record e { mark = Replaced }) e)
      gives true e h = record { f = h.f; tokens = h.tokens; sent = h.sent }
      gives false e h = h

      after : Bool → Offer × Record AgentState
      after b = cond b (Worse, r) (Kept (length r.entries), kept same_state new r)

      by : (b : Bool) → FitsUpTo least sent (after b).1
      by true = fits
      by false = record {
        entries =
            All-push EntryFits (map (gives_way same_state new.key) r.entries) new
            (All-map EntryFits (gives_way same_state new.key) r.entries
            (All-weaker EntryFits (λ e. EntryFits (gives_way same_state new.key e)) (λ e h. gives (same_state e.key new.key && is_open e.mark) e h) r.entries fits.entries)) here;
        longer =
            let more = length_push (map (gives_way same_state new.key) r.entries) new in
            let same = length-map r.entries (gives_way same_state new.key) in
            let h = fits.longer in
            omega arith;
        sent = fits.sent;
      }

  module _ (t : AgentTask) where
    up_offered_with : (sent : ℕ) (s : AgentState) (g h : ℕ) (origin : Origin) (r : Record AgentState) → TagsFit s.tags → HasSentBelow origin
        → FitsUpTo least sent r → FitsUpTo least sent (offered_with t s g h origin r).1
    unfolding offered_with
    up_offered_with sent s g h origin r tags below fits = by (nat_lt (g + h) (2 ^ 60)) refl
      where
        new : Entry AgentState
        new = new_entry s g h origin (is_goal_state t s)

        by : (b : Bool) → nat_lt (g + h) (2 ^ 60) ≡ b
            → FitsUpTo least sent (cond b (by_keep_rule (offered same_state new r)) (receptions.Worse, r)).1
        by true is = up_offered sent new r (record { f = ltb-true (g + h) (2 ^ 60) is; tokens = tags; sent = below }) fits
        by false is = fits

    pub up_offered_at : (sent : ℕ) (s : AgentState) (g : ℕ) (value : Option ℕ) (origin : Origin) (r : Record AgentState) → TagsFit s.tags → HasSentBelow origin
        → FitsUpTo least sent r → FitsUpTo least sent (offered_at t s g value origin r).1
    up_offered_at sent s g None origin r tags below fits = fits
    up_offered_at sent s g (Some h) origin r tags below fits = up_offered_with sent s g h origin r tags below fits

  -- ---- what goes out

  -- states go out and the record is another: all fit, and at most so many were sent
  pub record OutFits (sent : ℕ) (d : List Sending × Record AgentState) : Type 0 where
    pub out : All SendingFits d.0
    pub up : FitsUpTo least sent d.1

  up_more : (a b : ℕ) (r : Record AgentState) → a ≤ b → FitsUpTo least a r → FitsUpTo least b r
  up_more a b r less fits = record { entries = fits.entries; longer = fits.longer; sent = let h = fits.sent in omega arith }

  none_out : (a b : ℕ) (r : Record AgentState) → a ≤ b → FitsUpTo least a r → OutFits b ([], r)
  none_out a b r less fits = record { out = All-nil SendingFits; up = up_more a b r less fits }

  -- an entry was expanded, if one was: all fits, and each expansion sends at most 200,000 states
  pub record HasExpanded (r : SearchRecord) (d : List Sending × SearchRecord) : Type 0 where
    pub out : All SendingFits d.0
    pub up : FitsUpTo least (200000 * d.1.expansions) d.1.kept
    pub one : d.1.expansions ≤ r.expansions + 1

  module _ (t : AgentTask) (task : IsWithinLimits t) where
    message_fits : (r : Record AgentState) (number : ℕ) (e : Entry AgentState) (to : List ℕ) → EntryFits e → number < 2 ^ 60 → length r.sent + 1 < 2 ^ 60
        → SendingFits (record { state = message_of_entry t r number e; to = to })
    unfolding message_of_entry
    message_fits r number e to fits small few =
        let token = place (tokens_given t r) e.key.mine in
        let below : token < 2 ^ 60 = omega (arith, place_within (tokens_given t r) e.key.mine, few_tokens t r) in
        record {
          numbers = record {
            sent = small;
            f = fits.f;
            tokens = All-set (λ (x : Tag). x.token < 2 ^ 60) e.key.tags _ _ below fits.tokens;
          };
          facts =
              All-weaker (λ x. x < t.publics) (λ x. x < 2 ^ 32 - 1) (λ x h. omega (arith, task.publics)) _
              (passing_below (set.contains e.key.publics) t.publics);
        }

    module _ (sent : ℕ) (small : sent + 2 < 2 ^ 60) where
      out_marked : (n : ℕ) (s : AgentState) (e : Entry AgentState) (r : Record AgentState) → FitsUpTo least sent r → EntryFits e
          → slice_get r.entries n ≡ Some e → OutFits (sent + 1) (sending_of t s e (mark_sent same_state n r))
      out_marked n s e r fits fit is =
          subst
          (λ (o : Option (Entry AgentState)). OutFits (sent + 1) (sending_of t s e (option_map_or (λ (e : Entry AgentState). sent_if_new same_state n e r) o (None, r))))
          (sym is) (by (was_sent same_state e.key e.g r))
        where
          new : Record AgentState
          new = record r { sent = r.sent ++ n ∷ [] }

          by : (b : Bool) → OutFits (sent + 1) (sending_of t s e (cond b (None, r) (Some (length r.sent), new)))
          by true = none_out sent (sent + 1) r (omega arith) fits
          by false =
              let few = fits.sent in
              let longer : length (r.sent ++ n ∷ []) ≡ length r.sent + 1 = length-append r.sent (n ∷ []) in
              record {
                out =
                    All-cons SendingFits _ [] (message_fits new (length r.sent) e (receivers t s) fit (omega arith) (omega arith))
                    (All-nil SendingFits);
                up = record { entries = fits.entries; longer = fits.longer; sent = omega arith };
              }

      out_entry : (s : AgentState) (o : Option ℕ) (r : Record AgentState) → FitsUpTo least sent r → OutFits (sent + 1) (sent_entry_of t s o r)
      unfolding sent_entry_of
      out_entry s None r fits = none_out sent (sent + 1) r (omega arith) fits
      out_entry s (Some n) r fits = by (slice_get r.entries n) refl
        where
          by : (o : Option (Entry AgentState)) → slice_get r.entries n ≡ o
              → OutFits (sent + 1) (option_map_or (λ e. sending_of t s e (mark_sent same_state n r)) o ([], r))
          by None is = none_out sent (sent + 1) r (omega arith) fits
          by (Some e) is =
              out_marked n s e r fits
              (subst EntryFits (get_or_from_slice_get r.entries n e e is) (fits.entries n e (slice_get_within r.entries n e is))) is

      out_if_due : (act : Act) (s reached : AgentState) (r : Record AgentState) → FitsUpTo least sent r → OutFits (sent + 1) (sent_if_due t act s reached r)
      unfolding sent_if_due
      out_if_due act s reached r fits = by (is_due t act s reached)
        where
          by : (b : Bool) → OutFits (sent + 1) (cond b (sent_best t reached r) ([], r))
          by true = out_entry reached (best same_state reached r) r fits
          by false = none_out sent (sent + 1) r (omega arith) fits

    module _ (value : Numbers → Numbers → Option ℕ) (parent : Parent) (tags : TagsFit parent.state.tags) where
      out_action : (sent number : ℕ) (act : Act) (r : Record AgentState) → sent + 2 < 2 ^ 60 → FitsUpTo least sent r
          → OutFits (sent + 1) (with_action t value parent number act r)
      unfolding with_action with_successor
      out_action sent number act r small fits = by (applies act parent.state)
        where
          reached : AgentState
          reached = successor act parent.state

          by : (b : Bool) → OutFits (sent + 1) (cond b (with_successor t value parent number act reached r) ([], r))
          by true =
              out_if_due sent small act parent.state reached _
              (up_offered_at t sent reached (parent.g + act.cost) (own_value t value reached) (Own number parent.number) r tags tt fits)
          by false = none_out sent (sent + 1) r (omega arith) fits

      out_actions : (sent number : ℕ) (acts : List Act) (r : Record AgentState) → sent + length acts + 2 < 2 ^ 60 → FitsUpTo least sent r
          → OutFits (sent + length acts) (with_actions t value parent number acts r)
      unfolding with_actions
      out_actions sent number [] r small fits = none_out sent _ r (omega arith) fits
      out_actions sent number (act ∷ acts) r small fits =
          let first = out_action sent number act r (omega arith) fits in
          let done = with_action t value parent number act r in
          let rest = out_actions (sent + 1) (number + 1) acts done.1 (omega arith) first.up in
          record {
            out = All-append SendingFits done.0 _ first.out rest.out;
            up = up_more (sent + 1 + length acts) _ _ (omega arith) rest.up;
          }

    pub expanded_fits : (value : Numbers → Numbers → Option ℕ) (r : SearchRecord) → r.expansions < most_expansions
        → FitsUpTo least (200000 * r.expansions) r.kept → HasExpanded r (expanded t value r)
    unfolding expanded expanded_entry
    expanded_fits value r few fits = by (least_open r.kept)
      where
        nothing : HasExpanded r ([], r)
        nothing = record { out = All-nil SendingFits; up = fits; one = omega arith }

        at : (n : ℕ) (o : Option (Entry AgentState)) → slice_get r.kept.entries n ≡ o
            → HasExpanded r (option_map_or (λ e. expanded_entry t value n e r) o ([], r))
        at n None is = nothing
        at n (Some e) is =
            let fit : EntryFits e =
            subst EntryFits (get_or_from_slice_get r.kept.entries n e e is) (fits.entries n e (slice_get_within r.kept.entries n e is))
            in
            let sent = 200000 * r.expansions in
            let acts = task.number_of_acts in
            let done =
            out_actions value (record { number = n; state = e.key; g = e.g }) fit.tokens sent 0 t.acts (closed n r.kept) (omega arith)
            (up_closed sent n r.kept fits)
            in
            record {
              out = done.out;
              up = up_more (sent + length t.acts) _ _ (omega arith) done.up;
              one = omega arith;
            }

        by : (o : Option ℕ) → HasExpanded r (option_map_or (λ n. option_map_or (λ e. expanded_entry t value n e r) (slice_get r.kept.entries n) ([], r)) o ([], r))
        by None = nothing
        by (Some n) = at n (slice_get r.kept.entries n) refl

    -- ---- a state that comes

    pub received_fits : (value : Numbers → Numbers → Option ℕ) (sent from : ℕ) (m : State) (r : Record AgentState) → AreStateNumbers m
        → FitsUpTo least sent r → FitsUpTo least sent (received t value from m r).1
    received_fits value sent from m r numbers fits =
        let s = state_of t r m in
        up_offered_at t sent s m.g (greater_value t value m.h s) (From from m.sent) r
        (All-set (λ (x : Tag). x.token < 2 ^ 60) m.tags _ _ (omega arith) numbers.tokens) numbers.sent fits
