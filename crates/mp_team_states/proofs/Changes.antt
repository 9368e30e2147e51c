-- What a search does is one change after another: an entry is closed, kept or sent.
use Rattle.mp_world.proofs.Basics.{◌≡◌, ℕ, zero, suc, get_or, ◌<◌, ◌^◌, Bool, true, false, cond, ◌&&◌, List, [], ◌∷◌, ◌++◌, length, map, All, refl, subst, arith, Option, Some, None, Contains, slice_get, slice_set, option_map_or, All-map, All-push, All-set}
use Rattle.mp_world.proofs.Basics.{All-weaker, get_or_from_slice_get, slice_get_within}
use Rattle.mp_list.proofs.Members.{no_member}
use Rattle.mp_store.proofs.Sound.{closed_sound, kept_sound, sent_sound}
use Rattle.mp_search.specs.Sending.{message_of_entry}
use Rattle.mp_world.specs.AgentWords.{AgentTask}
use Rattle.mp_world.specs.SearchWords.{Entry, Mark, Expanded, Open, Replaced, IsEarlier, IsSound, closed, Record, f, gives_way, is_known, is_open, kept, Sending, AgentState, same_state}
use Rattle.mp_team_states.specs.Growing.{HasGrown}
use Rattle.mp_team_states.specs.Sent.{IsSentIn}
use Rattle.mp_team_states.proofs.Growth.{grown_closed, grown_kept, grown_not, grown_sent, grown_then, sent_stays}

-- an entry that may be kept
pub record IsFresh (r : Record AgentState) (new : Entry AgentState) : Type 0 where
  pub mark : new.mark ≡ Open
  pub bounded : f new < 2 ^ 60
  pub earlier : IsEarlier (length r.entries) new.origin
  pub cheaper : is_known same_state new.key new.g r.entries ≡ false

-- the entry of a number is sent
abbrev pub with_number : ℕ → Record AgentState → Record AgentState
with_number n r = record r { sent = r.sent ++ n ∷ [] }

-- the message of an entry that is sent, to some agents
abbrev pub sending : AgentTask → ℕ → Record AgentState → Entry AgentState → List ℕ → Sending
sending t n r e to = record { state = message_of_entry t (with_number n r) (length r.sent) e; to = to }

module _ (Comes : Record AgentState → Entry AgentState → Type 0) (t : AgentTask) where
  -- Changes from a record to another one, with what goes out. Which entries come is a parameter.
  pub data Changes : Record AgentState → List Sending → Record AgentState → Type 0 where
    nothing : (r : Record AgentState) → Changes r [] r
    closes : (r last : Record AgentState) (out : List Sending) (n : ℕ) → Changes (closed n r) out last → Changes r out last
    keeps :
        (r last : Record AgentState) (out : List Sending) (new : Entry AgentState)
        → IsFresh r new → Comes r new → Changes (kept same_state new r) out last → Changes r out last
    sends :
        (r last : Record AgentState) (out : List Sending) (n : ℕ) (e : Entry AgentState) (to : List ℕ)
        → slice_get r.entries n ≡ Some e → Changes (with_number n r) out last → Changes r (sending t n r e to ∷ out) last

  pub changes_then : (r s u : Record AgentState) (a b : List Sending) → Changes r a s → Changes s b u → Changes r (a ++ b) u
  changes_then r s u a b (nothing _) second = second
  changes_then r s u a b (closes _ _ _ n rest) second = closes r u (a ++ b) n (changes_then (closed n r) s u a b rest second)
  changes_then r s u a b (keeps _ _ _ new fresh comes rest) second =
      keeps r u (a ++ b) new fresh comes (changes_then (kept same_state new r) s u a b rest second)
  changes_then r s u a b (sends _ _ out n e to there rest) second =
      sends r u (out ++ b) n e to there (changes_then (with_number n r) s u out b rest second)

  pub changes_grow : (r s : Record AgentState) (out : List Sending) → Changes r out s → HasGrown r s
  changes_grow r s out (nothing _) = grown_not r
  changes_grow r s out (closes _ _ _ n rest) = grown_then r (closed n r) s (grown_closed n r) (changes_grow (closed n r) s out rest)
  changes_grow r s out (keeps _ _ _ new fresh comes rest) =
      grown_then r (kept same_state new r) s (grown_kept new r) (changes_grow (kept same_state new r) s out rest)
  changes_grow r s out (sends _ _ others n e to there rest) =
      grown_then r (with_number n r) s (grown_sent n r) (changes_grow (with_number n r) s others rest)

  pub changes_sound : (r s : Record AgentState) (out : List Sending) → Changes r out s → IsSound same_state r → IsSound same_state s
  changes_sound r s out (nothing _) sound = sound
  changes_sound r s out (closes _ _ _ n rest) sound = changes_sound (closed n r) s out rest (closed_sound same_state n r sound)
  changes_sound r s out (keeps _ _ _ new fresh comes rest) sound =
      changes_sound (kept same_state new r) s out rest (kept_sound same_state new r sound fresh.cheaper fresh.mark fresh.bounded fresh.earlier)
  changes_sound r s out (sends _ _ others n e to there rest) sound =
      changes_sound (with_number n r) s others rest (sent_sound same_state n r (slice_get_within r.entries n e there) sound)

  -- what holds of all entries, whatever their marks are
  module _ (P : Entry AgentState → Type 0) (marks : (e : Entry AgentState) (mark : Mark) → P e → P (record e { mark = mark }))
      (comes : (r : Record AgentState) (new : Entry AgentState) → f new < 2 ^ 60 → Comes r new → All P r.entries → P new) where
    closed_have : (n : ℕ) (r : Record AgentState) → All P r.entries → All P (closed n r).entries
    closed_have n r all = by (slice_get r.entries n) refl
      where
        by : (o : Option (Entry AgentState)) → slice_get r.entries n ≡ o
            → All P (option_map_or (λ (e : Entry AgentState). record r { entries = slice_set r.entries n (record e { mark = Expanded }) }) o r).entries
        by None is = all
        by (Some e) is =
            All-set P r.entries n (record e { mark = Expanded })
            (marks e Expanded (subst P (get_or_from_slice_get r.entries n e e is) (all n e (slice_get_within r.entries n e is)))) all

    kept_have : (new : Entry AgentState) (r : Record AgentState) → P new → All P r.entries
        → All P (kept same_state new r).entries
    kept_have new r here all =
        All-push P (map (gives_way same_state new.key) r.entries) new
        (All-map P (gives_way same_state new.key) r.entries
        (All-weaker P (λ e. P (gives_way same_state new.key e)) (λ e h. gives (same_state e.key new.key && is_open e.mark) e h)
        r.entries all)) here
      where
        gives : (b : Bool) (e : Entry AgentState) → P e → P (cond b (record e { mark = Replaced }) e)
        gives true e h = marks e Replaced h
        gives false e h = h

    pub changes_have : (r s : Record AgentState) (out : List Sending) → Changes r out s → All P r.entries → All P s.entries
    changes_have r s out (nothing _) all = all
    changes_have r s out (closes _ _ _ n rest) all = changes_have (closed n r) s out rest (closed_have n r all)
    changes_have r s out (keeps _ _ _ new fresh c rest) all =
        changes_have (kept same_state new r) s out rest (kept_have new r (comes r new fresh.bounded c all) all)
    changes_have r s out (sends _ _ others n e to there rest) all = changes_have (with_number n r) s others rest all

  -- what holds of their keys
  pub changes_all : (P : AgentState → Type 0)
      → ((r : Record AgentState) (new : Entry AgentState) → Comes r new → All (λ e. P e.key) r.entries → P new.key)
      → (r s : Record AgentState) (out : List Sending) → Changes r out s → All (λ e. P e.key) r.entries → All (λ e. P e.key) s.entries
  changes_all P comes = changes_have (λ e. P e.key) (λ e mark h. h) (λ r new low. comes r new)

  -- what goes out is sent
  pub changes_sent : (r s : Record AgentState) (out : List Sending) → Changes r out s → IsSound same_state r → (x : Sending) → Contains out x → IsSentIn t s x.state
  unfolding message_of_entry
  changes_sent r s out (nothing _) sound x here = absurd (no_member x here)
  changes_sent r s out (closes _ _ _ n rest) sound x here = changes_sent (closed n r) s out rest (closed_sound same_state n r sound) x here
  changes_sent r s out (keeps _ _ _ new fresh comes rest) sound x here =
      changes_sent (kept same_state new r) s out rest (kept_sound same_state new r sound fresh.cheaper fresh.mark fresh.bounded fresh.earlier) x here
  changes_sent r s out (sends _ _ others n e to there rest) sound x here =
      by (λ y there_too. changes_sent (with_number n r) s others rest (sent_sound same_state n r (slice_get_within r.entries n e there) sound) y there_too) here.0 here.1 here.2
    where
      middle : IsSound same_state (with_number n r)
      middle = sent_sound same_state n r (slice_get_within r.entries n e there) sound

      at_end : (ns : List ℕ) (n : ℕ) → slice_get (ns ++ n ∷ []) (length ns) ≡ Some n
      at_end [] n = refl
      at_end (m ∷ ns) n = at_end ns n

      first : IsSentIn t (with_number n r) (sending t n r e to).state
      first = record { number = n; entry = e; sent = at_end r.sent n; there = there; is = refl }

      by : ((y : Sending) → Contains others y → IsSentIn t s y.state) → (k : ℕ) → k < length (sending t n r e to ∷ others) → get_or (sending t n r e to ∷ others) k x ≡ x → IsSentIn t s x.state
      by later zero inside is =
          subst (λ (y : Sending). IsSentIn t s y.state) is
          (sent_stays t (with_number n r) s (sending t n r e to).state middle.sent (changes_grow (with_number n r) s others rest) first)
      by later (suc k) inside is = later x (k, omega arith, is)
