-- What own actions and receipts do to what an agent keeps and sent, one after another.
use Rattle.mp_world.proofs.Basics.{◌≡◌, ℕ, ◌+◌, ◌⊎◌, Bool, true, false, cond, ◌&&◌, List, [], ◌∷◌, ◌++◌, length, map, Option, Some, None, refl, sym, ap, subst, ◌∙◌, inl, inr, Contains, option_map, slice_get, and_right, Contains-append_left, Contains-append_right}
use Rattle.mp_world.proofs.Basics.{none-some, same_Some, slice_get-map}
use Rattle.mp_list.proofs.Members.{contains_head}
use Rattle.mp_search.specs.Sending.{message_of_entry}
use Rattle.mp_world.specs.AgentWords.{AgentTask, Act}
use Rattle.mp_world.specs.SearchWords.{Entry, Open, Expanded, Replaced, Origin, Record, gives_way, is_open, kept, Sending, AgentState, is_goal_state, same_state, receivers, offered_at, Numbers, Own, successor, Parent, with_actions, own_value, sent_if_due}
use Rattle.mp_team_states.specs.Growing.{HasGrown}
use Rattle.mp_team_states.proofs.Changes.{sending, with_number}
use Rattle.mp_team_states.proofs.Keeping.{IsKeepable, KeepingCases, actions_hold, due_holds, offered_holds}
use Rattle.mp_team_states.proofs.Growth.{grown_kept, grown_not, grown_sent, grown_then, stays_at}
use Rattle.mp_team_states.proofs.Members.{pushed_back, pushed_place}

-- an entry was expanded
pub record WasExpanded (r : Record AgentState) (n : ℕ) : Type 0 where
  pub entry : Entry AgentState
  pub at : slice_get r.entries n ≡ Some entry
  pub is : entry.mark ≡ Expanded

-- each entry's flag is the one of its state
abbrev pub HaveFlags : AgentTask → Record AgentState → Type 0
HaveFlags t r = (n : ℕ) (e : Entry AgentState) → slice_get r.entries n ≡ Some e → e.goal ≡ is_goal_state t e.key

-- the entry of a sent number goes out to the agents that its state concerns
pub record GoesOut (t : AgentTask) (s : Record AgentState) (out : List Sending) (k n : ℕ) : Type 0 where
  pub sending : Sending
  pub there : Contains out sending
  pub number : sending.state.sent ≡ k
  pub entry : Entry AgentState
  pub at : slice_get s.entries n ≡ Some entry
  pub to : sending.to ≡ receivers t entry.key

-- an entry that may have given way
pub record GaveWay (r : Record AgentState) (n : ℕ) (e : Entry AgentState) : Type 0 where
  pub entry : Entry AgentState
  pub at : slice_get r.entries n ≡ Some entry
  pub key : e.key ≡ entry.key
  pub goal : e.goal ≡ entry.goal
  pub cost : e.g ≡ entry.g
  pub estimate : e.h ≡ entry.h
  pub mark : (e.mark ≡ entry.mark) ⊎ (e.mark ≡ Replaced)

pub gave_way : (key : AgentState) (r : Record AgentState) (n : ℕ) (e : Entry AgentState) → slice_get (map (gives_way same_state key) r.entries) n ≡ Some e → GaveWay r n e
gave_way key r n e at = by (slice_get r.entries n) refl (sym (slice_get-map (gives_way same_state key) r.entries n) ∙ at)
  where
    from : (b : Bool) (old : Entry AgentState) → slice_get r.entries n ≡ Some old → cond b (record old { mark = Replaced }) old ≡ e → GaveWay r n e
    from true old is same = record {
      entry = old;
      at = is;
      key = ap (λ (x : Entry AgentState). x.key) (sym same);
      goal = ap (λ (x : Entry AgentState). x.goal) (sym same);
      cost = ap (λ (x : Entry AgentState). x.g) (sym same);
      estimate = ap (λ (x : Entry AgentState). x.h) (sym same);
      mark = inr (ap (λ (x : Entry AgentState). x.mark) (sym same));
    }
    from false old is same = record {
      entry = old;
      at = is;
      key = ap (λ (x : Entry AgentState). x.key) (sym same);
      goal = ap (λ (x : Entry AgentState). x.goal) (sym same);
      cost = ap (λ (x : Entry AgentState). x.g) (sym same);
      estimate = ap (λ (x : Entry AgentState). x.h) (sym same);
      mark = inl (ap (λ (x : Entry AgentState). x.mark) (sym same));
    }

    by : (o : Option (Entry AgentState)) → slice_get r.entries n ≡ o → option_map (gives_way same_state key) o ≡ Some e → GaveWay r n e
    by None is none = absurd (none-some e none)
    by (Some old) is some = from (same_state old.key key && is_open old.mark) old is (same_Some (gives_way same_state key old) e some)

-- a record after another one, with what goes out: no entry is expanded, and what is sent goes out
pub record Continues (t : AgentTask) (r : Record AgentState) (out : List Sending) (s : Record AgentState) : Type 0 where
  pub grown : HasGrown r s
  pub expanded : (n : ℕ) (e : Entry AgentState) → slice_get s.entries n ≡ Some e → e.mark ≡ Expanded → WasExpanded r n
  pub still : (n : ℕ) → WasExpanded r n → WasExpanded s n
  pub flags : HaveFlags t r → HaveFlags t s
  pub sent : (k n : ℕ) → slice_get s.sent k ≡ Some n → (slice_get r.sent k ≡ Some n) ⊎ GoesOut t s out k n

module _ (t : AgentTask) where
  pub continues_same : (r : Record AgentState) → Continues t r [] r
  continues_same r = record {
    grown = grown_not r;
    expanded = λ n e at is. record { entry = e; at = at; is = is };
    still = λ n was. was;
    flags = λ flags. flags;
    sent = λ k n is. inl is;
  }

  pub continues_then : (r s u : Record AgentState) (a b : List Sending) → Continues t r a s → Continues t s b u → Continues t r (a ++ b) u
  continues_then r s u a b first second = record {
    grown = grown_then r s u first.grown second.grown;
    expanded = λ n e at is. let was = second.expanded n e at is in first.expanded n was.entry was.at was.is;
    still = λ n was. second.still n (first.still n was);
    flags = λ flags. second.flags (first.flags flags);
    sent = λ k n is. by k n (second.sent k n is);
  }
    where
      earlier : (k n : ℕ) → (slice_get r.sent k ≡ Some n) ⊎ GoesOut t s a k n → (slice_get r.sent k ≡ Some n) ⊎ GoesOut t u (a ++ b) k n
      earlier k n (inl old) = inl old
      earlier k n (inr out) =
          let e = second.grown.entries n out.entry out.at in
          inr (record {
            sending = out.sending;
            there = Contains-append_left a b out.sending out.there;
            number = out.number;
            entry = e.0;
            at = e.1;
            to = out.to ∙ ap (receivers t) (sym e.2.key);
          })

      by : (k n : ℕ) → (slice_get s.sent k ≡ Some n) ⊎ GoesOut t u b k n → (slice_get r.sent k ≡ Some n) ⊎ GoesOut t u (a ++ b) k n
      by k n (inl old) = earlier k n (first.sent k n old)
      by k n (inr out) = inr (record {
        sending = out.sending;
        there = Contains-append_right a b out.sending out.there;
        number = out.number;
        entry = out.entry;
        at = out.at;
        to = out.to;
      })

  -- ---- an entry is kept

  continues_kept : (new : Entry AgentState) (r : Record AgentState) → new.mark ≡ Open → new.goal ≡ is_goal_state t new.key → Continues t r [] (kept same_state new r)
  continues_kept new r open_ flag = record {
    grown = grown_kept new r;
    expanded = λ n e at is. by n e is (pushed_back (map (gives_way same_state new.key) r.entries) new n e at);
    still = λ n was. still_so n was;
    flags = λ flags n e at. flagged flags n e (pushed_back (map (gives_way same_state new.key) r.entries) new n e at);
    sent = λ k n is. inl is;
  }
    where
      still_so : (n : ℕ) → WasExpanded r n → WasExpanded (kept same_state new r) n
      still_so n was =
          let same : gives_way same_state new.key was.entry ≡ was.entry =
          ap (λ (b : Bool). cond b (record was.entry { mark = Replaced }) was.entry)
          (and_right (same_state was.entry.key new.key) (is_open was.entry.mark) (ap is_open was.is))
          in
          let at : slice_get (map (gives_way same_state new.key) r.entries) n ≡ Some was.entry =
          slice_get-map (gives_way same_state new.key) r.entries n ∙ ap (option_map (gives_way same_state new.key)) was.at ∙ ap (λ (x : Entry AgentState). Some x) same
          in
          record { entry = was.entry; at = stays_at (map (gives_way same_state new.key) r.entries) (new ∷ []) n was.entry at; is = was.is }

      old : (n : ℕ) (e : Entry AgentState) → e.mark ≡ Expanded → (g : GaveWay r n e) → (e.mark ≡ g.entry.mark) ⊎ (e.mark ≡ Replaced) → WasExpanded r n
      old n e is g (inl same) = record { entry = g.entry; at = g.at; is = sym same ∙ is }
      old n e is g (inr gone) = absurd (let impossible : ⊥ = cc in impossible)

      by : (n : ℕ) (e : Entry AgentState) → e.mark ≡ Expanded → (slice_get (map (gives_way same_state new.key) r.entries) n ≡ Some e) ⊎ (new ≡ e) → WasExpanded r n
      by n e is (inl at) = let g = gave_way new.key r n e at in old n e is g g.mark
      by n e is (inr same) = absurd (let mark = ap (λ (x : Entry AgentState). x.mark) same in let impossible : ⊥ = cc in impossible)

      flagged : HaveFlags t r → (n : ℕ) (e : Entry AgentState) → (slice_get (map (gives_way same_state new.key) r.entries) n ≡ Some e) ⊎ (new ≡ e) → e.goal ≡ is_goal_state t e.key
      flagged flags n e (inl at) =
          let g = gave_way new.key r n e at in
          g.goal ∙ flags n g.entry g.at ∙ ap (is_goal_state t) (sym g.key)
      flagged flags n e (inr same) = subst (λ (x : Entry AgentState). x.goal ≡ is_goal_state t x.key) same flag

  -- an entry is sent
  continues_sent : (r : Record AgentState) (n : ℕ) (e : Entry AgentState) → slice_get r.entries n ≡ Some e
      → Continues t r (sending t n r e (receivers t e.key) ∷ []) (with_number n r)
  unfolding message_of_entry
  continues_sent r n e at = record {
    grown = grown_sent n r;
    expanded = λ m x there is. record { entry = x; at = there; is = is };
    still = λ m was. record { entry = was.entry; at = was.at; is = was.is };
    flags = λ flags. flags;
    sent = λ k m is. by k m (pushed_place r.sent n k m is);
  }
    where
      x : Sending
      x = sending t n r e (receivers t e.key)

      by : (k m : ℕ) → (slice_get r.sent k ≡ Some m) ⊎ ((length r.sent ≡ k) × (n ≡ m)) → (slice_get r.sent k ≡ Some m) ⊎ GoesOut t (with_number n r) (x ∷ []) k m
      by k m (inl old) = inl old
      by k m (inr new) = inr (record {
        sending = x;
        there = contains_head x [];
        number = new.0;
        entry = e;
        at = ap (slice_get r.entries) (sym new.1) ∙ at;
        to = refl;
      })

  continuing : KeepingCases t (Continues t)
  continuing = record { same = continues_same; after = continues_then; sends = continues_sent }

  keeps_on : (s : AgentState) (g : ℕ) (value : Option ℕ) (origin : Origin) (r : Record AgentState) (new : Entry AgentState)
      → IsKeepable t s g value origin r new → Continues t r [] (kept same_state new r)
  keeps_on s g value origin r new k = continues_kept new r k.mark (k.is.goal ∙ ap (is_goal_state t) (sym k.is.key))

  pub offered_continues : (s : AgentState) (g : ℕ) (origin : Origin) (r : Record AgentState) (value : Option ℕ)
      → Continues t r [] (offered_at t s g value origin r).1
  offered_continues s g origin r value =
      offered_holds t (Continues t) continuing s g value origin r (keeps_on s g value origin r)

  pub due_continues : (act : Act) (s reached : AgentState) (r : Record AgentState)
      → Continues t r (sent_if_due t act s reached r).0 (sent_if_due t act s reached r).1
  due_continues = due_holds t (Continues t) continuing

  pub actions_continue : (value : Numbers → Numbers → Option ℕ) (parent : Parent) (number : ℕ) (acts : List Act) (r : Record AgentState)
      → Continues t r (with_actions t value parent number acts r).0 (with_actions t value parent number acts r).1
  actions_continue value parent number acts r =
      actions_hold t (Continues t) continuing value parent number acts r
      (λ k act at r may.
      keeps_on (successor act parent.state) (parent.g + act.cost) (own_value t value (successor act parent.state)) (Own (number + k) parent.number) r)
