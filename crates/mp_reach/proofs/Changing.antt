-- What is found stays explored: when an entry is kept or closed, when messages are sent, and when one is taken whose state
-- is reached.
use Rattle.std.proofs.Common.{◌≡◌, ℕ, ◌+◌, ◌≤◌, Option, Some, None, refl, sym, ap, ◌∙◌, subst, ◌⊎◌, ⊎_elim, inl, inr, arith}
use Rattle.std.proofs.lemmas.Option.{none-some, same_Some}
use Rattle.std.specs.List.{Contains}
use Rattle.mp_list.proofs.Members.{no_member}
use Rattle.mp_reach.specs.Changes.{IsAlike, GivesWay, IsClosedAt, SameMessages, Starts, Keeps, Closes, Sends, Takes}
use Rattle.mp_reach.specs.Explored.{IsAt, HasEntry, HasMessage, HasLiveEntry, Reaches, IsExplored}
use Rattle.mp_reach.specs.Found.{Entry, Message, Found}
use Rattle.mp_reach.specs.Ways.{Way, IsBound, IsHopeless}

module _ {I S : Type 0} (Step : S → ℕ → S → Type 0) (Goal Root : S → Type 0) (old new : Found I S) where
  -- what has an entry has one where entries stay but for their marks
  entry_stays : ((i : I) (e : Entry S) → IsAt old i e → (later : Entry S) × IsAt new i later × IsAlike e later) → (s : S) (c : ℕ) → HasEntry old s c → HasEntry new s c
  entry_stays stays s c has =
      let d = stays has.index has.entry has.there in
      let same = d.2.cost in
      let within = has.within in
      record { index = has.index; entry = d.0; there = d.1; of = d.2.state ∙ has.of; within = omega arith }

  message_stays : SameMessages old new → (s : S) (c : ℕ) → HasMessage old s c → HasMessage new s c
  message_stays same s c has =
      record { message = has.message; there = subst (λ ms. Contains ms has.message) (sym same.under_way) has.there; of = has.of; within = has.within }

  reached_stays : ((s : S) (c : ℕ) → HasEntry old s c → HasEntry new s c) → ((s : S) (c : ℕ) → HasMessage old s c → Reaches Step Goal new s c) → (s : S) (c : ℕ) → Reaches Step Goal old s c → Reaches Step Goal new s c
  reached_stays entries messages s c reached =
      ⊎_elim (λ has. inl (entries s c has)) (λ other. ⊎_elim (λ has. messages s c has) (λ hopeless. inr (inr hopeless)) other) reached

  bound_alike : (e later : Entry S) → IsAlike e later → IsBound Step Goal e.state e.estimate → IsBound Step Goal later.state later.estimate
  bound_alike e later alike bound cost t way goal =
      let it = bound cost t (subst (λ u. Way Step u cost t) alike.state way) goal in
      let same = alike.estimate in
      omega arith

  -- what an entry's state leads to stays reached
  closed_on : ((s : S) (c : ℕ) → Reaches Step Goal old s c → Reaches Step Goal new s c) → (e later : Entry S) → IsAlike e later
      → ((cost : ℕ) (t : S) → Step e.state cost t → Reaches Step Goal old t (e.cost + cost))
      → (cost : ℕ) (t : S) → Step later.state cost t → Reaches Step Goal new t (later.cost + cost)
  closed_on stays e later alike each cost t step =
      subst (λ c. Reaches Step Goal new t (c + cost)) (sym alike.cost) (stays t (e.cost + cost) (each cost t (subst (λ u. Step u cost t) alike.state step)))

  -- an entry is kept
  module _ (n : Entry S) (keeps : Keeps old new n) where
    kept_reached : (s : S) (c : ℕ) → Reaches Step Goal old s c → Reaches Step Goal new s c
    kept_reached =
        reached_stays (entry_stays (λ i e at. let d = keeps.stays i e at in (d.0, d.1, d.2)))
        (λ s c has. inr (inl (message_stays keeps.messages s c has)))

    live_n : (s : S) (c : ℕ) → n.state ≡ s → n.cost ≤ c → HasLiveEntry new s c
    live_n s c of within = record {
      has = record { index = keeps.index; entry = n; there = keeps.added; of = of; within = within };
      live = λ gone. let open_ = keeps.is_open in cc;
    }

    pub kept_explored : (exempt : Option I) → IsBound Step Goal n.state n.estimate → IsExplored Step Goal Root exempt old → IsExplored Step Goal Root exempt new
    kept_explored exempt bound x = record {
      roots = λ s root. kept_reached s 0 (x.roots s root);
      live = λ i later at. ⊎_elim
          (λ is. live_n later.state later.cost (ap (λ (e : Entry S). e.state) (sym is)) (let same = ap (λ (e : Entry S). e.cost) is in omega arith))
          (λ was. live_old i later was)
          (keeps.only i later at);
      closed = λ i later at is. ⊎_elim
          (λ new_one. let open_ = keeps.is_open in let m = ap (λ (e : Entry S). e.mark) new_one in absurd (cc))
          (λ was. ⊎_elim
          (λ same. ⊎_elim inl (λ each. inr (closed_on kept_reached was.0 later was.2 each)) (x.closed i was.0 was.1 (sym same ∙ is)))
          (λ gone. let m = gone.1 in absurd (cc))
          was.3)
          (keeps.only i later at);
      sent = λ m there. kept_reached m.state m.cost (x.sent m (subst (λ ms. Contains ms m) keeps.messages.sent there));
      entries = λ i later at. ⊎_elim
          (λ is. subst (λ (e : Entry S). IsBound Step Goal e.state e.estimate) (sym is) bound)
          (λ was. bound_alike was.0 later was.2 (x.entries i was.0 was.1))
          (keeps.only i later at);
      messages = λ m there. x.messages m (subst (λ ms. Contains ms m) keeps.messages.under_way there);
    }
      where
        live_old : (i : I) (later : Entry S) → ((e : Entry S) × IsAt old i e × IsAlike e later × GivesWay n.state e later) → HasLiveEntry new later.state later.cost
        live_old i later was =
            let l = x.live i was.0 was.1 in
            let d = keeps.stays l.has.index l.has.entry l.has.there in
            let of : d.0.state ≡ later.state = d.2.state ∙ l.has.of ∙ sym was.2.state in
            let c1 = l.has.within in
            let c2 = was.2.cost in
            let c3 = d.2.cost in
            ⊎_elim
            (λ same. record {
              has = record { index = l.has.index; entry = d.0; there = d.1; of = of; within = omega arith };
              live = λ gone. l.live (sym same ∙ gone);
            })
            (λ gone.
            let cheap = keeps.cheaper l.has.index l.has.entry l.has.there gone.2 in
            live_n later.state later.cost (sym gone.2 ∙ l.has.of ∙ sym was.2.state) (omega arith))
            d.3

  -- an entry is closed, and exempt from then on
  module _ (at : I) (closes : Closes old new at) where
    closes_reached : (s : S) (c : ℕ) → Reaches Step Goal old s c → Reaches Step Goal new s c
    closes_reached =
        reached_stays (entry_stays (λ i e here. let d = closes.stays i e here in (d.0, d.1, d.2)))
        (λ s c has. inr (inl (message_stays closes.messages s c has)))

    pub closes_explored : IsExplored Step Goal Root None old → IsExplored Step Goal Root (Some at) new
    closes_explored x = record {
      roots = λ s root. closes_reached s 0 (x.roots s root);
      live = λ i later here. live_on i later (closes.only i later here);
      closed = λ i later here is.
          let was = closes.only i later here in
          ⊎_elim
          (λ same. ⊎_elim (λ none. absurd (none-some _ none)) (λ each. inr (closed_on closes_reached was.0 later was.2 each)) (x.closed i was.0 was.1 (sym same ∙ is)))
          (λ now. inl (ap Some (sym now.0)))
          was.3;
      sent = λ m there. closes_reached m.state m.cost (x.sent m (subst (λ ms. Contains ms m) closes.messages.sent there));
      entries = λ i later here. let was = closes.only i later here in bound_alike was.0 later was.2 (x.entries i was.0 was.1);
      messages = λ m there. x.messages m (subst (λ ms. Contains ms m) closes.messages.under_way there);
    }
      where
        live_on : (i : I) (later : Entry S) → ((e : Entry S) × IsAt old i e × IsAlike e later × IsClosedAt at i e later) → HasLiveEntry new later.state later.cost
        live_on i later was =
            let l = x.live i was.0 was.1 in
            let d = closes.stays l.has.index l.has.entry l.has.there in
            let c1 = l.has.within in
            let c2 = was.2.cost in
            let c3 = d.2.cost in
            record {
              has = record { index = l.has.index; entry = d.0; there = d.1; of = d.2.state ∙ l.has.of ∙ sym was.2.state; within = omega arith };
              live = λ gone. ⊎_elim (λ same. l.live (sym same ∙ gone)) (λ now. let m = now.1 in cc) d.3;
            }

  abbrev same_entries : ((i : I) → new.entry i ≡ old.entry i) → (s : S) (c : ℕ) → HasEntry old s c → HasEntry new s c
  same_entries same s c has = record { index = has.index; entry = has.entry; there = same has.index ∙ has.there; of = has.of; within = has.within }

  same_live : ((i : I) → new.entry i ≡ old.entry i) → (s : S) (c : ℕ) → HasLiveEntry old s c → HasLiveEntry new s c
  same_live same s c l = record { has = same_entries same s c l.has; live = l.live }

  -- messages are sent
  pub sends_explored : (exempt : Option I) → Sends old new → ((m : Message S) → Contains new.under_way m → Contains old.under_way m ⊎ IsBound Step Goal m.state m.estimate) → IsExplored Step Goal Root exempt old → IsExplored Step Goal Root exempt new
  sends_explored exempt sends bounds x = record {
    roots = λ s root. stays s 0 (x.roots s root);
    live = λ i e here. same_live sends.entries e.state e.cost (x.live i e (sym (sends.entries i) ∙ here));
    closed = λ i e here is. ⊎_elim inl (λ each. inr (λ cost t step. stays t (e.cost + cost) (each cost t step))) (x.closed i e (sym (sends.entries i) ∙ here) is);
    sent = λ m there. ⊎_elim (λ before. stays m.state m.cost (x.sent m before)) (λ now. inr (inl (record { message = m; there = now; of = refl; within = omega arith }))) (sends.sent m there);
    entries = λ i e here. x.entries i e (sym (sends.entries i) ∙ here);
    messages = λ m there. ⊎_elim (λ before. x.messages m before) (λ bound. bound) (bounds m there);
  }
    where
      stays : (s : S) (c : ℕ) → Reaches Step Goal old s c → Reaches Step Goal new s c
      stays = reached_stays (same_entries sends.entries) (λ s c has. inr (inl (record { message = has.message; there = sends.stay has.message has.there; of = has.of; within = has.within })))

  -- a message is taken, whose state has an entry at that cost or less, or leads to no goal
  pub takes_explored : (taken : Message S) → Takes old new taken → HasEntry old taken.state taken.cost ⊎ IsHopeless Step Goal taken.state → IsExplored Step Goal Root None old → IsExplored Step Goal Root None new
  takes_explored taken takes known x = record {
    roots = λ s root. stays s 0 (x.roots s root);
    live = λ i e here. same_live takes.entries e.state e.cost (x.live i e (sym (takes.entries i) ∙ here));
    closed = λ i e here is. ⊎_elim inl (λ each. inr (λ cost t step. stays t (e.cost + cost) (each cost t step))) (x.closed i e (sym (takes.entries i) ∙ here) is);
    sent = λ m there. stays m.state m.cost (x.sent m (subst (λ ms. Contains ms m) takes.sent there));
    entries = λ i e here. x.entries i e (sym (takes.entries i) ∙ here);
    messages = λ m there. x.messages m (takes.only m there);
  }
    where
      instead : (s : S) (c : ℕ) → taken.state ≡ s → taken.cost ≤ c → Reaches Step Goal new s c
      instead s c of within = ⊎_elim
          (λ (has : HasEntry old taken.state taken.cost). let w = has.within in inl (same_entries takes.entries s c (record { index = has.index; entry = has.entry; there = has.there; of = has.of ∙ of; within = omega arith })))
          (λ hopeless. inr (inr (subst (IsHopeless Step Goal) of hopeless)))
          known

      by_message : (s : S) (c : ℕ) → HasMessage old s c → Reaches Step Goal new s c
      by_message s c has = ⊎_elim
          (λ is. let same = ap (λ (m : Message S). m.cost) is in let w = has.within in instead s c (ap (λ (m : Message S). m.state) (sym is) ∙ has.of) (omega arith))
          (λ there. inr (inl (record { message = has.message; there = there; of = has.of; within = has.within })))
          (takes.others has.message has.there)

      stays : (s : S) (c : ℕ) → Reaches Step Goal old s c → Reaches Step Goal new s c
      stays = reached_stays (same_entries takes.entries) by_message

-- what is reached at a cost is reached at a greater one
pub reached_at_more : {I S : Type 0} (Step : S → ℕ → S → Type 0) (Goal : S → Type 0) (found : Found I S) (s : S) (c d : ℕ) → c ≤ d → Reaches Step Goal found s c → Reaches Step Goal found s d
reached_at_more Step Goal found s c d le reached = ⊎_elim
    (λ (has : HasEntry found s c). let w = has.within in inl (record { index = has.index; entry = has.entry; there = has.there; of = has.of; within = omega arith }))
    (λ other. ⊎_elim
    (λ (has : HasMessage found s c). let w = has.within in inr (inl (record { message = has.message; there = has.there; of = has.of; within = omega arith })))
    (λ hopeless. inr (inr hopeless))
    other)
    reached

-- when all that the exempt entry's state leads to is reached, none is exempt any more
pub offered_explored : {I S : Type 0} (Step : S → ℕ → S → Type 0) (Goal Root : S → Type 0) (found : Found I S) (at : I) → ((e : Entry S) → IsAt found at e → (cost : ℕ) (t : S) → Step e.state cost t → Reaches Step Goal found t (e.cost + cost)) → IsExplored Step Goal Root (Some at) found → IsExplored Step Goal Root None found
offered_explored Step Goal Root found at offered x = record {
  roots = x.roots;
  live = x.live;
  closed = λ i e here is. ⊎_elim (λ same. inr (offered e (ap found.entry (same_Some at i same) ∙ here))) inr (x.closed i e here is);
  sent = x.sent;
  entries = x.entries;
  messages = x.messages;
}

-- at the start there are open entries alone
pub started_explored : {I S : Type 0} (Step : S → ℕ → S → Type 0) (Goal Root : S → Type 0) (found : Found I S) → Starts found → ((s : S) → Root s → HasEntry found s 0 ⊎ IsHopeless Step Goal s) → ((i : I) (e : Entry S) → IsAt found i e → IsBound Step Goal e.state e.estimate) → IsExplored Step Goal Root None found
started_explored Step Goal Root found starts roots bounds = record {
  roots = λ s root. ⊎_elim inl (λ hopeless. inr (inr hopeless)) (roots s root);
  live = λ i e here. record {
    has = record { index = i; entry = e; there = here; of = refl; within = omega arith };
    live = λ gone. let m = starts.all_open i e here in cc;
  };
  closed = λ i e here is. let m = starts.all_open i e here in absurd (cc);
  sent = λ m there. absurd (no_member m (subst (λ ms. Contains ms m) starts.sent there));
  entries = bounds;
  messages = λ m there. absurd (no_member m (subst (λ ms. Contains ms m) starts.under_way there));
}
