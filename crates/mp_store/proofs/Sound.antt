-- What holds of each record goes on to hold: when an entry is closed, kept or sent.
use Rattle.std.proofs.Common.{◌≡◌, ℕ, ◌+◌, ◌<◌, ◌^◌, Bool, true, false, cond, ◌&&◌, List, [], ◌∷◌, ◌++◌, length, map, get_or, Option, Some, None, All, refl, sym, ap, subst, ◌∙◌, arith, inl, inr}
use Rattle.std.specs.Prelude.{◌⊎◌, slice_get, slice_set, nat_le}
use Rattle.std.specs.List.{list_any}
use Rattle.std.specs.Option.{option_map_or}
use Rattle.std.proofs.lemmas.List as within
use Rattle.std.proofs.lemmas.Bool.{and_parts, cases_lt, cases_eq, false≢true, leb-false, false_from_ne_true}
use Rattle.std.proofs.lemmas.List.{length-map, length_push, length-set, get_or_append_left, get_or_push, get_or_past, get_or-set_same, get_or-set_other}
use Rattle.std.proofs.lemmas.List.Elements.{All-push}
use Rattle.std.proofs.lemmas.List.Folds.{list_any_at}
use Rattle.std.proofs.lemmas.Option.{slice_get_within}
use Rattle.mp_store.specs.declared.entry.Entry.{Entry}
use Rattle.mp_store.specs.declared.entry.Mark.TheVariants.{Open, Expanded, Replaced}
use Rattle.mp_store.specs.Laws.{GaveWayToLater, HasFallingCosts, HasLastOpen, IsEarlier, IsSound}
use Rattle.mp_store.specs.declared.entry.Offer.{Offer}
use Rattle.mp_store.specs.declared.entry.Offer.TheVariants.{Kept, Worse}
use Rattle.mp_store.specs.Minima.{closed, least_open, popped}
use Rattle.mp_store.specs.Record.{Record, empty, f, gives_way, is_known, is_open, kept, offered}
use Rattle.mp_store.specs.Sent.{mark_sent, sent_if_new, was_sent}
use Rattle.mp_store.proofs.Marks.{SameButMarks, all_through, closing_marks, earlier_through, falling_through, giving_way_marks, same_at, same_length, turned, unmarked}

-- what a test finds nowhere, it does not find at a place
pub none_at : {X : Type 0} (p : X → Bool) (xs : List X) (i : ℕ) (d : X) → list_any p xs ≡ false → i < length xs → p (get_or xs i d) ≡ false
none_at p xs i d none inside = false_from_ne_true (p (get_or xs i d)) (λ found. false≢true (sym none ∙ list_any_at p xs i d inside found))

-- an offer and a sending, by the test that decides
abbrev pub offer_if : {K : Type 0} → (K → K → Bool) → Bool → Entry K → Record K → Offer × Record K
offer_if same b e r = cond b (Worse, r) (Kept (length r.entries), kept same e r)

abbrev pub sent_if : {K : Type 0} → Bool → ℕ → Record K → Option ℕ × Record K
sent_if b n r = cond b (None, r) (Some (length r.sent), record { entries = r.entries; sent = r.sent ++ n ∷ [] })

module _ {K : Type 0} (same : K → K → Bool) where
  -- a sound record, but for what gave way
  record IsSoundSoFar (r : Record K) : Type 0 where
    falling : HasFallingCosts same r
    last_open : HasLastOpen same r
    bounded : All (λ e. f e < 2 ^ 60) r.entries
    sent : All (λ n. n < length r.entries) r.sent
    earlier : (n : ℕ) (d : Entry K) → n < length r.entries → IsEarlier n (get_or r.entries n d).origin

  so_far : (r : Record K) → IsSound same r → IsSoundSoFar r
  so_far r sound =
      record { falling = sound.falling; last_open = sound.last_open; bounded = sound.bounded; sent = sound.sent; earlier = sound.earlier }

  whole : (r : Record K) → IsSoundSoFar r → GaveWayToLater same r → IsSound same r
  whole r sound gave_way =
      record {
        falling = sound.falling;
        last_open = sound.last_open;
        gave_way = gave_way;
        bounded = sound.bounded;
        sent = sound.sent;
        earlier = sound.earlier;
      }

  pub empty_sound : IsSound same empty
  empty_sound = record {
    falling = λ i j d before inside. absurd (omega arith);
    last_open = λ i j d before inside. absurd (omega arith);
    gave_way = λ i d inside. absurd (omega arith);
    bounded = λ k d h. absurd (omega arith);
    sent = λ k d h. absurd (omega arith);
    earlier = λ n d h. absurd (omega arith);
  }

  -- other marks, of which none is new
  marks_sound : (r s : Record K) → SameButMarks r.entries s.entries → s.sent ≡ r.sent
      → ((i : ℕ) (d : Entry K) → is_open (get_or r.entries i d).mark ≡ false → is_open (get_or s.entries i d).mark ≡ false)
      → IsSoundSoFar r → IsSoundSoFar s
  marks_sound r s alike sent shut sound =
      let len : length s.entries ≡ length r.entries = same_length r.entries s.entries alike in
      record {
        falling = falling_through same r s alike sound.falling;
        last_open = λ i j d before inside is.
            let at : (k : ℕ) → unmarked (get_or r.entries k d) ≡ unmarked (get_or s.entries k d) = λ k. same_at r.entries s.entries alike k d in
            shut i d (sound.last_open i j d before (omega arith) ((λ t. same (at i t).key (at j t).key) ∙ is));
        bounded = all_through (λ e. f e < 2 ^ 60) (λ e h. h) (λ e h. h) r.entries s.entries alike sound.bounded;
        sent = subst (λ ns. All (λ n. n < length s.entries) ns) (sym sent) (λ k d h. subst (λ m. get_or r.sent k d < m) (sym len) (sound.sent k d h));
        earlier = earlier_through r.entries s.entries alike sound.earlier;
      }

  shut_by_closing : (es : List (Entry K)) (n : ℕ) (e : Entry K) (i : ℕ) (d : Entry K) → n < length es → is_open (get_or es i d).mark ≡ false → is_open (get_or (slice_set es n (record e { mark = Expanded })) i d).mark ≡ false
  shut_by_closing es n e i d inside shut =
      elim (cases_eq i n) [
        | inl is ↦ ap (λ (x : Entry K). is_open x.mark) (ap (λ k. get_or (slice_set es n (record e { mark = Expanded })) k d) is ∙ get_or-set_same es n (record e { mark = Expanded }) d inside)
        | inr other ↦ ap (λ (x : Entry K). is_open x.mark) (get_or-set_other es n i (record e { mark = Expanded }) d other) ∙ shut
      ]

  gave_way_by_closing : (r : Record K) (n : ℕ) (e : Entry K) → slice_get r.entries n ≡ Some e → GaveWayToLater same r → GaveWayToLater same (record { entries = slice_set r.entries n (record e { mark = Expanded }); sent = r.sent })
  gave_way_by_closing r n e at gave_way i d inside replaced =
      let es = r.entries in
      let shut : Entry K = record e { mark = Expanded } in
      let len : length (slice_set es n shut) ≡ length es = length-set es n shut in
      let old : (get_or es i d).mark ≡ Replaced =
      elim (cases_eq i n) [
        | inl here ↦
            let mark : Expanded ≡ Replaced = ap (λ (x : Entry K). x.mark) (sym (ap (λ k. get_or (slice_set es n shut) k d) here ∙ get_or-set_same es n shut d (slice_get_within es n e at))) ∙ replaced in
            absurd (let impossible : ⊥ = cc in impossible)
        | inr other ↦ ap (λ (x : Entry K). x.mark) (sym (get_or-set_other es n i shut d other)) ∙ replaced
      ] in
      let later = gave_way i d (omega arith) old in
      (later.0, later.1, (let h = later.2 in omega arith), same_there i later.0 d later.3)
    where
      same_there : (i j : ℕ) (d : Entry K) → same (get_or r.entries i d).key (get_or r.entries j d).key ≡ true
          → same (get_or (slice_set r.entries n (record e { mark = Expanded })) i d).key (get_or (slice_set r.entries n (record e { mark = Expanded })) j d).key ≡ true
      same_there i j d is =
          let alike = turned r.entries (slice_set r.entries n (record e { mark = Expanded })) (closing_marks r.entries n e at) in
          let key : (k : ℕ) → (get_or (slice_set r.entries n (record e { mark = Expanded })) k d).key ≡ (get_or r.entries k d).key =
          λ k. ap (λ (x : Entry K). x.key) (same_at (slice_set r.entries n (record e { mark = Expanded })) r.entries alike k d) in
          subst (λ k. same k (get_or (slice_set r.entries n (record e { mark = Expanded })) j d).key ≡ true) (sym (key i))
          (subst (λ k. same (get_or r.entries i d).key k ≡ true) (sym (key j)) is)

  pub closed_sound : (n : ℕ) (r : Record K) → IsSound same r → IsSound same (closed n r)
  closed_sound n r sound = by (slice_get r.entries n) refl
    where
      by : (o : Option (Entry K)) → slice_get r.entries n ≡ o
          → IsSound same (option_map_or (λ e. record r { entries = slice_set r.entries n (record e { mark = Expanded }) }) o r)
      by None is = sound
      by (Some e) is =
          let closed_record : Record K = record { entries = slice_set r.entries n (record e { mark = Expanded }); sent = r.sent } in
          whole closed_record
          (marks_sound r closed_record (closing_marks r.entries n e is) refl
          (λ i d shut. shut_by_closing r.entries n e i d (slice_get_within r.entries n e is) shut) (so_far r sound))
          (gave_way_by_closing r n e is sound.gave_way)

  pub sent_sound : (n : ℕ) (r : Record K) → n < length r.entries → IsSound same r → IsSound same (record r { sent = r.sent ++ n ∷ [] })
  sent_sound n r inside sound = record {
    falling = sound.falling;
    last_open = sound.last_open;
    gave_way = sound.gave_way;
    bounded = sound.bounded;
    sent = All-push (λ m. m < length r.entries) r.sent n sound.sent inside;
    earlier = sound.earlier;
  }

  -- ---- one entry more

  still_shut : (key : K) (e : Entry K) → is_open e.mark ≡ false → is_open (gives_way same key e).mark ≡ false
  still_shut key e shut = by (same e.key key && is_open e.mark)
    where
      by : (b : Bool) → is_open (cond b (record e { mark = Replaced }) e).mark ≡ false
      by true = refl
      by false = shut

  shut_for : (key : K) (e : Entry K) → same e.key key ≡ true → is_open (gives_way same key e).mark ≡ false
  shut_for key e is = ap (λ b. is_open (cond (b && is_open e.mark) (record e { mark = Replaced }) e).mark) is ∙ by (is_open e.mark) refl
    where
      by : (b : Bool) → is_open e.mark ≡ b → is_open (cond b (record e { mark = Replaced }) e).mark ≡ false
      by true waiting = refl
      by false shut = shut

  gives_way_sound : (key : K) (r : Record K) → IsSoundSoFar r → IsSoundSoFar (record r { entries = map (gives_way same key) r.entries })
  gives_way_sound key r sound =
      marks_sound r (record r { entries = map (gives_way same key) r.entries }) (giving_way_marks same key r.entries) refl
      (λ i d shut. by i d shut) sound
    where
      by : (i : ℕ) (d : Entry K) → is_open (get_or r.entries i d).mark ≡ false → is_open (get_or (map (gives_way same key) r.entries) i d).mark ≡ false
      by i d shut =
          elim (cases_lt i (length r.entries)) [
            | inl inside ↦ ap (λ (x : Entry K). is_open x.mark) (within.get_or-map (gives_way same key) r.entries i d d inside) ∙ still_shut key (get_or r.entries i d) shut
            | inr past ↦
                let len = length-map r.entries (gives_way same key) in
                ap (λ (x : Entry K). is_open x.mark) (get_or_past (map (gives_way same key) r.entries) i d (omega arith) ∙ sym (get_or_past r.entries i d past)) ∙ shut
          ]

  -- an entry that is cheaper than all of its key, at the end
  pushed_sound : (e : Entry K) (r : Record K) → IsSoundSoFar r
      → ((i : ℕ) (d : Entry K) → i < length r.entries → same (get_or r.entries i d).key e.key ≡ true → (e.g < (get_or r.entries i d).g) × (is_open (get_or r.entries i d).mark ≡ false))
      → f e < 2 ^ 60 → IsEarlier (length r.entries) e.origin → IsSoundSoFar (record r { entries = r.entries ++ e ∷ [] })
  pushed_sound e r sound cheaper bounded earlier =
      let es = r.entries in
      let len : length (es ++ e ∷ []) ≡ length es + 1 = length_push es e in
      let old : (k : ℕ) (d : Entry K) → k < length es → get_or (es ++ e ∷ []) k d ≡ get_or es k d = λ k d h. get_or_append_left es (e ∷ []) d k h in
      let last : (k : ℕ) (d : Entry K) → k ≡ length es → get_or (es ++ e ∷ []) k d ≡ e = λ k d is. get_or_push es e d k (sym is) in
      record {
        falling = λ i j d before inside is.
            elim (cases_lt j (length es)) [
              | inl j_old ↦
                  let p = old i d (omega arith) in
                  let q = old j d j_old in
                  let fell = sound.falling i j d before j_old ((λ t. same (sym p t).key (sym q t).key) ∙ is) in
                  subst (λ (x : Entry K). x.g < (get_or (es ++ e ∷ []) i d).g) (sym q) (subst (λ (x : Entry K). (get_or es j d).g < x.g) (sym p) fell)
              | inr j_new ↦
                  let p = old i d (omega arith) in
                  let q = last j d (omega arith) in
                  let fell = (cheaper i d (omega arith) ((λ t. same (sym p t).key (sym q t).key) ∙ is)).0 in
                  subst (λ (x : Entry K). x.g < (get_or (es ++ e ∷ []) i d).g) (sym q) (subst (λ (x : Entry K). e.g < x.g) (sym p) fell)
            ];
        last_open = λ i j d before inside is.
            elim (cases_lt j (length es)) [
              | inl j_old ↦
                  let p = old i d (omega arith) in
                  let q = old j d j_old in
                  ap (λ (x : Entry K). is_open x.mark) p ∙ sound.last_open i j d before j_old ((λ t. same (sym p t).key (sym q t).key) ∙ is)
              | inr j_new ↦
                  let p = old i d (omega arith) in
                  let q = last j d (omega arith) in
                  ap (λ (x : Entry K). is_open x.mark) p ∙ (cheaper i d (omega arith) ((λ t. same (sym p t).key (sym q t).key) ∙ is)).1
            ];
        bounded = All-push (λ x. f x < 2 ^ 60) es e sound.bounded bounded;
        sent = λ k d h. let below = sound.sent k d h in omega arith;
        earlier = λ n d inside.
            elim (cases_lt n (length es)) [
              | inl n_old ↦ subst (λ (x : Entry K). IsEarlier n x.origin) (sym (old n d n_old)) (sound.earlier n d n_old)
              | inr n_new ↦ subst (λ (x : Entry K). IsEarlier n x.origin) (sym (last n d (omega arith))) (subst (λ m. IsEarlier m e.origin) (let is : length es ≡ n = omega arith in is) earlier)
            ];
      }

  pub kept_sound : (e : Entry K) (r : Record K) → IsSound same r → is_known same e.key e.g r.entries ≡ false → e.mark ≡ Open
      → f e < 2 ^ 60 → IsEarlier (length r.entries) e.origin → IsSound same (kept same e r)
  kept_sound e r sound new is_waiting bounded earlier =
      let es = r.entries in
      let waiting = record r { entries = map (gives_way same e.key) es } in
      let len : length waiting.entries ≡ length es = length-map es (gives_way same e.key) in
      whole (kept same e r)
      (pushed_sound e waiting (gives_way_sound e.key r (so_far r sound))
      (λ i d inside is. cheaper i d (omega arith) (within.get_or-map (gives_way same e.key) es i d d (omega arith)) is)
      bounded (subst (λ n. IsEarlier n e.origin) (sym len) earlier))
      gave_way
    where
      key_kept : (x : Entry K) → (gives_way same e.key x).key ≡ x.key
      key_kept x = by (same x.key e.key && is_open x.mark)
        where
          by : (b : Bool) → (cond b (record x { mark = Replaced }) x).key ≡ x.key
          by true = refl
          by false = refl

      cost_kept : (x : Entry K) → (gives_way same e.key x).g ≡ x.g
      cost_kept x = by (same x.key e.key && is_open x.mark)
        where
          by : (b : Bool) → (cond b (record x { mark = Replaced }) x).g ≡ x.g
          by true = refl
          by false = refl

      cheaper : (i : ℕ) (d : Entry K) → i < length r.entries → get_or (map (gives_way same e.key) r.entries) i d ≡ gives_way same e.key (get_or r.entries i d)
          → same (get_or (map (gives_way same e.key) r.entries) i d).key e.key ≡ true
          → (e.g < (get_or (map (gives_way same e.key) r.entries) i d).g) × (is_open (get_or (map (gives_way same e.key) r.entries) i d).mark ≡ false)
      cheaper i d inside at is =
          let x = get_or r.entries i d in
          let has : same x.key e.key ≡ true = ap (λ k. same k e.key) (sym (key_kept x) ∙ ap (λ (y : Entry K). y.key) (sym at)) ∙ is in
          let costs : nat_le x.g e.g ≡ false = ap (λ b. b && nat_le x.g e.g) (sym has) ∙ none_at (λ y. same y.key e.key && nat_le y.g e.g) r.entries i d new inside in
          let less : e.g < x.g = leb-false x.g e.g costs in (
            subst (λ (y : Entry K). e.g < y.g) (sym at) (subst (λ n. e.g < n) (sym (cost_kept x)) less),
            ap (λ (y : Entry K). is_open y.mark) at ∙ shut_for e.key x has,
          )

      -- whether the entry at a place gives way now, or gave way before
      gave_way_at : (x : Entry K) (b : Bool) → (same x.key e.key && is_open x.mark) ≡ b → (cond b (record x { mark = Replaced }) x).mark ≡ Replaced → (same x.key e.key ≡ true) ⊎ (x.mark ≡ Replaced)
      gave_way_at x true is replaced = inl (and_parts (same x.key e.key) (is_open x.mark) is).0
      gave_way_at x false is replaced = inr replaced

      gave_way : GaveWayToLater same (kept same e r)
      gave_way i d inside replaced =
          let es = r.entries in
          let given = map (gives_way same e.key) es in
          let len : length given ≡ length es = length-map es (gives_way same e.key) in
          let all : length (given ++ e ∷ []) ≡ length given + 1 = length_push given e in
          let old : (k : ℕ) → k < length es → get_or (given ++ e ∷ []) k d ≡ gives_way same e.key (get_or es k d) =
          λ k h. get_or_append_left given (e ∷ []) d k (omega arith) ∙ within.get_or-map (gives_way same e.key) es k d d h in
          let key : (k : ℕ) → k < length es → (get_or (given ++ e ∷ []) k d).key ≡ (get_or es k d).key = λ k h. ap (λ (x : Entry K). x.key) (old k h) ∙ key_kept (get_or es k d) in
          let last : get_or (given ++ e ∷ []) (length es) d ≡ e = get_or_push given e d (length es) len in
          elim (cases_lt i (length es)) [
            | inr behind ↦
                let is : get_or (given ++ e ∷ []) i d ≡ e = get_or_push given e d i (omega arith) in
                let mark : Open ≡ Replaced = sym (ap (λ (x : Entry K). x.mark) is ∙ is_waiting) ∙ replaced in
                absurd (let impossible : ⊥ = cc in impossible)
            | inl before ↦
                elim (gave_way_at (get_or es i d) (same (get_or es i d).key e.key && is_open (get_or es i d).mark) refl (ap (λ (x : Entry K). x.mark) (sym (old i before)) ∙ replaced)) [
                  | inl now ↦ (length es, before, (omega arith), (λ t. same (key i before t) (last t).key) ∙ now)
                  | inr earlier ↦
                      let later = sound.gave_way i d before earlier in
                      let within_old = later.2 in
                      (later.0, later.1, (omega arith), (λ t. same (key i before t) (key later.0 within_old t)) ∙ later.3)
                ]
          ]

  -- ---- after each call

  pub offered_sound : (e : Entry K) (r : Record K) → IsSound same r → e.mark ≡ Open → f e < 2 ^ 60 → IsEarlier (length r.entries) e.origin → IsSound same (offered same e r).1
  offered_sound e r sound waiting bounded earlier = by (is_known same e.key e.g r.entries) refl
    where
      by : (b : Bool) → is_known same e.key e.g r.entries ≡ b → IsSound same (offer_if same b e r).1
      by true is = sound
      by false is = kept_sound e r sound is waiting bounded earlier

  pub popped_sound : (r : Record K) → IsSound same r → IsSound same (popped r).1
  popped_sound r sound = by (least_open r)
    where
      by : (o : Option ℕ) → IsSound same (option_map_or (λ n. closed n r) o r)
      by None = sound
      by (Some n) = closed_sound n r sound

  pub marked_sound : (n : ℕ) (r : Record K) → IsSound same r → IsSound same (mark_sent same n r).1
  marked_sound n r sound = by (slice_get r.entries n) refl
    where
      chosen : (b : Bool) → n < length r.entries → IsSound same (sent_if b n r).1
      chosen true inside = sound
      chosen false inside = sent_sound n r inside sound

      by : (o : Option (Entry K)) → slice_get r.entries n ≡ o → IsSound same (option_map_or (λ e. sent_if_new same n e r) o (None, r)).1
      by None is = sound
      by (Some e) is = chosen (was_sent same e.key e.g r) (slice_get_within r.entries n e is)
