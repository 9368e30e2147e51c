-- The rules on a record are those on the record of the keys that its keys stand for.
use Rattle.std.proofs.Common.{◌≡◌, ℕ, ◌<◌, ◌^◌, Bool, true, false, cond, ◌&&◌, eqb, List, [], ◌∷◌, ◌++◌, length, map, get_or, Option, Some, None, All, refl, sym, ap, subst, ◌∙◌, arith}
use Rattle.std.specs.Prelude.{slice_get, slice_set, option_map, filter_map, nat_le}
use Rattle.std.specs.List.{list_any, cons_option}
use Rattle.std.specs.Option.{option_map_or}
use Rattle.std.proofs.lemmas.List.{length-map, map-append, map-set, get_or-map}
use Rattle.std.proofs.lemmas.List.Elements.{All-cons, All-map}
use Rattle.std.proofs.lemmas.Option.{slice_get-map, slice_get_within, get_or_from_slice_get}
use Rattle.mp_list.specs.First.{leftmost}
use Rattle.mp_store.specs.declared.entry.Entry.{Entry}
use Rattle.mp_store.specs.declared.entry.Mark.TheVariants.{Replaced, Expanded}
use Rattle.mp_store.specs.declared.entry.Offer.{Offer}
use Rattle.mp_store.specs.declared.entry.Offer.TheVariants.{Kept, Worse}
use Rattle.mp_store.specs.Laws.{IsEarlier, IsSound}
use Rattle.mp_store.specs.Minima.{Numbered, is_nearer, is_cheaper, first_open, least_open, least_f, closed, popped, least_goal, best, those}
use Rattle.mp_store.specs.Named.{named, named_entry}
use Rattle.mp_store.specs.NumberFields.{nothing}
use Rattle.mp_store.specs.Record.{Record, f, is_known, is_open, gives_way, kept, offered}
use Rattle.mp_store.specs.Sent.{sent_entries, sent_if_new, mark_sent, was_sent}
use Rattle.mp_store.proofs.Sound.{offer_if, sent_if}
use Rattle.mp_store.proofs.Mapped.{leftmost-map, any-map, map-agree, map-map, sent-map, those-map, renumbered}

-- every entry passes
abbrev always : {A : Type 0} → Entry A → Type 0
always e = Unit {0}

all_always : {A : Type 0} (es : List (Entry A)) → All always es
all_always es = λ k d h. tt

-- ---- what does not look at keys

abbrev shown : {K : Type 0} → Numbered K → ℕ × ℕ
shown x = (x.1.g, x.0)

number_kept : {A B : Type 0} (φ : Entry A → Entry B) (o : Option (Numbered A)) → option_map (λ x. x.0) (option_map (renumbered φ) o) ≡ option_map (λ x. x.0) o
number_kept φ None = refl
number_kept φ (Some x) = refl

module _ {A K : Type 0} (name : A → K) where
  first_open-named : (es : List (Entry A)) → first_open (map (named_entry name) es) ≡ option_map (renumbered (named_entry name)) (first_open es)
  first_open-named es =
      ap (leftmost is_nearer None) (those-map (named_entry name) always (λ e. is_open e.mark) (λ e. is_open e.mark) (λ e h. refl) es (all_always es))
      ∙ leftmost-map (renumbered (named_entry name)) is_nearer is_nearer (λ a b. refl) None (those (λ e. is_open e.mark) es)

  pub least_open-named : (r : Record A) → least_open (named name r) ≡ least_open r
  least_open-named r = ap (option_map (λ x. x.0)) (first_open-named r.entries) ∙ number_kept (named_entry name) (first_open r.entries)

  pub least_f-named : (r : Record A) → least_f (named name r) ≡ least_f r
  least_f-named r = ap (option_map (λ x. f x.1)) (first_open-named r.entries) ∙ by (first_open r.entries)
    where
      by : (o : Option (Numbered A)) → option_map (λ x. f x.1) (option_map (renumbered (named_entry name)) o) ≡ option_map (λ x. f x.1) o
      by None = refl
      by (Some x) = refl

  pub least_goal-named : (r : Record A) → least_goal (named name r) ≡ least_goal r
  least_goal-named r =
      ap (λ xs. option_map shown (leftmost is_cheaper None xs))
      (those-map (named_entry name) always (λ e. e.goal) (λ e. e.goal) (λ e h. refl) r.entries (all_always r.entries))
      ∙ ap (option_map shown) (leftmost-map (renumbered (named_entry name)) is_cheaper is_cheaper (λ a b. refl) None (those (λ e. e.goal) r.entries))
      ∙ by (leftmost is_cheaper None (those (λ e. e.goal) r.entries))
    where
      by : (o : Option (Numbered A)) → option_map shown (option_map (renumbered (named_entry name)) o) ≡ option_map shown o
      by None = refl
      by (Some x) = refl

  pub closed-named : (n : ℕ) (r : Record A) → closed n (named name r) ≡ named name (closed n r)
  closed-named n r =
      ap (λ o. option_map_or (λ e. record { entries = slice_set (map (named_entry name) r.entries) n (record e { mark = Expanded }); sent = r.sent }) o (named name r))
      (slice_get-map (named_entry name) r.entries n)
      ∙ by (slice_get r.entries n)
    where
      by : (o : Option (Entry A))
          → option_map_or (λ e. record { entries = slice_set (map (named_entry name) r.entries) n (record e { mark = Expanded }); sent = r.sent }) (option_map (named_entry name) o) (named name r)
          ≡ named name (option_map_or (λ e. record { entries = slice_set r.entries n (record e { mark = Expanded }); sent = r.sent }) o r)
      by None = refl
      by (Some e) = λ j. record { entries = sym (map-set (named_entry name) r.entries n (record e { mark = Expanded })) j; sent = r.sent }

  pub popped-named : (r : Record A) → popped (named name r) ≡ ((popped r).0, named name (popped r).1)
  popped-named r =
      (λ j. (least_open-named r j, option_map_or (λ n. closed-named n r j) (least_open-named r j) (named name r)))
      ∙ by (least_open r)
    where
      by : (o : Option ℕ) → ◌≡◌ {A = Option ℕ × Record K} (o, option_map_or (λ n. named name (closed n r)) o (named name r)) (o, named name (option_map_or (λ n. closed n r) o r))
      by None = refl
      by (Some n) = refl

-- a sending, of the entry of a number
abbrev sent_at : {A : Type 0} → (A → A → Bool) → ℕ → Option (Entry A) → Record A → Option ℕ × Record A
sent_at same n o r = option_map_or (λ e. sent_if_new same n e r) o (None, r)

-- ---- keys that are told apart as their numbers are

-- the entries of some numbers are entries
pub all_sent : {A : Type 0} (R : A → Type 0) (xs : List A) → All R xs → (ns : List ℕ) → All R (filter_map (slice_get xs) ns)
all_sent R xs all [] = λ k d h. absurd (omega arith)
all_sent {A} R xs all (n ∷ ns) = by (slice_get xs n) refl (all_sent R xs all ns)
  where
    by : (o : Option A) → slice_get xs n ≡ o → All R (filter_map (slice_get xs) ns) → All R (cons_option o (filter_map (slice_get xs) ns))
    by None e rest = rest
    by (Some x) e rest =
        All-cons R x (filter_map (slice_get xs) ns)
        (subst R (get_or_from_slice_get xs n x x e) (all n x (slice_get_within xs n x e))) rest

module _ {A K : Type 0} (name : A → K) (alike : A → A → Bool) (same : K → K → Bool) (IsNamed : A → Type 0) (apart : (a b : A) → IsNamed a → IsNamed b → same (name a) (name b) ≡ alike a b) where
  abbrev IsKeyed : Entry A → Type 0
  IsKeyed e = IsNamed e.key

  pub is_known-named : (k : A) (g : ℕ) → IsNamed k → (es : List (Entry A)) → All IsKeyed es → is_known same (name k) g (map (named_entry name) es) ≡ is_known alike k g es
  is_known-named k g inside es keyed =
      any-map (named_entry name) IsKeyed (λ e. alike e.key k && nat_le e.g g) (λ e. same e.key (name k) && nat_le e.g g)
      (λ e h. ap (λ b. b && nat_le e.g g) (apart e.key k h inside)) es keyed

  gives_way-named : (k : A) → IsNamed k → (e : Entry A) → IsKeyed e → gives_way same (name k) (named_entry name e) ≡ named_entry name (gives_way alike k e)
  gives_way-named k inside e h =
      ap (λ b. cond (b && is_open e.mark) (record (named_entry name e) { mark = Replaced }) (named_entry name e)) (apart e.key k h inside)
      ∙ by (alike e.key k && is_open e.mark)
    where
      by : (b : Bool) → cond b (record (named_entry name e) { mark = Replaced }) (named_entry name e) ≡ named_entry name (cond b (record e { mark = Replaced }) e)
      by true = refl
      by false = refl

  pub kept-named : (e : Entry A) → IsKeyed e → (r : Record A) → All IsKeyed r.entries → kept same (named_entry name e) (named name r) ≡ named name (kept alike e r)
  kept-named e inside r keyed =
      λ j. record {
        entries = (ap (λ xs. xs ++ named_entry name e ∷ []) all ∙ sym (map-append (named_entry name) (map (gives_way alike e.key) r.entries) (e ∷ []))) j;
        sent = r.sent;
      }
    where
      all : map (gives_way same (name e.key)) (map (named_entry name) r.entries) ≡ map (named_entry name) (map (gives_way alike e.key) r.entries)
      all =
          map-map (gives_way same (name e.key)) (named_entry name) r.entries
          ∙ map-agree (λ x. gives_way same (name e.key) (named_entry name x)) IsKeyed (λ x. named_entry name (gives_way alike e.key x)) (gives_way-named e.key inside) r.entries keyed
          ∙ sym (map-map (named_entry name) (gives_way alike e.key) r.entries)

  pub offered-named : (e : Entry A) → IsKeyed e → (r : Record A) → All IsKeyed r.entries
      → offered same (named_entry name e) (named name r) ≡ ((offered alike e r).0, named name (offered alike e r).1)
  offered-named e inside r keyed =
      (λ j. cond (is_known-named e.key e.g inside r.entries keyed j) (Worse, named name r) (Kept (length-map r.entries (named_entry name) j), kept-named e inside r keyed j))
      ∙ by (is_known alike e.key e.g r.entries)
    where
      by : (b : Bool) → ◌≡◌ {A = Offer × Record K} (cond b (Worse, named name r) (Kept (length r.entries), named name (kept alike e r))) ((offer_if alike b e r).0, named name (offer_if alike b e r).1)
      by true = refl
      by false = refl

  pub was_sent-named : (k : A) (g : ℕ) → IsNamed k → (r : Record A) → All IsKeyed r.entries → was_sent same (name k) g (named name r) ≡ was_sent alike k g r
  was_sent-named k g inside r keyed =
      ap (list_any (λ e. same e.key (name k) && nat_le e.g g)) (sent-map (named_entry name) r.entries r.sent)
      ∙ any-map (named_entry name) IsKeyed (λ e. alike e.key k && nat_le e.g g) (λ e. same e.key (name k) && nat_le e.g g)
      (λ e h. ap (λ b. b && nat_le e.g g) (apart e.key k h inside)) (sent_entries r) (all_sent IsKeyed r.entries keyed r.sent)

  pub mark_sent-named : (n : ℕ) (r : Record A) → All IsKeyed r.entries → mark_sent same n (named name r) ≡ ((mark_sent alike n r).0, named name (mark_sent alike n r).1)
  mark_sent-named n r keyed =
      ap (λ o. option_map_or (λ e. sent_if_new same n e (named name r)) o (None, named name r)) (slice_get-map (named_entry name) r.entries n)
      ∙ by (slice_get r.entries n) refl
    where
      both : (b : Bool) → ◌≡◌ {A = Option ℕ × Record K} (sent_if b n (named name r)) ((sent_if b n r).0, named name (sent_if b n r).1)
      both true = refl
      both false = refl

      by : (o : Option (Entry A)) → slice_get r.entries n ≡ o
          → ◌≡◌ {A = Option ℕ × Record K} (option_map_or (λ e. sent_if_new same n e (named name r)) (option_map (named_entry name) o) (None, named name r)) ((sent_at alike n o r).0, named name (sent_at alike n o r).1)
      by None is = refl
      by (Some e) is =
          let inside : IsNamed e.key = subst IsKeyed (get_or_from_slice_get r.entries n e e is) (keyed n e (slice_get_within r.entries n e is)) in
          ap (λ b. sent_if b n (named name r)) (was_sent-named e.key e.g inside r keyed)
          ∙ both (was_sent alike e.key e.g r)

  pub best-named : (k : A) → IsNamed k → (r : Record A) → All IsKeyed r.entries → best same (name k) (named name r) ≡ best alike k r
  best-named k inside r keyed =
      ap (λ xs. option_map (λ x. x.0) (leftmost is_cheaper None xs))
      (those-map (named_entry name) IsKeyed (λ e. alike e.key k) (λ e. same e.key (name k)) (λ e h. apart e.key k h inside) r.entries keyed)
      ∙ ap (option_map (λ x. x.0)) (leftmost-map (renumbered (named_entry name)) is_cheaper is_cheaper (λ a b. refl) None (those (λ e. alike e.key k) r.entries))
      ∙ number_kept (named_entry name) (leftmost is_cheaper None (those (λ e. alike e.key k) r.entries))

-- what holds of each record over numbers holds of that over their keys
module _ {K : Type 0} (name : ℕ → K) (same : K → K → Bool) (keys : ℕ) (apart : (a b : ℕ) → a < keys → b < keys → same (name a) (name b) ≡ eqb a b) where
  -- a fact of two entries
  two_named : (R : Entry K → Entry K → Type 0) (es : List (Entry ℕ)) (i j : ℕ) (d : Entry K) → i < j → j < length (map (named_entry name) es)
      → R (named_entry name (get_or es i nothing)) (named_entry name (get_or es j nothing)) → R (get_or (map (named_entry name) es) i d) (get_or (map (named_entry name) es) j d)
  two_named R es i j d before inside holds =
      let len : length (map (named_entry name) es) ≡ length es = length-map es (named_entry name) in
      subst (λ x. R x (get_or (map (named_entry name) es) j d)) (sym (get_or-map (named_entry name) es i nothing d (omega arith)))
      (subst (R (named_entry name (get_or es i nothing))) (sym (get_or-map (named_entry name) es j nothing d (omega arith))) holds)

  pub sound-named : (r : Record ℕ) → All (λ e. e.key < keys) r.entries → IsSound eqb r → IsSound same (named name r)
  sound-named r keyed sound =
      let es = r.entries in
      let len : length (map (named_entry name) es) ≡ length es = length-map es (named_entry name) in
      let alike : (i j : ℕ) → i < length es → j < length es → same (name (get_or es i nothing).key) (name (get_or es j nothing).key) ≡ eqb (get_or es i nothing).key (get_or es j nothing).key = λ i j h k. apart (get_or es i nothing).key (get_or es j nothing).key (keyed i nothing h) (keyed j nothing k) in
      record {
        falling = λ i j d before inside.
            two_named (λ e later. same e.key later.key ≡ true → later.g < e.g) es i j d before inside
            (λ is. sound.falling i j nothing before (omega arith) (sym (alike i j (omega arith) (omega arith)) ∙ is));
        last_open = λ i j d before inside.
            two_named (λ e later. same e.key later.key ≡ true → is_open e.mark ≡ false) es i j d before inside
            (λ is. sound.last_open i j nothing before (omega arith) (sym (alike i j (omega arith) (omega arith)) ∙ is));
        gave_way = λ i d inside replaced.
            let at : (k : ℕ) → k < length es → get_or (map (named_entry name) es) k d ≡ named_entry name (get_or es k nothing) = λ k h. get_or-map (named_entry name) es k nothing d h in
            let here : i < length es = omega arith in
            let later = sound.gave_way i nothing here (ap (λ (x : Entry K). x.mark) (sym (at i here)) ∙ replaced) in
            let there : later.0 < length es = later.2 in
            (later.0, later.1, (omega arith), (λ t. same (at i here t).key (at later.0 there t).key) ∙ alike i later.0 here there ∙ later.3);
        bounded = All-map (λ e. f e < 2 ^ 60) (named_entry name) es sound.bounded;
        sent = λ k d h. subst (λ m. get_or r.sent k d < m) (sym len) (sound.sent k d h);
        earlier = λ n d inside.
            subst (λ e. IsEarlier n e.origin) (sym (get_or-map (named_entry name) es n nothing d (omega arith))) (sound.earlier n nothing (omega arith));
      }
