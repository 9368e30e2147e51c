-- What a search keeps and sent grows: what is there stays, and so do tokens and messages.
use Rattle.mp_world.proofs.Basics.{◌≡◌, ℕ, zero, suc, ◌<◌, ◌⊎◌, false, List, [], ◌∷◌, ◌++◌, length, map, get_or, Option, Some, None, All, refl, sym, ap, subst, ◌∙◌, arith, inl, inr, Contains, filter_map, option_map, slice_get, slice_set, cons_option, option_map_or}
use Rattle.mp_world.proofs.Basics.{append-nil, All-head, All-tail, filter_map-append, get_or_from_slice_get, none-some, same_Some, slice_get-get_or, slice_get-map, slice_get_within}
use Rattle.std.specs.FinSet as set
use Rattle.mp_sets.specs.Numbers.{listed}
use Rattle.mp_tokens.specs.Order.{with_set, with_sets}
use Rattle.mp_tokens.proofs.Orders.{has_token, keeps, one_after_another}
use Rattle.mp_tokens.proofs.Places.{old_or_new, with_new, with_old}
use Rattle.mp_store.proofs.Mapped.{sent-map}
use Rattle.mp_store.proofs.Marks.{SameButMarks, closing_marks, giving_way_marks, same_at, same_length, unmarked}
use Rattle.mp_search.specs.Sending.{message_of_entry}
use Rattle.mp_search.proofs.SentSets.{SentInside}
use Rattle.mp_world.specs.AgentWords.{AgentTask, is_met, State}
use Rattle.mp_world.specs.SearchWords.{Numbers, place, Entry, Expanded, Root, closed, Record, gives_way, kept, new_entry, AgentState, same_state, with_tag, sent_sets, tokens_given}
use Rattle.mp_team_states.specs.Growing.{BeginsWith, HasGrown, IsAlike}
use Rattle.mp_team_states.specs.Sent.{IsSentIn}

-- ---- lists

pub stays_at : {X : Type 0} (xs ys : List X) (n : ℕ) (x : X) → slice_get xs n ≡ Some x → slice_get (xs ++ ys) n ≡ Some x
stays_at [] ys n x is = absurd (none-some x is)
stays_at (y ∷ xs) ys zero x is = is
stays_at (y ∷ xs) ys (suc n) x is = stays_at xs ys n x is

pub begins_alone : {X : Type 0} (xs : List X) → BeginsWith xs xs
begins_alone xs = record { more = []; is = sym (append-nil xs) }

append_twice : {X : Type 0} (xs ys zs : List X) → (xs ++ ys) ++ zs ≡ xs ++ (ys ++ zs)
append_twice [] ys zs = refl
append_twice (x ∷ xs) ys zs = ap (λ rest. x ∷ rest) (append_twice xs ys zs)

pub begins_then : {X : Type 0} (xs ys zs : List X) → BeginsWith xs ys → BeginsWith ys zs → BeginsWith xs zs
begins_then xs ys zs first second = record {
  more = first.more ++ second.more;
  is = second.is ∙ ap (λ us. us ++ second.more) first.is ∙ append_twice xs first.more second.more;
}

same_found : {X : Type 0} (f g : ℕ → Option X) (k : ℕ) (ns : List ℕ) → ((n : ℕ) → n < k → f n ≡ g n) → All (λ n. n < k) ns → filter_map f ns ≡ filter_map g ns
same_found f g k [] same all = refl
same_found f g k (n ∷ ns) same all =
    λ j. cons_option (same n (All-head (λ m. m < k) n ns all) j) (same_found f g k ns same (All-tail (λ m. m < k) n ns all) j)

has_more : {X : Type 0} (o : Option X) (xs : List X) (x : X) → Contains xs x → Contains (cons_option o xs) x
has_more None xs x here = here
has_more (Some y) xs x here = (suc here.0, omega (arith, here.1), here.2)

found_in : {X : Type 0} (f : ℕ → Option X) (ns : List ℕ) (k n : ℕ) (x : X) → slice_get ns k ≡ Some n → f n ≡ Some x → Contains (filter_map f ns) x
found_in f [] k n x at is = absurd (none-some n at)
found_in {X} f (m ∷ ns) zero n x at is =
    let found : f m ≡ Some x = ap f (same_Some m n at) ∙ is in
    subst (λ (o : Option X). Contains (cons_option o (filter_map f ns)) x) (sym found) (0, omega arith, refl)
found_in f (m ∷ ns) (suc k) n x at is = has_more (f m) (filter_map f ns) x (found_in f ns k n x at is)

-- ---- what is kept

pub grown_not : (r : Record AgentState) → HasGrown r r
grown_not r = record {
  entries = λ n e is. (e, is, record { key = refl; g = refl; h = refl; origin = refl; goal = refl });
  sent = begins_alone r.sent;
}

pub alike_then : (e f g : Entry AgentState) → IsAlike e f → IsAlike f g → IsAlike e g
alike_then e f g a b = record {
  key = b.key ∙ a.key;
  g = b.g ∙ a.g;
  h = b.h ∙ a.h;
  origin = b.origin ∙ a.origin;
  goal = b.goal ∙ a.goal;
}

pub grown_then : (r s u : Record AgentState) → HasGrown r s → HasGrown s u → HasGrown r u
grown_then r s u first second = record {
  entries = λ n e is.
      let a = first.entries n e is in
      let b = second.entries n a.0 a.1 in
      (b.0, b.1, alike_then e a.0 b.0 a.2 b.2);
  sent = begins_then r.sent s.sent u.sent first.sent second.sent;
}

pub grown_marks : (es others : List (Entry AgentState)) (ns : List ℕ) → SameButMarks es others
    → HasGrown (record { entries = es; sent = ns }) (record { entries = others; sent = ns })
grown_marks es others ns alike = record {
  entries = λ n e is.
      let inside : n < length es = slice_get_within es n e is in
      let len = same_length es others alike in
      let later = get_or others n e in
      let same : unmarked e ≡ unmarked later = ap unmarked (sym (get_or_from_slice_get es n e e is)) ∙ same_at es others alike n e in (
        later,
        slice_get-get_or others n e (omega arith),
        record {
          key = ap (λ (x : Entry AgentState). x.key) (sym same);
          g = ap (λ (x : Entry AgentState). x.g) (sym same);
          h = ap (λ (x : Entry AgentState). x.h) (sym same);
          origin = ap (λ (x : Entry AgentState). x.origin) (sym same);
          goal = ap (λ (x : Entry AgentState). x.goal) (sym same);
        },
      );
  sent = begins_alone ns;
}

grown_pushed : (es : List (Entry AgentState)) (new : Entry AgentState) (ns : List ℕ)
    → HasGrown (record { entries = es; sent = ns }) (record { entries = es ++ new ∷ []; sent = ns })
grown_pushed es new ns = record {
  entries = λ n e is. (e, stays_at es (new ∷ []) n e is, record { key = refl; g = refl; h = refl; origin = refl; goal = refl });
  sent = begins_alone ns;
}

pub grown_closed : (n : ℕ) (r : Record AgentState) → HasGrown r (closed n r)
grown_closed n r = by (slice_get r.entries n) refl
  where
    by : (o : Option (Entry AgentState)) → slice_get r.entries n ≡ o
        → HasGrown r (option_map_or (λ (e : Entry AgentState). record r { entries = slice_set r.entries n (record e { mark = Expanded }) }) o r)
    by None is = grown_not r
    by (Some e) is = grown_marks r.entries (slice_set r.entries n (record e { mark = Expanded })) r.sent (closing_marks r.entries n e is)

pub grown_kept : (new : Entry AgentState) (r : Record AgentState) → HasGrown r (kept same_state new r)
grown_kept new r =
    let others = map (gives_way same_state new.key) r.entries in
    grown_then r (record r { entries = others }) (kept same_state new r)
    (grown_marks r.entries others r.sent (giving_way_marks same_state new.key r.entries))
    (grown_pushed others new r.sent)

pub grown_sent : (n : ℕ) (r : Record AgentState) → HasGrown r (record r { sent = r.sent ++ n ∷ [] })
grown_sent n r = record {
  entries = λ m e is. (e, is, record { key = refl; g = refl; h = refl; origin = refl; goal = refl });
  sent = record { more = n ∷ []; is = refl };
}

-- ---- the sets that have tokens

abbrev mine : Entry AgentState → Numbers
mine e = e.key.mine

no_entry : Entry AgentState
no_entry = new_entry (record { publics = set.empty; mine = set.empty; tags = [] }) 0 0 Root false

read_sets : (r : Record AgentState) → sent_sets r ≡ filter_map (slice_get (map mine r.entries)) r.sent
read_sets r = sym (sent-map mine r.entries r.sent)

module _ (r s : Record AgentState) (inside : SentInside r) (grown : HasGrown r s) where
  mine_at : (n : ℕ) → n < length r.entries → slice_get (map mine s.entries) n ≡ slice_get (map mine r.entries) n
  mine_at n below =
      let e = get_or r.entries n no_entry in
      let is : slice_get r.entries n ≡ Some e = slice_get-get_or r.entries n no_entry below in
      let later = grown.entries n e is in
      slice_get-map mine s.entries n ∙ ap (option_map mine) later.1 ∙ ap (λ (k : AgentState). Some k.mine) later.2.key
      ∙ sym (slice_get-map mine r.entries n ∙ ap (option_map mine) is)

  pub sets_grow : BeginsWith (sent_sets r) (sent_sets s)
  sets_grow =
      let f = slice_get (map mine s.entries) in
      let more = filter_map f grown.sent.more in
      let same : filter_map f r.sent ≡ sent_sets r =
      same_found f (slice_get (map mine r.entries)) (length r.entries) r.sent mine_at inside ∙ sym (read_sets r)
      in
      record {
        more = more;
        is = read_sets s ∙ ap (filter_map f) grown.sent.is ∙ filter_map-append f r.sent grown.sent.more ∙ ap (λ (xs : List Numbers). xs ++ more) same;
      }

one_begins : (xs : List Numbers) (s : Numbers) → BeginsWith xs (with_set xs s)
one_begins xs s = by (old_or_new xs s)
  where
    by : (place xs s < length xs) ⊎ (place xs s ≡ length xs) → BeginsWith xs (with_set xs s)
    by (inl old) = record { more = []; is = with_old xs s old ∙ sym (append-nil xs) }
    by (inr new) = record { more = s ∷ []; is = with_new xs s new }

pub all_begin : (xs more : List Numbers) → BeginsWith xs (with_sets xs more)
all_begin xs [] = begins_alone xs
all_begin xs (s ∷ more) = begins_then xs (with_set xs s) (with_sets (with_set xs s) more) (one_begins xs s) (all_begin (with_set xs s) more)

module _ (t : AgentTask) (r s : Record AgentState) (inside : SentInside r) (grown : HasGrown r s) where
  start : Numbers
  start = set.from_list t.start_priv

  more_given : tokens_given t s ≡ with_sets (tokens_given t r) (sets_grow r s inside grown).more
  unfolding start
  more_given =
      let g = sets_grow r s inside grown in
      ap (with_sets (start ∷ [])) g.is ∙ one_after_another (start ∷ []) (sent_sets r) g.more

  pub tokens_grow : BeginsWith (tokens_given t r) (tokens_given t s)
  tokens_grow =
      subst (λ (xs : List Numbers). BeginsWith (tokens_given t r) xs) (sym more_given)
      (all_begin (tokens_given t r) (sets_grow r s inside grown).more)

  pub place_stays : (x : Numbers) → place (tokens_given t r) x < length (tokens_given t r) → place (tokens_given t s) x ≡ place (tokens_given t r) x
  place_stays x here =
      ap (λ (xs : List Numbers). place xs x) more_given ∙ (keeps (tokens_given t r) (sets_grow r s inside grown).more x here).0

-- ---- messages

-- the own set of a sent state has a token
pub sent_token : (t : AgentTask) (r : Record AgentState) (k n : ℕ) (e : Entry AgentState) → slice_get r.sent k ≡ Some n → slice_get r.entries n ≡ Some e
    → place (tokens_given t r) e.key.mine < length (tokens_given t r)
sent_token t r k n e sent there =
    let found : Contains (sent_sets r) e.key.mine =
    subst (λ (xs : List Numbers). Contains xs e.key.mine) (sym (read_sets r))
    (found_in (slice_get (map mine r.entries)) r.sent k n e.key.mine sent (slice_get-map mine r.entries n ∙ ap (option_map mine) there))
    in
    has_token (set.from_list t.start_priv) (sent_sets r) e.key.mine (suc found.0, omega (arith, found.1), found.2)

message_alike : (t : AgentTask) (r s : Record AgentState) (number : ℕ) (e later : Entry AgentState) → IsAlike e later
    → place (tokens_given t s) e.key.mine ≡ place (tokens_given t r) e.key.mine → message_of_entry t r number e ≡ message_of_entry t s number later
unfolding message_of_entry
message_alike t r s number e later alike token =
    (λ j. message_with (sym token j) e.key e.g e.h) ∙ (λ j. message_with (place (tokens_given t s) (sym alike.key j).mine) (sym alike.key j) (sym alike.g j) (sym alike.h j))
  where
    message_with : ℕ → AgentState → ℕ → ℕ → State
    message_with token key g h = record {
      sent = number;
      g = g;
      h = h;
      facts = listed (record { size = t.publics; members = key.publics });
      tags = with_tag key.tags t.me (record { token = token; met = is_met t key.mine });
    }

-- what was sent stays so
pub sent_stays : (t : AgentTask) (r s : Record AgentState) (m : State) → SentInside r → HasGrown r s → IsSentIn t r m → IsSentIn t s m
sent_stays t r s m inside grown sent =
    let later = grown.entries sent.number sent.entry sent.there in
    let token = place_stays t r s inside grown sent.entry.key.mine (sent_token t r m.sent sent.number sent.entry sent.sent sent.there) in
    record {
      number = sent.number;
      entry = later.0;
      sent = ap (λ (ns : List ℕ). slice_get ns m.sent) grown.sent.is ∙ stays_at r.sent grown.sent.more m.sent sent.number sent.sent;
      there = later.1;
      is = sent.is ∙ message_alike t r s m.sent sent.entry later.0 later.2 token;
    }
