-- The merged log is a legal history: before a receipt stand all messages with smaller stamps, so that the one
-- that it takes is the oldest under way.
use Rattle.std.proofs.Common.{◌≡◌, ℕ, suc, ◌<◌, ◌≤◌, ◌&&◌, eqb, eq-eqb, Bool, true, false, List, [], ◌∷◌, ◌++◌, map, drop, length, refl, sym, ap, subst, ◌∙◌, arith, append_assoc, Some, None}
use Rattle.std.specs.Prelude.{Option, All, slice_get}
use Rattle.std.specs.List.{AllPairs, cons_option, filter, filter_map}
use Rattle.std.proofs.lemmas.List.Elements.{All-cons, All-head, All-nil, All-tail, filter_map-append}
use Rattle.std.proofs.lemmas.List.{length-map}
use Rattle.mp_messages.specs.declared.history.Entry.{Entry}
use Rattle.mp_messages.specs.declared.history.Entry.TheVariants.{Act, Put, Took}
use Rattle.mp_messages.specs.History.{IsHistory, MayFollow, agent_of, put_between, received, sent, taken_between}
use Rattle.mp_stamps.specs.Lists.{AreTaken, IsAgentOf, IsOwn, Matched, entries, list_of, mail_of, puts, receipts}
use Rattle.mp_stamps.specs.Lists.AreTaken.{none, more}
use Rattle.mp_stamps.specs.Mail.{Mail}
use Rattle.mp_stamps.specs.Sorting.{AreSorted}
use Rattle.mp_stamps.specs.declared.stamped.Stamped.{Stamped}
use Rattle.mp_stamps.proofs.Filters.{pairs_behind, split_map}
use Rattle.mp_stamps.proofs.Parts.{all_own, flat, is_of, own_in_order}
use Rattle.mp_stamps.proofs.Sorted.{From, NotLater}

abbrev bytes_of : List Mail → List (List ℕ)
bytes_of ms = map (λ (m : Mail). m.bytes) ms

-- ---- messages of entries, with and without stamps

with_bytes : (stamp : ℕ) (o : Option (List ℕ)) (rest : List (List ℕ)) (ms : List Mail) → rest ≡ bytes_of ms
    → cons_option o rest ≡ bytes_of (cons_option (mail_of stamp o) ms)
with_bytes stamp None rest ms e = e
with_bytes stamp (Some b) rest ms e = ap (λ l. b ∷ l) e

sent_is : (from to : ℕ) (xs : List Stamped) → sent from to (entries xs) ≡ bytes_of (puts from to xs)
sent_is from to [] = refl
sent_is from to (x ∷ xs) = with_bytes x.stamp (put_between from to x.entry) (sent from to (entries xs)) (puts from to xs) (sent_is from to xs)

received_is : (from to : ℕ) (xs : List Stamped) → received from to (entries xs) ≡ bytes_of (receipts from to xs)
received_is from to [] = refl
received_is from to (x ∷ xs) = with_bytes x.stamp (taken_between from to x.entry) (received from to (entries xs)) (receipts from to xs) (received_is from to xs)

-- ---- only one agent's entries count

neither : (p q : Bool) → p ≡ false → (p && q) ≡ false
neither true q e = absurd cc
neither false q e = refl

nor : (p q : Bool) → q ≡ false → (p && q) ≡ false
nor true q e = e
nor false q e = refl

no_put : (from to : ℕ) (e : Entry) → eqb (agent_of e) from ≡ false → put_between from to e ≡ None
no_put from to (Act agent kind) f = refl
no_put from to (Put sender receiver bytes) f = let g = neither (eqb sender from) (eqb receiver to) f in rw g refl
no_put from to (Took by sender bytes) f = refl

no_receipt : (from to : ℕ) (e : Entry) → eqb (agent_of e) to ≡ false → taken_between from to e ≡ None
no_receipt from to (Act agent kind) f = refl
no_receipt from to (Put sender receiver bytes) f = refl
no_receipt from to (Took by sender bytes) f = let g = nor (eqb sender from) (eqb by to) f in rw g refl

module _ (of_entry : Entry → Option (List ℕ)) (agent : ℕ) (others : (e : Entry) → eqb (agent_of e) agent ≡ false → of_entry e ≡ None) where
  abbrev mails : List Stamped → List Mail
  mails xs = filter_map (λ (s : Stamped). mail_of s.stamp (of_entry s.entry)) xs

  one_own : (x : Stamped) (xs : List Stamped) (b : Bool) → eqb (agent_of x.entry) agent ≡ b → mails xs ≡ mails (filter (is_of agent) xs)
      → mails (x ∷ xs) ≡ mails (filter (is_of agent) (x ∷ xs))
  one_own x xs true e rest = ap (λ l. cons_option (mail_of x.stamp (of_entry x.entry)) l) rest ∙ sym (ap mails (kept e))
    where
      kept : eqb (agent_of x.entry) agent ≡ true → filter (is_of agent) (x ∷ xs) ≡ x ∷ filter (is_of agent) xs
      kept f = rw f refl
  one_own x xs false e rest = ap (λ o. cons_option (mail_of x.stamp o) (mails xs)) (others x.entry e) ∙ (rest ∙ sym (ap mails (gone e)))
    where
      gone : eqb (agent_of x.entry) agent ≡ false → filter (is_of agent) (x ∷ xs) ≡ filter (is_of agent) xs
      gone f = rw f refl

  own_alone : (xs : List Stamped) → mails xs ≡ mails (filter (is_of agent) xs)
  own_alone [] = refl
  own_alone (x ∷ xs) = one_own x xs (eqb (agent_of x.entry) agent) refl (own_alone xs)

-- ---- the message of a receipt

record IsMessage (gone later : List Mail) (before : List Mail) (receipt : Mail) : Type 0 where
  earlier : List Mail
  message : Mail
  others : List Mail
  split : gone ≡ earlier ++ message ∷ others
  many : length earlier ≡ length before
  bytes : message.bytes ≡ receipt.bytes
  stamp : message.stamp < receipt.stamp

message_of : (gone rs : List Mail) → AreTaken gone rs → (before : List Mail) (r : Mail) (later : List Mail) → rs ≡ before ++ r ∷ later
    → IsMessage gone later before r
message_of _ _ none [] r later e = absurd cc
message_of _ _ none (b ∷ bs) r later e = absurd cc
message_of _ _ (more p q ps qs same late rest) [] r later e =
    let is : q ≡ r = cc in
    record {
      earlier = [];
      message = p;
      others = ps;
      split = refl;
      many = refl;
      bytes = same ∙ ap (λ (m : Mail). m.bytes) is;
      stamp = subst (λ (m : Mail). p.stamp < m.stamp) is late;
    }
message_of _ _ (more p q ps qs same late rest) (b ∷ bs) r later e =
    let others : qs ≡ bs ++ r ∷ later = cc in
    let one = message_of ps qs rest bs r later others in
    record {
      earlier = p ∷ one.earlier;
      message = one.message;
      others = one.others;
      split = ap (λ l. p ∷ l) one.split;
      many = ap suc one.many;
      bytes = one.bytes;
      stamp = one.stamp;
    }

abbrev LateMail : ℕ → Mail → Type 0
LateMail t m = t ≤ m.stamp

late_puts : (from to t : ℕ) (xs : List Stamped) → All (From t) xs → All (LateMail t) (puts from to xs)
late_puts from to t [] all = All-nil (LateMail t)
late_puts from to t (x ∷ xs) all = one (put_between from to x.entry) (late_puts from to t xs (All-tail (From t) x xs all))
  where
    one : (o : Option (List ℕ)) → All (LateMail t) (puts from to xs) → All (LateMail t) (cons_option (mail_of x.stamp o) (puts from to xs))
    one None rest = rest
    one (Some b) rest = All-cons (LateMail t) (record { stamp = x.stamp; bytes = b }) (puts from to xs) (All-head (From t) x xs all) rest

-- a message with an earlier stamp is not among the later ones
is_under_way : (xs ys earlier others : List Mail) (m : Mail) (t : ℕ) → xs ++ ys ≡ earlier ++ m ∷ others → All (LateMail t) ys → m.stamp < t
    → slice_get (drop (length earlier) (bytes_of xs)) 0 ≡ Some m.bytes
is_under_way [] ys earlier others m t e late before = absurd (let there = not_late ys earlier e late in omega arith)
  where
    not_late : (zs front : List Mail) → zs ≡ front ++ m ∷ others → All (LateMail t) zs → t ≤ m.stamp
    not_late [] [] f all = absurd cc
    not_late [] (x ∷ front) f all = absurd cc
    not_late (z ∷ zs) [] f all = let same : z ≡ m = cc in subst (LateMail t) same (All-head (LateMail t) z zs all)
    not_late (z ∷ zs) (x ∷ front) f all = let rest : zs ≡ front ++ m ∷ others = cc in not_late zs front rest (All-tail (LateMail t) z zs all)
is_under_way (x ∷ xs) ys [] others m t e late before = let same : x ≡ m = cc in ap (λ (k : Mail). Some k.bytes) same
is_under_way (x ∷ xs) ys (z ∷ earlier) others m t e late before =
    let rest : xs ++ ys ≡ earlier ++ m ∷ others = cc in is_under_way xs ys earlier others m t rest late before

module _ (lists : List (List Stamped)) (m : Matched lists) (order : List Stamped) (sorted : AreSorted (flat lists) order)
    (before : List Stamped) (s : Stamped) (after : List Stamped) (is : order ≡ before ++ s ∷ after) where
  puts_are : (from to : ℕ) → IsAgentOf (length lists) from → puts from to order ≡ puts from to (list_of lists from)
  puts_are from to is_from = own_alone (put_between from to) from (no_put from to) order
      ∙ ap (puts from to) (own_in_order lists m order sorted from is_from)

  receipts_are : (from to : ℕ) → IsAgentOf (length lists) to → receipts from to order ≡ receipts from to (list_of lists to)
  receipts_are from to is_to = own_alone (taken_between from to) to (no_receipt from to) order
      ∙ ap (receipts from to) (own_in_order lists m order sorted to is_to)

  own : IsAgentOf (length lists) (agent_of s.entry) × IsOwn (length lists) (agent_of s.entry) s.entry
  own = let all = subst (All (λ (x : Stamped). IsAgentOf (length lists) (agent_of x.entry) × IsOwn (length lists) (agent_of x.entry) x.entry)) is (all_own lists m order sorted) in
      here before all
    where
      here : (xs : List Stamped) → All (λ (x : Stamped). IsAgentOf (length lists) (agent_of x.entry) × IsOwn (length lists) (agent_of x.entry) x.entry) (xs ++ s ∷ after)
          → IsAgentOf (length lists) (agent_of s.entry) × IsOwn (length lists) (agent_of s.entry) s.entry
      here [] all = All-head (λ (x : Stamped). IsAgentOf (length lists) (agent_of x.entry) × IsOwn (length lists) (agent_of x.entry) x.entry) s after all
      here (x ∷ xs) all = here xs (All-tail (λ (y : Stamped). IsAgentOf (length lists) (agent_of y.entry) × IsOwn (length lists) (agent_of y.entry) y.entry) x (xs ++ s ∷ after) all)

  late : All (From s.stamp) after
  late = pairs_behind NotLater before s after (subst (AllPairs NotLater) is sorted.rise)

  took : (r j : ℕ) (bytes : List ℕ) → s.entry ≡ Took r j bytes → IsAgentOf (length lists) r → IsAgentOf (length lists) j
      → slice_get (drop (length (received j r (entries before))) (sent j r (entries before))) 0 ≡ Some bytes
  took r j bytes e is_r is_j =
      let taken = m.taken j r is_j is_r in
      let has = taken.1 in
      let received_all : receipts j r (list_of lists r) ≡ receipts j r before ++ record { stamp = s.stamp; bytes = bytes } ∷ receipts j r after =
      sym (receipts_are j r is_r) ∙ (ap (receipts j r) is ∙ (filter_map-append (λ (x : Stamped). mail_of x.stamp (taken_between j r x.entry)) before (s ∷ after) ∙ ap (λ l. receipts j r before ++ l) (first_receipt e))) in
      let one = message_of has.gone (receipts j r (list_of lists r)) has.were_taken (receipts j r before) (record { stamp = s.stamp; bytes = bytes }) (receipts j r after) received_all in
      let put_all : puts j r before ++ puts j r after ≡ one.earlier ++ one.message ∷ (one.others ++ taken.0) =
      sym (ap (λ l. puts j r before ++ l) (first_put e)) ∙ (sym (filter_map-append (λ (x : Stamped). mail_of x.stamp (put_between j r x.entry)) before (s ∷ after))
      ∙ (sym (ap (puts j r) is) ∙ (puts_are j r is_j ∙ (has.split ∙ (ap (λ l. l ++ taken.0) one.split ∙ append_assoc one.earlier (one.message ∷ one.others) taken.0))))) in
      let there = is_under_way (puts j r before) (puts j r after) one.earlier (one.others ++ taken.0) one.message s.stamp put_all (late_puts j r s.stamp after late) one.stamp in
      let count : length (received j r (entries before)) ≡ length one.earlier =
      ap length (received_is j r before) ∙ (length-map (receipts j r before) (λ (x : Mail). x.bytes) ∙ sym one.many) in
      ap (λ n. slice_get (drop n (sent j r (entries before))) 0) count
      ∙ (ap (λ l. slice_get (drop (length one.earlier) l) 0) (sent_is j r before) ∙ (there ∙ ap Some one.bytes))
    where
      both : (p q : Bool) → p ≡ true → q ≡ true → (p && q) ≡ true
      both true q a b = b
      both false q a b = absurd cc

      is_taken : taken_between j r (Took r j bytes) ≡ Some bytes
      is_taken = let f = both (eqb j j) (eqb r r) (eq-eqb j j refl) (eq-eqb r r refl) in rw f refl

      first_receipt : s.entry ≡ Took r j bytes → receipts j r (s ∷ after) ≡ record { stamp = s.stamp; bytes = bytes } ∷ receipts j r after
      first_receipt f = ap (λ o. cons_option (mail_of s.stamp o) (receipts j r after)) (ap (taken_between j r) f ∙ is_taken)

      first_put : s.entry ≡ Took r j bytes → puts j r (s ∷ after) ≡ puts j r after
      first_put f = ap (λ x. cons_option (mail_of s.stamp (put_between j r x)) (puts j r after)) f

  follows : (e : Entry) → s.entry ≡ e → IsAgentOf (length lists) (agent_of e) → IsOwn (length lists) (agent_of e) e → MayFollow (entries before) e
  follows (Act agent kind) f is_agent is_own = tt
  follows (Put from to bytes) f is_agent is_own = tt
  follows (Took by from bytes) f is_agent is_own = took by from bytes f is_agent is_own.1.of_team

  pub may_follow : MayFollow (entries before) s.entry
  may_follow = follows s.entry refl own.0 own.1

pub is_legal : (lists : List (List Stamped)) → Matched lists → (order : List Stamped) → AreSorted (flat lists) order → IsHistory (entries order)
is_legal lists m order sorted front back e h =
    let p = split_map (λ (s : Stamped). s.entry) order front back e h in
    subst (λ (l : List Entry × Entry). MayFollow l.0 l.1) (λ i. (sym p.front_is i, sym p.item_is i))
    (may_follow lists m order sorted p.before p.item p.after p.is)
