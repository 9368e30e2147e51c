-- Agents and messages of a world that changes in one place: an agent has done more, other messages are under way, and messages
-- go out.
use Rattle.mp_world.proofs.Basics.{◌≡◌, ◌≢◌, ℕ, zero, suc, ◌-◌, ◌<◌, Bool, true, false, ◌&&◌, eqb, List, [], ◌∷◌, ◌++◌, length, Some, refl, sym, ap, subst, ◌∙◌, append_assoc, append-nil, arith, ◌⊎◌, inl, inr, ◌==◌, if◌then◌else◌, All, slice_get, slice_index_or}
use Rattle.mp_world.proofs.Basics.{slice_set, and_parts, eq-eqb, eqb-true, eqb-false, leb-true, le-leb, ltb-true, ltb-false, get_or-set_same, get_or-set_other, length-set, All-set, none-some, slice_get_within}
use Rattle.std.proofs.Common.{ltb}
use Rattle.std.specs.List.{fold}
use Rattle.std.proofs.lemmas.List.{set_past}
use Rattle.std.proofs.lemmas.List.Elements.{All-get_or}
use Rattle.mp_world.specs.AgentWords.{Out, AgentRecord}
use Rattle.mp_world.specs.Events.{is_agent, with_sent}
use Rattle.mp_world.specs.Steps.{sent_to}
use Rattle.mp_world.specs.World.{World, IsAgent, agent_at, mail_of, under_way, with_agent, with_under_way}

-- ---- an item of a list is put in the place of another

slice_get-set_same : {X : Type 0} (xs : List X) (k : ℕ) (x y : X) → slice_get xs k ≡ Some x → slice_get (slice_set xs k y) k ≡ Some y
slice_get-set_same [] k x y there = absurd (none-some x there)
slice_get-set_same (z ∷ zs) zero x y there = refl
slice_get-set_same (z ∷ zs) (suc k) x y there = slice_get-set_same zs k x y there

slice_get-set_other : {X : Type 0} (xs : List X) (i j : ℕ) (y : X) → j ≢ i → slice_get (slice_set xs i y) j ≡ slice_get xs j
slice_get-set_other [] i j y apart = refl
slice_get-set_other (z ∷ zs) zero zero y apart = absurd (apart refl)
slice_get-set_other (z ∷ zs) zero (suc j) y apart = refl
slice_get-set_other (z ∷ zs) (suc i) zero y apart = refl
slice_get-set_other (z ∷ zs) (suc i) (suc j) y apart = slice_get-set_other zs i j y (λ same. apart (ap suc same))

-- ---- agents

pub one_before : (k : ℕ) → suc k - 1 ≡ k
one_before k = omega arith

pub agent_of_team : (w : World) (agent : ℕ) (r : AgentRecord) → agent_at w agent ≡ Some r → IsAgent w agent
agent_of_team w zero r there = absurd (none-some r there)
agent_of_team w (suc k) r there =
    let inside = slice_get_within w.agents k r there in
    record { from_1 = omega arith; at_most = omega arith }

pub agent_at-same : (w : World) (agent : ℕ) (r s : AgentRecord) → agent_at w agent ≡ Some r → agent_at (with_agent w agent s) agent ≡ Some s
agent_at-same w zero r s there = absurd (none-some r there)
agent_at-same w (suc k) r s there =
    subst (λ i. slice_get (slice_set w.agents i s) k ≡ Some s) (sym (one_before k)) (slice_get-set_same w.agents k r s there)

pub agent_at-other : (w : World) (agent other : ℕ) (r s : AgentRecord) → agent_at w agent ≡ Some r → other ≢ agent → agent_at (with_agent w agent s) other ≡ agent_at w other
agent_at-other w agent zero r s there apart = refl
agent_at-other w zero (suc j) r s there apart = absurd (none-some r there)
agent_at-other w (suc k) (suc j) r s there apart =
    subst (λ i. slice_get (slice_set w.agents i s) j ≡ slice_get w.agents j) (sym (one_before k)) (slice_get-set_other w.agents k j s (λ same. apart (ap suc same)))

-- worlds of the same agents
pub agent_at-agents : (v w : World) (agent : ℕ) → v.agents ≡ w.agents → agent_at v agent ≡ agent_at w agent
agent_at-agents v w zero same = refl
agent_at-agents v w (suc k) same = ap (λ (rs : List AgentRecord). slice_get rs k) same

pub IsAgent-agents : (v w : World) (agent : ℕ) → length v.agents ≡ length w.agents → IsAgent w agent → IsAgent v agent
IsAgent-agents v w agent same is =
    let low = is.from_1 in
    let high = is.at_most in
    record { from_1 = low; at_most = omega arith }

pub is_agent-true : (w : World) (agent : ℕ) → IsAgent w agent → is_agent w agent ≡ true
is_agent-true w agent is = λ j. le-leb 1 agent is.from_1 j && le-leb agent (length w.agents) is.at_most j

pub is_agent-is : (w : World) (agent : ℕ) → is_agent w agent ≡ true → IsAgent w agent
is_agent-is w agent test =
    let both = and_parts _ _ test in
    record { from_1 = leb-true 1 agent both.0; at_most = leb-true agent (length w.agents) both.1 }

-- ---- messages under way

-- there is a list for each sender and each receiver
pub record HasLists (w : World) : Type 0 where
  pub senders : length w.mail ≡ length w.agents
  pub receivers : All (λ row. length row ≡ length w.agents) w.mail

-- whoever the sender is: a list that is put past the end changes nothing
pub under_way-lists : (w : World) (from to : ℕ) (messages : List (List ℕ)) → HasLists w → HasLists (with_under_way w from to messages)
under_way-lists w from to messages lists = by (ltb (from - 1) (length w.mail)) refl
  where
    row : List (List (List ℕ))
    row = slice_set (mail_of w from) (to - 1) messages

    HasLength : List (List (List ℕ)) → Type 0
    HasLength r = length r ≡ length w.agents

    by : (b : Bool) → ltb (from - 1) (length w.mail) ≡ b → HasLists (with_under_way w from to messages)
    by true inside = record {
      senders = length-set w.mail (from - 1) row ∙ lists.senders;
      receivers = All-set HasLength w.mail (from - 1) row
          (length-set (mail_of w from) (to - 1) messages ∙ All-get_or HasLength w.mail (from - 1) [] (ltb-true (from - 1) (length w.mail) inside) lists.receivers)
          lists.receivers;
    }
    by false outside = record {
      senders = length-set w.mail (from - 1) row ∙ lists.senders;
      receivers = subst (λ rows. All HasLength rows) (sym (set_past w.mail (from - 1) row (ltb-false (from - 1) (length w.mail) outside))) lists.receivers;
    }

module _ (w : World) (lists : HasLists w) where
  place : (agent : ℕ) → IsAgent w agent → agent - 1 < length w.agents
  place agent is =
      let low = is.from_1 in
      let high = is.at_most in
      omega arith

  sender_place : (agent : ℕ) → IsAgent w agent → agent - 1 < length w.mail
  sender_place agent is =
      let inside = place agent is in
      let many = lists.senders in
      omega arith

  receiver_place : (from to : ℕ) → IsAgent w from → IsAgent w to → to - 1 < length (mail_of w from)
  receiver_place from to sender receiver =
      let inside = place to receiver in
      let many = All-get_or (λ row. length row ≡ length w.agents) w.mail (from - 1) [] (sender_place from sender) lists.receivers in
      omega arith

  apart_places : (a b : ℕ) → IsAgent w a → IsAgent w b → a ≢ b → a - 1 ≢ b - 1
  apart_places a b is_a is_b apart same =
      let low_a = is_a.from_1 in
      let low_b = is_b.from_1 in
      apart (omega arith)

  pub under_way-same : (from to : ℕ) (messages : List (List ℕ)) → IsAgent w from → IsAgent w to
      → under_way (with_under_way w from to messages) from to ≡ messages
  under_way-same from to messages sender receiver =
      ap (λ row. slice_index_or row (to - 1) []) (get_or-set_same w.mail (from - 1) (slice_set (mail_of w from) (to - 1) messages) [] (sender_place from sender))
      ∙ get_or-set_same (mail_of w from) (to - 1) messages [] (receiver_place from to sender receiver)

  other_sender : (from to sender receiver : ℕ) (messages : List (List ℕ)) → IsAgent w from → IsAgent w sender → sender ≢ from
      → under_way (with_under_way w from to messages) sender receiver ≡ under_way w sender receiver
  other_sender from to sender receiver messages is_from is_sender apart =
      ap (λ row. slice_index_or row (receiver - 1) [])
      (get_or-set_other w.mail (from - 1) (sender - 1) (slice_set (mail_of w from) (to - 1) messages) [] (apart_places sender from is_sender is_from apart))

  other_receiver : (from to receiver : ℕ) (messages : List (List ℕ)) → IsAgent w from → IsAgent w to → IsAgent w receiver → receiver ≢ to
      → under_way (with_under_way w from to messages) from receiver ≡ under_way w from receiver
  other_receiver from to receiver messages is_from is_to is_receiver apart =
      ap (λ row. slice_index_or row (receiver - 1) []) (get_or-set_same w.mail (from - 1) (slice_set (mail_of w from) (to - 1) messages) [] (sender_place from is_from))
      ∙ get_or-set_other (mail_of w from) (to - 1) (receiver - 1) messages [] (apart_places receiver to is_receiver is_to apart)

  pub under_way-other : (from to sender receiver : ℕ) (messages : List (List ℕ)) → IsAgent w from → IsAgent w to → IsAgent w sender → IsAgent w receiver
      → (sender ≢ from) ⊎ (receiver ≢ to)
      → under_way (with_under_way w from to messages) sender receiver ≡ under_way w sender receiver
  under_way-other from to sender receiver messages is_from is_to is_sender is_receiver apart = by (eqb sender from) refl apart
    where
      by : (b : Bool) → eqb sender from ≡ b → (sender ≢ from) ⊎ (receiver ≢ to) → under_way (with_under_way w from to messages) sender receiver ≡ under_way w sender receiver
      by false test either = other_sender from to sender receiver messages is_from is_sender (eqb-false sender from test)
      by true test (inl other) = absurd (other (eqb-true sender from test))
      by true test (inr other) =
          subst (λ i. under_way (with_under_way w from to messages) i receiver ≡ under_way w i receiver) (sym (eqb-true sender from test))
          (other_receiver from to receiver messages is_from is_to is_receiver other)

-- ---- messages go out

pub sent-agents : (from : ℕ) (w : World) (x : Out) → (with_sent from w x).agents ≡ w.agents
sent-agents from w x = by (is_agent w x.to) _
  where
    by : (b : Bool) (messages : List (List ℕ)) → (if b then with_under_way w from x.to messages else w).agents ≡ w.agents
    by true messages = refl
    by false messages = refl

pub all_sent-agents : (from : ℕ) (w : World) (out : List Out) → (fold (with_sent from) w out).agents ≡ w.agents
all_sent-agents from w [] = refl
all_sent-agents from w (x ∷ xs) = all_sent-agents from (with_sent from w x) xs ∙ sent-agents from w x

pub sent-lists : (from : ℕ) (w : World) (x : Out) → HasLists w → HasLists (with_sent from w x)
sent-lists from w x lists = by (is_agent w x.to) _
  where
    by : (b : Bool) (messages : List (List ℕ)) → HasLists (if b then with_under_way w from x.to messages else w)
    by true messages = under_way-lists w from x.to messages lists
    by false messages = lists

pub all_sent-lists : (from : ℕ) (w : World) (out : List Out) → HasLists w → HasLists (fold (with_sent from) w out)
all_sent-lists from w [] lists = lists
all_sent-lists from w (x ∷ xs) lists = all_sent-lists from (with_sent from w x) xs (sent-lists from w x lists)

-- what goes out from one agent, as another pair of agents sees it
abbrev pub sent_from : ℕ → ℕ → ℕ → List Out → List (List ℕ)
sent_from from sender receiver out = if sender == from then sent_to receiver out else []

pub sent_from-none : (from sender receiver : ℕ) → sent_from from sender receiver [] ≡ []
sent_from-none from sender receiver = by (sender == from)
  where
    by : (b : Bool) → (if b then sent_to receiver [] else []) ≡ []
    by true = refl
    by false = refl

pub sent_to-cons : (receiver : ℕ) (x : Out) (xs : List Out) → sent_to receiver (x ∷ []) ++ sent_to receiver xs ≡ sent_to receiver (x ∷ xs)
sent_to-cons receiver x xs = by (x.to == receiver) refl
  where
    by : (b : Bool) → (x.to == receiver) ≡ b → sent_to receiver (x ∷ []) ++ sent_to receiver xs ≡ sent_to receiver (x ∷ xs)
    by true test = rw test refl
    by false test = rw test refl

sent_from-cons : (from sender receiver : ℕ) (x : Out) (xs : List Out) → sent_from from sender receiver (x ∷ []) ++ sent_from from sender receiver xs ≡ sent_from from sender receiver (x ∷ xs)
sent_from-cons from sender receiver x xs = by (sender == from)
  where
    by : (b : Bool) → (if b then sent_to receiver (x ∷ []) else []) ++ (if b then sent_to receiver xs else []) ≡ (if b then sent_to receiver (x ∷ xs) else [])
    by true = sent_to-cons receiver x xs
    by false = refl

sent_to-one : (receiver : ℕ) (x : Out) → x.to ≡ receiver → sent_to receiver (x ∷ []) ≡ x.bytes ∷ []
sent_to-one receiver x is = rw (eq-eqb x.to receiver is) refl

sent_to-nobody : (receiver : ℕ) (x : Out) → (x.to == receiver) ≡ false → sent_to receiver (x ∷ []) ≡ []
sent_to-nobody receiver x test = rw test refl

-- one message goes out behind those that are under way
pub under_way-sent : (w : World) → HasLists w → (from sender receiver : ℕ) (x : Out) → IsAgent w from → IsAgent w sender → IsAgent w receiver
    → under_way (with_sent from w x) sender receiver ≡ under_way w sender receiver ++ sent_from from sender receiver (x ∷ [])
under_way-sent w lists from sender receiver x is_from is_sender is_receiver =
    by_sender (sender == from) refl
  where
    Goes : Bool → Bool → Type 0
    Goes b c =
        under_way (if b then with_under_way w from x.to (under_way w from x.to ++ x.bytes ∷ []) else w) sender receiver
        ≡ under_way w sender receiver ++ (if c then sent_to receiver (x ∷ []) else [])

    unchanged : (b : Bool) → is_agent w x.to ≡ b → (sender ≢ from) ⊎ (receiver ≢ x.to)
        → under_way (if b then with_under_way w from x.to (under_way w from x.to ++ x.bytes ∷ []) else w) sender receiver ≡ under_way w sender receiver
    unchanged true test apart =
        under_way-other w lists from x.to sender receiver (under_way w from x.to ++ x.bytes ∷ []) is_from (is_agent-is w x.to test) is_sender is_receiver apart
    unchanged false test apart = refl

    -- for this receiver
    for_it : (b : Bool) → is_agent w x.to ≡ b → sender ≡ from → x.to ≡ receiver → Goes b true
    for_it true test same is =
        subst (λ i. under_way (with_under_way w from x.to (under_way w from x.to ++ x.bytes ∷ [])) i receiver ≡ under_way w i receiver ++ sent_to receiver (x ∷ [])) (sym same)
        (subst (λ k. under_way (with_under_way w from x.to (under_way w from x.to ++ x.bytes ∷ [])) from k ≡ under_way w from k ++ sent_to receiver (x ∷ [])) is
        (under_way-same w lists from x.to (under_way w from x.to ++ x.bytes ∷ []) is_from (is_agent-is w x.to test) ∙ ap (λ ms. under_way w from x.to ++ ms) (sym (sent_to-one receiver x is))))
    for_it false test same is =
        let one = is_agent-true w x.to (subst (λ i. IsAgent w i) (sym is) is_receiver) in
        absurd (let impossible : ⊥ = cc in impossible)

    by_receiver : (b : Bool) → is_agent w x.to ≡ b → sender ≡ from → (c : Bool) → (x.to == receiver) ≡ c → Goes b true
    by_receiver b test same true is = for_it b test same (eqb-true x.to receiver is)
    by_receiver b test same false is =
        unchanged b test (inr (λ e. eqb-false x.to receiver is (sym e))) ∙ sym (append-nil (under_way w sender receiver))
        ∙ ap (λ ms. under_way w sender receiver ++ ms) (sym (sent_to-nobody receiver x is))

    by_sender : (c : Bool) → (sender == from) ≡ c → Goes (is_agent w x.to) c
    by_sender true is = by_receiver (is_agent w x.to) refl (eqb-true sender from is) (x.to == receiver) refl
    by_sender false is =
        unchanged (is_agent w x.to) refl (inl (eqb-false sender from is)) ∙ sym (append-nil (under_way w sender receiver))

-- messages go out, one after another
pub under_way-all_sent : (w : World) → HasLists w → (from sender receiver : ℕ) (out : List Out) → IsAgent w from → IsAgent w sender → IsAgent w receiver
    → under_way (fold (with_sent from) w out) sender receiver ≡ under_way w sender receiver ++ sent_from from sender receiver out
under_way-all_sent w lists from sender receiver [] is_from is_sender is_receiver =
    sym (append-nil (under_way w sender receiver)) ∙ ap (λ ms. under_way w sender receiver ++ ms) (sym (sent_from-none from sender receiver))
under_way-all_sent w lists from sender receiver (x ∷ xs) is_from is_sender is_receiver =
    let next = with_sent from w x in
    let still : (agent : ℕ) → IsAgent w agent → IsAgent next agent = λ agent is. IsAgent-agents next w agent (ap length (sent-agents from w x)) is in
    under_way-all_sent next (sent-lists from w x lists) from sender receiver xs (still from is_from) (still sender is_sender) (still receiver is_receiver)
    ∙ ap (λ ms. ms ++ sent_from from sender receiver xs) (under_way-sent w lists from sender receiver x is_from is_sender is_receiver)
    ∙ append_assoc (under_way w sender receiver) (sent_from from sender receiver (x ∷ [])) (sent_from from sender receiver xs)
    ∙ ap (λ ms. under_way w sender receiver ++ ms) (sent_from-cons from sender receiver x xs)
