-- A receipt, as lists and posts see it.
use Rattle.std.proofs.Common.{◌≡◌, ◌≢◌, ℕ, suc, max, ◌-◌, ◌^◌, ◌<◌, ◌≤◌, ◌&&◌, eqb, eq-eqb, ne_eqb, Bool, false, true, List, [], ◌∷◌, ◌++◌, drop, length, refl, sym, ap, subst, ◌∙◌, append_assoc, arith, length-set, get_or-set_same, get_or-set_other}
use Rattle.std.specs.Prelude.{All}
use Rattle.std.proofs.lemmas.List.{append-nil}
use Rattle.std.proofs.lemmas.List.Elements.{All-append, All-cons, All-nil, filter_map-append}
use mathlib.Core.Logic.{dite}
use native.Mathlib.Decide.{ℕ_discrete}
use Rattle.mp_messages.specs.History.{put_between, taken_between}
use Rattle.mp_stamps.specs.Lists.{AreTaken, HasTaken, IsAgentOf, IsOwn, Rises, clock, mail_of, puts, receipts}
use Rattle.mp_stamps.specs.Lists.AreTaken.{none, more}
use Rattle.mp_stamps.specs.Mail.{Mail}
use Rattle.mp_stamps.specs.declared.stamped.Stamped.{Stamped}
use Rattle.mp_post_rule.specs.Queues.{waiting_for, without_oldest}
use Rattle.mp_post_rule.specs.Rule.{IsSound, Network, greatest_stamp}
use Rattle.mp_post_rule.specs.Views.{receipt}
use Rattle.mp_post_rule.specs.declared.kept.Kept.{Kept}
use Rattle.mp_post_rule.proofs.Places.{put, put_here, put_else}
use Rattle.mp_post_rule.proofs.Stamps.{Above, below_last, one_rises, rises_more}

one_more : (gone rs : List Mail) (m r : Mail) → AreTaken gone rs → m.bytes ≡ r.bytes → m.stamp < r.stamp
    → AreTaken (gone ++ m ∷ []) (rs ++ r ∷ [])
one_more _ _ m r none same later = more m r [] [] same later none
one_more _ _ m r (more p q ps qs same' later' rest) same later =
    more p q (ps ++ m ∷ []) (qs ++ r ∷ []) same' later' (one_more ps qs m r rest same later)

-- the first that waits is taken
next_taken : (ps rs ws : List Mail) (m r : Mail) → HasTaken ps rs (m ∷ ws) → m.bytes ≡ r.bytes → m.stamp < r.stamp
    → HasTaken ps (rs ++ r ∷ []) ws
next_taken ps rs ws m r h same later = record {
  gone = h.gone ++ m ∷ [];
  split = h.split ∙ sym (append_assoc h.gone (m ∷ []) ws);
  were_taken = one_more h.gone rs m r h.were_taken same later;
}

module _ (agents i r : ℕ) (net : Network) (sound : IsSound agents net) (is_i : IsAgentOf agents i) (is_r : IsAgentOf agents r) (apart : i ≢ r)
    (m : Mail) (ws : List Mail) (waits : waiting_for r (net.posts i) ≡ m ∷ ws) (fits : suc (max (clock (net.lists r)) m.stamp) < 2 ^ 64) where
  abbrev pub took : Stamped
  took = receipt (clock (net.lists r)) r i m

  abbrev pub left : Kept
  left = without_oldest r (net.posts i)

  abbrev pub net_received : Network
  net_received = record {
    lists = put net.lists r (net.lists r ++ took ∷ []);
    halted = net.halted;
    posts = put net.posts i left;
  }

  puts_same : (from to : ℕ) → puts from to (net_received.lists from) ≡ puts from to (net.lists from)
  puts_same from to = dite (ℕ_discrete from r)
      (λ same. ap (puts from to) (ap net_received.lists same ∙ put_here net.lists r (net.lists r ++ took ∷ []))
      ∙ (filter_map-append (λ (s : Stamped). mail_of s.stamp (put_between from to s.entry)) (net.lists r) (took ∷ [])
      ∙ (append-nil (puts from to (net.lists r)) ∙ ap (λ l. puts from to (net.lists l)) (sym same))))
      (λ other. ap (puts from to) (put_else net.lists r from (net.lists r ++ took ∷ []) other))

  receipts_at : (from : ℕ) → receipts from r (net_received.lists r) ≡ receipts from r (net.lists r) ++ receipts from r (took ∷ [])
  receipts_at from = ap (receipts from r) (put_here net.lists r (net.lists r ++ took ∷ []))
      ∙ filter_map-append (λ (s : Stamped). mail_of s.stamp (taken_between from r s.entry)) (net.lists r) (took ∷ [])

  both : (p q : Bool) → p ≡ true → q ≡ true → (p && q) ≡ true
  both true q a b = b
  both false q a b = absurd cc

  one : receipts i r (took ∷ []) ≡ record { stamp = took.stamp; bytes = m.bytes } ∷ []
  one = let e = both (eqb i i) (eqb r r) (eq-eqb i i refl) (eq-eqb r r refl) in rw e refl

  neither : (p q : Bool) → p ≡ false → (p && q) ≡ false
  neither true q e = absurd cc
  neither false q e = refl

  no_other : (from : ℕ) → from ≢ i → receipts from r (took ∷ []) ≡ []
  no_other from other = let e = neither (eqb i from) (eqb r r) (ne_eqb i from (λ same. other (sym same))) in rw e refl

  waiting_same : (from to : ℕ) → IsAgentOf agents to → (from ≡ i → to ≢ r) → waiting_for to (net_received.posts from) ≡ waiting_for to (net.posts from)
  waiting_same from to is not = dite (ℕ_discrete from i)
      (λ same. let one = is.from_1 in let two = is_r.from_1 in
      ap (waiting_for to) (ap net_received.posts same ∙ put_here net.posts i left)
      ∙ (get_or-set_other (net.posts i).waiting (r - 1) (to - 1) (drop 1 (waiting_for r (net.posts i))) [] (λ e. not same (omega arith))
      ∙ ap (λ l. waiting_for to (net.posts l)) (sym same)))
      (λ other. ap (waiting_for to) (put_else net.posts i from left other))

  waiting_left : waiting_for r (net_received.posts i) ≡ ws
  waiting_left = let low = is_r.from_1 in let high = is_r.at_most in let many = sound.rows i is_i in
      ap (waiting_for r) (put_here net.posts i left) ∙ (get_or-set_same (net.posts i).waiting (r - 1) (drop 1 (waiting_for r (net.posts i))) [] (omega arith) ∙ ap (drop 1) waits)

  -- a pair that is not that of the receipt
  stays : (from to : ℕ) → IsAgentOf agents from → IsAgentOf agents to → (from ≡ i → to ≢ r)
      → receipts from to (net_received.lists to) ≡ receipts from to (net.lists to)
      → HasTaken (puts from to (net_received.lists from)) (receipts from to (net_received.lists to)) (waiting_for to (net_received.posts from))
  stays from to is_from is_to not same =
      subst (λ (l : List Mail × (List Mail × List Mail)). HasTaken l.0 l.1.0 l.1.1)
      (λ j. (sym (puts_same from to) j, (sym same j, sym (waiting_same from to is_to not) j)))
      (sound.pairs from to is_from is_to)

  taken : HasTaken (puts i r (net_received.lists i)) (receipts i r (net_received.lists r)) (waiting_for r (net_received.posts i))
  taken =
      subst (λ (l : List Mail × (List Mail × List Mail)). HasTaken l.0 l.1.0 l.1.1)
      (λ j. (sym (puts_same i r) j, (sym (receipts_at i ∙ ap (λ l. receipts i r (net.lists r) ++ l) one) j, sym waiting_left j)))
      (next_taken (puts i r (net.lists i)) (receipts i r (net.lists r)) ws m (record { stamp = took.stamp; bytes = m.bytes })
      (subst (HasTaken (puts i r (net.lists i)) (receipts i r (net.lists r))) waits (sound.pairs i r is_i is_r)) refl (omega arith))

  pairs : (from to : ℕ) → IsAgentOf agents from → IsAgentOf agents to
      → HasTaken (puts from to (net_received.lists from)) (receipts from to (net_received.lists to)) (waiting_for to (net_received.posts from))
  pairs from to is_from is_to = dite (ℕ_discrete to r)
      (λ same. dite (ℕ_discrete from i)
      (λ first. subst (λ (l : ℕ × ℕ). HasTaken (puts l.0 l.1 (net_received.lists l.0)) (receipts l.0 l.1 (net_received.lists l.1)) (waiting_for l.1 (net_received.posts l.0)))
      (λ j. (sym first j, sym same j)) taken)
      (λ other. stays from to is_from is_to (λ e. absurd (other e))
      (subst (λ n. receipts from n (net_received.lists n) ≡ receipts from n (net.lists n)) (sym same)
      (receipts_at from ∙ (ap (λ l. receipts from r (net.lists r) ++ l) (no_other from other) ∙ append-nil (receipts from r (net.lists r)))))))
      (λ other. stays from to is_from is_to (λ e. other)
      (ap (receipts from to) (put_else net.lists r to (net.lists r ++ took ∷ []) other)))

  -- of a property of lists that the changed one has
  of_list : (P : ℕ → List Stamped → Type 0) → P r (net.lists r ++ took ∷ []) → ((agent : ℕ) → IsAgentOf agents agent → P agent (net.lists agent))
      → (agent : ℕ) → IsAgentOf agents agent → P agent (net_received.lists agent)
  of_list P mine others agent is = dite (ℕ_discrete agent r)
      (λ same. subst (λ b. P b (net_received.lists b)) (sym same) (subst (P r) (sym (put_here net.lists r (net.lists r ++ took ∷ []))) mine))
      (λ other. subst (P agent) (sym (put_else net.lists r agent (net.lists r ++ took ∷ []) other)) (others agent is))

  after_clock : Above (clock (net.lists r)) took
  after_clock = omega arith

  -- a message is taken
  pub sound_received : IsSound agents net_received
  sound_received = record {
    pairs = pairs;
    lists = record {
      own = of_list (λ agent list. All (λ (s : Stamped). IsOwn agents agent s.entry) list)
          (All-append (λ (s : Stamped). IsOwn agents r s.entry) (net.lists r) (took ∷ []) (sound.lists.own r is_r)
          (All-cons (λ (s : Stamped). IsOwn agents r s.entry) took [] (refl, record { of_team = is_i; differs = apart }) (All-nil (λ (s : Stamped). IsOwn agents r s.entry))))
          sound.lists.own;
      rise = of_list (λ agent list. Rises list)
          (rises_more (clock (net.lists r)) (net.lists r) (took ∷ []) (sound.lists.rise r is_r) (below_last 0 (net.lists r) (sound.lists.rise r is_r))
          (one_rises took) (All-cons (Above (clock (net.lists r))) took [] after_clock (All-nil (Above (clock (net.lists r))))))
          sound.lists.rise;
      bound = of_list (λ agent list. All (λ (s : Stamped). s.stamp ≤ greatest_stamp s.entry) list)
          (All-append (λ (s : Stamped). s.stamp ≤ greatest_stamp s.entry) (net.lists r) (took ∷ []) (sound.lists.bound r is_r)
          (All-cons (λ (s : Stamped). s.stamp ≤ greatest_stamp s.entry) took [] (omega arith) (All-nil (λ (s : Stamped). s.stamp ≤ greatest_stamp s.entry))))
          sound.lists.bound;
    };
    rows = λ post is. dite (ℕ_discrete post i)
        (λ same. ap (λ (k : Kept). length k.waiting) (ap net_received.posts same ∙ put_here net.posts i left)
        ∙ (length-set (net.posts i).waiting (r - 1) (drop 1 (waiting_for r (net.posts i))) ∙ sound.rows i is_i))
        (λ other. ap (λ (k : Kept). length k.waiting) (put_else net.posts i post left other) ∙ sound.rows post is);
    named = λ post agent is has. dite (ℕ_discrete post i)
        (λ same. sound.named i agent is_i (sym (ap (λ (k : Kept). k.halted) (ap net_received.posts same ∙ put_here net.posts i left)) ∙ has))
        (λ other. sound.named post agent is (sym (ap (λ (k : Kept). k.halted) (put_else net.posts i post left other)) ∙ has));
  }
