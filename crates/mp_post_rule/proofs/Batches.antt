-- A batch, as lists and posts see it.
use Rattle.std.proofs.Common.{◌≡◌, ◌≢◌, ℕ, zero, suc, ◌+◌, ◌-◌, ◌^◌, ◌<◌, ◌≤◌, ◌&&◌, eqb, ne_eqb, false, true, List, [], ◌∷◌, ◌++◌, length, get_or, refl, sym, ap, subst, ◌∙◌, arith, append_assoc}
use Rattle.std.specs.Prelude.{All, Bool}
use Rattle.std.proofs.lemmas.List.{append-nil}
use Rattle.std.proofs.lemmas.List.Elements.{All-append, All-cons, All-head, All-nil, All-tail, filter_map-append}
use mathlib.Core.Logic.{dite}
use native.Mathlib.Decide.{ℕ_discrete}
use Rattle.mp_messages.specs.declared.history.Entry.{Entry}
use Rattle.mp_messages.specs.declared.history.Entry.TheVariants.{Act, Put, Took}
use Rattle.mp_messages.specs.History.{put_between, taken_between}
use Rattle.mp_stamps.specs.Lists.{HasTaken, IsAgentOf, IsOwn, Rises, clock, mail_of, puts, receipts}
use Rattle.mp_stamps.specs.Mail.{Mail}
use Rattle.mp_stamps.specs.declared.stamped.Stamped.{Stamped}
use Rattle.mp_post_rule.specs.Queues.{IsSignable, stamped_after, waiting_for, with_puts, with_puts_from}
use Rattle.mp_post_rule.specs.Rule.{IsSound, Network, greatest_stamp}
use Rattle.mp_post_rule.specs.declared.kept.Kept.{Kept}
use Rattle.mp_post_rule.proofs.Places.{put, put_here, put_else}
use Rattle.mp_post_rule.proofs.Stamps.{batch_above, batch_bound, batch_rises, below_last, rises_more}

-- more is put, and waits behind the others
more_put : (ps rs ws new : List Mail) → HasTaken ps rs ws → HasTaken (ps ++ new) rs (ws ++ new)
more_put ps rs ws new h = record {
  gone = h.gone;
  split = ap (λ (l : List Mail). l ++ new) h.split ∙ append_assoc h.gone ws new;
  were_taken = h.were_taken;
}

-- what waits for an agent, in rows from some number on
row_more : (from n : ℕ) (new : List Stamped) (rows : List (List Mail)) (k : ℕ) → k < length rows
    → get_or (with_puts_from from n new rows) k [] ≡ get_or rows k [] ++ puts from (n + k) new
row_more from n new [] k low = absurd (omega arith)
row_more from n new (row ∷ rows) zero low = ap (λ to. row ++ puts from to new) (omega arith)
row_more from n new (row ∷ rows) (suc k) low =
    row_more from (suc n) new rows k (omega arith) ∙ ap (λ to. get_or rows k [] ++ puts from to new) (omega arith)

waiting_more : (from to agents : ℕ) (new : List Stamped) (kept : Kept) → length kept.waiting ≡ agents → IsAgentOf agents to
    → waiting_for to (with_puts from new kept) ≡ waiting_for to kept ++ puts from to new
waiting_more from to agents new kept rows is =
    let low = is.from_1 in let high = is.at_most in
    row_more from 1 new kept.waiting (to - 1) (omega arith) ∙ ap (λ t. waiting_for to kept ++ puts from t new) (omega arith)

pub rows_same : (from n : ℕ) (new : List Stamped) (rows : List (List Mail)) → length (with_puts_from from n new rows) ≡ length rows
rows_same from n new [] = refl
rows_same from n new (row ∷ rows) = ap suc (rows_same from (suc n) new rows)

pub puts_more : (from to : ℕ) (list new : List Stamped) → puts from to (list ++ new) ≡ puts from to list ++ puts from to new
puts_more from to list new = filter_map-append (λ (s : Stamped). mail_of s.stamp (put_between from to s.entry)) list new

pub receipts_more : (from to : ℕ) (list new : List Stamped) → receipts from to (list ++ new) ≡ receipts from to list ++ receipts from to new
receipts_more from to list new = filter_map-append (λ (s : Stamped). mail_of s.stamp (taken_between from to s.entry)) list new

neither : (p q : Bool) → p ≡ false → (p && q) ≡ false
neither true q e = absurd cc
neither false q e = refl

-- a batch takes nothing, and puts nothing for others
none_taken : (agents a last : ℕ) (batch : List Entry) → All (IsSignable agents a) batch → (from to : ℕ) → receipts from to (stamped_after last batch) ≡ []
none_taken agents a last [] all from to = refl
none_taken agents a last (e ∷ es) all from to = one e (All-head (IsSignable agents a) e es all)
    (none_taken agents a (suc last) es (All-tail (IsSignable agents a) e es all) from to)
  where
    one : (x : Entry) → IsSignable agents a x → receipts from to (stamped_after (suc last) es) ≡ []
        → receipts from to (record { stamp = suc last; entry = x } ∷ stamped_after (suc last) es) ≡ []
    one (Act agent kind) is rest = rest
    one (Put sender receiver bytes) is rest = rest
    one (Took by sender bytes) is rest = absurd is

others_put : (agents a last : ℕ) (batch : List Entry) → All (IsSignable agents a) batch → (from to : ℕ) → from ≢ a → puts from to (stamped_after last batch) ≡ []
others_put agents a last [] all from to other = refl
others_put agents a last (e ∷ es) all from to other = one e (All-head (IsSignable agents a) e es all)
    (others_put agents a (suc last) es (All-tail (IsSignable agents a) e es all) from to other)
  where
    one : (x : Entry) → IsSignable agents a x → puts from to (stamped_after (suc last) es) ≡ []
        → puts from to (record { stamp = suc last; entry = x } ∷ stamped_after (suc last) es) ≡ []
    one (Act agent kind) is rest = rest
    one (Put sender receiver bytes) is rest =
        let e = neither (eqb sender from) (eqb receiver to) (ne_eqb sender from (λ same. other (sym same ∙ is.0))) in rw e rest
    one (Took by sender bytes) is rest = absurd is

own_entry : (agents a : ℕ) (x : Entry) → IsSignable agents a x → IsOwn agents a x
own_entry agents a (Act agent kind) is = is
own_entry agents a (Put from to bytes) is = is
own_entry agents a (Took by from bytes) is = absurd is

all_own : (agents a last : ℕ) (batch : List Entry) → All (IsSignable agents a) batch → All (λ (s : Stamped). IsOwn agents a s.entry) (stamped_after last batch)
all_own agents a last [] all = All-nil (λ (s : Stamped). IsOwn agents a s.entry)
all_own agents a last (e ∷ es) all = All-cons (λ (s : Stamped). IsOwn agents a s.entry) (record { stamp = suc last; entry = e }) (stamped_after (suc last) es)
    (own_entry agents a e (All-head (IsSignable agents a) e es all))
    (all_own agents a (suc last) es (All-tail (IsSignable agents a) e es all))

module _ (agents a : ℕ) (net : Network) (sound : IsSound agents net) (is_a : IsAgentOf agents a) (batch : List Entry)
    (signable : All (IsSignable agents a) batch) (fits : clock (net.lists a) + length batch ≤ 2 ^ 64 - 2) where
  abbrev pub new : List Stamped
  new = stamped_after (clock (net.lists a)) batch

  abbrev pub net_signed : Network
  net_signed = record {
    lists = put net.lists a (net.lists a ++ new);
    halted = net.halted;
    posts = put net.posts a (with_puts a new (net.posts a));
  }

  received_same : (from to : ℕ) → receipts from to (net_signed.lists to) ≡ receipts from to (net.lists to)
  received_same from to = dite (ℕ_discrete to a)
      (λ same. ap (receipts from to) (ap net_signed.lists same ∙ put_here net.lists a (net.lists a ++ new))
      ∙ (receipts_more from to (net.lists a) new ∙ (ap (λ l. receipts from to (net.lists a) ++ l) (none_taken agents a (clock (net.lists a)) batch signable from to) ∙ append-nil (receipts from to (net.lists a))))
      ∙ ap (λ t. receipts from to (net.lists t)) (sym same))
      (λ other. ap (receipts from to) (put_else net.lists a to (net.lists a ++ new) other))

  pairs : (from to : ℕ) → IsAgentOf agents from → IsAgentOf agents to
      → HasTaken (puts from to (net_signed.lists from)) (receipts from to (net_signed.lists to)) (waiting_for to (net_signed.posts from))
  pairs from to is_from is_to = subst (λ rs. HasTaken (puts from to (net_signed.lists from)) rs (waiting_for to (net_signed.posts from)))
      (sym (received_same from to))
      (dite (ℕ_discrete from a)
      (λ same. subst (λ f. HasTaken (puts f to (net_signed.lists f)) (receipts f to (net.lists to)) (waiting_for to (net_signed.posts f))) (sym same)
      (subst (λ (l : List Stamped × Kept). HasTaken (puts a to l.0) (receipts a to (net.lists to)) (waiting_for to l.1))
      (λ i. (sym (put_here net.lists a (net.lists a ++ new)) i, sym (put_here net.posts a (with_puts a new (net.posts a))) i))
      (subst (λ (l : List Mail × List Mail). HasTaken l.0 (receipts a to (net.lists to)) l.1)
      (λ i. (sym (puts_more a to (net.lists a) new) i, sym (waiting_more a to agents new (net.posts a) (sound.rows a is_a) is_to) i))
      (more_put (puts a to (net.lists a)) (receipts a to (net.lists to)) (waiting_for to (net.posts a)) (puts a to new) (sound.pairs a to is_a is_to)))))
      (λ other. subst (λ (l : List Stamped × Kept). HasTaken (puts from to l.0) (receipts from to (net.lists to)) (waiting_for to l.1))
      (λ i. (sym (put_else net.lists a from (net.lists a ++ new) other) i, sym (put_else net.posts a from (with_puts a new (net.posts a)) other) i))
      (sound.pairs from to is_from is_to)))

  -- of a property of lists that the changed one has
  of_list : (P : ℕ → List Stamped → Type 0) → P a (net.lists a ++ new) → ((agent : ℕ) → IsAgentOf agents agent → P agent (net.lists agent))
      → (agent : ℕ) → IsAgentOf agents agent → P agent (net_signed.lists agent)
  of_list P mine others agent is = dite (ℕ_discrete agent a)
      (λ same. subst (λ b. P b (net_signed.lists b)) (sym same) (subst (P a) (sym (put_here net.lists a (net.lists a ++ new))) mine))
      (λ other. subst (P agent) (sym (put_else net.lists a agent (net.lists a ++ new) other)) (others agent is))

  -- a batch is signed, and its messages wait at the own post
  pub sound_signed : IsSound agents net_signed
  sound_signed = record {
    pairs = pairs;
    lists = record {
      own = of_list (λ agent list. All (λ (s : Stamped). IsOwn agents agent s.entry) list)
          (All-append (λ (s : Stamped). IsOwn agents a s.entry) (net.lists a) new (sound.lists.own a is_a) (all_own agents a (clock (net.lists a)) batch signable))
          sound.lists.own;
      rise = of_list (λ agent list. Rises list)
          (rises_more (clock (net.lists a)) (net.lists a) new (sound.lists.rise a is_a) (below_last 0 (net.lists a) (sound.lists.rise a is_a))
          (batch_rises (clock (net.lists a)) batch) (batch_above (clock (net.lists a)) batch))
          sound.lists.rise;
      bound = of_list (λ agent list. All (λ (s : Stamped). s.stamp ≤ greatest_stamp s.entry) list)
          (All-append (λ (s : Stamped). s.stamp ≤ greatest_stamp s.entry) (net.lists a) new (sound.lists.bound a is_a) (batch_bound (clock (net.lists a)) batch fits))
          sound.lists.bound;
    };
    rows = λ post is. dite (ℕ_discrete post a)
        (λ same. ap (λ (k : Kept). length k.waiting) (ap net_signed.posts same ∙ put_here net.posts a (with_puts a new (net.posts a)))
        ∙ (rows_same a 1 new (net.posts a).waiting ∙ sound.rows a is_a))
        (λ other. ap (λ (k : Kept). length k.waiting) (put_else net.posts a post (with_puts a new (net.posts a)) other) ∙ sound.rows post is);
    named = λ post agent is has. dite (ℕ_discrete post a)
        (λ same. sound.named a agent is_a (sym (ap (λ (k : Kept). k.halted) (ap net_signed.posts same ∙ put_here net.posts a (with_puts a new (net.posts a)))) ∙ has))
        (λ other. sound.named post agent is (sym (ap (λ (k : Kept). k.halted) (put_else net.posts a post (with_puts a new (net.posts a)) other)) ∙ has));
  }
