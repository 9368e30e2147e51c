-- The kinds of signings.
use Rattle.std.proofs.Common.{◌≡◌, ◌≢◌, ℕ, suc, max, ◌+◌, ◌-◌, ◌*◌, ◌^◌, ◌%◌, ◌<◌, ◌≤◌, eqb, eq-eqb, ne_eqb, true, false, List, [], ◌∷◌, ◌++◌, length, get_or, set, sym, refl, ap, subst, ◌∙◌, arith, Some, None}
use Rattle.std.specs.Prelude.{Option}
use Rattle.std.specs.Option.{option_map}
use Rattle.std.proofs.lemmas.Option.{same_Some}
use mathlib.Core.Logic.{dite}
use mathlib.Core.Option.{none, some}
use native.Mathlib.Decide.{ℕ_discrete}
use lib.ListN.{get_elem?}
use Rattle.atomic_table.specs.Table.{State, keeps, step, Allows}
use Rattle.mp_messages.specs.declared.history.Entry.{Entry}
use Rattle.mp_stamps.specs.Lists.{HasTaken, IsAgentOf, clock, puts, receipts}
use Rattle.mp_stamps.specs.Mail.{Mail}
use Rattle.mp_stamps.specs.declared.stamped.Stamped.{Stamped}
use Rattle.mp_post_rule.specs.declared.kept.Kept.{Kept}
use Rattle.mp_post_rule.specs.declared.view.Party.{Party}
use Rattle.mp_post_rule.specs.declared.view.View.{View}
use Rattle.mp_post_rule.specs.Kinds.{Seated, batch_in, by_in, halted, received, signed}
use Rattle.mp_post_rule.specs.Queues.{count_puts, first_halted, stamped_after, waiting_for, with_halted, with_puts, without_oldest}
use Rattle.mp_post_rule.specs.Rule.{Home, IsKept, IsSound, Network, mail_at, mail_in}
use Rattle.mp_post_rule.specs.Table.{Holds, MayReceive, MaySign}
use Rattle.mp_post_rule.specs.Views.{after_halt, after_receipt, after_signing, changed, found, list_at, list_in, marked, party_at, receipt, receipt_at, receipt_of, with_batch, with_receipt, with_value}
use Rattle.mp_post_rule.proofs.Batches.{net_signed, sound_signed}
use Rattle.mp_post_rule.proofs.Carries.{IsChanged, carried}
use Rattle.mp_post_rule.proofs.Counts.{mail_at_more, mod_first, no_other_mail, own_mail}
use Rattle.mp_post_rule.proofs.Places.{put, put_here, put_else}
use Rattle.mp_post_rule.proofs.Receipts.{net_received, sound_received}

-- a changed view, where the party and the turn are known
same_view : (a post : ℕ) (own : Party → Party) (value : Kept → Kept) (v : View) (p : Party) (kept : Kept)
    → party_at v a ≡ Some p → Holds post kept v
    → changed a own value v ≡ record v { parties = set v.parties (a - 1) (Some (own p)); turn = Some (found post (value kept)) }
same_view a post own value v p kept mine holds i = record v {
  parties = set v.parties (a - 1) (option_map own (mine i));
  turn = option_map (with_value value) (holds i);
}

same_state : (agents id word x : ℕ) (v w : View) (s : State Home View) → v ≡ w
    → IsKept agents (record { words = set s.words word x; homes = s.homes; views = set s.views id w })
    → IsKept agents (record { words = set s.words word x; homes = s.homes; views = set s.views id v })
same_state agents id word x v w s e = subst (λ u. IsKept agents (record { words = set s.words word x; homes = s.homes; views = set s.views id u })) (sym e)

-- ---- a batch

module _ (agents post id count : ℕ) (me : View) (kept : Kept) (batch : List Entry) (is_post : IsAgentOf agents post)
    (holds : Holds post kept me) (may : MaySign agents post batch me) (count_is : count ≡ count_puts batch)
    (s : State Home View) (k : IsKept agents s) (at : get_elem? s.views id ≡ some me) where
  abbrev p : Party
  p = may.party

  list_is : p.list ≡ k.net.lists post
  list_is = (k.parties.noted id post me p at may.held).2

  kept_is : kept ≡ k.net.posts post
  kept_is = k.values.noted id me (found post kept) at holds

  mine : list_at me post ≡ p.list
  mine = ap list_in may.held

  fits : clock (k.net.lists post) + length batch ≤ 2 ^ 64 - 2
  fits = subst (λ l. clock l + length batch ≤ 2 ^ 64 - 2) list_is may.stamps

  abbrev net : Network
  net = net_signed agents post k.net k.sound is_post batch may.entries fits

  abbrev value : Kept → Kept
  value = with_puts post (stamped_after (clock (list_at me post)) batch)

  changed_here : IsChanged post (found post kept) (with_batch batch p) (value kept) k.net net
  changed_here = record {
    list_here = put_here k.net.lists post (k.net.lists post ++ stamped_after (clock (k.net.lists post)) batch)
        ∙ ap (λ l. l ++ stamped_after (clock l) batch) (sym list_is);
    list_else = λ agent other. put_else k.net.lists post agent (k.net.lists post ++ stamped_after (clock (k.net.lists post)) batch) other;
    halted_here = sym (k.parties.noted id post me p at may.held).3;
    halted_else = λ agent other. refl;
    post_here = put_here k.net.posts post (with_puts post (stamped_after (clock (k.net.lists post)) batch) (k.net.posts post))
        ∙ (ap (λ l. with_puts post (stamped_after (clock l) batch) (k.net.posts post)) (sym (mine ∙ list_is)) ∙ ap value (sym kept_is));
    post_else = λ other not. put_else k.net.posts post other (with_puts post (stamped_after (clock (k.net.lists post)) batch) (k.net.posts post)) not;
  }

  pub batch_carried : IsKept agents (record {
    words = set s.words (2 * post - 1) ((get_or s.words (2 * post - 1) 0 + count) % 2 ^ 64);
    homes = s.homes;
    views = set s.views id (after_signing post batch me);
  })
  batch_carried = same_state agents id (2 * post - 1) ((get_or s.words (2 * post - 1) 0 + count) % 2 ^ 64) (after_signing post batch me)
      (record me { parties = set me.parties (post - 1) (Some (with_batch batch p)); turn = Some (found post (value kept)) }) s
      (same_view post post (with_batch batch) value me p kept may.held holds)
      (carried agents post id ((get_or s.words (2 * post - 1) 0 + count) % 2 ^ 64) me (found post kept) p (with_batch batch p) (value kept) s k at holds may.held (λ e. e)
      net changed_here (sound_signed agents post k.net k.sound is_post batch may.entries fits)
      (ap (λ n. (n + count) % 2 ^ 64) (k.counts post is_post)
      ∙ (mod_first (mail_at k.net.lists post agents) count (2 ^ 64)
      ∙ ap (λ n. n % 2 ^ 64) (ap (λ n. mail_at k.net.lists post agents + n) (count_is ∙ sym (own_mail agents post (clock (k.net.lists post)) batch may.entries))
      ∙ sym (mail_at_more k.net.lists post (stamped_after (clock (k.net.lists post)) batch) post agents is_post))))
      (λ other is not. mail_at_more k.net.lists post (stamped_after (clock (k.net.lists post)) batch) other agents is_post
      ∙ (ap (λ n. mail_at k.net.lists other agents + n) (no_other_mail agents post other (clock (k.net.lists post)) batch not may.entries) ∙ plus_none (mail_at k.net.lists other agents))))
    where
      plus_none : (n : ℕ) → n + 0 ≡ n
      plus_none n = omega arith

pub signs : (agents slots post id count : ℕ) (me : Seated) (kept : Kept) (batch : List Entry) → IsAgentOf agents post
    → Holds post kept me.0 → MaySign agents post batch me.0 → count ≡ count_puts batch
    → by_in me.1 ≡ post → batch_in me.1 ≡ batch
    → Allows (IsKept agents) slots id me (2 * post - 1) (λ n. (n + count) % 2 ^ 64) (signed (step slots (2 * post - 1) count 0 none) me)
signs agents slots post id count me kept batch is holds may count_is by_is batch_is s k wide at bound = (
  after_signing post batch me.0,
  keeps,
  tt,
  batch_carried agents post id count me.0 kept batch is holds may count_is s k at,
  (λ i. after_signing (sym by_is i) (sym batch_is i) me.0, refl),
)

-- ---- a halt

module _ (agents post by id : ℕ) (me : View) (kept : Kept) (p : Party) (is_post : IsAgentOf agents post)
    (holds : Holds post kept me) (held : party_at me by ≡ Some p)
    (s : State Home View) (k : IsKept agents s) (at : get_elem? s.views id ≡ some me) where
  kept_is' : kept ≡ k.net.posts post
  kept_is' = k.values.noted id me (found post kept) at holds

  abbrev net' : Network
  net' = record {
    lists = k.net.lists;
    halted = put k.net.halted by true;
    posts = put k.net.posts post (with_halted by (k.net.posts post));
  }

  still : (agent : ℕ) → k.net.halted agent ≡ true → net'.halted agent ≡ true
  still agent is = dite (ℕ_discrete agent by)
      (λ same. ap net'.halted same ∙ put_here k.net.halted by true)
      (λ other. put_else k.net.halted by agent true other ∙ is)

  -- whom a post names is an agent of the team, and marked
  abbrev IsNamed : ℕ → Type 0
  IsNamed agent = IsAgentOf agents agent × (net'.halted agent ≡ true)

  still_named : (q agent : ℕ) → IsAgentOf agents q → (k.net.posts q).halted ≡ Some agent → IsNamed agent
  still_named q agent is has = let old = k.sound.named q agent is has in (old.0, still agent old.1)

  by_named : IsNamed by
  by_named = ((k.parties.noted id by me p at held).0, put_here k.net.halted by true)

  named_first : (agent : ℕ) (o : Option ℕ) → (k.net.posts post).halted ≡ o → first_halted by o ≡ Some agent → IsNamed agent
  named_first agent None e has = subst IsNamed (same_Some by agent has) by_named
  named_first agent (Some other) e has = still_named post agent is_post (e ∙ has)

  sound : IsSound agents net'
  sound = record {
    pairs = λ from to is_from is_to. subst (HasTaken (puts from to (k.net.lists from)) (receipts from to (k.net.lists to)))
        (dite (ℕ_discrete from post)
        (λ same. ap (λ n. waiting_for to (k.net.posts n)) same ∙ sym (ap (waiting_for to) (ap net'.posts same ∙ put_here k.net.posts post (with_halted by (k.net.posts post)))))
        (λ other. sym (ap (waiting_for to) (put_else k.net.posts post from (with_halted by (k.net.posts post)) other))))
        (k.sound.pairs from to is_from is_to);
    lists = record { own = k.sound.lists.own; rise = k.sound.lists.rise; bound = k.sound.lists.bound };
    rows = λ q is. dite (ℕ_discrete q post)
        (λ same. ap (λ (x : Kept). length x.waiting) (ap net'.posts same ∙ put_here k.net.posts post (with_halted by (k.net.posts post))) ∙ k.sound.rows post is_post)
        (λ other. ap (λ (x : Kept). length x.waiting) (put_else k.net.posts post q (with_halted by (k.net.posts post)) other) ∙ k.sound.rows q is);
    named = λ q agent is has. dite (ℕ_discrete q post)
        (λ same. named_first agent (k.net.posts post).halted refl
        (sym (ap (λ (x : Kept). x.halted) (ap net'.posts same ∙ put_here k.net.posts post (with_halted by (k.net.posts post)))) ∙ has))
        (λ other. still_named q agent is
        (sym (ap (λ (x : Kept). x.halted) (put_else k.net.posts post q (with_halted by (k.net.posts post)) other)) ∙ has));
  }

  pub halt_carried : IsKept agents (record {
    words = set s.words (2 * post - 1) ((get_or s.words (2 * post - 1) 0 + 0) % 2 ^ 64);
    homes = s.homes;
    views = set s.views id (after_halt by me);
  })
  halt_carried = same_state agents id (2 * post - 1) ((get_or s.words (2 * post - 1) 0 + 0) % 2 ^ 64) (after_halt by me)
      (record me { parties = set me.parties (by - 1) (Some (marked p)); turn = Some (found post (with_halted by kept)) }) s
      (same_view by post marked (with_halted by) me p kept held holds)
      (carried agents by id ((get_or s.words (2 * post - 1) 0 + 0) % 2 ^ 64) me (found post kept) p (marked p) (with_halted by kept) s k at holds held (λ e. refl)
      net' (record {
        list_here = sym (k.parties.noted id by me p at held).2;
        list_else = λ agent other. refl;
        halted_here = put_here k.net.halted by true;
        halted_else = λ agent other. put_else k.net.halted by agent true other;
        post_here = put_here k.net.posts post (with_halted by (k.net.posts post)) ∙ ap (with_halted by) (sym kept_is');
        post_else = λ other not. put_else k.net.posts post other (with_halted by (k.net.posts post)) not;
      }) sound
      (ap (λ n. (n + 0) % 2 ^ 64) (k.counts post is_post)
      ∙ (mod_first (mail_at k.net.lists post agents) 0 (2 ^ 64) ∙ ap (λ n. n % 2 ^ 64) (plus_none' (mail_at k.net.lists post agents))))
      (λ other is not. refl))
    where
      plus_none' : (n : ℕ) → n + 0 ≡ n
      plus_none' n = omega arith

pub halts : (agents slots post by id : ℕ) (me : Seated) (kept : Kept) (p : Party) → IsAgentOf agents post
    → Holds post kept me.0 → party_at me.0 by ≡ Some p → by_in me.1 ≡ by
    → Allows (IsKept agents) slots id me (2 * post - 1) (λ n. (n + 0) % 2 ^ 64) (halted (step slots (2 * post - 1) 0 0 none) me)
halts agents slots post by id me kept p is holds held by_is s k wide at bound = (
  after_halt by me.0,
  keeps,
  tt,
  halt_carried agents post by id me.0 kept p is holds held s k at,
  (λ i. after_halt (sym by_is i) me.0, refl),
)

-- ---- a receipt

module _ (agents post by id : ℕ) (me : View) (kept : Kept) (is_post : IsAgentOf agents post) (is_by : IsAgentOf agents by)
    (holds : Holds post kept me) (may : MayReceive by post kept me)
    (s : State Home View) (k : IsKept agents s) (at : get_elem? s.views id ≡ some me) where
  abbrev r : Party
  r = may.party

  abbrev m : Mail
  m = may.message

  list_is'' : r.list ≡ k.net.lists by
  list_is'' = (k.parties.noted id by me r at may.held).2

  kept_is'' : kept ≡ k.net.posts post
  kept_is'' = k.values.noted id me (found post kept) at holds

  waits : waiting_for by (k.net.posts post) ≡ m ∷ may.others
  waits = ap (waiting_for by) (sym kept_is'') ∙ may.waits

  fits'' : suc (max (clock (k.net.lists by)) m.stamp) < 2 ^ 64
  fits'' = subst (λ l. suc (max (clock l) m.stamp) < 2 ^ 64) list_is'' may.stamp

  abbrev net'' : Network
  net'' = net_received agents post by k.net k.sound is_post is_by may.other m may.others waits fits''

  abbrev took : Stamped
  took = receipt (clock (k.net.lists by)) by post m

  -- the party with the receipt
  list_got : (with_receipt by me.turn r).list ≡ k.net.lists by ++ took ∷ []
  list_got = ap (λ o. r.list ++ receipt_at (clock r.list) by o) holds
      ∙ (ap (λ l. r.list ++ receipt_of (clock r.list) by post l) may.waits
      ∙ ap (λ l. l ++ receipt (clock l) by post m ∷ []) list_is'')

  one_mail : mail_in post (took ∷ []) ≡ 1
  one_mail = let e : eqb post post ≡ true = eq-eqb post post refl in rw e refl

  no_mail_of : (other : ℕ) → other ≢ post → mail_in other (took ∷ []) ≡ 0
  no_mail_of other not = let e : eqb post other ≡ false = ne_eqb post other (λ same. not (sym same)) in rw e refl

  pub receipt_carried : IsKept agents (record {
    words = set s.words (2 * post - 1) ((get_or s.words (2 * post - 1) 0 + 1) % 2 ^ 64);
    homes = s.homes;
    views = set s.views id (after_receipt by me);
  })
  receipt_carried = same_state agents id (2 * post - 1) ((get_or s.words (2 * post - 1) 0 + 1) % 2 ^ 64) (after_receipt by me)
      (record me { parties = set me.parties (by - 1) (Some (with_receipt by me.turn r)); turn = Some (found post (without_oldest by kept)) }) s
      (same_view by post (with_receipt by me.turn) (without_oldest by) me r kept may.held holds)
      (carried agents by id ((get_or s.words (2 * post - 1) 0 + 1) % 2 ^ 64) me (found post kept) r (with_receipt by me.turn r) (without_oldest by kept) s k at holds may.held (λ e. e)
      net'' (record {
        list_here = put_here k.net.lists by (k.net.lists by ++ took ∷ []) ∙ sym list_got;
        list_else = λ agent other. put_else k.net.lists by agent (k.net.lists by ++ took ∷ []) other;
        halted_here = sym (k.parties.noted id by me r at may.held).3;
        halted_else = λ agent other. refl;
        post_here = put_here k.net.posts post (without_oldest by (k.net.posts post)) ∙ ap (without_oldest by) (sym kept_is'');
        post_else = λ other not. put_else k.net.posts post other (without_oldest by (k.net.posts post)) not;
      }) (sound_received agents post by k.net k.sound is_post is_by may.other m may.others waits fits'')
      (ap (λ n. (n + 1) % 2 ^ 64) (k.counts post is_post)
      ∙ (mod_first (mail_at k.net.lists post agents) 1 (2 ^ 64)
      ∙ ap (λ n. n % 2 ^ 64) (ap (λ n. mail_at k.net.lists post agents + n) (sym one_mail)
      ∙ sym (mail_at_more k.net.lists by (took ∷ []) post agents is_by))))
      (λ other is not. mail_at_more k.net.lists by (took ∷ []) other agents is_by
      ∙ (ap (λ n. mail_at k.net.lists other agents + n) (no_mail_of other not) ∙ plus_none'' (mail_at k.net.lists other agents))))
    where
      plus_none'' : (n : ℕ) → n + 0 ≡ n
      plus_none'' n = omega arith

pub receives : (agents slots post by id : ℕ) (me : Seated) (kept : Kept) → IsAgentOf agents post → IsAgentOf agents by
    → Holds post kept me.0 → MayReceive by post kept me.0 → by_in me.1 ≡ by
    → Allows (IsKept agents) slots id me (2 * post - 1) (λ n. (n + 1) % 2 ^ 64) (received (step slots (2 * post - 1) 1 0 none) me)
receives agents slots post by id me kept is is_by holds may by_is s k wide at bound = (
  after_receipt by me.0,
  keeps,
  tt,
  receipt_carried agents post by id me.0 kept is is_by holds may s k at,
  (λ i. after_receipt (sym by_is i) me.0, refl),
)
