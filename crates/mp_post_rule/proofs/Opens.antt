-- The start.
use Rattle.std.proofs.Common.{◌≡◌, ℕ, zero, suc, ◌-◌, ◌*◌, ◌^◌, ◌%◌, ◌<◌, ◌≤◌, List, [], ◌∷◌, map, length, replicate, get_or, sym, refl, ap, subst, ◌∙◌, arith, Some, None}
use Rattle.std.specs.Prelude.{All, true, false}
use Rattle.std.proofs.lemmas.List.Elements.{All-head, All-nil, All-tail}
use Rattle.std.proofs.lemmas.Option.{same_Some, none-some}
use mathlib.Core.Option.{some, some-injective, some-ne-none}
use lib.ListN.{get_elem?, length-map, length-replicate}
use Rattle.atomic_table.specs.Table.{opening}
use Rattle.atomic_table.proofs.Lists.{some_there}
use Rattle.mp_stamps.specs.Lists.{IsAgentOf, IsOwn}
use Rattle.mp_stamps.specs.Lists.AreTaken.{none}
use Rattle.mp_stamps.specs.declared.stamped.Stamped.{Stamped}
use Rattle.mp_post_rule.specs.declared.view.Party.{Party}
use Rattle.mp_post_rule.specs.declared.view.View.{View}
use Rattle.mp_post_rule.specs.Rule.{Holders, Home, IsKept, IsSound, Network, greatest_stamp, kept_in, mail_at}
use Rattle.mp_post_rule.specs.Views.{first_view, new_party, no_mail, party_at}
use Rattle.mp_post_rule.proofs.Places.{only}

within : {A : Type 0} (n k : ℕ) (x y : A) → get_or (replicate n (Some x)) k None ≡ Some y → (k < n) × (x ≡ y)
within zero k x y e = absurd (none-some y e)
within (suc n) zero x y e = (omega arith, same_Some x y e)
within (suc n) (suc k) x y e = let h = within n k x y e in let low = h.0 in (omega arith, h.1)

there : {A : Type 0} (n k : ℕ) (x : A) → k < n → get_or (replicate n (Some x)) k None ≡ Some x
there zero k x low = absurd (omega arith)
there (suc n) zero x low = refl
there (suc n) (suc k) x low = there n k x (omega arith)

all_same : {A : Type 0} (n k : ℕ) (x : A) → get_or (replicate n x) k x ≡ x
all_same zero k x = refl
all_same (suc n) zero x = refl
all_same (suc n) (suc k) x = all_same n k x

abbrev pub no_lists : ℕ → List Stamped
no_lists agent = []

no_mail_at : (post n : ℕ) → mail_at no_lists post n ≡ 0
no_mail_at post zero = refl
no_mail_at post (suc n) = let e = no_mail_at post n in omega arith

module _ (agents : ℕ) (words : List ℕ) (homes : List Home)
    (many : length words ≡ 2 * agents) (zeros : (i : ℕ) → get_or words i 0 ≡ 0)
    (one_each : length homes ≡ agents)
    (empty : (i : ℕ) (home : Home) → get_elem? (map some homes) i ≡ some (some home) → kept_in home ≡ Some (no_mail agents)) where
  abbrev net : Network
  net = record { lists = no_lists; halted = λ a. false; posts = λ a. no_mail agents }

  abbrev by : Holders
  by = record { turn = λ p. None; party = λ a. 0 }

  sound : IsSound agents net
  sound = record {
    pairs = λ from to is_from is_to. record { gone = []; split = sym (all_same agents (to - 1) []); were_taken = none };
    lists = record {
      own = λ a is. All-nil (λ (s : Stamped). IsOwn agents a s.entry);
      rise = λ a is. λ i j d low within. absurd (omega arith);
      bound = λ a is. All-nil (λ (s : Stamped). s.stamp ≤ greatest_stamp s.entry);
    };
    rows = λ post is. length-replicate agents [];
    named = λ post agent is has. absurd (none-some agent has);
  }

  parties : (seat agent : ℕ) (v : View) (p : Party) → get_elem? (first_view agents ∷ []) seat ≡ some v → party_at v agent ≡ Some p
      → IsAgentOf agents agent × (0 ≡ seat) × (p.list ≡ []) × (p.halted ≡ false)
  parties seat zero v p at has = absurd (none-some p has)
  parties seat (suc k) v p at has =
      let o = only (first_view agents) v seat at in
      let h = within agents k new_party p (ap (λ (u : View). party_at u (suc k)) o.1 ∙ has) in
      let low = h.0 in
      (record { from_1 = omega arith; at_most = omega arith }, sym o.0, ap (λ (q : Party). q.list) (sym h.1), ap (λ (q : Party). q.halted) (sym h.1))

  held : (agent : ℕ) → IsAgentOf agents agent → (v : View) × (p : Party) × (get_elem? (first_view agents ∷ []) 0 ≡ some v) × (party_at v agent ≡ Some p)
  held zero is = let low = is.from_1 in absurd (omega arith)
  held (suc k) is = let high = is.at_most in (first_view agents, new_party, refl, there agents k new_party (omega arith))

  pub opens : IsKept agents (opening words homes (first_view agents))
  opens = record {
    words_are = many;
    homes_are = length-map homes some ∙ one_each;
    net = net;
    by = by;
    turns = record {
      words = λ post is. zeros (2 * post - 2);
      noted = λ seat v f at has. absurd (none-some f (ap (λ (u : View). u.turn) (only (first_view agents) v seat at).1 ∙ has));
      held = λ post seat is has. absurd (none-some seat has);
    };
    values = record {
      free = λ post is e. let low = is.from_1 in let high = is.at_most in
          let s = some_there homes (post - 1) (omega arith) in (s.0, s.1, empty (post - 1) s.0 s.1);
      out = λ post seat is has. absurd (none-some seat has);
      noted = λ seat v f at has. absurd (none-some f (ap (λ (u : View). u.turn) (only (first_view agents) v seat at).1 ∙ has));
    };
    counts = λ post is. zeros (2 * post - 1) ∙ ap (λ n. n % 2 ^ 64) (sym (no_mail_at post agents));
    parties = record { noted = parties; held = held };
    seen = λ seat v at. subst (λ (u : View). All (λ agent. false ≡ true) u.seen) (only (first_view agents) v seat at).1 (All-nil (λ agent. false ≡ true));
    sound = sound;
  }

each_there : {A : Type 0} (P : A → Type 0) (xs : List A) (i : ℕ) (x : A) → All P xs → get_elem? (map some xs) i ≡ some (some x) → P x
each_there P [] i x all e = absurd (some-ne-none (some x) (sym e))
each_there P (y ∷ ys) zero x all e = subst P (some-injective y x (some-injective (some y) (some x) e)) (All-head P y ys all)
each_there P (y ∷ ys) (suc i) x all e = each_there P ys i x (All-tail P y ys all) e

pub opens_with : (agents : ℕ) (words : List ℕ) (homes : List Home) → words ≡ replicate (2 * agents) 0 → length homes ≡ agents
    → All (λ home. kept_in home ≡ Some (no_mail agents)) homes → IsKept agents (opening words homes (first_view agents))
opens_with agents words homes zeros one_each all = opens agents words homes
    (ap length zeros ∙ length-replicate (2 * agents) 0)
    (λ i. ap (λ l. get_or l i 0) zeros ∙ all_same (2 * agents) i 0)
    one_each
    (λ i home e. each_there (λ (h : Home). kept_in h ≡ Some (no_mail agents)) homes i home all e)
