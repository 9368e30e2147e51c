-- A signing, as the table sees it: the holder of a turn changes a party of its own and the post's value.
use Rattle.std.proofs.Common.{◌≡◌, ◌≢◌, ℕ, ◌-◌, ◌*◌, ◌^◌, ◌%◌, List, get_or, set, sym, refl, ap, subst, ◌∙◌, ⊎_elim, arith, length-set, get_or-set_same, get_or-set_other, Some}
use Rattle.std.specs.Prelude.{All, true}
use Rattle.std.proofs.lemmas.Option.{same_Some, none-some}
use Rattle.std.proofs.lemmas.List.Elements.{All-weaker}
use mathlib.Core.Logic.{dite}
use mathlib.Core.Option.{some, some-injective}
use native.Mathlib.Decide.{ℕ_discrete}
use lib.ListN.{get_elem?}
use Rattle.atomic_table.specs.Table.{State}
use Rattle.atomic_table.proofs.Lists.{at_set, set_here, set_else}
use Rattle.mp_stamps.specs.Lists.{IsAgentOf}
use Rattle.mp_post_rule.specs.declared.kept.Kept.{Kept}
use Rattle.mp_post_rule.specs.declared.view.Party.{Party}
use Rattle.mp_post_rule.specs.declared.view.Found.{Found}
use Rattle.mp_post_rule.specs.declared.view.View.{View}
use Rattle.mp_post_rule.specs.Rule.{CountsAreRight, Home, IsKept, IsSound, Network, TurnsAreNoted, ValuesAreKept, PartiesAreHeld, SeenAreHalted, mail_at}
use Rattle.mp_post_rule.specs.Views.{found, party_at}
use Rattle.mp_post_rule.proofs.Parties.{with_at}
use Rattle.mp_post_rule.proofs.Places.{inside}

-- one agent's party, and one post's value, are others
pub record IsChanged (a : ℕ) (f : Found) (q : Party) (kept : Kept) (old new : Network) : Type 0 where
  pub list_here : new.lists a ≡ q.list
  pub list_else : (agent : ℕ) → agent ≢ a → new.lists agent ≡ old.lists agent
  pub halted_here : new.halted a ≡ q.halted
  pub halted_else : (agent : ℕ) → agent ≢ a → new.halted agent ≡ old.halted agent
  pub post_here : new.posts f.post ≡ kept
  pub post_else : (post : ℕ) → post ≢ f.post → new.posts post ≡ old.posts post

module _ (agents a id x : ℕ) (me : View) (f : Found) (p q : Party) (kept : Kept) (s : State Home View) (k : IsKept agents s)
    (at : get_elem? s.views id ≡ some me) (holds : me.turn ≡ Some f) (mine : party_at me a ≡ Some p)
    (marks : p.halted ≡ true → q.halted ≡ true) (net : Network) (fits : IsChanged a f q kept k.net net)
    (sound : IsSound agents net)
    (count_here : x ≡ mail_at net.lists f.post agents % 2 ^ 64)
    (count_else : (post : ℕ) → IsAgentOf agents post → post ≢ f.post → mail_at net.lists post agents ≡ mail_at k.net.lists post agents) where
  abbrev pub after : View
  after = record me { parties = set me.parties (a - 1) (Some q); turn = Some (found f.post kept) }

  abbrev pub next : State Home View
  next = record { words = set s.words (2 * f.post - 1) x; homes = s.homes; views = set s.views id after }

  is_post : IsAgentOf agents f.post
  is_post = (k.turns.noted id me f at holds).0

  held_by : k.by.turn f.post ≡ Some id
  held_by = (k.turns.noted id me f at holds).1

  owned : k.by.party a ≡ id
  owned = (k.parties.noted id a me p at mine).1

  here : get_elem? next.views id ≡ some after
  here = set_here s.views id after (inside s.views id me at)

  turns : TurnsAreNoted agents next net k.by
  turns = record {
    words = λ post is. let one = is.from_1 in let two = is_post.from_1 in
        get_or-set_other s.words (2 * f.post - 1) (2 * post - 2) x 0 (λ e. omega arith) ∙ k.turns.words post is;
    noted = λ seat v g there has. ⊎_elim
        (λ t. let same : g ≡ found f.post kept = same_Some g (found f.post kept) (sym has ∙ ap (λ (u : View). u.turn) (sym t.1)) in
        let of : g.post ≡ f.post = ap (λ (h : Found). h.post) same in
        (subst (IsAgentOf agents) (sym of) is_post, ap k.by.turn of ∙ held_by ∙ ap Some (sym t.0)))
        (λ t. k.turns.noted seat v g t.1 has)
        (at_set s.views id seat after v there);
    held = λ post seat is has. let old = k.turns.held post seat is has in let v = old.0 in let g = old.1 in
        dite (ℕ_discrete seat id)
        (λ same. let same_view : me ≡ v = some-injective me v (sym at ∙ ap (get_elem? s.views) (sym same) ∙ old.2) in
        let same_found : f ≡ g = same_Some f g (sym holds ∙ ap (λ (u : View). u.turn) same_view ∙ old.3) in
        (after, found f.post kept, ap (get_elem? next.views) same ∙ here, refl, ap (λ (h : Found). h.post) same_found ∙ old.4))
        (λ other. (v, g, set_else s.views id seat after other ∙ old.2, old.3, old.4));
  }

  values : ValuesAreKept agents next net k.by
  values = record {
    free = λ post is e. let old = k.values.free post is e in
        (old.0, old.1, old.2 ∙ ap Some (sym (fits.post_else post (λ same. none-some id (sym e ∙ ap k.by.turn same ∙ held_by)))));
    out = k.values.out;
    noted = λ seat v g there has. ⊎_elim
        (λ t. let same : g ≡ found f.post kept = same_Some g (found f.post kept) (sym has ∙ ap (λ (u : View). u.turn) (sym t.1)) in
        ap (λ (h : Found). h.kept) same ∙ (sym fits.post_here ∙ ap net.posts (sym (ap (λ (h : Found). h.post) same))))
        (λ t. k.values.noted seat v g t.1 has
        ∙ sym (fits.post_else g.post (λ same. t.0 (same_Some seat id (sym (k.turns.noted seat v g t.1 has).1 ∙ ap k.by.turn same ∙ held_by)))))
        (at_set s.views id seat after v there);
  }

  abbrev Fits : ℕ → Party → ℕ → Type 0
  Fits agent r seat = IsAgentOf agents agent × (k.by.party agent ≡ seat) × (r.list ≡ net.lists agent) × (r.halted ≡ net.halted agent)

  others : (agent : ℕ) (r : Party) (seat : ℕ) → agent ≢ a
      → IsAgentOf agents agent × (k.by.party agent ≡ seat) × (r.list ≡ k.net.lists agent) × (r.halted ≡ k.net.halted agent) → Fits agent r seat
  others agent r seat other old =
      (old.0, old.1, old.2 ∙ sym (fits.list_else agent other), old.3 ∙ sym (fits.halted_else agent other))

  of_mine : (agent : ℕ) (r : Party) → party_at after agent ≡ Some r → Fits agent r id
  of_mine agent r has = ⊎_elim
      (λ t. let same : q ≡ r = same_Some q r (sym t.1 ∙ has) in
      let old = k.parties.noted id a me p at mine in
      subst (λ n. Fits n r id) (sym t.0) (
        old.0,
        owned,
        ap (λ (u : Party). u.list) (sym same) ∙ sym fits.list_here,
        ap (λ (u : Party). u.halted) (sym same) ∙ sym fits.halted_here,
      ))
      (λ t. others agent r id t.0 (k.parties.noted id agent me r at (sym t.1 ∙ has)))
      (with_at a me.parties p (Some q) agent mine)

  counts : CountsAreRight agents next net k.by
  counts post is = let one = is.from_1 in let two = is_post.from_1 in let high = is_post.at_most in dite (ℕ_discrete post f.post)
      (λ same. subst (λ n. get_or next.words (2 * n - 1) 0 ≡ mail_at net.lists n agents % 2 ^ 64) (sym same)
      (get_or-set_same s.words (2 * f.post - 1) x 0 (let wide = k.words_are in omega arith) ∙ count_here))
      (λ other. get_or-set_other s.words (2 * f.post - 1) (2 * post - 1) x 0 (λ e. other (omega arith))
      ∙ (k.counts post is ∙ ap (λ n. n % 2 ^ 64) (sym (count_else post is other))))

  parties : PartiesAreHeld agents next net k.by
  parties = record {
    noted = λ seat agent v r there has. ⊎_elim
        (λ t. subst (Fits agent r) (sym t.0) (of_mine agent r (ap (λ (u : View). party_at u agent) t.1 ∙ has)))
        (λ t. let old = k.parties.noted seat agent v r t.1 has in
        others agent r seat (λ same. t.0 (sym old.1 ∙ ap k.by.party same ∙ owned)) old)
        (at_set s.views id seat after v there);
    held = λ agent is. dite (ℕ_discrete agent a)
        (λ same. (
          after,
          q,
          ap (get_elem? next.views) (ap k.by.party same ∙ owned) ∙ here,
          ⊎_elim (λ t. t.1) (λ t. absurd (t.0 same)) (with_at a me.parties p (Some q) agent mine),
        ))
        (λ other. let old = k.parties.held agent is in let v = old.0 in let r = old.1 in
        dite (ℕ_discrete (k.by.party agent) id)
        (λ same. (
          after,
          r,
          ap (get_elem? next.views) same ∙ here,
          ⊎_elim (λ t. absurd (other t.0))
              (λ t. t.1 ∙ (ap (λ (u : View). party_at u agent) (some-injective me v (sym at ∙ ap (get_elem? s.views) (sym same) ∙ old.2)) ∙ old.3))
              (with_at a me.parties p (Some q) agent mine),
        ))
        (λ not. (v, r, set_else s.views id (k.by.party agent) after not ∙ old.2, old.3)));
  }

  still : (agent : ℕ) → k.net.halted agent ≡ true → net.halted agent ≡ true
  still agent is = dite (ℕ_discrete agent a)
      (λ same. ap net.halted same ∙ (fits.halted_here
      ∙ marks ((k.parties.noted id a me p at mine).3 ∙ (ap k.net.halted (sym same) ∙ is))))
      (λ other. fits.halted_else agent other ∙ is)

  kept_seen : (xs : List ℕ) → All (λ agent. k.net.halted agent ≡ true) xs → All (λ agent. net.halted agent ≡ true) xs
  kept_seen xs all = All-weaker (λ agent. k.net.halted agent ≡ true) (λ agent. net.halted agent ≡ true) still xs all

  seen : SeenAreHalted agents next net k.by
  seen seat v there = ⊎_elim
      (λ t. subst (λ (u : View). All (λ agent. net.halted agent ≡ true) u.seen) t.1 (kept_seen me.seen (k.seen id me at)))
      (λ t. kept_seen v.seen (k.seen seat v t.1))
      (at_set s.views id seat after v there)

  pub carried : IsKept agents next
  carried = record {
    words_are = length-set s.words (2 * f.post - 1) x ∙ k.words_are;
    homes_are = k.homes_are;
    net = net;
    by = k.by;
    turns = turns;
    values = values;
    counts = counts;
    parties = parties;
    seen = seen;
    sound = sound;
  }
