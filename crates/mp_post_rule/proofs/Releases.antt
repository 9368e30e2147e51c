-- A turn is released.
use Rattle.std.proofs.Common.{◌≡◌, ℕ, ◌-◌, ◌*◌, ◌≤◌, List, [], ◌∷◌, get_or, set, sym, refl, ap, subst, ◌∙◌, ⊎_elim, arith, length-set, get_or-set_same, get_or-set_other, Some, None}
use Rattle.std.specs.Prelude.{All, true}
use Rattle.std.proofs.lemmas.Option.{same_Some, none-some}
use mathlib.Core.Logic.{dite}
use mathlib.Core.Option.{none, some, some-injective}
use native.Mathlib.Decide.{ℕ_discrete}
use lib.ListN.{get_elem?}
use Rattle.atomic_table.specs.Table.{State, step, gives, put_back, Allows}
use Rattle.atomic_table.proofs.Lists.{at_set, set_here, set_else}
use Rattle.mp_stamps.specs.Lists.{IsAgentOf}
use Rattle.mp_post_rule.specs.declared.view.Found.{Found}
use Rattle.mp_post_rule.specs.declared.view.View.{View}
use Rattle.mp_post_rule.specs.Kinds.{Seated, released}
use Rattle.mp_post_rule.specs.Rule.{CountsAreRight, Holders, Home, IsKept, TurnsAreNoted, ValuesAreKept, PartiesAreHeld, SeenAreHalted, kept_in, turn_word}
use Rattle.mp_post_rule.specs.Views.{SeenAreMarked, after_release, party_at}
use Rattle.mp_post_rule.proofs.Places.{inside, put, put_here, put_else}
use Rattle.mp_post_rule.proofs.Takes.{seen_are_marked}

module _ (agents post id : ℕ) (me : View) (f : Found) (home : Home) (s : State Home View) (k : IsKept agents s)
    (is_post : IsAgentOf agents post) (at : get_elem? s.views id ≡ some me) (holds : me.turn ≡ Some f) (of : f.post ≡ post)
    (back : kept_in home ≡ Some f.kept) where
  low : 1 ≤ post
  low = is_post.from_1

  high : post ≤ agents
  high = is_post.at_most

  abbrev w : View
  w = after_release me

  abbrev by : Holders
  by = record { turn = put k.by.turn post None; party = k.by.party }

  abbrev next : State Home View
  next = record {
    words = set s.words (2 * post - 2) 0;
    homes = set s.homes (post - 1) (some home);
    views = set s.views id w;
  }

  here : get_elem? next.views id ≡ some w
  here = set_here s.views id w (inside s.views id me at)

  mine : k.by.turn post ≡ Some id
  mine = ap k.by.turn (sym of) ∙ (k.turns.noted id me f at holds).1

  turns : TurnsAreNoted agents next k.net by
  turns = record {
    words = λ p is. dite (ℕ_discrete p post)
        (λ same. subst (λ q. get_or next.words (2 * q - 2) 0 ≡ turn_word (by.turn q)) (sym same)
        (get_or-set_same s.words (2 * post - 2) 0 0 (let wide = k.words_are in let a = low in let b = high in omega arith)
        ∙ ap turn_word (sym (put_here k.by.turn post None))))
        (λ other. let one = is.from_1 in let a = low in get_or-set_other s.words (2 * post - 2) (2 * p - 2) 0 0 (λ e. other (omega arith))
        ∙ (k.turns.words p is ∙ ap turn_word (sym (put_else k.by.turn post p None other))));
    noted = λ seat v g there has. ⊎_elim
        (λ t. absurd (none-some g (ap (λ (u : View). u.turn) t.1 ∙ has)))
        (λ t. let old = k.turns.noted seat v g t.1 has in (
          old.0,
          put_else k.by.turn post g.post None (λ e. t.0 (same_Some seat id (sym old.1 ∙ ap k.by.turn e ∙ mine))) ∙ old.1,
        ))
        (at_set s.views id seat w v there);
    held = λ p seat is has. dite (ℕ_discrete p post)
        (λ same. absurd (none-some seat (sym (put_here k.by.turn post None) ∙ (ap by.turn (sym same) ∙ has))))
        (λ other. let old = k.turns.held p seat is (sym (put_else k.by.turn post p None other) ∙ has) in
        let v = old.0 in let g = old.1 in let there = old.2 in let noted = old.3 in (
          v,
          g,
          set_else s.views id seat w (λ e. other (
              let same_view : me ≡ v = some-injective me v (sym at ∙ ap (get_elem? s.views) (sym e) ∙ there) in
              let same_found : f ≡ g = same_Some f g (sym holds ∙ ap (λ (u : View). u.turn) same_view ∙ noted) in
              sym old.4 ∙ ap (λ (h : Found). h.post) (sym same_found) ∙ of)) ∙ there,
          noted,
          old.4,
        ));
  }

  values : ValuesAreKept agents next k.net by
  values = record {
    free = λ p is e. dite (ℕ_discrete p post)
        (λ same. (
          home,
          subst (λ q. get_elem? next.homes (q - 1) ≡ some (some home)) (sym same)
              (set_here s.homes (post - 1) (some home) (let wide = k.homes_are in let a = low in let b = high in omega arith)),
          back ∙ ap Some (k.values.noted id me f at holds ∙ ap k.net.posts (of ∙ sym same)),
        ))
        (λ other. let one = is.from_1 in let a = low in let old = k.values.free p is (sym (put_else k.by.turn post p None other) ∙ e) in
        (old.0, set_else s.homes (post - 1) (p - 1) (some home) (λ e'. other (omega arith)) ∙ old.1, old.2));
    out = λ p seat is has. dite (ℕ_discrete p post)
        (λ same. absurd (none-some seat (sym (put_here k.by.turn post None) ∙ (ap by.turn (sym same) ∙ has))))
        (λ other. let one = is.from_1 in let a = low in set_else s.homes (post - 1) (p - 1) (some home) (λ e. other (omega arith))
        ∙ k.values.out p seat is (sym (put_else k.by.turn post p None other) ∙ has));
    noted = λ seat v g there has. ⊎_elim
        (λ t. absurd (none-some g (ap (λ (u : View). u.turn) t.1 ∙ has)))
        (λ t. k.values.noted seat v g t.1 has)
        (at_set s.views id seat w v there);
  }

  counts : CountsAreRight agents next k.net by
  counts p is = let one = is.from_1 in let a = low in
      get_or-set_other s.words (2 * post - 2) (2 * p - 1) 0 0 (λ e. omega arith) ∙ k.counts p is

  parties : PartiesAreHeld agents next k.net by
  parties = record {
    noted = λ seat agent v p there has. ⊎_elim
        (λ t. subst (λ q. IsAgentOf agents agent × (k.by.party agent ≡ q) × (p.list ≡ k.net.lists agent) × (p.halted ≡ k.net.halted agent)) (sym t.0)
        (k.parties.noted id agent me p at (ap (λ (u : View). party_at u agent) t.1 ∙ has)))
        (λ t. k.parties.noted seat agent v p t.1 has)
        (at_set s.views id seat w v there);
    held = λ agent is. let old = k.parties.held agent is in let v = old.0 in let p = old.1 in
        dite (ℕ_discrete (k.by.party agent) id)
        (λ same. (
          w,
          p,
          ap (get_elem? next.views) same ∙ here,
          ap (λ (u : View). party_at u agent) (some-injective me v (sym at ∙ ap (get_elem? s.views) (sym same) ∙ old.2)) ∙ old.3,
        ))
        (λ other. (v, p, set_else s.views id (k.by.party agent) w other ∙ old.2, old.3));
  }

  seen : SeenAreHalted agents next k.net by
  seen seat v there = ⊎_elim
      (λ t. subst (λ (u : View). All (λ agent. k.net.halted agent ≡ true) u.seen) t.1 (k.seen id me at))
      (λ t. k.seen seat v t.1)
      (at_set s.views id seat w v there)

  pub given_back : IsKept agents next
  given_back = record {
    words_are = length-set s.words (2 * post - 2) 0 ∙ k.words_are;
    homes_are = length-set s.homes (post - 1) (some home) ∙ k.homes_are;
    net = k.net;
    by = by;
    turns = turns;
    values = values;
    counts = counts;
    parties = parties;
    seen = seen;
    sound = k.sound;
  }

  pub given_are_marked : SeenAreMarked w
  given_are_marked = seen_are_marked agents id w next given_back here

pub releases : (agents slots post id : ℕ) (me : Seated) (f : Found) (home : Home) → IsAgentOf agents post
    → me.0.turn ≡ Some f → f.post ≡ post → kept_in home ≡ Some f.kept → me.1 ≡ (post - 1, home) ∷ []
    → Allows (IsKept agents) slots id me (2 * post - 2) (λ n. 0) (λ n m'. released (step slots (2 * post - 2) 0 0 none) me 0 m')
releases agents slots post id me f home is holds of back hand s k wide at bound = (
  after_release me.0,
  gives,
  tt,
  subst (λ (c : List (ℕ × Home)). IsKept agents (record {
    words = set s.words (2 * post - 2) 0;
    homes = put_back s.homes c;
    views = set s.views id (after_release me.0);
  })) (sym hand) (given_back agents post id me.0 f home s k is at holds of back),
  (refl, refl, given_are_marked agents post id me.0 f home s k is at holds of back),
)
