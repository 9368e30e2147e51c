-- A party goes to a new seat.
use Rattle.std.proofs.Common.{◌≡◌, ◌≢◌, ℕ, ◌⊎◌, [], ◌∷◌, ◌++◌, length, set, sym, ap, subst, ◌∙◌, ⊎_elim, inl, inr, length-set, Some, None}
use Rattle.std.specs.Prelude.{All, true}
use Rattle.std.proofs.lemmas.Option.{none-some}
use mathlib.Core.Logic.{dite}
use mathlib.Core.Option.{some, some-injective}
use native.Mathlib.Decide.{ℕ_discrete}
use lib.ListN.{get_elem?}
use Rattle.atomic_table.specs.Table.{State, Splits}
use Rattle.atomic_table.proofs.Lists.{at_set, set_here, set_else, at_longer, at_last}
use Rattle.mp_stamps.specs.Lists.{IsAgentOf}
use Rattle.mp_post_rule.specs.declared.view.Party.{Party}
use Rattle.mp_post_rule.specs.declared.view.View.{View}
use Rattle.mp_post_rule.specs.Rule.{Holders, Home, IsKept, TurnsAreNoted, ValuesAreKept, PartiesAreHeld, SeenAreHalted}
use Rattle.mp_post_rule.specs.Views.{alone, party_at, without}
use Rattle.mp_post_rule.proofs.Parties.{alone_at, with_at}
use Rattle.mp_post_rule.proofs.Places.{at_end, inside, put, put_here, put_else}

module _ (agents party id : ℕ) (me : View) (mine : Party) (s : State Home View) (k : IsKept agents s)
    (at : get_elem? s.views id ≡ some me) (has_it : party_at me party ≡ Some mine) where
  abbrev left : View
  left = without party me

  abbrev right : View
  right = alone party me

  abbrev fresh : ℕ
  fresh = length s.views

  abbrev by : Holders
  by = record { turn = k.by.turn; party = put k.by.party party fresh }

  abbrev next : State Home View
  next = record { words = s.words; homes = s.homes; views = set s.views id left ++ right ∷ [] }

  -- which view it is
  which : (seat : ℕ) (v : View) → get_elem? next.views seat ≡ some v
      → ((seat ≡ id) × (left ≡ v)) ⊎ (((seat ≢ id) × (get_elem? s.views seat ≡ some v)) ⊎ ((seat ≡ fresh) × (right ≡ v)))
  which seat v e = ⊎_elim
      (λ t. ⊎_elim (λ u. inl u) (λ u. inr (inl u)) (at_set s.views id seat left v t))
      (λ t. inr (inr (t.0 ∙ length-set s.views id left, t.1)))
      (at_end (set s.views id left) right v seat e)

  here : get_elem? next.views id ≡ some left
  here = at_longer (set s.views id left) (right ∷ []) id left (set_here s.views id left (inside s.views id me at))

  there : (seat : ℕ) (v : View) → seat ≢ id → get_elem? s.views seat ≡ some v → get_elem? next.views seat ≡ some v
  there seat v other e = at_longer (set s.views id left) (right ∷ []) seat v (set_else s.views id seat left other ∙ e)

  turns : TurnsAreNoted agents next k.net by
  turns = record {
    words = k.turns.words;
    noted = λ seat v f e has. ⊎_elim
        (λ t. subst (λ q. IsAgentOf agents f.post × (k.by.turn f.post ≡ Some q)) (sym t.0)
        (k.turns.noted id me f at (ap (λ (u : View). u.turn) t.1 ∙ has)))
        (λ t. ⊎_elim (λ u. k.turns.noted seat v f u.1 has)
        (λ u. absurd (none-some f (ap (λ (q : View). q.turn) u.1 ∙ has))) t)
        (which seat v e);
    held = λ post seat is has. let old = k.turns.held post seat is has in let v = old.0 in let f = old.1 in
        dite (ℕ_discrete seat id)
        (λ same. (
          left,
          f,
          ap (get_elem? next.views) same ∙ here,
          ap (λ (u : View). u.turn) (some-injective me v (sym at ∙ ap (get_elem? s.views) (sym same) ∙ old.2)) ∙ old.3,
          old.4,
        ))
        (λ other. (v, f, there seat v other old.2, old.3, old.4));
  }

  values : ValuesAreKept agents next k.net by
  values = record {
    free = k.values.free;
    out = k.values.out;
    noted = λ seat v f e has. ⊎_elim
        (λ t. k.values.noted id me f at (ap (λ (u : View). u.turn) t.1 ∙ has))
        (λ t. ⊎_elim (λ u. k.values.noted seat v f u.1 has)
        (λ u. absurd (none-some f (ap (λ (q : View). q.turn) u.1 ∙ has))) t)
        (which seat v e);
  }

  abbrev Fits : ℕ → Party → ℕ → Type 0
  Fits agent p seat = IsAgentOf agents agent × (by.party agent ≡ seat) × (p.list ≡ k.net.lists agent) × (p.halted ≡ k.net.halted agent)

  of_left : (agent : ℕ) (p : Party) → party_at left agent ≡ Some p → Fits agent p id
  of_left agent p has = ⊎_elim
      (λ t. absurd (none-some p (sym t.1 ∙ has)))
      (λ t. let old = k.parties.noted id agent me p at (sym t.1 ∙ has) in
      (old.0, put_else k.by.party party agent fresh t.0 ∙ old.1, old.2, old.3))
      (with_at party me.parties mine None agent has_it)

  of_right : (agent : ℕ) (p : Party) → party_at right agent ≡ Some p → Fits agent p fresh
  of_right agent p has = ⊎_elim
      (λ t. absurd (none-some p (sym t.1 ∙ has)))
      (λ t. let old = k.parties.noted id agent me p at (ap (party_at me) t.0 ∙ (has_it ∙ (sym t.1 ∙ has))) in
      (old.0, ap by.party t.0 ∙ put_here k.by.party party fresh, old.2, old.3))
      (alone_at party me.parties mine agent has_it)

  -- another seat does not hold the party
  of_other : (seat agent : ℕ) (v : View) (p : Party) → seat ≢ id → get_elem? s.views seat ≡ some v → party_at v agent ≡ Some p → Fits agent p seat
  of_other seat agent v p other e has =
      let old = k.parties.noted seat agent v p e has in
      let owner = k.parties.noted id party me mine at has_it in
      (old.0, put_else k.by.party party agent fresh (λ same. other (sym old.1 ∙ ap k.by.party same ∙ owner.1)) ∙ old.1, old.2, old.3)

  parties : PartiesAreHeld agents next k.net by
  parties = record {
    noted = λ seat agent v p e has. ⊎_elim
        (λ t. subst (Fits agent p) (sym t.0) (of_left agent p (ap (λ (u : View). party_at u agent) t.1 ∙ has)))
        (λ t. ⊎_elim (λ u. of_other seat agent v p u.0 u.1 has)
        (λ u. subst (Fits agent p) (sym u.0) (of_right agent p (ap (λ (q : View). party_at q agent) u.1 ∙ has))) t)
        (which seat v e);
    held = λ agent is. dite (ℕ_discrete agent party)
        (λ same. (
          right,
          mine,
          ap (get_elem? next.views) (ap by.party same ∙ put_here k.by.party party fresh)
              ∙ at_last (set s.views id left) right fresh (length-set s.views id left),
          ⊎_elim (λ t. absurd (t.0 same)) (λ t. t.1) (alone_at party me.parties mine agent has_it),
        ))
        (λ other. let old = k.parties.held agent is in let v = old.0 in let p = old.1 in
        let owner : by.party agent ≡ k.by.party agent = put_else k.by.party party agent fresh other in
        dite (ℕ_discrete (k.by.party agent) id)
        (λ same. (
          left,
          p,
          ap (get_elem? next.views) (owner ∙ same) ∙ here,
          ⊎_elim (λ t. absurd (other t.0))
              (λ t. t.1 ∙ (ap (λ (u : View). party_at u agent) (some-injective me v (sym at ∙ ap (get_elem? s.views) (sym same) ∙ old.2)) ∙ old.3))
              (with_at party me.parties mine None agent has_it),
        ))
        (λ not. (v, p, ap (get_elem? next.views) owner ∙ there (k.by.party agent) v not old.2, old.3)));
  }

  seen : SeenAreHalted agents next k.net by
  seen seat v e = ⊎_elim
      (λ t. subst (λ (u : View). All (λ agent. k.net.halted agent ≡ true) u.seen) t.1 (k.seen id me at))
      (λ t. ⊎_elim (λ u. k.seen seat v u.1)
      (λ u. subst (λ (q : View). All (λ agent. k.net.halted agent ≡ true) q.seen) u.1 (k.seen id me at)) t)
      (which seat v e)

  pub split : IsKept agents next
  split = record {
    words_are = k.words_are;
    homes_are = k.homes_are;
    net = k.net;
    by = by;
    turns = turns;
    values = values;
    counts = k.counts;
    parties = parties;
    seen = seen;
    sound = k.sound;
  }

pub splits : (agents party id : ℕ) (me : View) (mine : Party) → party_at me party ≡ Some mine
    → Splits (IsKept agents) id me (without party me) (alone party me)
splits agents party id me mine has_it s k at = split agents party id me mine s k at has_it
