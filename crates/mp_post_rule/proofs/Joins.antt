-- A seat takes over another's parties.
use Rattle.std.proofs.Common.{◌≡◌, ◌≢◌, ℕ, zero, suc, ◌⊎◌, List, set, sym, refl, ap, subst, ◌∙◌, ⊎_elim, inl, inr, eq-eqb, ne_eqb, Some, None}
use Rattle.std.specs.Prelude.{Option, All, true, ◌==◌, if◌then◌else◌}
use Rattle.std.proofs.lemmas.Option.{none-some}
use Rattle.std.proofs.lemmas.List.Elements.{All-append, All-nil}
use mathlib.Core.Logic.{dite}
use mathlib.Core.Option.{some, some-injective}
use native.Mathlib.Decide.{ℕ_discrete}
use lib.ListN.{get_elem?}
use Rattle.atomic_table.specs.Table.{State, Joins}
use Rattle.atomic_table.proofs.Lists.{at_set, set_here, set_else}
use Rattle.mp_stamps.specs.Lists.{IsAgentOf}
use Rattle.mp_post_rule.specs.declared.view.Party.{Party}
use Rattle.mp_post_rule.specs.declared.view.View.{View}
use Rattle.mp_post_rule.specs.Rule.{Holders, Home, IsKept, TurnsAreNoted, ValuesAreKept, PartiesAreHeld, SeenAreHalted}
use Rattle.mp_post_rule.specs.Views.{party_at, spent, together}
use Rattle.mp_post_rule.proofs.Parties.{either_at, first_at, second_at}
use Rattle.mp_post_rule.proofs.Places.{inside}

no_party_there : (agent : ℕ) → party_at spent agent ≡ None
no_party_there zero = refl
no_party_there (suc k) = refl

module _ (agents id other : ℕ) (v w : View) (s : State Home View) (k : IsKept agents s)
    (at : get_elem? s.views id ≡ some v) (apart : other ≢ id) (at_other : get_elem? s.views other ≡ some w)
    (rests : w.turn ≡ None) where
  abbrev both : View
  both = together v w

  abbrev now_by : ℕ → ℕ
  now_by seat = if seat == other then id else seat

  moved : now_by other ≡ id
  moved = ap (λ b. if b then id else other) (eq-eqb other other refl)

  stayed : (seat : ℕ) → seat ≢ other → now_by seat ≡ seat
  stayed seat not = ap (λ b. if b then id else seat) (ne_eqb seat other not)

  abbrev by : Holders
  by = record { turn = k.by.turn; party = λ agent. now_by (k.by.party agent) }

  abbrev joined : List View
  joined = set s.views id both

  abbrev next : State Home View
  next = record { words = s.words; homes = s.homes; views = set joined other spent }

  -- which view it is
  which : (seat : ℕ) (u : View) → get_elem? next.views seat ≡ some u
      → ((seat ≡ id) × (both ≡ u)) ⊎ (((seat ≢ id) × (seat ≢ other) × (get_elem? s.views seat ≡ some u)) ⊎ ((seat ≡ other) × (spent ≡ u)))
  which seat u e = ⊎_elim
      (λ t. inr (inr t))
      (λ t. ⊎_elim (λ q. inl q) (λ q. inr (inl (q.0, t.0, q.1))) (at_set s.views id seat both u t.1))
      (at_set joined other seat spent u e)

  here : get_elem? next.views id ≡ some both
  here = set_else joined other id spent (λ e. apart (sym e)) ∙ set_here s.views id both (inside s.views id v at)

  there : (seat : ℕ) (u : View) → seat ≢ id → seat ≢ other → get_elem? s.views seat ≡ some u → get_elem? next.views seat ≡ some u
  there seat u not other_not e = set_else joined other seat spent other_not ∙ (set_else s.views id seat both not ∙ e)

  turns : TurnsAreNoted agents next k.net by
  turns = record {
    words = k.turns.words;
    noted = λ seat u f e has. ⊎_elim
        (λ t. subst (λ q. IsAgentOf agents f.post × (k.by.turn f.post ≡ Some q)) (sym t.0)
        (k.turns.noted id v f at (ap (λ (x : View). x.turn) t.1 ∙ has)))
        (λ t. ⊎_elim (λ q. k.turns.noted seat u f q.2 has)
        (λ q. absurd (none-some f (ap (λ (x : View). x.turn) q.1 ∙ has))) t)
        (which seat u e);
    held = λ post seat is has. let old = k.turns.held post seat is has in let u = old.0 in let f = old.1 in
        dite (ℕ_discrete seat id)
        (λ same. (
          both,
          f,
          ap (get_elem? next.views) same ∙ here,
          ap (λ (x : View). x.turn) (some-injective v u (sym at ∙ ap (get_elem? s.views) (sym same) ∙ old.2)) ∙ old.3,
          old.4,
        ))
        (λ not. (
          u,
          f,
          there seat u not (λ e. none-some f (sym rests
              ∙ ap (λ (x : View). x.turn) (some-injective w u (sym at_other ∙ ap (get_elem? s.views) (sym e) ∙ old.2)) ∙ old.3)) old.2,
          old.3,
          old.4,
        ));
  }

  values : ValuesAreKept agents next k.net by
  values = record {
    free = k.values.free;
    out = k.values.out;
    noted = λ seat u f e has. ⊎_elim
        (λ t. k.values.noted id v f at (ap (λ (x : View). x.turn) t.1 ∙ has))
        (λ t. ⊎_elim (λ q. k.values.noted seat u f q.2 has)
        (λ q. absurd (none-some f (ap (λ (x : View). x.turn) q.1 ∙ has))) t)
        (which seat u e);
  }

  abbrev Fits : ℕ → Party → ℕ → Type 0
  Fits agent p seat = IsAgentOf agents agent × (by.party agent ≡ seat) × (p.list ≡ k.net.lists agent) × (p.halted ≡ k.net.halted agent)

  of_first : (agent : ℕ) (p : Party) → party_at v agent ≡ Some p → Fits agent p id
  of_first agent p has = let old = k.parties.noted id agent v p at has in
      (old.0, ap now_by old.1 ∙ stayed id (λ e. apart (sym e)), old.2, old.3)

  of_second : (agent : ℕ) (p : Party) → party_at w agent ≡ Some p → Fits agent p id
  of_second agent p has = let old = k.parties.noted other agent w p at_other has in
      (old.0, ap now_by old.1 ∙ moved, old.2, old.3)

  of_both : (agent : ℕ) (p : Party) → party_at both agent ≡ Some p → Fits agent p id
  of_both agent p has = ⊎_elim (of_first agent p) (of_second agent p) (either_at v.parties w.parties agent p has)

  of_third : (seat agent : ℕ) (u : View) (p : Party) → seat ≢ other → get_elem? s.views seat ≡ some u → party_at u agent ≡ Some p → Fits agent p seat
  of_third seat agent u p not e has = let old = k.parties.noted seat agent u p e has in
      (old.0, ap now_by old.1 ∙ stayed seat not, old.2, old.3)

  -- only one of them holds a party
  not_both : (agent : ℕ) (p : Party) → party_at w agent ≡ Some p → (o : Option Party) → party_at v agent ≡ o → party_at v agent ≡ None
  not_both agent p has None e = e
  not_both agent p has (Some q) e = absurd (apart (sym (k.parties.noted other agent w p at_other has).1 ∙ (k.parties.noted id agent v q at e).1))

  parties : PartiesAreHeld agents next k.net by
  parties = record {
    noted = λ seat agent u p e has. ⊎_elim
        (λ t. subst (Fits agent p) (sym t.0) (of_both agent p (ap (λ (x : View). party_at x agent) t.1 ∙ has)))
        (λ t. ⊎_elim (λ q. of_third seat agent u p q.1 q.2 has)
        (λ q. absurd (none-some p (sym (no_party_there agent) ∙ (ap (λ (x : View). party_at x agent) q.1 ∙ has)))) t)
        (which seat u e);
    held = λ agent is. let old = k.parties.held agent is in let u = old.0 in let p = old.1 in
        dite (ℕ_discrete (k.by.party agent) other)
        (λ same. let mine : party_at w agent ≡ Some p =
        ap (λ (x : View). party_at x agent) (some-injective w u (sym at_other ∙ ap (get_elem? s.views) (sym same) ∙ old.2)) ∙ old.3 in (
          both,
          p,
          ap (get_elem? next.views) (ap now_by same ∙ moved) ∙ here,
          second_at v.parties w.parties agent p (not_both agent p mine (party_at v agent) refl) mine,
        ))
        (λ not. let owner : by.party agent ≡ k.by.party agent = stayed (k.by.party agent) not in
        dite (ℕ_discrete (k.by.party agent) id)
        (λ same. (
          both,
          p,
          ap (get_elem? next.views) (owner ∙ same) ∙ here,
          first_at v.parties w.parties agent p
              (ap (λ (x : View). party_at x agent) (some-injective v u (sym at ∙ ap (get_elem? s.views) (sym same) ∙ old.2)) ∙ old.3),
        ))
        (λ third. (u, p, ap (get_elem? next.views) owner ∙ there (k.by.party agent) u third not old.2, old.3)));
  }

  seen : SeenAreHalted agents next k.net by
  seen seat u e = ⊎_elim
      (λ t. subst (λ (x : View). All (λ agent. k.net.halted agent ≡ true) x.seen) t.1
      (All-append (λ agent. k.net.halted agent ≡ true) v.seen w.seen (k.seen id v at) (k.seen other w at_other)))
      (λ t. ⊎_elim (λ q. k.seen seat u q.2)
      (λ q. subst (λ (x : View). All (λ agent. k.net.halted agent ≡ true) x.seen) q.1 (All-nil (λ agent. k.net.halted agent ≡ true))) t)
      (which seat u e)

  pub join : IsKept agents next
  join = record {
    words_are = k.words_are;
    homes_are = k.homes_are;
    net = k.net;
    by = by;
    turns = turns;
    values = values;
    counts = k.counts;
    parties = parties;
    seen = seen;
    sound = k.sound;
  }

pub joins : (agents id other : ℕ) (v w : View) → w.turn ≡ None → Joins (IsKept agents) id v other w (together v w) spent
joins agents id other v w rests s k at apart at_other =
    join agents id other v w s k at apart (sym (set_else s.views id other (together v w) apart) ∙ at_other) rests
