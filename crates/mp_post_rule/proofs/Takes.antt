-- A turn is taken.
use Rattle.std.proofs.Common.{◌≡◌, ℕ, ◌+◌, ◌-◌, ◌*◌, ◌/◌, ◌≤◌, eqb, ◌∷◌, length, get_or, set, sym, refl, ap, subst, ◌∙◌, ⊎_elim, arith, length-set, get_or-set_same, get_or-set_other, Some, None}
use Rattle.std.specs.Prelude.{Option, All, IfSome, true, ◌==◌, MatchBool}
use Rattle.std.proofs.Math.Nat.{mul-div_cancel_left}
use Rattle.std.proofs.lemmas.List.Elements.{All-cons, All-weaker}
use Rattle.std.proofs.lemmas.List.{set-get_or}
use Rattle.std.proofs.lemmas.Option.{same_Some, none-some}
use mathlib.Core.Logic.{dite}
use mathlib.Core.Option.{none, some, some-injective}
use native.Mathlib.Decide.{ℕ_discrete}
use lib.ListN.{get_elem?}
use prog.Atomic.{either}
use Rattle.atomic_table.specs.Table.{State, Act, step, stepped, keeps, takes, Allows, Valid, carried_after}
use Rattle.atomic_table.proofs.Lists.{at_set, set_here, set_else, set_again}
use Rattle.mp_stamps.specs.Lists.{IsAgentOf}
use Rattle.mp_post_rule.specs.declared.kept.Kept.{Kept}
use Rattle.mp_post_rule.specs.declared.view.Party.{Party}
use Rattle.mp_post_rule.specs.declared.view.Found.{Found}
use Rattle.mp_post_rule.specs.declared.view.View.{View}
use Rattle.mp_post_rule.specs.Kinds.{IsTaken, Seated, post_of, tried}
use Rattle.mp_post_rule.specs.Rule.{CountsAreRight, Holders, Home, IsKept, TurnsAreNoted, ValuesAreKept, PartiesAreHeld, SeenAreHalted, turn_word}
use Rattle.mp_post_rule.specs.Views.{SeenAreMarked, after_take, found, party_at, with_seen}
use Rattle.mp_post_rule.proofs.Places.{inside, put, put_here, put_else}

-- in a state with the rule, whom a seat has seen halted is marked where it holds the party
pub seen_are_marked : (agents seat : ℕ) (v : View) (s : State Home View) (k : IsKept agents s)
    → get_elem? s.views seat ≡ some v → SeenAreMarked v
seen_are_marked agents seat v s k at = All-weaker (λ agent. k.net.halted agent ≡ true) (λ agent. IfSome (party_at v agent) (λ p. p.halted ≡ true))
    (λ agent is. of agent is (party_at v agent) refl) v.seen (k.seen seat v at)
  where
    of : (agent : ℕ) → k.net.halted agent ≡ true → (o : Option Party) → party_at v agent ≡ o → IfSome o (λ p. p.halted ≡ true)
    of agent is None e = tt
    of agent is (Some p) e = (k.parties.noted seat agent v p at e).3 ∙ is

module _ (agents post id : ℕ) (me : View) (s : State Home View) (k : IsKept agents s)
    (is_post : IsAgentOf agents post) (at : get_elem? s.views id ≡ some me) (rests : me.turn ≡ None)
    (free : k.by.turn post ≡ None) where
  abbrev kept : Kept
  kept = k.net.posts post

  abbrev w : View
  w = after_take post kept me

  abbrev by : Holders
  by = record { turn = put k.by.turn post (Some id); party = k.by.party }

  low : 1 ≤ post
  low = is_post.from_1

  high : post ≤ agents
  high = is_post.at_most

  abbrev next : State Home View
  next = record {
    words = set s.words (2 * post - 2) 1;
    homes = set s.homes (post - 1) none;
    views = set s.views id w;
  }

  here : get_elem? next.views id ≡ some w
  here = set_here s.views id w (inside s.views id me at)

  turns : TurnsAreNoted agents next k.net by
  turns = record {
    words = λ p is. dite (ℕ_discrete p post)
        (λ same. subst (λ q. get_or next.words (2 * q - 2) 0 ≡ turn_word (by.turn q)) (sym same)
        (get_or-set_same s.words (2 * post - 2) 1 0 (let wide = k.words_are in let a = low in let b = high in omega arith)
        ∙ ap turn_word (sym (put_here k.by.turn post (Some id)))))
        (λ other. let one = is.from_1 in let a = low in get_or-set_other s.words (2 * post - 2) (2 * p - 2) 1 0 (λ e. other (omega arith))
        ∙ (k.turns.words p is ∙ ap turn_word (sym (put_else k.by.turn post p (Some id) other))));
    noted = λ seat v f there has. ⊎_elim
        (λ t. let mine : f ≡ found post kept = same_Some f (found post kept) (sym has ∙ ap (λ (u : View). u.turn) (sym t.1)) in
        let of : f.post ≡ post = ap (λ (g : Found). g.post) mine in (
          subst (IsAgentOf agents) (sym of) is_post,
          ap by.turn of ∙ put_here k.by.turn post (Some id) ∙ ap Some (sym t.0),
        ))
        (λ t. let old = k.turns.noted seat v f t.1 has in (
          old.0,
          put_else k.by.turn post f.post (Some id) (λ e. none-some seat (sym free ∙ ap k.by.turn (sym e) ∙ old.1)) ∙ old.1,
        ))
        (at_set s.views id seat w v there);
    held = λ p seat is has. dite (ℕ_discrete p post)
        (λ same. let mine : seat ≡ id = same_Some seat id (sym has ∙ ap by.turn same ∙ put_here k.by.turn post (Some id)) in
        (w, found post kept, ap (get_elem? next.views) mine ∙ here, refl, sym same))
        (λ other. let old = k.turns.held p seat is (sym (put_else k.by.turn post p (Some id) other) ∙ has) in
        let v = old.0 in let f = old.1 in let there = old.2 in let noted = old.3 in (
          v,
          f,
          set_else s.views id seat w (λ e.
              none-some f (sym rests ∙ ap (λ (u : View). u.turn) (some-injective me v (sym at ∙ ap (get_elem? s.views) (sym e) ∙ there)) ∙ noted)) ∙ there,
          noted,
          old.4,
        ));
  }

  values : ValuesAreKept agents next k.net by
  values = record {
    free = λ p is none_holds. dite (ℕ_discrete p post)
        (λ same. absurd (none-some id (sym none_holds ∙ ap by.turn same ∙ put_here k.by.turn post (Some id))))
        (λ other. let one = is.from_1 in let a = low in let old = k.values.free p is (sym (put_else k.by.turn post p (Some id) other) ∙ none_holds) in
        (old.0, set_else s.homes (post - 1) (p - 1) none (λ e. other (omega arith)) ∙ old.1, old.2));
    out = λ p seat is has. dite (ℕ_discrete p post)
        (λ same. subst (λ q. get_elem? next.homes (q - 1) ≡ some none) (sym same)
        (set_here s.homes (post - 1) none (let wide = k.homes_are in let a = low in let b = high in omega arith)))
        (λ other. let one = is.from_1 in let a = low in set_else s.homes (post - 1) (p - 1) none (λ e. other (omega arith))
        ∙ k.values.out p seat is (sym (put_else k.by.turn post p (Some id) other) ∙ has));
    noted = λ seat v f there has. ⊎_elim
        (λ t. let mine : f ≡ found post kept = same_Some f (found post kept) (sym has ∙ ap (λ (u : View). u.turn) (sym t.1)) in
        ap (λ (g : Found). g.kept) mine ∙ ap k.net.posts (sym (ap (λ (g : Found). g.post) mine)))
        (λ t. k.values.noted seat v f t.1 has)
        (at_set s.views id seat w v there);
  }

  counts : CountsAreRight agents next k.net by
  counts p is = let one = is.from_1 in let a = low in
      get_or-set_other s.words (2 * post - 2) (2 * p - 1) 1 0 (λ e. omega arith) ∙ k.counts p is

  parties : PartiesAreHeld agents next k.net by
  parties = record {
    noted = λ seat agent v p there has. ⊎_elim
        (λ t. subst (λ q. IsAgentOf agents agent × (k.by.party agent ≡ q) × (p.list ≡ k.net.lists agent) × (p.halted ≡ k.net.halted agent)) (sym t.0)
        (k.parties.noted id agent me p at (ap (λ (u : View). party_at u agent) t.1 ∙ has)))
        (λ t. k.parties.noted seat agent v p t.1 has)
        (at_set s.views id seat w v there);
    held = λ agent is. let old = k.parties.held agent is in let v = old.0 in let p = old.1 in
        dite (ℕ_discrete (k.by.party agent) id)
        (λ same. (
          w,
          p,
          ap (get_elem? next.views) same ∙ here,
          ap (λ (u : View). party_at u agent) (some-injective me v (sym at ∙ ap (get_elem? s.views) (sym same) ∙ old.2)) ∙ old.3,
        ))
        (λ other. (v, p, set_else s.views id (k.by.party agent) w other ∙ old.2, old.3));
  }

  seen_more : (h : Option ℕ) → kept.halted ≡ h → All (λ agent. k.net.halted agent ≡ true) me.seen
      → All (λ agent. k.net.halted agent ≡ true) (with_seen h me.seen)
  seen_more None e all = all
  seen_more (Some agent) e all = All-cons (λ a. k.net.halted a ≡ true) agent me.seen (k.sound.named post agent is_post e).1 all

  named_in : (slots : ℕ) → agents ≡ slots → (h : Option ℕ) → kept.halted ≡ h → IfSome h (IsAgentOf slots)
  named_in slots same None e = tt
  named_in slots same (Some agent) e = subst (λ n. IsAgentOf n agent) same (k.sound.named post agent is_post e).0

  pub named : (slots : ℕ) → agents ≡ slots → IfSome kept.halted (IsAgentOf slots)
  named slots same = named_in slots same kept.halted refl

  seen : SeenAreHalted agents next k.net by
  seen seat v there = ⊎_elim
      (λ t. subst (λ (u : View). All (λ agent. k.net.halted agent ≡ true) u.seen) t.1 (seen_more kept.halted refl (k.seen id me at)))
      (λ t. k.seen seat v t.1)
      (at_set s.views id seat w v there)

  pub taken : IsKept agents next
  taken = record {
    words_are = length-set s.words (2 * post - 2) 1 ∙ k.words_are;
    homes_are = length-set s.homes (post - 1) none ∙ k.homes_are;
    net = k.net;
    by = by;
    turns = turns;
    values = values;
    counts = counts;
    parties = parties;
    seen = seen;
    sound = k.sound;
  }

  pub taken_are_marked : SeenAreMarked w
  taken_are_marked = seen_are_marked agents id w next taken here

half : (post : ℕ) → 1 ≤ post → post_of (2 * post - 2) ≡ post
half post low = let h : (2 * (post - 1)) / 2 ≡ post - 1 = mul-div_cancel_left (post - 1) (omega arith) in
    let e : 2 * post - 2 ≡ 2 * (post - 1) = omega arith in
    ap (λ (n : ℕ). n / 2 + 1) e ∙ (ap (λ (n : ℕ). n + 1) h ∙ omega arith)

-- what the table asks of a step that finds n and writes x
abbrev Goes : ℕ → ℕ → ℕ → ℕ → Seated → State Home View → ℕ → ℕ → Type 0
Goes agents slots post id me s n x =
    (w : View) × (a : Act Home) × Valid s.homes me.1 a × IsKept agents (stepped s (2 * post - 2) x id me.1 w a)
    × tried (step slots (2 * post - 2) 0 1 none) me n (w, carried_after me.1 a)

-- the turn is held: nothing changes
stays : (agents slots post id : ℕ) (me : Seated) (s : State Home View) → IsKept agents s
    → get_elem? s.views id ≡ some me.0 → get_or s.words (2 * post - 2) 0 ≡ 1 → Goes agents slots post id me s 1 1
stays agents slots post id me s k at word = (
  me.0,
  keeps,
  tt,
  subst (IsKept agents) (λ i. record {
    words = (sym (set-get_or s.words (2 * post - 2) 0) ∙ ap (set s.words (2 * post - 2)) word) i;
    homes = s.homes;
    views = sym (set_again s.views id me.0 at) i;
  }) k,
  refl,
)

takes_it : (agents slots post id : ℕ) (me : Seated) (s : State Home View) → (k : IsKept agents s) → length s.homes ≡ slots → IsAgentOf agents post
    → get_elem? s.views id ≡ some me.0 → me.0.turn ≡ None → k.by.turn post ≡ None → Goes agents slots post id me s 0 1
takes_it agents slots post id me s k wide is at rests free =
    let home = k.values.free post is free in (
      after_take post (k.net.posts post) me.0,
      takes (post - 1) home.0,
      home.1,
      taken agents post id me.0 s k is at rests free,
      subst (λ p. IsTaken p slots me (after_take post (k.net.posts post) me.0, (post - 1, home.0) ∷ me.1)) (sym (half post is.from_1)) (record {
        home = home.0;
        kept = k.net.posts post;
        has = home.2;
        view = refl;
        hand = refl;
        rows = k.sound.rows post is ∙ (sym k.homes_are ∙ wide);
        named = named agents post id me.0 s k is at rests free slots (sym k.homes_are ∙ wide);
        marks = taken_are_marked agents post id me.0 s k is at rests free;
      }),
    )

pub tries : (agents slots post id : ℕ) (me : Seated) → IsAgentOf agents post → me.0.turn ≡ None
    → Allows (IsKept agents) slots id me (2 * post - 2) (λ n. either (eqb n 0) 1 n) (tried (step slots (2 * post - 2) 0 1 none) me)
tries agents slots post id me is rests s k wide at _ = by (k.by.turn post) refl
  where
    word : (t : Option ℕ) → k.by.turn post ≡ t → get_or s.words (2 * post - 2) 0 ≡ turn_word t
    word t e = k.turns.words post is ∙ ap turn_word e

    by : (t : Option ℕ) → k.by.turn post ≡ t
        → Goes agents slots post id me s (get_or s.words (2 * post - 2) 0) (either (eqb (get_or s.words (2 * post - 2) 0) 0) 1 (get_or s.words (2 * post - 2) 0))
    by None e = subst (λ (n : ℕ). Goes agents slots post id me s n (either (eqb n 0) 1 n)) (sym (word None e))
        (takes_it agents slots post id me s k wide is at rests e)
    by (Some seat) e = subst (λ (n : ℕ). Goes agents slots post id me s n (either (eqb n 0) 1 n)) (sym (word (Some seat) e))
        (stays agents slots post id me s k at (word (Some seat) e))

-- what a try told, of its post and for all agents
pub told : (agents slots post n : ℕ) (m m' : Seated) → 1 ≤ post → slots ≡ agents → tried (step slots (2 * post - 2) 0 1 none) m n m'
    → MatchBool (n == 0) (IsTaken post agents m m') (m' ≡ m)
told agents slots post n m m' low same t = subst (λ (p : ℕ × ℕ). MatchBool (n == 0) (IsTaken p.0 p.1 m m') (m' ≡ m)) (λ i. (half post low i, same i)) t
