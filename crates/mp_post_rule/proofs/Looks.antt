-- A look.
use Rattle.std.proofs.Common.{◌≡◌, ℕ, zero, suc, ◌≤◌, List, [], ◌∷◌, map, length, get_or, sym, refl, ap, subst, ◌∙◌, arith, None}
use Rattle.std.specs.Prelude.{Option, All}
use Rattle.std.proofs.lemmas.List.{set-get_or}
use mathlib.Core.Option.{none, some}
use lib.ListN.{get_elem?, length-map}
use Rattle.atomic_table.specs.Table.{State, keeps, step, Allows}
use Rattle.atomic_table.proofs.Lists.{set_again}
use Rattle.mp_stamps.specs.Lists.{HasTaken, IsAgentOf, IsOwn, Matched, Rises, list_of, puts, receipts}
use Rattle.mp_stamps.specs.declared.stamped.Stamped.{Stamped}
use Rattle.mp_post_rule.specs.declared.view.Party.{Party}
use Rattle.mp_post_rule.specs.declared.view.View.{View}
use Rattle.mp_post_rule.specs.Kinds.{HoldsAll, Seated, looked}
use Rattle.mp_post_rule.specs.Queues.{waiting_for}
use Rattle.mp_post_rule.specs.Rule.{Home, IsKept}
use Rattle.mp_post_rule.specs.Views.{list_in, lists_of, party_at}

list_there : (ps : List (Option Party)) (k : ℕ) → get_or (map list_in ps) k [] ≡ list_in (get_or ps k None)
list_there [] k = refl
list_there (p ∷ ps) zero = refl
list_there (p ∷ ps) (suc k) = list_there ps k

list_is : (v : View) (agent : ℕ) → 1 ≤ agent → list_of (lists_of v) agent ≡ list_in (party_at v agent)
list_is v zero low = absurd (omega arith)
list_is v (suc k) low = ap (λ i. get_or (map list_in v.parties) i []) (omega arith) ∙ list_there v.parties k

module _ (agents id : ℕ) (v : View) (s : State Home View) (k : IsKept agents s) (at : get_elem? s.views id ≡ some v)
    (all : HoldsAll agents v) where
  many : length (lists_of v) ≡ agents
  many = length-map v.parties list_in ∙ all.many

  one_of : (agent : ℕ) → IsAgentOf (length (lists_of v)) agent → IsAgentOf agents agent
  one_of agent is = subst (λ n. IsAgentOf n agent) many is

  same : (agent : ℕ) → IsAgentOf agents agent → list_of (lists_of v) agent ≡ k.net.lists agent
  same agent is = let mine = all.each agent is in
      list_is v agent is.from_1 ∙ (ap list_in mine.1 ∙ (k.parties.noted id agent v mine.0 at mine.1).2)

  pub lists_match : Matched (lists_of v)
  lists_match = record {
    rise = λ agent is. subst Rises (sym (same agent (one_of agent is))) (k.sound.lists.rise agent (one_of agent is));
    own = λ agent is. subst (λ n. All (λ (t : Stamped). IsOwn n agent t.entry) (list_of (lists_of v) agent)) (sym many)
        (subst (All (λ (t : Stamped). IsOwn agents agent t.entry)) (sym (same agent (one_of agent is))) (k.sound.lists.own agent (one_of agent is)));
    taken = λ from to is_from is_to. (
      waiting_for to (k.net.posts from),
      subst (λ (l : List Stamped × List Stamped). HasTaken (puts from to l.0) (receipts from to l.1) (waiting_for to (k.net.posts from)))
          (λ i. (sym (same from (one_of from is_from)) i, sym (same to (one_of to is_to)) i))
          (k.sound.pairs from to (one_of from is_from) (one_of to is_to)),
    );
  }

pub looks : (agents slots id word : ℕ) (me : Seated)
    → Allows (IsKept agents) slots id me word (λ n. n) (looked (step slots word 0 0 none) me)
looks agents slots id word me s k wide at bound = (
  me.0,
  keeps,
  tt,
  subst (IsKept agents) (λ i. record {
    words = sym (set-get_or s.words word 0) i;
    homes = s.homes;
    views = sym (set_again s.views id me.0 at) i;
  }) k,
  (refl, λ all. lists_match agents id me.0 s k at (subst (λ n. HoldsAll n me.0) (sym wide ∙ k.homes_are) all)),
)
