-- Whose facts the facts of an agent's factor are, and that two agents who share a fact agree on its predicate.
use Rattle.std.proofs.Common.{◌≡◌, ℕ, zero, suc, List, Bool, true, false, not, ◌&&◌, ◌||◌, ◌⊎◌, inl, inr, if◌then◌else◌, ap, sym, ◌∙◌, Option, Some, None}
use Rattle.std.proofs.lemmas.Bool.{and_from, cases_Bool, cond-true, cond-false, not_from_false, or_left}
use Rattle.std.proofs.lemmas.Option.{none-some, same_Some}
use Rattle.std.specs.List.{list_any}
use Rattle.std.specs.Prelude.{Contains}
use Rattle.mp_list.proofs.Members.{any_from}
use Rattle.mp_task.proofs.Agreeing.{Contains-slice_get}
use Rattle.mp_forms.specs.declared.factor.Factor.{Factor}
use Rattle.mp_joint.specs.declared.fact.NamedFact.{NamedFact}
use Rattle.mp_joint.specs.Fact.{Text, owner, is_listed}
use Rattle.mp_joint.specs.FactorContribution.{privates_of}
use Rattle.mp_joint.specs.Static.{is_private_in, is_so_in_team}
use Rattle.mp_stands.specs.Touched.{factor_of}

-- the fact is one that this agent has: its owner is that by the privacy rule
pub record IsFactOf (agent : ℕ) (factor : Factor) (f : NamedFact) : Type 0 where
  pub rule : f.owner ≡ owner agent (privates_of factor) f.predicate f.args

owner_by : (agent : ℕ) (b : Bool) (o : Option ℕ) → o ≡ (if b then Some agent else None) → (o ≡ None) ⊎ (o ≡ Some agent)
owner_by agent true o is = inr is
owner_by agent false o is = inl is

-- it is public, or the agent's own
pub owner_is : (agent : ℕ) (factor : Factor) (f : NamedFact) → IsFactOf agent factor f → (f.owner ≡ None) ⊎ (f.owner ≡ Some agent)
owner_is agent factor f of =
    owner_by agent (is_listed f.predicate (privates_of factor).predicates || list_any (λ a. is_listed a (privates_of factor).objects) f.args) f.owner of.rule

-- and the agent's own where its predicate is private
pub private_owner : (agent : ℕ) (factor : Factor) (f : NamedFact) → IsFactOf agent factor f → is_private_in f.predicate factor ≡ true → f.owner ≡ Some agent
private_owner agent factor f of private =
    of.rule
    ∙ cond-true (is_listed f.predicate (privates_of factor).predicates || list_any (λ a. is_listed a (privates_of factor).objects) f.args) (Some agent) None
    (or_left (is_private_in f.predicate factor) (list_any (λ a. is_listed a (privates_of factor).objects) f.args) private)

-- who has a fact of another agent is that agent
pub same_agent : (i j : ℕ) (factor : Factor) (f : NamedFact) → f.owner ≡ Some i → IsFactOf j factor f → i ≡ j
same_agent i j factor f mine of =
    elim (owner_is j factor f of) [
      | inl public ↦ absurd (none-some i (sym public ∙ mine))
      | inr other ↦ same_Some i j (sym mine ∙ other)
    ]

pub factor_in_team : (team : List Factor) (agent : ℕ) (factor : Factor) → factor_of team agent ≡ Some factor → Contains team factor
factor_in_team team zero factor at = absurd (none-some factor at)
factor_in_team team (suc k) factor at = Contains-slice_get team k factor at

in_public : (is_so_in : Text → Factor → Bool) (team : List Factor) (factor : Factor) (p : Text) → is_private_in p factor ≡ false
    → is_so_in_team is_so_in team factor p ≡ list_any (λ other. not (is_private_in p other) && is_so_in p other) team
in_public is_so_in team factor p public =
    cond-false (is_private_in p factor) (is_so_in p factor) (list_any (λ other. not (is_private_in p other) && is_so_in p other) team) public

-- what is so in a factor of the team is so for that factor in the team
pub own_so : (is_so_in : Text → Factor → Bool) (team : List Factor) (agent : ℕ) (factor : Factor) (p : Text) → factor_of team agent ≡ Some factor
    → is_so_in p factor ≡ true → is_so_in_team is_so_in team factor p ≡ true
own_so is_so_in team agent factor p at so =
    elim (cases_Bool (is_private_in p factor)) [
      | inl private ↦
          cond-true (is_private_in p factor) (is_so_in p factor) (list_any (λ other. not (is_private_in p other) && is_so_in p other) team) private ∙ so
      | inr public ↦
          in_public is_so_in team factor p public
          ∙ any_from (λ other. not (is_private_in p other) && is_so_in p other) team factor (factor_in_team team agent factor at)
          (and_from (not (is_private_in p factor)) (is_so_in p factor) (not_from_false (is_private_in p factor) public) so)
    ]

-- Of a fact that two agents have, the same is so for both in the team: where its predicate is private to one of them,
-- they are one agent, and elsewhere all factors count in which it is public.
pub so_alike : (is_so_in : Text → Factor → Bool) (team : List Factor) (i j : ℕ) (mine other : Factor) (f : NamedFact)
    → factor_of team i ≡ Some mine → factor_of team j ≡ Some other → IsFactOf i mine f → IsFactOf j other f
    → is_so_in_team is_so_in team mine f.predicate ≡ is_so_in_team is_so_in team other f.predicate
so_alike is_so_in team i j mine other f at_i at_j of_i of_j =
    elim (cases_Bool (is_private_in f.predicate mine)) [
      | inl private ↦ one (same_agent i j other f (private_owner i mine f of_i private) of_j)
      | inr public ↦
          elim (cases_Bool (is_private_in f.predicate other)) [
            | inl private ↦ one (sym (same_agent j i mine f (private_owner j other f of_j private) of_i))
            | inr too ↦ in_public is_so_in team mine f.predicate public ∙ sym (in_public is_so_in team other f.predicate too)
          ]
    ]
  where
    one : i ≡ j → is_so_in_team is_so_in team mine f.predicate ≡ is_so_in_team is_so_in team other f.predicate
    one e = ap (λ factor. is_so_in_team is_so_in team factor f.predicate) (same_Some mine other (sym at_i ∙ ap (factor_of team) e ∙ at_j))
