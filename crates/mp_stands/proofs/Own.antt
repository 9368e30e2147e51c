-- The private facts of an agent's grounded factor are the agent's own counted ones.
use Rattle.std.proofs.Common.{◌≡◌, ℕ, ◌+◌, true, not, List, map, All, Option, Some, None, slice_get, sym, ap, ◌∙◌, subst, ◌⊎◌, inl, inr, Equal}
use Rattle.std.proofs.lemmas.Bool.{false≢true}
use Rattle.std.proofs.lemmas.Cmp.{nat_cmp_total, nat_list_cmp_total, tied_itself}
use Rattle.std.proofs.lemmas.Option.{same_Some}
use Rattle.std.specs.Cmp.{bool_cmp_total}
use Rattle.std.specs.Option.{is_none}
use Rattle.std.specs.Ordering.{ordering_then}
use Rattle.std.specs.Prelude.{Contains}
use Rattle.mp_forms.specs.declared.factor.Factor.{Factor}
use Rattle.mp_sexp.specs.Numbers.{number_in}
use Rattle.mp_joint.specs.declared.fact.SignedFact.{SignedFact}
use Rattle.mp_lifting.specs.Vocabulary.{vocabulary_of}
use Rattle.mp_stands.specs.Stands.{AreCounted}
use Rattle.mp_stands.specs.Touched.{factor_of}
use Rattle.mp_stands.proofs.Owners.{owner_is, same_agent}
use Rattle.mp_ground_laws.specs.Checked.{IsChecked}
use Rattle.mp_ground_laws.specs.Counted.{counted_facts, signed_cmp}
use Rattle.mp_grounder.specs.declared.grounded.Ground.{Ground}
use Rattle.mp_grounder.specs.Grounded.{IsGrounded, Known, counted}
use Rattle.mp_grounder.specs.Places.{is_private}
use Rattle.mp_split.specs.Team.{known_at, open_views}
use Rattle.mp_stands.specs.Knowing.{known_setting, IsCountedByOne}
use Rattle.mp_stands.proofs.Counts.{same_counted}
use Rattle.mp_stands.proofs.Facts.{IsOwn, counted_own}
use Rattle.mp_stands.proofs.GroundedSteps.{is_checked}
use Rattle.mp_stands.proofs.Made.{itself, rising_once}
use Rattle.mp_stands.proofs.Once.{AreOnce, once_pairs}
use Rattle.mp_stands.proofs.Tables.{agent_at}

signed_tied : (factor : Factor) (x : SignedFact) → signed_cmp factor x x ≡ Equal
signed_tied factor x = λ i.
    ordering_then (tied_itself bool_cmp_total (is_none x.fact.owner) i)
    (ordering_then (tied_itself bool_cmp_total (not x.positive) i)
    (ordering_then (tied_itself nat_cmp_total (number_in (vocabulary_of factor).predicates x.fact.predicate) i)
    (tied_itself nat_list_cmp_total (map (number_in (vocabulary_of factor).objects) x.fact.args) i)))

owner_of_private : (o : Option ℕ) (me : ℕ) → (o ≡ None) ⊎ (o ≡ Some me) → not (is_none o) ≡ true → o ≡ Some me
owner_of_private o me cases private =
    elim cases [
      | inl nobody ↦ absurd (false≢true (sym (ap (λ p. not (is_none p)) nobody) ∙ private))
      | inr mine ↦ mine
    ]

module _ (team : List Factor) (all : All IsChecked team) (place : ℕ) (factor : Factor) (g : Ground) (at : slice_get team place ≡ Some factor)
    (grounded : IsGrounded (known_at team place factor) g) where
  abbrev pub me : ℕ
  me = place + 1

  abbrev pub known : Known
  known = known_at team place factor

  pub agent : factor_of team (place + 1) ≡ Some factor
  agent = agent_at team place factor at

  pub checked : IsChecked factor
  checked = is_checked team me factor (record { all = all; at = agent })

  pub own_fact : (x : SignedFact) → Contains (counted known) x → IsOwn me factor x
  own_fact x found = counted_own me factor (open_views team) x checked found

  pub private_is : (x : SignedFact) → Contains grounded.private_facts x → Contains (counted known) x × (is_private x ≡ true)
  private_is x found = (grounded.listed.exact x).0 found

  pub private_owner_is : (x : SignedFact) → Contains grounded.private_facts x → x.fact.owner ≡ Some me
  private_owner_is x found =
      let is = private_is x found in
      owner_of_private x.fact.owner me (owner_is me factor x.fact (own_fact x is.0).of) is.1

  -- what some agent counts and is this agent's, this agent counts
  pub counts_own : (x : SignedFact) → x.fact.owner ≡ Some me → (h : IsCountedByOne team x) → Contains (counted known) x
  counts_own x mine h =
      let of = (counted_own h.me h.factor (open_views team) x (is_checked team h.me h.factor (record { all = all; at = h.at })) h.counts).of in
      let agents : h.me ≡ me = sym (same_agent me h.me h.factor x.fact mine of) in
      let factors : h.factor ≡ factor = same_Some h.factor factor (sym h.at ∙ ap (factor_of team) agents ∙ agent) in
      subst (λ xs. Contains xs x) (λ i. counted_facts (agents i) (factors i) (known_setting team (agents i) (factors i))) h.counts

  privates_once : AreOnce itself grounded.private_facts
  privates_once = rising_once (signed_cmp factor) grounded.private_facts (signed_tied factor) grounded.listed.rising

  pub privates_counted : AreCounted team (Some me) grounded.private_facts
  privates_counted = record {
    once = once_pairs itself grounded.private_facts privates_once;
    exact = λ x. (
      λ found. (
        private_owner_is x found,
        (same_counted team x all).1 (record { me = me; factor = factor; at = agent; counts = (private_is x found).0 }),
      ),
      λ h.
          (grounded.listed.exact x).1
          (counts_own x h.0 ((same_counted team x all).0 h.1), ap (λ o. not (is_none o)) h.0),
    );
  }
