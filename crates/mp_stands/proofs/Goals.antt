-- What is private and true at the start, and the goals, by the numbers of an agent's task.
use Rattle.std.proofs.Common.{◌≡◌, ℕ, ◌+◌, ◌==◌, true, false, not, ◌&&◌, List, [], map, filter, All, Option, Some, None, slice_get, if◌then◌else◌, refl, sym, ap, ◌∙◌, subst, ◌⊎◌, inl, inr}
use Rattle.std.proofs.lemmas.Bool.{cases_Bool, and_parts, and_from, eq-eqb, eqb-true, not_from_false, false≢true}
use Rattle.std.proofs.lemmas.List.Elements.{Contains-append_right}
use Rattle.std.proofs.lemmas.Option.{same_Some}
use Rattle.std.specs.List.{list_any}
use Rattle.std.specs.Option.{option_map_or, is_none}
use Rattle.std.specs.Prelude.{Contains}
use Rattle.mp_list.proofs.Members.{any_from, some_member, to_map, from_map}
use Rattle.mp_forms.specs.declared.factor.Factor.{Factor}
use Rattle.mp_typing.specs.Places.{numbers_where}
use Rattle.mp_typing.proofs.Passing.{taken_passes, taken_from_passes}
use Rattle.mp_task.proofs.Agreeing.{Contains-slice_get}
use Rattle.mp_joint.specs.declared.fact.SignedFact.{SignedFact}
use Rattle.mp_joint.specs.Fact.{Text, is_listed}
use Rattle.mp_joint.specs.FactorContribution.{team_of}
use Rattle.mp_joint.specs.Instance.{holds}
use Rattle.mp_joint.specs.Plan.{joint_start}
use Rattle.mp_lifting.specs.Texts.{signed_text}
use Rattle.mp_views.specs.Public.{is_public}
use Rattle.mp_views.specs.declared.view.View.{View}
use Rattle.mp_stands.specs.Numbering.{AreNumbersOf, HasNumberAmong, StandsForOneOf}
use Rattle.mp_stands.specs.Stands.{AreTrueAtStart, is_known_to}
use Rattle.mp_stands.specs.Touched.{factor_of, goals}
use Rattle.mp_stands.proofs.MemberLists.{has_place}
use Rattle.mp_stands.proofs.Owners.{same_agent}
use Rattle.mp_ground_laws.specs.Checked.{IsChecked}
use Rattle.mp_ground_laws.specs.Counted.{counted_facts, named_goals}
use Rattle.mp_grounder.specs.declared.grounded.Ground.{Ground}
use Rattle.mp_grounder.specs.Grounded.{IsGrounded}
use Rattle.mp_grounder.specs.Places.{places_in}
use Rattle.mp_split.specs.Closed.{closed_view, texts_at}
use Rattle.mp_split.specs.TaskOf.{is_goal}
use Rattle.mp_split.specs.Team.{AreGrounded, known_at, open_views}
use Rattle.mp_stands.specs.Knowing.{known_setting, IsCountedByOne, IsGoalOfOne}
use Rattle.mp_stands.proofs.Counts.{same_goals}
use Rattle.mp_stands.proofs.Facts.{counted_own, nobody}
use Rattle.mp_stands.proofs.GroundedSteps.{is_checked}
use Rattle.mp_stands.proofs.JoinedLists.{any_of_map, listed_some, member_listed, listed_member}
use Rattle.mp_stands.proofs.TaskNumbers.{private_number, private_stands, public_number, public_stands}
use Rattle.mp_stands.proofs.Own.{agent, checked, own_fact, private_is, private_owner_is, counts_own}
use Rattle.mp_stands.proofs.Places.{from_places, to_places, items_at_places, from_start}
use Rattle.mp_stands.proofs.Starting.{start_of}
use Rattle.mp_stands.proofs.Tables.{IsPublicOfOne, agent_at, in_publics, has_factor, placed, texts}

module _ (team : List Factor) (grounds : List Ground) (all : All IsChecked team) (are : AreGrounded team grounds) where
  -- ---- the start

  module _ (place : ℕ) (factor : Factor) (g : Ground) (at : slice_get team place ≡ Some factor) (grounded : IsGrounded (known_at team place factor) g) where
    start_same : (x : SignedFact) → Contains grounded.private_facts x
        → holds (known_setting team (place + 1) factor).start x ≡ holds (joint_start (team_of team)) x
    start_same x found =
        let own = own_fact team all place factor g at grounded x (private_is team all place factor g at grounded x found).0 in
        let same = start_of team (place + 1) factor x.fact all (agent team all place factor g at grounded) (checked team all place factor g at grounded) own.of own.declared in
        λ i. if x.positive then same i else not (same i)

    pub private_start : AreTrueAtStart team grounded.private_facts g.start
    private_start n = (
      λ found.
          let p = from_places 0 (holds (known_setting team (place + 1) factor).start) grounded.private_facts n (subst (λ ns. Contains ns n) grounded.start found) in (
            p.item,
            ap (slice_get grounded.private_facts) (p.is ∙ from_start p.index) ∙ p.at,
            sym (start_same p.item (Contains-slice_get grounded.private_facts p.index p.item p.at)) ∙ p.passes,
          ),
      λ h.
          subst (λ ns. Contains ns n) (sym grounded.start)
          (subst (Contains (numbers_where 0 (holds (known_setting team (place + 1) factor).start) grounded.private_facts)) (from_start n)
          (to_places 0 (holds (known_setting team (place + 1) factor).start) grounded.private_facts n h.0 h.1
          (start_same h.0 (Contains-slice_get grounded.private_facts n h.0 h.1) ∙ h.2))),
    )

  -- ---- goals

  goal_counted : (me : ℕ) (factor : Factor) (x : SignedFact) → Contains (named_goals me factor) x
      → Contains (counted_facts me factor (known_setting team me factor)) x
  goal_counted me factor x found = Contains-append_right _ (named_goals me factor) x found

  of_goal : (x : SignedFact) → IsGoalOfOne team x → IsCountedByOne team x
  of_goal x h = record { me = h.me; factor = h.factor; at = h.at; counts = goal_counted h.me h.factor x h.names }

  abbrev views : List View
  views = map closed_view grounds

  goal_listed : (text : Text) → is_goal views text ≡ list_any (λ (o : Ground). is_listed text (texts_at o.publics o.goal_pub)) grounds
  goal_listed text = any_of_map (λ v. is_listed text v.goals) closed_view grounds

  -- of an agent, the texts of its public goals
  module _ (place : ℕ) (factor : Factor) (g : Ground) (at : slice_get team place ≡ Some factor) (ground_at : slice_get grounds place ≡ Some g)
      (grounded : IsGrounded (known_at team place factor) g) where
    abbrev goal_texts : List Text
    goal_texts = map signed_text (filter is_public (named_goals (place + 1) factor))

    shown_goals : (text : Text) → is_listed text (texts_at g.publics g.goal_pub) ≡ (is_listed text goal_texts && is_listed text g.publics)
    shown_goals text =
        ap (λ ns. is_listed text (texts_at g.publics ns)) grounded.goal_pub
        ∙ ap (is_listed text) (items_at_places (λ t. is_listed t goal_texts) g.publics [])
        ∙ listed_some (λ t. is_listed t goal_texts) text g.publics

    shows_goal : (x : SignedFact) → Contains (named_goals (place + 1) factor) x → is_public x ≡ true → is_goal views (signed_text x) ≡ true
    shows_goal x found public =
        let text = signed_text x in
        goal_listed text
        ∙ any_from (λ (o : Ground). is_listed text (texts_at o.publics o.goal_pub)) grounds g (Contains-slice_get grounds place g ground_at)
        (shown_goals text
        ∙ and_from (is_listed text goal_texts) (is_listed text g.publics)
        (member_listed text goal_texts (to_map signed_text (filter is_public (named_goals (place + 1) factor)) x
        (taken_from_passes is_public (named_goals (place + 1) factor) x found public)))
        (in_publics team grounds all are place factor g at ground_at x public (goal_counted (place + 1) factor x found)))

    goal_source : (text : Text) → is_listed text (texts_at g.publics g.goal_pub) ≡ true
        → (x : SignedFact) × IsGoalOfOne team x × IsPublicOfOne team grounds all are x × (signed_text x ≡ text)
    goal_source text h =
        let parts = and_parts (is_listed text goal_texts) (is_listed text g.publics) (sym (shown_goals text) ∙ h) in
        let from = from_map signed_text (filter is_public (named_goals (place + 1) factor)) text (listed_member text goal_texts parts.0) in
        let is = taken_passes is_public (named_goals (place + 1) factor) from.0 from.1 in
        let goal : IsGoalOfOne team from.0 = record { me = place + 1; factor = factor; at = agent_at team place factor at; names = is.0 } in
        (from.0, goal, record { public = is.1; counted_by = of_goal from.0 goal }, from.2)

  -- a public goal of the team is one that some agent shows
  team_shows : (x : SignedFact) → IsGoalOfOne team x → is_public x ≡ true → is_goal views (signed_text x) ≡ true
  team_shows x h public =
      let p = placed team grounds h.me h.factor are.one_each h.at in
      let there : Contains (named_goals (p.place + 1) h.factor) x = subst (λ m. Contains (named_goals m h.factor) x) p.is_me h.names in
      shows_goal p.place h.factor p.ground p.at p.ground_at (are.each p.place h.factor p.ground p.at p.ground_at).0 x there public

  -- and the way back
  team_source : (text : Text) → is_goal views text ≡ true
      → (x : SignedFact) × IsGoalOfOne team x × IsPublicOfOne team grounds all are x × (signed_text x ≡ text)
  team_source text h =
      let of = some_member (λ (o : Ground). is_listed text (texts_at o.publics o.goal_pub)) grounds (sym (goal_listed text) ∙ h) in
      let p = has_place grounds of.0 of.1 in
      let factor = has_factor team grounds p.0 of.0 are.one_each p.1 in
      goal_source p.0 factor.0 of.0 factor.1 p.1 (are.each p.0 factor.0 of.0 factor.1 p.1).0 text of.2

  -- ---- the goals that an agent has numbers for

  known_owner : (o : Option ℕ) (me : ℕ) → option_map_or (λ owner. owner == me) o true ≡ true → is_none o ≡ false → o ≡ Some me
  known_owner None me h private = absurd (false≢true (sym private))
  known_owner (Some n) me h private = ap Some (eqb-true n me h)

  module _ (publics : List SignedFact) (same : map signed_text publics ≡ texts team grounds all are)
      (of : (x : SignedFact) → Contains publics x → IsPublicOfOne team grounds all are x)
      (place : ℕ) (factor : Factor) (g : Ground) (at : slice_get team place ≡ Some factor) (grounded : IsGrounded (known_at team place factor) g) where
    abbrev known_goals : List SignedFact
    known_goals = filter (is_known_to (place + 1)) (goals team)

    abbrev own_goals : List SignedFact
    own_goals = named_goals (place + 1) factor

    goal_is : (x : SignedFact) → Contains known_goals x → IsGoalOfOne team x
    goal_is x found = (same_goals team x).0 (taken_passes (is_known_to (place + 1)) (goals team) x found).0

    own_known : (x : SignedFact) → Contains own_goals x → x.fact.owner ≡ Some (place + 1) → Contains known_goals x
    own_known x found mine =
        taken_from_passes (is_known_to (place + 1)) (goals team) x
        ((same_goals team x).1 (record { me = place + 1; factor = factor; at = agent_at team place factor at; names = found }))
        (ap (λ o. option_map_or (λ owner. owner == (place + 1)) o true) mine ∙ eq-eqb (place + 1) (place + 1) refl)

    public_known : (x : SignedFact) → IsGoalOfOne team x → is_public x ≡ true → Contains known_goals x
    public_known x goal public =
        taken_from_passes (is_known_to (place + 1)) (goals team) x ((same_goals team x).1 goal)
        (ap (λ o. option_map_or (λ owner. owner == (place + 1)) o true) (nobody x.fact.owner public))

    -- a private goal that the agent knows is its own
    private_goal : (x : SignedFact) → Contains known_goals x → is_public x ≡ false → Contains own_goals x × Contains grounded.private_facts x
    private_goal x found private =
        let goal = goal_is x found in
        let mine : x.fact.owner ≡ Some (place + 1) =
        known_owner x.fact.owner (place + 1) (taken_passes (is_known_to (place + 1)) (goals team) x found).1 private in
        let counts = of_goal x goal in
        let agents : goal.me ≡ place + 1 =
        sym (same_agent (place + 1) goal.me goal.factor x.fact mine (counted_own goal.me goal.factor (open_views team) x
        (is_checked team goal.me goal.factor (record { all = all; at = goal.at })) (goal_counted goal.me goal.factor x goal.names)).of) in
        let factors : goal.factor ≡ factor =
        same_Some goal.factor factor (sym goal.at ∙ ap (factor_of team) agents ∙ agent_at team place factor at) in (
          subst (λ xs. Contains xs x) (λ i. named_goals (agents i) (factors i)) goal.names,
          (grounded.listed.exact x).1
              (counts_own team all place factor g at grounded x mine counts, not_from_false (is_public x) private),
        )

    goal_each : (x : SignedFact) → Contains known_goals x
        → HasNumberAmong publics (numbers_where 0 (is_goal views) (texts team grounds all are)) x
        ⊎ HasNumberAmong grounded.private_facts (places_in grounded.private_facts own_goals) x
    goal_each x found =
        elim (cases_Bool (is_public x)) [
          | inl public ↦
              let goal = goal_is x found in
              inl (public_number team grounds all are publics same of (is_goal views) x (record { public = public; counted_by = of_goal x goal })
              (team_shows x goal public))
          | inr private ↦ let both = private_goal x found private in inr (private_number grounded.private_facts own_goals x both.1 both.0)
        ]

    own_stands : (n : ℕ) → Contains (places_in grounded.private_facts own_goals) n → StandsForOneOf grounded.private_facts known_goals n
    own_stands n found =
        let s = private_stands grounded.private_facts own_goals n found in (
          s.0,
          s.1,
          own_known s.0 s.2
              (private_owner_is team all place factor g at grounded s.0 (Contains-slice_get grounded.private_facts n s.0 s.1)),
        )

    pub goal_numbers : AreNumbersOf publics grounded.private_facts known_goals (numbers_where 0 (is_goal views) (texts team grounds all are)) g.goal_priv
    goal_numbers =
        subst (λ ns. AreNumbersOf publics grounded.private_facts known_goals (numbers_where 0 (is_goal views) (texts team grounds all are)) ns)
        (sym grounded.goal_priv)
        (record {
          each = goal_each;
          only_public = public_stands team grounds all are publics same of (is_goal views) known_goals
              (λ text h.
              let from = team_source text h in
              (from.0, public_known from.0 from.1 from.2.public, from.2, from.3));
          only_private = own_stands;
        })
