-- What a factor that is grounded in numbers becomes is the grounded factor by names, with its counts, and it keeps the limits.
use Rattle.mp_grounder.proofs.Basics.{arith, ◌≡◌, ℕ, ◌-◌, ◌≤◌, ◌<◌, Bool, true, false, not, nat_lt, List, ◌++◌, map, filter, length, take, drop, get_or, All, Option, Some, None, slice_get, refl, sym, ap, ◌∙◌, subst, Ordering, Less, inl, inr}
use Rattle.mp_grounder.proofs.Basics.{slice_get_within, Decides, IsRefusedAt, IsRefusedBy, GroundRefusal, cases_Bool, same_tests, []}
use Rattle.mp_grounder.proofs.Basics.{Greater, if◌then◌else◌, Contains, flat_map, option_map_or, nat_cmp, slice_cmp, length-drop, length-map, All-contains, Contains-append_left, Contains-append_right, Factor, numbers_where}
use Rattle.mp_grounder.proofs.Basics.{taken_passes, taken_from_passes, SignedFact, Text, LiftedAction, LiftedFactor, OpenView, lifted_factor, ActionBinding, instances, GroundFact, fact_cmp, facts_of, ground_action, facts_are_counted, facts_rise}
use Rattle.mp_grounder.proofs.Basics.{sorted_once, texts_rise, same_texts, IsChecked, named_instance, signed_fact, IsOfFactor, all_counted, instances_stand, counted_stand, different_signed, parts_of, small_costs, Known, IsGrounded, counted}
use Rattle.mp_grounder.proofs.Basics.{KeepsLimits, fact_names, text_at, count_private, rising, private_numbers, public_numbers, act_at, binding_at, ground_at, same_signed}
use Rattle.std.specs.Cmp.{IsEquivalence}
use Rattle.std.specs.Cmp.Lexicographic.{nat_list_cmp_total}
use Rattle.std.specs.FinMap.{nat_cmp-IsAntisymmetric, slice_cmp-IsAntisymmetric}
use Rattle.std.specs.List.{IsDistinct}
use Rattle.std.specs.Ordering.{ordering_then, bool_cmp}
use Rattle.std.specs.Set.{is_member}
use Rattle.std.proofs.lemmas.List.Elements.{All-contains_itself, All-map, All-weaker}
use Rattle.std.proofs.lemmas.List.Filters.{length-filter_both}
use Rattle.std.proofs.lemmas.Map.Keys.{IsDistinct-from_apart}
use Rattle.std.proofs.lemmas.Option.{slice_get-get_or}
use Rattle.std.proofs.lemmas.Map.Made.{is_member-Decides, length-from_keys}
use Rattle.std.proofs.lemmas.Simd.{map-map}
use Rattle.mp_joint.specs.Instance.{holds}
use Rattle.mp_task.specs.Limits.{ActFits, AllLess}
use Rattle.mp_lifting.specs.Texts.{signed_text}
use Rattle.mp_lifting.specs.Views.{setting_of}
use Rattle.mp_instances.specs.Counts.{tries as tries_of}
use Rattle.mp_ground_facts.specs.Facts.{atom_of, is_initial}
use Rattle.mp_ground_facts.specs.Ground.{number_of, numbers_of, ground_factor}
use Rattle.mp_ground_facts.specs.Touched.{needed, added, deleted, touched, of_action, goal_facts, counted as counted_at}
use Rattle.mp_ground_facts.proofs.FactsOf.{facts_stand, one_place}
use Rattle.mp_views.specs.Public.{is_public, public_texts}
use Rattle.mp_ground_laws.specs.Counted.{named_goals, signed_cmp}
use Rattle.mp_ground_laws.specs.Grounding.{GroundedInstance, grounded, grounded_instance}
use Rattle.mp_ground_laws.specs.Listing.{IsListing}
use Rattle.mp_ground_laws.specs.Named.{step_of}
use Rattle.mp_ground_laws.specs.Numbered.{AreNumbered}
use Rattle.mp_ground_laws.proofs.Listed.{listed}
use Rattle.mp_ground_laws.proofs.Lists.{filter_of_map}
use Rattle.mp_ground_laws.proofs.Needed.{goals_stand}
use Rattle.mp_ground_laws.proofs.Starts.{public_is, same_start}
use Rattle.mp_ground_laws.proofs.Tried.{same_tries}
use Rattle.mp_grounder.specs.declared.grounded.Ground.{Ground}
use Rattle.mp_grounder.specs.Grounded.{act_of, instances_by_name}
use Rattle.mp_grounder.specs.Limits.{IsWithin, actions, facts as count_of_facts}
use Rattle.mp_grounder.specs.Numbered.{public_texts_at, places_of}
use Rattle.mp_grounder.specs.Places.{places_in, public_places_in, is_private}
use Rattle.mp_grounder.proofs.CheapActions.{instances_cost_little}
use Rattle.mp_grounder.proofs.Members.{map_on, filter_on}
use Rattle.mp_list.proofs.Members.{to_map, from_map, to_flat_map}
use Rattle.mp_grounder.proofs.Parted.{failing_first, passing_behind, told_by_place}
use Rattle.mp_typing.proofs.Finding.{member_at}
use Rattle.mp_typing.proofs.Placing.{place_passes}
use Rattle.mp_grounder.proofs.Placed.{at_mapped, HaveNumbers, AreTold, HaveTexts, first_places, first_passing, later_places}
use Rattle.mp_grounder.proofs.Rising.{same_in_order}
use Rattle.mp_grounder.proofs.SameFacts.{same_signed_is, signed_itself}
use Rattle.mp_grounder.proofs.Sorted.{count_in_order}

-- ---- the order of facts in numbers

abbrev is_public_fact : GroundFact → Bool
is_public_fact f = f.is_public

up : (f g : GroundFact) → fact_cmp f g ≡ Less → f.is_public ≡ true → g.is_public ≡ true
up f g less h = by g.is_public refl
  where
    rest : Ordering
    rest = ordering_then (bool_cmp f.is_complement g.is_complement) (ordering_then (nat_cmp f.predicate g.predicate) (slice_cmp nat_cmp f.objects g.objects))

    by : (b : Bool) → g.is_public ≡ b → g.is_public ≡ true
    by true e = e
    by false e =
        absurd (let no : Greater ≡ Less = sym (λ i. ordering_then (bool_cmp (h i) (e i)) rest) ∙ less in cc)

-- ---- facts by names are told apart

turned : (x y : SignedFact) → same_signed x y ≡ true → same_signed y x ≡ true
turned x y h = subst (λ z. same_signed z x ≡ true) (same_signed_is x y h) (signed_itself x)

Decides-same_signed : (x y : SignedFact) → Decides (same_signed x y) (x ≡ y)
Decides-same_signed x y = (same_signed_is x y, λ e. subst (λ z. same_signed x z ≡ true) e (signed_itself x))

signed_equivalence : IsEquivalence same_signed
signed_equivalence = record {
  refl = signed_itself;
  symm = λ x y. same_tests (same_signed x y) (same_signed y x) (turned x y) (turned y x);
  congr = λ x y z h. ap (λ w. same_signed w z) (same_signed_is x y h);
}

-- ---- the texts of public facts

-- where each of some facts is one of others, so is each text of a public one
text_kept : (xs ys : List SignedFact) → ((x : SignedFact) → Contains xs x → Contains ys x) → (t : Text) → Contains (map signed_text (filter is_public xs)) t
    → Contains (map signed_text (filter is_public ys)) t
text_kept xs ys each t found =
    let from = from_map signed_text (filter is_public xs) t found in
    let taken = taken_passes is_public xs from.0 from.1 in
    subst (Contains (map signed_text (filter is_public ys))) from.2
    (to_map signed_text (filter is_public ys) from.0 (taken_from_passes is_public ys from.0 (each from.0 taken.0) taken.1))

-- ---- the facts of a factor

module _ (me : ℕ) (factor : Factor) (view : OpenView) (checked : IsChecked factor) where
  abbrev lifted : LiftedFactor
  lifted = lifted_factor factor view

  abbrev all : List ActionBinding
  all = instances lifted

  abbrev facts : List GroundFact
  facts = facts_of lifted all

  abbrev name : GroundFact → SignedFact
  name f = signed_fact me factor f

  abbrev number : GroundFact → ℕ
  number f = number_of facts f

  abbrev k : Known
  k = record { me = me; factor = factor; view = view }

  abbrev first : ℕ
  first = count_private facts

  abbrev privates : List SignedFact
  privates = map name (take first facts)

  abbrev texts : List Text
  texts = public_texts_at (fact_names factor) facts

  numbered : AreNumbered factor view facts
  numbered = record { rising = facts_rise lifted all; exact = λ f. facts_are_counted lifted all f }

  have : HaveNumbers facts number
  have = record {
    numbered = λ f found. facts_stand lifted all f ((facts_are_counted lifted all f).0 found);
    once = λ f i j. one_place facts (facts_rise lifted all) i j f;
  }

  of_factor : (f : GroundFact) → Contains facts f → IsOfFactor factor view f
  of_factor f found =
      All-contains (IsOfFactor factor view) (counted_at lifted all) f (all_counted factor view checked) ((facts_are_counted lifted all f).0 found)

  public_told : (f : GroundFact) → Contains facts f → is_public (name f) ≡ f.is_public
  public_told f found =
      let is = of_factor f found in
      sym (is.public ∙ public_is me factor view (atom_of f) is.range)

  told : AreTold facts number have first name same_signed
  told = record {
    apart = λ f g here there same.
        different_signed me factor view f g (parts_of factor checked.no_fault) (of_factor f here) (of_factor g there) (same_signed_is (name f) (name g) same);
    itself = λ f. signed_itself (name f);
  }

  tells_later : (f : GroundFact) → Contains facts f → is_public (name f) ≡ not (nat_lt (number f) first)
  tells_later f found =
      public_told f found ∙ told_by_place fact_cmp is_public_fact up facts (facts_rise lifted all) (number f) f (have.numbered f found)

  have_texts : HaveTexts facts number have first name signed_text is_public (sorted_once texts)
  have_texts = record { rise = texts_rise texts; same = same_texts texts }

  -- ---- the counted facts by names

  to_names : (x : SignedFact) → Contains (map name facts) x → Contains (counted k) x
  to_names x found =
      let from = from_map name facts x found in
      subst (λ xs. Contains xs x) (counted_stand me factor view checked)
      (subst (Contains (map name (counted_at lifted all))) from.2
      (to_map name (counted_at lifted all) from.0 ((facts_are_counted lifted all from.0).0 from.1)))

  to_numbers : (x : SignedFact) → Contains (counted k) x → Contains (map name facts) x
  to_numbers x found =
      let from = from_map name (counted_at lifted all) x (subst (λ xs. Contains xs x) (sym (counted_stand me factor view checked)) found) in
      subst (Contains (map name facts)) from.2 (to_map name facts from.0 ((facts_are_counted lifted all from.0).1 from.1))

  -- ---- what it lists

  lists_privates : IsListing (signed_cmp factor) is_private (counted k) privates
  lists_privates =
      let named : filter is_private (map name facts) ≡ privates =
      filter_of_map name is_private facts
      ∙ ap (map name) (filter_on (λ f. is_private (name f)) (λ f. not f.is_public) facts (λ f found. ap not (public_told f found))
      ∙ failing_first fact_cmp is_public_fact up facts (facts_rise lifted all)) in
      subst (IsListing (signed_cmp factor) is_private (counted k)) named (listed me factor view facts is_private checked numbered)

  count_privates : first ≡ length privates
  count_privates =
      ap length (failing_first fact_cmp is_public_fact up facts (facts_rise lifted all)) ∙ sym (length-map (take first facts) name)

  behind : filter is_public_fact facts ≡ drop first facts
  behind = passing_behind fact_cmp is_public_fact up facts (facts_rise lifted all)

  publics_are : texts ≡ map signed_text (filter is_public (map name facts))
  publics_are =
      ap (map (λ f. signed_text (name f))) (sym behind) ∙ sym (map-map signed_text name (filter is_public_fact facts))
      ∙ ap (map signed_text) (sym (filter_of_map name is_public facts ∙ ap (map name) (filter_on (λ f. is_public (name f)) is_public_fact facts public_told)))

  lists_publics : sorted_once texts ≡ public_texts (counted k)
  lists_publics =
      ap sorted_once publics_are
      ∙ same_in_order nat_list_cmp_total (slice_cmp-IsAntisymmetric nat_cmp-IsAntisymmetric) (map signed_text (filter is_public (map name facts))) (map signed_text (filter is_public (counted k)))
      (text_kept (map name facts) (counted k) to_names) (text_kept (counted k) (map name facts) to_numbers)

  -- ---- some of its facts

  private_ones : (xs : List GroundFact) → ((x : GroundFact) → Contains xs x → Contains facts x)
      → rising (private_numbers (places_of (fact_names factor) facts) (numbers_of facts xs)) ≡ places_in privates (map name xs)
  private_ones xs each = first_places facts number have first name same_signed told xs each

  public_ones : (xs : List GroundFact) → ((x : GroundFact) → Contains xs x → Contains facts x)
      → rising (public_numbers (places_of (fact_names factor) facts) (numbers_of facts xs)) ≡ public_places_in (sorted_once texts) (map name xs)
  public_ones xs each = later_places facts number have first name signed_text is_public (sorted_once texts) have_texts tells_later xs each

  starts : rising (private_numbers (places_of (fact_names factor) facts) (numbers_where 0 (is_initial lifted) facts))
      ≡ numbers_where 0 (holds (setting_of me factor view).start) privates
  starts =
      first_passing facts first name (is_initial lifted) (holds (setting_of me factor view).start)
      (λ f found. by_sign f.is_complement _ _ (same_start me factor view (atom_of f) checked (parts_of factor checked.no_fault) (of_factor f found).range))
    where
      by_sign : (complement a b : Bool) → a ≡ b → (if complement then not a else a) ≡ (if not complement then b else not b)
      by_sign true a b h = ap not h
      by_sign false a b h = h

  goals_counted : (x : GroundFact) → Contains (goal_facts lifted) x → Contains facts x
  goals_counted x found =
      (facts_are_counted lifted all x).1 (Contains-append_right (flat_map (of_action lifted touched) all) (goal_facts lifted) x found)

  goals_named : map name (goal_facts lifted) ≡ named_goals me factor
  goals_named = goals_stand me factor view (parts_of factor checked.no_fault)

  -- ---- its actions

  touched_counted : (b : ActionBinding) → Contains all b → (x : GroundFact) → Contains (of_action lifted touched b) x → Contains facts x
  touched_counted b there x found =
      (facts_are_counted lifted all x).1
      (Contains-append_left (flat_map (of_action lifted touched) all) (goal_facts lifted) x (to_flat_map (of_action lifted touched) all b x there found))

  touched_parts : (b : ActionBinding) → of_action lifted touched b ≡ (of_action lifted needed b ++ of_action lifted added b) ++ of_action lifted deleted b
  touched_parts b = by (slice_get lifted.actions b.action)
    where
      by : (o : Option LiftedAction) → option_map_or (λ (a : LiftedAction). touched lifted a b.objects) o []
          ≡ (option_map_or (λ (a : LiftedAction). needed lifted a b.objects) o [] ++ option_map_or (λ (a : LiftedAction). added lifted a b.objects) o [])
          ++ option_map_or (λ (a : LiftedAction). deleted lifted a b.objects) o []
      by None = refl
      by (Some a) = refl

  part_counted : (b : ActionBinding) → Contains all b → (x : GroundFact)
      → Contains ((of_action lifted needed b ++ of_action lifted added b) ++ of_action lifted deleted b) x → Contains facts x
  part_counted b there x found = touched_counted b there x (subst (λ xs. Contains xs x) (sym (touched_parts b)) found)

  needed_counted : (b : ActionBinding) → Contains all b → (x : GroundFact) → Contains (of_action lifted needed b) x → Contains facts x
  needed_counted b there x found =
      part_counted b there x (Contains-append_left (of_action lifted needed b ++ of_action lifted added b) (of_action lifted deleted b) x
      (Contains-append_left (of_action lifted needed b) (of_action lifted added b) x found))

  added_counted : (b : ActionBinding) → Contains all b → (x : GroundFact) → Contains (of_action lifted added b) x → Contains facts x
  added_counted b there x found =
      part_counted b there x (Contains-append_left (of_action lifted needed b ++ of_action lifted added b) (of_action lifted deleted b) x
      (Contains-append_right (of_action lifted needed b) (of_action lifted added b) x found))

  deleted_counted : (b : ActionBinding) → Contains all b → (x : GroundFact) → Contains (of_action lifted deleted b) x → Contains facts x
  deleted_counted b there x found =
      part_counted b there x (Contains-append_right (of_action lifted needed b ++ of_action lifted added b) (of_action lifted deleted b) x found)

  one_act : (b : ActionBinding) → Contains all b
      → act_at (places_of (fact_names factor) facts) (ground_action lifted facts b) ≡ act_of privates (sorted_once texts) (named_instance me factor lifted b)
  one_act b there =
      let pre_pub = public_ones (of_action lifted needed b) (needed_counted b there) in
      let pre_priv = private_ones (of_action lifted needed b) (needed_counted b there) in
      let add_pub = public_ones (of_action lifted added b) (added_counted b there) in
      let add_priv = private_ones (of_action lifted added b) (added_counted b there) in
      let del_pub = public_ones (of_action lifted deleted b) (deleted_counted b there) in
      let del_priv = private_ones (of_action lifted deleted b) (deleted_counted b there) in
      λ i. record {
        pre_pub = pre_pub i;
        pre_priv = pre_priv i;
        add_pub = add_pub i;
        add_priv = add_priv i;
        del_pub = del_pub i;
        del_priv = del_priv i;
        cost = b.cost;
      }

  abbrev by_name : List GroundedInstance
  by_name = instances_by_name me factor (setting_of me factor view)

  acts : map (act_at (places_of (fact_names factor) facts)) (map (ground_action lifted facts) all) ≡ map (act_of privates (sorted_once texts)) by_name
  acts =
      map-map (act_at (places_of (fact_names factor) facts)) (ground_action lifted facts) all
      ∙ map_on (λ b. act_at (places_of (fact_names factor) facts) (ground_action lifted facts b))
      (λ b. act_of privates (sorted_once texts) (named_instance me factor lifted b)) all one_act
      ∙ sym (map-map (act_of privates (sorted_once texts)) (named_instance me factor lifted) all)
      ∙ ap (map (act_of privates (sorted_once texts))) (instances_stand me factor view checked)

  steps : map (step_of me factor) (map binding_at (map (ground_action lifted facts) all)) ≡ map (λ (i : GroundedInstance). i.step) by_name
  steps =
      ap (map (step_of me factor)) (map-map binding_at (ground_action lifted facts) all)
      ∙ map-map (step_of me factor) (λ b. binding_at (ground_action lifted facts b)) all
      ∙ sym (map-map (λ (i : GroundedInstance). i.step) (named_instance me factor lifted) all)
      ∙ ap (map (λ (i : GroundedInstance). i.step)) (instances_stand me factor view checked)

  goal_pub_is : rising (public_numbers (places_of (fact_names factor) facts) (numbers_of facts (goal_facts lifted)))
      ≡ public_places_in (sorted_once texts) (named_goals me factor)
  goal_pub_is = public_ones (goal_facts lifted) goals_counted ∙ ap (public_places_in (sorted_once texts)) goals_named

  goal_priv_is : rising (private_numbers (places_of (fact_names factor) facts) (numbers_of facts (goal_facts lifted)))
      ≡ places_in privates (named_goals me factor)
  goal_priv_is = private_ones (goal_facts lifted) goals_counted ∙ ap (places_in privates) goals_named

  abbrev made : Ground
  made = ground_at me (fact_names factor) (ground_factor lifted all)

  -- it is the grounded factor by names
  pub is_grounded : IsGrounded k made
  is_grounded = record {
    me = refl;
    private_facts = privates;
    listed = lists_privates;
    privates = count_privates;
    publics = lists_publics;
    start = starts;
    goal_pub = goal_pub_is;
    goal_priv = goal_priv_is;
    acts = acts;
    steps = steps;
  }

  -- ---- its limits

  below : {X : Type 0} (test : X → Bool) (table : List X) → AllLess (length table) (numbers_where 0 test table)
  below test table =
      let places = numbers_where 0 test table in
      All-weaker (Contains places) (λ n. n < length table)
      (λ n found. let p = place_passes test table n found in slice_get_within table n p.0 p.1) places (All-contains_itself places)

  fits : (i : GroundedInstance) → i.cost ≤ 16000000 → ActFits (length (sorted_once texts)) first (act_of privates (sorted_once texts) i)
  fits i cheap = record {
    pre_pub = below _ (sorted_once texts);
    pre_priv = subst (λ n. AllLess n (places_in privates i.pre)) (sym count_privates) (below _ privates);
    add_pub = below _ (sorted_once texts);
    add_priv = subst (λ n. AllLess n (places_in privates i.add)) (sym count_privates) (below _ privates);
    del_pub = below _ (sorted_once texts);
    del_priv = subst (λ n. AllLess n (places_in privates i.del)) (sym count_privates) (below _ privates);
    cost = cheap;
  }

  abbrev IsCheap : GroundedInstance → Type 0
  IsCheap i = i.cost ≤ 16000000

  all_cheap : All IsCheap by_name
  all_cheap =
      subst (All IsCheap) (instances_stand me factor view checked)
      (All-map IsCheap (named_instance me factor lifted) all (instances_cost_little lifted (small_costs factor view checked)))

  pub keeps_limits : length all ≤ 200000 → length facts ≤ 65535 → KeepsLimits made
  keeps_limits few_acts few = record {
    facts =
        let short = count_in_order texts in
        let spelled : length texts ≡ length facts - first = length-map (drop first facts) (text_at (fact_names factor)) ∙ length-drop first facts in
        let parts = length-filter_both is_public_fact (λ f. not f.is_public) (λ f. refl) facts in
        omega (arith, short, spelled, parts);
    start = subst (λ n. AllLess n made.start) (sym count_privates) (subst (AllLess (length privates)) (sym starts) (below _ privates));
    goal_pub = subst (AllLess (length (sorted_once texts))) (sym goal_pub_is) (below _ (sorted_once texts));
    goal_priv = subst (λ n. AllLess n made.goal_priv) (sym count_privates) (subst (AllLess (length privates)) (sym goal_priv_is) (below _ privates));
    number_of_acts = subst (λ n. n ≤ 200000) (sym (length-map (map (ground_action lifted facts) all) (act_at (places_of (fact_names factor) facts)) ∙ length-map all (ground_action lifted facts))) few_acts;
    acts = subst (All (ActFits (length (sorted_once texts)) first)) (sym acts)
        (All-map (ActFits (length (sorted_once texts)) first) (act_of privates (sorted_once texts)) by_name (λ j d less. fits (get_or by_name j d) (all_cheap j d less)));
  }

  -- ---- its counts

  -- there are as many actions
  same_actions : length all ≡ actions k
  same_actions =
      sym (length-map all (named_instance me factor lifted))
      ∙ ap length (instances_stand me factor view checked)
      ∙ length-map (grounded me factor (setting_of me factor view)) (grounded_instance (setting_of me factor view))

  named_once : IsDistinct same_signed (map name facts)
  named_once =
      IsDistinct-from_apart same_signed (map name facts)
      (λ i j d less within.
      let x = get_or (map name facts) i d in
      let y = get_or (map name facts) j d in
      let f = at_mapped name facts i x (slice_get-get_or (map name facts) i d (omega (arith, less, within))) in
      let g = at_mapped name facts j y (slice_get-get_or (map name facts) j d within) in
      elim (cases_Bool (same_signed x y)) [
        | inl same ↦
            let is = told.apart f.0 g.0 (member_at facts i f.0 f.1) (member_at facts j g.0 g.1) ((λ k. same_signed (f.2 k) (g.2 k)) ∙ same) in
            let one = have.once g.0 i j (f.1 ∙ ap Some is) g.1 in
            absurd (omega (arith, less, one))
        | inr differs ↦ differs
      ])

  same_members : (x : SignedFact) → is_member same_signed (map name facts) x ≡ is_member same_signed (counted k) x
  same_members x =
      let in_numbers = is_member-Decides Decides-same_signed (map name facts) x in
      let by_names = is_member-Decides Decides-same_signed (counted k) x in
      same_tests (is_member same_signed (map name facts) x) (is_member same_signed (counted k) x)
      (λ h. by_names.1 (to_names x (in_numbers.0 h))) (λ h. in_numbers.1 (to_numbers x (by_names.0 h)))

  -- and as many facts and complements
  same_facts : length facts ≡ count_of_facts k
  same_facts =
      sym (length-map facts name) ∙ length-from_keys signed_equivalence (map name facts) (counted k) named_once same_members

  -- so that the refusals are the same
  pub refused_by_names : (e : GroundRefusal) → IsRefusedAt me (tries_of lifted) (length all) (length facts) e → IsRefusedBy k e
  refused_by_names e =
      subst (λ (c : ℕ × ℕ × ℕ). IsRefusedAt me c.0 c.1 c.2 e) (λ i. (same_tries me factor view checked i, same_actions i, same_facts i))

  pub within_by_names : tries_of lifted ≤ 50000000 → length all ≤ 200000 → length facts ≤ 65535 → IsWithin k
  within_by_names few_tries few_actions few_facts = record {
    tries = subst (λ n. n ≤ 50000000) (same_tries me factor view checked) few_tries;
    actions = subst (λ n. n ≤ 200000) same_actions few_actions;
    facts = subst (λ n. n ≤ 65535) same_facts few_facts;
  }
