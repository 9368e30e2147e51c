-- The facts that are counted, in their order.
use Rattle.mp_ground_facts.proofs.Basics.{◌≡◌, ℕ, ◌<◌, length, Bool, true, List, [], Some, sym, ap, subst, ◌∙◌, arith, list_any, IsDistinct, IsSorted, IsStrictlySortedBy, eq_by_cmp}
use Rattle.mp_ground_facts.proofs.Basics.{insert_all, LiftedFactor, GroundFact, fact_cmp, same_fact, number_of}
use Rattle.std.proofs.Common.{slice_get, Contains}
use Rattle.std.specs.Prelude.{◌↔◌}
use Rattle.std.specs.Cmp.{tied_itself}
use Rattle.std.specs.List.{position_or_len}
use Rattle.std.proofs.Common.{inl, inr}
use Rattle.std.proofs.lemmas.Bool.{both_ways, cases_lt, cases_order}
use Rattle.std.proofs.lemmas.List.Folds.{list_any_none}
use Rattle.std.proofs.lemmas.List.Sums.{fails_before_first, passes_at_first}
use Rattle.std.proofs.lemmas.Map.Keys.{Less-from_sorted}
use Rattle.std.proofs.lemmas.Map.Made.{is_member-Decides}
use Rattle.std.proofs.lemmas.Option.{get_or_from_slice_get, slice_get-get_or, slice_get_within}
use Rattle.mp_lifted.specs.Binding.{ActionBinding}
use Rattle.mp_ground_facts.specs.Touched.{counted}
use Rattle.mp_ground_facts.specs.Ground.{facts_of}
use Rattle.mp_ground_facts.proofs.FactOrder.{Decides-same_fact, fact_antisymmetric, fact_ties, fact_total}
use Rattle.mp_ground_facts.proofs.Inserted.{any_insert_all}
use Rattle.mp_ground_facts.proofs.Strict.{has_keys, keys_are, keys_strict, strict}

tied : (q : GroundFact) (fs : List GroundFact) → list_any (same_fact q) fs ≡ list_any (eq_by_cmp fact_cmp q) fs
tied q fs = λ i. list_any (λ f. fact_ties q f i) fs

-- what was met, each once, and was then sorted
pub sorted_is : (factor : LiftedFactor) (instances : List ActionBinding) (met facts : List GroundFact)
    → met ≡ insert_all same_fact [] (counted factor instances) → IsSorted fact_cmp facts → IsDistinct same_fact facts
    → ((q : GroundFact) → list_any (same_fact q) facts ≡ list_any (same_fact q) met) → facts ≡ facts_of factor instances
unfolding facts_of
sorted_is factor instances met facts is up differ same =
    let all = counted factor instances in
    let rises : IsStrictlySortedBy fact_cmp facts = strict fact_total facts up (subst (λ (e : GroundFact → GroundFact → Bool). IsDistinct e facts) (λ i f g. fact_ties f g i) differ) in
    let items : (q : GroundFact) → list_any (same_fact q) facts ≡ list_any (same_fact q) all =
    λ q. same q ∙ ap (list_any (same_fact q)) is ∙ any_insert_all same_fact Decides-same_fact [] all q in
    keys_are fact_total fact_antisymmetric facts all rises (λ q. sym (tied q facts) ∙ items q ∙ tied q all)

pub facts_rise : (factor : LiftedFactor) (instances : List ActionBinding) → IsStrictlySortedBy fact_cmp (facts_of factor instances)
unfolding facts_of
facts_rise factor instances = keys_strict fact_cmp _

has_facts : (factor : LiftedFactor) (instances : List ActionBinding) (q : GroundFact) → list_any (same_fact q) (facts_of factor instances) ≡ list_any (same_fact q) (counted factor instances)
unfolding facts_of
has_facts factor instances q = tied q _ ∙ has_keys fact_total (counted factor instances) q ∙ sym (tied q (counted factor instances))

pub facts_are_counted : (factor : LiftedFactor) (instances : List ActionBinding) (f : GroundFact) → Contains (facts_of factor instances) f ↔ Contains (counted factor instances) f
facts_are_counted factor instances f =
    let facts = facts_of factor instances in
    let all = counted factor instances in
    let same = has_facts factor instances f in
    let in_facts = is_member-Decides Decides-same_fact facts f in
    let in_all = is_member-Decides Decides-same_fact all f in
    (λ here. in_all.0 (sym same ∙ in_facts.1 here), λ here. in_facts.0 (same ∙ in_all.1 here))

-- a fact that is there stands at its number
place_of : (fs : List GroundFact) (q : GroundFact) → list_any (same_fact q) fs ≡ true → slice_get fs (position_or_len (same_fact q) fs) ≡ Some q
place_of fs q here =
    elim (cases_lt (position_or_len (same_fact q) fs) (length fs)) [
      | inl less ↦
          slice_get-get_or fs (position_or_len (same_fact q) fs) q less
          ∙ ap Some (sym ((Decides-same_fact q _).0 (passes_at_first (same_fact q) fs q less)))
      | inr past ↦ absurd (both_ways _ (list_any_none (same_fact q) fs (λ k d less. fails_before_first (same_fact q) fs k d (omega arith))) here)
    ]

pub facts_stand : (factor : LiftedFactor) (instances : List ActionBinding) (f : GroundFact) → Contains (counted factor instances) f
    → slice_get (facts_of factor instances) (number_of (facts_of factor instances) f) ≡ Some f
facts_stand factor instances f here =
    place_of (facts_of factor instances) f (has_facts factor instances f ∙ (is_member-Decides Decides-same_fact (counted factor instances) f).1 here)

-- of facts that rise strictly none stands at two places
apart : (fs : List GroundFact) → IsStrictlySortedBy fact_cmp fs → (i j : ℕ) (f : GroundFact) → slice_get fs i ≡ Some f → slice_get fs j ≡ Some f → i < j → ⊥
apart fs rises i j f is_i is_j before =
    let less = Less-from_sorted fact_cmp fs i j f rises before (slice_get_within fs j f is_j) in
    let at_i = get_or_from_slice_get fs i f f is_i in
    let at_j = get_or_from_slice_get fs j f f is_j in
    let no = sym (tied_itself fact_total f) ∙ sym (λ k. fact_cmp (at_i k) (at_j k)) ∙ less in
    cc

pub one_place : (fs : List GroundFact) → IsStrictlySortedBy fact_cmp fs → (i j : ℕ) (f : GroundFact) → slice_get fs i ≡ Some f → slice_get fs j ≡ Some f → i ≡ j
one_place fs rises i j f is_i is_j =
    elim (cases_order i j) [
      | inl same ↦ same
      | inr differ ↦
          elim differ [
            | inl before ↦ absurd (apart fs rises i j f is_i is_j before)
            | inr behind ↦ absurd (apart fs rises j i f is_j is_i behind)
          ]
    ]
