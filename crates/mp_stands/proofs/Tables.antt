-- The public facts and complements that agents count are those of which the team's table has the texts.
use Rattle.std.proofs.Common.{arith, ◌≡◌, ℕ, zero, suc, ◌+◌, ◌<◌, true, List, map, filter, length, All, Some, None, slice_get, sym, ap, ◌∙◌, subst, inl, inr}
use Rattle.std.proofs.lemmas.Cmp.{nat_list_cmp_total, tied_itself}
use Rattle.std.proofs.lemmas.Option.{none-some, slice_get_within, slice_get_cases}
use Rattle.std.specs.Cmp.Lexicographic.{slice_cmp}
use Rattle.std.specs.List.{list_any, flat_map}
use Rattle.std.specs.Option.{is_none}
use Rattle.std.specs.Ordering.{nat_cmp}
use Rattle.std.specs.Prelude.{Contains}
use Rattle.std.specs.Str.{bytes_eq}
use Rattle.mp_list.proofs.Members.{any_from, some_member, to_map, from_map}
use Rattle.mp_forms.specs.declared.factor.Factor.{Factor}
use Rattle.mp_typing.proofs.Passing.{taken_passes, taken_from_passes}
use Rattle.mp_task.proofs.Agreeing.{Contains-slice_get}
use Rattle.mp_joint.specs.declared.fact.SignedFact.{SignedFact}
use Rattle.mp_joint.specs.Fact.{Text, is_listed}
use Rattle.mp_lifting.specs.Texts.{signed_text}
use Rattle.mp_views.specs.Public.{is_public}
use Rattle.mp_views.proofs.SortedLaws.{same_texts, texts_rise}
use Rattle.mp_stands.specs.Stands.{AreCounted}
use Rattle.mp_stands.specs.Touched.{factor_of}
use Rattle.mp_stands.proofs.MemberLists.{has_place}
use Rattle.mp_ground_laws.specs.Checked.{IsChecked}
use Rattle.mp_ground_laws.specs.Counted.{counted_facts}
use Rattle.mp_grounder.specs.declared.grounded.Ground.{Ground}
use Rattle.mp_grounder.specs.Grounded.{counted}
use Rattle.mp_split.specs.Closed.{closed_view}
use Rattle.mp_split.specs.TaskOf.{table}
use Rattle.mp_split.specs.Team.{AreGrounded, known_at, open_views, shown_by}
use Rattle.mp_stands.specs.Knowing.{known_setting, IsCountedByOne}
use Rattle.mp_stands.proofs.Counts.{same_counted}
use Rattle.mp_stands.proofs.Facts.{IsOwn, IsTold, counted_own, signed_tells, nobody}
use Rattle.mp_stands.proofs.GroundedSteps.{is_checked}
use Rattle.mp_stands.proofs.JoinedLists.{any_of_map, any_of_parts, member_listed, listed_member}
use Rattle.mp_stands.proofs.Made.{itself, rising_once, once_from_map}
use Rattle.mp_stands.proofs.Once.{AreOnce, once_pairs}
use Rattle.mp_stands.proofs.Spelled.{declared_spelled}

-- ---- places of agents

-- the agent of a place
pub agent_at : (team : List Factor) (place : ℕ) (factor : Factor) → slice_get team place ≡ Some factor → factor_of team (place + 1) ≡ Some factor
agent_at team place factor at = ap (factor_of team) (let e : place + 1 ≡ suc place = omega arith in e) ∙ at

-- an agent of the team, its place and its grounded factor
pub record HasPlace (team : List Factor) (grounds : List Ground) (me : ℕ) (factor : Factor) : Type 0 where
  pub place : ℕ
  pub is_me : me ≡ place + 1
  pub at : slice_get team place ≡ Some factor
  pub ground : Ground
  pub ground_at : slice_get grounds place ≡ Some ground

pub has_ground : (team : List Factor) (grounds : List Ground) (place : ℕ) (factor : Factor) → length grounds ≡ length team → slice_get team place ≡ Some factor
    → (g : Ground) × (slice_get grounds place ≡ Some g)
has_ground team grounds place factor long at =
    let within : place < length grounds = omega (arith, slice_get_within team place factor at, long) in
    elim ((slice_get_cases grounds place).1) [
      | inl found ↦ (found.0, found.2)
      | inr past ↦ absurd (omega (arith, within, past.0))
    ]

pub has_factor : (team : List Factor) (grounds : List Ground) (place : ℕ) (g : Ground) → length grounds ≡ length team → slice_get grounds place ≡ Some g
    → (factor : Factor) × (slice_get team place ≡ Some factor)
has_factor team grounds place g long at =
    let within : place < length team = omega (arith, slice_get_within grounds place g at, long) in
    elim ((slice_get_cases team place).1) [
      | inl found ↦ (found.0, found.2)
      | inr past ↦ absurd (omega (arith, within, past.0))
    ]

pub placed : (team : List Factor) (grounds : List Ground) (me : ℕ) (factor : Factor) → length grounds ≡ length team → factor_of team me ≡ Some factor
    → HasPlace team grounds me factor
placed team grounds zero factor long at = absurd (none-some factor at)
placed team grounds (suc k) factor long at =
    let found = has_ground team grounds k factor long at in
    record { place = k; is_me = omega arith; at = at; ground = found.0; ground_at = found.1 }

module _ (team : List Factor) (grounds : List Ground) (all : All IsChecked team) (are : AreGrounded team grounds) where
  abbrev pub texts : List Text
  texts = table (shown_by team grounds)

  -- what is counted by an agent of the team
  pub one_own : (x : SignedFact) → (h : IsCountedByOne team x) → IsOwn h.me h.factor x
  one_own x h = counted_own h.me h.factor (open_views team) x (is_checked team h.me h.factor (record { all = all; at = h.at })) h.counts

  pub one_told : (x : SignedFact) → IsCountedByOne team x → IsTold x
  one_told x h =
      declared_spelled h.factor x.fact.predicate x.fact.args (is_checked team h.me h.factor (record { all = all; at = h.at })) (one_own x h).declared

  -- ---- texts of the table

  ground_listed : (text : Text) → is_listed text texts ≡ list_any (λ (g : Ground). is_listed text g.publics) grounds
  ground_listed text =
      same_texts (flat_map (λ v. v.facts) (map closed_view grounds)) text
      ∙ any_of_parts (bytes_eq text) (λ v. v.facts) (map closed_view grounds)
      ∙ any_of_map (λ v. is_listed text v.facts) closed_view grounds

  pub publics_of : (place : ℕ) (factor : Factor) (g : Ground) → slice_get team place ≡ Some factor → slice_get grounds place ≡ Some g → (text : Text)
      → is_listed text g.publics ≡ is_listed text (map signed_text (filter is_public (counted (known_at team place factor))))
  publics_of place factor g at ground_at text =
      ap (is_listed text) (are.each place factor g at ground_at).0.publics
      ∙ same_texts (map signed_text (filter is_public (counted (known_at team place factor)))) text

  pub in_publics : (place : ℕ) (factor : Factor) (g : Ground) → slice_get team place ≡ Some factor → slice_get grounds place ≡ Some g → (x : SignedFact)
      → is_public x ≡ true → Contains (counted (known_at team place factor)) x → is_listed (signed_text x) g.publics ≡ true
  in_publics place factor g at ground_at x public found =
      publics_of place factor g at ground_at (signed_text x)
      ∙ member_listed (signed_text x) (map signed_text (filter is_public (counted (known_at team place factor))))
      (to_map signed_text (filter is_public (counted (known_at team place factor))) x
      (taken_from_passes is_public (counted (known_at team place factor)) x found public))

  pub in_texts : (place : ℕ) (g : Ground) (text : Text) → slice_get grounds place ≡ Some g → is_listed text g.publics ≡ true → is_listed text texts ≡ true
  in_texts place g text ground_at h =
      ground_listed text ∙ any_from (λ (o : Ground). is_listed text o.publics) grounds g (Contains-slice_get grounds place g ground_at) h

  -- what an agent counts, at its place
  pub counts_at : (place : ℕ) (factor : Factor) (x : SignedFact) → slice_get team place ≡ Some factor → Contains (counted (known_at team place factor)) x
      → IsCountedByOne team x
  counts_at place factor x at found = record { me = place + 1; factor = factor; at = agent_at team place factor at; counts = found }

  pub in_table : (x : SignedFact) → is_public x ≡ true → IsCountedByOne team x → is_listed (signed_text x) texts ≡ true
  in_table x public h =
      let p = placed team grounds h.me h.factor are.one_each h.at in
      let there : Contains (counted (known_at team p.place h.factor)) x =
      subst (λ m. Contains (counted_facts m h.factor (known_setting team m h.factor)) x) p.is_me h.counts in
      in_texts p.place p.ground (signed_text x) p.ground_at (in_publics p.place h.factor p.ground p.at p.ground_at x public there)

  pub record IsPublicOfOne (x : SignedFact) : Type 0 where
    pub public : is_public x ≡ true
    pub counted_by : IsCountedByOne team x

  pub from_table : (text : Text) → Contains texts text → (x : SignedFact) × IsPublicOfOne x × (signed_text x ≡ text)
  from_table text found =
      let of = some_member (λ (g : Ground). is_listed text g.publics) grounds (sym (ground_listed text) ∙ member_listed text texts found) in
      let at = has_place grounds of.0 of.1 in
      let factor = has_factor team grounds at.0 of.0 are.one_each at.1 in
      let known = known_at team at.0 factor.0 in
      let listed = listed_member text (map signed_text (filter is_public (counted known))) (sym (publics_of at.0 factor.0 of.0 factor.1 at.1 text) ∙ of.2) in
      let from = from_map signed_text (filter is_public (counted known)) text listed in
      let parts = taken_passes is_public (counted known) from.0 from.1 in
      (from.0, record { public = parts.1; counted_by = counts_at at.0 factor.0 from.0 factor.1 parts.0 }, from.2)

  -- ---- facts with the texts of the table

  module _ (publics : List SignedFact) (same : map signed_text publics ≡ texts) (of : (x : SignedFact) → Contains publics x → IsPublicOfOne x) where
    -- each public fact that is counted is one of them
    pub in_facts : (x : SignedFact) → IsPublicOfOne x → Contains publics x
    in_facts x h =
        let listed : Contains (map signed_text publics) (signed_text x) =
        subst (λ ts. Contains ts (signed_text x)) (sym same) (listed_member (signed_text x) texts (in_table x h.public h.counted_by)) in
        let from = from_map signed_text publics (signed_text x) listed in
        let other = of from.0 from.1 in
        subst (Contains publics)
        (signed_tells from.0 x (nobody from.0.fact.owner other.public) (nobody x.fact.owner h.public)
        (one_told from.0 other.counted_by) (one_told x h.counted_by) from.2) from.1

    facts_once : AreOnce itself publics
    facts_once =
        once_from_map signed_text publics
        (subst (AreOnce itself) (sym same)
        (rising_once (slice_cmp nat_cmp) texts (tied_itself nat_list_cmp_total) (texts_rise (flat_map (λ v. v.facts) (map closed_view grounds)))))

    pub facts_counted : AreCounted team None publics
    facts_counted = record {
      once = once_pairs itself publics facts_once;
      exact = λ x. (
        λ found. let is = of x found in (nobody x.fact.owner is.public, (same_counted team x all).1 is.counted_by),
        λ h. in_facts x (record { public = ap is_none h.0; counted_by = (same_counted team x all).0 h.1 }),
      );
    }
