-- The numbers of facts in a task are those of the facts that they are made of.
use Rattle.std.proofs.Common.{◌≡◌, ℕ, Bool, true, ◌&&◌, List, [], map, filter, All, Some, slice_get, sym, ap, ◌∙◌, subst, inl, inr}
use Rattle.std.proofs.lemmas.Bool.{cases_Bool, and_parts, and_from, not_from_false}
use Rattle.std.proofs.lemmas.Option.{slice_get-map}
use Rattle.std.specs.Option.{option_map}
use Rattle.std.specs.Prelude.{Contains}
use Rattle.mp_list.proofs.Members.{any_from, some_member, to_map, from_map}
use Rattle.mp_forms.specs.declared.factor.Factor.{Factor}
use Rattle.mp_typing.specs.Places.{numbers_where}
use Rattle.mp_typing.proofs.Passing.{taken_passes, taken_from_passes}
use Rattle.mp_task.proofs.Agreeing.{Contains-slice_get}
use Rattle.mp_joint.specs.declared.fact.SignedFact.{SignedFact}
use Rattle.mp_joint.specs.Fact.{Text, is_listed}
use Rattle.mp_lifting.specs.Texts.{signed_text}
use Rattle.mp_views.specs.Public.{is_public}
use Rattle.mp_stands.specs.Numbering.{HasNumberAmong, StandsForOneOf, AreNumbersOf}
use Rattle.mp_stands.proofs.MemberLists.{has_place, mapped}
use Rattle.mp_ground_laws.specs.Checked.{IsChecked}
use Rattle.mp_grounder.specs.declared.grounded.Ground.{Ground}
use Rattle.mp_grounder.specs.Grounded.{IsGrounded, counted}
use Rattle.mp_grounder.specs.Places.{same_signed, is_one_of, places_in, public_places_in}
use Rattle.mp_grounder.proofs.SameFacts.{same_signed_is, signed_itself}
use Rattle.mp_split.specs.Closed.{texts_at}
use Rattle.mp_split.specs.TaskOf.{numbers}
use Rattle.mp_split.specs.Team.{AreGrounded, known_at, shown_by}
use Rattle.mp_stands.proofs.Facts.{signed_tells, nobody}
use Rattle.mp_stands.proofs.JoinedLists.{listed_some, member_listed, listed_member}
use Rattle.mp_stands.proofs.Places.{from_places, to_places, items_at_places, from_start}
use Rattle.mp_stands.proofs.Tables.{texts, one_told, IsPublicOfOne, in_facts, in_publics, counts_at}

-- ---- private numbers

pub private_number : (privates facts : List SignedFact) (x : SignedFact) → Contains privates x → Contains facts x → HasNumberAmong privates (places_in privates facts) x
private_number privates facts x listed found =
    let place = has_place privates x listed in
    let passes : is_one_of x facts ≡ true = any_from (λ y. same_signed x y) facts x found (signed_itself x) in (
      place.0,
      subst (Contains (places_in privates facts)) (from_start place.0) (to_places 0 (λ y. is_one_of y facts) privates place.0 x place.1 passes),
      place.1,
    )

pub private_stands : (privates facts : List SignedFact) (n : ℕ) → Contains (places_in privates facts) n → StandsForOneOf privates facts n
private_stands privates facts n found =
    let p = from_places 0 (λ y. is_one_of y facts) privates n found in
    let other = some_member (λ y. same_signed p.item y) facts p.passes in (
      p.item,
      ap (slice_get privates) (p.is ∙ from_start p.index) ∙ p.at,
      subst (Contains facts) (sym (same_signed_is p.item other.0 other.2)) other.1,
    )

-- ---- public numbers

module _ (team : List Factor) (grounds : List Ground) (all : All IsChecked team) (are : AreGrounded team grounds) (publics : List SignedFact)
    (same : map signed_text publics ≡ texts team grounds all are)
    (of : (x : SignedFact) → Contains publics x → IsPublicOfOne team grounds all are x) where
  abbrev table : List Text
  table = texts team grounds all are

  pub text_at : (n : ℕ) (x : SignedFact) → slice_get publics n ≡ Some x → slice_get table n ≡ Some (signed_text x)
  text_at n x at = ap (λ ts. slice_get ts n) (sym same) ∙ slice_get-map signed_text publics n ∙ ap (option_map signed_text) at

  pub fact_at : (n : ℕ) (text : Text) → slice_get table n ≡ Some text → (x : SignedFact) × (slice_get publics n ≡ Some x) × (signed_text x ≡ text)
  fact_at n text at = mapped signed_text (slice_get publics n) text (sym (slice_get-map signed_text publics n) ∙ ap (λ ts. slice_get ts n) same ∙ at)

  pub public_number : (test : Text → Bool) (x : SignedFact) → IsPublicOfOne team grounds all are x → test (signed_text x) ≡ true
      → HasNumberAmong publics (numbers_where 0 test table) x
  public_number test x is passes =
      let place = has_place publics x (in_facts team grounds all are publics same of x is) in (
        place.0,
        subst (Contains (numbers_where 0 test table)) (from_start place.0)
            (to_places 0 test table place.0 (signed_text x) (text_at place.0 x place.1) passes),
        place.1,
      )

  -- a public fact with the text of a fact of the table is that fact
  pub told : (x y : SignedFact) → IsPublicOfOne team grounds all are x → IsPublicOfOne team grounds all are y → signed_text x ≡ signed_text y → x ≡ y
  told x y h k e =
      signed_tells x y (nobody x.fact.owner h.public) (nobody y.fact.owner k.public)
      (one_told team grounds all are x h.counted_by) (one_told team grounds all are y k.counted_by) e

  pub public_stands : (test : Text → Bool) (facts : List SignedFact)
      → ((text : Text) → test text ≡ true → (x : SignedFact) × Contains facts x × IsPublicOfOne team grounds all are x × (signed_text x ≡ text))
      → (n : ℕ) → Contains (numbers_where 0 test table) n → StandsForOneOf publics facts n
  public_stands test facts source n found =
      let p = from_places 0 test table n found in
      let here = fact_at p.index p.item p.at in
      let from = source p.item p.passes in
      let one : here.0 ≡ from.0 =
      told here.0 from.0 (of here.0 (Contains-slice_get publics p.index here.0 here.1)) from.2 (here.2 ∙ sym from.3) in
      (from.0, ap (slice_get publics) (p.is ∙ from_start p.index) ∙ here.1 ∙ ap Some one, from.1)

  -- ---- facts that an agent counts

  module _ (place : ℕ) (factor : Factor) (g : Ground) (at : slice_get team place ≡ Some factor) (ground_at : slice_get grounds place ≡ Some g)
      (grounded : IsGrounded (known_at team place factor) g) (facts : List SignedFact)
      (counts : (x : SignedFact) → Contains facts x → Contains (counted (known_at team place factor)) x) where
    abbrev public_ones : List Text
    public_ones = map signed_text (filter is_public facts)

    -- the texts of the public ones, taken from the agent's own list
    abbrev own_texts : List Text
    own_texts = texts_at g.publics (public_places_in g.publics facts)

    own_listed : (text : Text) → is_listed text own_texts ≡ (is_listed text public_ones && is_listed text g.publics)
    own_listed text =
        ap (is_listed text) (items_at_places (λ t. is_listed t public_ones) g.publics [])
        ∙ listed_some (λ t. is_listed t public_ones) text g.publics

    is_of_one : (x : SignedFact) → Contains facts x → is_public x ≡ true → IsPublicOfOne team grounds all are x
    is_of_one x found public = record { public = public; counted_by = counts_at team grounds all are place factor x at (counts x found) }

    own_text : (x : SignedFact) → Contains facts x → is_public x ≡ true → is_listed (signed_text x) own_texts ≡ true
    own_text x found public =
        own_listed (signed_text x)
        ∙ and_from (is_listed (signed_text x) public_ones) (is_listed (signed_text x) g.publics)
        (member_listed (signed_text x) public_ones (to_map signed_text (filter is_public facts) x (taken_from_passes is_public facts x found public)))
        (in_publics team grounds all are place factor g at ground_at x public (counts x found))

    text_source : (text : Text) → is_listed text own_texts ≡ true
        → (x : SignedFact) × Contains facts x × IsPublicOfOne team grounds all are x × (signed_text x ≡ text)
    text_source text h =
        let parts = and_parts (is_listed text public_ones) (is_listed text g.publics) (sym (own_listed text) ∙ h) in
        let from = from_map signed_text (filter is_public facts) text (listed_member text public_ones parts.0) in
        let is = taken_passes is_public facts from.0 from.1 in
        (from.0, is.0, is_of_one from.0 is.0 is.1, from.2)

    pub are_numbers : AreNumbersOf publics grounded.private_facts facts (numbers (shown_by team grounds) own_texts) (places_in grounded.private_facts facts)
    are_numbers = record {
      each = λ x found.
          elim (cases_Bool (is_public x)) [
            | inl public ↦ inl (public_number (λ t. is_listed t own_texts) x (is_of_one x found public) (own_text x found public))
            | inr private ↦
                inr (private_number grounded.private_facts facts x
                ((grounded.listed.exact x).1 (counts x found, not_from_false (is_public x) private)) found)
          ];
      only_public = public_stands (λ t. is_listed t own_texts) facts text_source;
      only_private = private_stands grounded.private_facts facts;
    }
