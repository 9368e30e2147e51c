-- Facts and complements by their places in a list of private ones, or in a list of the texts of public ones.
use Rattle.std.specs.Prelude.{ℕ, Bool, not, ◌&&◌, List, map, filter, if◌then◌else◌}
use Rattle.std.specs.List.{list_any}
use Rattle.mp_typing.specs.Places.{numbers_where}
use Rattle.mp_joint.specs.declared.fact.SignedFact.{SignedFact}
use Rattle.mp_joint.specs.Fact.{Text, is_listed, same_fact}
use Rattle.mp_lifting.specs.Texts.{signed_text}
use Rattle.mp_views.specs.Public.{is_public}

-- two are the same fact, or the complements of the same
abbrev pub same_signed : SignedFact → SignedFact → Bool
same_signed x y = (if x.positive then y.positive else not y.positive) && same_fact x.fact y.fact

abbrev pub is_one_of : SignedFact → List SignedFact → Bool
is_one_of x facts = list_any (λ y. same_signed x y) facts

-- the places of some facts in a list, in rising order
abbrev pub places_in : List SignedFact → List SignedFact → List ℕ
places_in table facts = numbers_where 0 (λ x. is_one_of x facts) table

-- the places of some texts in a list of texts, in rising order
abbrev pub text_places_in : List Text → List Text → List ℕ
text_places_in table texts = numbers_where 0 (λ text. is_listed text texts) table

-- the places of the texts of the public ones of some facts
abbrev pub public_places_in : List Text → List SignedFact → List ℕ
public_places_in table facts = text_places_in table (map signed_text (filter is_public facts))

-- a fact, or the complement of one, is private
abbrev pub is_private : SignedFact → Bool
is_private x = not (is_public x)
