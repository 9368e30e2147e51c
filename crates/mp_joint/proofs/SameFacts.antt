-- That facts are the same says that they are equal.
use Rattle.std.proofs.Common.{◌≡◌, ℕ, List, true, refl, ap, sym, subst, Option, Some, None, ◌&&◌}
use Rattle.std.proofs.lemmas.Bool.{and_from, and_parts, eqb-true, eq-eqb, false≢true}
use Rattle.std.proofs.lemmas.Slice.Eq.{bytes_eq-Decides, slice_eq-Decides}
use Rattle.std.specs.Cmp.Lexicographic.{pointwise}
use Rattle.std.specs.Prelude.{Contains, Decides}
use Rattle.std.specs.Str.{bytes_eq}
use Rattle.mp_list.proofs.Members.{some_member, any_from}
use Rattle.mp_joint.specs.declared.fact.NamedFact.{NamedFact}
use Rattle.mp_joint.specs.Fact.{Text, same_owner, same_fact, is_among}

same_owner_is : (a b : Option ℕ) → same_owner a b ≡ true → a ≡ b
same_owner_is None None h = refl
same_owner_is None (Some b) h = absurd (false≢true h)
same_owner_is (Some a) None h = absurd (false≢true h)
same_owner_is (Some a) (Some b) h = ap Some (eqb-true a b h)

pub owner_itself : (a : Option ℕ) → same_owner a a ≡ true
owner_itself None = refl
owner_itself (Some a) = eq-eqb a a refl

Decides-args : (a b : List Text) → Decides (pointwise bytes_eq a b) (a ≡ b)
Decides-args a b = slice_eq-Decides bytes_eq-Decides a b (pointwise bytes_eq a b) refl

pub same_fact_is : (f g : NamedFact) → same_fact f g ≡ true → f ≡ g
same_fact_is f g h =
    let parts = and_parts (same_owner f.owner g.owner) (bytes_eq f.predicate g.predicate && pointwise bytes_eq f.args g.args) h in
    let names = and_parts (bytes_eq f.predicate g.predicate) (pointwise bytes_eq f.args g.args) parts.1 in
    let owners : f.owner ≡ g.owner = same_owner_is f.owner g.owner parts.0 in
    let predicates : f.predicate ≡ g.predicate = (bytes_eq-Decides f.predicate g.predicate).0 names.0 in
    let args : f.args ≡ g.args = (Decides-args f.args g.args).0 names.1 in
    λ i. record { owner = owners i; predicate = predicates i; args = args i }

pub fact_itself : (f : NamedFact) → same_fact f f ≡ true
fact_itself f =
    and_from (same_owner f.owner f.owner) (bytes_eq f.predicate f.predicate && pointwise bytes_eq f.args f.args) (owner_itself f.owner)
    (and_from (bytes_eq f.predicate f.predicate) (pointwise bytes_eq f.args f.args) ((bytes_eq-Decides f.predicate f.predicate).1 refl) ((Decides-args f.args f.args).1 refl))

-- a fact is among some exactly where they have it
pub Decides-among : (f : NamedFact) (facts : List NamedFact) → Decides (is_among f facts) (Contains facts f)
Decides-among f facts = (
  λ h. let found = some_member (same_fact f) facts h in subst (Contains facts) (sym (same_fact_is f found.0 found.2)) found.1,
  λ found. any_from (same_fact f) facts f found (fact_itself f),
)
