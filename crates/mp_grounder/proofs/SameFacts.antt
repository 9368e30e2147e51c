-- That two facts or complements are the same says that they are equal.
use Rattle.mp_grounder.proofs.Basics.{◌≡◌, Bool, true, false, not, refl, if◌then◌else◌, SignedFact, same_signed}
use Rattle.std.proofs.lemmas.Bool.{and_from, and_parts, false≢true}
use Rattle.mp_joint.specs.Fact.{same_fact}
use Rattle.mp_joint.proofs.SameFacts.{same_fact_is, fact_itself}

same_sign_is : (a b : Bool) → (if a then b else not b) ≡ true → a ≡ b
same_sign_is true true h = refl
same_sign_is true false h = absurd (false≢true h)
same_sign_is false true h = absurd (false≢true h)
same_sign_is false false h = refl

sign_itself : (a : Bool) → (if a then a else not a) ≡ true
sign_itself true = refl
sign_itself false = refl

pub same_signed_is : (x y : SignedFact) → same_signed x y ≡ true → x ≡ y
same_signed_is x y h =
    let parts = and_parts (if x.positive then y.positive else not y.positive) (same_fact x.fact y.fact) h in
    let signs = same_sign_is x.positive y.positive parts.0 in
    let facts = same_fact_is x.fact y.fact parts.1 in
    λ i. record { positive = signs i; fact = facts i }

pub signed_itself : (x : SignedFact) → same_signed x x ≡ true
signed_itself x = and_from (if x.positive then x.positive else not x.positive) (same_fact x.fact x.fact) (sign_itself x.positive) (fact_itself x.fact)
