-- Lists of facts and of complements.
use Rattle.std.proofs.Common.{◌≡◌, List, ◌++◌, map, ◌⊎◌, inl, inr, ap, subst}
use Rattle.std.proofs.lemmas.Bool.{true≢false, false≢true}
use Rattle.std.proofs.lemmas.List.Elements.{Contains-append_left, Contains-append_right, Contains-append_cases}
use Rattle.std.specs.Prelude.{Contains}
use Rattle.mp_joint.specs.declared.fact.NamedFact.{NamedFact}
use Rattle.mp_joint.specs.declared.fact.SignedFact.{SignedFact}
use Rattle.mp_joint.specs.Fact.{plain, complement}
use Rattle.mp_list.proofs.Members.{to_map, from_map}

-- what stands among facts and complements is the one or the other
pub signed_cases : (facts others : List NamedFact) (x : SignedFact) → Contains (map plain facts ++ map complement others) x
    → ((f : NamedFact) × Contains facts f × (plain f ≡ x)) ⊎ ((f : NamedFact) × Contains others f × (complement f ≡ x))
signed_cases facts others x here =
    elim (Contains-append_cases (map plain facts) (map complement others) x here) [
      | inl there ↦ inl (from_map plain facts x there)
      | inr there ↦ inr (from_map complement others x there)
    ]

pub plain_among : (facts others : List NamedFact) (f : NamedFact) → Contains (map plain facts ++ map complement others) (plain f) → Contains facts f
plain_among facts others f here =
    elim (signed_cases facts others (plain f) here) [
      | inl found ↦ subst (Contains facts) (ap (λ (x : SignedFact). x.fact) found.2) found.1
      | inr found ↦ absurd (false≢true (ap (λ (x : SignedFact). x.positive) found.2))
    ]

pub complement_among : (facts others : List NamedFact) (f : NamedFact) → Contains (map plain facts ++ map complement others) (complement f) → Contains others f
complement_among facts others f here =
    elim (signed_cases facts others (complement f) here) [
      | inl found ↦ absurd (true≢false (ap (λ (x : SignedFact). x.positive) found.2))
      | inr found ↦ subst (Contains others) (ap (λ (x : SignedFact). x.fact) found.2) found.1
    ]

pub among_plain : (facts others : List NamedFact) (f : NamedFact) → Contains facts f → Contains (map plain facts ++ map complement others) (plain f)
among_plain facts others f here = Contains-append_left (map plain facts) (map complement others) (plain f) (to_map plain facts f here)

pub among_complement : (facts others : List NamedFact) (f : NamedFact) → Contains others f → Contains (map plain facts ++ map complement others) (complement f)
among_complement facts others f here = Contains-append_right (map plain facts) (map complement others) (complement f) (to_map complement others f here)
