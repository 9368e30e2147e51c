-- What an instance asks for and does once static preconditions are left out and complements are
-- facts.
use Rattle.std.specs.Prelude.{Bool, ◌&&◌, ◌||◌, not, List, ◌++◌, map, filter}
use Rattle.std.specs.List.{list_all}
use Rattle.mp_joint.specs.declared.fact.NamedFact.{NamedFact}
use Rattle.mp_joint.specs.declared.fact.SignedFact.{SignedFact}
use Rattle.mp_joint.specs.Fact.{Text, is_among, plain, complement}
use Rattle.mp_joint.specs.Instance.{Instance, State}

-- What has to be known for that: the predicates that are static and those whose facts have
-- complements, as one factor names them, and what is true at the start.
pub record Setting : Type 0 where
  pub is_static : Text → Bool
  pub is_negated : Text → Bool
  pub start : State

-- a fact is static, or has a complement
abbrev pub is_static_fact : Setting → NamedFact → Bool
is_static_fact setting f = setting.is_static f.predicate

abbrev pub has_complement : Setting → NamedFact → Bool
has_complement setting f = setting.is_negated f.predicate

-- the static preconditions of an instance are as the start has them: the positive ones true, the
-- negative ones false
abbrev pub suits_start : Setting → Instance → Bool
suits_start setting i =
    list_all (λ f. not (is_static_fact setting f) || setting.start f) i.positive
    && list_all (λ f. not (is_static_fact setting f && setting.start f)) i.negative

-- the other preconditions, a negative one as the complement
abbrev pub needed : Setting → Instance → List SignedFact
needed setting i =
    map plain (filter (λ f. not (is_static_fact setting f)) i.positive)
    ++ map complement (filter (λ f. not (is_static_fact setting f)) i.negative)

-- the adds, and the complements of those deletes that are no adds
abbrev pub added : Setting → Instance → List SignedFact
added setting i =
    map plain i.add
    ++ map complement (filter (λ f. has_complement setting f && not (is_among f i.add)) i.del)

-- the deletes, and the complements of the adds
abbrev pub deleted : Setting → Instance → List SignedFact
deleted setting i =
    map plain i.del ++ map complement (filter (λ f. has_complement setting f) i.add)

-- all that it needs, adds or deletes
abbrev pub touched : Setting → Instance → List SignedFact
touched setting i = needed setting i ++ added setting i ++ deleted setting i
