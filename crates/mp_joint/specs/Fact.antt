-- Named facts (MA-STRIPS, Brafman and Domshlak 2008) and the privacy rule of factored MA-PDDL.
use Rattle.std.specs.Prelude.{ℕ, ◌==◌, Bool, true, false, ◌&&◌, ◌||◌, Option, Some, None, List, if◌then◌else◌}
use Rattle.std.specs.Cmp.Lexicographic.{pointwise}
use Rattle.std.specs.List.{list_any}
use Rattle.std.specs.Str.{bytes_eq}
use Rattle.mp_joint.specs.declared.fact.NamedFact.{NamedFact}
use Rattle.mp_joint.specs.declared.fact.SignedFact.{SignedFact}

-- a text, as its bytes
abbrev pub Text : Type 0
Text = List ℕ

abbrev pub same_owner : Option ℕ → Option ℕ → Bool
same_owner None None = true
same_owner None (Some b) = false
same_owner (Some a) None = false
same_owner (Some a) (Some b) = a == b

-- facts are the same where owner, predicate and arguments are
abbrev pub same_fact : NamedFact → NamedFact → Bool
same_fact f g = same_owner f.owner g.owner && (bytes_eq f.predicate g.predicate && pointwise bytes_eq f.args g.args)

abbrev pub is_among : NamedFact → List NamedFact → Bool
is_among f facts = list_any (λ g. same_fact f g) facts

-- the names that a factor keeps to itself
pub record Privates : Type 0 where
  pub predicates : List Text
  pub objects : List Text

abbrev pub is_listed : Text → List Text → Bool
is_listed name names = list_any (λ n. bytes_eq name n) names

-- The privacy rule: a fact is private where its predicate or one of its arguments is private in its agent's factor.
abbrev pub is_private : Privates → Text → List Text → Bool
is_private privates predicate args =
    is_listed predicate privates.predicates || list_any (λ a. is_listed a privates.objects) args

-- a private fact belongs to its agent, and a public one to nobody
abbrev pub owner : ℕ → Privates → Text → List Text → Option ℕ
owner agent privates predicate args = if is_private privates predicate args then Some agent else None

-- the named fact of a predicate and arguments of an agent's factor
abbrev pub named : ℕ → Privates → Text → List Text → NamedFact
named agent privates predicate args =
    record { owner = owner agent privates predicate args; predicate = predicate; args = args }

-- a fact as it is, and its complement, which is true exactly where the fact is false
abbrev pub plain : NamedFact → SignedFact
plain f = record { positive = true; fact = f }

abbrev pub complement : NamedFact → SignedFact
complement f = record { positive = false; fact = f }
