-- How many bindings are tried where an agent's factor is grounded, by names.
use Rattle.std.specs.Prelude.{ℕ, Bool, true, List, [], map, filter, length, take}
use Rattle.std.specs.List.{list_all, list_any, sum_by}
use Rattle.std.specs.Str.{bytes_eq}
use Rattle.mp_forms.specs.declared.factor.Factor.{Factor}
use Rattle.mp_forms.specs.declared.typed_values.Typed.{Typed}
use Rattle.mp_forms.specs.declared.atom_values.Term.{Term}
use Rattle.mp_forms.specs.declared.atom_values.Term.TheVariants.{Variable, Object}
use Rattle.mp_forms.specs.declared.literal.Literal.{Literal}
use Rattle.mp_forms.specs.declared.schema_values.Schema.{Schema}
use Rattle.mp_joint.specs.Fact.{Text}
use Rattle.mp_joint.specs.FactorContribution.{instance_with}
use Rattle.mp_joint.specs.Grounded.{Setting, suits_start}
use Rattle.mp_bindings.specs.Bindings.{tried}
use Rattle.mp_ground_laws.specs.Grounding.{members_by_name}

-- a term is known with objects for some parameters: it is one of these, or an object
abbrev pub is_known_term : List Typed → Term → Bool
is_known_term params (Variable word) = list_any (λ p. bytes_eq p.word.name word.name) params
is_known_term params (Object word) = true

-- all terms of a precondition are known
abbrev pub is_known : List Typed → Literal → Bool
is_known params literal = list_all (is_known_term params) literal.atom.terms

-- an action cut to its first parameters, so many: it has the preconditions that are known with objects for these, and no
-- effect
abbrev pub cut_to : ℕ → Schema → Schema
cut_to count schema = record {
  word = schema.word;
  params = take count schema.params;
  pre = filter (is_known (take count schema.params)) schema.pre;
  add = [];
  del = [];
  increases = [];
}

-- With these objects for the first parameters of an action, each static precondition whose terms are all known is as the
-- start has it.
abbrev pub suits_so_far : ℕ → Factor → Setting → Schema → List Text → Bool
suits_so_far agent factor setting schema objects =
    suits_start setting (instance_with agent factor (cut_to (length objects) schema) objects 0)

-- The tried bindings of an action: objects for its first parameter, for its first two, and so on up to all, where each
-- shorter beginning suits.
abbrev pub tried_of : ℕ → Factor → Setting → Schema → List (List Text)
tried_of agent factor setting schema =
    tried (suits_so_far agent factor setting schema) (map (members_by_name factor) schema.params)

-- how many there are for all actions
abbrev pub tries : ℕ → Factor → Setting → ℕ
tries agent factor setting = sum_by (λ schema. length (tried_of agent factor setting schema)) factor.domain.schemas
