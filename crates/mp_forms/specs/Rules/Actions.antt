-- Actions (PDDL 2.1, with the agent parameter of multi-agent PDDL): a name, and keys with their values.
use Rattle.std.specs.Prelude.{ℕ, zero, suc, ◌||◌, Bool, false, List, [], ◌∷◌, ◌++◌, nat_lt, length, take, if◌then◌else◌, codes}
use Rattle.std.specs.List.{flat_map}
use Rattle.mp_sexp.specs.declared.tree.Place.{Place}
use Rattle.mp_sexp.specs.Node.{Node}
use Rattle.mp_forms.specs.declared.fault.FaultKind.TheVariants.{Parameters}
use Rattle.mp_forms.specs.declared.word.Word.{Word}
use Rattle.mp_forms.specs.declared.typed_values.Typed.{Typed}
use Rattle.mp_forms.specs.declared.literal.Literal.{Literal}
use Rattle.mp_forms.specs.declared.effect_values.Effect.{Effect}
use Rattle.mp_forms.specs.declared.schema_values.Schema.{Schema}
use Rattle.mp_forms.specs.Faults.{fault_at}
use Rattle.mp_forms.specs.Limits.{most_parameters}
use Rattle.mp_forms.specs.Parts.{is_word, place_of, parts, rest_of, is_list, is_variable_word}
use Rattle.mp_forms.specs.Reading.{Reading, Says, Wrong, misshapen, unsupported, both, besides, ◌with◌, keyword, wanted, all_right, once, at_most}
use Rattle.mp_forms.specs.Rules.Words.{name_rule, variable_rule}
use Rattle.mp_forms.specs.Rules.Typed.{type_rule, typed_of, typed_rule, variables}
use Rattle.mp_forms.specs.Rules.Conditions.{condition_rule}
use Rattle.mp_forms.specs.Rules.Effects.{effect_rule, no_effect}

-- ---- keys

-- what stands in the place of a key, and the members behind it that are its value
pub record Key : Type 0 where
  pub key : Node
  pub value : List Node

abbrev pub keyed : Node → List Node → Key
keyed key value = record { key = key; value = value }

-- the words that are keys
unfoldable pub is_key : Node → Bool
is_key node =
    is_word (codes ":agent") node || is_word (codes ":parameters") node
    || is_word (codes ":precondition") node || is_word (codes ":effect") node

-- how many members the value of a key has: `:agent` has a variable, `-` and a type
unfoldable pub value_length : Node → ℕ
value_length node = if is_word (codes ":agent") node then 3 else (if is_key node then 1 else 0)

-- the keys among these members, of which the first so many belong to the value of a key before them
unfoldable pub keys_behind : ℕ → List Node → List Key
keys_behind left [] = []
keys_behind zero (n ∷ ns) =
    keyed n (take (value_length n) ns) ∷ keys_behind (value_length n) ns
keys_behind (suc left) (n ∷ ns) = keys_behind left ns

-- the keys of an action, whose members behind its name these are; the value of the last may be cut short
abbrev pub keys_of : List Node → List Key
keys_of members = keys_behind 0 members

-- a value that lacks some of its members
abbrev pub is_cut_short : Key → Bool
is_cut_short k = nat_lt (length k.value) (value_length k.key)

-- a word that is a key and has its value is wanted, in the action at this place
unfoldable pub key_rule : Place → Key → Reading (Unit {0})
key_rule whole k =
    if is_list k.key then misshapen (place_of k.key)
    else (if is_key k.key then (if is_cut_short k then misshapen whole else Says tt) else unsupported k.key)

-- the value of this key by its rule; where the key is missing, this
abbrev pub in_key : {X : Type 0} → List ℕ → (List Node → Reading X) → X → List Key → Reading X
in_key w rule missing keys =
    once (λ k. is_word w k.key) (λ k. place_of k.key) (λ k. rule k.value) (Says missing) keys

-- ---- parameters

-- `VARIABLE - TYPE`, behind `:agent` in the action at this place
unfoldable pub agent_rule : Place → List Node → Reading (List Typed)
agent_rule whole (variable ∷ dash ∷ type ∷ _) =
    besides (keyword (codes "-") dash)
    (both (λ word types. typed_of false word types ∷ []) (variable_rule variable) (type_rule type))
agent_rule whole _ = misshapen whole

-- `(TYPED-VARIABLES)`
unfoldable pub parameters_rule : Node → Reading (List Typed)
parameters_rule node =
    if is_list node then typed_rule variables (place_of node) (parts node) else misshapen (place_of node)

abbrev pub first_parts : List Node → List Node
first_parts [] = []
first_parts (n ∷ ns) = parts n

-- where a key names parameters: the member behind `:agent`, and the members of the list behind `:parameters`
unfoldable pub parameter_members : Key → List Node
parameter_members k =
    if is_word (codes ":agent") k.key then take 1 k.value
    else (if is_word (codes ":parameters") k.key then first_parts k.value else [])

-- a parameter where there may be no more
abbrev pub surplus_parameter : Node → Reading (Unit {0})
surplus_parameter node = Wrong (fault_at (place_of node) Parameters) []

-- ---- actions

abbrev pub schema_of : Word → List Typed → List Typed → List Literal → Effect → Schema
schema_of word agent params pre effect = record {
  word = word;
  params = agent ++ params;
  pre = pre;
  add = effect.add;
  del = effect.del;
  increases = effect.increases;
}

-- what an action of this name says by its keys, in the list at this place: the agent is its first parameter
unfoldable pub keys_rule : Place → Node → List Key → Reading Schema
keys_rule whole name keys =
    Says schema_of
    with name_rule name
    with in_key (codes ":agent") (agent_rule whole) [] keys
    with in_key (codes ":parameters") (wanted parameters_rule whole) [] keys
    with in_key (codes ":precondition") (wanted condition_rule whole) [] keys
    with in_key (codes ":effect") (wanted effect_rule whole) no_effect keys

-- and whether its keys are right, and its parameters not too many
abbrev pub by_keys : Place → Node → List Key → Reading Schema
by_keys whole name keys =
    besides (all_right (key_rule whole) keys)
    (besides (at_most most_parameters is_variable_word surplus_parameter (flat_map parameter_members keys)) (keys_rule whole name keys))

abbrev pub action_members : Place → List Node → Reading Schema
action_members whole [] = misshapen whole
action_members whole (name ∷ members) = by_keys whole name (keys_of members)

-- `(:action NAME KEY VALUE ..)`
unfoldable pub action_rule : Node → Reading Schema
action_rule node = action_members (place_of node) (rest_of (parts node))
