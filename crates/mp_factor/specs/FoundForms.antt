-- What is found of the forms that code reads in another order than their rules, or part by part. No public clause cites
-- this module.
use Rattle.std.specs.Prelude.{◌≡◌, ◌&&◌, ◌||◌, ℕ, suc, Bool, true, List, [], ◌∷◌, ◌++◌, map, Result, if◌then◌else◌}
use Rattle.mp_sexp.specs.Node.{Node, node_of, nodes_in}
use Rattle.mp_forms.specs.declared.fault.Fault.{Fault}
use Rattle.mp_factor.specs.declared.keys.Key.{Key as KeyTrees}
use Rattle.mp_forms.specs.declared.word.Word.{Word}
use Rattle.mp_forms.specs.declared.typed_values.Typed.{Typed}
use Rattle.mp_forms.specs.declared.signature_values.Signature.{Signature}
use Rattle.mp_forms.specs.declared.literal.Literal.{Literal}
use Rattle.mp_forms.specs.declared.schema_values.Schema.{Schema}
use Rattle.mp_forms.specs.declared.effect_values.Change.{Change}
use Rattle.mp_forms.specs.declared.effect_values.Effect.{Effect}
use Rattle.mp_forms.specs.declared.init_values.Fact.{Fact}
use Rattle.mp_forms.specs.declared.init_values.Start.{Start}
use Rattle.mp_forms.specs.FactorParts.{DomainParts, ProblemParts}
use Rattle.mp_factor.specs.Found.{both_found, said_found}
use Rattle.mp_forms.specs.Rules.Effects.{add_in, delete_in, increase_in}
use Rattle.mp_forms.specs.Rules.Typed.{Listing, Declared, is_dash}
use Rattle.mp_forms.specs.Rules.Actions.{Key, keyed, schema_of}
use Rattle.mp_forms.specs.Rules.Init.{atom_in, value_in}
use Rattle.mp_forms.specs.Rules.Files.{domain_of, problem_of}

-- what an effect does with one change more
abbrev pub grown : Effect → Change → Effect
grown effect change = record {
  add = effect.add ++ add_in change;
  del = effect.del ++ delete_in change;
  increases = effect.increases ++ increase_in change;
}

-- ---- typed lists

-- `-` before the type of the items that stand before it, or a block
abbrev pub ends : {X T : Type 0} → Listing X T → Node → Bool
ends listing node = listing.takes_type && is_dash node || listing.is_block node

-- members behind the items of one type: none, or the first of them ends these
abbrev pub AreBehindItems : {X T : Type 0} → Listing X T → List Node → Type 0
AreBehindItems listing [] = Unit {0}
AreBehindItems listing (n ∷ ns) = ends listing n ≡ true

-- how many members come before the first that ends items of one type
abbrev pub group_size : {X T : Type 0} → Listing X T → List Node → ℕ
group_size listing [] = 0
group_size listing (n ∷ ns) = if ends listing n then 0 else suc (group_size listing ns)

-- what is declared from some member on, without the type
abbrev pub items_found : {X T : Type 0} → Result (Declared X T) Fault → Result (List X) Fault
items_found found = said_found (λ declared. declared.items) found

-- items that are known in full by their type
abbrev pub group_found : {X T : Type 0} → Result (List (T → X)) Fault → Result T Fault → Result (List X) Fault
group_found makes type = both_found (λ ms t. map (λ make. make t) ms) makes type

-- ---- the start

-- what is said with one member more
abbrev pub started : Start → Fact → Start
started start fact = record {
  facts = start.facts ++ atom_in fact;
  values = start.values ++ value_in fact;
}

-- ---- actions

-- the nodes of a key and of its value
abbrev pub key_nodes : KeyTrees → Key
key_nodes k = keyed (node_of k.key.now) (nodes_in k.value.now)

-- ---- files, part by part

abbrev pub domain_from : (((((Word × List Typed) × List Typed) × List Signature) × List Signature) × List Schema) → DomainParts
domain_from p = domain_of p.0.0.0.0.0 p.0.0.0.0.1 p.0.0.0.1 p.0.0.1 p.0.1 p.1

abbrev pub problem_from : (((((Word × Word) × List Typed) × Start) × List Literal) × Bool) → ProblemParts
problem_from p = problem_of p.0.0.0.0.0 p.0.0.0.0.1 p.0.0.0.1 p.0.0.1 p.0.1 p.1

abbrev pub schema_from : ((((Word × List Typed) × List Typed) × List Literal) × Effect) → Schema
schema_from p = schema_of p.0.0.0.0 p.0.0.0.1 p.0.0.1 p.0.1 p.1
