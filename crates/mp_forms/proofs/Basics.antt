-- What proofs about rules cite of the standard library, of the crates below, and of the definitions here, under one name.
pub use Rattle.std.proofs.Common.{All, Bool, List, None, Option, Some, [], ap, arith, drop, false, inr, length}
pub use Rattle.std.proofs.Common.{length-append, map, not, refl, subst, suc, sym, take, true, true≢false, zero, ℕ, ◌++◌, ◌+◌, ◌||◌, ◌∙◌, ◌∷◌, ◌≡◌, ◌≤◌}
pub use Rattle.std.proofs.lemmas.Bool.{cond_both, eqb-true}
pub use Rattle.std.proofs.lemmas.List.{append-nil, append_assoc, map-append}
pub use Rattle.std.proofs.lemmas.List.Elements.{All-append, All-cons, All-filter, All-head, All-map, All-nil, All-tail, All-weaker}
pub use Rattle.std.proofs.lemmas.Slice.Eq.{bytes_eq-Decides}
pub use Rattle.std.specs.List.{filter, flat_map}
pub use Rattle.std.specs.Prelude.{codes, if◌then◌else◌, ◌==◌}
pub use Rattle.std.specs.Str.{bytes_eq}
pub use Rattle.mp_sexp.specs.Node.{Node, list, word}
pub use Rattle.mp_sexp.specs.declared.tree.Place.{Place}
pub use Rattle.mp_forms.specs.Conjuncts.{is_increase, is_negation}
unfoldable pub use Rattle.mp_forms.specs.Conjuncts.{conjuncts, conjuncts_of_all}
pub use Rattle.mp_forms.specs.FactorParts.{DomainParts, ProblemParts}
pub use Rattle.mp_forms.specs.Faults.{fault_at}
pub use Rattle.mp_forms.specs.FromFile.{IsDomainOfFile, IsProblemOfFile}
unfoldable pub use Rattle.mp_forms.specs.Kinds.{is_name, is_variable}
pub use Rattle.mp_forms.specs.Limits.{DomainFits, HasOneCostEach, ProblemFits, most_increases, most_parameters, names_of_atom}
pub use Rattle.mp_forms.specs.Uses.{Use, as_name, as_variable, as_cost, object_uses, parameter_uses, signature_uses, term_use, atom_uses, literal_uses, increase_uses, value_uses, schema_uses}
pub use Rattle.mp_forms.specs.Uses.{domain_uses, problem_uses, IsName, IsVariable, IsTaken, DomainIsNamed, ProblemIsNamed}
pub use Rattle.mp_forms.specs.Numbers.{greatest_cost}
unfoldable pub use Rattle.mp_forms.specs.Numbers.{cost_of}
pub use Rattle.mp_forms.specs.Parts.{is_headed, is_list, is_name_word, is_variable_word, is_word, parts, place_of, rest_of, word_of}
pub use Rattle.mp_forms.specs.Reading.{Reading, Says, Wrong, misshapen, of_first}
unfoldable pub use Rattle.mp_forms.specs.Reading.{all_right, alone, at_most, both, each, once, said, wanted}
pub use Rattle.mp_forms.specs.Rules.Actions.{Key, in_key, keyed, keys_of, schema_of}
unfoldable pub use Rattle.mp_forms.specs.Rules.Actions.{action_rule, agent_rule, keys_behind, keys_rule, parameter_members, parameters_rule, value_length}
pub use Rattle.mp_forms.specs.Rules.Atoms.{atom_rule, object_rule}
unfoldable pub use Rattle.mp_forms.specs.Rules.Atoms.{applied_rule, term_rule}
unfoldable pub use Rattle.mp_forms.specs.Rules.Conditions.{condition_rule, negated_rule}
pub use Rattle.mp_forms.specs.Rules.Effects.{effect_of, increase_in, no_effect}
unfoldable pub use Rattle.mp_forms.specs.Rules.Effects.{change_rule, effect_rule, increase_rule}
pub use Rattle.mp_forms.specs.Rules.Files.{define_members, domain_of, domain_rule, domain_sections, problem_of, problem_rule, problem_sections}
unfoldable pub use Rattle.mp_forms.specs.Rules.Files.{domain_parts, file_rule, problem_parts, title_rule}
pub use Rattle.mp_forms.specs.Rules.Init.{Given, atom_in, empty_start, given_in, same_names, start_of, value_in}
unfoldable pub use Rattle.mp_forms.specs.Rules.Init.{differing, differs, fact_rule, given, init_rule}
pub use Rattle.mp_forms.specs.Rules.Sections.{actions_rule, in_section}
unfoldable pub use Rattle.mp_forms.specs.Rules.Sections.{goal_rule, listed_rule, named_rule, start_rule}
pub use Rattle.mp_forms.specs.Rules.Signatures.{functions, predicates}
unfoldable pub use Rattle.mp_forms.specs.Rules.Signatures.{declared_function, declared_predicate, signature_rule}
pub use Rattle.mp_forms.specs.Rules.Typed.{Declared, Listing, is_dash, names, objects, typed_of, variables, with_block, with_item, with_type}
unfoldable pub use Rattle.mp_forms.specs.Rules.Typed.{type_first, type_rule, typed_from, typed_rule}
pub use Rattle.mp_forms.specs.Rules.Words.{word_at}
unfoldable pub use Rattle.mp_forms.specs.Rules.Words.{name_rule, variable_rule}
unfoldable pub use Rattle.mp_forms.specs.Written.{words_of}
pub use Rattle.mp_forms.specs.declared.atom_values.Atom.{Atom}
pub use Rattle.mp_forms.specs.declared.atom_values.Term.{Term}
pub use Rattle.mp_forms.specs.declared.atom_values.Term.TheVariants.{Object, Variable}
pub use Rattle.mp_forms.specs.declared.effect_values.Change.{Change}
pub use Rattle.mp_forms.specs.declared.effect_values.Change.TheVariants.{Add, Delete, Grow}
pub use Rattle.mp_forms.specs.declared.effect_values.Effect.{Effect}
pub use Rattle.mp_forms.specs.declared.effect_values.Increase.{Increase}
pub use Rattle.mp_forms.specs.declared.effect_values.Increase.TheVariants.{Function, Number}
pub use Rattle.mp_forms.specs.declared.fault.Fault.{Fault}
pub use Rattle.mp_forms.specs.declared.fault.FaultKind.TheVariants.{Cost, Parameters, Shape}
pub use Rattle.mp_forms.specs.declared.init_values.Fact.{Fact}
pub use Rattle.mp_forms.specs.declared.init_values.Start.{Start}
pub use Rattle.mp_forms.specs.declared.init_values.Value.{Value}
pub use Rattle.mp_forms.specs.declared.literal.Literal.{Literal}
pub use Rattle.mp_forms.specs.declared.schema_values.Schema.{Schema}
pub use Rattle.mp_forms.specs.declared.signature_values.Signature.{Signature}
pub use Rattle.mp_forms.specs.declared.typed_values.Typed.{Typed}
pub use Rattle.mp_forms.specs.declared.word.Word.{Word}
