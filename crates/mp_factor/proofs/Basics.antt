-- What proofs about shapes cite of the standard library, of the crates below, and of the definitions here, under one name.
pub use Rattle.std.proofs.Common.{Bool, Err, List, None, Ok, Option, Ordering, Result, Some, [], ap, arith, drop, drop-cons, false, get_or, inr, length}
pub use Rattle.std.proofs.Common.{add-one, cond, map, not, refl, subst, suc, sym, take, true, true≢false, zero, ℕ, ◌&&◌, ◌*◌, ◌++◌, ◌+◌, ◌-◌, ◌<◌, ◌||◌, ◌∙◌, ◌∷◌, ◌≡◌, ◌≤◌}
pub use Rattle.std.proofs.Math.ListN.{drop_of_length-le}
pub use Rattle.std.proofs.lemmas.Bool.{eqb-true}
pub use Rattle.std.proofs.lemmas.List.{append-nil, append_assoc, map-append}
pub use Rattle.std.proofs.lemmas.List.Concat.{flat_map-append}
pub use Rattle.std.specs.Cmp.Lexicographic.{slice_cmp}
pub use Rattle.std.specs.Global.{Vec}
pub use Rattle.std.specs.List.{filter, find, flat_map}
pub use Rattle.std.specs.Map.{lookup}
pub use Rattle.std.specs.Ordering.{is_lt, nat_cmp, ordering_then}
pub use Rattle.std.specs.Prelude.{IfOk, codes, if◌then◌else◌, min, ◌==◌}
pub use Rattle.mp_sexp.proofs.Trees.{node_of-list}
pub use Rattle.mp_sexp.specs.Node.{Node, list, node_of, nodes_in, word}
pub use Rattle.mp_sexp.specs.declared.tree.Place.{Place}
pub use Rattle.mp_sexp.specs.declared.tree.Tree.{Tree}
pub use Rattle.mp_forms.specs.Conjuncts.{is_increase}
unfoldable pub use Rattle.mp_forms.specs.Conjuncts.{conjuncts, conjuncts_of_all}
pub use Rattle.mp_forms.specs.Faults.{IsFirst, fault_at}
pub use Rattle.mp_factor.specs.FirstCosts.{AreFirst}
pub use Rattle.mp_factor.specs.Found.{both_found, earliest_of, found_in, more_found, nothing_found, said_found, second_found}
unfoldable pub use Rattle.mp_factor.specs.Found.{earlier_of}
pub use Rattle.mp_factor.specs.FoundForms.{AreBehindItems, domain_from, group_size, items_found, key_nodes, problem_from}
pub use Rattle.mp_forms.specs.Limits.{most_increases, most_parameters, names_of_atom}
pub use Rattle.mp_forms.specs.Numbers.{value_behind}
pub use Rattle.mp_forms.specs.Parts.{is_headed, is_variable_word, is_word, parts, place_of}
pub use Rattle.mp_forms.specs.Reading.{Reading, Says, Wrong, besides, costly, faults_in, misshapen, of_first}
unfoldable pub use Rattle.mp_forms.specs.Reading.{all_right, at_most, both, each, keyword, once, said, wanted}
pub use Rattle.mp_forms.specs.Rules.Actions.{Key, in_key, keyed, keys_of, schema_of, surplus_parameter}
unfoldable pub use Rattle.mp_forms.specs.Rules.Actions.{action_rule, agent_rule, key_rule, keys_behind, keys_rule, parameter_members, parameters_rule, value_length}
unfoldable pub use Rattle.mp_forms.specs.Rules.Conditions.{condition_rule}
pub use Rattle.mp_forms.specs.Rules.Effects.{effect_of, no_effect, surplus_increase}
unfoldable pub use Rattle.mp_forms.specs.Rules.Effects.{change_rule, effect_rule}
pub use Rattle.mp_forms.specs.Rules.Files.{define_members, domain_of, domain_rule, domain_sections, problem_of, problem_rule, problem_sections}
unfoldable pub use Rattle.mp_forms.specs.Rules.Files.{domain_parts, file_rule, problem_parts, title_rule}
pub use Rattle.mp_forms.specs.Rules.Init.{Given, atom_in, empty_start, given_in, same_names, start_of, value_in}
unfoldable pub use Rattle.mp_forms.specs.Rules.Init.{differing, differs, fact_rule, given, init_rule}
pub use Rattle.mp_forms.specs.Rules.Sections.{actions_rule, in_section}
unfoldable pub use Rattle.mp_forms.specs.Rules.Sections.{domain_words, goal_rule, listed_rule, named_rule, problem_words, sections_rule, start_rule}
pub use Rattle.mp_forms.specs.Rules.Signatures.{functions, predicates}
unfoldable pub use Rattle.mp_forms.specs.Rules.Signatures.{signature_rule}
pub use Rattle.mp_forms.specs.Rules.Typed.{Declared, Listing, is_dash, names, objects, typed_of, with_block, with_item, with_type}
unfoldable pub use Rattle.mp_forms.specs.Rules.Typed.{type_first, typed_from, typed_rule}
unfoldable pub use Rattle.mp_forms.specs.Rules.Words.{name_rule}
pub use Rattle.mp_forms.specs.declared.effect_values.Change.{Change}
pub use Rattle.mp_forms.specs.declared.effect_values.Effect.{Effect}
pub use Rattle.mp_forms.specs.declared.fault.Fault.{Fault}
pub use Rattle.mp_forms.specs.declared.fault.FaultKind.{FaultKind}
pub use Rattle.mp_forms.specs.declared.fault.FaultKind.TheVariants.{Cost, Parameters, Shape}
pub use Rattle.mp_forms.specs.declared.init_values.Fact.{Fact}
pub use Rattle.mp_forms.specs.declared.init_values.Start.{Start}
pub use Rattle.mp_forms.specs.declared.literal.Literal.{Literal}
pub use Rattle.mp_forms.specs.declared.typed_values.Typed.{Typed}
pub use Rattle.mp_forms.specs.declared.word.Word.{Word}
