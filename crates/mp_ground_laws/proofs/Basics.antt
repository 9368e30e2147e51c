-- What the proofs of this crate cite of the standard library, of the crates below, and of the definitions here, under one name.
pub use Rattle.std.proofs.Common.{All, Bool, List, None, Option, Some, [], ap, arith, cond, false, filter, get_or, if◌then◌else◌, inl, inr, is_none, length, map}
pub use Rattle.std.proofs.Common.{not, refl, slice_get, subst, suc, sym, take, true, zero, ℕ, ◌&&◌, ◌++◌, ◌+◌, ◌-◌, ◌<◌, ◌==◌, ◌||◌, ◌∙◌, ◌∷◌, ◌≡◌, ◌≤◌}
pub use Rattle.std.proofs.lemmas.Bool.{and_from, and_parts, cases_Bool, eq-eqb, eqb-true, or_left, or_right, true≢false}
pub use Rattle.std.proofs.lemmas.List.{get_or-map, length-map, map-append, take_all}
pub use Rattle.std.proofs.lemmas.List.Elements.{All-append, All-cons, All-head, All-map, All-nil, All-tail}
pub use Rattle.std.proofs.lemmas.Option.{get_or_from_slice_get, slice_get-map}
pub use Rattle.std.proofs.lemmas.Slice.Eq.{bytes_eq-Decides}
pub use Rattle.std.specs.List.{cons_option, enumerate_from, filter_map, find, flat_map, list_all, list_any}
pub use Rattle.std.specs.Option.{option_map, option_map_or}
pub use Rattle.std.specs.Prelude.{option_and_then}
pub use Rattle.std.specs.Str.{bytes_eq}
unfoldable pub use Rattle.mp_bindings.specs.Bindings.{product}
pub use Rattle.mp_forms.specs.Limits.{name_of_term}
pub use Rattle.mp_forms.specs.declared.atom_values.Atom.{Atom}
pub use Rattle.mp_forms.specs.declared.atom_values.Term.{Term}
pub use Rattle.mp_forms.specs.declared.atom_values.Term.TheVariants.{Object, Variable}
pub use Rattle.mp_forms.specs.declared.effect_values.Increase.{Increase}
pub use Rattle.mp_forms.specs.declared.effect_values.Increase.TheVariants.{Function, Number}
pub use Rattle.mp_forms.specs.declared.factor.Factor.{Factor}
pub use Rattle.mp_forms.specs.declared.files.File.{File}
pub use Rattle.mp_forms.specs.declared.init_values.Value.{Value}
pub use Rattle.mp_forms.specs.declared.literal.Literal.{Literal}
pub use Rattle.mp_forms.specs.declared.schema_values.Schema.{Schema}
pub use Rattle.mp_forms.specs.declared.signature_values.Signature.{Signature}
pub use Rattle.mp_forms.specs.declared.typed_values.Typed.{Typed}
pub use Rattle.mp_forms.specs.declared.word.Word.{Word}
pub use Rattle.mp_ground_facts.specs.Facts.{complement, fact_cmp, has_complement, plain}
pub use Rattle.mp_ground_facts.specs.Touched.{added, counted, deleted, goal_facts, needed, of_action, touched}
pub use Rattle.mp_ground_facts.specs.declared.fact.GroundFact.{GroundFact}
pub use Rattle.mp_instances.specs.Costs.{cost_at}
pub use Rattle.mp_instances.specs.Instances.{binding_of, instances, instances_of, suits}
pub use Rattle.mp_joint.specs.Fact.{Text}
pub use Rattle.mp_joint.specs.FactorContribution.{facts_of, instance_with, privates_of}
pub use Rattle.mp_joint.specs.Grounded.{suits_start}
pub use Rattle.mp_joint.specs.Grounding.{asked_atoms, cost_of, fact_of, negated_atoms}
pub use Rattle.mp_joint.specs.declared.fact.NamedFact.{NamedFact}
pub use Rattle.mp_joint.specs.declared.fact.SignedFact.{SignedFact}
pub use Rattle.mp_lifted.specs.Atoms.{atom_at, atoms_at, is_among, object_at, same_atom}
pub use Rattle.mp_lifted.specs.Binding.{ActionBinding}
pub use Rattle.mp_lifting.specs.Factors.{ground_atom, ground_value, known_atoms, lifted_factor}
pub use Rattle.mp_lifting.specs.Lifting.{amounts_of, is_not, is_total_cost, lifted_amount, lifted_atom, lifted_term, lifted_where, members_of, parameter_in}
pub use Rattle.mp_lifted.specs.Start.{is_private, is_so, is_true_at_start}
pub use Rattle.mp_lifting.specs.Texts.{fact_text}
pub use Rattle.mp_lifting.specs.Views.{is_changed, setting_of}
pub use Rattle.mp_lifting.specs.Vocabulary.{vocabulary_of}
pub use Rattle.mp_lifted.specs.declared.lifted.GroundAtom.{GroundAtom}
pub use Rattle.mp_lifted.specs.declared.lifted.GroundValue.{GroundValue}
pub use Rattle.mp_lifted.specs.declared.lifted.LiftedAction.{LiftedAction}
pub use Rattle.mp_lifted.specs.declared.lifted.LiftedAtom.{LiftedAtom}
pub use Rattle.mp_lifted.specs.declared.lifted.LiftedFactor.{LiftedFactor}
pub use Rattle.mp_lifting.specs.declared.view.OpenView.{OpenView}
pub use Rattle.mp_lifting.specs.declared.vocabulary.Vocabulary.{Vocabulary}
pub use Rattle.mp_list.proofs.Bools.{same_tests}
pub use Rattle.mp_sexp.proofs.NamesAt.{name_at_number}
pub use Rattle.mp_sexp.proofs.Places.{swapped}
pub use Rattle.mp_sexp.specs.Numbers.{is_named, name_at}
unfoldable pub use Rattle.mp_sexp.specs.Numbers.{number_in}
pub use Rattle.mp_typing.specs.Faults.{fault_at}
pub use Rattle.mp_typing.specs.Lookups.{objects_of}
unfoldable pub use Rattle.mp_typing.specs.ObjectList.{first_declared}
unfoldable pub use Rattle.mp_typing.specs.Repeats.{repeated_faults}
unfoldable pub use Rattle.mp_typing.specs.Uses.{is_declared}
pub use Rattle.mp_ground_laws.specs.Checked.{IsChecked}
pub use Rattle.mp_ground_laws.specs.Counted.{counted_facts, signed_cmp}
pub use Rattle.mp_ground_laws.specs.Grounding.{members_by_name}
pub use Rattle.mp_ground_laws.specs.Named.{named_objects}
pub use Rattle.mp_ground_laws.specs.Numbered.{IsBinding, IsInRange, IsObject, IsOfFactor, named_fact, named_instance, numbered_action, signed_fact}
