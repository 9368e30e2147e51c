-- What the proofs of this crate cite of the standard library, of the crates below, and of the definitions here, under one name.
pub use Rattle.std.proofs.Common.{All, Bool, Greater, IfOk, Less, List, None, Option, Ordering, Some, [], ap, arith, cond, drop, false, filter, get_or, if◌then◌else◌}
pub use Rattle.std.proofs.Common.{inl, inr, length, map, nat_lt, not, refl, slice_get, subst, suc, sym, take, true, zero, ℕ, ◌++◌, ◌+◌, ◌-◌, ◌<◌, ◌∙◌, ◌∷◌, ◌≡◌, ◌≤◌}
pub use Rattle.std.proofs.lemmas.Bool.{cases_Bool, lt-ltb, ltb-true}
pub use Rattle.std.proofs.lemmas.List.{length-drop, length-map}
pub use Rattle.std.proofs.lemmas.List.Elements.{All-contains, Contains-append_left, Contains-append_right}
pub use Rattle.std.proofs.lemmas.Map.Keys.{IsStrictlyIncreasing-dedup}
pub use Rattle.std.proofs.lemmas.Option.{none-some, same_Some, slice_get-map, slice_get_within, unwrap_or-slice_get}
pub use Rattle.std.proofs.lemmas.Slice.Eq.{bytes_eq-Decides}
pub use Rattle.std.specs.Cmp.Lexicographic.{slice_cmp}
pub use Rattle.std.specs.FinMap.{nat_cmp-IsAntisymmetric}
pub use Rattle.std.specs.List.{AllByRecursion, flat_map, list_any}
pub use Rattle.std.specs.List.Sorted.{IsStrictlyIncreasing}
unfoldable pub use Rattle.std.specs.List.Sorted.{IsStrictlySortedBy}
pub use Rattle.std.specs.Option.{option_map, option_map_or, unwrap_or}
pub use Rattle.std.specs.Ordering.{eq_by_cmp, nat_cmp}
pub use Rattle.std.specs.Prelude.{Contains, Decides}
pub use Rattle.std.specs.Str.{bytes_eq}
pub use Rattle.mp_forms.specs.declared.factor.Factor.{Factor}
pub use Rattle.mp_forms.specs.declared.typed_values.Typed.{Typed}
pub use Rattle.mp_ground_facts.proofs.FactsOf.{facts_are_counted, facts_rise}
pub use Rattle.mp_ground_facts.specs.Facts.{fact_cmp}
pub use Rattle.mp_ground_facts.specs.Ground.{ground_action}
unfoldable pub use Rattle.mp_ground_facts.specs.Ground.{facts_of}
pub use Rattle.mp_ground_facts.specs.declared.fact.GroundFact.{GroundFact}
pub use Rattle.mp_ground_laws.proofs.Counted.{all_counted}
pub use Rattle.mp_ground_laws.proofs.Grounding.{instances_stand}
pub use Rattle.mp_ground_laws.proofs.Ordered.{counted_stand, different_signed}
pub use Rattle.mp_ground_laws.proofs.Parts.{parts_of}
pub use Rattle.mp_ground_laws.proofs.SmallCosts.{small_costs}
pub use Rattle.mp_ground_laws.specs.Checked.{IsChecked}
pub use Rattle.mp_ground_laws.specs.Numbered.{IsOfFactor, named_instance, signed_fact}
pub use Rattle.mp_instances.specs.Costs.{HasSmallCosts}
pub use Rattle.mp_instances.specs.Instances.{instances}
pub use Rattle.mp_joint.specs.Fact.{Text}
pub use Rattle.mp_joint.specs.declared.fact.SignedFact.{SignedFact}
pub use Rattle.mp_lifted.specs.Binding.{ActionBinding}
pub use Rattle.mp_lifting.specs.Factors.{lifted_factor}
pub use Rattle.mp_lifting.specs.Vocabulary.{declared_names}
pub use Rattle.mp_lifted.specs.declared.lifted.LiftedAction.{LiftedAction}
pub use Rattle.mp_lifted.specs.declared.lifted.LiftedFactor.{LiftedFactor}
pub use Rattle.mp_lifting.specs.declared.view.OpenView.{OpenView}
pub use Rattle.mp_list.proofs.Bools.{same_tests}
pub use Rattle.mp_list.proofs.Members.{any_from, contains_head, contains_tail, some_member}
pub use Rattle.mp_sexp.specs.Bytes.{folded}
pub use Rattle.mp_sexp.specs.Numbers.{name_at}
unfoldable pub use Rattle.mp_sexp.specs.Numbers.{number_in}
pub use Rattle.mp_typing.proofs.Passing.{taken_from_passes, taken_passes}
unfoldable pub use Rattle.mp_typing.specs.Places.{numbers_where}
pub use Rattle.mp_views.proofs.SortedLaws.{same_texts, texts_rise}
pub use Rattle.mp_views.specs.Sorted.{sorted_once}
unfoldable pub use Rattle.mp_views.specs.Sorted.{sorted_by}
pub use Rattle.mp_grounder.specs.Grounded.{IsGrounded, Known, counted}
pub use Rattle.mp_grounder.specs.Limits.{IsRefusedBy, KeepsLimits}
pub use Rattle.mp_grounder.specs.Numbered.{act_at, binding_at, count_private, fact_names, ground_at, private_numbers, public_numbers, rising, text_at}
pub use Rattle.mp_grounder.specs.Places.{same_signed}
pub use Rattle.mp_grounder.specs.Refusals.{IsRefusedAt}
pub use Rattle.mp_grounder.specs.declared.refusal.GroundRefusal.{GroundRefusal}
