-- What proofs about names and types cite of the standard library, of the crates below, and of the definitions here, under one name.
pub use Rattle.std.proofs.Common.{Bool, Bor, List, None, Option, Ordering, Some, [], ap, append_assoc, arith, cond, drop, eqb, false, get_or, inl, inr, length, map, not}
pub use Rattle.std.proofs.Common.{refl, subst, suc, sym, take, true, zero, zero-add, ℕ, ◌++◌, ◌+◌, ◌<◌, ◌==◌, ◌||◌, ◌∙◌, ◌∷◌, ◌≡◌, ◌≤◌, ◌⊎◌}
pub use Rattle.std.proofs.Math.ListN.{drop_of_length-le}
pub use Rattle.std.proofs.lemmas.Bool.{cases_Bool, false_from_ne_true, not-true, or_cases, or_left, or_right}
pub use Rattle.std.proofs.lemmas.Bool.Decides.{Decides-eqb}
pub use Rattle.std.proofs.lemmas.List.{append-nil, drop_more, length-append, length-map, length-take-le, map-append, take_more}
pub use Rattle.std.proofs.lemmas.List.Elements.{Contains-append_cases, Contains-append_left, Contains-append_right, Contains-push, Contains-push_cases}
pub use Rattle.std.proofs.lemmas.List.Folds.{list_any-append}
pub use Rattle.std.proofs.lemmas.Result.{IfOk-weaker}
pub use Rattle.std.proofs.lemmas.Slice.Eq.{bytes_eq-Decides}
pub use Rattle.std.specs.Bool.{Decides}
pub use Rattle.std.specs.Cmp.Lexicographic.{pointwise, slice_cmp}
pub use Rattle.std.specs.List.{flat_map, list_any, range_with_len}
pub use Rattle.std.specs.List.Sorted.{IsStrictlyIncreasing}
pub use Rattle.std.specs.Map.{lookup}
pub use Rattle.std.specs.Option.{is_some, option_or}
pub use Rattle.std.specs.Ordering.{is_lt, nat_cmp, ordering_then}
pub use Rattle.std.specs.Prelude.{Contains, filter, find, if◌then◌else◌, slice_get, ◌↔◌}
pub use Rattle.std.specs.Str.{bytes_eq}
pub use Rattle.mp_forms.specs.declared.factor.Factor.{Factor}
pub use Rattle.mp_forms.specs.declared.files.File.{File}
pub use Rattle.mp_forms.specs.declared.files.File.TheVariants.{Domain}
pub use Rattle.mp_forms.specs.declared.signature_values.Signature.{Signature}
pub use Rattle.mp_forms.specs.declared.typed_values.Typed.{Typed}
pub use Rattle.mp_forms.specs.declared.word.Word.{Word}
pub use Rattle.mp_list.proofs.Members.{contains_cases, contains_head, contains_one, contains_tail, from_flat_map, from_map, no_member, to_flat_map, to_map}
pub use Rattle.mp_list.proofs.Steps.{goes_on}
pub use Rattle.mp_typing.specs.ByType.{items_of, listed_by}
unfoldable pub use Rattle.mp_typing.specs.ByType.{places_of}
pub use Rattle.mp_typing.specs.Faults.{IsFirst, fault_at, leftmost, order_by}
unfoldable pub use Rattle.mp_typing.specs.Faults.{is_earlier}
pub use Rattle.mp_typing.specs.Hierarchy.{HasLower, HasObjects, IsHierarchy}
pub use Rattle.mp_typing.specs.Indexed.{Entry, HasArities, SameNumbers}
unfoldable pub use Rattle.mp_typing.specs.Indexed.{number_of}
pub use Rattle.mp_typing.specs.IsA.{DeclaredUnder, IsA, IsUnderOne, same, step, through_object}
unfoldable pub use Rattle.mp_typing.specs.IsA.{object_name}
pub use Rattle.mp_typing.specs.Listing.{AreFound}
pub use Rattle.mp_typing.specs.Lookups.{objects_of}
unfoldable pub use Rattle.mp_typing.specs.Lookups.{arity_of, is_object}
pub use Rattle.mp_typing.specs.Members.{IsOfType, Members, meant}
pub use Rattle.mp_typing.specs.Names.{has_any, is_among, names_of}
unfoldable pub use Rattle.mp_typing.specs.ObjectList.{first_declared}
pub use Rattle.mp_typing.specs.Repeats.{is_same, twice_if}
unfoldable pub use Rattle.mp_typing.specs.Repeats.{object_faults, parameter_faults, repeated_faults}
pub use Rattle.mp_typing.specs.Under.{directly_under, is_of_type, lies_under, lower, with_lower, with_type}
unfoldable pub use Rattle.mp_typing.specs.Under.{found_after, with_types}
unfoldable pub use Rattle.mp_typing.specs.Uses.{atom_faults}
pub use Rattle.mp_typing.specs.declared.fault.Fault.{Fault}
pub use Rattle.mp_typing.specs.declared.fault.FaultKind.{FaultKind}
pub use Rattle.mp_typing.specs.declared.fault.FaultKind.TheVariants.{Arity, Twice, Unknown, WrongDomain}
