-- What the proofs of this crate cite of the standard library, of the crates below, and of the definitions here, under one name.
pub use Rattle.std.proofs.Common.{Bool, Equal, Greater, IfOk, Less, List, Ordering, [], ap, cond, drop, false, length, map, not, refl, reverse, subst, sym, take, true}
pub use Rattle.std.proofs.Common.{vec_len, ◌&&◌, ◌++◌, ◌∙◌, ◌∷◌, ◌≡◌}
pub use Rattle.std.proofs.lemmas.Bool.{false≢true}
pub use Rattle.std.proofs.lemmas.Cmp.{tied_itself}
pub use Rattle.std.proofs.lemmas.List.{append-nil, reverse-append}
pub use Rattle.std.proofs.lemmas.List.Filters.{dedup_is}
pub use Rattle.std.specs.BTreeSet.{insert_key}
pub use Rattle.std.specs.Cmp.{IsTotalOrder}
pub use Rattle.std.specs.Cmp.Lexicographic.{nat_list_cmp_total, slice_cmp, texts_ties}
pub use Rattle.std.specs.FinMap.{entries, from_entries}
pub use Rattle.std.specs.List.{AllByRecursion, flat_map, list_any}
pub use Rattle.std.specs.List.Sorted.{IsSorted, IsStable}
unfoldable pub use Rattle.std.specs.List.Sorted.{IsStrictlySortedBy}
pub use Rattle.std.specs.Option.{is_none}
pub use Rattle.std.specs.Ordering.{eq_by_cmp, is_lt, match_ordering, nat_cmp}
pub use Rattle.std.specs.Prelude.{filter}
pub use Rattle.std.specs.Str.{bytes_eq}
pub use Rattle.std.specs.Vec.Iter.{into_iter_items, into_iter_len}
pub use Rattle.mp_forms.specs.declared.factor.Factor.{Factor}
pub use Rattle.mp_forms.specs.declared.schema_values.Schema.{Schema}
pub use Rattle.mp_joint.specs.Fact.{Text, is_listed}
pub use Rattle.mp_joint.specs.FactorContribution.{privates_of}
pub use Rattle.mp_joint.specs.Grounding.{fact_of, negated_atoms, objects_of}
pub use Rattle.mp_joint.specs.declared.fact.NamedFact.{NamedFact}
pub use Rattle.mp_lifting.specs.Texts.{fact_text}
pub use Rattle.mp_lifting.specs.Views.{changed_predicates, negated_predicates, predicates_of}
pub use Rattle.mp_lifting.specs.declared.view.OpenView.{OpenView}
pub use Rattle.mp_sexp.specs.Bytes.{folded}
pub use Rattle.mp_views.specs.Lines.{part_line, spaced, text_of_lines}
pub use Rattle.mp_views.specs.Sorted.{sorted_once, with_nothing}
unfoldable pub use Rattle.mp_views.specs.Sorted.{sorted_by}
pub use Rattle.mp_views.specs.declared.view.Part.{Part}
