-- What the proofs of this crate cite of the standard library, of the crates below, and of the definitions here, under one name.
pub use Rattle.std.proofs.Common.{All, Bool, Less, List, None, Option, Some, [], ap, append_assoc, arith, cond, drop, false, get_or, inl, inr, length, length-append, map}
pub use Rattle.std.proofs.Common.{not, option_copied, refl, subst, suc, sym, take, true, zero, ℕ, ◌++◌, ◌+◌, ◌-◌, ◌<◌, ◌==◌, ◌∙◌, ◌∷◌, ◌≡◌, ◌≤◌}
pub use Rattle.std.proofs.lemmas.Bool.{cases_Bool, cases_lt}
pub use Rattle.std.proofs.lemmas.List.{append-nil, get_or-map, get_or-take, length-map, length-take-le}
pub use Rattle.std.proofs.lemmas.List.Elements.{All-from_recursion, All-head, All-tail, filter-append}
pub use Rattle.std.proofs.lemmas.Map.Keys.{IsStrictlyIncreasing-from_sorted, sorted_from_strictly_increasing}
pub use Rattle.std.proofs.lemmas.Result.{IfOk-weaker}
pub use Rattle.std.specs.Cmp.{IsTotalOrder, on_total}
pub use Rattle.std.specs.Cmp.Lexicographic.{nat_list_cmp_total, slice_cmp}
pub use Rattle.std.specs.List.{Contains, flat_map}
pub use Rattle.std.specs.List.Sorted.{IsStrictlyIncreasing}
unfoldable pub use Rattle.std.specs.List.Sorted.{IsStrictlySortedBy}
pub use Rattle.std.specs.Option.{is_some}
pub use Rattle.std.specs.Ordering.{nat_cmp}
pub use Rattle.std.specs.Prelude.{filter, slice_get, slice_index_or}
pub use Rattle.std.specs.Simd.Lanes.{zip2}
pub use Rattle.std.specs.Str.{bytes_eq}
pub use Rattle.std.specs.Vec.Iter.{into_iter_items, into_iter_len}
pub use Rattle.mp_forms.specs.declared.factor.Factor.{Factor}
pub use Rattle.mp_grounder.specs.Grounded.{IsGrounded, Known}
pub use Rattle.mp_grounder.specs.Limits.{IsRefusedBy, IsWithin, KeepsLimits}
pub use Rattle.mp_grounder.specs.Places.{text_places_in}
pub use Rattle.mp_grounder.specs.declared.grounded.Ground.{Ground}
pub use Rattle.mp_joint.specs.Fact.{Text, is_listed}
pub use Rattle.mp_lifting.specs.declared.view.OpenView.{OpenView}
pub use Rattle.mp_sexp.proofs.Places.{has_place}
unfoldable pub use Rattle.mp_sexp.specs.Numbers.{number_in}
pub use Rattle.mp_task.specs.Limits.{ActFits, AllLess, FarFits}
pub use Rattle.mp_task.specs.Public.{is_public}
pub use Rattle.mp_task.specs.declared.act.Act.{Act}
unfoldable pub use Rattle.mp_typing.specs.Places.{numbers_where}
pub use Rattle.mp_views.proofs.SortedLaws.{texts_rise}
pub use Rattle.mp_views.specs.Lines.{part_line, view_text}
pub use Rattle.mp_views.specs.Opened.{open_view}
pub use Rattle.mp_views.specs.Parts.{part_cmp, sorted_parts}
pub use Rattle.mp_views.specs.Sorted.{sorted_once}
pub use Rattle.mp_views.specs.declared.view.Part.{Part}
pub use Rattle.mp_views.specs.declared.view.View.{View}
pub use Rattle.mp_split.specs.Begun.{AreBegun}
pub use Rattle.mp_split.specs.Closed.{closed_view, is_number_in, part_of, texts_at}
pub use Rattle.mp_split.specs.Common.{ActRises, AreOf, ArePlaces, IsOfTeam, IsReady, PartFits, ShowsFit, act_at, common_of, of_others, task_from}
pub use Rattle.mp_split.specs.Common.{task_with}
pub use Rattle.mp_split.specs.TaskOf.{Shown, act_in, far_in, is_goal, is_true, table, task_of}
pub use Rattle.mp_split.specs.Team.{IsFirstRefusal, open_views}
pub use Rattle.mp_split.specs.declared.common.Common.{Common}
pub use Rattle.mp_split.specs.declared.team.Tasks.{Tasks}
