-- What the proofs of this crate cite of the standard library, of the crates below, and of the definitions here, under one name.
pub use Rattle.std.proofs.Common.{All, Bool, Bor, List, None, Option, Some, [], ap, append_assoc, arith, drop, false, get_or, inl, inr, length, map, not, refl}
pub use Rattle.std.proofs.Common.{subst, suc, sym, take, true, ℕ, ◌&&◌, ◌++◌, ◌+◌, ◌-◌, ◌<◌, ◌==◌, ◌||◌, ◌∙◌, ◌∷◌, ◌≡◌, ◌≤◌}
pub use Rattle.std.proofs.lemmas.Bool.{cases_Bool}
pub use Rattle.std.proofs.lemmas.List.{append-nil, drop_more, map-append, take_all}
pub use Rattle.std.proofs.lemmas.List.Elements.{filter-append}
pub use Rattle.std.proofs.lemmas.List.Sums.{fails_before_first}
pub use Rattle.std.proofs.lemmas.Option.{cond_some}
pub use Rattle.std.proofs.lemmas.Slice.Eq.{bytes_eq-Decides}
pub use Rattle.std.specs.List.{flat_map, list_any, position, slice_split}
pub use Rattle.std.specs.Prelude.{filter, if◌then◌else◌}
pub use Rattle.mp_forms.specs.declared.factor.Factor.{Factor}
pub use Rattle.mp_forms.specs.declared.literal.Literal.{Literal}
pub use Rattle.mp_forms.specs.declared.schema_values.Schema.{Schema}
pub use Rattle.mp_forms.specs.declared.signature_values.Signature.{Signature}
pub use Rattle.mp_forms.specs.declared.typed_values.Typed.{Typed}
pub use Rattle.mp_joint.specs.Fact.{Text, is_listed}
pub use Rattle.mp_joint.specs.FactorContribution.{privates_of}
pub use Rattle.mp_joint.specs.Grounding.{asked_atoms, negated_atoms}
pub use Rattle.mp_list.proofs.Bools.{same_tests}
unfoldable pub use Rattle.mp_sexp.specs.Numbers.{number_in}
pub use Rattle.mp_typing.specs.Members.{Members}
pub use Rattle.mp_lifting.specs.Factors.{ground_atom, ground_value, known_atoms}
pub use Rattle.mp_lifting.specs.Lifting.{is_total_cost, lifted_action, lifted_atom}
pub use Rattle.mp_lifting.specs.Views.{is_of, predicates_of}
pub use Rattle.mp_lifting.specs.Vocabulary.{declared_names, vocabulary_of}
pub use Rattle.mp_lifting.specs.declared.factors.Facts.{Facts}
pub use Rattle.mp_lifted.specs.declared.lifted.GroundAtom.{GroundAtom}
pub use Rattle.mp_lifted.specs.declared.lifted.LiftedFactor.{LiftedFactor}
pub use Rattle.mp_lifting.specs.declared.shown.Shown.{Shown}
pub use Rattle.mp_lifting.specs.declared.vocabulary.Vocabulary.{Vocabulary}
