-- What the proofs of this crate cite of the standard library, of the crates below, and of the definitions here, under one name.
pub use Rattle.std.proofs.Common.{Bool, Less, List, Some, [], ap, arith, cond, drop, false, filter, length, map, refl, subst, sym, true, ℕ, ◌&&◌, ◌++◌}
pub use Rattle.std.proofs.Common.{◌+◌, ◌<◌, ◌||◌, ◌∙◌, ◌∷◌, ◌≡◌}
pub use Rattle.std.proofs.lemmas.Bool.{false≢true}
pub use Rattle.std.specs.Bool.{Decides}
pub use Rattle.std.specs.Cmp.{IsTotalOrder}
pub use Rattle.std.specs.FinMap.{IsAntisymmetric}
pub use Rattle.std.specs.List.{AllByRecursion, fold, list_any}
unfoldable pub use Rattle.std.specs.List.{IsDistinct}
pub use Rattle.std.specs.List.Sorted.{IsSorted}
unfoldable pub use Rattle.std.specs.List.Sorted.{IsStrictlySortedBy}
pub use Rattle.std.specs.Ordering.{eq_by_cmp, is_eq}
pub use Rattle.indexmap.specs.IndexSet.{insert_all}
pub use Rattle.mp_lifted.specs.Atoms.{atoms_at}
pub use Rattle.mp_lifted.specs.declared.lifted.GroundAtom.{GroundAtom}
pub use Rattle.mp_lifted.specs.declared.lifted.LiftedFactor.{LiftedFactor}
unfoldable pub use Rattle.mp_typing.specs.Places.{numbers_where}
pub use Rattle.mp_ground_facts.specs.Facts.{complement, fact_cmp, fact_of, has_complement, is_initial, same_fact}
pub use Rattle.mp_ground_facts.specs.Ground.{number_of, numbers_of}
pub use Rattle.mp_ground_facts.specs.Touched.{with_complements}
pub use Rattle.mp_ground_facts.specs.declared.fact.GroundFact.{GroundFact}
