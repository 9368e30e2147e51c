-- What the proofs of this crate cite of the standard library, of the crates below, and of the definitions here, under one name.
pub use Rattle.std.proofs.Common.{All, Bool, Bor, List, None, Some, [], ap, arith, cond, drop, false, length, map, not, refl}
pub use Rattle.std.proofs.Common.{rules, subst, sym, take, true, ℕ, ◌&&◌, ◌++◌, ◌+◌, ◌-◌, ◌<◌, ◌==◌, ◌||◌, ◌∙◌, ◌∷◌, ◌≡◌}
pub use Rattle.std.proofs.lemmas.List.{map-append, take_all}
pub use Rattle.std.proofs.lemmas.Option.{cond_some}
pub use Rattle.std.specs.List.{list_any, position, position_or_len}
pub use Rattle.mp_list.proofs.Bools.{same_tests}
pub use Rattle.mp_lifted.specs.Atoms.{is_among, same_atom}
pub use Rattle.mp_lifted.specs.Held.{fact_of, has_kind, is_held}
pub use Rattle.mp_lifted.specs.Start.{is_true_at_start}
pub use Rattle.mp_lifted.specs.declared.bindings.Head.{Head}
pub use Rattle.mp_lifted.specs.declared.lifted.GroundAtom.{GroundAtom}
pub use Rattle.mp_lifted.specs.declared.lifted.LiftedFactor.{LiftedFactor}
