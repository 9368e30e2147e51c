-- What the proofs of this crate cite of the standard library, of the crates below, and of the definitions here, under one name.
pub use Rattle.std.proofs.Common.{All, Bool, Bor, IfOk, IfSome, List, None, Option, Some, [], ap, append-nil, append_assoc, arith, cond, drop, false, get_or, length}
pub use Rattle.std.proofs.Common.{length-append, map, nat_lt, not, refl, subst, sym, take, true, ℕ, ◌&&◌, ◌++◌, ◌+◌, ◌-◌, ◌<◌, ◌==◌, ◌||◌, ◌∙◌, ◌∷◌}
pub use Rattle.std.proofs.Common.{◌≡◌, ◌≤◌}
pub use Rattle.std.proofs.lemmas.Bool.{ltb-false, ltb-true}
pub use Rattle.std.proofs.lemmas.Bool.Decides.{Decides-eqb}
pub use Rattle.std.proofs.lemmas.List.{get_or_append_left, map-append}
pub use Rattle.std.specs.List.{filter, flat_map, fold, list_all, list_any}
pub use Rattle.std.specs.Map.{lookup}
pub use Rattle.std.specs.Option.{is_some, option_map}
pub use Rattle.std.specs.Result.{OnOk}
pub use Rattle.mp_bindings.specs.Bindings.{members_at}
unfoldable pub use Rattle.mp_bindings.specs.Bindings.{found, product, tried}
pub use Rattle.mp_lifted.proofs.Keeping.{equal}
pub use Rattle.mp_lifted.specs.Atoms.{atom_at, object_at, same_atom}
pub use Rattle.mp_lifted.specs.Held.{fact_of}
pub use Rattle.mp_lifted.specs.Start.{is_true_at_start}
pub use Rattle.mp_lifted.specs.declared.lifted.GroundAtom.{GroundAtom}
pub use Rattle.mp_lifted.specs.declared.lifted.LiftedAction.{LiftedAction}
pub use Rattle.mp_lifted.specs.declared.lifted.LiftedAtom.{LiftedAtom}
pub use Rattle.mp_lifted.specs.declared.lifted.LiftedFactor.{LiftedFactor}
pub use Rattle.mp_lifted.specs.declared.lifted.LiftedTerm.{LiftedTerm}
pub use Rattle.mp_lifted.specs.declared.lifted.LiftedTerm.TheVariants.{Object, Parameter}
pub use Rattle.mp_list.proofs.Bools.{and_true}
pub use Rattle.mp_instances.specs.Costs.{cost_at}
pub use Rattle.mp_instances.specs.Gathering.{after}
pub use Rattle.mp_instances.specs.Instances.{is_known_term, suits}
pub use Rattle.mp_instances.specs.Links.{is_parameter}
pub use Rattle.mp_instances.specs.Tables.{HasValues}
pub use Rattle.mp_instances.specs.Turns.{fails_at_turn, has_turn, holds_at_turn, suits_at_turn}
pub use Rattle.mp_instances.specs.declared.gathered.Gathered.{Gathered}
