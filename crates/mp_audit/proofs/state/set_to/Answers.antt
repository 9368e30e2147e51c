use Rattle.std.proofs.Common.{ℕ, sym, ap, subst, ◌∙◌}
use Rattle.std.specs.FinSet as set
use Rattle.mp_sets.specs.Numbers.{SizedSet}
use Rattle.mp_task.specs.Limits.{AllLess}
use Rattle.mp_audit.specs.States.{members_of, sizes_of}
use Rattle.mp_audit.proofs.StateLemmas.{sized_members, sized_sizes}
use Rattle.mp_audit.proofs.state.set_to.Goals as goal

pub fill-requires-clause-none : goal.fill-requires-clause-none
fill-requires-clause-none c = c.requires.none.publics ∙ ap (λ (n : ℕ). record { size = n; members = set.empty }) (sym c.requires.sizes.publics)

pub fill-requires-clause-facts : goal.fill-requires-clause-facts
fill-requires-clause-facts c =
    subst (λ (n : ℕ). AllLess n c.publics.result.now) (sym c.requires.sizes.publics)
    (subst (AllLess _) (sym c.publics.ensures.publics) c.requires.fits.publics)

pub fill_privates-requires-clause-none : goal.fill_privates-requires-clause-none
fill_privates-requires-clause-none c = c.as_slice.ensures.value ∙ c.requires.none.privates

pub returns-clause-joint : goal.returns-clause-joint
returns-clause-joint c =
    let privates = ap members_of c.fill_privates.ensures ∙ sized_members c.args.tasks.now c.args.bound.now.privates c.requires.fits.privates in
    let publics = ap (λ (s : SizedSet). s.members) c.fill.ensures ∙ ap set.from_list c.publics.ensures.publics in
    λ j. record { publics = publics j; privates = privates j }

pub returns-clause-sizes : goal.returns-clause-sizes
returns-clause-sizes c = record {
  publics = ap (λ (s : SizedSet). s.size) c.fill.ensures ∙ c.requires.sizes.publics;
  privates = ap sizes_of c.fill_privates.ensures ∙ sized_sizes c.args.tasks.now c.args.bound.now.privates c.requires.fits.privates;
}
