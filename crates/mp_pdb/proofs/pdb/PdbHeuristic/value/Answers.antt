use Rattle.std.proofs.Common.{◌+◌, ◌^◌, ◌<◌, All, length, ap, sym, subst, ◌∙◌}
use Rattle.std.specs.FinSet as set
use Rattle.mp_task.specs.Projected.{projected_state}
use Rattle.mp_pdb.proofs.Found.{value_is}
use Rattle.mp_pdb.proofs.MaskLemmas.{shows_below}
use Rattle.mp_estimates.proofs.LoweringLemmas.{known-none, known-some}
use Rattle.mp_pdb.proofs.pdb.PdbHeuristic.value.Goals as goal

pub index-number-requires : goal.index-number-requires
index-number-requires c =
    let t = c.requires.0 in
    let database = c.requires.1 in
    let shows = c.mask_of-mask.ensures t (sym database.same_publics) (subst (All (λ x. x < t.publics + t.privates)) (sym c.as_slice.ensures.value) database.below) in
    subst (λ n. c.mask_of-mask.result < n) (ap (λ k. 2 ^ k) c.as_slice.ensures.len ∙ sym c.args.self.now.sized)
    (shows_below c.as_slice.result.now (set.contains (projected_state t c.args.publics.now.members c.args.privates.now.members)) c.mask_of-mask.result shows)

pub returns-then-number-lt18446744073709551615-clause-value : goal.returns-then-number-lt18446744073709551615-clause-value
returns-then-number-lt18446744073709551615-clause-value c = λ t database.
    let table = c.args.self.now.table.items in
    let mask = c.mask_of-mask.result in
    let shows = c.mask_of-mask.ensures t (sym database.same_publics) (subst (All (λ x. x < t.publics + t.privates)) (sym c.as_slice.ensures.value) database.below) in
    let below = shows_below c.as_slice.result.now (set.contains (projected_state t c.args.publics.now.members c.args.privates.now.members)) mask shows in
    let within : mask < length table = subst (λ n. mask < n) (ap (λ k. 2 ^ k) c.as_slice.ensures.len ∙ sym c.args.self.now.sized ∙ c.args.self.now.table.ok.0) below in
    sym (known-some c.index-number.result.now c.if-number-lt18446744073709551615.true)
    ∙ value_is t c.args.publics.now.members c.args.privates.now.members c.args.self.now.publics c.args.self.now.facts.items c.as_slice.result.now table mask c.index-number.result.now database c.as_slice.ensures.value shows within c.index-number.ensures

pub returns-else-number-lt18446744073709551615-clause-value : goal.returns-else-number-lt18446744073709551615-clause-value
returns-else-number-lt18446744073709551615-clause-value c = λ t database.
    let table = c.args.self.now.table.items in
    let mask = c.mask_of-mask.result in
    let shows = c.mask_of-mask.ensures t (sym database.same_publics) (subst (All (λ x. x < t.publics + t.privates)) (sym c.as_slice.ensures.value) database.below) in
    let below = shows_below c.as_slice.result.now (set.contains (projected_state t c.args.publics.now.members c.args.privates.now.members)) mask shows in
    let within : mask < length table = subst (λ n. mask < n) (ap (λ k. 2 ^ k) c.as_slice.ensures.len ∙ sym c.args.self.now.sized ∙ c.args.self.now.table.ok.0) below in
    sym (known-none c.index-number.result.now c.if-number-lt18446744073709551615.false)
    ∙ value_is t c.args.publics.now.members c.args.privates.now.members c.args.self.now.publics c.args.self.now.facts.items c.as_slice.result.now table mask c.index-number.result.now database c.as_slice.ensures.value shows within c.index-number.ensures
