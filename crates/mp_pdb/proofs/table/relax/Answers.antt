use Rattle.std.proofs.Common.{◌<◌, ◌≤◌, ◌-◌, ◌^◌, subst, sym, ◌∙◌, arith, vec_len, w16}
use Rattle.std.specs.Int.{bit_not}
use Rattle.std.specs.Prelude.{bit_and, bit_or}
use Rattle.mp_estimates.specs.Lowering.{number_at}
use Rattle.mp_pdb.proofs.MaskLemmas.{and_twice}
use Rattle.mp_pdb.proofs.MoveLemmas.{does_lead, from_within, is_ready, made_of, must_arrive, small_size}
use Rattle.mp_estimates.proofs.LoweringLemmas.{fallen_trans}
use Rattle.mp_pdb.proofs.TableLemmas.{done_all, done_more}
use Rattle.mp_pdb.proofs.table.relax.Goals as goal

pub returns-then-to-found-clause-reached : goal.returns-then-to-found-clause-reached
returns-then-to-found-clause-reached c = λ mask within ready leads.
    let few = small_size (vec_len c.args.numbers.now) c.requires.sized in
    let fits = c.requires.fits in
    let pre = fits.pre in let add = fits.add in let del = fits.del in
    absurd (c.if-to-found.true
    (must_arrive c.args.found.now c.args.to (omega arith) (omega arith) (omega arith) (omega arith) mask (omega arith) ready leads ∙ sym c.after.ensures))

pub lower-requires : goal.lower-requires
lower-requires c =
    subst (λ n. bit_or (bit_or (bit_and c.args.to (bit_not w16 (bit_or c.args.found.now.add c.args.found.now.del))) c.args.found.now.pre) c.parts.part < n) (sym c.parts.invariant.len)
    (from_within (vec_len c.args.numbers.now) c.args.found.now c.args.to c.parts.part c.requires.sized c.requires.fits c.requires.inside c.parts.invariant.is_part)

pub parts-preserved : goal.parts-preserved
parts-preserved c =
    let found = c.args.found.now in
    let to = c.args.to in
    let part = c.parts.part in
    let few = small_size (vec_len c.args.numbers.now) c.requires.sized in
    let fits = c.requires.fits in
    let pre = fits.pre in let add = fits.add in let del = fits.del in
    let from = from_within (vec_len c.args.numbers.now) found to part c.requires.sized fits c.requires.inside c.parts.invariant.is_part in
    let small : part < 2 ^ 16 = omega (arith, c.parts.auto.part-fits) in
    record {
      len = c.lower.ensures.len ∙ c.parts.invariant.len;
      fallen = fallen_trans _ _ _ _ _ _ c.parts.invariant.fallen c.in_ok-lower.ensures.fallen;
      is_part = and_twice (part - 1) (bit_and (bit_or found.add found.del) (bit_not w16 found.pre));
      done = done_more (bit_and (bit_or found.add found.del) (bit_not w16 found.pre)) (bit_or (bit_and to (bit_not w16 (bit_or found.add found.del))) found.pre) part c.args.cost c.parts.numbers.items c.lower.new.numbers.items small c.parts.invariant.is_part c.in_ok-lower.ensures.fallen.lower c.in_ok-lower.ensures.lowered c.parts.invariant.done;
      below = λ values low below.
          c.in_ok-lower.ensures.below values
          (low _ from
          (is_ready found to (omega arith) (omega arith) (omega arith) (omega arith) part c.parts.invariant.is_part)
          (does_lead found to (omega arith) (omega arith) (omega arith) (omega arith) part c.parts.invariant.is_part (omega arith) (c.if-to-found.false ∙ c.after.ensures)))
          (c.parts.invariant.below values low below);
    }

pub returns-then-part-eq0-clause-reached : goal.returns-then-part-eq0-clause-reached
returns-then-part-eq0-clause-reached c = λ mask within ready leads.
    let found = c.args.found.now in
    let to = c.args.to in
    let few = small_size (vec_len c.args.numbers.now) c.requires.sized in
    let fits = c.requires.fits in
    let pre = fits.pre in let add = fits.add in let del = fits.del in
    subst (λ m. number_at c.lower.new.numbers.items m ≤ c.args.cost)
    (made_of found to (omega arith) (omega arith) (omega arith) (omega arith) mask (omega arith) ready leads)
    (done_all (bit_and (bit_or found.add found.del) (bit_not w16 found.pre)) (bit_or (bit_and to (bit_not w16 (bit_or found.add found.del))) found.pre) c.parts.part c.args.cost c.parts.numbers.items c.lower.new.numbers.items mask c.if-part-eq0.true c.in_ok-lower.ensures.fallen.lower c.in_ok-lower.ensures.lowered c.parts.invariant.done)

pub returns-then-part-eq0-clause-below : goal.returns-then-part-eq0-clause-below
returns-then-part-eq0-clause-below c = λ values low below.
    let found = c.args.found.now in
    let to = c.args.to in
    let part = c.parts.part in
    let few = small_size (vec_len c.args.numbers.now) c.requires.sized in
    let fits = c.requires.fits in
    let pre = fits.pre in let add = fits.add in let del = fits.del in
    let from = from_within (vec_len c.args.numbers.now) found to part c.requires.sized fits c.requires.inside c.parts.invariant.is_part in
    c.in_ok-lower.ensures.below values
    (low _ from
    (is_ready found to (omega arith) (omega arith) (omega arith) (omega arith) part c.parts.invariant.is_part)
    (does_lead found to (omega arith) (omega arith) (omega arith) (omega arith) part c.parts.invariant.is_part (omega arith) (c.if-to-found.false ∙ c.after.ensures)))
    (c.parts.invariant.below values low below)
