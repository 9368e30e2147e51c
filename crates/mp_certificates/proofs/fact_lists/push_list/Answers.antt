use Rattle.std.proofs.Common.{sym, subst, arith}
use Rattle.std.specs.List.Sorted.{IsStrictlyIncreasing}
use Rattle.mp_certificates.proofs.FactLemmas.{list_rises}
use Rattle.mp_certificates.proofs.fact_lists.push_list.Goals as goal

pub push-requires : goal.push-requires
push-requires c =
    let fits = c.ranges.size.fits in
    let facts = c.list.new.numbers.items in
    record {
      rising = subst IsStrictlyIncreasing (sym c.as_slice.ensures.value)
          (list_rises c.args.size c.args.text.now c.in_ok-rest.rest.now facts (omega (arith, fits)) c.in_ok-rest.ensures);
    }
