use Rattle.std.proofs.Common.{◌+◌, ◌∙◌, take, ap, subst, sym, arith, get_or}
use Rattle.mp_applicable.specs.Applicable.{is_applicable}
use Rattle.mp_applicable.specs.Finding.{AreAdded}
use Rattle.mp_sets.specs.Numbers.{Numbers, SizedSet}
use Rattle.mp_applicable.proofs.FindingLemmas.{one_added}
use Rattle.mp_applicable.proofs.index.add_listed.Goals as goal

pub loop-number-preserved : goal.loop-number-preserved
loop-number-preserved c =
    let test = is_applicable c.args.task.now.acts c.args.publics.now.members c.args.privates.now.members in
    let i = c.loop-number.number-index in
    let list = c.args.list.now in
    record {
      size = ap (λ (s : SizedSet). s.size) c.add_if_applicable.ensures ∙ c.loop-number.invariant.size;
      added =
          subst (λ (s : Numbers). AreAdded test (take (i + 1) list) c.args.found.now.members s)
          (sym (ap (λ (s : SizedSet). s.members) c.add_if_applicable.ensures))
          (one_added test list i (get_or list i 0) c.args.found.now.members c.loop-number.found.members (omega arith) (λ _. get_or list i 0) c.loop-number.invariant.added);
    }
