use Rattle.std.proofs.Common.{List, ℕ, ap, subst}
use Rattle.mp_sets.specs.Numbers.{SizedSet}
use Rattle.mp_applicable.specs.Applicable.{is_applicable}
use Rattle.mp_applicable.specs.Finding.{AreAdded, AreDueAdded}
use Rattle.mp_applicable.proofs.FindingLemmas.{all_found}
use Rattle.mp_applicable.proofs.index.find_listed.Goals as goal

pub returns-clause-found : goal.returns-clause-found
returns-clause-found c =
    let t = c.args.task.now in
    let l = c.args.lists.now in
    let publics = c.args.publics.now.members in
    let privates = c.args.privates.now.members in
    let test = is_applicable t.acts publics privates in
    let s0 = c.args.found.now.members in
    let s1 = c.add_listed.new.found.members in
    let s2 = c.add_due.new.found.members in
    let s3 = c.add_due-2.new.found.members in
    all_found t l c.requires.lists publics privates s0 s1 s2 s3 (ap (λ (s : SizedSet). s.members) c.requires.none)
    (subst (λ (xs : List ℕ). AreAdded test xs s0 s1) c.by_none.ensures c.add_listed.ensures.added)
    (subst (λ (xs : List (List ℕ)). AreDueAdded test xs publics s1 s2) c.by_public.ensures c.add_due.ensures.added)
    (subst (λ (xs : List (List ℕ)). AreDueAdded test xs privates s2 s3) c.by_private.ensures c.add_due-2.ensures.added)
