use Rattle.std.proofs.Common.{◌≡◌, ℕ, length, min, take, ap, ◌∙◌, arith}
use Rattle.std.proofs.lemmas.List.{take_min}
use Rattle.mp_search.specs.Search.{SearchRecord}
use Rattle.mp_machine.proofs.StoreSeen.{length_seen}
use Rattle.mp_certify.proofs.team.noted_count.Goals as goal

pub returns-clause-within : goal.returns-clause-within
returns-clause-within g c =
    let count : c.count-all.result ≡ length c.args.machine.now.done.search.kept.entries =
    c.count-all.ensures.count ∙ length_seen c.store.result.now c.search.result.now.done.kept c.store.ensures
    ∙ ap (λ (s : SearchRecord). length s.kept.entries) c.search.ensures.of.done in
    let least = c.min.ensures in
    omega (arith, count, least)

pub returns-clause-entries : goal.returns-clause-entries
returns-clause-entries g c =
    let entries = c.args.machine.now.done.search.kept.entries in
    let count : c.count-all.result ≡ length entries =
    c.count-all.ensures.count ∙ length_seen c.store.result.now c.search.result.now.done.kept c.store.ensures
    ∙ ap (λ (s : SearchRecord). length s.kept.entries) c.search.ensures.of.done in
    ap (λ (n : ℕ). take n entries) (c.min.ensures ∙ (λ j. min (c.noted.ensures j) (count j)))
    ∙ take_min c.args.machine.now.done.noted entries
