use Rattle.std.proofs.Common.{◌≡◌, ◌+◌, ◌++◌, ◌∷◌, [], ℕ, List, take, ap, sym, ◌∙◌, append_assoc}
use Rattle.std.proofs.lemmas.List.{take_more}
use Rattle.mp_audit.proofs.flat_certificate.add_lists.Goals as goal

pub loop-facts-preserved : goal.loop-facts-preserved
loop-facts-preserved c =
    let l = c.loop-facts in
    let facts = c.facts-item.result in
    let more = c.args.more.now in
    let old = c.args.lists.now in
    let one : take (l.facts-index + 1) more ≡ take l.facts-index more ++ facts ∷ [] =
    take_more more l.facts-index facts c.loop-facts-test.true ∙ ap (λ (x : List ℕ). take l.facts-index more ++ x ∷ []) (sym c.facts-item.is) in
    c.in_ok-add_facts.ensures
    ∙ ap (λ (before : List (List ℕ)). before ++ facts ∷ []) l.invariant
    ∙ append_assoc old (take l.facts-index more) (facts ∷ [])
    ∙ ap (λ (added : List (List ℕ)). old ++ added) (sym one)
