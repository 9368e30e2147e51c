use Rattle.std.proofs.Common.{◌≡◌, ℕ, ◌+◌, [], ◌∷◌, ◌++◌, length, ap, subst, sym, ◌∙◌, arith}
use Rattle.std.proofs.lemmas.List.{length_push}
use Rattle.mp_checker.specs.Steps.{NumberedStep}
use Rattle.mp_steps.specs.declared.mark.Mark.{Mark}
use Rattle.mp_steps.specs.Levelled.{IsLevelled}
use Rattle.mp_steps.proofs.NumberedLemmas.{last_of_more, levelled_before_more, levelled_next, met_low}
use Rattle.mp_steps.proofs.level.LevelsStepSink.take.Goals as goal

pub mark_after-mark-requires : goal.mark_after-mark-requires
mark_after-mark-requires c =
    let so_far = c.args.self.now in
    let mets = so_far.mets.items in
    let facts = so_far.facts.items in
    let agents = so_far.agents.items in
    let x : NumberedStep = record { agent = c.args.agent; needs = c.args.needs.now; adds = c.args.adds.now; dels = c.args.dels.now } in
    let steps = c.requires.0 in
    let h = c.requires.1 in
    let low = met_low (steps ++ x ∷ []) (length steps) mets facts agents x c.met_of-met.result (levelled_before_more steps x mets facts agents h)
    (last_of_more steps x) c.met_of-met.ensures in
    let long = h.long in
    let len = c.len.ensures in
    let ok = so_far.mets.ok in
    omega (arith, low, long, len, ok)

pub returns : goal.returns
returns c = λ steps h.
    let so_far = c.args.self.now in
    let mets = so_far.mets.items in
    let facts = so_far.facts.items in
    let agents = so_far.agents.items in
    let x : NumberedStep = record { agent = c.args.agent; needs = c.args.needs.now; adds = c.args.adds.now; dels = c.args.dels.now } in
    let long = h.long in
    let len = c.len.ensures in
    let ok = so_far.mets.ok in
    let count : c.len.result ≡ length steps = omega (arith, long, len, ok) in
    subst (λ n. IsLevelled (steps ++ x ∷ []) n c.push.new.self.items c.note_facts.new.facts.items c.note_agent.new.agents.items)
    (sym (length_push steps x))
    (levelled_next (steps ++ x ∷ []) (length steps) mets facts agents x c.met_of-met.result c.mark_after-mark.result
    c.note_facts.new.facts.items c.note_agent.new.agents.items c.push.new.self.items
    (levelled_before_more steps x mets facts agents h) (last_of_more steps x) c.met_of-met.ensures
    (ap (λ (m : Mark). m.level) c.mark_after-mark.ensures)
    (ap (λ (m : Mark). m.time) c.mark_after-mark.ensures ∙ ap (λ (n : ℕ). n + 1) count)
    (c.in_ok-note_facts.ensures c.args.agent) c.in_ok-note_agent.ensures c.in_ok-push.ensures.items)
