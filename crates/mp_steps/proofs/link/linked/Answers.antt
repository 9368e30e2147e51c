use Rattle.std.proofs.Common.{◌≡◌, List, ℕ, length, ◌∙◌}
use Rattle.std.proofs.lemmas.Result.{IfOk-weaker}
use Rattle.mp_steps.specs.Levels.{Test, levels}
use Rattle.mp_steps.specs.Marks.{AreMet, way_to}
use Rattle.mp_steps.specs.Steps.{steps, chain}
use Rattle.mp_steps.proofs.LinkLemmas.{linked_is}
use Rattle.mp_steps.proofs.link.linked.Goals as goal

pub returns : goal.returns
returns c =
    let mets = c.args.mets.now in
    let given = c.args.steps.now in
    let n = length mets in
    IfOk-weaker c.way_back.result
    (λ (times : List ℕ). times ≡ way_to mets c.len.result c.last_time.result)
    (λ (times : List ℕ). (interfere : Test) → AreMet interfere mets → given ≡ steps (levels interfere n) n → times ≡ chain interfere (levels interfere n) n)
    (λ times h interfere are is. h ∙ (λ i. way_to mets (c.len.ensures i) (c.last_time.ensures i)) ∙ linked_is interfere mets are given is)
    c.way_back.ensures
