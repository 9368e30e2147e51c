use Rattle.mp_factor.proofs.Basics.{sym, ◌∙◌}
use Rattle.mp_factor.proofs.FirstCostLemmas.{known, new, fault_by}
use Rattle.mp_factor.proofs.first_costs.check_value.Goals as goal

pub returns-in-Some : goal.returns-in-Some
returns-in-Some c =
    let costs = c.args.costs.now.entries in
    let first = sym c.get.ensures.value ∙ sym c.copied.ensures ∙ c.in-Some.is in
    record {
      fault = λ before holds. c.differing_fault.ensures ∙ fault_by costs before _ c.args.function _ holds c.requires first;
      costs = λ before holds. known costs before _ c.args.function c.in-Some.first holds c.requires first;
    }

pub returns-in_ok-insert-in-None : goal.returns-in_ok-insert-in-None
returns-in_ok-insert-in-None c =
    let costs = c.args.costs.now.entries in
    let none = sym c.get.ensures.value ∙ sym c.copied.ensures ∙ c.in-None.is in
    record {
      fault = λ before holds. fault_by costs before _ c.args.function _ holds c.requires none;
      costs = λ before holds. new costs c.insert.new.self.entries before _ c.args.function holds c.requires none c.in_ok-insert-in-None.ensures.updates.0;
    }
