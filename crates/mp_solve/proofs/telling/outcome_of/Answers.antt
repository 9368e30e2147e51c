use Rattle.mp_solve.proofs.Finds.{answer_is, no_text_is, nothing_is, text_is}
use Rattle.mp_solve.proofs.telling.outcome_of.Goals as goal

pub returns-in-Some : goal.returns-in-Some
returns-in-Some g c =
    record {
      answer = λ last agents. answer_is last c.args.machines.now agents c.in_ok-found.field-0 c.in_ok-found.ensures
          c.in-Some.found c.in-Some.is;
      text = λ last agents. text_is last c.args.machines.now agents c.in_ok-found.field-0 c.in_ok-found.ensures
          c.in-Some.found c.in-Some.is;
    }

pub returns-in-None : goal.returns-in-None
returns-in-None g c =
    record {
      answer = λ last agents. nothing_is last c.args.machines.now agents c.in_ok-found.field-0 c.in_ok-found.ensures
          c.in-None.is;
      text = λ last agents. no_text_is last c.args.machines.now agents c.in_ok-found.field-0 c.in_ok-found.ensures
          c.in-None.is;
    }
