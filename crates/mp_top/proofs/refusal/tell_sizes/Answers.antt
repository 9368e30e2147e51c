use Rattle.mp_top.proofs.refusal.tell_sizes.Goals as goal

pub returns-in-TooManyTries : goal.returns-in-TooManyTries
returns-in-TooManyTries g c = rw c.in-TooManyTries.is c.tell_size.ensures

pub returns-in-TooManyActions : goal.returns-in-TooManyActions
returns-in-TooManyActions g c = rw c.in-TooManyActions.is c.tell_size-in-TooManyActions.ensures

pub returns-in-TooManyFacts : goal.returns-in-TooManyFacts
returns-in-TooManyFacts g c = rw c.in-TooManyFacts.is c.tell_size-in-TooManyFacts.ensures
