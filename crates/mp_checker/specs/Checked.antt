-- What is said of a plan that solves.
use Rattle.mp_plan_verdict.specs.declared.verdict.CheckVerdict.{CheckVerdict}
use Rattle.mp_plan_verdict.specs.declared.verdict.CheckVerdict.TheVariants.{Valid, NoAction, Missing, Forbidden, GoalMissing, GoalForbidden}

-- it holds where this is found of the plan, and it solves
abbrev pub IfValid : CheckVerdict → Type 0 → Type 0
IfValid (Valid cost) P = P
IfValid (NoAction time) P = Unit {0}
IfValid (Missing time f) P = Unit {0}
IfValid (Forbidden time f) P = Unit {0}
IfValid (GoalMissing f) P = Unit {0}
IfValid (GoalForbidden f) P = Unit {0}
