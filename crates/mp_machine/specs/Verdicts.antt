-- What a verdict says, where one is given.
use Rattle.std.specs.Prelude.{ℕ, Bool, true, false, Option, Some, None}
use Rattle.mp_snapshot.specs.declared.verdict.Verdict.{Verdict}
use Rattle.mp_snapshot.specs.declared.verdict.Verdict.TheVariants.{Proved, NoPlan, Spent, Continue}

-- whether the search of the team is decided
abbrev pub is_deciding : Option Verdict → Bool
is_deciding None = false
is_deciding (Some (Proved agent cost)) = true
is_deciding (Some NoPlan) = true
is_deciding (Some (Spent agent)) = true
is_deciding (Some Continue) = false

-- whether a plan is proved to be cheapest
abbrev pub is_proved : Option Verdict → Bool
is_proved None = false
is_proved (Some (Proved agent cost)) = true
is_proved (Some NoPlan) = false
is_proved (Some (Spent agent)) = false
is_proved (Some Continue) = false

-- the cost of that plan
abbrev pub proved_cost : Option Verdict → Option ℕ
proved_cost None = None
proved_cost (Some (Proved agent cost)) = Some cost
proved_cost (Some NoPlan) = None
proved_cost (Some (Spent agent)) = None
proved_cost (Some Continue) = None
