-- What is told of a plan that was checked.
use Rattle.std.specs.Prelude.{ℕ, ◌==◌, List, [], ◌∷◌, ◌++◌, codes, decimal, if◌then◌else◌}
use Rattle.std.specs.List.{flat_map}
use Rattle.mp_joint.specs.declared.fact.NamedFact.{NamedFact}
use Rattle.mp_plan_verdict.specs.declared.verdict.CheckVerdict.{CheckVerdict}
use Rattle.mp_plan_verdict.specs.declared.verdict.CheckVerdict.TheVariants.{Valid, NoAction, Missing, Forbidden, GoalMissing, GoalForbidden}
use Rattle.mp_text.specs.Lines.{Text}

-- `(NAME ARG ..)`
abbrev pub named_text : Text → List Text → Text
named_text name args = codes "(" ++ (name ++ (flat_map (λ arg. 32 ∷ arg) args ++ codes ")"))

abbrev pub fact_text : NamedFact → Text
fact_text fact = named_text fact.predicate fact.args

-- where something is wrong: `invalid at T`
abbrev pub at_time : ℕ → Text
at_time time = codes "invalid at " ++ decimal time

-- a plan that solves is valid where it costs what its text states
abbrev pub cost_line : ℕ → ℕ → Text
cost_line cost stated =
    if cost == stated then codes "valid cost " ++ decimal cost else codes "invalid cost is " ++ decimal cost

unfoldable pub verdict_line : CheckVerdict → ℕ → Text
verdict_line (Valid cost) stated = cost_line cost stated
verdict_line (NoAction time) stated = at_time time ++ codes " no action"
verdict_line (Missing time fact) stated = at_time time ++ (codes " missing " ++ fact_text fact)
verdict_line (Forbidden time fact) stated = at_time time ++ (codes " forbidden " ++ fact_text fact)
verdict_line (GoalMissing fact) stated = codes "invalid goal missing " ++ fact_text fact
verdict_line (GoalForbidden fact) stated = codes "invalid goal forbidden " ++ fact_text fact

-- the text of a verdict on a plan whose text states this cost
abbrev pub verdict_text : CheckVerdict → ℕ → Text
verdict_text verdict stated = verdict_line verdict stated ++ 10 ∷ []
