-- Runs: what a list of events, or of actions, leads to, one after another.
use Rattle.std.specs.Prelude.{Option, Some, option_and_then, List, [], ◌∷◌, IsSome}

-- the state after events, one after another: none where the step refuses one of them in its turn
unfoldable pub run : {S E : Type 0} → (S → E → Option S) → S → List E → Option S
run step s [] = Some s
run step s (e ∷ events) = option_and_then (λ t. run step t events) (step s e)

-- events are legal from a state where the step refuses none of them in its turn
abbrev pub IsLegal : {S E : Type 0} → (S → E → Option S) → S → List E → Type 0
IsLegal step s events = IsSome (run step s events)
