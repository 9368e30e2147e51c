-- Two agents: each expands a state; then the first puts a message for the second, which takes it.
use Rattle.std.specs.Prelude.{List, [], ◌∷◌, ℕ}
use Rattle.mp_messages.specs.declared.history.Entry.{Entry}
use Rattle.mp_messages.specs.declared.history.Entry.TheVariants.{Act, Put, Took}
use Rattle.mp_messages.specs.declared.history.Kind.TheVariants.{Expand}
use Rattle.mp_stamps.specs.declared.stamped.Stamped.{Stamped}

abbrev pub stamped : ℕ → Entry → Stamped
stamped stamp entry = record { stamp = stamp; entry = entry }

abbrev pub message : List ℕ
message = 7 ∷ 1 ∷ []

abbrev pub of_the_first : List Stamped
of_the_first = stamped 1 (Act 1 Expand) ∷ stamped 2 (Put 1 2 message) ∷ []

abbrev pub of_the_second : List Stamped
of_the_second = stamped 1 (Act 2 Expand) ∷ stamped 3 (Took 2 1 message) ∷ []

abbrev pub of_both : List (List Stamped)
of_both = of_the_first ∷ of_the_second ∷ []

-- two agents that did nothing
abbrev pub of_neither : List (List Stamped)
of_neither = [] ∷ [] ∷ []
