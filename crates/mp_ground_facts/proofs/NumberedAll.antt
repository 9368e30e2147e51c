-- Facts that are numbered one after another have the numbers of all.
use Rattle.mp_ground_facts.proofs.Basics.{◌≡◌, List, [], ◌∷◌, ◌++◌, sym, ap, ◌∙◌, fold, number_of, numbers_of}
use Rattle.std.proofs.Common.{append_assoc}
use Rattle.std.proofs.lemmas.List.{append-nil}
use Rattle.mp_ground_facts.specs.declared.fact.GroundFact.{GroundFact}
use Rattle.mp_ground_facts.specs.Numbers.{Numbers, numbered, with_number}

-- from some numbers on
numbered_on : (n : Numbers) (fs : List GroundFact) → fold with_number n fs ≡ record { facts = n.facts; numbers = n.numbers ++ numbers_of n.facts fs }
numbered_on n [] = ap (λ ns. record { facts = n.facts; numbers = ns }) (sym (append-nil n.numbers))
numbered_on n (f ∷ fs) =
    numbered_on (with_number n f) fs
    ∙ ap (λ ns. record { facts = n.facts; numbers = ns }) (append_assoc n.numbers (number_of n.facts f ∷ []) (numbers_of n.facts fs))

pub numbered_all : (facts fs : List GroundFact) → fold with_number (numbered facts []) fs ≡ numbered facts fs
numbered_all facts fs = numbered_on (numbered facts []) fs

pub ruleset number_steps = (numbered_all)
