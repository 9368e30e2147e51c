-- The domain of every agent of a delivery: it drives on its own roads from place to place, and takes parcels along.
use Rattle.std.specs.Prelude.{ℕ, List, [], ◌∷◌, ◌++◌, codes}
use Rattle.std.specs.List.{flat_map}

-- a text, or a line of one, as its bytes
abbrev pub Text : Type 0
Text = List ℕ

-- these lines, each with a line feed at its end
abbrev pub text_of_lines : List Text → Text
text_of_lines lines = flat_map (λ line. line ++ 10 ∷ []) lines

unfoldable pub domain : Text
domain = text_of_lines
    (codes "(define (domain delivery)"
    ∷ codes " (:requirements :typing :action-costs :factored-privacy)"
    ∷ codes " (:types place parcel)"
    ∷ codes " (:predicates (at ?p - parcel ?x - place)"
    ∷ codes "  (:private (pos ?x - place) (in ?p - parcel) (road ?x ?y - place)))"
    ∷ codes " (:functions (total-cost) - number"
    ∷ codes "  (:private (dist ?x ?y - place) - number))"
    ∷ codes " (:action move :parameters (?x ?y - place)"
    ∷ codes "  :precondition (and (pos ?x) (road ?x ?y))"
    ∷ codes "  :effect (and (pos ?y) (not (pos ?x)) (increase (total-cost) (dist ?x ?y))))"
    ∷ codes " (:action load :parameters (?p - parcel ?x - place)"
    ∷ codes "  :precondition (and (pos ?x) (at ?p ?x))"
    ∷ codes "  :effect (and (in ?p) (not (at ?p ?x)) (increase (total-cost) 1)))"
    ∷ codes " (:action unload :parameters (?p - parcel ?x - place)"
    ∷ codes "  :precondition (and (pos ?x) (in ?p))"
    ∷ codes "  :effect (and (at ?p ?x) (not (in ?p)) (increase (total-cost) 1))))"
    ∷ [])
