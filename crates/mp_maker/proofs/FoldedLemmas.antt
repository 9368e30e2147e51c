-- The texts of the family have no capital letters: folding them changes nothing.
use Rattle.std.proofs.Common.{◌≡◌, refl, ap, subst, ℕ, ◌+◌, ◌-◌, ◌<◌, ◌≤◌, ◌==◌, Bool, true, false, List, [], ◌∷◌, ◌++◌, arith}
use Rattle.std.specs.Prelude.{codes, decimal, nat_le, Result, IfOk, if◌then◌else◌}
use Rattle.std.specs.List.{flat_map}
use Rattle.std.proofs.lemmas.Bool.{lt-leb}
use Rattle.std.proofs.lemmas.Fmt.{decimal_digit}
use Rattle.mp_sexp.specs.Bytes.{folded}
use Rattle.mp_maker.specs.Domain.{Text, domain}
use Rattle.mp_maker.specs.Problem.{near_cost, far_cost, place, first_box, last_box, name_lines, objects_line, init_line, roads_line, costs_line, goal_lines, problem}

-- folding changes nothing
abbrev pub IsFolded : Text → Type 0
IsFolded text = folded text ≡ text

-- it changes none of these pieces
abbrev pub AreFolded : List Text → Type 0
AreFolded [] = Unit {0}
AreFolded (piece ∷ pieces) = IsFolded piece × AreFolded pieces

folded_append : (x y : Text) → IsFolded x → IsFolded y → IsFolded (x ++ y)
folded_append [] y hx hy = hy
folded_append (b ∷ x) y hx hy = cc (folded_append x y (cc) hy)

-- and so not the pieces one after another
folded_pieces : (pieces : List Text) → AreFolded pieces → IsFolded (flat_map (λ piece. piece) pieces)
folded_pieces [] h = refl
folded_pieces (piece ∷ pieces) h = folded_append piece (flat_map (λ piece. piece) pieces) h.0 (folded_pieces pieces h.1)

pub same_value : {E : Type 0} (r : Result Text E) (a b : Text) → a ≡ b → IfOk r (λ t. t ≡ a) → IfOk r (λ t. t ≡ b)
same_value r a b e h = let P : Text → Type 0 = λ v. IfOk r (λ t. t ≡ v) in subst P e h

pub folded_domain : IsFolded domain
unfolding domain
folded_domain = refl

digit : (n : ℕ) → n < 10 → IsFolded (decimal n)
digit n small = let no : nat_le 65 (48 + n) ≡ false = lt-leb 65 (48 + n) (omega arith) in rw (decimal_digit n small, no) refl

place_folded : (n : ℕ) → n < 10 → IsFolded (place n)
place_folded n small = ap (λ t. 104 ∷ t) (digit n small)

first_folded : (agent : ℕ) → IsFolded (first_box agent)
unfolding first_box
first_folded agent = by (agent == 1)
  where
    by : (test : Bool) → IsFolded (if test then codes " (at box h0)" else [])
    by true = refl
    by false = refl

last_folded : (size agent : ℕ) (y : Text) → IsFolded y → IsFolded (last_box size agent y)
unfolding last_box
last_folded size agent y h = by (agent == size)
  where
    by : (test : Bool) → IsFolded (if test then codes " (at box " ++ (y ++ codes ")") else [])
    by true = folded_pieces (codes " (at box " ∷ y ∷ codes ")" ∷ []) (refl, (h, (refl, tt)))
    by false = refl

name_folded : (agent : Text) → IsFolded agent → IsFolded (name_lines agent)
unfolding name_lines
name_folded agent h = folded_pieces (codes "(define (problem delivery-" ∷ agent ∷ codes ")\n (:domain delivery)\n" ∷ []) (refl, (h, (refl, tt)))

objects_folded : (x y : Text) → IsFolded x → IsFolded y → IsFolded (objects_line x y)
unfolding objects_line
objects_folded x y hx hy =
    folded_pieces (codes " (:objects box - parcel " ∷ x ∷ codes " " ∷ y ∷ codes " - place (:private yard - place))\n" ∷ [])
    (refl, (hx, (refl, (hy, (refl, tt)))))

init_folded : (first : Text) → IsFolded first → IsFolded (init_line first)
unfolding init_line
init_folded first h = folded_pieces (codes " (:init (pos yard)" ∷ first ∷ codes "\n" ∷ []) (refl, (h, (refl, tt)))

roads_folded : (x y : Text) → IsFolded x → IsFolded y → IsFolded (roads_line x y)
unfolding roads_line
roads_folded x y hx hy =
    folded_pieces
    (codes "  (road yard " ∷ x ∷ codes ") (road " ∷ x ∷ codes " yard) (road " ∷ x ∷ codes " " ∷ y ∷ codes ") (road " ∷ y ∷ codes " " ∷ x
    ∷ codes ")\n" ∷ [])
    (refl, (hx, (refl, (hx, (refl, (hx, (refl, (hy, (refl, (hy, (refl, (hx, (refl, tt)))))))))))))

costs_folded : (x y near far : Text) → IsFolded x → IsFolded y → IsFolded near → IsFolded far → IsFolded (costs_line x y near far)
unfolding costs_line
costs_folded x y near far hx hy hn hf =
    folded_pieces
    (codes "  (= (dist yard " ∷ x ∷ codes ") " ∷ near ∷ codes ") (= (dist " ∷ x ∷ codes " yard) " ∷ near ∷ codes ") (= (dist " ∷ x
    ∷ codes " " ∷ y ∷ codes ") " ∷ far ∷ codes ") (= (dist " ∷ y ∷ codes " " ∷ x ∷ codes ") " ∷ far ∷ codes "))\n" ∷ [])
    (refl, (hx, (refl, (hn, (refl, (hx, (refl, (hn, (refl, (hx, (refl, (hy, (refl, (hf, (refl, (hy, (refl, (hx, (refl, (hf, (refl, tt)))))))))))))))))))))

goal_folded : (last : Text) → IsFolded last → IsFolded (goal_lines last)
unfolding goal_lines
goal_folded last h =
    folded_pieces (codes " (:goal (and" ∷ last ∷ codes "))\n (:metric minimize (total-cost)))\n" ∷ []) (refl, (h, (refl, tt)))

pub folded_problem : (size number agent : ℕ) → agent ≤ 8 → IsFolded (problem size number agent)
unfolding problem
folded_problem size number agent few =
    let x = place_folded (agent - 1) (omega arith) in
    let y = place_folded agent (omega arith) in
    let near = digit (near_cost number agent) (omega arith) in
    let far = digit (far_cost number agent) (omega arith) in
    let last = last_folded size agent (place agent) y in
    folded_append (name_lines (decimal agent)) _ (name_folded _ (digit agent (omega arith)))
    (folded_append (objects_line (place (agent - 1)) (place agent)) _ (objects_folded _ _ x y)
    (folded_append (init_line (first_box agent)) _ (init_folded _ (first_folded agent))
    (folded_append (roads_line (place (agent - 1)) (place agent)) _ (roads_folded _ _ x y)
    (folded_append (costs_line (place (agent - 1)) (place agent) (decimal (near_cost number agent)) (decimal (far_cost number agent))) _ (costs_folded _ _ _ _ x y near far)
    (goal_folded _ last)))))
