-- The problem of one agent of a delivery: it waits in a yard of its own, from which a road leads to the place where it
-- takes the box, and from there another to the place where it leaves it.
use Rattle.std.specs.Prelude.{ℕ, ◌+◌, ◌-◌, ◌*◌, ◌%◌, ◌==◌, [], ◌++◌, codes, decimal, if◌then◌else◌}
use Rattle.mp_maker.specs.Domain.{Text}

-- what the road from the yard costs an agent
abbrev pub near_cost : ℕ → ℕ → ℕ
near_cost number agent = 1 + (number * agent + 3) % 5

-- and the road from place to place
abbrev pub far_cost : ℕ → ℕ → ℕ
far_cost number agent = 1 + (number + 2 * agent) % 7

-- a place has its number behind `h`
abbrev pub place : ℕ → Text
place n = codes "h" ++ decimal n

-- the box is where the first agent takes it
unfoldable pub first_box : ℕ → Text
first_box agent = if agent == 1 then codes " (at box h0)" else []

-- and is to be where the last agent leaves it
unfoldable pub last_box : ℕ → ℕ → Text → Text
last_box size agent y = if agent == size then codes " (at box " ++ (y ++ codes ")") else []

unfoldable pub name_lines : Text → Text
name_lines agent = codes "(define (problem delivery-" ++ (agent ++ codes ")\n (:domain delivery)\n")

unfoldable pub objects_line : Text → Text → Text
objects_line x y =
    codes " (:objects box - parcel " ++ (x ++ (codes " " ++ (y
    ++ codes " - place (:private yard - place))\n")))

unfoldable pub init_line : Text → Text
init_line first = codes " (:init (pos yard)" ++ (first ++ codes "\n")

unfoldable pub roads_line : Text → Text → Text
roads_line x y =
    codes "  (road yard " ++ (x ++ (codes ") (road " ++ (x ++ (codes " yard) (road "
    ++ (x ++ (codes " " ++ (y ++ (codes ") (road " ++ (y ++ (codes " " ++ (x ++ codes ")\n")))))))))))

unfoldable pub costs_line : Text → Text → Text → Text → Text
costs_line x y near far =
    codes "  (= (dist yard " ++ (x ++ (codes ") " ++ (near
    ++ (codes ") (= (dist " ++ (x ++ (codes " yard) " ++ (near
    ++ (codes ") (= (dist " ++ (x ++ (codes " " ++ (y ++ (codes ") " ++ (far
    ++ (codes ") (= (dist " ++ (y ++ (codes " " ++ (x ++ (codes ") " ++ (far
    ++ codes "))\n")))))))))))))))))))

unfoldable pub goal_lines : Text → Text
goal_lines last =
    codes " (:goal (and" ++ (last ++ codes "))\n (:metric minimize (total-cost)))\n")

-- the problem of an agent of a team of so many, whose costs this number chooses
unfoldable pub problem : ℕ → ℕ → ℕ → Text
problem size number agent =
    let x = place (agent - 1) in
    let y = place agent in
    name_lines (decimal agent)
    ++ (objects_line x y
    ++ (init_line (first_box agent)
    ++ (roads_line x y
    ++ (costs_line x y (decimal (near_cost number agent)) (decimal (far_cost number agent))
    ++ goal_lines (last_box size agent y)))))
