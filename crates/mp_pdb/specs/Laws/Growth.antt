-- A pattern has at most twelve facts.
use Rattle.std.proofs.Common.{ℕ, zero, suc, ◌+◌, ◌-◌, ◌≤◌, Option, Some, None, List, [], ◌∷◌, ◌++◌, length, take, arith}
use Rattle.std.proofs.lemmas.List.{length-append, length-take}
use Rattle.std.specs.Option.{option_map_or}
use Rattle.mp_task.specs.Strips.{Operator, Problem}
use Rattle.mp_pdb.specs.Pattern.{missing, least, with_next, grown, pattern_of}

with_next-long : (operators : List Operator) (pattern : List ℕ) → length (with_next operators pattern) ≤ length pattern + 1
with_next-long operators pattern = by (least (missing operators pattern))
  where
    by : (o : Option ℕ) → length (option_map_or (λ x. pattern ++ x ∷ []) o pattern) ≤ length pattern + 1
    by None = omega arith
    by (Some x) = let more = length-append pattern (x ∷ []) in omega arith

grown-long : (operators : List Operator) (n : ℕ) (pattern : List ℕ) → length (grown operators n pattern) ≤ length pattern + n
unfolding grown
grown-long operators zero pattern = omega arith
grown-long operators (suc n) pattern =
    let rest = grown-long operators n (with_next operators pattern) in
    let one = with_next-long operators pattern in
    omega arith

pub at_most_12 : (problem : Problem) → length (pattern_of problem) ≤ 12
at_most_12 problem =
    let goals : List ℕ = take 12 problem.goals in
    let few = length-take 12 problem.goals in
    let long = grown-long problem.operators (12 - length goals) goals in
    omega arith
