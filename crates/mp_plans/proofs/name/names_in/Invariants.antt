use Rattle.std.proofs.Common.{◌≡◌, ◌+◌, ◌++◌, length}
use Rattle.std.specs.List.{list_all}
use Rattle.std.specs.Option.{option_map, option_map_or}
use Rattle.mp_forms.specs.Kinds.{is_name}
use Rattle.mp_plans.specs.Names.{words_left}
use Rattle.mp_plans.proofs.name.names_in.Given as goal

-- the names so far and the words that are left are all, and what is left decides
abbrev pub invariant-loop-rest : goal.invariant-loop-rest
invariant-loop-rest l =
    (l.names ++ words_left (option_map (λ x. x.now) l.rest) ≡ words_left (option_map (λ x. x.now) l.fn.text))
    × (list_all is_name (words_left (option_map (λ x. x.now) l.rest))
    ≡ list_all is_name (words_left (option_map (λ x. x.now) l.fn.text)))

abbrev pub decreases-loop-rest : goal.decreases-loop-rest
decreases-loop-rest l = option_map_or (λ x. length x.now + 1) l.rest 0
