-- The files of one agent more.
use Rattle.std.proofs.Common.{◌≡◌, subst, ℕ, ◌+◌, ◌-◌, ◌<◌, List, [], ◌∷◌, ◌++◌, suc, arith, append_assoc}
use Rattle.std.specs.List.{flat_map, range_with_len}
use Rattle.mp_maker.specs.Domain.{Text}

pub one_agent_more : (files : ℕ → List Text) (texts whole : List Text) (domain problem : Text) (agent end : ℕ)
    → agent < end
    → files agent ≡ domain ∷ problem ∷ []
    → texts ++ flat_map files (range_with_len agent (end - agent)) ≡ whole
    → ((texts ++ domain ∷ []) ++ problem ∷ []) ++ flat_map files (range_with_len (agent + 1) (end - (agent + 1))) ≡ whole
one_agent_more files texts whole domain problem agent end below is left =
    let more : end - agent ≡ suc (end - (agent + 1)) = omega arith in
    let first = subst (λ n. texts ++ flat_map files (range_with_len agent n) ≡ whole) more left in
    let all = rw is at first in
    simp append_assoc all
