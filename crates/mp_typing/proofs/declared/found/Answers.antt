use Rattle.mp_typing.proofs.Basics.{ap, refl, [], List, Bor, map, Typed}
use Rattle.mp_typing.proofs.Listing.{found_none}
use Rattle.mp_typing.proofs.declared.found.Goals as goal

pub returns : goal.returns
returns c =
    let none = ap (λ (os : List (Bor Typed)). map (λ (o : Bor Typed). o.now) os) c.in_ok-with_capacity-2.ensures.items in
    c.in_ok-add_all-2.ensures c.args.constants.now refl
    (c.in_ok-add_all.ensures [] refl (found_none _ _ c.in_ok-with_capacity.ensures none))
