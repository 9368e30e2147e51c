-- A list that is made of what is taken from another one, item by item.
use Rattle.std.proofs.Common.{◌≡◌, List, [], ◌∷◌, ◌++◌, map, sym, ap, ◌∙◌, append_assoc}

pub one_made : {X Y : Type 0} (f : X → Y) (made more whole : List Y) (before rest : List X) (x : X)
    → before ≡ x ∷ rest → more ≡ made ++ f x ∷ [] → made ++ map f before ≡ whole → more ++ map f rest ≡ whole
one_made f made more whole before rest x taken pushed h =
    ap (λ ys. ys ++ map f rest) pushed ∙ append_assoc made (f x ∷ []) (map f rest) ∙ ap (λ xs. made ++ map f xs) (sym taken) ∙ h
