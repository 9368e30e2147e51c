-- A list that is made of what is taken from another one, item by item.
use Rattle.mp_split.proofs.Basics.{arith, ◌≡◌, List, [], ◌∷◌, ◌++◌, map, length, sym, ap, ◌∙◌, append_assoc, append-nil}

pub one_taken : {X Y : Type 0} (f : X → Y) (made more whole : List Y) (before rest : List X) (x : X)
    → before ≡ x ∷ rest → more ≡ made ++ f x ∷ [] → made ++ map f before ≡ whole → more ++ map f rest ≡ whole
one_taken f made more whole before rest x taken pushed h =
    ap (λ ys. ys ++ map f rest) pushed ∙ append_assoc made (f x ∷ []) (map f rest) ∙ ap (λ xs. made ++ map f xs) (sym taken) ∙ h

pub all_taken : {X Y : Type 0} (f : X → Y) (made whole : List Y) (rest : List X) → length rest ≡ 0 → made ++ map f rest ≡ whole → made ≡ whole
all_taken f made whole [] end h = sym (append-nil made) ∙ h
all_taken f made whole (x ∷ rest) end h = absurd (omega arith)
