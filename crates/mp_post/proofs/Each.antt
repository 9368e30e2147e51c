-- What holds of each of a list.
use Rattle.std.proofs.Common.{◌≡◌, List, [], ◌∷◌, ◌++◌, sym, subst}
use Rattle.std.specs.Prelude.{All}
use Rattle.std.proofs.lemmas.List.Elements.{All-append, All-cons, All-nil, All-tail}

-- one more is behind the others
pub all_more : {X : Type 0} (xs new : List X) (x : X) (P : X → Type 0) → new ≡ xs ++ x ∷ [] → All P xs → P x → All P new
all_more xs new x P is all own = subst (All P) (sym is) (All-append P xs (x ∷ []) all (All-cons P x [] own (All-nil P)))

-- the first one is gone
pub all_others : {X : Type 0} (xs left : List X) (x : X) (P : X → Type 0) → xs ≡ x ∷ left → All P xs → All P left
all_others xs left x P is all = All-tail P x left (subst (All P) is all)
