-- Names that a list of names covers.
use Rattle.std.proofs.Common.{◌≡◌, ℕ, zero, suc, true, List, [], ◌∷◌, ◌++◌, Some, refl, subst, ◌∙◌}
use Rattle.std.specs.List.{flat_map}
use Rattle.std.specs.Prelude.{slice_get}
use Rattle.std.specs.Str.{bytes_eq}
use Rattle.std.proofs.lemmas.Bool.{or_left, or_right}
use Rattle.std.proofs.lemmas.List.Folds.{list_any-append}
use Rattle.std.proofs.lemmas.Option.{none-some}
use Rattle.std.proofs.lemmas.Slice.Eq.{bytes_eq-Decides}
use Rattle.mp_sexp.specs.Numbers.{is_named}
use Rattle.mp_joint.specs.Fact.{Text}
use Rattle.mp_checker.specs.AgentView.{Covers}

pub covers_left : (names xs ys : List Text) → Covers names (xs ++ ys) → Covers names xs
covers_left names xs ys c w h =
    c w (list_any-append (λ (n : Text). bytes_eq w n) xs ys ∙ or_left (is_named xs w) (is_named ys w) h)

pub covers_right : (names xs ys : List Text) → Covers names (xs ++ ys) → Covers names ys
covers_right names xs ys c w h =
    c w (list_any-append (λ (n : Text). bytes_eq w n) xs ys ∙ or_right (is_named xs w) (is_named ys w) h)

pub covers_head : (names xs : List Text) (x : Text) → Covers names (x ∷ xs) → is_named names x ≡ true
covers_head names xs x c = c x (or_left (bytes_eq x x) (is_named xs x) ((bytes_eq-Decides x x).1 refl))

pub covers_tail : (names xs : List Text) (x : Text) → Covers names (x ∷ xs) → Covers names xs
covers_tail names xs x c w h = c w (or_right (bytes_eq w x) (is_named xs w) h)

-- the names of one of several things
pub covers_at : {X : Type 0} (f : X → List Text) (names : List Text) (xs : List X) (k : ℕ) (x : X)
    → Covers names (flat_map f xs) → slice_get xs k ≡ Some x → Covers names (f x)
covers_at f names [] k x c at = absurd (none-some x at)
covers_at f names (y ∷ ys) zero x c at =
    let is : y ≡ x = cc in
    subst (λ z. Covers names (f z)) is (covers_left names (f y) (flat_map f ys) c)
covers_at f names (y ∷ ys) (suc k) x c at = covers_at f names ys k x (covers_right names (f y) (flat_map f ys) c) at
