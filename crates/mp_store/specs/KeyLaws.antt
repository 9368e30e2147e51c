-- Keys are equal exactly where they are one value.
use Rattle.std.proofs.Common.{◌≡◌, Bool, ◌&&◌, eqb, List, refl, ap}
use Rattle.std.proofs.Math.Bool.{beq}
use Rattle.std.specs.Bool.{Decides}
use Rattle.std.specs.Cmp.{booleans_Decides, unsigned_Decides}
use Rattle.std.specs.Cmp.Lexicographic.{pointwise}
use Rattle.std.proofs.lemmas.Bool.Decides.{Decides-and, Decides-like}
use Rattle.std.proofs.lemmas.Slice.Eq.{slice_eq-Decides}
use Rattle.mp_sets.specs.declared.tag.Tag.{Tag}
use Rattle.mp_sets.proofs.ComparedLemmas.{Decides-sized_eq}
use Rattle.mp_store.specs.declared.key.Key.{Key}
use Rattle.mp_store.specs.Keys.{same_key}

pub Decides-list : {A : Type 0} {E : A → A → Bool} → ((a b : A) → Decides (E a b) (a ≡ b)) → (xs ys : List A) → Decides (pointwise E xs ys) (xs ≡ ys)
Decides-list {A} {E} each xs ys = slice_eq-Decides each xs ys (pointwise E xs ys) refl

pub Decides-tag : (s t : Tag) → Decides (eqb s.token t.token && beq s.met t.met) (s ≡ t)
Decides-tag s t =
    Decides-like _ (λ both j. record { token = both.0 j; met = both.1 j }) (λ e. (ap (λ (x : Tag). x.token) e, ap (λ (x : Tag). x.met) e))
    (Decides-and _ _ (unsigned_Decides s.token t.token) (booleans_Decides s.met t.met))

pub Decides-key : (a b : Key) → Decides (same_key a b) (a ≡ b)
Decides-key a b =
    Decides-like _
    (λ all j. record { publics = all.0 j; mine = all.1.0 j; tags = all.1.1 j })
    (λ e. (ap (λ (x : Key). x.publics) e, (ap (λ (x : Key). x.mine) e, ap (λ (x : Key). x.tags) e)))
    (Decides-and _ _ (Decides-sized_eq a.publics b.publics)
    (Decides-and _ _ (unsigned_Decides a.mine b.mine) (Decides-list Decides-tag a.tags b.tags)))
