-- The order of facts, and which facts are the same.
use Rattle.mp_ground_facts.proofs.Basics.{◌≡◌, Bool, List, refl, ap, ◌∙◌, Decides, IsTotalOrder, IsAntisymmetric, eq_by_cmp, GroundFact, fact_cmp, same_fact}
use Rattle.std.specs.Cmp.{booleans_Decides, unsigned_Decides, Equal-is}
use Rattle.std.specs.Cmp.Lexicographic.{pointwise}
use Rattle.std.proofs.lemmas.Bool.Decides.{Decides-and, Decides-like}
use Rattle.std.proofs.lemmas.Slice.Eq.{slice_eq-Decides}
use Rattle.mp_ground_facts.specs.contracts.fact.GroundFactOrd.TheImpl.Laws as ordered

Decides-list : {A : Type 0} {E : A → A → Bool} → ((a b : A) → Decides (E a b) (a ≡ b)) → (xs ys : List A) → Decides (pointwise E xs ys) (xs ≡ ys)
Decides-list {A} {E} each xs ys = slice_eq-Decides each xs ys (pointwise E xs ys) refl

pub Decides-same_fact : (f g : GroundFact) → Decides (same_fact f g) (f ≡ g)
Decides-same_fact f g =
    Decides-like _
    (λ all j. record { is_public = all.0 j; is_complement = all.1.0 j; predicate = all.1.1.0 j; objects = all.1.1.1 j })
    (λ e. (ap (λ (x : GroundFact). x.is_public) e, (ap (λ (x : GroundFact). x.is_complement) e, (ap (λ (x : GroundFact). x.predicate) e, ap (λ (x : GroundFact). x.objects) e))))
    (Decides-and _ _ (booleans_Decides f.is_public g.is_public)
    (Decides-and _ _ (booleans_Decides f.is_complement g.is_complement)
    (Decides-and _ _ (unsigned_Decides f.predicate g.predicate) (Decides-list unsigned_Decides f.objects g.objects))))

pub fact_total : IsTotalOrder fact_cmp
fact_total = ordered.total-law

pub fact_ties : (f g : GroundFact) → same_fact f g ≡ eq_by_cmp fact_cmp f g
fact_ties f g = ordered.matches_eq-law f g

pub fact_antisymmetric : IsAntisymmetric fact_cmp
fact_antisymmetric f g e = (Decides-same_fact f g).0 (fact_ties f g ∙ (Equal-is (fact_cmp f g)).1 e)
