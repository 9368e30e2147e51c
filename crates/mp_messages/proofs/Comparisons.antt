-- What derived comparisons answer: true exactly at one value.
use Rattle.std.proofs.Common.{◌≡◌, ℕ, Bool, ◌&&◌, eqb, List, Option, Some, None, refl, ap, rules}
use Rattle.std.proofs.Math.Bool.{beq}
use Rattle.std.specs.Bool.{Decides}
use Rattle.std.specs.Cmp.{booleans_Decides, unsigned_Decides}
use Rattle.std.specs.Cmp.Lexicographic.{pointwise}
use Rattle.std.specs.Option.{option_eq}
use Rattle.std.proofs.lemmas.Bool.{false≢true}
use Rattle.std.proofs.lemmas.Bool.Decides.{Decides-and, Decides-like}
use Rattle.std.proofs.lemmas.Slice.Eq.{slice_eq-Decides}
use Rattle.mp_sets.specs.declared.tag.Tag.{Tag}
use Rattle.mp_messages.specs.declared.message.Findings.{Findings}
use Rattle.mp_messages.specs.declared.message.State.{State}
use Rattle.mp_messages.specs.declared.message.Message.{Message}
use Rattle.mp_messages.specs.Comparing.{findings_eq, message_eq, state_eq}

Decides-list : {A : Type 0} {E : A → A → Bool} → ((a b : A) → Decides (E a b) (a ≡ b)) → (xs ys : List A) → Decides (pointwise E xs ys) (xs ≡ ys)
Decides-list {A} {E} each xs ys = slice_eq-Decides each xs ys (pointwise E xs ys) refl

Decides-optional : (o p : Option ℕ) → Decides (option_eq eqb o p) (o ≡ p)
Decides-optional None None = (λ e. refl, λ e. refl)
Decides-optional None (Some n) = (λ e. absurd (false≢true e), λ e. absurd cc)
Decides-optional (Some m) None = (λ e. absurd (false≢true e), λ e. absurd cc)
Decides-optional (Some m) (Some n) = Decides-like (eqb m n) (ap Some) (λ e. cc) (unsigned_Decides m n)

Decides-tag : (s t : Tag) → Decides (eqb s.token t.token && beq s.met t.met) (s ≡ t)
Decides-tag s t =
    Decides-like _ (λ both j. record { token = both.0 j; met = both.1 j }) (λ e. (ap (λ (x : Tag). x.token) e, ap (λ (x : Tag). x.met) e))
    (Decides-and _ _ (unsigned_Decides s.token t.token) (booleans_Decides s.met t.met))

pub Decides-findings : (f g : Findings) → Decides (findings_eq f g) (f ≡ g)
Decides-findings f g =
    Decides-like _
    (λ all j. record { number = all.0 j; least = all.1.0 j; under_way = all.1.1.0 j; goal = all.1.1.1.0 j; spent = all.1.1.1.1 j })
    (λ e. (ap (λ (x : Findings). x.number) e, (ap (λ (x : Findings). x.least) e, (ap (λ (x : Findings). x.under_way) e, (ap (λ (x : Findings). x.goal) e, ap (λ (x : Findings). x.spent) e)))))
    (Decides-and _ _ (unsigned_Decides f.number g.number)
    (Decides-and _ _ (Decides-optional f.least g.least)
    (Decides-and _ _ (Decides-optional f.under_way g.under_way)
    (Decides-and _ _ (Decides-optional f.goal g.goal) (booleans_Decides f.spent g.spent)))))

pub Decides-state : (s t : State) → Decides (state_eq s t) (s ≡ t)
Decides-state s t =
    Decides-like _
    (λ all j. record { sent = all.0 j; g = all.1.0 j; h = all.1.1.0 j; facts = all.1.1.1.0 j; tags = all.1.1.1.1 j })
    (λ e. (ap (λ (x : State). x.sent) e, (ap (λ (x : State). x.g) e, (ap (λ (x : State). x.h) e, (ap (λ (x : State). x.facts) e, ap (λ (x : State). x.tags) e)))))
    (Decides-and _ _ (unsigned_Decides s.sent t.sent)
    (Decides-and _ _ (unsigned_Decides s.g t.g)
    (Decides-and _ _ (unsigned_Decides s.h t.h)
    (Decides-and _ _ (Decides-list unsigned_Decides s.facts t.facts) (Decides-list Decides-tag s.tags t.tags)))))

pub Decides-message : (m n : Message) → Decides (message_eq m n) (m ≡ n)
Decides-message = search (rules, Decides-state, Decides-findings)
