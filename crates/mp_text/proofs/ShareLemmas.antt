-- A share with one action more.
use Rattle.std.proofs.Common.{◌≡◌, sym, ap, ◌∙◌, ℕ, ◌+◌, ◌<◌, List, [], ◌∷◌, ◌++◌, length, take, slice_index_or, add-one, append_assoc}
use Rattle.std.proofs.Math.Seq.{take-suc}
use Rattle.std.proofs.lemmas.List.Elements.{filter_map-append}
use Rattle.std.proofs.lemmas.Grind.{flat_map-append}
use Rattle.mp_joint.specs.declared.plan.PlanStep.{PlanStep}
use Rattle.mp_trail.specs.declared.steps.Timed.{Timed}
use Rattle.mp_text.specs.Lines.{Text, text_of_lines}
use Rattle.mp_text.specs.Outcome.{share_lines, timed_line}

pub share_more : (own : List PlanStep) (share : List Timed) (i : ℕ) (d : Timed) (start before after : Text) → i < length share
    → before ≡ start ++ text_of_lines (share_lines own (take i share))
    → after ≡ before ++ text_of_lines (share_lines own (slice_index_or share i d ∷ []))
    → after ≡ start ++ text_of_lines (share_lines own (take (i + 1) share))
share_more own share i d start before after lt known more =
    more ∙ ap (λ t. t ++ text_of_lines (share_lines own (slice_index_or share i d ∷ []))) known
    ∙ append_assoc start _ _
    ∙ ap (λ t. start ++ t) (sym (rw (add-one, take-suc share i d lt, filter_map-append (timed_line own) (take i share) (slice_index_or share i d ∷ []))
    (flat_map-append _ (share_lines own (take i share)) (share_lines own (slice_index_or share i d ∷ [])))))
