-- The lines of a step with one action more.
use Rattle.std.proofs.Common.{◌≡◌, sym, ap, ◌∙◌, ℕ, ◌+◌, ◌<◌, List, [], ◌∷◌, ◌++◌, length, take, slice_index_or, add-one, append_assoc}
use Rattle.std.specs.Option.{option_map}
use Rattle.std.proofs.Math.Seq.{take-suc}
use Rattle.std.proofs.lemmas.List.Elements.{filter_map-append}
use Rattle.std.proofs.lemmas.Grind.{flat_map-append}
use Rattle.mp_joint.specs.declared.plan.PlanStep.{PlanStep}
use Rattle.mp_steps.specs.Interference.{at_time}
use Rattle.mp_text.specs.Lines.{Text, text_of_lines}
use Rattle.mp_plans.specs.Packed.{action_line, action_lines}

pub actions_more : (plan : List PlanStep) (times : List ℕ) (i d : ℕ) (start before after : Text) → i < length times
    → before ≡ start ++ text_of_lines (action_lines plan (take i times))
    → after ≡ before ++ text_of_lines (action_lines plan (slice_index_or times i d ∷ []))
    → after ≡ start ++ text_of_lines (action_lines plan (take (i + 1) times))
actions_more plan times i d start before after lt known more =
    more ∙ ap (λ t. t ++ text_of_lines (action_lines plan (slice_index_or times i d ∷ []))) known
    ∙ append_assoc start _ _
    ∙ ap (λ t. start ++ t) (sym (rw (add-one, take-suc times i d lt, filter_map-append (λ (t : ℕ). option_map action_line (at_time plan t)) (take i times) (slice_index_or times i d ∷ []))
    (flat_map-append _ (action_lines plan (take i times)) (action_lines plan (slice_index_or times i d ∷ [])))))
