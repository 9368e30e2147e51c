-- A share with one action more, and its number.
use Rattle.std.proofs.Common.{◌≡◌, List, [], ◌∷◌, ◌++◌, length, Option, Some, None, All, Result, Ok, Err, refl, sym, ap, subst, ◌∙◌, arith, append-nil}
use Rattle.std.specs.Prelude.{slice_get, OnOk}
use Rattle.std.specs.List.{cons_option}
use Rattle.std.specs.Option.{option_map}
use Rattle.std.proofs.lemmas.List.{length-append}
use Rattle.std.proofs.lemmas.List.Elements.{All-push, All-weaker, filter_map-append}
use Rattle.mp_joint.specs.declared.plan.PlanStep.{PlanStep}
use Rattle.mp_trail.specs.declared.steps.Timed.{Timed}
use Rattle.mp_ground_laws.proofs.Lists.{given_same}
use Rattle.mp_text.specs.Outcome.{step_line, timed_line, share_lines}
use Rattle.mp_outcome.specs.Renumbered.{IsNamed, IsRenumbered}
use Rattle.mp_outcome.proofs.Pushed.{get_before, at_end}

-- the lines with one action more, by what its number stands for
lines_more : (own : List PlanStep) (share : List Timed) (timed : Timed) (o : Option PlanStep)
    → slice_get own timed.action ≡ o
    → share_lines own (share ++ timed ∷ [])
    ≡ share_lines own share ++ cons_option (option_map (step_line timed.time) o) []
lines_more own share timed o at =
    filter_map-append (timed_line own) share (timed ∷ [])
    ∙ ap (λ p. share_lines own share ++ cons_option (option_map (step_line timed.time) p) []) at

-- a name more changes no line of numbers that stand for earlier ones
kept_lines : (names more : List PlanStep) (other : List Timed) → All (IsNamed names) other
    → share_lines (names ++ more) other ≡ share_lines names other
kept_lines names more other named =
    given_same (IsNamed names) (timed_line (names ++ more)) (timed_line names) other named
    (λ timed inside. ap (option_map (step_line timed.time)) (get_before names more timed.action inside))

-- and leaves them the places of names
kept_named : (names : List PlanStep) (name : PlanStep) (other : List Timed) → All (IsNamed names) other
    → All (IsNamed (names ++ name ∷ [])) other
kept_named names name other named =
    All-weaker (IsNamed names) (IsNamed (names ++ name ∷ []))
    (λ timed inside. omega (arith, inside, length-append names (name ∷ []))) other named

-- an action whose number stands for nothing
pub none_added : (own : List PlanStep) (share : List Timed) (timed : Timed) (names : List PlanStep) (other : List Timed)
    → slice_get own timed.action ≡ None → IsRenumbered own share names other
    → IsRenumbered own (share ++ timed ∷ []) names other
none_added own share timed names other at before =
    record {
      named = before.named;
      lines = before.lines ∙ sym (lines_more own share timed None at ∙ append-nil (share_lines own share));
    }

-- an action whose number stands for a step: its name, and the place of this as its number
one_added : (own : List PlanStep) (share : List Timed) (timed new : Timed) (name : PlanStep)
    (names : List PlanStep) (other : List Timed)
    → slice_get own timed.action ≡ Some name → new.time ≡ timed.time → new.action ≡ length names
    → IsRenumbered own share names other
    → IsRenumbered own (share ++ timed ∷ []) (names ++ name ∷ []) (other ++ new ∷ [])
one_added own share timed new name names other at time action before =
    let lines : share_lines (names ++ name ∷ []) other ≡ share_lines own share =
    kept_lines names (name ∷ []) other before.named ∙ before.lines in
    record {
      named = All-push (IsNamed (names ++ name ∷ [])) other new (kept_named names name other before.named)
          (omega (arith, length-append names (name ∷ [])));
      lines =
          lines_more (names ++ name ∷ []) other new (Some name)
          (ap (slice_get (names ++ name ∷ [])) action ∙ at_end names name)
          ∙ (λ i. lines i ++ step_line (time i) name ∷ [])
          ∙ sym (lines_more own share timed (Some name) at);
    }

-- the same, where the last call may have failed
pub when_added : {T E : Type 0} (r : Result T E) (own : List PlanStep) (share : List Timed) (timed new : Timed)
    (name : PlanStep) (names more : List PlanStep) (other others : List Timed)
    → slice_get own timed.action ≡ Some name → new.time ≡ timed.time → new.action ≡ length names
    → more ≡ names ++ name ∷ [] → OnOk r (others ≡ other ++ new ∷ []) → IsRenumbered own share names other
    → OnOk r (IsRenumbered own (share ++ timed ∷ []) more others)
when_added (Ok v) own share timed new name names more other others at time action grown pushed before =
    subst (λ (ns : List PlanStep). IsRenumbered own (share ++ timed ∷ []) ns others) (sym grown)
    (subst (λ (ts : List Timed). IsRenumbered own (share ++ timed ∷ []) (names ++ name ∷ []) ts) (sym pushed)
    (one_added own share timed new name names other at time action before))
when_added (Err e) own share timed new name names more other others at time action grown pushed before = tt

-- no names, and no lines
pub no_lines : (own names : List PlanStep) (share other : List Timed) → own ≡ [] → names ≡ [] → other ≡ []
    → share_lines names other ≡ share_lines own share
no_lines own names share other no_own no_names no_other =
    (λ i. share_lines (no_names i) (no_other i))
    ∙ sym (ap (λ (ns : List PlanStep). share_lines ns share) no_own ∙ none share)
  where
    none : (s : List Timed) → share_lines [] s ≡ []
    none [] = refl
    none (t ∷ s) = none s
