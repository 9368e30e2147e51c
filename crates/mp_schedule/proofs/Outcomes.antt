-- What a team found, by its machines.
use Rattle.std.proofs.Common.{◌≡◌, true, not, Bool, List, [], ◌∷◌, map, refl, sym, ap, ◌∙◌}
use Rattle.std.specs.Prelude.{if◌then◌else◌, slice_get}
use Rattle.std.specs.List.{list_all}
use Rattle.std.specs.Option.{option_map_or}
use Rattle.mp_trail.specs.declared.steps.Timed.{Timed}
use Rattle.mp_machine.specs.AgentRecord.{AgentRecord, given_verdict, is_going}
use Rattle.mp_machine.specs.Machine.{AgentMachine}
use Rattle.mp_world.specs.declared.answer.Answer.{Answer}
use Rattle.mp_world.specs.declared.answer.Answer.TheVariants as answers
use Rattle.mp_world.specs.Answers.{answer_by, outcome_of}
use Rattle.mp_world.specs.RoundRobin.{is_over}
use Rattle.mp_world.specs.World.{World}

-- whether all of some agents have ended
abbrev pub are_over : List AgentRecord → Bool
are_over rs = list_all (λ r. not (is_going r.ending)) rs

-- what the first of some agents answers
abbrev answer_first : List AgentRecord → Answer
answer_first rs = option_map_or (λ r. answer_by r.ending (given_verdict r)) (slice_get rs 0) answers.Nothing

first_answer : (ms : List AgentMachine)
    → option_map_or (λ m. answer_by m.done.ending (given_verdict m.done)) (slice_get ms 0) answers.Nothing
    ≡ answer_first (map (λ m. m.done) ms)
first_answer [] = refl
first_answer (m ∷ ms) = refl

shares_again : (ms : List AgentMachine) → map (λ m. m.done.share) ms ≡ map (λ r. r.share) (map (λ m. m.done) ms)
shares_again [] = refl
shares_again (m ∷ ms) = ap (λ xs. m.done.share ∷ xs) (shares_again ms)

module _ (ms : List AgentMachine) (last : World) (same : last.agents ≡ map (λ m. m.done) ms) where
  pub over_if : (b : Bool) → are_over (map (λ m. m.done) ms) ≡ b → is_over last ≡ b
  over_if b is = ap are_over same ∙ is

  pub found_is : (answer : Answer) (shares : List (List Timed)) → are_over (map (λ m. m.done) ms) ≡ true
      → answer ≡ option_map_or (λ m. answer_by m.done.ending (given_verdict m.done)) (slice_get ms 0) answers.Nothing
      → shares ≡ map (λ m. m.done.share) ms
      → (is_over last ≡ true) × (record { answer = answer; shares = shares } ≡ outcome_of last)
  found_is answer shares ended answered shared =
      let over = over_if true ended in (
        over,
        λ i. record {
          answer =
              (answered ∙ first_answer ms ∙ ap answer_first (sym same)
              ∙ ap (λ b. if b then answer_first last.agents else answers.Nothing) (sym over)) i;
          shares = (shared ∙ shares_again ms ∙ ap (map (λ r. r.share)) (sym same)) i;
        },
      )
