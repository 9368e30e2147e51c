-- Where nothing of the files is refused and no fault was counted, a call answers.
use Rattle.std.proofs.Common.{◌≡◌, ◌≤◌, ◌⊎◌, inl, inr, ℕ, take, Some, None, Err, refl, subst, arith, ◌∙◌}
use Rattle.std.specs.Prelude.{IsSomeAnd, slice_get}
use Rattle.mp_files.specs.Cause.{SeenSource}
use Rattle.mp_files.specs.Team.{ReadsTeam}
use Rattle.mp_files.specs.declared.refusal.FileOf.{FileOf}
use Rattle.mp_files.specs.declared.refusal.Refusal.TheVariants as why
use Rattle.mp_grounder.specs.declared.refusal.GroundRefusal.TheVariants as sizes
use Rattle.mp_outside.specs.Acts.{FileAsked}
use Rattle.mp_outside.specs.Source.{Files as Held}
use Rattle.mp_words.specs.Requests.{Wanted, request_of}
use Rattle.mp_top.specs.Asked.{TeamRequest, Texts, team_request}
use Rattle.mp_top.specs.Asked.Texts.{in_files, made}
use Rattle.mp_top.specs.Call.{Call}
use Rattle.mp_top.specs.Cause.{CannotReadFactor, CannotReadFirst, CannotReadTexts, Rests}
use Rattle.mp_top.specs.Complete.{HadNoFault, IsAnswered, IsNotRefused}
use Rattle.mp_top.specs.First.{ComesFirst}
use Rattle.mp_top.specs.FirstText.{HaveTexts}
use Rattle.mp_top.specs.Keeps.{FailsToPrint, IsRefusal, Keeps, PrintsOutcome}
use Rattle.mp_top.specs.Refusal.{status_of}
use Rattle.mp_top.specs.Team.{IsTextRefused}
use Rattle.mp_top.specs.declared.refusal.Refusal.{Refusal}
use Rattle.mp_top.specs.declared.refusal.Refusal.TheVariants.{Files, First, Sizes}
use Rattle.mp_top.specs.declared.refusal.FirstRefusal.TheVariants as first
use Rattle.mp_top.specs.declared.status.Status.TheVariants as status
use Rattle.mp_top.proofs.Ends.{ends_for, outcome_status}

module _ (source : SeenSource) (held : Held) (request : TeamRequest) (tells : source.held ≡ Some held)
    (none : IsNotRefused held request) (calm : source.now ≤ source.before) where
  not_first : (r : Refusal) → ComesFirst source.held request r → ⊥
  not_first r comes = none r (subst (λ h. ComesFirst h request r) tells comes)

  absent : (place : ℕ) (file : FileAsked) → slice_get request.first place ≡ Some file → HaveTexts source.held (take place request.first)
      → IsSomeAnd source.held (λ files. files file.name ≡ None) → ⊥
  absent place file asked before lacks =
      none (First place first.Read) (record {
        file = file;
        asked = asked;
        before = subst (λ h. HaveTexts h (take place request.first)) tells before;
        absent = subst (λ h. IsSomeAnd h (λ files. files file.name ≡ None)) tells lacks;
      })

  first_read : (place : ℕ) → CannotReadFirst source request place → ⊥
  first_read place cannot =
      elim cannot.because [
        | inl lacks ↦ absent place cannot.file cannot.asked cannot.before lacks
        | inr fault ↦ absurd (omega (arith, fault.0, calm))
      ]

  texts_read : (texts : Texts) (at : FileOf) → CannotReadTexts source texts at → IsTextRefused (Some held) texts (why.Read at)
  texts_read (in_files names) at cannot =
      elim cannot.because [
        | inl refused ↦ subst (λ h. IsSomeAnd h (λ files. ReadsTeam files names (Err (why.Read at)))) tells refused
        | inr fault ↦ absurd (omega (arith, fault.count, calm))
      ]
  texts_read (made names texts) at cannot = absurd cannot

  factor_read : (at : FileOf) → CannotReadFactor source request at → ⊥
  factor_read at cannot =
      none (Files (why.Read at)) (record {
        first_texts = subst (λ h. HaveTexts h request.first) tells cannot.first_texts;
        first = texts_read request.texts at cannot.cannot;
      })

  -- a refusal that has its cause is want of memory
  memory_alone : (r : Refusal) → Rests source request r → status_of r ≡ status.Memory
  memory_alone (Files (why.Read at)) rests = absurd (factor_read at rests)
  memory_alone (Files (why.TooLarge at)) rests = absurd (not_first (Files (why.TooLarge at)) rests)
  memory_alone (Files (why.Fault at kind place)) rests = absurd (not_first (Files (why.Fault at kind place)) rests)
  memory_alone (Files why.OutOfMemory) rests = refl
  memory_alone (Sizes (sizes.TooManyTries agent)) rests = absurd (not_first (Sizes (sizes.TooManyTries agent)) rests)
  memory_alone (Sizes (sizes.TooManyActions agent number)) rests = absurd (not_first (Sizes (sizes.TooManyActions agent number)) rests)
  memory_alone (Sizes (sizes.TooManyFacts agent number)) rests = absurd (not_first (Sizes (sizes.TooManyFacts agent number)) rests)
  memory_alone (Sizes sizes.OutOfMemory) rests = refl
  memory_alone (First place first.Read) rests = absurd (first_read place rests)
  memory_alone (First place first.TooLarge) rests = absurd (not_first (First place first.TooLarge) rests)
  memory_alone (First place (first.Line number)) rests = absurd (not_first (First place (first.Line number)) rests)

by_end : (call : Call) (held : Held) (request : Wanted) → call.source.held ≡ Some held → IsNotRefused held (team_request request) → HadNoFault call → PrintsOutcome call request ⊎ FailsToPrint call request ⊎ IsRefusal call request → IsAnswered request call
by_end call held request tells none calm (inl (text, outcome, whole, same, says)) =
    inl (outcome_status call.source.held request call.report call.status text outcome)
by_end call held request tells none calm (inr (inl (text, ended, outcome, begun, risen, is, says))) =
    let most = calm.out in absurd (omega (arith, risen, most))
by_end call held request tells none calm (inr (inr (_, (r, rests, is, says)))) =
    inr (is ∙ memory_alone call.source held (team_request request) tells none calm.source r rests)

pub answered : (call : Call) (files : Held) (request : Wanted) → Keeps call → call.source.held ≡ Some files → request_of call.words ≡ Some request → IsNotRefused files (team_request request) → HadNoFault call → IsAnswered request call
answered call files request keeps tells asked none calm =
    by_end call files request tells none calm (ends_for call request asked keeps)
