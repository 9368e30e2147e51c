-- The line of a step is read as this step at this time, and no other line of a plan is the line of a step.
use Rattle.std.proofs.Common.{◌≡◌, refl, sym, ap, ◌∙◌, ℕ, ◌-◌, ◌^◌, ◌<◌, ◌≤◌, ◌==◌, true, false, true≢false, List, [], ◌∷◌, ◌++◌, length, Some, None, append_assoc, append-nil, arith}
use Rattle.std.specs.Prelude.{codes, decimal}
use Rattle.std.specs.List.{flat_map, list_all, slice_split}
use Rattle.std.proofs.Math.Seq.{take-append_seam, drop-append_seam}
use Rattle.std.proofs.lemmas.Bool.{and_from, and_parts, le-leb, lt-ltb, ne_eqb}
use Rattle.std.proofs.lemmas.List.{length-append}
use Rattle.mp_forms.specs.Kinds.{is_name}
use Rattle.mp_forms.specs.Words.{begins_with_letter, is_digit, is_name_byte}
use Rattle.mp_joint.specs.declared.plan.PlanStep.{PlanStep}
use Rattle.mp_text.specs.Lines.{Text}
use Rattle.mp_text.specs.Outcome.{step_line}
use Rattle.mp_text.specs.Reading.{is_within_line}
use Rattle.mp_text.proofs.PlainLemmas.{IsPlain, plain_append}
use Rattle.mp_plans.specs.Fields.{before, number_at, numeral_at}
use Rattle.mp_plans.specs.Lines.{fields_between, step_between, step_fields, step_of}
use Rattle.mp_plans.specs.Names.{is_blank}
use Rattle.mp_plans.proofs.WrittenLines.{ended}
use Rattle.mp_plans.proofs.WrittenNumbers.{number_first, plain_number}

-- ---- names

other_byte : (byte other : ℕ) → is_name_byte byte ≡ true → is_name_byte other ≡ false → (byte == other) ≡ false
other_byte byte other h none =
    ne_eqb byte other (λ e. true≢false (sym h ∙ ap is_name_byte e ∙ none))

no_blank : (byte : ℕ) → is_name_byte byte ≡ true → is_blank byte ≡ false
no_blank byte h = other_byte byte 32 h refl

plain_byte : (byte : ℕ) → is_name_byte byte ≡ true → is_within_line byte ≡ true
plain_byte byte h = let no = other_byte byte 10 h refl in rw no refl

plain_word : (word : Text) → list_all is_name_byte word ≡ true → IsPlain word
plain_word [] h = refl
plain_word (byte ∷ word) h =
    let p = and_parts (is_name_byte byte) (list_all is_name_byte word) h in
    and_from (is_within_line byte) (list_all is_within_line word) (plain_byte byte p.0) (plain_word word p.1)

name_bytes : (word : Text) → is_name word ≡ true → list_all is_name_byte word ≡ true
unfolding is_name
name_bytes word h = (and_parts (begins_with_letter word) (list_all is_name_byte word) h).1

pub plain_name : (word : Text) → is_name word ≡ true → IsPlain word
plain_name word h = plain_word word (name_bytes word h)

-- names behind a name, each after a blank
abbrev pub spaced : List Text → Text
spaced args = flat_map (λ arg. 32 ∷ arg) args

pub plain_spaced : (args : List Text) → list_all is_name args ≡ true → IsPlain (spaced args)
plain_spaced [] h = refl
plain_spaced (arg ∷ args) h =
    let p = and_parts (is_name arg) (list_all is_name args) h in
    plain_append (32 ∷ arg) (spaced args) (plain_append (32 ∷ []) arg refl (plain_name arg p.0)) (plain_spaced args p.1)

last_word : (word : Text) → list_all is_name_byte word ≡ true → slice_split is_blank word ≡ word ∷ []
last_word [] h = refl
last_word (byte ∷ word) h =
    let p = and_parts (is_name_byte byte) (list_all is_name_byte word) h in
    rw (no_blank byte p.0, last_word word p.1) refl

first_word : (word rest : Text) → list_all is_name_byte word ≡ true
    → slice_split is_blank (word ++ 32 ∷ rest) ≡ word ∷ slice_split is_blank rest
first_word [] rest h = refl
first_word (byte ∷ word) rest h =
    let p = and_parts (is_name_byte byte) (list_all is_name_byte word) h in
    rw (no_blank byte p.0, first_word word rest p.1) refl

-- names with blanks between them are these names
words_again : (word : Text) (args : List Text) → is_name word ≡ true → list_all is_name args ≡ true
    → slice_split is_blank (word ++ spaced args) ≡ word ∷ args
words_again word [] h names = rw (append-nil word) (last_word word (name_bytes word h))
words_again word (arg ∷ args) h names =
    let p = and_parts (is_name arg) (list_all is_name args) names in
    first_word word (arg ++ spaced args) (name_bytes word h) ∙ ap (λ ws. word ∷ ws) (words_again arg args p.0 p.1)

step_again : (step : PlanStep) → is_name step.action ≡ true → list_all is_name step.args ≡ true
    → step_of step.agent (step.action ++ spaced step.args) ≡ Some step
unfolding step_of
step_again step action args = rw (words_again step.action step.args action args, action, args) refl

-- ---- the line of a step

before_end : (names : Text) → before (codes ")\n") (names ++ codes ")\n") ≡ Some names
before_end names =
    let size : length (names ++ codes ")\n") - 2 ≡ length names = omega (arith, length-append names (codes ")\n")) in
    rw (size, drop-append_seam names (codes ")\n"), take-append_seam names (codes ")\n")) refl

parts : (time label action args end feed : Text)
    → (time ++ (label ++ (action ++ (args ++ end)))) ++ feed ≡ time ++ (label ++ ((action ++ args) ++ (end ++ feed)))
parts time label action args end feed = simp append_assoc refl

fields_again : (time : ℕ) (step : PlanStep) → time < 2 ^ 60
    → step_fields (ended (step_line time step)) ≡ Some (time, step.action ++ spaced step.args)
unfolding step_fields
fields_again time step small =
    rw (
      parts (decimal time) (codes ": (") step.action (spaced step.args) (codes ")") (10 ∷ []),
      number_first time (codes ": (" ++ ((step.action ++ spaced step.args) ++ codes ")\n")) small refl,
      before_end (step.action ++ spaced step.args),
    ) refl

pub step_line_again : (last most time : ℕ) (step : PlanStep) → is_name step.action ≡ true → list_all is_name step.args ≡ true
    → time < 2 ^ 60 → last < time → time ≤ most
    → step_between step.agent last most (ended (step_line time step)) ≡ Some (record { time = time; step = step })
unfolding step_between fields_between
step_line_again last most time step action args small behind within =
    rw (fields_again time step small, lt-ltb last time behind, le-leb time most within, step_again step action args) refl

pub plain_step : (time : ℕ) (step : PlanStep) → is_name step.action ≡ true → list_all is_name step.args ≡ true
    → time < 10 ^ 64 → IsPlain (step_line time step)
plain_step time step action args small =
    plain_append (decimal time) (codes ": (" ++ (step.action ++ (spaced step.args ++ codes ")"))) (plain_number time small)
    (plain_append (codes ": (") (step.action ++ (spaced step.args ++ codes ")")) refl
    (plain_append step.action (spaced step.args ++ codes ")") (plain_name step.action action)
    (plain_append (spaced step.args) (codes ")") (plain_spaced step.args args) refl)))

-- a line that begins with no digit is not the line of a step
pub no_step_line : (agent last most byte : ℕ) (line : Text) → is_digit byte ≡ false
    → step_between agent last most (byte ∷ line) ≡ None
unfolding step_between fields_between step_fields number_at numeral_at
no_step_line agent last most byte line h = rw h refl
