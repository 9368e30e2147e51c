-- Entries one after another, as a loop reads them.
use Rattle.std.proofs.Common.{◌≡◌, sym, ap, ◌∙◌, ℕ, ◌+◌, ◌≤◌, ◌==◌, false, true≢false, List, [], ◌∷◌, ◌++◌, length, None, All, append_assoc, append-nil, arith, inr}
use Rattle.std.proofs.lemmas.Option.{none-some}
use Rattle.mp_task.specs.AgentTask.{AgentTask}
use Rattle.mp_task.specs.Limits.{IsWithinLimits}
use Rattle.mp_audit.specs.declared.certificate.Bound.{Bound}
use Rattle.mp_text.specs.Lines.{Text}
use Rattle.mp_certificates.specs.Accepted.{HasNoCost, HasNoEntry, IsEntry, IsEntryRefused, IsLaterRefused, IsTextOf, Refuses, RefusesEntry}
use Rattle.mp_certificates.specs.Reading.{cost_at, entry_at}
use Rattle.mp_certificates.specs.Text.{cost_line, entries_text, entry_line}
use Rattle.mp_certificates.specs.declared.read.CertificateRefusal.{CertificateRefusal}
use Rattle.mp_certificates.specs.declared.read.CertificateRefusal.TheVariants.{Line, OutOfMemory}
use Rattle.mp_certificates.proofs.LineLemmas.{IsCostRead, cost_again, ended, entry_again}

-- one entry more
entries_push : (entries : List Bound) (b : Bound) (later : Text)
    → entries_text (entries ++ b ∷ []) ++ later ≡ entries_text entries ++ (ended (entry_line b) ++ later)
entries_push [] b later = ap (λ (t : Text). t ++ later) (append-nil (ended (entry_line b)))
entries_push (first ∷ others) b later =
    let line : Text = ended (entry_line first) in
    append_assoc line (entries_text (others ++ b ∷ [])) later
    ∙ ap (λ (t : Text). line ++ t) (entries_push others b later)
    ∙ sym (append_assoc line (entries_text others) (ended (entry_line b) ++ later))

pub entries_more : (entries : List Bound) (b : Bound) (text rest later : Text)
    → text ≡ entries_text entries ++ rest → rest ≡ ended (entry_line b) ++ later
    → text ≡ entries_text (entries ++ b ∷ []) ++ later
entries_more entries b text rest later before more =
    before ∙ ap (λ (t : Text). entries_text entries ++ t) more ∙ sym (entries_push entries b later)

-- where no entry is read, none stands
no_entry : (tasks : List AgentTask) (text : Text) → length tasks ≤ 16 → All IsWithinLimits tasks → entry_at tasks text ≡ None
    → HasNoEntry tasks text
no_entry tasks text few limits none b later entry is =
    none-some (b, later) (sym none ∙ ap (entry_at tasks) is ∙ entry_again tasks b later few limits entry)

-- a text that is not empty
pub filled : (text : Text) → (length text == 0) ≡ false → 1 ≤ length text
filled [] some = absurd (true≢false some)
filled (byte ∷ text) some = omega arith

some_left : (text : Text) → 1 ≤ length text → text ≡ [] → ⊥
some_left text some none = let e = ap (λ (t : Text). length t) none in omega (arith, some, e)

pub entry_refused : (tasks : List AgentTask) (entries : List Bound) (text rest : Text) (number : ℕ) → length tasks ≤ 16
    → All IsWithinLimits tasks → All (IsEntry tasks) entries → text ≡ entries_text entries ++ rest → 1 ≤ length rest
    → entry_at tasks rest ≡ None → number ≡ length entries + 2
    → IsEntryRefused tasks text number
entry_refused tasks entries text rest number few limits are is some none numbered = record {
  entries = entries;
  are = are;
  left = rest;
  is = is;
  some = some_left rest some;
  none = no_entry tasks rest few limits none;
  is_number = numbered;
}

-- where no cost is read, none stands
pub no_cost : (text : Text) → cost_at text ≡ None → HasNoCost text
no_cost text none cost later small is =
    none-some (cost, later) (sym none ∙ ap cost_at is ∙ cost_again cost later small)

-- what is refused behind the cost is refused
pub later_refused : (tasks : List AgentTask) (text : Text) (x : ℕ × Text) (refusal : CertificateRefusal) → IsCostRead text x
    → RefusesEntry tasks x.1 refusal → Refuses tasks text refusal
later_refused tasks text x (Line number) read refused =
    let later : IsLaterRefused tasks text number =
    record { cost = x.0; small = read.small; behind = x.1; is = read.is; refused = refused } in
    inr later
later_refused tasks text x OutOfMemory read refused = tt

-- entries behind a cost are those of a certificate
pub text_of : (tasks : List AgentTask) (text : Text) (x : ℕ × Text) (bounds : List Bound) → IsCostRead text x
    → x.1 ≡ entries_text bounds → All (IsEntry tasks) bounds
    → IsTextOf tasks (record { cost = x.0; bounds = bounds }) text
text_of tasks text x bounds read is are = record {
  is = read.is ∙ ap (λ (t : Text). ended (cost_line x.0) ++ t) is;
  certificate_fits = record {
    formed = λ k d within. (are k d within).formed;
    agents = λ k d within. (are k d within).agent;
    fits = record { cost = read.small; bounds = λ k d within. (are k d within).fits };
  };
}
