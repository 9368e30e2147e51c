-- How the notes of a snapshot change, and when agent 1 knows of a plan.
use Rattle.std.proofs.Common.{◌≡◌, ◌≢◌, ℕ, ◌+◌, ◌-◌, ◌<◌, ◌≤◌, ◌^◌, Bool, true, false, cond, ◌&&◌, List, [], ◌∷◌, length, take, Option, Some, None, zero, suc, refl, sym, subst, ◌∙◌, arith}
use Rattle.std.specs.Prelude.{IfSome, nat_le, nat_lt, not, replicate, slice_index_or, slice_set, ◌==◌, ◌||◌, if◌then◌else◌}
use Rattle.std.proofs.lemmas.Bool.{and_parts, eq-eqb, eqb-true, false≢true}
use Rattle.std.proofs.lemmas.List.{get_or-set_other, get_or-set_same, get_or-take, length-replicate, length-take-le}
use Rattle.std.proofs.lemmas.List.Folds.{list_all_at}
use Rattle.mp_messages.specs.declared.message.Findings.{Findings}
use Rattle.mp_messages.specs.Spelling.{AreFindings}
use Rattle.mp_snapshot.specs.Minima.{lesser}
use Rattle.mp_snapshot.specs.Notes.{Notes}
use Rattle.mp_snapshot.specs.Rules.{after_marker, after_report, after_state, all_of, begun, has, is_complete, is_counted, is_strange_marker, is_strange_report, is_under_way, is_whole, noted, nothing, own, verdict, with_state}
use Rattle.mp_snapshot.specs.VerdictRule.{verdict_of}
use Rattle.mp_machine.specs.AgentRecord.{AgentRecord, given_verdict}
use Rattle.mp_machine.specs.Taking.{knows_of_no_plan}
use Rattle.mp_machine.specs.Verdicts.{is_proved}

-- ---- own findings

pub own_begun : (s : Notes) (number : ℕ) (mine : Findings) → 1 ≤ s.me → s.me ≤ 16 → own (begun s number mine) ≡ noted number mine
own_begun s number mine low high =
    get_or-set_same (replicate 16 nothing) (s.me - 1) (noted number mine) nothing (omega (arith, length-replicate 16 nothing))

pub own_fits_marked : (s : Notes) (from number : ℕ) (mine : Findings) → 1 ≤ s.me → s.me ≤ 16 → AreFindings (own s) → AreFindings (noted number mine)
    → AreFindings (own (after_marker s from number mine))
own_fits_marked s from number mine low high old new = by (is_under_way s)
  where
    by : (b : Bool) → AreFindings (own (cond b s (begun s number mine)))
    by true = old
    by false = subst AreFindings (sym (own_begun s number mine low high)) new

pub own_reported : (s : Notes) (from : ℕ) (found : Findings) → 1 ≤ s.me → 1 ≤ from → from ≢ s.me → own (after_report s from found) ≡ own s
own_reported s from found low one other =
    get_or-set_other s.found (from - 1) (s.me - 1) found nothing (λ same. other (omega arith))

lesser_small : (a b : Option ℕ) → IfSome a (λ n. n < 2 ^ 60) → IfSome b (λ n. n < 2 ^ 60) → IfSome (lesser a b) (λ n. n < 2 ^ 60)
lesser_small None b below_a below_b = below_b
lesser_small (Some a) None below_a below_b = below_a
lesser_small (Some a) (Some b) below_a below_b = by (nat_le a b)
  where
    by : (c : Bool) → IfSome (cond c (Some a) (Some b)) (λ n. n < 2 ^ 60)
    by true = below_a
    by false = below_b

set_or_not : (P : Findings → Type 0) (xs : List Findings) (i : ℕ) (new : Findings) → P new → P nothing → P (slice_index_or (slice_set xs i new) i nothing)
set_or_not P [] i new here none = none
set_or_not P (x ∷ xs) zero new here none = here
set_or_not P (x ∷ xs) (suc i) new here none = set_or_not P xs i new here none

nothing_fits : AreFindings nothing
nothing_fits = record { number = omega arith; least = tt; under_way = tt; goal = tt }

pub own_fits_state : (s : Notes) (from f : ℕ) → f < 2 ^ 60 → AreFindings (own s) → AreFindings (own (after_state s from f))
own_fits_state s from f small fits = by (is_counted s from)
  where
    counted : Findings
    counted = record (own s) { under_way = lesser (own s).under_way (Some f) }

    counted_fits : AreFindings counted
    counted_fits = record { number = fits.number; least = fits.least; under_way = lesser_small (own s).under_way (Some f) fits.under_way small; goal = fits.goal }

    by : (b : Bool) → AreFindings (own (cond b (with_state s f) s))
    by true = set_or_not AreFindings s.found (s.me - 1) counted counted_fits nothing_fits
    by false = fits

-- ---- what agent 1 knows

-- no verdict was given, so that no plan is proved
pub unknown_if_none : (r : AgentRecord) → r.task.me ≡ 1 → verdict r.snapshot ≡ None → knows_of_no_plan r ≡ true
unknown_if_none r first none =
    λ j. eq-eqb r.task.me 1 first j && not (is_proved (if eq-eqb r.task.me 1 first j then none j else None))

pub given_at_first : (r : AgentRecord) → r.task.me ≡ 1 → given_verdict r ≡ verdict r.snapshot
given_at_first r first = λ j. if eq-eqb r.task.me 1 first j then verdict r.snapshot else None

-- another agent is told of a plan by others
pub known_at_others : (r : AgentRecord) → r.task.me ≢ 1 → knows_of_no_plan r ≡ false
known_at_others r other = by (r.task.me == 1) refl
  where
    by : (b : Bool) → (r.task.me == 1) ≡ b → (b && not (is_proved (if b then verdict r.snapshot else None))) ≡ false
    by true is = absurd (other (eqb-true r.task.me 1 is))
    by false is = refl

pub trail_at_first : (r : AgentRecord) → (r.task.me ≡ 1 → r.trail ≡ []) → knows_of_no_plan r ≡ true → r.trail ≡ []
trail_at_first r empty unknown = empty (eqb-true r.task.me 1 (and_parts _ _ unknown).0)

-- ---- a snapshot that is under way has no verdict

incomplete : (s : Notes) → is_complete s ≡ false → verdict s ≡ None
incomplete s part = by (nat_lt 0 s.number)
  where
    by : (b : Bool) → cond (b && is_complete s) (Some (verdict_of (take s.agents s.found))) None ≡ None
    by true = λ j. cond (part j) (Some (verdict_of (take s.agents s.found))) None
    by false = refl

not_true : (b : Bool) → not b ≡ true → b ≡ false
not_true true h = sym h
not_true false h = refl

pub under_way_none : (s : Notes) → s.me ≡ 1 → is_under_way s ≡ true → verdict s ≡ None
under_way_none s first going =
    let parts = and_parts (nat_lt 0 s.number) _ going in
    incomplete s (not_true _ ((λ j. not (if sym (eq-eqb s.me 1 first) j then is_complete s else is_whole s)) ∙ parts.1))

-- a marker that is not strange comes to agent 1 while a snapshot is under way
pub marker_under_way : (s : Notes) (from number : ℕ) → s.me ≡ 1 → is_strange_marker s from number ≡ false → is_under_way s ≡ true
marker_under_way s from number first fair = by (is_under_way s) fair
  where
    by : (b : Bool) → cond b (not (number == s.number) || has s.marked from) ((s.me == 1) || not (number == s.number + 1)) ≡ false → b ≡ true
    by true h = refl
    by false h = absurd (false≢true (sym h ∙ (λ j. eq-eqb s.me 1 first j || not (number == s.number + 1))))

-- a report that is not strange comes to agent 1 while a snapshot is under way
pub report_fair : (s : Notes) (from : ℕ) (found : Findings) → is_strange_report s from found ≡ false → (s.me ≡ 1) × (is_under_way s ≡ true)
report_fair s from found fair = by (s.me == 1) (is_under_way s) refl refl fair
  where
    by : (a b : Bool) → (s.me == 1) ≡ a → is_under_way s ≡ b → (not a || not (b && (found.number == s.number)) || has s.reported from) ≡ false
        → (s.me ≡ 1) × (is_under_way s ≡ true)
    by true true is going h = (eqb-true s.me 1 is, going)
    by true false is going h = absurd (false≢true (sym h))
    by false b is going h = absurd (false≢true (sym h))

-- ---- a state leaves what agent 1 knows

-- a marker that is awaited keeps findings from being whole
not_whole : (s : Notes) (from : ℕ) → length s.marked ≡ 16 → s.agents ≤ 16 → 1 ≤ from → from ≤ s.agents → has s.marked from ≡ false → is_whole s ≡ false
not_whole s from len team low high awaited =
    list_all_at (λ b. b) (take s.agents s.marked) (from - 1) false (omega (arith, length-take-le s.agents s.marked (omega arith)))
    (get_or-take s.agents s.marked (from - 1) false (omega arith) ∙ awaited)

pub state_changes_nothing : (s : Notes) (from f : ℕ) → length s.marked ≡ 16 → s.agents ≤ 16 → 1 ≤ from → from ≤ s.agents
    → verdict s ≢ None → after_state s from f ≡ s
state_changes_nothing s from f len team low high some = by (is_counted s from) refl
  where
    by : (b : Bool) → is_counted s from ≡ b → cond b (with_state s f) s ≡ s
    by true counted =
        absurd (some (incomplete s
        (λ j. not_whole s from len team low high (not_true _ (and_parts (nat_lt 0 s.number) _ counted).1) j && all_of s s.reported)))
    by false counted = refl
