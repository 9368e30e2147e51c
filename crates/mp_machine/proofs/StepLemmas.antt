-- Steps that are made of others.
use Rattle.std.proofs.Common.{◌≡◌, ℕ, ◌+◌, ◌<◌, ◌^◌, Bool, true, false, ◌&&◌, List, [], ◌∷◌, length, Option, Some, None, refl, sym, ap, arith}
use Rattle.std.specs.Prelude.{not, nat_lt, ◌==◌, if◌then◌else◌}
use Rattle.std.specs.List.{list_all}
use Rattle.std.specs.Option.{option_map_or}
use Rattle.std.proofs.Math.Dec.{eqb-suc-zero}
use Rattle.std.proofs.lemmas.Bool.{and_parts, eq-eqb, eqb-true, ltb-true}
use Rattle.std.proofs.lemmas.List.{append-nil}
use Rattle.mp_messages.specs.declared.message.Message.TheVariants.{Marker}
use Rattle.mp_search.specs.Search.{AgentSearch}
use Rattle.mp_snapshot.specs.declared.verdict.Verdict.{Verdict}
use Rattle.mp_snapshot.specs.declared.verdict.Verdict.TheVariants.{Proved, NoPlan, Spent, Continue}
use Rattle.mp_snapshot.specs.Rules.{after_marker, is_under_way}
use Rattle.mp_trail.specs.declared.steps.Noted.{Noted}
use Rattle.mp_trail.specs.Share.{fits}
use Rattle.mp_machine.specs.declared.member.Member.{Member}
use Rattle.mp_machine.specs.declared.outgoing.Out.{Out}
use Rattle.mp_machine.specs.declared.refusal.BadKind.{BadKind}
use Rattle.mp_machine.specs.AgentRecord.{AgentRecord, given_verdict}
use Rattle.mp_machine.specs.LocalStep.{may_start}
use Rattle.mp_machine.specs.MemberFields.{HasStepped, HasTaken, record_of}
use Rattle.mp_machine.specs.Outgoing.{Step, after_sending, to_others, without_messages}
use Rattle.mp_machine.specs.Snapshots.{by_verdict, found_by, judged, judged_or_reported, marked, with_notes}
use Rattle.mp_machine.specs.Taking.{knows_of_no_plan, unless_bad}
use Rattle.mp_machine.specs.Verdicts.{is_deciding, is_proved}

-- nothing goes out
pub nothing_out : (r : AgentRecord) (outs : List Out) → HasStepped (without_messages r) outs outs r
nothing_out r outs = record { out = sym (append-nil outs); after = refl }

-- ---- verdicts

pub judged_given : (r : AgentRecord) (v : Verdict) → given_verdict r ≡ Some v → by_verdict r v ≡ judged r
unfolding judged
judged_given r v is = ap (λ (o : Option Verdict). option_map_or (by_verdict r) o (without_messages r)) (sym is)

pub judged_none : (r : AgentRecord) → given_verdict r ≡ None → without_messages r ≡ judged r
unfolding judged
judged_none r is = ap (λ (o : Option Verdict). option_map_or (by_verdict r) o (without_messages r)) (sym is)

-- ---- a start

pub record MayStart (r : AgentRecord) : Type 0 where
  pub first : r.task.me ≡ 1
  pub free : is_under_way r.snapshot ≡ false
  pub undecided : is_deciding (given_verdict r) ≡ false
  pub room : r.snapshot.number + 1 < 2 ^ 60

not_false : (b : Bool) → not b ≡ true → b ≡ false
not_false true h = sym h
not_false false h = refl

pub start_parts : (r : AgentRecord) → may_start r ≡ true → MayStart r
start_parts r may =
    let room = and_parts _ _ may in
    let undecided = and_parts _ _ room.0 in
    let free = and_parts _ _ undecided.0 in
    let first = and_parts _ _ free.0 in
    record {
      first = eqb-true r.task.me 1 first.0;
      free = not_false _ free.1;
      undecided = not_false _ undecided.1;
      room = ltb-true (r.snapshot.number + 1) (2 ^ 60) room.1;
    }

unproved : (o : Option Verdict) → is_deciding o ≡ false → is_proved o ≡ false
unproved None h = refl
unproved (Some (Proved agent cost)) h = h
unproved (Some NoPlan) h = refl
unproved (Some (Spent agent)) h = refl
unproved (Some Continue) h = refl

-- before a start agent 1 knows of no plan
pub start_unknown : (r : AgentRecord) → MayStart r → knows_of_no_plan r ≡ true
start_unknown r may = λ j. eq-eqb r.task.me 1 may.first j && not (unproved (given_verdict r) may.undecided j)

-- ---- messages that are bad ones or not

pub not_bad : (b : Bool) (kind : BadKind) (s : Step) (old new : List Out) (r : AgentRecord) → b ≡ false → HasStepped s old new r
    → HasTaken (unless_bad b kind s) old new r
not_bad true kind s old new r is stepped = absurd (let impossible : ⊥ = cc in impossible)
not_bad false kind s old new r is stepped = stepped

-- a marker of the snapshot that is under way
pub marked_on : (s : AgentSearch) (m : Member) (from number : ℕ) → is_under_way m.snapshot ≡ true
    → judged_or_reported (record_of s (record m { snapshot = after_marker m.snapshot from number (found_by s.limit s.done) })) ≡ marked (record_of s m) from number
marked_on s m from number on =
    let notes = after_marker m.snapshot from number (found_by s.limit s.done) in
    λ j.
    if sym on j
    then judged_or_reported (record_of s (record m { snapshot = notes }))
    else after_sending (to_others s.task (Marker number)) (judged_or_reported (with_notes notes (record_of s m)))

-- ---- tests

-- what nothing comes after is nothing
pub fits_none : (xs : List Noted) → fits 0 xs ≡ (length xs == 0)
fits_none [] = refl
fits_none (x ∷ xs) = by (nat_lt x.back 0) refl
  where
    by : (b : Bool) → nat_lt x.back 0 ≡ b → (b && list_all (λ n. nat_lt n.back 0) xs) ≡ (length (x ∷ xs) == 0)
    by true is = absurd (let below : x.back < 0 = ltb-true x.back 0 is in let impossible : ⊥ = omega arith in impossible)
    by false is = sym (eqb-suc-zero (length xs))

pub false_if_not : (b : Bool) → (b ≡ true → ⊥) → b ≡ false
false_if_not true never = absurd (never refl)
false_if_not false never = refl

pub true_if_not : (b : Bool) → not b ≡ false → b ≡ true
true_if_not true h = refl
true_if_not false h = sym h
