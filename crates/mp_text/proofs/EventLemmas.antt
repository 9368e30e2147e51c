-- The event that is read from the left is the event whose line it is.
use Rattle.std.proofs.Common.{◌≡◌, refl, sym, ap, ◌∙◌, subst, ℕ, ◌≤◌, Bool, true≢false, cond, [], ◌∷◌, ◌++◌, Option, Some, None, append-nil}
use Rattle.std.specs.Prelude.{codes, decimal}
use Rattle.std.specs.List.{find}
use Rattle.std.specs.Str.{bytes_eq}
use Rattle.std.proofs.lemmas.Option.{cond_some}
use Rattle.std.proofs.lemmas.Slice.Eq.{bytes_eq-Decides}
use Rattle.mp_messages.proofs.Taking.{bind_some}
use Rattle.mp_messages.specs.declared.history.Event.{Event}
use Rattle.mp_messages.specs.declared.history.Event.TheVariants.{Expand, Take, Start}
use Rattle.mp_text.specs.Lines.{Text}
use Rattle.mp_text.specs.Reading.{agent_at, at_end, event_at, expand_at, pair_at, byte_at, read_or, take_at, text_behind}
use Rattle.mp_text.specs.Schedule.{event_in, events_of}
use Rattle.mp_text.specs.Trace.{event_line}
use Rattle.mp_text.proofs.MemberLemmas.{found_member, none_passes}
use Rattle.mp_text.proofs.NumberLemmas.{agent_again, agent_read}
use Rattle.mp_text.proofs.PairLemmas.{IsPair, pair_again, pair_read, text_again, text_read}
use Rattle.mp_text.proofs.TeamLemmas.{IsOf, in_events, of_events}

-- an event of the team, and its line
pub record IsLine (agents : ℕ) (line : Text) (event : Event) : Type 0 where
  pub of : IsOf agents event
  pub is : event_line event ≡ line

ended : {A : Type 0} (x y : A) (rest : Text) → at_end x rest ≡ Some y → (rest ≡ []) × (x ≡ y)
ended x y [] e = (refl, cc)
ended x y (byte ∷ rest) e = absurd (cc)

expand_read : (agents : ℕ) (line rest : Text) (event : Event) → line ≡ codes "expand " ++ rest → expand_at agents rest ≡ Some event → IsLine agents line event
unfolding expand_at event_line
expand_read agents line rest event head e =
    let b = bind_some (agent_at agents rest) _ event e in
    let g = ended (Expand b.0.0) event b.0.1 b.2 in
    let read = agent_read agents rest b.0 b.1 in
    subst (IsLine agents line) g.1 (record {
      of = (read.some, read.few);
      is = sym (head ∙ ap (λ t. codes "expand " ++ t) (read.is ∙ ap (λ t. decimal b.0.0 ++ t) g.0 ∙ append-nil _));
    })

take_read : (agents : ℕ) (line rest : Text) (event : Event) → line ≡ codes "take " ++ rest → take_at agents rest ≡ Some event → IsLine agents line event
unfolding take_at event_line
take_read agents line rest event head e =
    let b = bind_some (pair_at agents 32 rest) _ event e in
    let g = ended (Take b.0.0.0 b.0.0.1) event b.0.1 b.2 in
    let read = pair_read agents 32 rest b.0 b.1 in
    subst (IsLine agents line) g.1 (record {
      of = read.pair;
      is = sym (head ∙ ap (λ t. codes "take " ++ t) (read.is ∙ ap (λ t. decimal b.0.0.0 ++ (32 ∷ (decimal b.0.0.1 ++ t))) g.0
          ∙ ap (λ t. decimal b.0.0.0 ++ (32 ∷ t)) (append-nil _)));
    })

start_read : (agents : ℕ) (line : Text) (event : Event) → cond (bytes_eq line (codes "start")) (Some Start) None ≡ Some event → IsLine agents line event
unfolding event_line
start_read agents line event e =
    let g = cond_some (bytes_eq line (codes "start")) Start event e in
    subst (IsLine agents line) g.1 (record { of = tt; is = sym ((bytes_eq-Decides line (codes "start")).0 g.0) })

-- what is read behind a head where the line has it, and otherwise this
read_cases : {P : Type 0} {A : Type 0} (head line : Text) (behind : Option Text) → text_behind head line ≡ behind
    → (read : Text → Option A) (otherwise : Option A) (x : A)
    → ((rest : Text) → line ≡ head ++ rest → read rest ≡ Some x → P) → (otherwise ≡ Some x → P)
    → read_or behind read otherwise ≡ Some x → P
read_cases head line None is read otherwise x here there e = there e
read_cases head line (Some rest) is read otherwise x here there e = here rest (text_read head line rest is) e

pub event_read : (agents : ℕ) (line : Text) (event : Event) → event_at agents line ≡ Some event → IsLine agents line event
unfolding event_at
event_read agents line event e =
    read_cases (codes "expand ") line (text_behind (codes "expand ") line) refl (expand_at agents) _ event (λ rest is h. expand_read agents line rest event is h)
    (λ k. read_cases (codes "take ") line (text_behind (codes "take ") line) refl (take_at agents) _ event (λ rest is h. take_read agents line rest event is h)
    (λ s. start_read agents line event s) k)
    e

expand_again : (agents agent : ℕ) → 1 ≤ agent → agent ≤ agents → agents ≤ 16 → expand_at agents (decimal agent) ≡ Some (Expand agent)
unfolding expand_at
expand_again agents agent some few team =
    let e : agent_at agents (decimal agent) ≡ Some (agent, []) = rw (append-nil (decimal agent)) at (agent_again agents agent [] some few team tt) in
    rw e refl

take_again : (agents by from : ℕ) → IsPair agents by from → agents ≤ 16 → take_at agents (decimal by ++ (32 ∷ decimal from)) ≡ Some (Take by from)
unfolding take_at
take_again agents by from p team =
    let e : pair_at agents 32 (decimal by ++ (32 ∷ decimal from)) ≡ Some ((by, from), []) =
    rw (append-nil (decimal from)) at (pair_again agents 32 by from [] p team refl tt) in
    rw e refl

no_expand : (rest : Text) → text_behind (codes "expand ") (116 ∷ rest) ≡ None
unfolding text_behind byte_at
no_expand rest = refl

start_again : (agents : ℕ) → event_at agents (codes "start") ≡ Some Start
unfolding event_at text_behind byte_at
start_again agents = refl

pub event_again : (agents : ℕ) (event : Event) → agents ≤ 16 → IsOf agents event → event_at agents (event_line event) ≡ Some event
unfolding event_at event_line
event_again agents (Expand agent) team h =
    rw (text_again (codes "expand ") (decimal agent)) (expand_again agents agent h.0 h.1 team)
event_again agents (Take by from) team h =
    rw (no_expand (codes "ake " ++ (decimal by ++ (codes " " ++ decimal from))), text_again (codes "take ") (decimal by ++ (codes " " ++ decimal from)))
    (take_again agents by from h team)
event_again agents Start team h = start_again agents

pub event_is : (agents : ℕ) (line : Text) → agents ≤ 16 → event_at agents line ≡ event_in agents line
event_is agents line team = by (find test (events_of agents)) refl (event_at agents line) refl
  where
    test : Event → Bool
    test event = bytes_eq (event_line event) line

    by : (found : Option Event) → find test (events_of agents) ≡ found → (read : Option Event) → event_at agents line ≡ read → read ≡ found
    by (Some event) is read reads =
        let m = found_member test (events_of agents) event is in
        let same : event_line event ≡ line = (bytes_eq-Decides (event_line event) line).0 m.1 in
        sym reads ∙ rw same at (event_again agents event team (of_events agents event m.0))
    by None is None reads = refl
    by None is (Some event) reads =
        let l = event_read agents line event reads in
        let no = none_passes test (events_of agents) event (in_events agents event l.of) is in
        absurd (true≢false (sym ((bytes_eq-Decides (event_line event) line).1 l.is) ∙ no))
