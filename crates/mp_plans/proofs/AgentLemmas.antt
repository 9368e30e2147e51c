-- The steps of one agent more.
use Rattle.std.proofs.Common.{◌≡◌, refl, sym, ap, ◌∙◌, ℕ, suc, ◌+◌, ◌-◌, ◌<◌, true, false, List, ◌∷◌, ◌++◌, length, drop, append_assoc, arith}
use Rattle.std.specs.Prelude.{Result, Ok, Err}
use Rattle.mp_text.specs.Lines.{Text}
use Rattle.mp_text.specs.declared.schedule.LineRefusal.{LineRefusal}
use Rattle.mp_text.specs.declared.schedule.LineRefusal.TheVariants.{Line, OutOfMemory}
use Rattle.mp_plans.specs.declared.line.TimedStep.{TimedStep}
use Rattle.mp_plans.specs.Lines.{is_agent_line}
use Rattle.mp_plans.specs.Plan.{Refuses, agents_of, own_steps, with_steps}

pub with_more : (one other : List TimedStep) (read : Result (List TimedStep) ℕ)
    → with_steps (one ++ other) read ≡ with_steps one (with_steps other read)
with_more one other (Ok later) = ap Ok (append_assoc one other later)
with_more one other (Err refused) = refl

-- behind an agent's line and its steps, what is left goes on with the next agent
pub agent_more : (more agent most number next : ℕ) (old new : List TimedStep) (line : Text) (text later left : List Text)
    → text ≡ line ∷ later
    → is_agent_line agent line ≡ true
    → new ≡ old ++ own_steps agent most 0 later
    → next ≡ (number + 1) + length (own_steps agent most 0 later)
    → left ≡ drop (length (own_steps agent most 0 later)) later
    → with_steps new (agents_of more (agent + 1) most next left) ≡ with_steps old (agents_of (suc more) agent most number text)
agent_more more agent most number next old new line text later left text_is first new_is next_is left_is =
    rw (text_is, first, new_is, next_is, left_is)
    (with_more old (own_steps agent most 0 later) _)

-- another line in its place is refused
pub no_agent : (more agent most number : ℕ) (line : Text) (text later : List Text)
    → text ≡ line ∷ later → is_agent_line agent line ≡ false
    → agents_of (suc more) agent most number text ≡ Err number
no_agent more agent most number line text later text_is first = rw (text_is, first) refl

-- what is refused behind known steps is refused
pub refused_behind : (refusal : LineRefusal) (known : List TimedStep) (read : Result (List TimedStep) ℕ)
    → Refuses refusal read → Refuses refusal (with_steps known read)
refused_behind (Line number) known read h = rw h refl
refused_behind OutOfMemory known read h = h

-- the steps behind those of one agent more are those that were left
pub goes_on : (agents agent most number next : ℕ) (old new : List TimedStep) (text left : List Text) (whole : Result (List TimedStep) ℕ)
    → agent < agents + 1
    → ((more : ℕ) → with_steps new (agents_of more (agent + 1) most next left)
    ≡ with_steps old (agents_of (suc more) agent most number text))
    → with_steps old (agents_of ((agents + 1) - agent) agent most number text) ≡ whole
    → with_steps new (agents_of ((agents + 1) - (agent + 1)) (agent + 1) most next left) ≡ whole
goes_on agents agent most number next old new text left whole within found known =
    let left_over : (agents + 1) - agent ≡ suc ((agents + 1) - (agent + 1)) = omega arith in
    found ((agents + 1) - (agent + 1))
    ∙ ap (λ k. with_steps old (agents_of k agent most number text)) (sym left_over)
    ∙ known
