-- The lines of agents with one agent more.
use Rattle.std.proofs.Common.{◌≡◌, ℕ, ◌+◌, ◌<◌, ◌≤◌, List, [], ◌∷◌, ◌++◌, length, codes, decimal, Result, Ok, Err, refl, sym, ap, subst, ◌∙◌, arith, append_assoc, append-nil}
use Rattle.std.specs.Prelude.{OnOk}
use Rattle.std.specs.Option.{unwrap_or}
use Rattle.std.proofs.lemmas.List.{length-append}
use Rattle.mp_joint.specs.declared.plan.PlanStep.{PlanStep}
use Rattle.mp_trail.specs.declared.steps.Timed.{Timed}
use Rattle.mp_text.specs.Lines.{Text}
use Rattle.mp_text.specs.Outcome.{agent_lines, names_at, share_lines}
use Rattle.mp_outcome.specs.Renumbered.{AreRenumbered}
use Rattle.mp_outcome.proofs.Pushed.{get_before, at_end}

-- the lines of the agent at a place, which has these names
abbrev lines_by : List PlanStep → ℕ → List Timed → List Text
lines_by own place share = (codes "agent " ++ decimal (place + 1)) ∷ share_lines own share

-- and where it has its names among those of all
abbrev lines_at : List (List PlanStep) → ℕ → List Timed → List Text
lines_at names place share = lines_by (names_at names place) place share

-- the last agent's lines come last
last_lines : (names : List (List PlanStep)) (place last : ℕ) (shares : List (List Timed)) (share : List Timed)
    → last ≡ place + length shares
    → agent_lines names place (shares ++ share ∷ []) ≡ agent_lines names place shares ++ lines_at names last share
last_lines names place last [] share is =
    append-nil (lines_at names place share) ∙ ap (λ p. lines_at names p share) (omega arith)
last_lines names place last (first ∷ shares) share is =
    ap (λ lines. lines_at names place first ++ lines) (last_lines names (place + 1) last shares share (omega arith))
    ∙ sym (append_assoc (lines_at names place first) (agent_lines names (place + 1) shares) (lines_at names last share))

-- the names of one agent more change no line of the agents before
kept_lines : (names more : List (List PlanStep)) (place : ℕ) (shares : List (List Timed))
    → place + length shares ≤ length names
    → agent_lines (names ++ more) place shares ≡ agent_lines names place shares
kept_lines names more place [] inside = refl
kept_lines names more place (share ∷ shares) inside =
    let there : place < length names = omega arith in
    let same : names_at (names ++ more) place ≡ names_at names place =
    ap (λ o. unwrap_or o []) (get_before names more place there) in
    λ i. lines_by (same i) place share ++ kept_lines names more (place + 1) shares (omega arith) i

-- the names of the last one
last_names : (names : List (List PlanStep)) (new : List PlanStep) (last : ℕ) → last ≡ length names
    → names_at (names ++ new ∷ []) last ≡ new
last_names names new last is =
    ap (names_at (names ++ new ∷ [])) is ∙ ap (λ o. unwrap_or o []) (at_end names new)

one_more : {X Y : Type 0} (xs : List X) (ys : List Y) (x : X) (y : Y) → length xs ≡ length ys
    → length (xs ++ x ∷ []) ≡ length (ys ++ y ∷ [])
one_more xs ys x y same = length-append xs (x ∷ []) ∙ ap (λ n. n + 1) same ∙ sym (length-append ys (y ∷ []))

-- one agent more
agent_added : (own : List (List PlanStep)) (shares : List (List Timed)) (share : List Timed)
    (names : List (List PlanStep)) (others : List (List Timed)) (new : List PlanStep) (other : List Timed)
    → AreRenumbered own shares names others
    → share_lines new other ≡ share_lines (names_at own (length shares)) share
    → AreRenumbered own (shares ++ share ∷ []) (names ++ new ∷ []) (others ++ other ∷ [])
agent_added own shares share names others new other before same =
    let old : agent_lines (names ++ new ∷ []) 0 others ≡ agent_lines own 0 shares =
    kept_lines names (new ∷ []) 0 others (omega (arith, before.named)) ∙ before.lines in
    let mine : share_lines (names_at (names ++ new ∷ []) (length shares)) other
    ≡ share_lines (names_at own (length shares)) share =
    ap (λ ns. share_lines ns other) (last_names names new (length shares) (sym before.one_each ∙ sym before.named))
    ∙ same in
    record {
      one_each = one_more others shares other share before.one_each;
      named = one_more names others new other before.named;
      lines =
          last_lines (names ++ new ∷ []) 0 (length shares) others other (omega (arith, before.one_each))
          ∙ (λ i. old i ++ (codes "agent " ++ decimal (length shares + 1)) ∷ mine i)
          ∙ sym (last_lines own 0 (length shares) shares share (omega arith));
    }

-- the same, where the last call may have failed
pub when_added : {T E : Type 0} (r : Result T E) (own : List (List PlanStep)) (shares : List (List Timed))
    (share : List Timed) (names more : List (List PlanStep)) (others pushed : List (List Timed))
    (new : List PlanStep) (other : List Timed)
    → more ≡ names ++ new ∷ [] → OnOk r (pushed ≡ others ++ other ∷ []) → AreRenumbered own shares names others
    → share_lines new other ≡ share_lines (names_at own (length shares)) share
    → OnOk r (AreRenumbered own (shares ++ share ∷ []) more pushed)
when_added (Ok v) own shares share names more others pushed new other grown is before same =
    subst (λ (ns : List (List PlanStep)). AreRenumbered own (shares ++ share ∷ []) ns pushed) (sym grown)
    (subst (λ (ts : List (List Timed)). AreRenumbered own (shares ++ share ∷ []) (names ++ new ∷ []) ts) (sym is)
    (agent_added own shares share names others new other before same))
when_added (Err e) own shares share names more others pushed new other grown is before same = tt
