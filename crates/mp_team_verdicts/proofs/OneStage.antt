-- A world is at one stage, but for the agent that tells a plan's length.
use Rattle.mp_world.proofs.Basics.{◌≡◌, ℕ, Bool, true, ◌&&◌, List, [], ◌∷◌, ◌++◌, length, Some, refl, sym, ap, subst, ◌∙◌, arith, ◌==◌, and_parts, eq-eqb, eqb-true, false≢true, length-append, same_Some}
use Rattle.mp_world.specs.AgentWords.{TaskStep, EndKind, Length, Pick, Trace, AgentRecord, given_verdict, is_going, is_deciding, is_proved}
use Rattle.mp_world.specs.World.{IsAgent, World, agent_at}
use Rattle.mp_world.proofs.Mail.{agent_of_team}
use Rattle.mp_team_snapshots.specs.Snapshots.{one_if_due}
use Rattle.mp_team_states.specs.Paths.{IsPath}
use Rattle.mp_team_states.proofs.ReachedEntries.{has_it, one_path}
use Rattle.mp_team_verdicts.specs.Ending.{AreSame, IsAt, IsProved, LeadsTo, Stage, due, end_by}
use Rattle.mp_team_verdicts.specs.Ending.AreSame.{any_teller, same}
use Rattle.mp_team_verdicts.specs.Ending.Stage.{over, picking, searching, walking, without_plan}
use Rattle.mp_team_verdicts.proofs.Proving.{end_decides, end_unproved}
use Rattle.mp_team_verdicts.proofs.Short.{path_entry}
use Rattle.mp_team_verdicts.proofs.TakingEnds.{one_due}

-- lists with ends of one length that are equal have equal parts
same_parts : {X : Type 0} (fronts others xs ys : List X) → fronts ++ xs ≡ others ++ ys → length fronts ≡ length others → (fronts ≡ others) × (xs ≡ ys)
same_parts [] [] xs ys is long = (refl, is)
same_parts [] (o ∷ others) xs ys is long = absurd (omega arith)
same_parts (f ∷ fronts) [] xs ys is long = absurd (omega arith)
same_parts (f ∷ fronts) (o ∷ others) xs ys is long =
    let first : f ≡ o = cc in
    let more : fronts ++ xs ≡ others ++ ys = cc in
    let rest = same_parts fronts others xs ys more (omega arith) in
    (λ k. first k ∷ rest.0 k, rest.1)

module _ (w : World) (first : AgentRecord) where
  -- there is one proved plan
  same_plan : (plan others : List TaskStep) → (p : IsProved w first plan) → (q : IsProved w first others) → (plan ≡ others) × (p.agent ≡ q.agent)
  same_plan plan others p q =
      let verdicts = sym p.verdict ∙ q.verdict in
      let agents : p.agent ≡ q.agent = cc in
      let who : p.picked ≡ q.picked = same_Some p.picked q.picked (sym p.there ∙ ap (agent_at w) agents ∙ q.there) in
      let numbers : p.number ≡ q.number =
      same_Some p.number q.number (sym p.goal.noted ∙ ap (λ (r : AgentRecord). r.goal) who ∙ q.goal.noted) in (
        one_path w p.agent p.number plan others p.path
            (subst (λ (k : ℕ). IsPath w p.agent k others) (sym numbers) (subst (λ (a : ℕ). IsPath w a q.number others) (sym agents) q.path)),
        agents,
      )

module _ (publics : ℕ) (w : World) where
  same_first : (s t : Stage) (a : IsAt publics w s) (b : IsAt publics w t) → a.first ≡ b.first
  same_first s t a b = same_Some a.first b.first (sym a.there ∙ b.there)

  -- what is due is the same
  same_due : (s t : Stage) → IsAt publics w s → IsAt publics w t → (i j : ℕ) (r : AgentRecord) → IsAgent w i → agent_at w j ≡ Some r
      → due s i j (is_going r.ending) ≡ due t i j (is_going r.ending)
  same_due s t a b i j r agent there = sym (a.mail i j r agent there) ∙ b.mail i j r agent there

  both_true : (i j : ℕ) → (i == i && j == j) ≡ true
  both_true i j = λ k. eq-eqb i i refl k && eq-eqb j j refl k

  undecided_apart : (t : Stage) (a : IsAt publics w searching) (b : IsAt publics w t) → is_deciding (given_verdict b.first) ≡ true → ⊥
  undecided_apart t a b decided = false≢true (sym a.verdict ∙ ap (λ (r : AgentRecord). is_deciding (given_verdict r)) (same_first searching t a b) ∙ decided)

  unproved_apart : (kind : EndKind) (t : Stage) (a : IsAt publics w (without_plan kind)) (b : IsAt publics w t) → is_proved (given_verdict b.first) ≡ true → ⊥
  unproved_apart kind t a b proved =
      false≢true (sym (end_unproved (given_verdict a.first) kind a.verdict.verdict) ∙ ap (λ (r : AgentRecord). is_proved (given_verdict r)) (same_first (without_plan kind) t a b) ∙ proved)

  -- the receiver of a walk is there
  receiver_there : (to sent : ℕ) (steps : List TaskStep) → LeadsTo w to sent steps → (r : AgentRecord) × (agent_at w to ≡ Some r)
  receiver_there to sent steps leads =
      let found = path_entry w to leads.number steps leads.path in
      let h = has_it w to leads.number found.0 found.1 in
      (h.agent_is, h.there)

  -- a pick that is under way is no other message
  pick_alone : (agent number : ℕ) (plan : List TaskStep) (t : Stage) → (a : IsAt publics w (picking agent number plan)) → IsAt publics w t
      → (r : AgentRecord) × (Pick number ∷ [] ≡ due t 1 agent (is_going r.ending))
  pick_alone agent number plan t a b =
      let p = a.verdict.proved in
      let there : agent_at w agent ≡ Some p.picked = sym (ap (agent_at w) a.verdict.agent_is) ∙ p.there in (
        p.picked,
        sym (ap (λ (x : Bool). one_if_due x (Pick number)) (both_true 1 agent))
            ∙ same_due (picking agent number plan) t a b 1 agent p.picked (agent_of_team w 1 a.first a.there) there,
      )

  pick_no_walk : (agent number : ℕ) (plan : List TaskStep) (from to sent : ℕ) (earlier later : List TaskStep)
      → IsAt publics w (picking agent number plan) → IsAt publics w (walking from to sent earlier later) → ⊥
  pick_no_walk agent number plan from to sent earlier later a b =
      let x = pick_alone agent number plan (walking from to sent earlier later) a b in
      let d = one_due (1 == from && to == agent) (Trace sent (length later)) (Pick number) [] (sym x.1) in
      let kinds = d.same in
      let impossible : ⊥ = cc in
      impossible

  pick_not_over : (agent number : ℕ) (plan : List TaskStep) (teller : ℕ) (whole : List TaskStep)
      → IsAt publics w (picking agent number plan) → IsAt publics w (over teller whole) → ⊥
  pick_not_over agent number plan teller whole a b =
      let x = pick_alone agent number plan (over teller whole) a b in
      let d = one_due (1 == teller && is_going x.0.ending) (Length (length whole)) (Pick number) [] (sym x.1) in
      let kinds = d.same in
      let impossible : ⊥ = cc in
      impossible

  walk_not_over : (from to sent : ℕ) (earlier later : List TaskStep) (teller : ℕ) (whole : List TaskStep)
      → IsAt publics w (walking from to sent earlier later) → IsAt publics w (over teller whole) → ⊥
  walk_not_over from to sent earlier later teller whole a b =
      let x = b.verdict.teller in
      false≢true (sym x.ended ∙ (a.agents teller x.who x.there).going)

  proved_of : (s t : Stage) (a : IsAt publics w s) (b : IsAt publics w t) (plan : List TaskStep) → IsProved w b.first plan → IsProved w a.first plan
  proved_of s t a b plan = subst (λ (r : AgentRecord). IsProved w r plan) (sym (same_first s t a b))

  picks_same : (agent number : ℕ) (plan : List TaskStep) (other count : ℕ) (whole : List TaskStep)
      → IsAt publics w (picking agent number plan) → IsAt publics w (picking other count whole) → AreSame (picking agent number plan) (picking other count whole)
  picks_same agent number plan other count whole a b =
      let q = proved_of (picking agent number plan) (picking other count whole) a b whole b.verdict.proved in
      let plans = (same_plan w a.first plan whole a.verdict.proved q).0 in
      let x = pick_alone agent number plan (picking other count whole) a b in
      let d = one_due (1 == 1 && other == agent) (Pick count) (Pick number) [] (sym x.1) in
      let kinds = d.same in
      let counts : number ≡ count = cc in
      let agents : agent ≡ other = sym (eqb-true other agent (and_parts (1 == 1) (other == agent) d.so).1) in
      subst (AreSame (picking agent number plan)) (λ k. picking (agents k) (counts k) (plans k)) (same (picking agent number plan))

  walks_same : (from to sent : ℕ) (earlier later : List TaskStep) (x y n : ℕ) (front behind : List TaskStep)
      → IsAt publics w (walking from to sent earlier later) → IsAt publics w (walking x y n front behind)
      → AreSame (walking from to sent earlier later) (walking x y n front behind)
  walks_same from to sent earlier later x y n front behind a b =
      let q = proved_of (walking from to sent earlier later) (walking x y n front behind) a b (front ++ behind) b.verdict.proved in
      let plans = (same_plan w a.first (earlier ++ later) (front ++ behind) a.verdict.proved q).0 in
      let r = receiver_there to sent earlier a.verdict.next in
      let now : Trace sent (length later) ∷ [] ≡ one_if_due (from == x && y == to) (Trace n (length behind)) =
      sym (ap (λ (t : Bool). one_if_due t (Trace sent (length later))) (both_true from to))
      ∙ same_due (walking from to sent earlier later) (walking x y n front behind) a b from to r.0 a.verdict.sender r.1 in
      let d = one_due (from == x && y == to) (Trace n (length behind)) (Trace sent (length later)) [] (sym now) in
      let kinds = d.same in
      let numbers : sent ≡ n = cc in
      let longs : length later ≡ length behind = cc in
      let tests = and_parts (from == x) (y == to) d.so in
      let senders : from ≡ x = eqb-true from x tests.0 in
      let receivers : to ≡ y = sym (eqb-true y to tests.1) in
      let all = ap length plans in
      let one_long = length-append earlier later in
      let other_long = length-append front behind in
      let parts = same_parts earlier front later behind plans (omega arith) in
      subst (AreSame (walking from to sent earlier later)) (λ k. walking (senders k) (receivers k) (numbers k) (parts.0 k) (parts.1 k)) (same (walking from to sent earlier later))

  overs_same : (teller : ℕ) (plan : List TaskStep) (other : ℕ) (whole : List TaskStep) → IsAt publics w (over teller plan) → IsAt publics w (over other whole)
      → AreSame (over teller plan) (over other whole)
  overs_same teller plan other whole a b =
      let q = proved_of (over teller plan) (over other whole) a b whole b.verdict.proved in
      let plans = (same_plan w a.first plan whole a.verdict.proved q).0 in
      subst (λ (xs : List TaskStep). AreSame (over teller plan) (over other xs)) plans (any_teller teller other plan)

  pub one_stage : (s t : Stage) → IsAt publics w s → IsAt publics w t → AreSame s t
  one_stage searching searching a b = same searching
  one_stage searching (without_plan kind) a b = absurd (undecided_apart (without_plan kind) a b (end_decides (given_verdict b.first) kind b.verdict.verdict))
  one_stage searching (picking agent number plan) a b = absurd (undecided_apart (picking agent number plan) a b (ap is_deciding b.verdict.proved.verdict))
  one_stage searching (walking from to sent earlier later) a b = absurd (undecided_apart (walking from to sent earlier later) a b (ap is_deciding b.verdict.proved.verdict))
  one_stage searching (over teller plan) a b = absurd (undecided_apart (over teller plan) a b (ap is_deciding b.verdict.proved.verdict))
  one_stage (without_plan kind) searching a b = absurd (undecided_apart (without_plan kind) b a (end_decides (given_verdict a.first) kind a.verdict.verdict))
  one_stage (without_plan kind) (without_plan other) a b =
      let kinds : kind ≡ other =
      same_Some kind other (sym a.verdict.verdict ∙ ap (λ (r : AgentRecord). end_by (given_verdict r)) (same_first (without_plan kind) (without_plan other) a b) ∙ b.verdict.verdict) in
      subst (λ (k : EndKind). AreSame (without_plan kind) (without_plan k)) kinds (same (without_plan kind))
  one_stage (without_plan kind) (picking agent number plan) a b = absurd (unproved_apart kind (picking agent number plan) a b (ap is_proved b.verdict.proved.verdict))
  one_stage (without_plan kind) (walking from to sent earlier later) a b =
      absurd (unproved_apart kind (walking from to sent earlier later) a b (ap is_proved b.verdict.proved.verdict))
  one_stage (without_plan kind) (over teller plan) a b = absurd (unproved_apart kind (over teller plan) a b (ap is_proved b.verdict.proved.verdict))
  one_stage (picking agent number plan) searching a b = absurd (undecided_apart (picking agent number plan) b a (ap is_deciding a.verdict.proved.verdict))
  one_stage (picking agent number plan) (without_plan kind) a b = absurd (unproved_apart kind (picking agent number plan) b a (ap is_proved a.verdict.proved.verdict))
  one_stage (picking agent number plan) (picking other count whole) a b = picks_same agent number plan other count whole a b
  one_stage (picking agent number plan) (walking from to sent earlier later) a b = absurd (pick_no_walk agent number plan from to sent earlier later a b)
  one_stage (picking agent number plan) (over teller whole) a b = absurd (pick_not_over agent number plan teller whole a b)
  one_stage (walking from to sent earlier later) searching a b = absurd (undecided_apart (walking from to sent earlier later) b a (ap is_deciding a.verdict.proved.verdict))
  one_stage (walking from to sent earlier later) (without_plan kind) a b =
      absurd (unproved_apart kind (walking from to sent earlier later) b a (ap is_proved a.verdict.proved.verdict))
  one_stage (walking from to sent earlier later) (picking agent number plan) a b = absurd (pick_no_walk agent number plan from to sent earlier later b a)
  one_stage (walking from to sent earlier later) (walking x y n front behind) a b = walks_same from to sent earlier later x y n front behind a b
  one_stage (walking from to sent earlier later) (over teller whole) a b = absurd (walk_not_over from to sent earlier later teller whole a b)
  one_stage (over teller plan) searching a b = absurd (undecided_apart (over teller plan) b a (ap is_deciding a.verdict.proved.verdict))
  one_stage (over teller plan) (without_plan kind) a b = absurd (unproved_apart kind (over teller plan) b a (ap is_proved a.verdict.proved.verdict))
  one_stage (over teller plan) (picking agent number whole) a b = absurd (pick_not_over agent number whole teller plan b a)
  one_stage (over teller plan) (walking from to sent earlier later) a b = absurd (walk_not_over from to sent earlier later teller plan b a)
  one_stage (over teller plan) (over other whole) a b = overs_same teller plan other whole a b
