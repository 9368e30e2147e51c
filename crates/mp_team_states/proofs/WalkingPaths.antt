-- A walk back within one agent goes along the path.
use Rattle.mp_world.proofs.Basics.{◌≡◌, ℕ, zero, suc, ◌+◌, ◌<◌, List, [], ◌∷◌, ◌++◌, length, Option, Some, refl, sym, ap, subst, ◌∙◌, append_assoc, append-nil, arith, slice_get, option_map_or, length-append, All-nil, All-push, same_Some}
use Rattle.mp_trail.specs.Walk.{Walk}
use Rattle.mp_world.specs.AgentWords.{TaskStep, Noted, Walked, origin_of, walk_from, walk_within, AgentRecord}
use Rattle.mp_world.specs.SearchWords.{Entry, Origin, Root, Own, From, AgentState}
use Rattle.mp_world.specs.World.{World, agent_at}
use Rattle.mp_team_states.specs.Further.{HaveSoundRecords}
use Rattle.mp_team_states.specs.Paths.{IsEntryAt, IsPath}
use Rattle.mp_team_states.specs.Paths.IsPath.{at_root, by_action, by_message}
use Rattle.mp_team_states.specs.Walks.{EndsRightly, WalksAlong, noted_of}
use Rattle.mp_team_states.proofs.Messages.{parent_earlier}
use Rattle.mp_team_states.proofs.ReachedEntries.{has_it}

-- one step more at the end
noted_more : (back : ℕ) (steps : List TaskStep) (step : TaskStep) → record { action = step.action; back = back } ∷ noted_of (back + 1) steps ≡ noted_of back (steps ++ step ∷ [])
unfolding noted_of
noted_more back [] step =
    let same : back ≡ back + 0 = omega arith in
    ap (λ (n : ℕ). record { action = step.action; back = n } ∷ []) same
noted_more back (x ∷ xs) step =
    let longer : back + 1 + length xs ≡ back + length (xs ++ step ∷ []) = let l = length-append xs (step ∷ []) in omega arith in
    (λ j. noted_more back xs step j ++ record { action = x.action; back = longer j } ∷ [])

ends_at : (w : World) (earlier : List TaskStep) (m n : ℕ) (end : Walked) → m ≡ n → EndsRightly w earlier m end → EndsRightly w earlier n end
ends_at w earlier m n end same = subst (λ (k : ℕ). EndsRightly w earlier k end) same

module _ (w : World) (records : HaveSoundRecords w) (agent : ℕ) (r : AgentRecord) (there : agent_at w agent ≡ Some r) where
  origin_is : (number : ℕ) (e : Entry AgentState) (o : Origin) → IsEntryAt w agent number e → e.origin ≡ o → origin_of r.search.kept number ≡ o
  origin_is number e o is from =
      let h = has_it w agent number e is in
      let one : h.agent_is ≡ r = same_Some h.agent_is r (sym h.there ∙ there) in
      let at : slice_get r.search.kept.entries number ≡ Some e = subst (λ (r : AgentRecord). slice_get r.search.kept.entries number ≡ Some e) one h.at in
      ap (λ (o : Option (Entry AgentState)). option_map_or (λ e. e.origin) o Root) at ∙ from

  along : (fuel number back : ℕ) (steps : List TaskStep) → number < fuel → IsPath w agent number steps
      → WalksAlong w agent back steps (walk_within fuel r.search.kept number back)
  unfolding walk_within noted_of
  along zero number back steps less path = absurd (omega arith)
  along (suc fuel) number back steps less (at_root _ _ e is root) =
      subst (λ (o : Origin). WalksAlong w agent back [] (walk_from (walk_within fuel r.search.kept) o back)) (sym (origin_is number e Root is root))
      (record {
        earlier = [];
        own = [];
        parts = refl;
        agents = All-nil (λ (step : TaskStep). step.agent ≡ agent);
        noted = refl;
        end = (refl, omega arith);
      })
  along (suc fuel) number back steps less (by_action _ _ e action parent before is own path) =
      let earlier = parent_earlier w records agent number e action parent is own in
      let rest = along fuel parent (back + 1) before (omega arith) path in
      let step : TaskStep = record { agent = agent; action = action } in
      let inner : Walk = walk_within fuel r.search.kept parent (back + 1) in
      subst (λ (o : Origin). WalksAlong w agent back (before ++ step ∷ []) (walk_from (walk_within fuel r.search.kept) o back)) (sym (origin_is number e (Own action parent) is own))
      (record {
        earlier = rest.earlier;
        own = rest.own ++ step ∷ [];
        parts = ap (λ (xs : List TaskStep). xs ++ step ∷ []) rest.parts ∙ append_assoc rest.earlier rest.own (step ∷ []);
        agents = All-push (λ (step : TaskStep). step.agent ≡ agent) rest.own step rest.agents refl;
        noted = ap (λ (xs : List Noted). record { action = action; back = back } ∷ xs) rest.noted ∙ noted_more back rest.own step;
        end =
            ends_at w rest.earlier (back + 1 + length rest.own) (back + length (rest.own ++ step ∷ [])) inner.end
            (let l = length-append rest.own (step ∷ []) in omega arith) rest.end;
      })
  along (suc fuel) number back steps less (by_message _ _ e sender sent place _ is from given path) =
      subst (λ (o : Origin). WalksAlong w agent back steps (walk_from (walk_within fuel r.search.kept) o back)) (sym (origin_is number e (From sender sent) is from))
      (record {
        earlier = steps;
        own = [];
        parts = sym (append-nil steps);
        agents = All-nil (λ (step : TaskStep). step.agent ≡ agent);
        noted = refl;
        end = (place, given, path, omega arith);
      })

  pub walk_along : (number back : ℕ) (steps : List TaskStep) → IsPath w agent number steps
      → WalksAlong w agent back steps (walk_within (number + 1) r.search.kept number back)
  walk_along number back steps path = along (number + 1) number back steps (omega arith) path
