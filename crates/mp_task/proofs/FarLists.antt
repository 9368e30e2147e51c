-- The parts that a task has to have, gone through agent by agent and action by action.
use Rattle.std.proofs.Common.{◌≡◌, ◌≢◌, ℕ, Bool, true, false, cond, eqb, List, [], ◌∷◌, map, ◌⊎◌, ⊎_elim, inl, inr, refl, sym, ap, ◌∙◌, subst}
use Rattle.std.proofs.lemmas.Bool.{cond-false, eqb-false, ne_eqb, false≢true}
use Rattle.std.proofs.lemmas.List.Elements.{Contains-append_left, Contains-append_right, Contains-append_cases}
use Rattle.std.specs.List.{Contains, filter, flat_map}
use Rattle.std.specs.Prelude.{◌↔◌}
use Rattle.mp_list.proofs.Members.{contains_head, contains_tail, contains_cases, no_member}
use Rattle.mp_task.specs.declared.act.Act.{Act}
use Rattle.mp_task.specs.declared.act.Far.{Far}
use Rattle.mp_task.specs.AgentTask.{AgentTask}
use Rattle.mp_task.specs.Agreement.{IsFarPart}
use Rattle.mp_task.specs.Public.{is_public, part_of}

-- the public part of a public action of an agent
record IsPartOf (agent : ℕ) (acts : List Act) (part : Far) : Type 0 where
  act : Act
  own : Contains acts act
  public : is_public act ≡ true
  is : part ≡ part_of agent act

-- the parts of an agent's actions
unfoldable pub parts_in : ℕ → List Act → List Far
parts_in agent acts = map (part_of agent) (filter is_public acts)

parts_sound : (agent : ℕ) (acts : List Act) (part : Far) → Contains (parts_in agent acts) part → IsPartOf agent acts part
unfolding parts_in
parts_sound agent [] part here = absurd (no_member part here)
parts_sound agent (a ∷ acts) part here = by (is_public a) refl here (parts_sound agent acts part)
  where
    later : IsPartOf agent acts part → IsPartOf agent (a ∷ acts) part
    later found = record { act = found.act; own = contains_tail a acts found.act found.own; public = found.public; is = found.is }

    by : (b : Bool) → is_public a ≡ b → Contains (map (part_of agent) (cond b (a ∷ filter is_public acts) (filter is_public acts))) part → (Contains (map (part_of agent) (filter is_public acts)) part → IsPartOf agent acts part) → IsPartOf agent (a ∷ acts) part
    by true public here rest =
        ⊎_elim (λ e. record { act = a; own = contains_head a acts; public = public; is = sym e }) (λ there. later (rest there))
        (contains_cases (part_of agent a) (map (part_of agent) (filter is_public acts)) part here)
    by false hidden here rest = later (rest here)

parts_complete : (agent : ℕ) (acts : List Act) (act : Act) → Contains acts act → is_public act ≡ true → Contains (parts_in agent acts) (part_of agent act)
unfolding parts_in
parts_complete agent [] act here public = absurd (no_member act here)
parts_complete agent (a ∷ acts) act here public = by (is_public a) refl (parts_complete agent acts act) (contains_cases a acts act here)
  where
    by : (b : Bool) → is_public a ≡ b → (Contains acts act → is_public act ≡ true → Contains (map (part_of agent) (filter is_public acts)) (part_of agent act)) → (a ≡ act) ⊎ Contains acts act → Contains (map (part_of agent) (cond b (a ∷ filter is_public acts) (filter is_public acts))) (part_of agent act)
    by true shown rest (inl e) =
        subst (Contains (part_of agent a ∷ map (part_of agent) (filter is_public acts))) (ap (part_of agent) e) (contains_head (part_of agent a) _)
    by true shown rest (inr there) = contains_tail (part_of agent a) _ _ (rest there public)
    by false hidden rest (inl e) = absurd (false≢true (sym hidden ∙ ap is_public e ∙ public))
    by false hidden rest (inr there) = rest there public

-- the parts of all agents but one
unfoldable pub parts_of_others : ℕ → List AgentTask → List Far
parts_of_others me tasks = flat_map (λ u. cond (eqb u.me me) [] (parts_in u.me u.acts)) tasks

later_agent : (me : ℕ) (u : AgentTask) (tasks : List AgentTask) (part : Far) → IsFarPart tasks me part → IsFarPart (u ∷ tasks) me part
later_agent me u tasks part found = record {
  other = found.other;
  in_team = contains_tail u tasks found.other found.in_team;
  another = found.another;
  act = found.act;
  own = found.own;
  public = found.public;
  is = found.is;
}

others_sound : (me : ℕ) (tasks : List AgentTask) (part : Far) → Contains (parts_of_others me tasks) part → IsFarPart tasks me part
unfolding parts_of_others
others_sound me [] part here = absurd (no_member part here)
others_sound me (u ∷ tasks) part here =
    ⊎_elim (λ now. by (eqb u.me me) refl now) (λ later. later_agent me u tasks part (others_sound me tasks part later))
    (Contains-append_cases (cond (eqb u.me me) [] (parts_in u.me u.acts)) _ part here)
  where
    by : (b : Bool) → eqb u.me me ≡ b → Contains (cond b [] (parts_in u.me u.acts)) part → IsFarPart (u ∷ tasks) me part
    by true mine now = absurd (no_member part now)
    by false other now =
        let found = parts_sound u.me u.acts part now in
        record {
          other = u;
          in_team = contains_head u tasks;
          another = eqb-false u.me me other;
          act = found.act;
          own = found.own;
          public = found.public;
          is = found.is;
        }

others_complete : (me : ℕ) (tasks : List AgentTask) (u : AgentTask) (act : Act) → Contains tasks u → u.me ≢ me → Contains u.acts act → is_public act ≡ true → Contains (parts_of_others me tasks) (part_of u.me act)
unfolding parts_of_others
others_complete me [] u act here other own public = absurd (no_member u here)
others_complete me (v ∷ tasks) u act here other own public =
    let rest = others_complete me tasks u act in
    ⊎_elim (λ e. Contains-append_left (cond (eqb v.me me) [] (parts_in v.me v.acts)) _ _ (now e)) (λ later. Contains-append_right (cond (eqb v.me me) [] (parts_in v.me v.acts)) _ _ (rest later other own public))
    (contains_cases v tasks u here)
  where
    now : v ≡ u → Contains (cond (eqb v.me me) [] (parts_in v.me v.acts)) (part_of u.me act)
    now e =
        let own_parts = parts_complete u.me u.acts act own public in
        subst (λ (w : AgentTask). Contains (cond (eqb w.me me) [] (parts_in w.me w.acts)) (part_of u.me act)) (sym e)
        (subst (λ ps. Contains ps (part_of u.me act)) (sym (cond-false (eqb u.me me) [] (parts_in u.me u.acts) (ne_eqb u.me me other))) own_parts)

-- they are exactly the parts that the rules give
pub others_are_exact : (tasks : List AgentTask) (me : ℕ) (part : Far) → Contains (parts_of_others me tasks) part ↔ IsFarPart tasks me part
others_are_exact tasks me part = (
  others_sound me tasks part,
  λ found. subst (Contains (parts_of_others me tasks)) (sym found.is) (others_complete me tasks found.other found.act found.in_team found.another found.own found.public),
)
