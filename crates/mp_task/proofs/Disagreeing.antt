-- Tasks do not agree where a part is missing, doubled, or names another agent.
use Rattle.std.proofs.Common.{◌≡◌, ◌≢◌, ◌<◌, List, ◌∷◌, ◌++◌, append_assoc, length, length-append, get_or, refl, sym, ap, ◌∙◌, subst, arith}
use Rattle.std.proofs.lemmas.List.{get_or_at}
use Rattle.std.proofs.lemmas.List.Elements.{All-contains}
use Rattle.std.specs.Bool.{IsTrue}
use Rattle.std.specs.List.{Contains}
use Rattle.mp_task.specs.declared.act.Act.{Act}
use Rattle.mp_task.specs.declared.act.Far.{Far}
use Rattle.mp_task.specs.AgentTask.{AgentTask}
use Rattle.mp_task.specs.Agreement.{Agree, FitsTeam, IsFarList}
use Rattle.mp_task.specs.Public.{is_public, part_of}
use Rattle.mp_task.proofs.Agreeing.{same_number}
use Rattle.mp_task.proofs.FarLists.{parts_of_others, others_are_exact}

pub far_list : (tasks : List AgentTask) (t : AgentTask) → Agree tasks → Contains tasks t → IsFarList tasks t.me t.far
far_list tasks t agree here = (All-contains (FitsTeam tasks) tasks t agree.team here).far

-- the parts of a task are those gone through agent by agent
pub has_part : (tasks : List AgentTask) (t : AgentTask) (part : Far) → Agree tasks → Contains tasks t → Contains (parts_of_others t.me tasks) part → Contains t.far part
has_part tasks t part agree here due = ((far_list tasks t agree here).exact part).1 ((others_are_exact tasks t.me part).0 due)

pub is_due : (tasks : List AgentTask) (t : AgentTask) (part : Far) → Agree tasks → Contains tasks t → Contains t.far part → Contains (parts_of_others t.me tasks) part
is_due tasks t part agree here has = (others_are_exact tasks t.me part).1 (((far_list tasks t agree here).exact part).0 has)

pub missing_part : (tasks : List AgentTask) (t u : AgentTask) (act : Act) → Contains tasks t → Contains tasks u → u.me ≢ t.me → Contains u.acts act → IsTrue (is_public act) → (Contains t.far (part_of u.me act) → ⊥) → Agree tasks → ⊥
missing_part tasks t u act here there other own public missing agree =
    missing (((far_list tasks t agree here).exact (part_of u.me act)).1 (record { other = u; in_team = there; another = other; act = act; own = own; public = public; is = refl }))

pub doubled_part : (tasks : List AgentTask) (t : AgentTask) (before between later : List Far) (part : Far) → Contains tasks t → t.far ≡ before ++ part ∷ (between ++ part ∷ later) → Agree tasks → ⊥
doubled_part tasks t before between later part here doubled agree =
    let first : get_or t.far (length before) part ≡ part =
    ap (λ far. get_or far (length before) part) doubled ∙ get_or_at before part (between ++ part ∷ later) part (length before) refl in
    let front = before ++ part ∷ between in
    let again : t.far ≡ front ++ part ∷ later = doubled ∙ sym (append_assoc before (part ∷ between) (part ∷ later)) in
    let second : get_or t.far (length front) part ≡ part = ap (λ far. get_or far (length front) part) again ∙ get_or_at front part later part (length front) refl in
    let longer = length-append before (part ∷ between) in
    let within = ap length again ∙ length-append front (part ∷ later) in
    (far_list tasks t agree here).once (length before) (length front) part (omega arith) (omega arith) (first ∙ sym second)

pub part_of_another : (tasks : List AgentTask) (t u : AgentTask) (part : Far) → Contains tasks t → Contains tasks u → Contains t.far part → part.by ≡ u.me → ((act : Act) → Contains u.acts act → IsTrue (is_public act) → part ≢ part_of u.me act) → Agree tasks → ⊥
part_of_another tasks t u part here there has by none agree =
    let found = ((far_list tasks t agree here).exact part).0 has in
    let same : found.other ≡ u = same_number tasks agree.numbered found.other u found.in_team there (sym (ap (λ p. p.by) found.is) ∙ by) in
    none found.act (subst (λ (v : AgentTask). Contains v.acts found.act) same found.own) found.public (found.is ∙ ap (λ v. part_of v.me found.act) same)

-- the parts by rising agent
pub parts_rise : (tasks : List AgentTask) (t : AgentTask) (before between later : List Far) (p q : Far) → Contains tasks t → t.far ≡ before ++ p ∷ (between ++ q ∷ later) → q.by < p.by → Agree tasks → ⊥
parts_rise tasks t before between later p q here falls below agree =
    let front = before ++ p ∷ between in
    let first : get_or t.far (length before) p ≡ p = ap (λ far. get_or far (length before) p) falls ∙ get_or_at before p (between ++ q ∷ later) p (length before) refl in
    let again : t.far ≡ front ++ q ∷ later = falls ∙ sym (append_assoc before (p ∷ between) (q ∷ later)) in
    let second : get_or t.far (length front) p ≡ q = ap (λ far. get_or far (length front) p) again ∙ get_or_at front q later p (length front) refl in
    let longer = length-append before (p ∷ between) in
    let within = ap length again ∙ length-append front (q ∷ later) in
    let order = (far_list tasks t agree here).by_agent (length before) (length front) p (omega arith) (omega arith) in
    let a = ap (λ x. x.by) first in
    let b = ap (λ x. x.by) second in
    absurd (omega arith)
