-- Lists of facts one after another: as loops read them, and that they are read as they are spelled.
use Rattle.std.proofs.Common.{◌≡◌, refl, sym, ap, ◌∙◌, subst, ℕ, suc, ◌+◌, ◌-◌, ◌<◌, ◌≤◌, Bool, true, false, List, [], ◌∷◌, ◌++◌, length, get_or, drop, Option, Some, None, Result, Ok, Err, append_assoc, append-nil, drop-cons, drop_of_length-le, arith}
use Rattle.std.specs.Prelude.{OnOk}
use Rattle.std.specs.List.{AllByRecursion, flat_map}
use Rattle.std.specs.List.Sorted.{IsStrictlyIncreasing}
use Rattle.std.proofs.lemmas.Option.{some_pair_parts}
use Rattle.mp_sets.proofs.RisingLemmas.{RisesFrom-below, RisesFrom-made, RisesFrom-rises}
use Rattle.mp_task.specs.AgentTask.{AgentTask}
use Rattle.mp_task.specs.Limits.{IsWithinLimits}
use Rattle.mp_audit.specs.Fits.{PrivatesFit, publics_of}
use Rattle.mp_messages.specs.Reading.{◌>>=◌}
use Rattle.mp_messages.proofs.Loops.{with_front}
use Rattle.mp_messages.proofs.Taking.{bind_some, some_is}
use Rattle.mp_text.specs.Lines.{Text}
use Rattle.mp_certificates.specs.Reading.{Fails, Gives, all_lists_at, fact_at, facts_from, list_at, lists_at, with_list, with_lists}
use Rattle.mp_certificates.specs.Text.{blank_facts}
use Rattle.mp_certificates.specs.declared.unread.Unread.{Unread}
use Rattle.mp_certificates.specs.declared.unread.Unread.TheVariants.{OtherForm, OutOfMemory}
use Rattle.mp_certificates.proofs.FactLemmas.{behind_fact, list_again, list_read}

-- ---- a loop over facts

one_more : {A : Type 0} (front : List A) (x : A) (read : Option (List A × Text))
    → with_front front (read >>= λ others. Some (x ∷ others.0, others.1)) ≡ with_front (front ++ x ∷ []) read
one_more {A} front x (Some others) = ap (λ (ys : List A). Some (ys, others.1)) (sym (append_assoc front (x ∷ []) others.0))
one_more front x None = refl

-- the first step of what is left
first_step : (front : List ℕ) (size i least : ℕ) (text : Text) (total : Option (List ℕ × Text)) → i < size
    → with_front front (facts_from (size - i) size least text) ≡ total
    → with_front front (fact_at size least text >>= behind_fact (size - (i + 1)) size) ≡ total
unfolding facts_from
first_step front size i least text total within so_far =
    let left : suc (size - (i + 1)) ≡ size - i = omega arith in
    ap (λ (k : ℕ). with_front front (facts_from k size least text)) left ∙ so_far

pub facts_go_on : (front : List ℕ) (size i least : ℕ) (text : Text) (total : Option (List ℕ × Text)) (number : ℕ) (after : Text)
    → i < size → fact_at size least text ≡ Some ((number, true), after)
    → with_front front (facts_from (size - i) size least text) ≡ total
    → with_front (front ++ number ∷ []) (facts_from (size - (i + 1)) size (number + 1) after) ≡ total
facts_go_on front size i least text total number after within fact so_far =
    sym (one_more front number (facts_from (size - (i + 1)) size (number + 1) after))
    ∙ sym (ap (λ (o : Option ((ℕ × Bool) × Text)). with_front front (o >>= behind_fact (size - (i + 1)) size)) fact)
    ∙ first_step front size i least text total within so_far

pub facts_last : (front : List ℕ) (size i least : ℕ) (text : Text) (total : Option (List ℕ × Text)) (number : ℕ) (after : Text)
    → i < size → fact_at size least text ≡ Some ((number, false), after)
    → with_front front (facts_from (size - i) size least text) ≡ total
    → total ≡ Some (front ++ number ∷ [], after)
facts_last front size i least text total number after within fact so_far =
    sym (first_step front size i least text total within so_far)
    ∙ ap (λ (o : Option ((ℕ × Bool) × Text)). with_front front (o >>= behind_fact (size - (i + 1)) size)) fact

pub facts_stop : (front : List ℕ) (size i least : ℕ) (text : Text) (total : Option (List ℕ × Text))
    → i < size → fact_at size least text ≡ None
    → with_front front (facts_from (size - i) size least text) ≡ total
    → total ≡ None
facts_stop front size i least text total within fact so_far =
    sym (first_step front size i least text total within so_far)
    ∙ ap (λ (o : Option ((ℕ × Bool) × Text)). with_front front (o >>= behind_fact (size - (i + 1)) size)) fact

pub facts_spent : (front : List ℕ) (size i least : ℕ) (text : Text) (total : Option (List ℕ × Text)) → size ≤ i
    → with_front front (facts_from (size - i) size least text) ≡ total
    → total ≡ None
unfolding facts_from
facts_spent front size i least text total over so_far =
    let none : size - i ≡ 0 = omega arith in
    sym so_far ∙ ap (λ (k : ℕ). with_front front (facts_from k size least text)) none

-- ---- a loop over lists

-- one list more
pub one_list : (before : List (List ℕ)) (read : Option (List ℕ × Text)) (made : List (List ℕ)) (after : Text)
    → with_list before read ≡ Some (made, after)
    → (facts : List ℕ) × (read ≡ Some (facts, after)) × (made ≡ before ++ facts ∷ [])
one_list before (Some x) made after e =
    let parts = some_pair_parts (before ++ x.0 ∷ []) made x.1 after e in
    let read : Text → List ℕ × Text = λ t. (x.0, t) in
    (x.0, ap (λ (t : Text). Some (read t)) parts.1, sym parts.0)
one_list before None made after e = absurd cc

pub no_list : (unread : Unread) (before : List (List ℕ)) (read : Option (List ℕ × Text)) → Fails unread (with_list before read)
    → Fails unread read
no_list OtherForm before (Some x) none = absurd cc
no_list OtherForm before None none = refl
no_list OutOfMemory before read none = tt

-- what is read behind the list of a task
abbrev pub behind_list : List AgentTask → (List ℕ × Text) → Option (List (List ℕ) × Text)
behind_list ts facts = lists_at ts facts.1 >>= (λ others. Some (facts.0 ∷ others.0, others.1))

next_task : (tasks : List AgentTask) (i : ℕ) (t : AgentTask) (front : List (List ℕ)) (text : Text)
    (total : Option (List (List ℕ) × Text)) → i < length tasks → t ≡ get_or tasks i t
    → with_front front (lists_at (drop i tasks) text) ≡ total
    → with_front front (list_at t.privates text >>= behind_list (drop (i + 1) tasks)) ≡ total
unfolding lists_at
next_task tasks i t front text total within is so_far =
    let next : suc i ≡ i + 1 = omega arith in
    let cut : drop i tasks ≡ t ∷ drop (i + 1) tasks =
    drop-cons tasks i t within ∙ ap (λ (u : AgentTask). u ∷ drop (suc i) tasks) (sym is) ∙ ap (λ (k : ℕ). t ∷ drop k tasks) next in
    ap (λ (ts : List AgentTask). with_front front (lists_at ts text)) (sym cut) ∙ so_far

pub lists_go_on : (tasks : List AgentTask) (i : ℕ) (t : AgentTask) (front made : List (List ℕ)) (text : Text)
    (total : Option (List (List ℕ) × Text)) (after : Text) → i < length tasks → t ≡ get_or tasks i t
    → with_list front (list_at t.privates text) ≡ Some (made, after)
    → with_front front (lists_at (drop i tasks) text) ≡ total
    → with_front made (lists_at (drop (i + 1) tasks) after) ≡ total
lists_go_on tasks i t front made text total after within is read so_far =
    let one = one_list front (list_at t.privates text) made after read in
    ap (λ (ls : List (List ℕ)). with_front ls (lists_at (drop (i + 1) tasks) after)) one.2
    ∙ sym (one_more front one.0 (lists_at (drop (i + 1) tasks) after))
    ∙ sym (ap (λ (o : Option (List ℕ × Text)). with_front front (o >>= behind_list (drop (i + 1) tasks))) one.1)
    ∙ next_task tasks i t front text total within is so_far

pub lists_stop : (unread : Unread) (tasks : List AgentTask) (i : ℕ) (t : AgentTask) (front : List (List ℕ)) (text : Text)
    (total : Option (List (List ℕ) × Text)) → i < length tasks → t ≡ get_or tasks i t
    → Fails unread (with_list front (list_at t.privates text))
    → with_front front (lists_at (drop i tasks) text) ≡ total
    → Fails unread total
lists_stop OtherForm tasks i t front text total within is none so_far =
    sym (next_task tasks i t front text total within is so_far)
    ∙ ap (λ (o : Option (List ℕ × Text)). with_front front (o >>= behind_list (drop (i + 1) tasks)))
    (no_list OtherForm front (list_at t.privates text) none)
lists_stop OutOfMemory tasks i t front text total within is none so_far = tt

pub lists_end : (tasks : List AgentTask) (i : ℕ) (front : List (List ℕ)) (text : Text)
    (total : Option (List (List ℕ) × Text)) → length tasks ≤ i
    → with_front front (lists_at (drop i tasks) text) ≡ total
    → total ≡ Some (front, text)
unfolding lists_at
lists_end tasks i front text total over so_far =
    sym so_far
    ∙ ap (λ (ts : List AgentTask). with_front front (lists_at ts text)) (drop_of_length-le tasks over)
    ∙ ap (λ (ls : List (List ℕ)). Some (ls, text)) (append-nil front)

-- ---- lists that are read behind others

-- the lists of an entry, of which the first one was read
pub publics_first : (tasks : List AgentTask) (size : ℕ) (text rest : Text) (before lists : List (List ℕ)) → size ≡ publics_of tasks
    → before ≡ [] → with_list before (list_at size text) ≡ Some (lists, rest)
    → with_lists lists (lists_at tasks rest) ≡ all_lists_at tasks text
publics_first tasks size text rest before lists same none first =
    let one = one_list before (list_at size text) lists rest first in
    let only : lists ≡ one.0 ∷ [] = one.2 ∙ ap (λ (ls : List (List ℕ)). ls ++ one.0 ∷ []) none in
    ap (λ (ls : List (List ℕ)). with_lists ls (lists_at tasks rest)) only
    ∙ sym (ap (λ (o : Option (List ℕ × Text)). o >>= behind_list tasks) (ap (λ (n : ℕ). list_at n text) (sym same) ∙ one.1))

-- there are as many lists of private facts as tasks, and the public facts are one more
privates_counted : (tasks : List AgentTask) (text : Text) (x : List (List ℕ) × Text) → lists_at tasks text ≡ Some x
    → length x.0 ≡ length tasks
unfolding lists_at
privates_counted [] text x e =
    let none : List (List ℕ) × Text = ([], text) in
    ap (λ (y : List (List ℕ) × Text). length y.0) (sym (some_is none x e))
privates_counted (t ∷ ts) text x e =
    let a = bind_some (list_at t.privates text) (behind_list ts) x e in
    let b = bind_some (lists_at ts a.0.1) (λ others. Some (a.0.0 ∷ others.0, others.1)) x a.2 in
    let made : List (List ℕ) × Text = (a.0.0 ∷ b.0.0, b.0.1) in
    let later = privates_counted ts a.0.1 b.0 b.1 in
    ap (λ (y : List (List ℕ) × Text). length y.0) (sym (some_is made x b.2)) ∙ ap suc later

pub all_counted : (tasks : List AgentTask) (text : Text) (x : List (List ℕ) × Text) → all_lists_at tasks text ≡ Some x
    → length x.0 ≡ length tasks + 1
all_counted tasks text x e =
    let a = bind_some (list_at (publics_of tasks) text) (behind_list tasks) x e in
    let b = bind_some (lists_at tasks a.0.1) (λ others. Some (a.0.0 ∷ others.0, others.1)) x a.2 in
    let made : List (List ℕ) × Text = (a.0.0 ∷ b.0.0, b.0.1) in
    let is : made ≡ x = some_is made x b.2 in
    let all : length x.0 ≡ length made.0 = ap (λ (y : List (List ℕ) × Text). length y.0) (sym is) in
    let later : length b.0.0 ≡ length tasks = privates_counted tasks a.0.1 b.0 b.1 in
    omega (arith, all, later)

-- what a function returned that read them behind the public facts
pub all_given : {X : Type 0} (tasks : List AgentTask) (text rest : Text) (first lists : List (List ℕ)) (rest_of : X → Text)
    (result : Result X Unread) → with_lists first (lists_at tasks rest) ≡ all_lists_at tasks text
    → Gives (λ x. (lists, rest_of x)) result (with_lists first (lists_at tasks rest))
    → Gives (λ x. (lists, rest_of x)) result (all_lists_at tasks text)
all_given {X} tasks text rest first lists rest_of result is given =
    let view : X → List (List ℕ) × Text = λ x. (lists, rest_of x) in
    subst (Gives view result) is given

pub counted_where_given : {X : Type 0} (tasks : List AgentTask) (text : Text) (lists : List (List ℕ)) (rest_of : X → Text)
    (result : Result X Unread) → Gives (λ x. (lists, rest_of x)) result (all_lists_at tasks text)
    → OnOk result (length lists ≡ length tasks + 1)
counted_where_given tasks text lists rest_of (Ok x) given = all_counted tasks text (lists, rest_of x) given
counted_where_given tasks text lists rest_of (Err unread) given = tt

-- ---- what is read is spelled, and what is spelled is read

-- lists that rise, one for each task, and what follows them
pub record AreLists (tasks : List AgentTask) (text : Text) (x : List (List ℕ) × Text) : Type 0 where
  pub is : text ≡ flat_map blank_facts x.0 ++ x.1
  pub fit : PrivatesFit tasks x.0
  pub rise : AllByRecursion IsStrictlyIncreasing x.0

pub lists_read : (tasks : List AgentTask) (text : Text) (x : List (List ℕ) × Text) → AllByRecursion IsWithinLimits tasks
    → lists_at tasks text ≡ Some x → AreLists tasks text x
unfolding lists_at
lists_read [] text x limits e =
    let P : (List (List ℕ) × Text) → Type 0 = AreLists [] text in
    let none : List (List ℕ) × Text = ([], text) in
    subst P (some_is none x e) (record { is = refl; fit = tt; rise = tt })
lists_read (t ∷ ts) text x limits e =
    let a = bind_some (list_at t.privates text) (behind_list ts) x e in
    let b = bind_some (lists_at ts a.0.1) (λ others. Some (a.0.0 ∷ others.0, others.1)) x a.2 in
    let few : t.privates ≤ 65535 = limits.0.privates in
    let first = list_read t.privates text a.0 (omega arith) a.1 in
    let later = lists_read ts a.0.1 b.0 limits.1 b.1 in
    let P : (List (List ℕ) × Text) → Type 0 = AreLists (t ∷ ts) text in
    let made : List (List ℕ) × Text = (a.0.0 ∷ b.0.0, b.0.1) in
    subst P (some_is made x b.2) (record {
      is = first.is ∙ ap (λ (s : Text). blank_facts a.0.0 ++ s) later.is
          ∙ sym (append_assoc (blank_facts a.0.0) (flat_map blank_facts b.0.0) b.0.1);
      fit = (RisesFrom-below t.privates 0 a.0.0 first.rises, later.fit);
      rise = (RisesFrom-rises t.privates 0 a.0.0 first.rises, later.rise);
    })

pub lists_again : (tasks : List AgentTask) (lists : List (List ℕ)) (rest : Text) → AllByRecursion IsWithinLimits tasks
    → PrivatesFit tasks lists → AllByRecursion IsStrictlyIncreasing lists
    → lists_at tasks (flat_map blank_facts lists ++ rest) ≡ Some (lists, rest)
unfolding lists_at
lists_again [] [] rest limits fit rise = refl
lists_again [] (l ∷ ls) rest limits fit rise = absurd fit
lists_again (t ∷ ts) [] rest limits fit rise = absurd fit
lists_again (t ∷ ts) (l ∷ ls) rest limits fit rise =
    let few : t.privates ≤ 65535 = limits.0.privates in
    let rises = RisesFrom-made t.privates 0 l (λ some. omega arith) rise.0 fit.0 in
    ap (lists_at (t ∷ ts)) (append_assoc (blank_facts l) (flat_map blank_facts ls) rest)
    ∙ ap (λ (o : Option (List ℕ × Text)). o >>= behind_list ts)
    (list_again t.privates l (flat_map blank_facts ls ++ rest) (omega arith) rises)
    ∙ ap (λ (o : Option (List (List ℕ) × Text)). o >>= (λ others. Some (l ∷ others.0, others.1)))
    (lists_again ts ls rest limits.1 fit.1 rise.1)
