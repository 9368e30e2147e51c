-- Lines that are read are spelled so, and lines that are spelled are read again.
use Rattle.std.proofs.Common.{◌≡◌, refl, sym, ap, ◌∙◌, subst, ℕ, ◌+◌, ◌<◌, ◌≤◌, List, [], ◌∷◌, ◌++◌, length, Option, Some, None, All, append_assoc, length-append, arith}
use Rattle.std.specs.Prelude.{codes, decimal}
use Rattle.std.specs.List.{AllByRecursion, flat_map}
use Rattle.std.specs.List.Sorted.{IsStrictlyIncreasing}
use Rattle.std.proofs.lemmas.List.Elements.{All-from_recursion, recursion_from_All}
use Rattle.mp_sets.proofs.RisingLemmas.{RisesFrom-below, RisesFrom-made, RisesFrom-rises}
use Rattle.mp_task.specs.AgentTask.{AgentTask}
use Rattle.mp_task.specs.Limits.{IsWithinLimits}
use Rattle.mp_audit.specs.declared.certificate.Bound.{Bound}
use Rattle.mp_audit.specs.Fits.{most, publics_of}
use Rattle.mp_audit.specs.Flat.{entry_of}
use Rattle.mp_messages.specs.Reading.{◌>>=◌}
use Rattle.mp_messages.proofs.Taking.{bind_some, some_is}
use Rattle.mp_text.specs.Lines.{Text}
use Rattle.mp_text.specs.Reading.{byte_at, text_behind}
use Rattle.mp_text.proofs.PairLemmas.{byte_again, byte_read, text_again, text_read}
use Rattle.mp_certificates.specs.Accepted.{IsEntry}
use Rattle.mp_certificates.specs.Reading.{all_lists_at, cost_at, entry_at, head_at, list_at, lists_at, number_at}
use Rattle.mp_certificates.specs.Text.{blank_facts, cost_line, entry_line, facts_text}
use Rattle.mp_certificates.proofs.NumberLemmas.{number_again, number_read}
use Rattle.mp_certificates.proofs.FactLemmas.{list_again, list_read}
use Rattle.mp_certificates.proofs.ListLemmas.{behind_list, lists_again, lists_read}

-- a line with the line feed that ends it
abbrev pub ended : Text → Text
ended line = line ++ 10 ∷ []

-- ---- the agent and the bound of an entry

record IsHead (agents : ℕ) (text : Text) (x : (ℕ × ℕ) × Text) : Type 0 where
  from : 1 ≤ x.0.0
  agent : x.0.0 ≤ agents
  positive : 1 ≤ x.0.1
  small : x.0.1 ≤ most
  is : text ≡ decimal x.0.0 ++ (32 ∷ (decimal x.0.1 ++ x.1))

-- what is read behind the agent
abbrev behind_agent : (ℕ × Text) → Option ((ℕ × ℕ) × Text)
behind_agent agent =
    byte_at 32 agent.1 >>= (λ rest. number_at 1 (most + 1) rest >>= (λ bound. Some ((agent.0, bound.0), bound.1)))

head_read : (agents : ℕ) (text : Text) (x : (ℕ × ℕ) × Text) → agents ≤ 16 → head_at agents text ≡ Some x → IsHead agents text x
unfolding head_at
head_read agents text x few e =
    let a = bind_some (number_at 1 (agents + 1) text) behind_agent x e in
    let b = bind_some (byte_at 32 a.0.1) (λ rest. number_at 1 (most + 1) rest >>= (λ bound. Some ((a.0.0, bound.0), bound.1))) x a.2 in
    let c = bind_some (number_at 1 (most + 1) b.0) (λ bound. Some ((a.0.0, bound.0), bound.1)) x b.2 in
    let agent = number_read 1 (agents + 1) text a.0 (omega arith) a.1 in
    let blank : a.0.1 ≡ 32 ∷ b.0 = byte_read 32 a.0.1 b.0 b.1 in
    let bound = number_read 1 (most + 1) b.0 c.0 (omega arith) c.1 in
    let made : (ℕ × ℕ) × Text = ((a.0.0, c.0.0), c.0.1) in
    let P : ((ℕ × ℕ) × Text) → Type 0 = IsHead agents text in
    subst P (some_is made x c.2) (record {
      from = agent.0;
      agent = omega (arith, agent.1);
      positive = bound.0;
      small = omega (arith, bound.1);
      is = agent.2 ∙ ap (λ (t : Text). decimal a.0.0 ++ t) (blank ∙ ap (λ (t : Text). 32 ∷ t) bound.2);
    })

head_again : (agents agent bound : ℕ) (lists : Text) → agents ≤ 16 → 1 ≤ agent → agent ≤ agents → 1 ≤ bound → bound ≤ most
    → head_at agents (decimal agent ++ (32 ∷ (decimal bound ++ (32 ∷ lists)))) ≡ Some ((agent, bound), 32 ∷ lists)
unfolding head_at
head_again agents agent bound lists few from own positive small =
    ap (λ (o : Option (ℕ × Text)). o >>= behind_agent)
    (number_again 1 (agents + 1) agent (32 ∷ (decimal bound ++ (32 ∷ lists))) from (omega arith) (omega arith) refl)
    ∙ ap (λ (o : Option Text). o >>= (λ rest. number_at 1 (most + 1) rest >>= (λ b. Some ((agent, b.0), b.1))))
    (byte_again 32 (decimal bound ++ (32 ∷ lists)))
    ∙ ap (λ (o : Option (ℕ × Text)). o >>= (λ b. Some ((agent, b.0), b.1)))
    (number_again 1 (most + 1) bound (32 ∷ lists) positive (omega arith) (omega arith) refl)

-- ---- an entry

publics_few : (tasks : List AgentTask) → AllByRecursion IsWithinLimits tasks → publics_of tasks ≤ 1048560
publics_few [] limits = omega arith
publics_few (t ∷ ts) limits = limits.0.publics

parts : (agent bound publics privates rest : Text)
    → ended (agent ++ (32 ∷ (bound ++ (publics ++ privates)))) ++ rest
    ≡ agent ++ (32 ∷ (bound ++ (publics ++ (privates ++ (10 ∷ rest)))))
parts agent bound publics privates rest = simp append_assoc refl

-- what is read behind each part of an entry
abbrev behind_lists : (ℕ × ℕ) → List ℕ → (List (List ℕ) × Text) → Option (Bound × Text)
behind_lists head publics privates =
    byte_at 10 privates.1
    >>= (λ rest. Some (record { agent = head.0; bound = head.1; publics = publics; privates = privates.0 }, rest))

abbrev behind_publics : List AgentTask → (ℕ × ℕ) → (List ℕ × Text) → Option (Bound × Text)
behind_publics tasks head publics = lists_at tasks publics.1 >>= behind_lists head publics.0

abbrev behind_head : List AgentTask → ((ℕ × ℕ) × Text) → Option (Bound × Text)
behind_head tasks head = list_at (publics_of tasks) head.1 >>= behind_publics tasks head.0

-- what is read behind all lists of an entry
abbrev pub behind_all_lists : (ℕ × ℕ) → (List (List ℕ) × Text) → Option (Bound × Text)
behind_all_lists head lists = byte_at 10 lists.1 >>= (λ rest. Some (entry_of head.0 head.1 lists.0, rest))

by_privates : (head : ℕ × ℕ) (publics : List ℕ) (privates : Option (List (List ℕ) × Text))
    → (privates >>= behind_lists head publics)
    ≡ ((privates >>= (λ others. Some (publics ∷ others.0, others.1))) >>= behind_all_lists head)
by_privates head publics (Some x) = refl
by_privates head publics None = refl

by_publics : (tasks : List AgentTask) (head : ℕ × ℕ) (publics : Option (List ℕ × Text))
    → (publics >>= behind_publics tasks head) ≡ ((publics >>= behind_list tasks) >>= behind_all_lists head)
by_publics tasks head (Some x) = by_privates head x.0 (lists_at tasks x.1)
by_publics tasks head None = refl

-- an entry, of which the agent and the bound were read
by_lists : (tasks : List AgentTask) (text : Text) (head : ℕ × ℕ) (rest : Text) → head_at (length tasks) text ≡ Some (head, rest)
    → entry_at tasks text ≡ (all_lists_at tasks rest >>= behind_all_lists head)
unfolding entry_at
by_lists tasks text head rest e =
    ap (λ (o : Option ((ℕ × ℕ) × Text)). o >>= behind_head tasks) e ∙ by_publics tasks head (list_at (publics_of tasks) rest)

-- what is read behind the lists decides
pub entry_by_end : (tasks : List AgentTask) (text : Text) (head : ℕ × ℕ) (rest : Text) (lists : List (List ℕ)) (after : Text)
    (end : Option Text) → head_at (length tasks) text ≡ Some (head, rest) → all_lists_at tasks rest ≡ Some (lists, after)
    → byte_at 10 after ≡ end
    → entry_at tasks text ≡ (end >>= (λ later. Some (entry_of head.0 head.1 lists, later)))
entry_by_end tasks text head rest lists after end e all feed =
    by_lists tasks text head rest e ∙ ap (λ (o : Option (List (List ℕ) × Text)). o >>= behind_all_lists head) all
    ∙ ap (λ (o : Option Text). o >>= (λ later. Some (entry_of head.0 head.1 lists, later))) feed

pub record IsEntryRead (tasks : List AgentTask) (text : Text) (x : Bound × Text) : Type 0 where
  pub entry : IsEntry tasks x.0
  pub is : text ≡ ended (entry_line x.0) ++ x.1

pub entry_read : (tasks : List AgentTask) (text : Text) (x : Bound × Text) → length tasks ≤ 16 → All IsWithinLimits tasks
    → entry_at tasks text ≡ Some x → IsEntryRead tasks text x
unfolding entry_at
entry_read tasks text x few all e =
    let limits = recursion_from_All IsWithinLimits tasks all in
    let a = bind_some (head_at (length tasks) text) (behind_head tasks) x e in
    let b = bind_some (list_at (publics_of tasks) a.0.1) (behind_publics tasks a.0.0) x a.2 in
    let c = bind_some (lists_at tasks b.0.1) (behind_lists a.0.0 b.0.0) x b.2 in
    let d = bind_some (byte_at 10 c.0.1) (λ rest. Some (record { agent = a.0.0.0; bound = a.0.0.1; publics = b.0.0; privates = c.0.0 }, rest)) x c.2 in
    let head = head_read (length tasks) text a.0 few a.1 in
    let size = publics_few tasks limits in
    let publics = list_read (publics_of tasks) a.0.1 b.0 (omega (arith, size)) b.1 in
    let privates = lists_read tasks b.0.1 c.0 limits c.1 in
    let feed : c.0.1 ≡ 10 ∷ d.0 = byte_read 10 c.0.1 d.0 d.1 in
    let made : Bound × Text = (record { agent = a.0.0.0; bound = a.0.0.1; publics = b.0.0; privates = c.0.0 }, d.0) in
    let P : (Bound × Text) → Type 0 = IsEntryRead tasks text in
    subst P (some_is made x d.2) (record {
      entry = record {
        formed = record {
          agent = head.from;
          publics = RisesFrom-rises (publics_of tasks) 0 b.0.0 publics.rises;
          privates = All-from_recursion IsStrictlyIncreasing c.0.0 privates.rise;
        };
        agent = head.agent;
        fits = record {
          positive = head.positive;
          small = head.small;
          publics = RisesFrom-below (publics_of tasks) 0 b.0.0 publics.rises;
          privates = privates.fit;
        };
      };
      is = head.is
          ∙ ap (λ (t : Text). decimal a.0.0.0 ++ (32 ∷ (decimal a.0.0.1 ++ t)))
          (publics.is ∙ ap (λ (t : Text). blank_facts b.0.0 ++ t) (privates.is ∙ ap (λ (t : Text). flat_map blank_facts c.0.0 ++ t) feed))
          ∙ sym (parts (decimal a.0.0.0) (decimal a.0.0.1) (blank_facts b.0.0) (flat_map blank_facts c.0.0) d.0);
    })

pub entry_again : (tasks : List AgentTask) (b : Bound) (rest : Text) → length tasks ≤ 16 → All IsWithinLimits tasks
    → IsEntry tasks b → entry_at tasks (ended (entry_line b) ++ rest) ≡ Some (b, rest)
unfolding entry_at
entry_again tasks b rest few all entry =
    let limits = recursion_from_All IsWithinLimits tasks all in
    let size = publics_few tasks limits in
    let privates : Text = flat_map blank_facts b.privates ++ (10 ∷ rest) in
    let rises = RisesFrom-made (publics_of tasks) 0 b.publics (λ some. omega arith) entry.formed.publics entry.fits.publics in
    ap (entry_at tasks) (parts (decimal b.agent) (decimal b.bound) (blank_facts b.publics) (flat_map blank_facts b.privates) rest)
    ∙ ap (λ (o : Option ((ℕ × ℕ) × Text)). o >>= behind_head tasks)
    (head_again (length tasks) b.agent b.bound (facts_text b.publics ++ privates) few entry.formed.agent entry.agent entry.fits.positive entry.fits.small)
    ∙ ap (λ (o : Option (List ℕ × Text)). o >>= behind_publics tasks (b.agent, b.bound))
    (list_again (publics_of tasks) b.publics privates (omega (arith, size)) rises)
    ∙ ap (λ (o : Option (List (List ℕ) × Text)). o >>= behind_lists (b.agent, b.bound) b.publics)
    (lists_again tasks b.privates (10 ∷ rest) limits entry.fits.privates (recursion_from_All IsStrictlyIncreasing b.privates entry.formed.privates))
    ∙ ap (λ (o : Option Text). o >>= (λ t. Some (b, t))) (byte_again 10 rest)

-- ---- the cost

cost_parts : (cost : ℕ) (rest : Text) → ended (cost_line cost) ++ rest ≡ codes "bound " ++ (decimal cost ++ (10 ∷ rest))
cost_parts cost rest = ap (λ (t : Text). codes "bound " ++ t) (append_assoc (decimal cost) (10 ∷ []) rest)

-- what is read behind the label, and behind the cost
abbrev behind_cost : (ℕ × Text) → Option (ℕ × Text)
behind_cost cost = byte_at 10 cost.1 >>= (λ rest. Some (cost.0, rest))

abbrev behind_label : Text → Option (ℕ × Text)
behind_label rest = number_at 0 (most + 1) rest >>= behind_cost

pub record IsCostRead (text : Text) (x : ℕ × Text) : Type 0 where
  pub small : x.0 ≤ most
  pub is : text ≡ ended (cost_line x.0) ++ x.1

pub cost_read : (text : Text) (x : ℕ × Text) → cost_at text ≡ Some x → IsCostRead text x
unfolding cost_at
cost_read text x e =
    let a = bind_some (text_behind (codes "bound ") text) behind_label x e in
    let b = bind_some (number_at 0 (most + 1) a.0) behind_cost x a.2 in
    let c = bind_some (byte_at 10 b.0.1) (λ rest. Some (b.0.0, rest)) x b.2 in
    let label : text ≡ codes "bound " ++ a.0 = text_read (codes "bound ") text a.0 a.1 in
    let cost = number_read 0 (most + 1) a.0 b.0 (omega arith) b.1 in
    let feed : b.0.1 ≡ 10 ∷ c.0 = byte_read 10 b.0.1 c.0 c.1 in
    let made : ℕ × Text = (b.0.0, c.0) in
    let P : (ℕ × Text) → Type 0 = IsCostRead text in
    subst P (some_is made x c.2) (record {
      small = omega (arith, cost.1);
      is = label ∙ ap (λ (t : Text). codes "bound " ++ t) (cost.2 ∙ ap (λ (t : Text). decimal b.0.0 ++ t) feed)
          ∙ sym (cost_parts b.0.0 c.0);
    })

pub cost_again : (cost : ℕ) (rest : Text) → cost ≤ most → cost_at (ended (cost_line cost) ++ rest) ≡ Some (cost, rest)
unfolding cost_at
cost_again cost rest small =
    ap cost_at (cost_parts cost rest)
    ∙ ap (λ (o : Option Text). o >>= behind_label) (text_again (codes "bound ") (decimal cost ++ (10 ∷ rest)))
    ∙ ap (λ (o : Option (ℕ × Text)). o >>= behind_cost)
    (number_again 0 (most + 1) cost (10 ∷ rest) (omega arith) (omega arith) (omega arith) refl)
    ∙ ap (λ (o : Option Text). o >>= (λ t. Some (cost, t))) (byte_again 10 rest)

-- ---- what is left is shorter

line_longer : (line text rest : Text) → text ≡ ended line ++ rest → length rest + length line + 1 ≡ length text
line_longer line text rest is =
    let whole = ap (λ (t : Text). length t) is in
    let front = length-append (ended line) rest in
    let end = length-append line (10 ∷ []) in
    omega (arith, whole, front, end)

pub entry_shorter : (tasks : List AgentTask) (text : Text) (x : Bound × Text) → IsEntryRead tasks text x → length x.1 < length text
entry_shorter tasks text x read = let longer = line_longer (entry_line x.0) text x.1 read.is in omega (arith, longer)
