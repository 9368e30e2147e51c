-- The private facts of each agent in a state, list by list.
use Rattle.std.proofs.Common.{◌≡◌, ℕ, zero, suc, ◌+◌, ◌-◌, ◌<◌, ◌==◌, if◌then◌else◌, List, [], ◌∷◌, ◌++◌, length, map, get_or, take, Option, Some, slice_get, sym, ap, ◌∙◌, arith}
use Rattle.std.specs.List.{enumerate_from}
use Rattle.std.specs.Option.{option_map_or}
use Rattle.std.specs.Prelude.{option_map}
use Rattle.std.proofs.lemmas.List.{map-append}
use Rattle.std.proofs.lemmas.Option.{slice_get-get_or, slice_get-map}
use Rattle.mp_sets.specs.declared.tag.Tag.{Tag}
use Rattle.mp_sets.specs.Numbers.{Numbers}
use Rattle.mp_task.specs.AgentTask.{AgentTask}
use Rattle.mp_task.specs.Limits.{AllLess}
use Rattle.mp_tokens.specs.Order.{set_at}
use Rattle.mp_search.specs.Search.{tokens_given}
use Rattle.mp_machine.specs.AgentRecord.{AgentRecord}
use Rattle.mp_machine.specs.Machine.{AgentMachine}
use Rattle.mp_world.specs.Joint.{private_facts}
use Rattle.mp_world.specs.World.{agent_at}
use Rattle.mp_schedule.specs.Machines.{world_of}
use Rattle.mp_audit.specs.Audited.{set_of}
use Rattle.mp_audit.specs.Fits.{PrivatesFit}
use Rattle.mp_certify.specs.Team.{privates_of}

-- the first items with their numbers, with one item more
numbered_more : {X : Type 0} (n i : ℕ) (xs : List X) (x : X) → i < length xs → x ≡ get_or xs i x
    → enumerate_from n (take (suc i) xs) ≡ enumerate_from n (take i xs) ++ (n + i, x) ∷ []
numbered_more n i [] x lt is = absurd (omega (arith, lt))
numbered_more n zero (y ∷ ys) x lt is =
    let same : n ≡ n + zero = omega arith in
    λ j. (same j, sym is j) ∷ []
numbered_more n (suc i) (y ∷ ys) x lt is =
    let same : n + 1 + i ≡ n + suc i = omega arith in
    ap (λ later. (n, y) ∷ later)
    (numbered_more (n + 1) i ys x (omega (arith, lt)) is
    ∙ ap (λ (m : ℕ). enumerate_from (n + 1) (take i ys) ++ (m, x) ∷ []) same)

-- an agent at its place
pub at_place : (machines : List AgentMachine) (i : ℕ) (m : AgentMachine) → i < length machines → m ≡ get_or machines i m → slice_get machines i ≡ Some m
at_place machines i m lt is = slice_get-get_or machines i m lt ∙ ap (λ (x : AgentMachine). Some x) (sym is)

pub own_size : (machines : List AgentMachine) (me i : ℕ) (m : AgentMachine) → i < length machines → m ≡ get_or machines i m → i + 1 ≡ me
    → privates_of machines me ≡ m.done.task.privates
own_size machines me i m lt is same =
    let place : me - 1 ≡ i = omega (arith, same) in
    ap (λ (o : Option AgentMachine). option_map_or (λ x. x.done.task.privates) o 0)
    (ap (slice_get machines) place ∙ at_place machines i m lt is)

module _ (machines : List AgentMachine) (me : ℕ) (mine : Numbers) where
  abbrev facts_in : ℕ × Tag → Numbers
  facts_in x = private_facts (world_of machines []) me mine x

  -- the facts of an agent by its tag
  facts_of_agent : (i : ℕ) (m : AgentMachine) (tag : Tag) → i < length machines → m ≡ get_or machines i m
      → facts_in (1 + i, tag) ≡ (if i + 1 == me then mine else set_at (tokens_given m.done.task m.done.search.kept) tag.token)
  facts_of_agent i m tag lt is =
      let next : suc i ≡ 1 + i = omega arith in
      let same : 1 + i ≡ i + 1 = omega arith in
      let there : agent_at (world_of machines []) (1 + i) ≡ Some m.done =
      ap (agent_at (world_of machines [])) (sym next)
      ∙ slice_get-map (λ (x : AgentMachine). x.done) machines i
      ∙ ap (option_map (λ (x : AgentMachine). x.done)) (at_place machines i m lt is) in
      λ j. if same j == me then mine else set_at (option_map_or (λ (r : AgentRecord). tokens_given r.task r.search.kept) (there j) []) tag.token

  pub facts_more : (tags : List Tag) (lists : List (List ℕ)) (i : ℕ) (m : AgentMachine) (tag : Tag) (list : List ℕ)
      → i < length machines → length tags ≡ length machines → m ≡ get_or machines i m → tag ≡ get_or tags i tag
      → set_of list ≡ (if i + 1 == me then mine else set_at (tokens_given m.done.task m.done.search.kept) tag.token)
      → map set_of lists ≡ map (private_facts (world_of machines []) me mine) (enumerate_from 1 (take i tags))
      → map set_of (lists ++ list ∷ []) ≡ map (private_facts (world_of machines []) me mine) (enumerate_from 1 (take (i + 1) tags))
  facts_more tags lists i m tag list lt lengths is tag_is one so_far =
      let next : suc i ≡ i + 1 = omega arith in
      let inside : i < length tags = omega (arith, lt, lengths) in
      map-append set_of lists (list ∷ [])
      ∙ (λ j. so_far j ++ (one ∙ sym (facts_of_agent i m tag lt is)) j ∷ [])
      ∙ sym (map-append (private_facts (world_of machines []) me mine) (enumerate_from 1 (take i tags)) ((1 + i, tag) ∷ []))
      ∙ ap (map (private_facts (world_of machines []) me mine)) (sym (numbered_more 1 i tags tag inside tag_is))
      ∙ ap (λ (n : ℕ). map (private_facts (world_of machines []) me mine) (enumerate_from 1 (take n tags))) next

-- lists that fit, with one more
pub fits_more : (ts : List AgentTask) (lists : List (List ℕ)) (t : AgentTask) (list : List ℕ) → PrivatesFit ts lists → AllLess t.privates list
    → PrivatesFit (ts ++ t ∷ []) (lists ++ list ∷ [])
fits_more [] [] t list fits one = (one, tt)
fits_more [] (l ∷ ls) t list fits one = absurd fits
fits_more (u ∷ us) [] t list fits one = absurd fits
fits_more (u ∷ us) (l ∷ ls) t list fits one = (fits.0, fits_more us ls t list fits.1 one)
