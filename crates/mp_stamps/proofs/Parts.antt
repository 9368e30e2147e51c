-- The part of each agent.
use Rattle.std.proofs.Common.{◌≡◌, ◌≢◌, ℕ, suc, ◌+◌, ◌-◌, ◌<◌, ◌≤◌, eq-eqb, ne_eqb, Bool, true, false, List, [], ◌∷◌, ◌++◌, length, get_or, refl, sym, ap, subst, ◌∙◌, arith}
use Rattle.std.specs.Prelude.{All, ◌==◌}
use Rattle.std.specs.List.{AllPairs, filter, flat_map}
use Rattle.std.proofs.lemmas.List.{append-nil}
use Rattle.std.proofs.lemmas.List.Elements.{All-append, All-from_get_or, All-nil, All-weaker, filter-append}
use Rattle.std.proofs.lemmas.List.Kept.{AllPairs-filter}
use Rattle.std.proofs.lemmas.List.Sorted as sorting
use native.Mathlib.Decide.{ℕ_discrete}
use mathlib.Core.Logic.{dite}
use Rattle.mp_messages.specs.declared.history.Entry.{Entry}
use Rattle.mp_messages.specs.declared.history.Entry.TheVariants.{Act, Put, Took}
use Rattle.mp_messages.specs.History.{agent_of, part}
use Rattle.mp_stamps.specs.Lists.{IsAgentOf, IsOwn, Matched, Rises, entries, list_of}
use Rattle.mp_stamps.specs.Merged.{Merged}
use Rattle.mp_stamps.specs.Sorting.{AreSorted, has_stamp}
use Rattle.mp_stamps.specs.declared.stamped.Stamped.{Stamped}
use Rattle.mp_stamps.proofs.Filters.{filter_all, filter_comm, filter_mapped, filter_none, pairs_append}
use Rattle.mp_stamps.proofs.Sorted.{NotAfter, NotLater, in_order, same_sorted}

abbrev pub is_of : ℕ → Stamped → Bool
is_of agent s = agent_of s.entry == agent

abbrev pub flat : List (List Stamped) → List Stamped
flat lists = flat_map (λ list. list) lists

-- each list has entries of its agent alone, numbered from some number on
abbrev pub OfAgentsFrom : ℕ → List (List Stamped) → Type 0
OfAgentsFrom n [] = Unit {0}
OfAgentsFrom n (list ∷ lists) = All (λ (s : Stamped). agent_of s.entry ≡ n) list × OfAgentsFrom (suc n) lists

own_agent : (agents agent : ℕ) (e : Entry) → IsOwn agents agent e → agent_of e ≡ agent
own_agent agents agent (Act by kind) is = is
own_agent agents agent (Put from to bytes) is = is.0
own_agent agents agent (Took by from bytes) is = is.0

agents_from : (n : ℕ) (lists : List (List Stamped))
    → ((k : ℕ) → k < length lists → All (λ (s : Stamped). agent_of s.entry ≡ n + k) (get_or lists k [])) → OfAgentsFrom n lists
agents_from n [] each = tt
agents_from n (list ∷ lists) each = (
  subst (λ a. All (λ (s : Stamped). agent_of s.entry ≡ a) list) (zero_more n) (each 0 (omega arith)),
  agents_from (suc n) lists (λ k low. subst (λ a. All (λ (s : Stamped). agent_of s.entry ≡ a) (get_or lists k [])) (one_more n k) (each (suc k) (omega arith))),
)
  where
    zero_more : (a : ℕ) → a + 0 ≡ a
    zero_more a = omega arith

    one_more : (a b : ℕ) → a + suc b ≡ suc a + b
    one_more a b = omega arith

pub of_agents : (lists : List (List Stamped)) → Matched lists → OfAgentsFrom 1 lists
of_agents lists m = agents_from 1 lists (λ k low. All-weaker (λ (s : Stamped). IsOwn (length lists) (1 + k) s.entry) (λ (s : Stamped). agent_of s.entry ≡ 1 + k)
    (λ s is. own_agent (length lists) (1 + k) s.entry is) (get_or lists k [])
    (subst (λ j. All (λ (s : Stamped). IsOwn (length lists) (1 + k) s.entry) (get_or lists j [])) (less_one k) (m.own (1 + k) (record { from_1 = omega arith; at_most = omega arith }))))
  where
    less_one : (k : ℕ) → 1 + k - 1 ≡ k
    less_one k = omega arith

pub all_rise : (lists : List (List Stamped)) → Matched lists → All Rises lists
all_rise lists m = All-from_get_or Rises lists [] (λ i low. subst (λ j. Rises (get_or lists j [])) (less_one i) (m.rise (1 + i) (record { from_1 = omega arith; at_most = omega arith })))
  where
    less_one : (k : ℕ) → 1 + k - 1 ≡ k
    less_one k = omega arith

from_on : (n : ℕ) (lists : List (List Stamped)) → OfAgentsFrom n lists → All (λ (s : Stamped). n ≤ agent_of s.entry) (flat lists)
from_on n [] of = All-nil (λ (s : Stamped). n ≤ agent_of s.entry)
from_on n (list ∷ lists) of = All-append (λ (s : Stamped). n ≤ agent_of s.entry) list (flat lists)
    (All-weaker (λ (s : Stamped). agent_of s.entry ≡ n) (λ (s : Stamped). n ≤ agent_of s.entry) (λ s e. omega arith) list of.0)
    (All-weaker (λ (s : Stamped). suc n ≤ agent_of s.entry) (λ (s : Stamped). n ≤ agent_of s.entry) (λ s e. omega arith) (flat lists) (from_on (suc n) lists of.1))

-- of the lists one after another an agent has its own
none_before : (agent n : ℕ) (lists : List (List Stamped)) → agent < n → OfAgentsFrom n lists → filter (is_of agent) (flat lists) ≡ []
none_before agent n lists low of = filter_none (is_of agent) (flat lists)
    (All-weaker (λ (s : Stamped). n ≤ agent_of s.entry) (λ (s : Stamped). is_of agent s ≡ false) (λ s e. ne_eqb (agent_of s.entry) agent (λ same. omega arith)) (flat lists) (from_on n lists of))

own_part : (agent n : ℕ) (lists : List (List Stamped)) → n ≤ agent → OfAgentsFrom n lists → filter (is_of agent) (flat lists) ≡ get_or lists (agent - n) []
own_part agent n [] low of = refl
own_part agent n (list ∷ lists) low of = filter-append (is_of agent) list (flat lists) ∙ dite (ℕ_discrete agent n)
    (λ same. ap (λ l. l ++ filter (is_of agent) (flat lists)) (filter_all (is_of agent) list
    (All-weaker (λ (s : Stamped). agent_of s.entry ≡ n) (λ (s : Stamped). is_of agent s ≡ true) (λ s e. eq-eqb (agent_of s.entry) agent (e ∙ sym same)) list of.0))
    ∙ (ap (λ l. list ++ l) (none_before agent (suc n) lists (omega arith) of.1)
    ∙ (append-nil list ∙ ap (λ k. get_or (list ∷ lists) k []) (no_more agent n same))))
    (λ other. ap (λ l. l ++ filter (is_of agent) (flat lists)) (filter_none (is_of agent) list
    (All-weaker (λ (s : Stamped). agent_of s.entry ≡ n) (λ (s : Stamped). is_of agent s ≡ false) (λ s e. ne_eqb (agent_of s.entry) agent (λ same. other (sym same ∙ e))) list of.0))
    ∙ (own_part agent (suc n) lists (omega arith) of.1 ∙ ap (λ k. get_or (list ∷ lists) k []) (one_less agent n other low)))
  where
    no_more : (a b : ℕ) → a ≡ b → 0 ≡ a - b
    no_more a b same = omega arith

    one_less : (a b : ℕ) → a ≢ b → b ≤ a → suc (a - suc b) ≡ a - b
    one_less a b other le = omega arith

-- the lists one after another go by agents
by_agents : (n : ℕ) (lists : List (List Stamped)) → OfAgentsFrom n lists → AllPairs NotAfter (flat lists)
by_agents n [] of = λ i j d low within. absurd (omega arith)
by_agents n (list ∷ lists) of = pairs_append NotAfter list (flat lists)
    (λ i j d low within. let a = of.0 i d (omega arith) in let b = of.0 j d within in omega arith)
    (by_agents (suc n) lists of.1)
    (All-weaker (λ (s : Stamped). agent_of s.entry ≡ n) (λ (s : Stamped). All (NotAfter s) (flat lists))
    (λ s e. All-weaker (λ (t : Stamped). suc n ≤ agent_of t.entry) (NotAfter s) (λ t f. omega arith) (flat lists) (from_on (suc n) lists of.1)) list of.0)

-- every entry is one of its agent
flat_own : (agents n : ℕ) (lists : List (List Stamped)) → 1 ≤ n
    → ((k : ℕ) → k < length lists → IsAgentOf agents (n + k) × All (λ (s : Stamped). IsOwn agents (n + k) s.entry) (get_or lists k []))
    → All (λ (s : Stamped). IsAgentOf agents (agent_of s.entry) × IsOwn agents (agent_of s.entry) s.entry) (flat lists)
flat_own agents n [] low each = All-nil (λ (s : Stamped). IsAgentOf agents (agent_of s.entry) × IsOwn agents (agent_of s.entry) s.entry)
flat_own agents n (list ∷ lists) low each = All-append (λ (s : Stamped). IsAgentOf agents (agent_of s.entry) × IsOwn agents (agent_of s.entry) s.entry) list (flat lists)
    (let first = each 0 (omega arith) in All-weaker (λ (s : Stamped). IsOwn agents (n + 0) s.entry)
    (λ (s : Stamped). IsAgentOf agents (agent_of s.entry) × IsOwn agents (agent_of s.entry) s.entry)
    (λ s is. let e = own_agent agents (n + 0) s.entry is in
    (subst (IsAgentOf agents) (sym e) first.0, subst (λ a. IsOwn agents a s.entry) (sym e) is)) list first.1)
    (flat_own agents (suc n) lists (omega arith) (λ k within. subst (λ a. IsAgentOf agents a × All (λ (s : Stamped). IsOwn agents a s.entry) (get_or lists k [])) (next n k) (each (suc k) (omega arith))))
  where
    next : (a b : ℕ) → a + suc b ≡ suc a + b
    next a b = omega arith

module _ (lists : List (List Stamped)) (m : Matched lists) (order : List Stamped) (sorted : AreSorted (flat lists) order) where
  pub is_merged : Merged lists (entries order)
  is_merged = record {
    order = order;
    same = sorted.same;
    in_order = in_order order sorted.rise (λ t. subst (AllPairs NotAfter) (sym (sorted.stay t)) (AllPairs-filter NotAfter (has_stamp t) (flat lists) (by_agents 1 lists (of_agents lists m))));
    log_is = refl;
  }

  pub all_own : All (λ (s : Stamped). IsAgentOf (length lists) (agent_of s.entry) × IsOwn (length lists) (agent_of s.entry) s.entry) order
  all_own = sorting.All-permutation (λ (s : Stamped). IsAgentOf (length lists) (agent_of s.entry) × IsOwn (length lists) (agent_of s.entry) s.entry) (flat lists) order sorted.same
      (flat_own (length lists) 1 lists (omega arith) (λ k low. let is : IsAgentOf (length lists) (1 + k) = record { from_1 = omega arith; at_most = omega arith } in
      (is, subst (λ j. All (λ (s : Stamped). IsOwn (length lists) (1 + k) s.entry) (get_or lists j [])) (less k) (m.own (1 + k) is))))
    where
      less : (k : ℕ) → 1 + k - 1 ≡ k
      less k = omega arith

  own_in_flat : (agent : ℕ) → IsAgentOf (length lists) agent → filter (is_of agent) (flat lists) ≡ list_of lists agent
  own_in_flat agent is = own_part agent 1 lists is.from_1 (of_agents lists m)

  -- an agent's entries of the log are its list
  pub own_in_order : (agent : ℕ) → IsAgentOf (length lists) agent → filter (is_of agent) order ≡ list_of lists agent
  own_in_order agent is = same_sorted (filter (is_of agent) order) (list_of lists agent)
      (AllPairs-filter NotLater (is_of agent) order sorted.rise)
      (λ i j d low within. let r = m.rise agent is i j d low within in omega arith)
      (λ t. filter_comm (has_stamp t) (is_of agent) order
      ∙ (ap (filter (is_of agent)) (sorted.stay t)
      ∙ (filter_comm (is_of agent) (has_stamp t) (flat lists) ∙ ap (filter (has_stamp t)) (own_in_flat agent is))))

  pub parts_are : (agent : ℕ) → IsAgentOf (length lists) agent → part (entries order) agent ≡ entries (list_of lists agent)
  parts_are agent is = filter_mapped (λ (s : Stamped). s.entry) (λ e. agent_of e == agent) order ∙ ap entries (own_in_order agent is)

  pub agents_are : All (λ e. IsAgentOf (length lists) (agent_of e)) (entries order)
  agents_are = Rattle.std.proofs.lemmas.List.Elements.All-map (λ e. IsAgentOf (length lists) (agent_of e)) (λ (s : Stamped). s.entry) order
      (All-weaker (λ (s : Stamped). IsAgentOf (length lists) (agent_of s.entry) × IsOwn (length lists) (agent_of s.entry) s.entry) (λ (s : Stamped). IsAgentOf (length lists) (agent_of s.entry)) (λ s is. is.0) order all_own)
