-- The agents of a team, its pairs and its events, as members of their lists.
use Rattle.std.proofs.Common.{◌≡◌, refl, sym, ◌∙◌, subst, ℕ, ◌+◌, ◌-◌, ◌≤◌, ◌==◌, false, not, map, arith, inl, inr}
use Rattle.std.specs.Prelude.{Contains}
use Rattle.std.proofs.lemmas.List.Elements.{Contains-append_cases, Contains-append_left, Contains-append_right}
use Rattle.std.proofs.lemmas.Bool.{eqb-false, ne_eqb, not-true}
use Rattle.std.proofs.lemmas.List.FromFn.{get_or-range_with_len, length-range_with_len}
use Rattle.mp_list.proofs.Members.{contains_head, contains_tail, contains_cases, from_flat_map, from_map, to_flat_map, to_map}
use Rattle.mp_messages.specs.declared.history.Event.{Event}
use Rattle.mp_messages.specs.declared.history.Event.TheVariants.{Expand, Take, Start}
use Rattle.mp_text.specs.Schedule.{events_of, pairs, team}
use Rattle.mp_text.proofs.MemberLemmas.{from_filter, to_filter}
use Rattle.mp_text.proofs.PairLemmas.{IsPair}

in_team : (agents n : ℕ) → 1 ≤ n → n ≤ agents → Contains (team agents) n
in_team agents n some few =
    let long = length-range_with_len 1 agents in
    (n - 1, omega (arith, long), get_or-range_with_len 1 agents (n - 1) n (omega arith) ∙ omega arith)

of_team : (agents n : ℕ) → Contains (team agents) n → (1 ≤ n) × (n ≤ agents)
of_team agents n found =
    let long = length-range_with_len 1 agents in
    let lt = found.1 in
    let is : 1 + found.0 ≡ n = sym (get_or-range_with_len 1 agents found.0 n (omega (arith, long, lt))) ∙ found.2 in
    (omega (arith, is), omega (arith, is, long, lt))

differs : (a b : ℕ) → (a == b) ≡ false → (b == a) ≡ false
differs a b h = ne_eqb b a (λ e. eqb-false a b h (sym e))

pub in_pairs : (agents one other : ℕ) → IsPair agents one other → Contains (pairs agents) (one, other)
in_pairs agents one other p =
    to_flat_map _ (team agents) one (one, other) (in_team agents one p.some p.few)
    (to_map (λ x. (one, x)) _ other (to_filter (λ x. not (x == one)) (team agents) other (in_team agents other p.other_some p.other_few)
    (rw (differs one other p.differ) refl)))

pub of_pairs : (agents : ℕ) (pair : ℕ × ℕ) → Contains (pairs agents) pair → IsPair agents pair.0 pair.1
of_pairs agents pair found =
    let a = from_flat_map _ (team agents) pair found in
    let b = from_map (λ (x : ℕ). (a.0, x)) _ pair a.2 in
    let c = from_filter (λ x. not (x == a.0)) (team agents) b.0 b.1 in
    let one = of_team agents a.0 a.1 in
    let other = of_team agents b.0 c.0 in
    subst (λ p. IsPair agents p.0 p.1) b.2 (record {
      some = one.0;
      few = one.1;
      other_some = other.0;
      other_few = other.1;
      differ = differs b.0 a.0 (not-true (b.0 == a.0) c.1);
    })

-- an event that a team of so many can have
abbrev pub IsOf : ℕ → Event → Type 0
IsOf agents (Expand agent) = (1 ≤ agent) × (agent ≤ agents)
IsOf agents (Take by from) = IsPair agents by from
IsOf agents Start = Unit {0}

pub in_events : (agents : ℕ) (event : Event) → IsOf agents event → Contains (events_of agents) event
in_events agents Start h = contains_head Start _
in_events agents (Expand agent) h =
    contains_tail Start _ _ (Contains-append_left (map (λ a. Expand a) (team agents)) (map (λ pair. Take pair.0 pair.1) (pairs agents)) _
    (to_map (λ a. Expand a) (team agents) agent (in_team agents agent h.0 h.1)))
in_events agents (Take by from) h =
    contains_tail Start _ _ (Contains-append_right (map (λ a. Expand a) (team agents)) (map (λ pair. Take pair.0 pair.1) (pairs agents)) _
    (to_map (λ pair. Take pair.0 pair.1) (pairs agents) (by, from) (in_pairs agents by from h)))

pub of_events : (agents : ℕ) (event : Event) → Contains (events_of agents) event → IsOf agents event
of_events agents event found =
    elim (contains_cases Start _ event found) [
      | inl here ↦ subst (IsOf agents) here tt
      | inr there ↦
          elim (Contains-append_cases (map (λ a. Expand a) (team agents)) (map (λ pair. Take pair.0 pair.1) (pairs agents)) event there) [
            | inl expand ↦ let a = from_map (λ a. Expand a) (team agents) event expand in subst (IsOf agents) a.2 (of_team agents a.0 a.1)
            | inr take ↦ let p = from_map (λ pair. Take pair.0 pair.1) (pairs agents) event take in subst (IsOf agents) p.2 (of_pairs agents p.0 p.1)
          ]
    ]
