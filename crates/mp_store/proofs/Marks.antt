-- Entries that differ in their marks alone.
use Rattle.std.proofs.Common.{◌≡◌, ℕ, ◌<◌, Bool, true, false, cond, ◌&&◌, List, length, map, get_or, Option, Some, None, All, refl, sym, ap, subst, ◌∙◌, arith}
use Rattle.std.specs.Prelude.{slice_get, slice_set, nat_le, filter_map, option_map}
use Rattle.std.specs.List.{list_any}
use Rattle.std.proofs.Math.ListN.{get_or-map}
use Rattle.std.proofs.lemmas.List.{length-map, map-set, set-get_or}
use Rattle.std.proofs.lemmas.Option.{get_or_from_slice_get}
use Rattle.mp_list.specs.First.{leftmost}
use Rattle.mp_store.specs.declared.entry.Entry.{Entry}
use Rattle.mp_store.specs.declared.entry.Mark.TheVariants.{Open, Expanded, Replaced}
use Rattle.mp_store.specs.Laws.{HasFallingCosts, IsEarlier}
use Rattle.mp_store.specs.Minima.{Numbered, is_cheaper, least_goal, those}
use Rattle.mp_store.specs.Record.{Record, gives_way, is_open}
use Rattle.mp_store.specs.Sent.{was_sent}
use Rattle.mp_store.proofs.Mapped.{any-map, leftmost-map, map-agree, map-map, renumbered, sent-map, those-map}

module _ {K : Type 0} where
  -- an entry as it was kept
  abbrev pub unmarked : Entry K → Entry K
  unmarked e = record e { mark = Open }

  pub record SameButMarks (es others : List (Entry K)) : Type 0 where
    pub same : map unmarked es ≡ map unmarked others

  pub same_length : (es others : List (Entry K)) → SameButMarks es others → length others ≡ length es
  same_length es others alike = sym (length-map others unmarked) ∙ sym (ap length alike.same) ∙ length-map es unmarked

  pub same_at : (es others : List (Entry K)) → SameButMarks es others → (i : ℕ) (d : Entry K) → unmarked (get_or es i d) ≡ unmarked (get_or others i d)
  same_at es others alike i d = sym (get_or-map unmarked es i d) ∙ ap (λ xs. get_or xs i (unmarked d)) alike.same ∙ get_or-map unmarked others i d

  pub turned : (es others : List (Entry K)) → SameButMarks es others → SameButMarks others es
  turned es others alike = record { same = sym alike.same }

  -- what does not look at marks
  pub all_through : (P : Entry K → Type 0) → ((e : Entry K) → P e → P (unmarked e)) → ((e : Entry K) → P (unmarked e) → P e) → (es others : List (Entry K)) → SameButMarks es others → All P es → All P others
  all_through P there back es others alike all i d inside =
      back (get_or others i d) (subst P (same_at es others alike i d) (there (get_or es i d) (all i d (let len = same_length es others alike in omega arith))))

  pub falling_through : (same : K → K → Bool) (r s : Record K) → SameButMarks r.entries s.entries → HasFallingCosts same r → HasFallingCosts same s
  falling_through same r s alike falling i j d before inside is =
      let at : (k : ℕ) → unmarked (get_or r.entries k d) ≡ unmarked (get_or s.entries k d) = λ k. same_at r.entries s.entries alike k d in
      let old : (get_or r.entries j d).g < (get_or r.entries i d).g = falling i j d before (let len = same_length r.entries s.entries alike in omega arith)
      ((λ t. same (at i t).key (at j t).key) ∙ is) in
      subst (λ n. n < (get_or s.entries i d).g) (ap (λ (e : Entry K). e.g) (at j)) (subst (λ n. (get_or r.entries j d).g < n) (ap (λ (e : Entry K). e.g) (at i)) old)

  pub earlier_through : (es others : List (Entry K)) → SameButMarks es others → ((n : ℕ) (d : Entry K) → n < length es → IsEarlier n (get_or es n d).origin) → (n : ℕ) (d : Entry K) → n < length others → IsEarlier n (get_or others n d).origin
  earlier_through es others alike earlier n d inside =
      subst (IsEarlier n) (ap (λ (e : Entry K). e.origin) (same_at es others alike n d)) (earlier n d (let len = same_length es others alike in omega arith))

  sent_as_unmarked : (same : K → K → Bool) (key : K) (g : ℕ) (es : List (Entry K)) (ns : List ℕ)
      → list_any (λ e. same e.key key && nat_le e.g g) (filter_map (slice_get (map unmarked es)) ns) ≡ list_any (λ e. same e.key key && nat_le e.g g) (filter_map (slice_get es) ns)
  sent_as_unmarked same key g es ns =
      ap (list_any (λ e. same e.key key && nat_le e.g g)) (sent-map unmarked es ns)
      ∙ any-map unmarked (λ e. Unit {0}) (λ e. same e.key key && nat_le e.g g) (λ e. same e.key key && nat_le e.g g) (λ e h. refl) (filter_map (slice_get es) ns) (λ k d h. tt)

  pub sent_through : (same : K → K → Bool) (key : K) (g : ℕ) (es others : List (Entry K)) (ns : List ℕ) → SameButMarks es others
      → was_sent same key g (record { entries = es; sent = ns }) ≡ was_sent same key g (record { entries = others; sent = ns })
  sent_through same key g es others ns alike =
      sym (sent_as_unmarked same key g es ns)
      ∙ ap (λ xs. list_any (λ e. same e.key key && nat_le e.g g) (filter_map (slice_get xs) ns)) alike.same
      ∙ sent_as_unmarked same key g others ns

  abbrev pub goal_of : List (Entry K) → Option (Numbered K)
  goal_of es = leftmost is_cheaper None (those (λ e. e.goal) es)

  abbrev pub shown : Numbered K → ℕ × ℕ
  shown x = (x.1.g, x.0)

  goal_as_unmarked : (es : List (Entry K)) (ns : List ℕ) → least_goal (record { entries = map unmarked es; sent = ns }) ≡ least_goal (record { entries = es; sent = ns })
  goal_as_unmarked es ns =
      ap (λ xs. option_map shown (leftmost is_cheaper None xs)) (those-map unmarked (λ e. Unit {0}) (λ e. e.goal) (λ e. e.goal) (λ e h. refl) es (λ k d h. tt))
      ∙ ap (option_map shown) (leftmost-map (renumbered unmarked) is_cheaper is_cheaper (λ a b. refl) None (those (λ e. e.goal) es))
      ∙ by (goal_of es)
    where
      by : (o : Option (Numbered K)) → option_map shown (option_map (renumbered unmarked) o) ≡ option_map shown o
      by None = refl
      by (Some x) = refl

  pub goal_through : (es others : List (Entry K)) (ns : List ℕ) → SameButMarks es others → least_goal (record { entries = es; sent = ns }) ≡ least_goal (record { entries = others; sent = ns })
  goal_through es others ns alike =
      sym (goal_as_unmarked es ns) ∙ ap (λ xs. option_map shown (goal_of xs)) alike.same ∙ goal_as_unmarked others ns

  -- ---- what changes marks alone

  pub closing_marks : (es : List (Entry K)) (n : ℕ) (e : Entry K) → slice_get es n ≡ Some e → SameButMarks es (slice_set es n (record e { mark = Expanded }))
  closing_marks es n e is = record {
    same =
        sym (set-get_or (map unmarked es) n (unmarked e))
        ∙ ap (slice_set (map unmarked es) n) (get_or-map unmarked es n e ∙ ap unmarked (get_or_from_slice_get es n e e is))
        ∙ sym (map-set unmarked es n (record e { mark = Expanded }));
  }

  pub giving_way_marks : (same : K → K → Bool) (key : K) (es : List (Entry K)) → SameButMarks es (map (gives_way same key) es)
  giving_way_marks same key es = record {
    same =
        map-agree unmarked (λ e. Unit {0}) (λ e. unmarked (gives_way same key e)) (λ e h. by e (same e.key key && is_open e.mark)) es (λ k d h. tt)
        ∙ sym (map-map unmarked (gives_way same key) es);
  }
    where
      by : (e : Entry K) (b : Bool) → unmarked e ≡ unmarked (cond b (record e { mark = Replaced }) e)
      by e true = refl
      by e false = refl
