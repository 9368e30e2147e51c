-- The least open entry is closed: what the record is then, and its indices.
use Rattle.std.proofs.Common.{◌≡◌, ℕ, ◌<◌, true, eqb, List, length, Option, Some, None, sym, ap, subst, ◌∙◌, arith, inl, inr}
use Rattle.std.specs.Prelude.{slice_get, slice_set, option_map}
use Rattle.std.specs.Option.{option_map_or}
use Rattle.std.proofs.lemmas.Bool.{cases_eq, false≢true}
use Rattle.std.proofs.lemmas.List.{get_or-set_other, get_or-set_same}
use Rattle.std.proofs.lemmas.Option.{slice_get-get_or}
use Rattle.mp_store.specs.declared.entry.Entry.{Entry}
use Rattle.mp_store.specs.declared.entry.Mark.TheVariants.{Expanded}
use Rattle.mp_store.specs.declared.number_store.Known.{Known}
use Rattle.mp_store.specs.declared.rank.Rank.{Rank}
use Rattle.mp_store.specs.Laws.{IsSound}
use Rattle.mp_store.specs.Minima.{closed, least_open, popped}
use Rattle.mp_store.specs.NumberFields.{AreRanks, IsIndexed, IsLastOf, entry_at, is_fresh, known_at, nothing}
use Rattle.mp_store.specs.Ranks.{first_rank}
use Rattle.mp_store.specs.Record.{Record, is_open}
use Rattle.mp_store.proofs.Indexed.{first_in, first_read}
use Rattle.mp_store.proofs.Marks.{SameButMarks, all_through, closing_marks, goal_through, same_at, same_length, sent_through}
use Rattle.mp_store.proofs.OpenRanks.{ranks_through}
use Rattle.mp_store.proofs.Sound.{closed_sound}

-- the entries once that of a number is closed
abbrev pub closed_entries : List (Entry ℕ) → ℕ → List (Entry ℕ)
closed_entries es n = slice_set es n (record (entry_at es n) { mark = Expanded })

-- the last entry of a key stays the last one, whatever the marks
pub last_through : (es others : List (Entry ℕ)) (k n : ℕ) → SameButMarks es others → IsLastOf es k n → IsLastOf others k n
last_through es others k n alike last =
    let len = same_length es others alike in
    let key : (m : ℕ) → (entry_at es m).key ≡ (entry_at others m).key = λ m. ap (λ (e : Entry ℕ). e.key) (same_at es others alike m nothing) in
    record {
      inside = let h = last.inside in omega arith;
      is = sym (key n) ∙ last.is;
      last = λ m behind inside is. last.last m behind (omega arith) (key m ∙ is);
    }

module _ (r : Record ℕ) (known : List Known) (ranks : List Rank) (goal : Option (ℕ × ℕ)) (indexed : IsIndexed r known ranks goal) where
  pub popped_none : None ≡ first_rank ranks → (None, r) ≡ popped r
  popped_none none =
      let number : None ≡ least_open r = ap (option_map (λ (q : Rank). q.number)) none ∙ first_read r.entries ranks indexed.ranked (λ (q : Rank). q.number) indexed.fresh in
      λ j. (number j, option_map_or (λ n. closed n r) (number j) r)

  module _ (q : Rank) (first : Some q ≡ first_rank ranks) where
    pub in_list : q.number < length r.entries
    in_list = (first_in r.entries ranks indexed.ranked q (sym first)).inside

    at : slice_get r.entries q.number ≡ Some (entry_at r.entries q.number)
    at = slice_get-get_or r.entries q.number nothing in_list

    closing : closed q.number r ≡ record { entries = closed_entries r.entries q.number; sent = r.sent }
    closing = ap (λ o. option_map_or (λ e. record { entries = slice_set r.entries q.number (record e { mark = Expanded }); sent = r.sent }) o r) at

    alike : SameButMarks r.entries (closed_entries r.entries q.number)
    alike = closing_marks r.entries q.number (entry_at r.entries q.number) at

    pub popped_least : (Some q.number, record { entries = closed_entries r.entries q.number; sent = r.sent }) ≡ popped r
    popped_least =
        let number : Some q.number ≡ least_open r = ap (option_map (λ (p : Rank). p.number)) first ∙ first_read r.entries ranks indexed.ranked (λ (p : Rank). p.number) indexed.fresh in
        (λ j. (Some q.number, sym closing j))
        ∙ (λ j. (number j, option_map_or (λ n. closed n r) (number j) r))

    pub closed_ranks : AreRanks (closed_entries r.entries q.number) ranks
    closed_ranks = ranks_through r.entries (closed_entries r.entries q.number) ranks alike opened indexed.ranked
      where
        opened : (n : ℕ) → n < length r.entries → is_open (entry_at (closed_entries r.entries q.number) n).mark ≡ true → is_open (entry_at r.entries n).mark ≡ true
        opened n inside waiting =
            let es = r.entries in
            let shut : Entry ℕ = record (entry_at es q.number) { mark = Expanded } in
            elim (cases_eq n q.number) [
              | inl same ↦
                  absurd (false≢true (sym (ap (λ (e : Entry ℕ). is_open e.mark)
                  (ap (entry_at (closed_entries es q.number)) same ∙ get_or-set_same es q.number shut nothing in_list)) ∙ waiting))
              | inr other ↦ ap (λ (e : Entry ℕ). is_open e.mark) (sym (get_or-set_other es q.number n shut nothing other)) ∙ waiting
            ]

    pub closed_indexed : (rest : List Rank) → AreRanks (closed_entries r.entries q.number) rest → is_fresh (closed_entries r.entries q.number) (first_rank rest) ≡ true
        → IsIndexed (record { entries = closed_entries r.entries q.number; sent = r.sent }) known rest goal
    closed_indexed rest ranked fresh =
        let es = r.entries in
        let shut_es = closed_entries es q.number in
        record {
          sound = subst (IsSound eqb) closing (closed_sound eqb q.number r indexed.sound);
          keyed = all_through (λ e. e.key < length known) (λ e h. h) (λ e h. h) es shut_es alike indexed.keyed;
          bests = λ k h. last_through es shut_es k (known_at known k).best alike (indexed.bests k h);
          sents = λ k g h. sym (sent_through eqb k g es shut_es r.sent alike) ∙ indexed.sents k g h;
          ranked = ranked;
          fresh = fresh;
          least = indexed.least ∙ goal_through es shut_es r.sent alike;
        }
