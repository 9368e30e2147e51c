-- The first line of a text, and the lines behind it.
use Rattle.std.proofs.Common.{◌≡◌, ◌<◌, refl, ap, sym, ℕ, ◌==◌, Bool, true, false, not, true≢false, ◌∷◌, [], get_or, take, drop, length, one-add, ⊎_elim, ◌∙◌, arith}
use Rattle.std.proofs.lemmas.Bool.{cases_lt}
use Rattle.std.proofs.lemmas.List.Sums.{prefix_len-le-length, prefix_len_passes, prefix_len_stops}
use Rattle.memchr.specs.Find.{Nowhere, NoneBefore, Passes, is_byte}
use Rattle.mp_text.specs.Lines.{Text, lines_of, with_first_byte}
use Rattle.mp_text.specs.Reading.{first_length, is_within_line}

-- the first line is what stands before the first line feed, and the others are those of what follows that
abbrev pub IsCut : Text → Type 0
IsCut text = lines_of text ≡ take (first_length text) text ∷ lines_of (drop 1 (drop (first_length text) text))

cut_one : (byte : ℕ) (test : Bool) → (byte == 10) ≡ test → IsCut (byte ∷ [])
cut_one byte true h = rw h
cut_one byte false h = rw h

cut_more : (byte next : ℕ) (text : Text) (test : Bool) → (byte == 10) ≡ test → IsCut (next ∷ text) → IsCut (byte ∷ next ∷ text)
cut_more byte next text true h others = rw h
cut_more byte next text false h others = simp (h, one-add) (ap (with_first_byte byte) (simp one-add at others))

cut : (byte : ℕ) (text : Text) → IsCut (byte ∷ text)
cut byte [] = cut_one byte (byte == 10) refl
cut byte (next ∷ text) = cut_more byte next text (byte == 10) refl (cut next text)

pub cut_of : (text : Text) → false ≡ (length text == 0) → IsCut text
cut_of [] h = absurd (true≢false (sym h))
cut_of (byte ∷ text) h = cut byte text

-- ---- the first line feed

within : (byte : ℕ) (test : Bool) → (byte == 10) ≡ test → not (byte == 10) ≡ true → (byte == 10) ≡ true → ⊥
within byte true e not_feed feed = true≢false (sym not_feed ∙ ap not e)
within byte false e not_feed feed = true≢false (sym feed ∙ e)

stops : (byte : ℕ) (test : Bool) → (byte == 10) ≡ test → not (byte == 10) ≡ false → (byte == 10) ≡ true
stops byte true e stop = e
stops byte false e stop = absurd (true≢false (sym (ap not e) ∙ stop))

module _ (text : Text) where
  -- a line feed stands where bytes of a line end
  feed_at : first_length text < length text → Passes (is_byte 10) text (first_length text)
  feed_at lt = stops (get_or text (first_length text) 0) _ refl (prefix_len_stops is_within_line text 0 lt)

  pub all_within : Nowhere (Passes (is_byte 10) text) 0 (length text) → length text ≡ first_length text
  all_within none = ⊎_elim
      (λ lt. absurd (none (first_length text) (omega arith) lt (feed_at lt)))
      (λ ge. let le = prefix_len-le-length is_within_line text in omega (arith, ge, le))
      (cases_lt (first_length text) (length text))

  -- the first line feed stands behind the bytes of the first line
  pub stops_at : (k : ℕ) → NoneBefore (Passes (is_byte 10) text) 0 (length text) k × Passes (is_byte 10) text k → k ≡ first_length text
  stops_at k found = ⊎_elim
      (λ lt. absurd (within (get_or text k 0) _ refl (prefix_len_passes is_within_line text k 0 lt) found.1))
      (λ ge. ⊎_elim
      (λ lt. absurd (found.0.before (first_length text) (omega arith) lt (feed_at (let high = found.0.high in omega (arith, lt, high)))))
      (λ other. omega (arith, ge, other))
      (cases_lt (first_length text) k))
      (cases_lt k (first_length text))
