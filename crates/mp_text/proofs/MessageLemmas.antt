-- The line of a message, read from the left, is the line of a message between two agents.
use Rattle.std.proofs.Common.{◌≡◌, refl, sym, ap, ◌∙◌, ℕ, ◌≤◌, ◌==◌, true, false, [], ◌∷◌, ◌++◌, length, drop, Option, Some, None, append_assoc}
use Rattle.std.specs.Prelude.{codes, decimal}
use Rattle.std.specs.List.{starts_with}
use Rattle.std.proofs.lemmas.Bool.{and_from, and_parts}
use Rattle.std.proofs.lemmas.List.{drop_at, take_at}
use Rattle.std.proofs.lemmas.Slice.Eq.{bytes_eq-Decides, starts_is}
use Rattle.std.specs.Cmp.{unsigned_Decides}
use Rattle.std.specs.Str.{bytes_eq}
use Rattle.mp_list.proofs.Bools.{same_tests}
use Rattle.mp_list.proofs.Members.{any_from, some_member}
use Rattle.mp_messages.proofs.Taking.{bind_some}
use Rattle.mp_text.specs.Lines.{Text}
use Rattle.mp_text.specs.Reading.{byte_at, is_hexadecimal_left, message_at, message_line_at, pair_at, read_or, text_behind}
use Rattle.mp_text.specs.Schedule.{begins_bytes, is_hexadecimal, is_message, pairs}
use Rattle.mp_text.specs.Trace.{message_head}
use Rattle.mp_text.proofs.PairLemmas.{IsPair, byte_again, byte_read, pair_again, pair_read, text_again, text_read}
use Rattle.mp_text.proofs.TeamLemmas.{in_pairs, of_pairs}

-- the line of a message: its sender, its receiver and its bytes in hexadecimal
pub record IsMessage (agents : ℕ) (line : Text) : Type 0 where
  pub from : ℕ
  pub to : ℕ
  pub digits : Text
  pub pair : IsPair agents from to
  pub is : line ≡ message_head from to ++ digits
  pub bytes : is_hexadecimal digits ≡ true

left_some : (left : Option Text) → is_hexadecimal_left left ≡ true → (digits : Text) × (left ≡ Some digits) × (is_hexadecimal digits ≡ true)
left_some (Some digits) h = (digits, refl, h)
left_some None h = absurd (cc)

message_read : (agents : ℕ) (line rest : Text) → line ≡ codes "  " ++ rest → message_at agents rest ≡ true → IsMessage agents line
unfolding message_at message_head
message_read agents line rest head h =
    let l = left_some _ h in
    let b = bind_some (pair_at agents 62 rest) (λ pair. byte_at 32 pair.1) l.0 l.1 in
    let read = pair_read agents 62 rest b.0 b.1 in
    let blank = byte_read 32 b.0.1 l.0 b.2 in
    record {
      from = b.0.0.0;
      to = b.0.0.1;
      digits = l.0;
      pair = read.pair;
      bytes = l.2;
      is = head ∙ ap (λ t. codes "  " ++ t) (read.is ∙ ap (λ t. decimal b.0.0.0 ++ (62 ∷ (decimal b.0.0.1 ++ t))) blank) ∙ parts b.0.0.0 b.0.0.1 l.0;
    }
  where
    parts : (from to : ℕ) (digits : Text) → codes "  " ++ (decimal from ++ (62 ∷ (decimal to ++ (32 ∷ digits)))) ≡ (codes "  " ++ (decimal from ++ (codes ">" ++ (decimal to ++ codes " ")))) ++ digits
    parts from to digits = sym (rw (append_assoc (decimal from) (62 ∷ (decimal to ++ (32 ∷ []))) digits, append_assoc (decimal to) (32 ∷ []) digits) refl)

line_read : (agents : ℕ) (line : Text) (behind : Option Text) → text_behind (codes "  ") line ≡ behind → read_or behind (message_at agents) false ≡ true → IsMessage agents line
line_read agents line None is h = absurd (cc)
line_read agents line (Some rest) is h = message_read agents line rest (text_read (codes "  ") line rest is) h

pub line_again : (agents : ℕ) (line : Text) → agents ≤ 16 → IsMessage agents line → message_line_at agents line ≡ true
unfolding message_line_at message_at message_head
line_again agents line team m =
    let parts = shape m.from m.to m.digits in
    let e = pair_again agents 62 m.from m.to (32 ∷ m.digits) m.pair team refl refl in
    rw (m.is, parts, text_again (codes "  ") (decimal m.from ++ (62 ∷ (decimal m.to ++ (32 ∷ m.digits)))), e, byte_again 32 m.digits) m.bytes
  where
    shape : (from to : ℕ) (digits : Text) → (codes "  " ++ (decimal from ++ (codes ">" ++ (decimal to ++ codes " ")))) ++ digits ≡ codes "  " ++ (decimal from ++ (62 ∷ (decimal to ++ (32 ∷ digits))))
    shape from to digits = rw (append_assoc (decimal from) (62 ∷ (decimal to ++ (32 ∷ []))) digits, append_assoc (decimal to) (32 ∷ []) digits) refl

-- a text that begins with a head, and what follows it
begins : (head line : Text) → starts_with ◌==◌ line head ≡ true → line ≡ head ++ drop (length head) line
begins head line h = (starts_is unsigned_Decides line head true (sym h)).0 refl

pub message_is : (agents : ℕ) (line : Text) → agents ≤ 16 → message_line_at agents line ≡ is_message agents line
unfolding message_line_at
message_is agents line team = same_tests _ _ to back
  where
    to : message_line_at agents line ≡ true → is_message agents line ≡ true
    to h = let m = line_read agents line (text_behind (codes "  ") line) refl h in
        any_from (λ pair. begins_bytes line (message_head pair.0 pair.1)) (pairs agents) (m.from, m.to) (in_pairs agents m.from m.to m.pair) (has m)
      where
        has : (m : IsMessage agents line) → begins_bytes line (message_head m.from m.to) ≡ true
        has m = let head = message_head m.from m.to in
            rw (m.is, take_at head m.digits (length head) refl, drop_at head m.digits (length head) refl)
            (and_from (bytes_eq head head) (is_hexadecimal m.digits) ((bytes_eq-Decides head head).1 refl) m.bytes)

    back : is_message agents line ≡ true → message_line_at agents line ≡ true
    back h =
        let m = some_member (λ pair. begins_bytes line (message_head pair.0 pair.1)) (pairs agents) h in
        let head = message_head m.0.0 m.0.1 in
        let p = and_parts (starts_with ◌==◌ line head) (is_hexadecimal (drop (length head) line)) m.2 in
        line_again agents line team (record {
          from = m.0.0;
          to = m.0.1;
          digits = drop (length head) line;
          pair = of_pairs agents m.0 m.1;
          is = begins head line p.0;
          bytes = p.1;
        })
