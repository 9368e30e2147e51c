-- Names have no capital letters, so that folding changes none.
use Rattle.std.proofs.Common.{◌≡◌, refl, ℕ, ◌+◌, ◌<◌, ◌==◌, Bool, true, false, ◌&&◌, ◌||◌, [], ◌∷◌, Some, cond, arith, inl, inr}
use Rattle.std.specs.Prelude.{nat_le}
use Rattle.std.specs.List.{list_all}
use Rattle.std.proofs.lemmas.Bool.{and_parts, or_cases, leb-true, lt-leb, eqb-true}
use Rattle.mp_sexp.specs.Bytes.{folded, folded_byte}
use Rattle.mp_forms.specs.Words.{begins_with_letter, is_digit, is_letter, is_name_byte}
use Rattle.mp_forms.specs.Kinds.{is_name}
use Rattle.mp_text.specs.Lines.{Text}
use Rattle.mp_plans.specs.Names.{if_name}

low : (byte : ℕ) → byte < 65 → folded_byte byte ≡ byte
low byte small = let no : nat_le 65 byte ≡ false = lt-leb 65 byte small in rw no refl

high : (byte : ℕ) → 90 < byte → folded_byte byte ≡ byte
high byte large = let no : nat_le byte 90 ≡ false = lt-leb byte 90 large in rw no (by (nat_le 65 byte))
  where
    by : (test : Bool) → cond (test && false) (byte + 32) byte ≡ byte
    by true = refl
    by false = refl

same_byte : (byte : ℕ) → is_name_byte byte ≡ true → folded_byte byte ≡ byte
same_byte byte h =
    elim (or_cases (is_letter byte || is_digit byte || byte == 45) (byte == 95) h) [
      | inl h1 ↦ elim (or_cases (is_letter byte || is_digit byte) (byte == 45) h1) [
        | inl h2 ↦ elim (or_cases (is_letter byte) (is_digit byte) h2) [
          | inl letter ↦ let least = leb-true 97 byte (and_parts (nat_le 97 byte) (nat_le byte 122) letter).0 in high byte (omega arith)
          | inr digit ↦ let most = leb-true byte 57 (and_parts (nat_le 48 byte) (nat_le byte 57) digit).1 in low byte (omega arith)
        ]
        | inr dash ↦ let is = eqb-true byte 45 dash in low byte (omega arith)
      ]
      | inr line ↦ let is = eqb-true byte 95 line in high byte (omega arith)
    ]

same_bytes : (word : Text) → list_all is_name_byte word ≡ true → folded word ≡ word
same_bytes [] h = refl
same_bytes (byte ∷ word) h =
    let p = and_parts (is_name_byte byte) (list_all is_name_byte word) h in
    let first = same_byte byte p.0 in
    let others = same_bytes word p.1 in
    rw (first, others) refl

same_name : (word : Text) → is_name word ≡ true → folded word ≡ word
unfolding is_name
same_name word h = same_bytes word (and_parts (begins_with_letter word) (list_all is_name_byte word) h).1

-- a name that is folded is a name as it stands
pub named_again : (word name : Text) → is_name word ≡ true → name ≡ folded word → Some name ≡ if_name word
named_again word name h is = let same = same_name word h in rw (h, is, same) refl
