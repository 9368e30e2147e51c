-- A field that is read is the field that is spelled, and what is spelled is read again.
use Rattle.std.proofs.Common.{◌≡◌, ℕ, ◌^◌, ◌<◌, ◌≤◌, Bool, true, false, cond, ltb, eqb, List, [], ◌∷◌, ◌++◌, length, take, drop, Option, Some, None, refl, sym, ap, subst, ◌∙◌, append_assoc, arith, inl, inr}
use Rattle.std.specs.Prelude.{IfSome}
use Rattle.std.specs.Int.{Width, w32, w64, byte_len, from_be_bytes, to_be_bytes}
use Rattle.std.proofs.lemmas.Bool.{ltb-false, le-ltb, lt-ltb, ltb-true, eqb-true}
use Rattle.std.proofs.lemmas.List.{take_at, drop_at, take-append-drop, length-append, length-take}
use Rattle.std.proofs.lemmas.Nat.{be_bytes_4, be_bytes_8, from_be_bytes-to_be_bytes_4, from_be_bytes-to_be_bytes_8}
use Rattle.std.proofs.lemmas.Option.{cond_some}
use Rattle.mp_sets.specs.declared.tag.Tag.{Tag}
use Rattle.mp_messages.specs.declared.message.Findings.{Findings}
use Rattle.mp_messages.specs.declared.message.EndKind.{EndKind}
use Rattle.mp_messages.specs.declared.message.EndKind.TheVariants.{NoPlan, Spent}
use Rattle.mp_messages.specs.Spelling.{number, short_number, flag, optional, ending, tag, findings, limit, AreFindings}
use Rattle.mp_messages.specs.Reading.{◌>>=◌, digits_at, number_at, flag_at, optional_at, ending_at, tag_at, findings_at, trace_at}
use Rattle.mp_messages.proofs.Taking.{IsBytes, IsBytes-take, IsBytes-drop, IsBytes-rest, bind_some, unless_some, chosen, some_is, Takes, Takes-then, Takes-byte, Takes-none}

-- ---- numbers

pub record IsWide (w : Width) (top : ℕ) : Type 0 where
  pub len : (n : ℕ) → length (to_be_bytes w n) ≡ byte_len w
  pub back : (bytes : List ℕ) → length bytes ≡ byte_len w → IsBytes bytes → to_be_bytes w (from_be_bytes w bytes) ≡ bytes
  pub again : (n : ℕ) → n < top → from_be_bytes w (to_be_bytes w n) ≡ n
  pub below : (bytes : List ℕ) → IsBytes bytes → from_be_bytes w bytes < top

wide32 : IsWide w32 (2 ^ 32)
wide32 = record {
  len = λ n. refl;
  back = λ bytes len fits. be_bytes_4 bytes _ len fits refl;
  again = λ n lt. from_be_bytes-to_be_bytes_4 n lt;
  below = λ bytes fits. omega (arith, fits 0, fits 1, fits 2, fits 3);
}

wide64 : IsWide w64 (2 ^ 64)
wide64 = record {
  len = λ n. refl;
  back = λ bytes len fits. be_bytes_8 bytes _ len fits refl;
  again = λ n lt. from_be_bytes-to_be_bytes_8 n lt;
  below = λ bytes fits. omega (arith, fits 0, fits 1, fits 2, fits 3, fits 4, fits 5, fits 6, fits 7);
}

digits_take : (w : Width) (top : ℕ) (wide : IsWide w top) (bytes : List ℕ) (x : ℕ × List ℕ) → IsBytes bytes → digits_at w bytes ≡ Some x → Takes bytes (to_be_bytes w x.0) x.1 × (x.0 < top)
unfolding digits_at
digits_take w top wide bytes x fits e =
    let g = unless_some (ltb (length bytes) (byte_len w)) (from_be_bytes w (take (byte_len w) bytes), drop (byte_len w) bytes) x e in
    let long : byte_len w ≤ length bytes = ltb-false _ _ g.0 in
    let n-is : from_be_bytes w (take (byte_len w) bytes) ≡ x.0 = ap (λ (p : ℕ × List ℕ). p.0) g.1 in
    let rest-is : drop (byte_len w) bytes ≡ x.1 = ap (λ (p : ℕ × List ℕ). p.1) g.1 in
    let front : to_be_bytes w x.0 ≡ take (byte_len w) bytes = rw (← n-is) (wide.back (take (byte_len w) bytes) (omega (arith, length-take (byte_len w) bytes)) (IsBytes-take (byte_len w) bytes fits)) in
    (record { parts = rw (front, ← rest-is) (sym (take-append-drop (byte_len w) bytes)); rest_fits = rw (← rest-is) (IsBytes-drop (byte_len w) bytes fits) }, rw (← n-is) (wide.below (take (byte_len w) bytes) (IsBytes-take (byte_len w) bytes fits)))

digits_again : (w : Width) (top : ℕ) (wide : IsWide w top) (n : ℕ) (rest : List ℕ) → n < top → digits_at w (to_be_bytes w n ++ rest) ≡ Some (n, rest)
unfolding digits_at
digits_again w top wide n rest lt =
    let len = wide.len n in
    let long : ltb (length (to_be_bytes w n ++ rest)) (byte_len w) ≡ false = le-ltb _ _ (omega (arith, length-append (to_be_bytes w n) rest)) in
    rw (long, take_at (to_be_bytes w n) rest (byte_len w) len, drop_at (to_be_bytes w n) rest (byte_len w) len, wide.again n lt) refl

pub short_number_takes : (bytes : List ℕ) (x : ℕ × List ℕ) → IsBytes bytes → digits_at w32 bytes ≡ Some x → Takes bytes (short_number x.0) x.1 × (x.0 < 2 ^ 32)
unfolding short_number
short_number_takes bytes x fits e = digits_take w32 (2 ^ 32) wide32 bytes x fits e

pub short_number_again : (n : ℕ) (rest : List ℕ) → n < 2 ^ 32 → digits_at w32 (short_number n ++ rest) ≡ Some (n, rest)
unfolding short_number
short_number_again n rest lt = digits_again w32 (2 ^ 32) wide32 n rest lt

pub number_takes : (bytes : List ℕ) (x : ℕ × List ℕ) → IsBytes bytes → number_at bytes ≡ Some x → Takes bytes (number x.0) x.1 × (x.0 < limit)
unfolding number_at number
number_takes bytes x fits e =
    let b = bind_some (digits_at w64 bytes) (λ n. cond (ltb n.0 limit) (Some n) None) x e in
    let g = cond_some (ltb b.0.0 limit) b.0 x b.2 in
    let t = digits_take w64 (2 ^ 64) wide64 bytes b.0 fits b.1 in
    subst (λ (y : ℕ × List ℕ). Takes bytes (to_be_bytes w64 y.0) y.1 × (y.0 < limit)) g.1 (t.0, ltb-true _ _ g.0)

pub number_again : (n : ℕ) (rest : List ℕ) → n < limit → number_at (number n ++ rest) ≡ Some (n, rest)
unfolding number_at number
number_again n rest lt =
    let small : ltb n limit ≡ true = lt-ltb _ _ lt in
    rw (digits_again w64 (2 ^ 64) wide64 n rest (omega arith), small) refl

-- ---- one byte

pub flag_takes : (bytes : List ℕ) (x : Bool × List ℕ) → IsBytes bytes → flag_at bytes ≡ Some x → Takes bytes (flag x.0) x.1
unfolding flag_at flag
flag_takes [] x fits e = absurd cc
flag_takes (b ∷ bytes) x fits e =
    let rest = Takes-none bytes (IsBytes-rest b bytes fits) in
    elim (chosen (eqb b 0) (Some (false, bytes)) (cond (eqb b 1) (Some (true, bytes)) None) (Some x) e) [
      | inl first ↦ rw (eqb-true _ _ first.0) (subst (λ (y : Bool × List ℕ). Takes (0 ∷ bytes) (flag y.0) y.1) (some_is _ _ first.1) (Takes-byte 0 bytes [] bytes rest))
      | inr other ↦
          let yes = cond_some (eqb b 1) (true, bytes) x other.1 in
          rw (eqb-true _ _ yes.0) (subst (λ (y : Bool × List ℕ). Takes (1 ∷ bytes) (flag y.0) y.1) yes.1 (Takes-byte 1 bytes [] bytes rest))
    ]

pub flag_again : (b : Bool) (rest : List ℕ) → flag_at (flag b ++ rest) ≡ Some (b, rest)
unfolding flag_at flag
flag_again true rest = refl
flag_again false rest = refl

pub ending_takes : (bytes : List ℕ) (x : EndKind × List ℕ) → IsBytes bytes → ending_at bytes ≡ Some x → Takes bytes (ending x.0) x.1
unfolding ending_at ending
ending_takes [] x fits e = absurd cc
ending_takes (b ∷ bytes) x fits e =
    let rest = Takes-none bytes (IsBytes-rest b bytes fits) in
    elim (chosen (eqb b 1) (Some (NoPlan, bytes)) (cond (eqb b 2) (Some (Spent, bytes)) None) (Some x) e) [
      | inl first ↦ rw (eqb-true _ _ first.0) (subst (λ (y : EndKind × List ℕ). Takes (1 ∷ bytes) (ending y.0) y.1) (some_is _ _ first.1) (Takes-byte 1 bytes [] bytes rest))
      | inr other ↦
          let yes = cond_some (eqb b 2) (Spent, bytes) x other.1 in
          rw (eqb-true _ _ yes.0) (subst (λ (y : EndKind × List ℕ). Takes (2 ∷ bytes) (ending y.0) y.1) yes.1 (Takes-byte 2 bytes [] bytes rest))
    ]

pub ending_again : (end : EndKind) (rest : List ℕ) → ending_at (ending end ++ rest) ≡ Some (end, rest)
unfolding ending_at ending
ending_again NoPlan rest = refl
ending_again Spent rest = refl

-- ---- several fields

pub optional_takes : (bytes : List ℕ) (x : Option ℕ × List ℕ) → IsBytes bytes → optional_at bytes ≡ Some x → Takes bytes (optional x.0) x.1 × IfSome x.0 (λ n. n < limit)
unfolding optional_at optional flag
optional_takes bytes x fits e =
    let b = bind_some (flag_at bytes) (λ there. cond there.0 (number_at there.1 >>= (λ n. Some (Some n.0, n.1))) (Some (None, there.1))) x e in
    let t = flag_takes bytes b.0 fits b.1 in
    at_flag bytes b.0.0 b.0.1 x t b.2
  where
    at_flag : (bytes : List ℕ) (there : Bool) (rest : List ℕ) (x : Option ℕ × List ℕ) → Takes bytes (flag there) rest → cond there (number_at rest >>= (λ n. Some (Some n.0, n.1))) (Some (None, rest)) ≡ Some x → Takes bytes (optional x.0) x.1 × IfSome x.0 (λ n. n < limit)
    at_flag bytes false rest x t e =
        subst (λ (y : Option ℕ × List ℕ). Takes bytes (optional y.0) y.1 × IfSome y.0 (λ n. n < limit)) (some_is (None, rest) x e) (t, tt)
    at_flag bytes true rest x t e =
        let b = bind_some (number_at rest) (λ n. Some (Some n.0, n.1)) x e in
        let n = number_takes rest b.0 t.rest_fits b.1 in
        subst (λ (y : Option ℕ × List ℕ). Takes bytes (optional y.0) y.1 × IfSome y.0 (λ n. n < limit)) (some_is (Some b.0.0, b.0.1) x b.2) (Takes-then bytes (1 ∷ []) rest (number b.0.0) b.0.1 t n.0, n.1)

pub optional_again : (o : Option ℕ) (rest : List ℕ) → IfSome o (λ n. n < limit) → optional_at (optional o ++ rest) ≡ Some (o, rest)
unfolding optional_at optional flag_at
optional_again None rest h = refl
optional_again (Some n) rest h = rw (number_again n rest h) refl

pub tag_takes : (bytes : List ℕ) (x : Tag × List ℕ) → IsBytes bytes → tag_at bytes ≡ Some x → Takes bytes (tag x.0) x.1 × (x.0.token < limit)
unfolding tag_at tag
tag_takes bytes x fits e =
    let a = bind_some (number_at bytes) (λ token. flag_at token.1 >>= λ met. Some (record { token = token.0; met = met.0 }, met.1)) x e in
    let b = bind_some (flag_at a.0.1) (λ met. Some (record { token = a.0.0; met = met.0 }, met.1)) x a.2 in
    let t0 = number_takes bytes a.0 fits a.1 in
    let t1 = flag_takes a.0.1 b.0 t0.0.rest_fits b.1 in
    let made : Tag × List ℕ = (record { token = a.0.0; met = b.0.0 }, b.0.1) in
    subst (λ (y : Tag × List ℕ). Takes bytes (number y.0.token ++ flag y.0.met) y.1 × (y.0.token < limit)) (some_is made x b.2) (Takes-then bytes (number a.0.0) a.0.1 (flag b.0.0) b.0.1 t0.0 t1, t0.1)

pub tag_again : (t : Tag) (rest : List ℕ) → t.token < limit → tag_at (tag t ++ rest) ≡ Some (t, rest)
unfolding tag_at tag
tag_again t rest lt =
    ap tag_at (append_assoc (number t.token) (flag t.met) rest) ∙ rw (number_again t.token (flag t.met ++ rest) lt, flag_again t.met rest) refl

pub trace_takes : (bytes : List ℕ) (x : (ℕ × ℕ) × List ℕ) → IsBytes bytes → trace_at bytes ≡ Some x → Takes bytes (number x.0.0 ++ number x.0.1) x.1 × (x.0.0 < limit) × (x.0.1 < limit)
unfolding trace_at
trace_takes bytes x fits e =
    let a = bind_some (number_at bytes) (λ sent. number_at sent.1 >>= λ back. Some ((sent.0, back.0), back.1)) x e in
    let b = bind_some (number_at a.0.1) (λ back. Some ((a.0.0, back.0), back.1)) x a.2 in
    let t0 = number_takes bytes a.0 fits a.1 in
    let t1 = number_takes a.0.1 b.0 t0.0.rest_fits b.1 in
    let made : (ℕ × ℕ) × List ℕ = ((a.0.0, b.0.0), b.0.1) in
    subst (λ (y : (ℕ × ℕ) × List ℕ). Takes bytes (number y.0.0 ++ number y.0.1) y.1 × (y.0.0 < limit) × (y.0.1 < limit)) (some_is made x b.2) (Takes-then bytes (number a.0.0) a.0.1 (number b.0.0) b.0.1 t0.0 t1.0, t0.1, t1.1)

pub trace_again : (sent back : ℕ) (rest : List ℕ) → sent < limit → back < limit → trace_at ((number sent ++ number back) ++ rest) ≡ Some ((sent, back), rest)
unfolding trace_at
trace_again sent back rest s b =
    ap trace_at (append_assoc (number sent) (number back) rest) ∙ rw (number_again sent (number back ++ rest) s, number_again back rest b) refl

pub findings_take : (bytes : List ℕ) (x : Findings × List ℕ) → IsBytes bytes → findings_at bytes ≡ Some x → Takes bytes (findings x.0) x.1 × AreFindings x.0
unfolding findings_at findings
findings_take bytes x fits e =
    let a = bind_some (number_at bytes) (λ n. optional_at n.1 >>= λ least. optional_at least.1 >>= λ under_way. optional_at under_way.1 >>= λ goal. flag_at goal.1 >>= λ spent. Some (record { number = n.0; least = least.0; under_way = under_way.0; goal = goal.0; spent = spent.0 }, spent.1)) x e in
    let b = bind_some (optional_at a.0.1) (λ least. optional_at least.1 >>= λ under_way. optional_at under_way.1 >>= λ goal. flag_at goal.1 >>= λ spent. Some (record { number = a.0.0; least = least.0; under_way = under_way.0; goal = goal.0; spent = spent.0 }, spent.1)) x a.2 in
    let c = bind_some (optional_at b.0.1) (λ under_way. optional_at under_way.1 >>= λ goal. flag_at goal.1 >>= λ spent. Some (record { number = a.0.0; least = b.0.0; under_way = under_way.0; goal = goal.0; spent = spent.0 }, spent.1)) x b.2 in
    let d = bind_some (optional_at c.0.1) (λ goal. flag_at goal.1 >>= λ spent. Some (record { number = a.0.0; least = b.0.0; under_way = c.0.0; goal = goal.0; spent = spent.0 }, spent.1)) x c.2 in
    let f = bind_some (flag_at d.0.1) (λ spent. Some (record { number = a.0.0; least = b.0.0; under_way = c.0.0; goal = d.0.0; spent = spent.0 }, spent.1)) x d.2 in
    let t0 = number_takes bytes a.0 fits a.1 in
    let t1 = optional_takes a.0.1 b.0 t0.0.rest_fits b.1 in
    let t2 = optional_takes b.0.1 c.0 t1.0.rest_fits c.1 in
    let t3 = optional_takes c.0.1 d.0 t2.0.rest_fits d.1 in
    let t4 = flag_takes d.0.1 f.0 t3.0.rest_fits f.1 in
    let e34 = Takes-then c.0.1 (optional d.0.0) d.0.1 (flag f.0.0) f.0.1 t3.0 t4 in
    let e24 = Takes-then b.0.1 (optional c.0.0) c.0.1 (optional d.0.0 ++ flag f.0.0) f.0.1 t2.0 e34 in
    let e14 = Takes-then a.0.1 (optional b.0.0) b.0.1 (optional c.0.0 ++ (optional d.0.0 ++ flag f.0.0)) f.0.1 t1.0 e24 in
    let e04 = Takes-then bytes (number a.0.0) a.0.1 (optional b.0.0 ++ (optional c.0.0 ++ (optional d.0.0 ++ flag f.0.0))) f.0.1 t0.0 e14 in
    let made : Findings × List ℕ = (record { number = a.0.0; least = b.0.0; under_way = c.0.0; goal = d.0.0; spent = f.0.0 }, f.0.1) in
    subst (λ (y : Findings × List ℕ). Takes bytes (number y.0.number ++ (optional y.0.least ++ (optional y.0.under_way ++ (optional y.0.goal ++ flag y.0.spent)))) y.1 × AreFindings y.0) {x = made} (some_is made x f.2) (e04, record { number = t0.1; least = t1.1; under_way = t2.1; goal = t3.1 })

pub findings_again : (f : Findings) (rest : List ℕ) → AreFindings f → findings_at (findings f ++ rest) ≡ Some (f, rest)
unfolding findings_at findings
findings_again f rest fits =
    let regrouped : findings f ++ rest ≡ number f.number ++ (optional f.least ++ (optional f.under_way ++ (optional f.goal ++ (flag f.spent ++ rest)))) = simp append_assoc in
    ap findings_at regrouped ∙ rw (number_again f.number (optional f.least ++ (optional f.under_way ++ (optional f.goal ++ (flag f.spent ++ rest)))) fits.number, optional_again f.least (optional f.under_way ++ (optional f.goal ++ (flag f.spent ++ rest))) fits.least, optional_again f.under_way (optional f.goal ++ (flag f.spent ++ rest)) fits.under_way, optional_again f.goal (flag f.spent ++ rest) fits.goal, flag_again f.spent rest) refl
