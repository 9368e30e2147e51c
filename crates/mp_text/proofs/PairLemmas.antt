-- Bytes and pairs of agents: what is read is what is written, and is read again.
use Rattle.std.proofs.Common.{◌≡◌, refl, ap, ◌∙◌, subst, ℕ, ◌≤◌, ◌==◌, true, false, [], ◌∷◌, ◌++◌, Some}
use Rattle.std.specs.Prelude.{decimal}
use Rattle.std.proofs.lemmas.Bool.{eqb-true, eq-eqb}
use Rattle.std.proofs.lemmas.Option.{cond_some}
use Rattle.mp_messages.proofs.Taking.{bind_some, unless_some}
use Rattle.mp_text.specs.Lines.{Text}
use Rattle.mp_text.specs.Reading.{agent_at, byte_at, pair_at, text_behind}
use Rattle.mp_text.proofs.NumberLemmas.{IsStop, agent_again, agent_read}

pub byte_read : (wanted : ℕ) (text rest : Text) → byte_at wanted text ≡ Some rest → text ≡ wanted ∷ rest
unfolding byte_at
byte_read wanted [] rest e = absurd (cc)
byte_read wanted (byte ∷ text) rest e =
    let g = cond_some (byte == wanted) text rest e in
    let is : byte ≡ wanted = eqb-true byte wanted g.0 in
    rw (is, g.1) refl

pub byte_again : (wanted : ℕ) (rest : Text) → byte_at wanted (wanted ∷ rest) ≡ Some rest
unfolding byte_at
byte_again wanted rest = let h : (wanted == wanted) ≡ true = eq-eqb wanted wanted refl in rw h refl

pub text_read : (head text rest : Text) → text_behind head text ≡ Some rest → text ≡ head ++ rest
unfolding text_behind
text_read [] text rest e = cc
text_read (byte ∷ head) text rest e =
    let b = bind_some (byte_at byte text) (text_behind head) rest e in
    byte_read byte text b.0 b.1 ∙ ap (λ t. byte ∷ t) (text_read head b.0 rest b.2)

pub text_again : (head rest : Text) → text_behind head (head ++ rest) ≡ Some rest
unfolding text_behind
text_again [] rest = refl
text_again (byte ∷ head) rest = rw (byte_again byte (head ++ rest), text_again head rest) refl

-- two agents of a team that differ
pub record IsPair (agents one other : ℕ) : Type 0 where
  pub some : 1 ≤ one
  pub few : one ≤ agents
  pub other_some : 1 ≤ other
  pub other_few : other ≤ agents
  pub differ : (one == other) ≡ false

-- a pair was read from the front of a text
pub record IsPairRead (agents between : ℕ) (text : Text) (x : (ℕ × ℕ) × Text) : Type 0 where
  pub pair : IsPair agents x.0.0 x.0.1
  pub is : text ≡ decimal x.0.0 ++ (between ∷ (decimal x.0.1 ++ x.1))

pub pair_read : (agents between : ℕ) (text : Text) (x : (ℕ × ℕ) × Text) → pair_at agents between text ≡ Some x → IsPairRead agents between text x
unfolding pair_at
pair_read agents between text x e =
    let a = bind_some (agent_at agents text) _ x e in
    let b = bind_some (byte_at between a.0.1) _ x a.2 in
    let c = bind_some (agent_at agents b.0) _ x b.2 in
    let g = unless_some (a.0.0 == c.0.0) ((a.0.0, c.0.0), c.0.1) x c.2 in
    let one = agent_read agents text a.0 a.1 in
    let sep = byte_read between a.0.1 b.0 b.1 in
    let two = agent_read agents b.0 c.0 c.1 in
    subst (λ y. IsPairRead agents between text y) g.1 (record {
      pair = record { some = one.some; few = one.few; other_some = two.some; other_few = two.few; differ = g.0 };
      is = one.is ∙ ap (λ t. decimal a.0.0 ++ t) (sep ∙ ap (λ t. between ∷ t) two.is);
    })

pub pair_again : (agents between one other : ℕ) (rest : Text) → IsPair agents one other → agents ≤ 16
    → IsStop (between ∷ []) → IsStop rest
    → pair_at agents between (decimal one ++ (between ∷ (decimal other ++ rest))) ≡ Some ((one, other), rest)
unfolding pair_at
pair_again agents between one other rest p team sep stop =
    rw (
      agent_again agents one (between ∷ (decimal other ++ rest)) p.some p.few team sep,
      byte_again between (decimal other ++ rest),
      agent_again agents other rest p.other_some p.other_few team stop,
      p.differ,
    ) refl
