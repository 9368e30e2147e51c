-- How the messages between two agents change, after a schedule and after its cut.
use Rattle.mp_world.proofs.Basics.{◌≡◌, ◌≢◌, Bool, true, false, List, [], ◌∷◌, ◌++◌, refl, sym, ap, subst, ◌∙◌, append-nil, append_assoc}
use Rattle.mp_team_snapshots.specs.CutMail.{AreCut, IsParted}

pub same_head : {X : Type 0} (x y : X) (xs ys : List X) → x ∷ xs ≡ y ∷ ys → x ≡ y
same_head x y xs ys e = cc

pub same_tail : {X : Type 0} (x y : X) (xs ys : List X) → x ∷ xs ≡ y ∷ ys → xs ≡ ys
same_tail x y xs ys e = cc

module _ {X : Type 0} (marker : X) where
  -- the same, of other lists that are equal
  pub cut_again :
      (sent sent' taken taken' : Bool) (counted counted' first first' second second' : List X)
      → sent' ≡ sent → taken' ≡ taken → counted' ≡ counted → first' ≡ first → second' ≡ second
      → AreCut marker sent taken counted first second → AreCut marker sent' taken' counted' first' second'
  cut_again sent sent' taken taken' counted counted' first first' second second' a b c d e is =
      subst (λ (T : Type 0). T) (sym (λ i. AreCut marker (a i) (b i) (c i) (d i) (e i))) is

  -- the sender has recorded and sends more
  pub first_grows : (taken : Bool) (counted first second more : List X)
      → AreCut marker true taken counted first second → AreCut marker true taken counted (first ++ more) second
  first_grows true counted first second more is = is
  first_grows false counted first second more is = record {
    rest = is.rest;
    later = is.later ++ more;
    then = is.then;
    now = ap (λ xs. xs ++ more) is.now ∙ append_assoc is.rest (marker ∷ is.later) more;
  }

  -- the sender has not recorded and sends more
  pub both_grow : (taken : Bool) (counted first second more : List X)
      → AreCut marker false taken counted first second
      → AreCut marker false taken counted (first ++ more) (second ++ more)
  both_grow taken counted first second more is = ap (λ xs. xs ++ more) is ∙ append_assoc counted first more

  -- the sender records: it sends its marker, and more behind it
  pub sender_records : (taken : Bool) (counted first second more : List X)
      → AreCut marker false taken counted first second
      → AreCut marker true false counted (first ++ marker ∷ more) second
  sender_records taken counted first second more is = record { rest = first; later = more; then = is; now = refl }

  -- the receiver has recorded and takes a message before the sender's marker
  pub takes_counted : (sent : Bool) (x : X) (counted first second : List X) → x ≢ marker
      → AreCut marker sent false counted (x ∷ first) second → AreCut marker sent false (counted ++ x ∷ []) first second
  takes_counted false x counted first second other is = is ∙ sym (append_assoc counted (x ∷ []) first)
  takes_counted true x counted first second other is = by is.rest is.then is.now
    where
      by : (rest : List X) → second ≡ counted ++ rest → x ∷ first ≡ rest ++ marker ∷ is.later
          → IsParted marker (counted ++ x ∷ []) first second
      by [] then now = absurd (other (same_head x marker first is.later now))
      by (y ∷ ys) then now = record {
        rest = ys;
        later = is.later;
        then =
            then ∙ ap (λ z. counted ++ z ∷ ys) (sym (same_head x y first (ys ++ marker ∷ is.later) now))
            ∙ sym (append_assoc counted (x ∷ []) ys);
        now = same_tail x y first (ys ++ marker ∷ is.later) now;
      }

  -- the receiver takes the sender's marker, behind which there is no other one
  pub takes_marker : (x : X) (counted first second : List X)
      → ((before later : List X) → first ≢ before ++ marker ∷ later)
      → AreCut marker true false counted (x ∷ first) second → AreCut marker true true counted first second
  takes_marker x counted first second none is = by is.rest is.then is.now
    where
      by : (rest : List X) → second ≡ counted ++ rest → x ∷ first ≡ rest ++ marker ∷ is.later → second ≡ counted
      by [] then now = then ∙ append-nil counted
      by (y ∷ ys) then now = absurd (none ys is.later (same_tail x y first (ys ++ marker ∷ is.later) now))

  -- the receiver has not recorded: what it takes is the oldest message after the cut, too
  pub record IsTakenInBoth (sent : Bool) (x : X) (first second : List X) : Type 0 where
    pub left : List X
    pub front : second ≡ x ∷ left
    pub cut : AreCut marker sent false [] first left

  pub takes_both : (sent : Bool) (x : X) (first second : List X) → (sent ≡ true → x ≢ marker)
      → AreCut marker sent false [] (x ∷ first) second → IsTakenInBoth sent x first second
  takes_both false x first second other is = record { left = first; front = is; cut = refl }
  takes_both true x first second other is = by is.rest is.then is.now
    where
      by : (rest : List X) → second ≡ rest → x ∷ first ≡ rest ++ marker ∷ is.later → IsTakenInBoth true x first second
      by [] then now = absurd (other refl (same_head x marker first is.later now))
      by (y ∷ ys) then now = record {
        left = ys;
        front = then ∙ ap (λ z. z ∷ ys) (sym (same_head x y first (ys ++ marker ∷ is.later) now));
        cut =
            record {
              rest = ys;
              later = is.later;
              then = refl;
              now = same_tail x y first
                  (ys ++ marker ∷ is.later) now;
            };
      }
