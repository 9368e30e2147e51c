-- Lists of facts that fit the tasks of a team.
use Rattle.std.proofs.Common.{◌≡◌, ℕ, zero, suc, ◌+◌, ◌<◌, List, [], ◌∷◌, ◌++◌, length, map, get_or, take, refl, sym, ap, ◌∙◌, subst, arith}
use Rattle.std.proofs.lemmas.List.{map-append, take_more}
use Rattle.std.specs.FinSet as set
use Rattle.mp_sets.specs.Numbers.{SizedSet}
use Rattle.mp_task.specs.AgentTask.{AgentTask}
use Rattle.mp_task.specs.Limits.{AllLess}
use Rattle.mp_audit.specs.Fits.{PrivatesFit}
use Rattle.mp_audit.specs.States.{members_of, sizes_of}

pub fits_length : (tasks : List AgentTask) (lists : List (List ℕ)) → PrivatesFit tasks lists → length lists ≡ length tasks
fits_length [] [] fits = refl
fits_length [] (list ∷ lists) fits = absurd fits
fits_length (t ∷ ts) [] fits = absurd fits
fits_length (t ∷ ts) (list ∷ lists) fits = ap suc (fits_length ts lists fits.1)

pub fits_at : (tasks : List AgentTask) (lists : List (List ℕ)) (i : ℕ) (t : AgentTask) (list : List ℕ) → PrivatesFit tasks lists → i < length tasks
    → t ≡ get_or tasks i t → list ≡ get_or lists i list → AllLess t.privates list
fits_at [] lists i t list fits lt t_is list_is = absurd (omega arith)
fits_at (u ∷ us) [] i t list fits lt t_is list_is = absurd fits
fits_at (u ∷ us) (first ∷ lists) zero t list fits lt t_is list_is =
    subst (λ (v : AgentTask). AllLess v.privates list) (sym t_is) (subst (AllLess u.privates) (sym list_is) fits.0)
fits_at (u ∷ us) (first ∷ lists) (suc i) t list fits lt t_is list_is = fits_at us lists i t list fits.1 (omega arith) t_is list_is

-- what the first items of a list are mapped to, with one item more
pub mapped_more : {X Y : Type 0} (f : X → Y) (xs : List X) (i : ℕ) (x : X) → i < length xs → x ≡ get_or xs i x
    → map f (take (i + 1) xs) ≡ map f (take i xs) ++ f x ∷ []
mapped_more f xs i x lt is =
    ap (map f) (take_more xs i x lt ∙ ap (λ (y : _). take i xs ++ y ∷ []) (sym is)) ∙ map-append f (take i xs) (x ∷ [])

-- the private facts of an agent that are true at the start
abbrev pub private_start : AgentTask → SizedSet
private_start t = record { size = t.privates; members = set.from_list t.start_priv }

pub members_at_start : (tasks : List AgentTask) → members_of (map private_start tasks) ≡ map (λ t. set.from_list t.start_priv) tasks
members_at_start [] = refl
members_at_start (t ∷ ts) = ap (λ (later : _). set.from_list t.start_priv ∷ later) (members_at_start ts)

pub sizes_at_start : (tasks : List AgentTask) → sizes_of (map private_start tasks) ≡ map (λ t. t.privates) tasks
sizes_at_start [] = refl
sizes_at_start (t ∷ ts) = ap (λ (later : _). t.privates ∷ later) (sizes_at_start ts)
