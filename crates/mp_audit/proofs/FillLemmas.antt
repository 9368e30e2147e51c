-- Lists that are written over from their front, and the sets of joint states among them.
use Rattle.std.proofs.Common.{◌≡◌, ℕ, zero, suc, ◌+◌, ◌<◌, ◌≤◌, List, [], ◌∷◌, ◌++◌, length, map, get_or, take, drop, Some, slice_get, refl, sym, ap, ◌∙◌, arith}
use Rattle.std.specs.Prelude.{option_map, slice_set}
use Rattle.std.proofs.lemmas.List.{append-nil, append_assoc, drop-map, drop_all, drop_more, get_or-map, length-map, length-take-le, map-append, map-set, set-get_or, set_at, take-append-drop, take_all, take_more}
use Rattle.std.proofs.lemmas.Option.{get_or_from_slice_get, slice_get-get_or, slice_get-map}
use Rattle.mp_sets.specs.Numbers.{SizedSet}
use Rattle.mp_task.specs.AgentTask.{AgentTask}
use Rattle.mp_audit.specs.Audited.{set_of}
use Rattle.mp_audit.specs.Fits.{PrivatesFit}
use Rattle.mp_audit.specs.States.{no_privates, sized_sets, sizes_of}

here_at : {X : Type 0} (before : List X) (x : X) (after : List X) → slice_get (before ++ x ∷ after) (length before) ≡ Some x
here_at [] x after = refl
here_at (y ∷ before) x after = here_at before x after

-- the first i items are those of xs, and the others still those of ys
module _ {X : Type 0} (xs ys : List X) (i : ℕ) where
  abbrev pub written : List X
  written = take i xs ++ drop i ys

  pub written_next : (y : X) → i < length xs → i < length ys → y ≡ get_or xs i y → slice_set written i y ≡ take (i + 1) xs ++ drop (i + 1) ys
  written_next y lt room is =
      ap (λ (later : List X). slice_set (take i xs ++ later) i y) (drop_more ys i y room)
      ∙ set_at (take i xs) (get_or ys i y) (drop (i + 1) ys) y i (length-take-le i xs (omega (arith, lt)))
      ∙ sym (append_assoc (take i xs) (y ∷ []) (drop (i + 1) ys))
      ∙ ap (λ (before : List X). before ++ drop (i + 1) ys) (ap (λ (x : X). take i xs ++ x ∷ []) is ∙ sym (take_more xs i y lt))

  pub not_written : (d : X) → i ≤ length xs → i < length ys → slice_get written i ≡ slice_get ys i
  not_written d le room =
      ap (λ (later : List X). slice_get (take i xs ++ later) i) (drop_more ys i d room)
      ∙ (λ j. slice_get (take i xs ++ get_or ys i d ∷ drop (i + 1) ys) (sym (length-take-le i xs le) j))
      ∙ here_at (take i xs) (get_or ys i d) (drop (i + 1) ys)
      ∙ sym (slice_get-get_or ys i d room)

  pub all_written : length xs ≤ i → length ys ≤ i → written ≡ xs
  all_written past over =
      (λ j. take_all i xs past j ++ drop_all i ys over j) ∙ append-nil xs

pub length_sized : (tasks : List AgentTask) (lists : List (List ℕ)) → PrivatesFit tasks lists → length (sized_sets tasks lists) ≡ length tasks
length_sized [] [] fits = refl
length_sized [] (list ∷ lists) fits = absurd fits
length_sized (t ∷ ts) [] fits = absurd fits
length_sized (t ∷ ts) (list ∷ lists) fits = ap suc (length_sized ts lists fits.1)

pub sized_at : (tasks : List AgentTask) (lists : List (List ℕ)) (i : ℕ) (t : AgentTask) (list : List ℕ) (d : SizedSet) → PrivatesFit tasks lists → i < length tasks
    → t ≡ get_or tasks i t → list ≡ get_or lists i list → record { size = t.privates; members = set_of list } ≡ get_or (sized_sets tasks lists) i d
sized_at [] lists i t list d fits lt t_is list_is = absurd (omega (arith, lt))
sized_at (u ∷ us) [] i t list d fits lt t_is list_is = absurd fits
sized_at (u ∷ us) (first ∷ lists) zero t list d fits lt t_is list_is = λ j. record { size = (t_is j).privates; members = set_of (list_is j) }
sized_at (u ∷ us) (first ∷ lists) (suc i) t list d fits lt t_is list_is = sized_at us lists i t list d fits.1 (omega (arith, lt)) t_is list_is

-- the set that stands in the place of a task
pub size_there : (f : AgentTask → ℕ) (tasks : List AgentTask) (sets : List SizedSet) (i : ℕ) (t : AgentTask) → sizes_of sets ≡ map f tasks → slice_get tasks i ≡ Some t
    → option_map (λ s. s.size) (slice_get sets i) ≡ Some (f t)
size_there f tasks sets i t sizes there =
    sym (slice_get-map (λ (s : SizedSet). s.size) sets i)
    ∙ ap (λ (ns : List ℕ). slice_get ns i) sizes
    ∙ slice_get-map f tasks i
    ∙ ap (option_map f) there

pub length_sets : (tasks : List AgentTask) (sets : List SizedSet) → sizes_of sets ≡ map (λ t. t.privates) tasks → length sets ≡ length tasks
length_sets tasks sets sizes =
    sym (length-map sets (λ (s : SizedSet). s.size)) ∙ ap length sizes ∙ length-map tasks (λ (t : AgentTask). t.privates)

pub task_there : (tasks : List AgentTask) (i : ℕ) (t : AgentTask) → i < length tasks → t ≡ get_or tasks i t → slice_get tasks i ≡ Some t
task_there tasks i t lt is = slice_get-get_or tasks i t lt ∙ ap (λ (u : AgentTask). Some u) (sym is)

-- sizes stay where a set of the same size is put
pub sizes_kept : (sets : List SizedSet) (i : ℕ) (s : SizedSet) (n : ℕ) → option_map (λ x. x.size) (slice_get sets i) ≡ Some n → s.size ≡ n → sizes_of (slice_set sets i s) ≡ sizes_of sets
sizes_kept sets i s n there is =
    let size : SizedSet → ℕ = λ x. x.size in
    let here : slice_get (sizes_of sets) i ≡ Some n = slice_get-map size sets i ∙ there in
    map-set size sets i s
    ∙ ap (slice_set (sizes_of sets) i) (is ∙ sym (get_or_from_slice_get (sizes_of sets) i n 0 here))
    ∙ set-get_or (sizes_of sets) i 0

pub none_there : (tasks : List AgentTask) (none : List SizedSet) (i : ℕ) (t : AgentTask) → none ≡ map no_privates tasks → slice_get tasks i ≡ Some t → slice_get none i ≡ Some (no_privates t)
none_there tasks none i t are there =
    ap (λ (sets : List SizedSet). slice_get sets i) are
    ∙ slice_get-map no_privates tasks i
    ∙ ap (option_map no_privates) there

pub no_sizes : (tasks : List AgentTask) → sizes_of (map no_privates tasks) ≡ map (λ t. t.privates) tasks
no_sizes [] = refl
no_sizes (t ∷ ts) = ap (λ (later : List ℕ). t.privates ∷ later) (no_sizes ts)

-- ---- sets that are copied

pub same_length : (xs ys : List SizedSet) → sizes_of xs ≡ sizes_of ys → length xs ≡ length ys
same_length xs ys sizes =
    sym (length-map xs (λ (s : SizedSet). s.size)) ∙ ap length sizes ∙ length-map ys (λ (s : SizedSet). s.size)

pub same_sizes : (xs ys : List SizedSet) (i : ℕ) (x y : SizedSet) → sizes_of xs ≡ sizes_of ys → i < length ys → x ≡ get_or xs i x → y ≡ get_or ys i y → x.size ≡ y.size
same_sizes xs ys i x y sizes lt x_is y_is =
    let size : SizedSet → ℕ = λ s. s.size in
    let lengths = same_length xs ys sizes in
    ap size x_is
    ∙ sym (get_or-map size xs i x 0 (omega (arith, lt, lengths)))
    ∙ ap (λ (ns : List ℕ). get_or ns i 0) sizes
    ∙ get_or-map size ys i y 0 lt
    ∙ ap size (sym y_is)

pub some_set : (sets : List SizedSet) (i : ℕ) → i < length sets → (s : SizedSet) × (s ≡ get_or sets i s)
some_set (s ∷ sets) zero lt = (s, refl)
some_set (s ∷ sets) (suc i) lt = some_set sets i (omega (arith, lt))
some_set [] i lt = absurd (omega (arith, lt))

pub sizes_written : (sets copies : List SizedSet) (i : ℕ) → sizes_of copies ≡ sizes_of sets → sizes_of (take i sets ++ drop i copies) ≡ sizes_of sets
sizes_written sets copies i sizes =
    let size : SizedSet → ℕ = λ s. s.size in
    map-append size (take i sets) (drop i copies)
    ∙ ap (λ (ns : List ℕ). sizes_of (take i sets) ++ ns) (sym (drop-map size i copies) ∙ ap (drop i) sizes ∙ drop-map size i sets)
    ∙ sym (map-append size (take i sets) (drop i sets))
    ∙ ap sizes_of (take-append-drop i sets)
