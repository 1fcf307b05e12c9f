-- Queues and stacks are lists of values, as a program pushes and pops them.
use Rattle.std.proofs.Common.{◌≡◌, ℕ, suc, ◌-◌, ◌<◌, ◌≤◌, ◌⊎◌, inl, inr, Bool, true, false, nat_eq, nat_lt, List, [], ◌∷◌, ◌++◌, length, drop, get_or, Result, Ok, Err, if◌then◌else◌, refl, sym, ap, ◌∙◌, subst, arith}
use Rattle.std.proofs.lemmas.Bool.{ltb-true, ltb-false, eqb-false}
use Rattle.scx_isa_semantics.specs.declared.map_kinds.Line.{Line}
use Rattle.scx_isa_semantics.specs.Directories.{Directory, Array, PerCpu, Hash, Queue, Stack, Placed, stays, line_slot, longer, turned, oldest, newest, without_oldest, without_newest, line_pushed, pushed_on, pushed, next_of, peeked, shortened, invalid, too_big, not_there}
use Rattle.scx_isa_semantics.specs.Elements.{Maps, directory, with_directory, elements}
use Rattle.scx_isa_semantics.specs.Serving.{Reply, Answer, Found, Gives, slot_count, code_of, stored_in, bytes_from, push, pop}
use Rattle.scx_maps.specs.Laws.{oldest_of, listed_in, listed, FitsIn, PushAppends, PopTakesTheFirst, PopTakesTheLast, StayWithin}
use Rattle.scx_maps.proofs.Served.{pushed_kind, shortened_kind}
use Rattle.scx_maps.proofs.WherePlaced.{directory_placed, directory_stored, slots_stored, elements_stored, count_stored}
use Rattle.scx_maps.proofs.Rings.{length-oldest_of, same_values, oldest_first, slot_shifted, value_appended, value_turned}

-- the number that a reply has
abbrev pub number_of : Reply → ℕ
number_of (Answer n) = n
number_of (Found s) = s
number_of (Gives bytes n) = n

-- the bytes that a reply has
abbrev bytes_of : Reply → List ℕ
bytes_of (Answer n) = []
bytes_of (Found s) = []
bytes_of (Gives bytes n) = bytes

-- ---- pushes

-- the values after a value came: they are those before and it, or it took the place of the first
abbrev Appends : List (List ℕ) → Directory → Placed → List ℕ → Type 0
Appends slots d p bytes =
    (listed_in (slots_stored slots p.slot bytes) p.directory ≡ listed_in slots d ++ bytes ∷ [])
    ⊎ ((length (listed_in slots d) ≡ length slots) × (listed_in (slots_stored slots p.slot bytes) p.directory ≡ drop 1 (listed_in slots d) ++ bytes ∷ []))

line_appends : (of : Line → Directory) → ((slots : List (List ℕ)) (l : Line) → listed_in slots (of l) ≡ oldest_of slots l l.count) → (slots : List (List ℕ)) (l : Line) (bytes : List ℕ) (f : ℕ) → 0 < length slots → l.count ≤ length slots
    → code_of (line_pushed of (length slots) l f).slot ≡ 0 → Appends slots (of l) (line_pushed of (length slots) l f) bytes
line_appends of is slots l bytes f some fits done = go (nat_lt l.count (length slots)) refl (nat_eq f 2) done
  where
    go : (a : Bool) → nat_lt l.count (length slots) ≡ a → (b : Bool)
        → code_of (if a then record { directory = of (longer l); slot = Ok (line_slot (length slots) l l.count) } else if b then record { directory = of (turned (length slots) l); slot = Ok (oldest (length slots) l) } else stays (of l) (Err too_big)).slot ≡ 0
        → Appends slots (of l) (if a then record { directory = of (longer l); slot = Ok (line_slot (length slots) l l.count) } else if b then record { directory = of (turned (length slots) l); slot = Ok (oldest (length slots) l) } else stays (of l) (Err too_big)) bytes
    go true t b e =
        inl (is _ (longer l) ∙ value_appended slots l bytes (ltb-true l.count (length slots) t) ∙ sym (ap (λ (xs : List (List ℕ)). xs ++ bytes ∷ []) (is slots l)))
    go false t true e =
        let full : l.count ≡ length slots = omega (arith, fits, ltb-false l.count (length slots) t) in
        inr (
          ap (λ (xs : List (List ℕ)). length xs) (is slots l) ∙ length-oldest_of slots l l.count ∙ full,
          is _ (turned (length slots) l) ∙ value_turned slots l bytes some full ∙ sym (ap (λ (xs : List (List ℕ)). drop 1 xs ++ bytes ∷ []) (is slots l)),
        )
    go false t false e = absurd (omega (arith, e))

-- a push that is done had flags that a map may take
taken_by : (d : Directory) (n f : ℕ) → code_of (pushed d n f).slot ≡ 0 → pushed d n f ≡ pushed_on d n f
taken_by d n f done = go (nat_eq f 1) (nat_lt 2 f) done
  where
    go : (a b : Bool) → code_of (if a then stays d (Err invalid) else if b then stays d (Err invalid) else pushed_on d n f).slot ≡ 0
        → (if a then stays d (Err invalid) else if b then stays d (Err invalid) else pushed_on d n f) ≡ pushed_on d n f
    go true b e = absurd (omega (arith, e))
    go false true e = absurd (omega (arith, e))
    go false false e = refl

on_appends : (slots : List (List ℕ)) (d : Directory) (bytes : List ℕ) (f : ℕ) → FitsIn (length slots) d → code_of (pushed_on d (length slots) f).slot ≡ 0 → Appends slots d (pushed_on d (length slots) f) bytes
on_appends slots (Queue l) bytes f fits e = line_appends Queue (λ s k. refl) slots l bytes f fits.0 fits.1 e
on_appends slots (Stack l) bytes f fits e = line_appends Stack (λ s k. refl) slots l bytes f fits.0 fits.1 e
on_appends slots Array bytes f fits e = absurd (omega (arith, e))
on_appends slots PerCpu bytes f fits e = absurd (omega (arith, e))
on_appends slots (Hash z ks) bytes f fits e = absurd (omega (arith, e))

pushed_appends : (slots : List (List ℕ)) (d : Directory) (bytes : List ℕ) (f : ℕ) → FitsIn (length slots) d → code_of (pushed d (length slots) f).slot ≡ 0 → Appends slots d (pushed d (length slots) f) bytes
pushed_appends slots d bytes f fits done =
    let same = taken_by d (length slots) f done in
    subst (λ (p : Placed). Appends slots d p bytes) (sym same) (on_appends slots d bytes f fits (sym (ap (λ (p : Placed). code_of p.slot) same) ∙ done))

-- a push that is done appends its value
pub push_appends : PushAppends
push_appends maps m bytes f fits done =
    let p : Placed = pushed (directory maps m) (slot_count maps m) f in
    let base : Maps = with_directory maps m p.directory in
    let part : directory (stored_in base m p.slot bytes) m ≡ p.directory =
    directory_stored base m p.slot bytes ∙ directory_placed maps m p.directory (pushed_kind (directory maps m) (slot_count maps m) f) in
    let slots : elements (stored_in base m p.slot bytes) m ≡ slots_stored (elements maps m) p.slot bytes = elements_stored base m p.slot bytes in
    let values : listed_in (slots_stored (elements maps m) p.slot bytes) p.directory ≡ listed (push maps m bytes f).maps m = λ i. listed_in (sym slots i) (sym part i) in
    subst
    (λ (xs : List (List ℕ)). (xs ≡ listed maps m ++ bytes ∷ []) ⊎ ((length (listed maps m) ≡ slot_count maps m) × (xs ≡ drop 1 (listed maps m) ++ bytes ∷ [])))
    values
    (pushed_appends (elements maps m) (directory maps m) bytes f fits (ap number_of done))

-- ---- pops

queue_gives : (slots : List (List ℕ)) (l : Line) (from : Result ℕ ℕ → List ℕ) → ((s : ℕ) → from (Ok s) ≡ get_or slots s []) → code_of (next_of (length slots) l (oldest (length slots) l)) ≡ 0
    → oldest_of slots l l.count ≡ from (next_of (length slots) l (oldest (length slots) l)) ∷ listed_in slots (shortened (Queue l) (length slots))
queue_gives slots l from is done = go (nat_eq l.count 0) refl done
  where
    go : (b : Bool) → nat_eq l.count 0 ≡ b → code_of (if b then Err not_there else Ok (oldest (length slots) l)) ≡ 0
        → oldest_of slots l l.count ≡ from (if b then Err not_there else Ok (oldest (length slots) l)) ∷ listed_in slots (Queue (if b then l else without_oldest (length slots) l))
    go true t e = absurd (omega (arith, e))
    go false t e =
        let count : l.count ≡ suc (l.count - 1) = omega (arith, eqb-false l.count 0 t) in
        let value = sym (is (oldest (length slots) l)) in
        let rest = oldest_first slots l (without_oldest (length slots) l) (l.count - 1) (λ j. ap (λ s. get_or slots s []) (slot_shifted (length slots) l (l.count - 1) j)) in
        ap (λ n. oldest_of slots l n) count ∙ rest ∙ ap (λ (v : List ℕ). v ∷ oldest_of slots (without_oldest (length slots) l) (l.count - 1)) value

stack_gives : (slots : List (List ℕ)) (l : Line) (from : Result ℕ ℕ → List ℕ) → ((s : ℕ) → from (Ok s) ≡ get_or slots s []) → code_of (next_of (length slots) l (newest (length slots) l)) ≡ 0
    → oldest_of slots l l.count ≡ listed_in slots (shortened (Stack l) (length slots)) ++ from (next_of (length slots) l (newest (length slots) l)) ∷ []
stack_gives slots l from is done = go (nat_eq l.count 0) refl done
  where
    go : (b : Bool) → nat_eq l.count 0 ≡ b → code_of (if b then Err not_there else Ok (newest (length slots) l)) ≡ 0
        → oldest_of slots l l.count ≡ listed_in slots (Stack (if b then l else without_newest l)) ++ from (if b then Err not_there else Ok (newest (length slots) l)) ∷ []
    go true t e = absurd (omega (arith, e))
    go false t e =
        let count : l.count ≡ suc (l.count - 1) = omega (arith, eqb-false l.count 0 t) in
        let value = sym (is (newest (length slots) l)) in
        let front = same_values slots slots l (without_newest l) (l.count - 1) (λ j below. refl) in
        let both : oldest_of slots l (suc (l.count - 1)) ≡ oldest_of slots (without_newest l) (l.count - 1) ++ from (Ok (newest (length slots) l)) ∷ [] = λ i. front i ++ value i ∷ [] in
        ap (λ n. oldest_of slots l n) count ∙ both

-- what a map of these elements has after a pop
left_after : (maps : Maps) (m : ℕ) (d : Directory) → directory maps m ≡ d → listed (pop maps m).maps m ≡ listed_in (elements maps m) (shortened d (slot_count maps m))
left_after maps m d is =
    let n : ℕ = slot_count maps m in
    ap (λ (x : Directory). listed_in (elements maps m) x) (directory_placed maps m (shortened (directory maps m) n) (shortened_kind (directory maps m) n) ∙ ap (λ (x : Directory). shortened x n) is)

-- what it gave
given_by : (maps : Maps) (m : ℕ) (d : Directory) (bytes : List ℕ) → directory maps m ≡ d → (pop maps m).reply ≡ Gives bytes 0
    → (bytes_from maps m (peeked d (slot_count maps m)) ≡ bytes) × (code_of (peeked d (slot_count maps m)) ≡ 0)
given_by maps m d bytes is e =
    let n : ℕ = slot_count maps m in
    let same = sym (ap (λ (x : Directory). peeked x n) is) in
    (ap (λ (r : Result ℕ ℕ). bytes_from maps m r) same ∙ ap bytes_of e, ap code_of same ∙ ap number_of e)

-- a pop from a queue gives its first value
pub pop_takes_the_first : PopTakesTheFirst
pop_takes_the_first maps m l bytes is fits e =
    let given = given_by maps m (Queue l) bytes is e in
    ap (λ (x : Directory). listed_in (elements maps m) x) is
    ∙ queue_gives (elements maps m) l (bytes_from maps m) (λ s. refl) given.1
    ∙ (λ i. given.0 i ∷ sym (left_after maps m (Queue l) is) i)

-- a pop from a stack gives its last value
pub pop_takes_the_last : PopTakesTheLast
pop_takes_the_last maps m l bytes is fits e =
    let given = given_by maps m (Stack l) bytes is e in
    ap (λ (x : Directory). listed_in (elements maps m) x) is
    ∙ stack_gives (elements maps m) l (bytes_from maps m) (λ s. refl) given.1
    ∙ (λ i. sym (left_after maps m (Stack l) is) i ++ given.0 i ∷ [])

-- ---- room

line_fits : (of : Line → Directory) (n : ℕ) → ((l : Line) → (0 < n) × (l.count ≤ n) → FitsIn n (of l)) → (l : Line) (f : ℕ) → (0 < n) × (l.count ≤ n) → FitsIn n (line_pushed of n l f).directory
line_fits of n is l f fits = go (nat_lt l.count n) refl (nat_eq f 2)
  where
    go : (a : Bool) → nat_lt l.count n ≡ a → (b : Bool)
        → FitsIn n (if a then record { directory = of (longer l); slot = Ok (line_slot n l l.count) } else if b then record { directory = of (turned n l); slot = Ok (oldest n l) } else stays (of l) (Err too_big)).directory
    go true t b = is (longer l) (fits.0, omega (arith, ltb-true l.count n t))
    go false t true = is (turned n l) fits
    go false t false = is l fits

on_fits : (d : Directory) (n f : ℕ) → FitsIn n d → FitsIn n (pushed_on d n f).directory
on_fits (Queue l) n f fits = line_fits Queue n (λ k h. h) l f fits
on_fits (Stack l) n f fits = line_fits Stack n (λ k h. h) l f fits
on_fits Array n f fits = fits
on_fits PerCpu n f fits = fits
on_fits (Hash z ks) n f fits = fits

pushed_fits : (d : Directory) (n f : ℕ) → FitsIn n d → FitsIn n (pushed d n f).directory
pushed_fits d n f fits = go (nat_eq f 1) (nat_lt 2 f)
  where
    go : (a b : Bool) → FitsIn n (if a then stays d (Err invalid) else if b then stays d (Err invalid) else pushed_on d n f).directory
    go true b = fits
    go false true = fits
    go false false = on_fits d n f fits

queue_fits : (n : ℕ) (l : Line) (b : Bool) → (0 < n) × (l.count ≤ n) → FitsIn n (Queue (if b then l else without_oldest n l))
queue_fits n l true fits = fits
queue_fits n l false fits = (fits.0, omega (arith, fits.1))

stack_fits : (n : ℕ) (l : Line) (b : Bool) → (0 < n) × (l.count ≤ n) → FitsIn n (Stack (if b then l else without_newest l))
stack_fits n l true fits = fits
stack_fits n l false fits = (fits.0, omega (arith, fits.1))

shortened_fits : (d : Directory) (n : ℕ) → FitsIn n d → FitsIn n (shortened d n)
shortened_fits (Queue l) n fits = queue_fits n l (nat_eq l.count 0) fits
shortened_fits (Stack l) n fits = stack_fits n l (nat_eq l.count 0) fits
shortened_fits Array n fits = fits
shortened_fits PerCpu n fits = fits
shortened_fits (Hash z ks) n fits = fits

-- lines keep within their slots
pub stay_within : StayWithin
stay_within maps m bytes f fits =
    let d : Directory = directory maps m in
    let n : ℕ = slot_count maps m in
    let p : Placed = pushed d n f in
    let base : Maps = with_directory maps m p.directory in
    let part = directory_stored base m p.slot bytes ∙ directory_placed maps m p.directory (pushed_kind d n f) in
    let pushed_part : FitsIn n (directory (stored_in base m p.slot bytes) m) = subst (λ (x : Directory). FitsIn n x) (sym part) (pushed_fits d n f fits) in (
      subst (λ (i : ℕ). FitsIn i (directory (stored_in base m p.slot bytes) m)) (sym (count_stored base m p.slot bytes)) pushed_part,
      subst (λ (x : Directory). FitsIn n x) (sym (directory_placed maps m (shortened d n) (shortened_kind d n))) (shortened_fits d n fits),
    )
