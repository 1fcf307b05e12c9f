-- What was read is within its limits.
use Rattle.std.proofs.Common.{◌≡◌, ℕ, suc, ◌+◌, ◌≤◌, codes, Bool, true, false, nat_le, ◌&&◌, if◌then◌else◌, List, [], ◌∷◌, length, pos, negsuc, Option, Some, None, Ok, Err, Result, IsOk, IfOk, ◌↔◌, All, Bor, refl, ap, subst, arith}
use Rattle.std.proofs.lemmas.Bool.{and_parts, leb-true, false≢true}
use Rattle.std.proofs.lemmas.List.Elements.{All-nil, All-cons}
use Rattle.toml.specs.Data.{Data, string, integer, float, boolean, datetime, array, table, Items, no_items, item, Members, get_member}
use Rattle.toml.specs.View.{items_view}
use Rattle.toml.specs.declared.value.Value.{Value}
use Rattle.scx_maps.specs.declared.shape.Shape.{Shape}
use Rattle.scx_maps.specs.declared.defs.TheConstants.{MAX_MAPS, MAX_BYTES}
use Rattle.scx_maps.specs.Limits.{total_bytes, IsWithinLimits, AreWithinLimits}
use Rattle.scx_load_files.specs.declared.fault.Cause.TheVariants as cause
use Rattle.scx_load_files.specs.declared.section.Limits.{Limits}
use Rattle.scx_isa_semantics.specs.Results.{◌>>=◌}
use Rattle.scx_isa_semantics.specs.declared.rules.Rules.TheVariants.{Linux}
use Rattle.scx_load_files.specs.declared.fault.LoadError.{LoadError}
use Rattle.scx_load_files.specs.Faults.{Reading, Gives, refusal}
use Rattle.scx_load_files.specs.Paths.{below, element}
use Rattle.scx_load_files.specs.Values.{found_or, integer_of, table_of, elements_of, item_count, each_from, required, optional}
use Rattle.scx_load_files.proofs.Counts.{count_of_view}
use Rattle.scx_load_policies.specs.Reading.{tick_limits, tick_in}
use Rattle.scx_load_policies.specs.Maps.{entry_limits, size_limits, kind_in, shape_in, map_at, fitting}

-- ---- readings that gave a value

abbrev value_or : {A : Type 0} → A → Reading A → A
value_or d (Ok x) = x
value_or d (Err e) = d

-- a result behind another had the other
pub bind_ok : {A B : Type 0} (r : Reading A) (f : A → Reading B) (y : B) → (r >>= f) ≡ Ok y → (x : A) × (r ≡ Ok x) × (f x ≡ Ok y)
bind_ok (Ok x) f y e = (x, refl, e)
bind_ok (Err d) f y e = absurd (cc)

-- ---- numbers

abbrev pub IsIn : Limits → ℕ → Type 0
IsIn limits n = (limits.least ≤ n) × (n ≤ limits.most)

picked : (b : Bool) (path : List ℕ) (k n : ℕ) → found_or Ok (refusal path cause.OutOfRange) (if b then Some k else None) ≡ Ok n → (b ≡ true) × (k ≡ n)
picked true path k n e = (refl, ap (value_or n) e)
picked false path k n e = absurd (cc)

in_limits : (limits : Limits) (k n : ℕ) → ((nat_le limits.least k && nat_le k limits.most) ≡ true) → k ≡ n → IsIn limits n
in_limits limits k n b same =
    let (low, high) = and_parts (nat_le limits.least k) (nat_le k limits.most) b in
    (omega (arith, leb-true limits.least k low, same), omega (arith, leb-true k limits.most high, same))

-- an integer
pub integer_in : (limits : Limits) (path : List ℕ) (d : Data) (n : ℕ) → integer_of limits path d ≡ Ok n → IsIn limits n
integer_in limits path (integer (pos k)) n e =
    let (b, same) = picked (nat_le limits.least k && nat_le k limits.most) path k n e in
    in_limits limits k n b same
integer_in limits path (integer (negsuc k)) n e = absurd (cc)
integer_in limits path (string s) n e = absurd (cc)
integer_in limits path (float x) n e = absurd (cc)
integer_in limits path (boolean b) n e = absurd (cc)
integer_in limits path (datetime t) n e = absurd (cc)
integer_in limits path (array ds) n e = absurd (cc)
integer_in limits path (table ms) n e = absurd (cc)

required_found : (limits : Limits) (path : List ℕ) (o : Option Data) (n : ℕ) → found_or (integer_of limits path) (refusal path cause.Missing) o ≡ Ok n → IsIn limits n
required_found limits path None n e = absurd (cc)
required_found limits path (Some d) n e = integer_in limits path d n e

-- a required integer
pub required_in : (limits : Limits) (path key : List ℕ) (ms : Members) (n : ℕ) → required (integer_of limits) path key ms ≡ Ok n → IsIn limits n
required_in limits path key ms n e = required_found limits (below path key) (get_member key ms) n e

optional_found : (limits : Limits) (default : ℕ) (path : List ℕ) (o : Option Data) (n : ℕ) → IsIn limits default → found_or (integer_of limits path) (Ok default) o ≡ Ok n → IsIn limits n
optional_found limits default path None n h e =
    let same : default ≡ n = ap (value_or n) e in
    subst (IsIn limits) same h
optional_found limits default path (Some d) n h e = integer_in limits path d n e

-- an integer that may be absent
pub optional_in : (limits : Limits) (default : ℕ) (path key : List ℕ) (ms : Members) (n : ℕ) → IsIn limits default → optional (integer_of limits) default path key ms ≡ Ok n → IsIn limits n
optional_in limits default path key ms n h e = optional_found limits default (below path key) (get_member key ms) n h e

-- ticks that were read under Linux rules
pub ticks_given : (ms : Members) (r : Result ℕ LoadError) → Gives (λ n. n) r (tick_in Linux ms) → IfOk r (λ n. n ≤ 100)
ticks_given ms (Ok n) e = let range = optional_in tick_limits 4 [] (codes "tick_ms") ms n (omega arith, omega arith) e in range.1
ticks_given ms (Err e) g = tt

-- ---- maps

shape_within : (path : List ℕ) (ms : Members) (s : Shape) → shape_in path ms ≡ Ok s → IsWithinLimits s
shape_within path ms s e =
    let (n, entries, rest) = bind_ok (required (integer_of entry_limits) path (codes "entries") ms) _ s e in
    let (m, size, more) = bind_ok (required (integer_of size_limits) path (codes "value_size") ms) _ s rest in
    let (kind, found, made) = bind_ok (kind_in path ms) _ s more in
    let (low, high) = required_in entry_limits path (codes "entries") ms n entries in
    let (low', high') = required_in size_limits path (codes "value_size") ms m size in
    let limits : IsWithinLimits (record { entries = n; value_size = m; kind = kind }) = record { entries = record { some = low; within = high }; value_size = record { some = low'; within = high' } } in
    subst IsWithinLimits (ap (value_or s) made) limits

map_within : (n : ℕ) (d : Data) (s : Shape) → map_at n d ≡ Ok s → IsWithinLimits s
map_within n d s e =
    let (ms, found, shape) = bind_ok (table_of (element (codes "map") n) d) _ s e in
    shape_within (element (codes "map") n) ms s shape

-- each shape that was read is within its limits, and there is one for each element
pub record AreMaps (ds : Items) (shapes : List Shape) : Type 0 where
  pub count : length shapes ≡ item_count ds
  pub each : All IsWithinLimits shapes

-- the shapes of maps
pub maps_within : (n : ℕ) (ds : Items) (shapes : List Shape) → each_from map_at n ds ≡ Ok shapes → AreMaps ds shapes
maps_within n no_items shapes e =
    let same : [] ≡ shapes = ap (value_or shapes) e in
    subst (AreMaps no_items) same (record { count = refl; each = All-nil IsWithinLimits })
maps_within n (item d ds) shapes e =
    let (s, first, rest) = bind_ok (map_at n d) _ shapes e in
    let (more, read, made) = bind_ok (each_from map_at (n + 1) ds) _ shapes rest in
    let h = maps_within (n + 1) ds more read in
    let same : s ∷ more ≡ shapes = ap (value_or shapes) made in
    subst (AreMaps (item d ds)) same (record { count = ap suc h.count; each = All-cons IsWithinLimits s more (map_within n d s first) h.each })

counted : (b : Bool) (path : List ℕ) (ds es : Items) → (if b then Ok ds else refusal path cause.TooMany) ≡ Ok es → (b ≡ true) × (ds ≡ es)
counted true path ds es e = (refl, ap (value_or es) e)
counted false path ds es e = absurd (cc)

array_counted : (most : ℕ) (path : List ℕ) (d : Data) (es : Items) → elements_of most path d ≡ Ok es → item_count es ≤ most
array_counted most path (array ds) es e =
    let (b, same) = counted (nat_le (item_count ds) most) path ds es e in
    omega (arith, leb-true (item_count ds) most b, ap item_count same)
array_counted most path (integer z) n e = absurd (cc)
array_counted most path (string s) n e = absurd (cc)
array_counted most path (float x) n e = absurd (cc)
array_counted most path (boolean b) n e = absurd (cc)
array_counted most path (datetime t) n e = absurd (cc)
array_counted most path (table ms) n e = absurd (cc)

found_counted : (most : ℕ) (path : List ℕ) (o : Option Data) (es : Items) → found_or (elements_of most path) (Ok no_items) o ≡ Ok es → item_count es ≤ most
found_counted most path None es e =
    let same : no_items ≡ es = ap (value_or es) e in
    omega (arith, ap item_count same)
found_counted most path (Some d) es e = array_counted most path d es e

-- the number of elements
pub few_elements : (most : ℕ) (path key : List ℕ) (ms : Members) (es : Items) → optional (elements_of most) no_items path key ms ≡ Ok es → item_count es ≤ most
few_elements most path key ms es e = found_counted most (below path key) (get_member key ms) es e

-- the same of values
pub few_values : (most : ℕ) (path key : List ℕ) (ms : Members) (r : Result (Bor (List Value)) LoadError) → Gives (λ (vs : Bor (List Value)). items_view vs.now) r (optional (elements_of most) no_items path key ms) → IfOk r (λ vs. length vs.now ≤ most)
few_values most path key ms (Ok vs) e = omega (arith, count_of_view vs.now, few_elements most path key ms (items_view vs.now) e)
few_values most path key ms (Err e) g = tt

not_fitting : (shapes : List Shape) (b : Bool) → nat_le (total_bytes shapes) MAX_BYTES ≡ b → length shapes ≤ MAX_MAPS → All IsWithinLimits shapes → ¬ AreWithinLimits shapes
    → (if b then Ok shapes else refusal (codes "map") cause.OutOfRange) ≡ refusal (codes "map") cause.OutOfRange
not_fitting shapes true is count each broken = absurd (broken (record { count = count; each = each; total = leb-true (total_bytes shapes) MAX_BYTES is }))
not_fitting shapes false is count each broken = refl

-- shapes that are refused though each is within its limits are too large together
pub too_large : (ms : Members) (ds : Items) (shapes : List Shape) → optional (elements_of MAX_MAPS) no_items [] (codes "map") ms ≡ Ok ds → each_from map_at 0 ds ≡ Ok shapes → ¬ AreWithinLimits shapes
    → fitting shapes ≡ refusal (codes "map") cause.OutOfRange
too_large ms ds shapes elements read broken =
    let h = maps_within 0 ds shapes read in
    let count : length shapes ≤ MAX_MAPS = omega (arith, h.count, few_elements MAX_MAPS [] (codes "map") ms ds elements) in
    not_fitting shapes (nat_le (total_bytes shapes) MAX_BYTES) refl count h.each broken

-- what is answered only otherwise doesn't hold where an error is answered
pub not_ok : {A E : Type 0} (r : Result A E) (e : E) (P : Type 0) → r ≡ Err e → (IsOk r ↔ P) → ¬ P
not_ok (Ok x) e P is both = λ p. absurd (cc)
not_ok (Err d) e P is both = λ p. absurd (false≢true (both.1 p))
