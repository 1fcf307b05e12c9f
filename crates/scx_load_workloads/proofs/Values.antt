-- What is known of a number, an array or a name that was read.
use Rattle.std.proofs.Common.{◌≡◌, ℕ, suc, ◌+◌, ◌<◌, ◌≤◌, ℤ, pos, negsuc, Bool, true, false, cond, ◌||◌, ◌&&◌, ◌==◌, ◌⊎◌, inl, inr, nat_le, if◌then◌else◌, List, [], ◌∷◌, ◌++◌, length, position, Option, Some, None, Result, Ok, Err, IfOk, Bor, refl, sym, ap, ◌∙◌, subst, arith}
use Rattle.std.proofs.lemmas.Bool.{cases_lt}
use Rattle.std.proofs.lemmas.Bool.Decides.{nat_tests}
use Rattle.std.proofs.lemmas.List.{length-append, get_or_append_left, get_or-append-add}
use Rattle.std.proofs.lemmas.Iterator.Adapters.{position_from-zero}
use Rattle.std.specs.Cmp.Lexicographic.{nat_list_eq_equiv}
use Rattle.std.specs.declared.alloc.Global.{Global}
use Rattle.std.specs.List.{list_any, position_from}
use Rattle.std.specs.Str.{bytes_eq}
use Rattle.std.specs.Prelude.{String}
use Rattle.std.specs.String.{string_bytes, string_eq}
use Rattle.indexmap.specs.IndexSet.{insert_key}
use Rattle.toml.specs.Data.{Data, string, integer, float, boolean, datetime, array, table, Items, no_items, Members, get_member}
use Rattle.toml.specs.View.{items_view}
use Rattle.toml.specs.declared.value.Value.{Value}
use Rattle.scx_load_files.specs.declared.section.Limits.{Limits}
use Rattle.scx_load_files.specs.Faults.{Reading, Gives, refusal}
use Rattle.scx_load_files.specs.declared.fault.LoadError.{LoadError}
use Rattle.scx_load_files.specs.Paths.{below}
use Rattle.scx_load_files.specs.Values.{found_or, required, optional, integer_of, within, elements_of, item_count}
use Rattle.scx_load_files.specs.declared.fault.Cause.TheVariants as cause
use Rattle.scx_load_files.proofs.Counts.{count_of_view}
use Rattle.scx_load_workloads.specs.declared.workload.Timing.{Timing}
use Rattle.scx_load_workloads.specs.declared.workload.Change.{Change}
use Rattle.scx_load_workloads.specs.Workload.{IsOwnWeight, IsTiming, IsChange, own_weight_at, timing_at, change_at}
use Rattle.scx_load_workloads.specs.Reading.{some_of, index_from, index_of}
use Rattle.scx_load_workloads.specs.KeptNames.{texts}

-- ---- numbers

pub record IsWithin (limits : Limits) (n : ℕ) : Type 0 where
  pub least : limits.least ≤ n
  pub most : n ≤ limits.most

same_some : (a b : ℕ) → Some a ≡ Some b → a ≡ b
same_some a b e = cc

same_ok : (a b : ℕ) → ◌≡◌ {A = Reading ℕ} (Ok a) (Ok b) → a ≡ b
same_ok a b e = cc

number_within : (limits : Limits) (z : ℤ) (n : ℕ) → within limits z ≡ Some n → IsWithin limits n
number_within limits (pos k) n e = go (nat_le limits.least k) (nat_le k limits.most) refl refl e
  where
    go : (a b : Bool) → nat_le limits.least k ≡ a → nat_le k limits.most ≡ b → (if a && b then Some k else None) ≡ Some n → IsWithin limits n
    go true true x y e = subst (IsWithin limits) (same_some k n e) record { least = grind (arith, nat_tests, x); most = grind (arith, nat_tests, y) }
    go true false x y e = absurd (cc)
    go false b x y e = absurd (cc)
number_within limits (negsuc k) n e = absurd (cc)

integer_within : (limits : Limits) (path : List ℕ) (d : Data) (n : ℕ) → integer_of limits path d ≡ Ok n → IsWithin limits n
integer_within limits path (integer z) n e = go (within limits z) refl e
  where
    go : (o : Option ℕ) → within limits z ≡ o → found_or Ok (refusal path cause.OutOfRange) o ≡ Ok n → IsWithin limits n
    go None x e = absurd (cc)
    go (Some k) x e = subst (IsWithin limits) (same_ok k n e) (number_within limits z k x)
integer_within limits path (string s) n e = absurd (cc)
integer_within limits path (float x) n e = absurd (cc)
integer_within limits path (boolean b) n e = absurd (cc)
integer_within limits path (datetime x) n e = absurd (cc)
integer_within limits path (array ds) n e = absurd (cc)
integer_within limits path (table ms) n e = absurd (cc)

-- a required number is within its limits
pub required_within : (limits : Limits) (path key : List ℕ) (ms : Members) (n : ℕ) → required (integer_of limits) path key ms ≡ Ok n → IsWithin limits n
required_within limits path key ms n e = go (get_member key ms) e
  where
    go : (o : Option Data) → found_or (integer_of limits (below path key)) (refusal (below path key) cause.Missing) o ≡ Ok n → IsWithin limits n
    go None e = absurd (cc)
    go (Some d) e = integer_within limits (below path key) d n e

-- and so is one that may be absent
pub optional_within : (limits : Limits) (default : ℕ) (path key : List ℕ) (ms : Members) (n : ℕ) → IsWithin limits default → optional (integer_of limits) default path key ms ≡ Ok n → IsWithin limits n
optional_within limits default path key ms n w e = go (get_member key ms) e
  where
    go : (o : Option Data) → found_or (integer_of limits (below path key)) (Ok default) o ≡ Ok n → IsWithin limits n
    go None e = subst (IsWithin limits) (same_ok default n e) w
    go (Some d) e = integer_within limits (below path key) d n e

-- ---- arrays

-- arrays that are read alike are the same
pub same_items : (a b : Items) → ◌≡◌ {A = Reading Items} (Ok a) (Ok b) → a ≡ b
same_items a b e = cc

-- an array has at most so many elements
pub few_items : (most : ℕ) (path : List ℕ) (d : Data) (ds : Items) → elements_of most path d ≡ Ok ds → item_count ds ≤ most
few_items most path (array es) ds e = go (nat_le (item_count es) most) refl e
  where
    go : (b : Bool) → nat_le (item_count es) most ≡ b → (if b then Ok es else refusal path cause.TooMany) ≡ Ok ds → item_count ds ≤ most
    go true x e = subst (λ y. item_count y ≤ most) (same_items es ds e) (grind (arith, nat_tests, x))
    go false x e = absurd (cc)
few_items most path (string s) ds e = absurd (cc)
few_items most path (integer z) ds e = absurd (cc)
few_items most path (float x) ds e = absurd (cc)
few_items most path (boolean b) ds e = absurd (cc)
few_items most path (datetime x) ds e = absurd (cc)
few_items most path (table ms) ds e = absurd (cc)

-- the same of one that may be absent
pub few_elements : (most : ℕ) (path key : List ℕ) (ms : Members) (vs : List Value) → optional (elements_of most) no_items path key ms ≡ Ok (items_view vs) → length vs ≤ most
few_elements most path key ms vs e = subst (λ k. k ≤ most) (count_of_view vs) (go (get_member key ms) e)
  where
    go : (o : Option Data) → found_or (elements_of most (below path key)) (Ok no_items) o ≡ Ok (items_view vs) → item_count (items_view vs) ≤ most
    go None e = subst (λ y. item_count y ≤ most) (same_items no_items (items_view vs) e) (omega arith)
    go (Some d) e = few_items most (below path key) d (items_view vs) e

-- and of what a function gives that reads it
pub few_given : (most : ℕ) (path key : List ℕ) (ms : Members) (r : Result (Bor (List Value)) LoadError) → Gives (λ vs. items_view vs.now) r (optional (elements_of most) no_items path key ms)
    → IfOk r (λ vs. length vs.now ≤ most)
few_given most path key ms (Ok vs) g = few_elements most path key ms vs.now g
few_given most path key ms (Err e) g = tt

some_of_items : (path : List ℕ) (vs : List Value) → 1 ≤ length vs → some_of path (items_view vs) ≡ Ok (items_view vs)
some_of_items path [] l = absurd (omega (arith, l))
some_of_items path (v ∷ vs) l = refl

-- an array with elements is there
pub some_is_there : (path : List ℕ) (vs : List Value) → ((length vs == 0) ≡ false) → some_of path (items_view vs) ≡ Ok (items_view vs)
some_is_there path vs l = some_of_items path vs (grind (arith, nat_tests, l))

-- one without is missing
pub some_is_missing : (path : List ℕ) (vs : List Value) → ((length vs == 0) ≡ true) → some_of path (items_view vs) ≡ refusal path cause.Missing
some_is_missing path [] l = refl
some_is_missing path (v ∷ vs) l = absurd (grind (arith, nat_tests, l))

-- ---- unknown keys

-- ---- names

-- a name that is found stands among those before
pub place_below : (i : ℕ) (names : List (List ℕ)) (name : List ℕ) (k : ℕ) → index_from i names name ≡ Some k → k < i + length names
place_below i [] name k e = absurd (cc)
place_below i (n ∷ names) name k e = go (bytes_eq n name) (λ f. place_below (i + 1) names name k f) e
  where
    go : (b : Bool) → (index_from (i + 1) names name ≡ Some k → k < i + 1 + length names) → (if b then Some i else index_from (i + 1) names name) ≡ Some k → k < i + suc (length names)
    go true f e = let same : i ≡ k = same_some i k e in omega (arith, same)
    go false f e = omega (arith, f e)

-- the number of a name from the i-th on is its place
index_from_is : (i : ℕ) (names : List (String Global)) (name : List ℕ) → index_from i (texts names) name ≡ position_from (λ n. bytes_eq name (string_bytes n)) i names
index_from_is i [] name = refl
index_from_is i (n ∷ names) name =
    ap (λ b. cond b (Some i) (index_from (i + 1) (texts names) name)) (nat_list_eq_equiv.symm (string_bytes n) name)
    ∙ ap (λ (o : Option ℕ). cond (bytes_eq name (string_bytes n)) (Some i) o) (index_from_is (i + 1) names name)

-- the number of a name is its place
pub index_is : (names : List (String Global)) (name : List ℕ) → index_of (texts names) name ≡ position (λ n. bytes_eq name (string_bytes n)) names
index_is names name = index_from_is 0 names name ∙ sym (position_from-zero (λ n. bytes_eq name (string_bytes n)) names)

-- no name before is the one that isn't found
none_alike : (i : ℕ) (names : List (String Global)) (name : String Global) → index_from i (texts names) (string_bytes name) ≡ None → list_any (string_eq name) names ≡ false
none_alike i [] name e = refl
none_alike i (n ∷ names) name e =
    go (bytes_eq (string_bytes n) (string_bytes name)) (nat_list_eq_equiv.symm (string_bytes n) (string_bytes name)) (none_alike (i + 1) names name) e
  where
    go : (b : Bool) → b ≡ string_eq name n → (index_from (i + 1) (texts names) (string_bytes name) ≡ None → list_any (string_eq name) names ≡ false)
        → (if b then Some i else index_from (i + 1) (texts names) (string_bytes name)) ≡ None → (string_eq name n || list_any (string_eq name) names) ≡ false
    go true x f e = absurd (cc)
    go false x f e = ap (λ b. b || list_any (string_eq name) names) (sym x) ∙ f e

-- one that isn't found goes last
pub goes_last : (names keys : List (String Global)) (text : String Global) (name : List ℕ) → string_bytes text ≡ name → index_of (texts names) name ≡ None → keys ≡ insert_key string_eq names text
    → keys ≡ names ++ text ∷ []
goes_last names keys text name said absent e =
    e ∙ ap (λ b. if b then names else names ++ text ∷ []) (none_alike 0 names text (ap (λ n. index_of (texts names) n) said ∙ absent))

-- ---- one more

-- one task's times more
pub timings_more : (xs : List Timing) (x : Timing) → ((t : ℕ) → t < length xs → IsTiming (timing_at xs t)) → IsTiming x → (t : ℕ) → t < length (xs ++ x ∷ []) → IsTiming (timing_at (xs ++ x ∷ []) t)
timings_more xs x all new t l = go (cases_lt t (length xs))
  where
    go : (t < length xs) ⊎ (length xs ≤ t) → IsTiming (timing_at (xs ++ x ∷ []) t)
    go (inl within) = rw (get_or_append_left xs (x ∷ []) _ t within) (all t within)
    go (inr past) = let last : t ≡ length xs + 0 = omega (arith, past, l, length-append xs (x ∷ [])) in rw (last, get_or-append-add xs (x ∷ []) 0 _) new

-- one weight more
pub weights_more : (xs : List ℕ) (x : ℕ) → ((t : ℕ) → t < length xs → IsOwnWeight (own_weight_at xs t)) → IsOwnWeight x → (t : ℕ) → t < length (xs ++ x ∷ []) → IsOwnWeight (own_weight_at (xs ++ x ∷ []) t)
weights_more xs x all new t l = go (cases_lt t (length xs))
  where
    go : (t < length xs) ⊎ (length xs ≤ t) → IsOwnWeight (own_weight_at (xs ++ x ∷ []) t)
    go (inl within) = rw (get_or_append_left xs (x ∷ []) _ t within) (all t within)
    go (inr past) = let last : t ≡ length xs + 0 = omega (arith, past, l, length-append xs (x ∷ [])) in rw (last, get_or-append-add xs (x ∷ []) 0 _) new

-- one change more
pub changes_more : (groups tasks : ℕ) (xs : List Change) (x : Change) → ((t : ℕ) → t < length xs → IsChange groups tasks (change_at xs t)) → IsChange groups tasks x → (t : ℕ) → t < length (xs ++ x ∷ []) → IsChange groups tasks (change_at (xs ++ x ∷ []) t)
changes_more groups tasks xs x all new t l = go (cases_lt t (length xs))
  where
    go : (t < length xs) ⊎ (length xs ≤ t) → IsChange groups tasks (change_at (xs ++ x ∷ []) t)
    go (inl within) = rw (get_or_append_left xs (x ∷ []) _ t within) (all t within)
    go (inr past) = let last : t ≡ length xs + 0 = omega (arith, past, l, length-append xs (x ∷ [])) in rw (last, get_or-append-add xs (x ∷ []) 0 _) new
