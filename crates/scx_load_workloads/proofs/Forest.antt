-- Groups and tasks as they are read make a tree: no fault is left for it.
use Rattle.std.proofs.Common.{◌≡◌, ℕ, zero, suc, ◌+◌, ◌<◌, ◌≤◌, Bool, true, false, ◌||◌, ◌⊎◌, inl, inr, nat_lt, nat_le, if◌then◌else◌, List, [], ◌∷◌, ◌++◌, length, Option, Some, None, is_some, Ok, Err, codes, refl, sym, ap, ◌∙◌, subst, arith}
use Rattle.std.proofs.lemmas.Bool.{cases_eq}
use Rattle.std.proofs.lemmas.Bool.Decides.{nat_tests}
use Rattle.std.proofs.lemmas.List.{length-append, get_or_append_left, get_or-append-add}
use Rattle.std.proofs.lemmas.List.Folds.{list_any-append}
use Rattle.toml.specs.Data.{Data, Items, no_items, item, Members, get_member}
use Rattle.scx_load_files.specs.declared.fault.Cause.TheVariants as cause
use Rattle.scx_isa_semantics.specs.Results.{◌>>=◌}
use Rattle.scx_isa_semantics.specs.declared.rules.Rules.{Rules}
use Rattle.scx_load_files.specs.Faults.{Reading, refusal}
use Rattle.scx_load_files.specs.Paths.{below, element}
use Rattle.scx_load_files.specs.Values.{found_or, required, optional, table_of, text_of, integer_of, elements_of, item_count}
use Rattle.scx_weights.specs.declared.group.Group.{Group}
use Rattle.scx_weights.specs.Counting.{any_below}
use Rattle.scx_weights.specs.Hierarchy.{parent_of}
use Rattle.scx_weights.specs.Refusals.{is_outside, is_late, has_late_parent, has_unknown_home, has_bad_weight, max_period, is_bad_quota, has_bad_limit, above, has_deep_group, has_task_above, first_fault}
use Rattle.scx_load_workloads.specs.Reading.{weight_limits, fold_from, some_of, some_elements, index_of, new_name, group_named, GroupList, no_groups, is_deep, if_shallow, parent_named, limit_read, with_group, group_at, groups_in, TaskList, no_tasks, has_children, if_leaf, leaf_named, own_weight_in, mask_of_task, timing_in, with_task, task_at, tasks_in}
use Rattle.scx_load_workloads.specs.declared.limit.Limit.{Limit}
use Rattle.scx_load_workloads.specs.Limit.{no_limit, limit_in}
use Rattle.scx_load_workloads.proofs.Limits.{IsRight, says_right}
use Rattle.scx_load_workloads.proofs.Values.{IsWithin, optional_within, few_items, place_below, same_items}

-- ---- what was read in turn

pub record Parts {A B : Type 0} (r : Reading A) (f : A → Reading B) (y : B) : Type 0 where
  pub value : A
  pub first : r ≡ Ok value
  pub second : f value ≡ Ok y

pub parts : {A B : Type 0} (r : Reading A) (f : A → Reading B) (y : B) → (r >>= f) ≡ Ok y → Parts r f y
parts (Ok x) f y e = record { value = x; first = refl; second = e }
parts (Err e) f y x = absurd (cc)

pub same_ok : {A : Type 0} (a b : A) → ◌≡◌ {A = Reading A} (Ok a) (Ok b) → a ≡ b
same_ok a b e = cc

-- what each element keeps, and how many there are
pub kept : {S : Type 0} (read : S → ℕ → Data → Reading S) (P : S → Type 0) → ((s : S) (n : ℕ) (d : Data) (t : S) → read s n d ≡ Ok t → P s → P t)
    → (ds : Items) (s : S) (n : ℕ) (t : S) → fold_from read s n ds ≡ Ok t → P s → P t
kept read P step no_items s n t e p = subst P (same_ok s t e) p
kept read P step (item d ds) s n t e p =
    let x = parts (read s n d) (λ u. fold_from read u (n + 1) ds) t e in
    kept read P step ds x.value (n + 1) t x.second (step s n d x.value x.first p)

counted : {S : Type 0} (read : S → ℕ → Data → Reading S) (size : S → ℕ) → ((s : S) (n : ℕ) (d : Data) (t : S) → read s n d ≡ Ok t → size t ≡ size s + 1)
    → (ds : Items) (s : S) (n : ℕ) (t : S) → fold_from read s n ds ≡ Ok t → size t ≡ size s + item_count ds
counted read size step no_items s n t e = ap size (sym (same_ok s t e)) ∙ omega arith
counted read size step (item d ds) s n t e =
    let x = parts (read s n d) (λ u. fold_from read u (n + 1) ds) t e in
    omega (arith, counted read size step ds x.value (n + 1) t x.second, step s n d x.value x.first)

record AreSome (most : ℕ) (ds : Items) : Type 0 where
  pub least : 1 ≤ item_count ds
  pub greatest : item_count ds ≤ most

some_are : (most : ℕ) (key : List ℕ) (ms : Members) (ds : Items) → some_elements most key ms ≡ Ok ds → AreSome most ds
some_are most key ms ds e =
    let x = parts (optional (elements_of most) no_items [] key ms) (some_of key) ds e in
    at x.value (few x.value x.first) x.second
  where
    few : (es : Items) → optional (elements_of most) no_items [] key ms ≡ Ok es → item_count es ≤ most
    few es f = go (get_member key ms) f
      where
        go : (o : Option Data) → found_or (elements_of most (below [] key)) (Ok no_items) o ≡ Ok es → item_count es ≤ most
        go None f = subst (λ y. item_count y ≤ most) (same_items no_items es f) (omega arith)
        go (Some d) f = few_items most (below [] key) d es f

    at : (es : Items) → item_count es ≤ most → some_of key es ≡ Ok ds → AreSome most ds
    at no_items l f = absurd (cc)
    at (item d es) l f = subst (AreSome most) (same_items (item d es) ds f) record { least = omega arith; greatest = l }

-- ---- groups

any_same : (n : ℕ) (f g : ℕ → Bool) → ((k : ℕ) → k < n → f k ≡ g k) → any_below n f ≡ any_below n g
any_same zero f g h = refl
any_same (suc n) f g h = rw (any_same n f g (λ k l. h k (omega (arith, l))), h n (omega arith)) refl

none_at : (n k : ℕ) (f : ℕ → Bool) → any_below n f ≡ false → k < n → f k ≡ false
none_at zero k f e l = absurd (omega (arith, l))
none_at (suc n) k f e l = go (any_below n f) (f n) refl refl e (cases_eq k n) (λ x d. none_at n k f x (omega (arith, l, d)))
  where
    go : (a b : Bool) → any_below n f ≡ a → f n ≡ b → (a || b) ≡ false → (k ≡ n) ⊎ (k ≡ n → ⊥) → (any_below n f ≡ false → (k ≡ n → ⊥) → f k ≡ false) → f k ≡ false
    go false false x y z (inl is) g = rw is y
    go false false x y z (inr d) g = g x d
    go true b x y z c g = absurd (cc)
    go false true x y z c g = absurd (cc)

-- the group, if there is one, is there
abbrev Within : ℕ → Option ℕ → Type 0
Within n None = Unit {0}
Within n (Some k) = k < n

earlier : (k : ℕ) (o : Option ℕ) (n : ℕ) → is_late k o ≡ false → k < n → Within n o
earlier k None n e l = tt
earlier k (Some p) n e l = let x : p < k = grind (arith, nat_tests, e) in omega (arith, x, l)

module _ (groups : List Group) (x : Group) where
  parent_left : (k : ℕ) → k < length groups → parent_of (groups ++ x ∷ []) k ≡ parent_of groups k
  parent_left k l = ap (λ (g : Group). g.parent) (get_or_append_left groups (x ∷ []) _ k l)

  parent_last : parent_of (groups ++ x ∷ []) (length groups) ≡ x.parent
  parent_last =
      let last : length groups + 0 ≡ length groups = omega arith in
      subst (λ k. parent_of (groups ++ x ∷ []) k ≡ x.parent) last (ap (λ (g : Group). g.parent) (get_or-append-add groups (x ∷ []) 0 (record { parent = None; weight = 0; quota_ms = None; period_ms = 0 })))

  above_left : has_late_parent groups ≡ false → (m : ℕ) (o : Option ℕ) → Within (length groups) o → above (groups ++ x ∷ []) m o ≡ above groups m o
  above_left late zero o w = refl
  above_left late (suc m) None w = refl
  above_left late (suc m) (Some k) w =
      rw (parent_left k w) (above_left late m (parent_of groups k) (earlier k (parent_of groups k) (length groups) (none_at (length groups) k (λ g. is_late g (parent_of groups g)) late w) w))

  length_more : length (groups ++ x ∷ []) ≡ suc (length groups)
  length_more = length-append groups (x ∷ []) ∙ omega arith

  late_more : has_late_parent groups ≡ false → is_late (length groups) x.parent ≡ false → has_late_parent (groups ++ x ∷ []) ≡ false
  late_more late new =
      rw (length_more, parent_last, new, any_same (length groups) (λ g. is_late g (parent_of (groups ++ x ∷ []) g)) (λ g. is_late g (parent_of groups g)) (λ k l. ap (is_late k) (parent_left k l)), late) refl

  -- a group below the last of a line of three isn't taken
  deep_more : has_late_parent groups ≡ false → has_deep_group groups ≡ false → Within (length groups) x.parent → above groups 2 x.parent ≡ None → has_deep_group (groups ++ x ∷ []) ≡ false
  deep_more late deep within top =
      let last : above (groups ++ x ∷ []) 3 (Some (length groups)) ≡ None = ap (above (groups ++ x ∷ []) 2) parent_last ∙ above_left late 2 x.parent within ∙ top in
      rw (length_more, any_same (length groups) (λ g. is_some (above (groups ++ x ∷ []) 3 (Some g))) (λ g. is_some (above groups 3 (Some g))) (λ k l. ap is_some (above_left late 3 (Some k) (here k l))), deep, last) refl
    where
      here : (k : ℕ) → k < length groups → Within (length groups) (Some k)
      here k l = l

  weights_more : has_bad_weight groups ≡ false → is_outside 10000 x.weight ≡ false → has_bad_weight (groups ++ x ∷ []) ≡ false
  weights_more all new = rw (list_any-append (λ (g : Group). is_outside 10000 g.weight) groups (x ∷ []), all, new) refl

  limits_more : has_bad_limit groups ≡ false → is_bad_quota x.quota_ms ≡ false → is_outside max_period x.period_ms ≡ false → has_bad_limit (groups ++ x ∷ []) ≡ false
  limits_more all quota period =
      rw (list_any-append (λ (g : Group). is_bad_quota g.quota_ms || is_outside max_period g.period_ms) groups (x ∷ []), all, quota, period) refl

record IsForest (g : GroupList) : Type 0 where
  pub even : length g.names ≡ length g.groups
  pub late : has_late_parent g.groups ≡ false
  pub weights : has_bad_weight g.groups ≡ false
  pub limits : has_bad_limit g.groups ≡ false
  pub deep : has_deep_group g.groups ≡ false

-- a group that was named is there
named_below : (names : List (List ℕ)) (path : List ℕ) (d : Data) (p : ℕ) → group_named names path d ≡ Ok p → p < length names
named_below names path d p e =
    let x = parts (text_of path d) (λ text. found_or Ok (refusal path cause.NoSuchGroup) (index_of names text)) p e in
    go x.value (index_of names x.value) refl x.second
  where
    go : (text : List ℕ) (o : Option ℕ) → index_of names text ≡ o → found_or Ok (refusal path cause.NoSuchGroup) o ≡ Ok p → p < length names
    go text None f g = absurd (cc)
    go text (Some k) f g = subst (λ i. i < length names) (same_ok k p g) (let l = place_below 0 names text k f in omega (arith, l))

record IsParent (groups : List Group) (o : Option ℕ) : Type 0 where
  pub within : Within (length groups) o
  pub top : above groups 2 o ≡ None
  pub late : is_late (length groups) o ≡ false

is_parent : (g : GroupList) (path key : List ℕ) (ms : Members) (o : Option ℕ) → length g.names ≡ length g.groups → optional (parent_named g) None path key ms ≡ Ok o → IsParent g.groups o
is_parent g path key ms o even e = at (get_member key ms) e
  where
    none : IsParent g.groups None
    none = record { within = tt; top = refl; late = refl }

    some : (p : ℕ) → p < length g.groups → is_deep g.groups p ≡ false → IsParent g.groups (Some p)
    some p l f = record { within = l; top = not_there (above g.groups 2 (Some p)) f; late = grind (arith, nat_tests, l) }
      where
        not_there : (x : Option ℕ) → is_some x ≡ false → x ≡ None
        not_there None h = refl
        not_there (Some k) h = absurd (cc)

    shallow : (p : ℕ) → p < length g.groups → if_shallow g.groups (below path key) p ≡ Ok o → IsParent g.groups o
    shallow p l f = go (is_deep g.groups p) refl f
      where
        go : (b : Bool) → is_deep g.groups p ≡ b → (if b then refusal (below path key) cause.TooDeep else Ok (Some p)) ≡ Ok o → IsParent g.groups o
        go true x y = absurd (cc)
        go false x y = subst (IsParent g.groups) (same_ok (Some p) o y) (some p l x)

    at : (m : Option Data) → found_or (parent_named g (below path key)) (Ok None) m ≡ Ok o → IsParent g.groups o
    at None f = subst (IsParent g.groups) (same_ok None o f) none
    at (Some d) f =
        let x = parts (group_named g.names (below path key) d) (if_shallow g.groups (below path key)) o f in
        shallow x.value (let l = named_below g.names (below path key) d x.value x.first in omega (arith, l, even)) x.second

with_one_more : (g : GroupList) (name : List ℕ) (group : Group) → IsForest g → IsWithin weight_limits group.weight → is_bad_quota group.quota_ms ≡ false → is_outside max_period group.period_ms ≡ false → IsParent g.groups group.parent
    → IsForest (record { names = g.names ++ name ∷ []; groups = g.groups ++ group ∷ [] })
with_one_more g name group f w quota period p = record {
  even = length-append g.names (name ∷ []) ∙ omega (arith, f.even) ∙ sym (length-append g.groups (group ∷ []));
  late = late_more g.groups group f.late p.late;
  weights = weights_more g.groups group f.weights (inside group.weight w);
  limits = limits_more g.groups group f.limits quota period;
  deep = deep_more g.groups group f.late f.deep p.within p.top;
}
  where
    inside : (n : ℕ) → IsWithin weight_limits n → is_outside 10000 n ≡ false
    inside n w = let a : nat_lt n 1 ≡ false = grind (arith, nat_tests, w.least) in let b : nat_lt 10000 n ≡ false = grind (arith, nat_tests, w.most) in rw (a, b) refl

-- a limit that was read is within its bounds
is_right : (path key : List ℕ) (ms : Members) (limit : Limit) → optional limit_read no_limit path key ms ≡ Ok limit → IsRight limit
is_right path key ms limit e = at (get_member key ms) e
  where
    said : (text : List ℕ) (o : Option Limit) → limit_in text ≡ o → found_or Ok (refusal (below path key) cause.OutOfRange) o ≡ Ok limit → IsRight limit
    said text None x f = absurd (cc)
    said text (Some l) x f = subst IsRight (same_ok l limit f) (says_right text l x)

    at : (m : Option Data) → found_or (limit_read (below path key)) (Ok no_limit) m ≡ Ok limit → IsRight limit
    at None f = subst IsRight (same_ok no_limit limit f) record { quota = refl; period = refl }
    at (Some d) f =
        let x = parts (text_of (below path key) d) (λ text. found_or Ok (refusal (below path key) cause.OutOfRange) (limit_in text)) limit f in
        said x.value (limit_in x.value) refl x.second

group_step : (g : GroupList) (path : List ℕ) (ms : Members) (h : GroupList) → with_group g path ms ≡ Ok h → IsForest g → IsForest h
group_step g path ms h e f =
    let a = parts (new_name g.names path ms) _ h e in
    let b = parts (optional (integer_of weight_limits) 100 path (codes "weight") ms) _ h a.second in
    let c = parts (optional (parent_named g) None path (codes "parent") ms) _ h b.second in
    let d = parts (optional limit_read no_limit path (codes "cpu_max") ms) _ h c.second in
    let w = optional_within weight_limits 100 path (codes "weight") ms b.value record { least = omega arith; most = omega arith } b.first in
    let l = is_right path (codes "cpu_max") ms d.value d.first in
    subst IsForest (same_ok _ h d.second) (with_one_more g a.value (record { parent = c.value; weight = b.value; quota_ms = d.value.quota_ms; period_ms = d.value.period_ms }) f w l.quota l.period (is_parent g path (codes "parent") ms c.value f.even c.first))

group_count : (g : GroupList) (path : List ℕ) (ms : Members) (h : GroupList) → with_group g path ms ≡ Ok h → length h.groups ≡ length g.groups + 1
group_count g path ms h e =
    let a = parts (new_name g.names path ms) _ h e in
    let b = parts (optional (integer_of weight_limits) 100 path (codes "weight") ms) _ h a.second in
    let c = parts (optional (parent_named g) None path (codes "parent") ms) _ h b.second in
    let d = parts (optional limit_read no_limit path (codes "cpu_max") ms) _ h c.second in
    subst (λ (y : GroupList). length y.groups ≡ length g.groups + 1) (same_ok _ h d.second) (length-append g.groups (record { parent = c.value; weight = b.value; quota_ms = d.value.quota_ms; period_ms = d.value.period_ms } ∷ []))

-- ---- tasks

record AreHome (g : GroupList) (t : TaskList) : Type 0 where
  pub known : has_unknown_home g.groups t.homes ≡ false
  pub leaves : has_task_above g.groups t.homes ≡ false

record IsLeaf (g : GroupList) (h : ℕ) : Type 0 where
  pub known : nat_le (length g.groups) h ≡ false
  pub leaf : has_children g.groups h ≡ false

leaf_is : (g : GroupList) (path key : List ℕ) (ms : Members) (h : ℕ) → length g.names ≡ length g.groups → required (leaf_named g) path key ms ≡ Ok h → IsLeaf g h
leaf_is g path key ms h even e = at (get_member key ms) e
  where
    right : (k : ℕ) → k < length g.groups → if_leaf g.groups (below path key) k ≡ Ok h → IsLeaf g h
    right k l f = go (has_children g.groups k) refl f
      where
        go : (b : Bool) → has_children g.groups k ≡ b → (if b then refusal (below path key) cause.NotALeaf else Ok k) ≡ Ok h → IsLeaf g h
        go true x y = absurd (cc)
        go false x y = subst (IsLeaf g) (same_ok k h y) record { known = grind (arith, nat_tests, l); leaf = x }

    at : (m : Option Data) → found_or (leaf_named g (below path key)) (refusal (below path key) cause.Missing) m ≡ Ok h → IsLeaf g h
    at None f = absurd (cc)
    at (Some d) f =
        let x = parts (group_named g.names (below path key) d) (if_leaf g.groups (below path key)) h f in
        right x.value (let l = named_below g.names (below path key) d x.value x.first in omega (arith, l, even)) x.second

task_step : (rules : Rules) (cpus : ℕ) (g : GroupList) (t : TaskList) (path : List ℕ) (ms : Members) (u : TaskList) → length g.names ≡ length g.groups → with_task rules cpus g t path ms ≡ Ok u → AreHome g t → AreHome g u
task_step rules cpus g t path ms u even e f =
    let a = parts (new_name t.names path ms) _ u e in
    let b = parts (required (leaf_named g) path (codes "group") ms) _ u a.second in
    let w = parts (own_weight_in rules path ms) _ u b.second in
    let m = parts (mask_of_task rules cpus path ms) _ u w.second in
    let c = parts (timing_in path ms) _ u m.second in
    let l = leaf_is g path (codes "group") ms b.value even b.first in
    subst (AreHome g) (same_ok _ u c.second) record {
      known = rw (list_any-append (λ home. nat_le (length g.groups) home) t.homes (b.value ∷ []), f.known, l.known) refl;
      leaves = rw (list_any-append (λ home. has_children g.groups home) t.homes (b.value ∷ []), f.leaves, l.leaf) refl;
    }

task_count : (rules : Rules) (cpus : ℕ) (g : GroupList) (t : TaskList) (path : List ℕ) (ms : Members) (u : TaskList) → with_task rules cpus g t path ms ≡ Ok u → length u.homes ≡ length t.homes + 1
task_count rules cpus g t path ms u e =
    let a = parts (new_name t.names path ms) _ u e in
    let b = parts (required (leaf_named g) path (codes "group") ms) _ u a.second in
    let w = parts (own_weight_in rules path ms) _ u b.second in
    let m = parts (mask_of_task rules cpus path ms) _ u w.second in
    let c = parts (timing_in path ms) _ u m.second in
    subst (λ (y : TaskList). length y.homes ≡ length t.homes + 1) (same_ok _ u c.second) (length-append t.homes (b.value ∷ []))

-- ---- both

pub inside : (most n : ℕ) → 1 ≤ n → n ≤ most → is_outside most n ≡ false
inside most n l m = let a : nat_lt n 1 ≡ false = grind (arith, nat_tests, l) in let b : nat_lt most n ≡ false = grind (arith, nat_tests, m) in rw (a, b) refl

-- whatever the file
pub tree_is_right : (rules : Rules) (cpus : ℕ) (ms : Members) (g : GroupList) (t : TaskList) → groups_in ms ≡ Ok g → tasks_in rules cpus g ms ≡ Ok t → first_fault g.groups t.homes ≡ None
tree_is_right rules cpus ms g t e f = rw (forest.late, homes.known, inside 256 (length g.groups) (omega (arith, groups, x'.least)) (omega (arith, groups, x'.greatest)), inside 1024 (length t.homes) (omega (arith, tasks, y'.least)) (omega (arith, tasks, y'.greatest)), forest.weights, forest.limits, forest.deep, homes.leaves) refl
  where
    x : Parts (some_elements 256 (codes "group") ms) (fold_from group_at no_groups 0) g
    x = parts (some_elements 256 (codes "group") ms) (fold_from group_at no_groups 0) g e

    x' : AreSome 256 x.value
    x' = some_are 256 (codes "group") ms x.value x.first

    y : Parts (some_elements 1024 (codes "task") ms) (fold_from (task_at rules cpus g) no_tasks 0) t
    y = parts (some_elements 1024 (codes "task") ms) (fold_from (task_at rules cpus g) no_tasks 0) t f

    y' : AreSome 1024 y.value
    y' = some_are 1024 (codes "task") ms y.value y.first

    forest : IsForest g
    forest = kept group_at IsForest (λ s n d u r p. let z = parts (table_of (element (codes "group") n) d) (with_group s (element (codes "group") n)) u r in group_step s (element (codes "group") n) z.value u z.second p)
        x.value no_groups 0 g x.second record { even = refl; late = refl; weights = refl; limits = refl; deep = refl }

    groups : length g.groups ≡ 0 + item_count x.value
    groups = counted group_at (λ (s : GroupList). length s.groups) (λ s n d u r. let z = parts (table_of (element (codes "group") n) d) (with_group s (element (codes "group") n)) u r in group_count s (element (codes "group") n) z.value u z.second)
        x.value no_groups 0 g x.second

    homes : AreHome g t
    homes = kept (task_at rules cpus g) (AreHome g) (λ s n d u r p. let z = parts (table_of (element (codes "task") n) d) (with_task rules cpus g s (element (codes "task") n)) u r in task_step rules cpus g s (element (codes "task") n) z.value u forest.even z.second p)
        y.value no_tasks 0 t y.second record { known = refl; leaves = refl }

    tasks : length t.homes ≡ 0 + item_count y.value
    tasks = counted (task_at rules cpus g) (λ (s : TaskList). length s.homes) (λ s n d u r. let z = parts (table_of (element (codes "task") n) d) (with_task rules cpus g s (element (codes "task") n)) u r in task_count rules cpus g s (element (codes "task") n) z.value u z.second)
        y.value no_tasks 0 t y.second
