-- Bounds that words name, and limits that words or machines are past.
use Rattle.std.proofs.Common.{◌≡◌, ◌≢◌, ℕ, ◌<◌, ◌≤◌, true, false, List, length, Option, Some, None, codes, bytes_eq, true≢false, sym, ◌∙◌, subst, arith}
use Rattle.std.proofs.lemmas.Slice.Eq.{bytes_eq-Decides}
use Rattle.scx_maps.specs.Lending.{all_bytes}
use Rattle.scx_load_workloads.specs.Limit.{numeral}
use Rattle.scx_sched.specs.Sim.{SimState}
use Rattle.scx_explore_bounds.specs.declared.bounds.Bounds.{Bounds}
use Rattle.scx_explore_bounds.specs.declared.bounds.Mode.{Mode}
use Rattle.scx_explore_bounds.specs.declared.bounds.Mode.TheVariants as mode
use Rattle.scxsim_explore.specs.declared.limits.Limit.{Limit}
use Rattle.scxsim_explore.specs.declared.limits.Limit.TheVariants as limit
use Rattle.scxsim_explore.specs.declared.limits.Lists.{Lists}
use Rattle.scx_load_workloads.specs.Workload.{WorkloadState}
use Rattle.std.specs.Prelude.{IfSome}
use Rattle.scxsim_explore.specs.Words.{HasManyChanges, IsBoundsOf, IsDepth, IsFew, IsLarge, IsNoDepth, IsNoFew, IsNoMode, IsPastIn, IsPastWords, IsSmall, few_word, mode_word, most_depth}

-- a word that is the same text
pub is_word : (word text : List ℕ) → bytes_eq word text ≡ true → word ≡ text
is_word word text is = (bytes_eq-Decides word text).0 is

not_word : (word text : List ℕ) → bytes_eq word text ≡ false → word ≢ text
not_word word text differs = λ is. true≢false (sym ((bytes_eq-Decides word text).1 is) ∙ differs)

-- a word that is that of no mode
pub no_mode : (word : List ℕ) → bytes_eq word (codes "events") ≡ false → bytes_eq word (codes "ms") ≡ false → bytes_eq word (codes "workloads") ≡ false → IsNoMode word
no_mode word a b c mode.Events = not_word word (codes "events") a
no_mode word a b c mode.Milliseconds = not_word word (codes "ms") b
no_mode word a b c mode.Workloads = not_word word (codes "workloads") c

-- a number within the range
pub is_depth : (m : Mode) (word : List ℕ) (n : ℕ) → numeral word ≡ Some n → n ≢ 0 → n ≤ most_depth m → IsDepth m word n
is_depth m word n is some most = record { number = is; least = omega (arith, some); most = most }

one_number : (a b : ℕ) (o : Option ℕ) → o ≡ Some a → o ≡ Some b → a ≡ b
one_number a b o h k = cc

-- no number
pub no_number : (m : Mode) (word : List ℕ) → numeral word ≡ None → IsNoDepth m word
no_number m word none depth h = go (numeral word) none h.number
  where
    go : (o : Option ℕ) → o ≡ None → o ≡ Some depth → ⊥
    go o a b = absurd (cc)

-- 0 is none of them
pub no_zero : (m : Mode) (word : List ℕ) → numeral word ≡ Some 0 → IsNoDepth m word
no_zero m word zero depth h =
    let is : 0 ≡ depth = one_number 0 depth (numeral word) zero h.number in
    absurd (omega (arith, is, h.least))

-- nor is one that is greater than the greatest
pub no_deeper : (m : Mode) (word : List ℕ) (n : ℕ) → numeral word ≡ Some n → most_depth m < n → IsNoDepth m word
no_deeper m word n number greater depth h =
    let is : n ≡ depth = one_number n depth (numeral word) number h.number in
    absurd (omega (arith, is, greater, h.most))

-- no number of wakes and sleeps
pub no_few : (word : List ℕ) → numeral word ≡ None → IsNoFew (Some word)
no_few word none None h = h
no_few word none (Some few) (is, most) = go (numeral word) none is
  where
    go : (o : Option ℕ) → o ≡ None → o ≡ Some few → ⊥
    go o a b = absurd (cc)

-- more of them than the most
pub no_more : (word : List ℕ) (n : ℕ) → numeral word ≡ Some n → 64 < n → IsNoFew (Some word)
no_more word n number greater None h = h
no_more word n number greater (Some few) (is, most) =
    let same : n ≡ few = one_number n few (numeral word) number is in
    absurd (omega (arith, same, greater, most))

-- the bounds that three words name
pub is_named : (l : Lists) (m : Mode) (depth : ℕ) (few : Option ℕ) → l.mode.now ≡ mode_word m → IsDepth m l.depth.now depth → IsFew (few_word l) few
    → IsBoundsOf l (record { mode = m; depth = depth; few = few })
is_named l m depth few mode deep bound = record { mode = mode; depth = deep; few = bound }

-- the first word is wrong
pub past_mode : (l : Lists) (past : Limit) → (past ≡ limit.Mode) × IsNoMode l.mode.now → IsPastWords l past
past_mode l past (is, wrong) = subst (IsPastWords l) (sym is) wrong

-- the second one
pub past_depth : (l : Lists) (m : Mode) (past : Limit) → l.mode.now ≡ mode_word m → (past ≡ limit.Depth) × IsNoDepth m l.depth.now → IsPastWords l past
past_depth l m past mode (is, wrong) = subst (IsPastWords l) (sym is) (m, mode, wrong)

-- the last one
pub past_few : (l : Lists) (m : Mode) (depth : ℕ) (past : Limit) → l.mode.now ≡ mode_word m → IsDepth m l.depth.now depth → (past ≡ limit.Few) × IsNoFew (few_word l) → IsPastWords l past
past_few l m depth past mode deep (is, wrong) = subst (IsPastWords l) (sym is) (m, mode, depth, deep, wrong)

-- a machine that is small enough
pub is_small : (s : SimState) → length s.state.world.tasks ≤ 8 → length s.state.world.cpus ≤ 4 → length (all_bytes s.state.maps) ≤ 1048576 → IsSmall s
is_small s tasks cpus maps = record { tasks = tasks; cpus = cpus; maps = maps }

-- a machine that is past a limit of its size
pub past_size : (b : Bounds) (w : WorkloadState) (s : SimState) (past : Limit) → IsLarge s past → IsPastIn b w s past
past_size b w s limit.Mode large = absurd large
past_size b w s limit.Depth large = absurd large
past_size b w s limit.Few large = absurd large
past_size b w s limit.Tasks large = large
past_size b w s limit.Cpus large = large
past_size b w s limit.Maps large = large
past_size b w s limit.Changes large = absurd large

-- a workload that is past the limit on changes, if it is
pub past_changes : (b : Bounds) (w : WorkloadState) (s : SimState) (r : Option Limit) → IsSmall s → IfSome r (λ (past : Limit). (past ≡ limit.Changes) × HasManyChanges b w) → IfSome r (IsPastIn b w s)
past_changes b w s None small many = many
past_changes b w s (Some past) small (is, many) = subst (IsPastIn b w s) (sym is) (small, many)
