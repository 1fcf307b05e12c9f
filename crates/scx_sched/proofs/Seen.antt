-- Queues as a processor sees them: the first task of a queue that may run on it waits there, and may run on it.
use Rattle.std.proofs.Common.{◌≡◌, ℕ, zero, suc, ◌+◌, Bool, true, false, not, if◌then◌else◌, [], ◌∷◌, length, get_or, Option, Some, None, option_map, refl, sym, ap, ◌∙◌, arith, cond, ◌&&◌, ◌||◌}
use Rattle.scx_dsq.specs.declared.entries.Entry.{Entry}
use Rattle.scx_dsq.specs.Queues.{Entries, QueueState, entries_of, only, entry_of, queue_of, is_in, front_of}
use Rattle.scx_isa_semantics.specs.declared.rules.Rules.{Rules}
use Rattle.scx_weights.specs.Hierarchy.{Hierarchy, is_in_mask}
use Rattle.scx_weights.specs.Hierarchy as tree
use Rattle.scx_sched_world.specs.World.{WorldState, are_linux, binds, may_run}
use Rattle.scx_sched_world.specs.Tasks.{next_for}
use Rattle.scx_sched_world.proofs.Fronts.{front_in}
use Rattle.scx_sched.proofs.Fronts.{AreSame, Equal, Outside, IsSameIn, front_same}

-- ---- some tasks alone

none_both : (b : Bool) → cond {A = Option Entry} b None None ≡ None
none_both true = refl
none_both false = refl

entry_among : (p : ℕ → Bool) (n k : ℕ) (xs : Entries) → get_or (entries_of p n xs) k None ≡ (if p (n + k) then get_or xs k None else None)
entry_among p n k [] = sym (none_both (p (n + k)))
entry_among p n zero (x ∷ xs) = let same : n ≡ n + 0 = omega arith in ap (λ m. if p m then x else None) same
entry_among p n (suc k) (x ∷ xs) = let same : suc n + k ≡ n + suc k = omega arith in entry_among p (suc n) k xs ∙ ap (λ m. if p m then get_or xs k None else None) same

-- the entry of one of them is as it was, and the others have none
pub entry_seen : (p : ℕ → Bool) (s : QueueState) (t : ℕ) → entry_of (only p s) t ≡ (if p t then entry_of s t else None)
entry_seen p s t = let same : 0 + t ≡ t = omega arith in entry_among p 0 t s.entries ∙ ap (λ m. if p m then entry_of s t else None) same

many_among : (p : ℕ → Bool) (n : ℕ) (xs : Entries) → length (entries_of p n xs) ≡ length xs
many_among p n [] = refl
many_among p n (x ∷ xs) = ap suc (many_among p (suc n) xs)

-- a queue that holds the same does so of some tasks alone
pub same_among : (p : ℕ → Bool) (id : ℕ) (s s' : QueueState) → IsSameIn id s s' → IsSameIn id (only p s) (only p s')
same_among p id s s' h = record {
  count = many_among p 0 s'.entries ∙ (h.count ∙ sym (many_among p 0 s.entries));
  same = λ k. by (p k) (entry_of s k) (entry_of s' k) (entry_seen p s k) (entry_seen p s' k) (h.same k);
}
  where
    by : (b : Bool) {x y : Option Entry} (o o' : Option Entry) → x ≡ (if b then o else None) → y ≡ (if b then o' else None) → AreSame id o o' → AreSame id x y
    by true o o' e f (Equal same) = Equal (f ∙ (same ∙ sym e))
    by true o o' e f (Outside out out') = Outside (ap (λ v. is_in id v) e ∙ out) (ap (λ v. is_in id v) f ∙ out')
    by false o o' e f same = Equal (f ∙ sym e)

-- ---- the first task that may run

-- the task waits in that queue, and may run on the processor
pub record IsSeen (w : WorldState) (q c t : ℕ) : Type 0 where
  pub there : queue_of w.queues t ≡ Some q
  pub may : may_run w t c ≡ true

-- so does the first one that may
pub next_seen : (w : WorldState) (q c t : ℕ) → next_for w q c ≡ Some t → IsSeen w q c t
next_seen w q c t e = go (binds w) refl e
  where
    s : QueueState
    s = only (λ k. is_in_mask w.tree k c) w.queues

    home : Option Entry → Option ℕ
    home o = option_map (λ (p : Entry). p.queue) o

    at : (a : Bool) → binds w ≡ true → is_in_mask w.tree t c ≡ a → home (if a then entry_of w.queues t else None) ≡ Some q → IsSeen w q c t
    at true x z v = record { there = v; may = ap (λ b. not b || is_in_mask w.tree t c) x ∙ z }
    at false x z v = absurd (cc)

    go : (b : Bool) → binds w ≡ b → front_of (if b then s else w.queues) q ≡ Some t → IsSeen w q c t
    go false x y = record { there = front_in w.queues q t y; may = ap (λ b. not b || is_in_mask w.tree t c) x }
    go true x y = at (is_in_mask w.tree t c) x refl (ap home (sym (entry_seen (λ k. is_in_mask w.tree k c) w.queues t)) ∙ front_in s q t y)

-- where the queue, the rules and masks are as they were, it is the same one
pub next_same : (w v : WorldState) (q c : ℕ) → IsSameIn q w.queues v.queues → v.tree ≡ w.tree → v.rules ≡ w.rules → next_for v q c ≡ next_for w q c
next_same w v q c same tree-is rules-is = ap (λ h. seen v.rules h v.queues) tree-is ∙ (ap (λ r. seen r w.tree v.queues) rules-is ∙ by (binds w))
  where
    seen : Rules → Hierarchy → QueueState → Option ℕ
    seen r h s = front_of (if are_linux r && tree.binds h then only (λ k. is_in_mask h k c) s else s) q

    by : (b : Bool) → front_of (if b then only (λ k. is_in_mask w.tree k c) v.queues else v.queues) q ≡ front_of (if b then only (λ k. is_in_mask w.tree k c) w.queues else w.queues) q
    by true = front_same (only (λ k. is_in_mask w.tree k c) w.queues) (only (λ k. is_in_mask w.tree k c) v.queues) q (same_among (λ k. is_in_mask w.tree k c) q w.queues v.queues same)
    by false = front_same w.queues v.queues q same
