-- From the clearing of a local queue to the start of its front: the front may run, and stays the front.
use Rattle.std.proofs.Common.{◌≡◌, ℕ, suc, ◌<◌, Bool, true, false, ◌==◌, ◌&&◌, not, nat_lt, ◌<ℤ◌, ℤ, pos, negsuc, int_lt, cond, List, [], ◌∷◌, length, get_or, Option, Some, None, is_some, option_map, refl, sym, ap, ◌∙◌, subst, arith}
use Rattle.std.specs.List.{count_by}
use Rattle.std.proofs.lemmas.Bool.{ne_eqb, eqb-true, lt-ltb, and_parts}
use Rattle.std.proofs.lemmas.Int.{ints}
use Rattle.std.proofs.lemmas.List.{length-set}
use Rattle.std.proofs.lemmas.List.Sums.{sum_by-cons}
use Rattle.scx_dsq.specs.declared.entries.Entry.{Entry}
use Rattle.scx_dsq.specs.declared.entries.Rank.{Rank}
use Rattle.scx_dsq.specs.declared.entries.Rank.TheVariants.{Fifo, Front, Vtime}
use Rattle.scx_dsq.specs.Entries.{same_sort, is_before}
use Rattle.scx_dsq.specs.Laws.{one_if}
use Rattle.scx_dsq.specs.Queues.{Entries, QueueState, entry_of, is_in, len_of, front_of}
use Rattle.scx_dsq.specs.Calls.{next_entry, after_push}
use Rattle.scx_weights.specs.Limits.{is_throttled}
use Rattle.scx_sched_tasks.specs.Tasks.{default_slice}
use Rattle.scx_sched_world.specs.declared.call.Insert.{Insert}
use Rattle.scx_sched_world.specs.declared.eject.Eject.{Eject}
use Rattle.scx_sched_world.specs.Ids.{builtin_queue, parked_queue, local_on}
use Rattle.scx_sched_world.specs.World.{WorldState, is_by_linux, with_queues, with_task, task_at, waits_in, waits}
use Rattle.scx_sched_world.specs.World as world
use Rattle.scx_dsq.proofs.Facts.{front_is_known}
use Rattle.scx_sched_world.specs.Tasks.{local_len, with_home, with_builtin, with_slice, rank_by, task_after_insert, after_enter}
use Rattle.scx_sched_world.specs.Ejecting.{builtin_vtime, put_builtin}
use Rattle.scx_sched_machine.proofs.Choices.{keeps_if}
use Rattle.scx_sched.specs.Once.{IsSound, IsBehind, GoesBehind, sort_of, fits_queue, fits_sort}
use Rattle.scx_sched.specs.Kept.{IsWanted, ForAny, Nowhere, Inserted, InFront, Before}
use Rattle.scx_sched.specs.Over.{GoesOver}
use Rattle.scx_sched.proofs.Marks.{KeepsMarks, Anywhere, kept_put, kept_entered}
use Rattle.scx_sched.proofs.Entering.{nowhere, low_or, open_by}
use Rattle.scx_sched.proofs.Waiting.{pushed_other}
use Rattle.scx_sched_world.proofs.Fronts.{front_in}
use Rattle.scx_sched.proofs.Sound.{inside, wanted_open}
use Rattle.scx_sched.proofs.Firsts.{no_front_is_empty}
use Rattle.scx_sched.proofs.Fronts.{AreSame, Equal, Outside, IsSameIn, front_same, same_here, same_pushed, front_pushed}
use Rattle.scx_sched.proofs.Lengths.{len_pushed}
use Rattle.scx_sched.proofs.Calm.{IsCalm}

-- the front of the local queue, if there is one, may run
abbrev pub IsClear : ℕ → WorldState → Type 0
IsClear c w = (t : ℕ) → front_of w.queues (local_on c) ≡ Some t → is_throttled w.tree t ≡ false

-- the same, in the words of the world
abbrev pub MayStart : ℕ → WorldState → Type 0
MayStart c w = (t : ℕ) → front_of w.queues (local_on c) ≡ Some t → world.is_throttled w t ≡ false

-- of a task that there is
pub tree_free : (w : WorldState) (t : ℕ) → t < length w.tasks → world.is_throttled w t ≡ false → is_throttled w.tree t ≡ false
tree_free w t l e = sym (ap (λ b. b && is_throttled w.tree t) (lt-ltb t (length w.tasks) l)) ∙ e

-- who is throttled in the world is throttled by the tree
pub tree_used_up : (w : WorldState) (t : ℕ) → world.is_throttled w t ≡ true → is_throttled w.tree t ≡ true
tree_used_up w t e = (and_parts (nat_lt t (length w.tasks)) (is_throttled w.tree t) e).1

-- in a sound world, a front that may run as the world has it may run as the tree has it
pub clear_of : (hand : Option ℕ) (on : List (Option ℕ)) (n c : ℕ) (w : WorldState) → IsSound hand on n w → MayStart c w → IsClear c w
clear_of hand on n c w h may t e = tree_free w t (omega (arith, front_is_known w.queues (local_on c) (Some t) (sym e), h.even, h.tasks)) (may t e)

-- and there is one, as long as the policy is in force
pub record IsReady (c : ℕ) (w : WorldState) : Type 0 where
  pub clear : IsClear c w
  pub some : w.ejected ≡ None → 0 < local_len w c

-- ---- the same queue

count_same : (id : ℕ) (xs ys : Entries) → length ys ≡ length xs → ((k : ℕ) → is_in id (get_or ys k None) ≡ is_in id (get_or xs k None)) → count_by (is_in id) ys ≡ count_by (is_in id) xs
count_same id [] [] e h = refl
count_same id [] (y ∷ ys) e h = absurd (omega (arith, e))
count_same id (x ∷ xs) [] e h = absurd (omega (arith, e))
count_same id (x ∷ xs) (y ∷ ys) e h =
    omega (arith, sum_by-cons (λ o. one_if (is_in id o)) x xs, sum_by-cons (λ o. one_if (is_in id o)) y ys, ap one_if (h 0), count_same id xs ys (omega (arith, e)) (λ k. h (suc k)))

-- a queue in which the same tasks are is as long as before
pub len_same : (id : ℕ) (s s' : QueueState) → IsSameIn id s s' → len_of s' id ≡ len_of s id
len_same id s s' h = count_same id s.entries s'.entries h.count (λ k. one k (h.same k))
  where
    one : (k : ℕ) → AreSame id (entry_of s k) (entry_of s' k) → is_in id (entry_of s' k) ≡ is_in id (entry_of s k)
    one k (Equal e) = ap (λ o. is_in id o) e
    one k (Outside before after) = after ∙ sym before

-- as the processor of a task, its slice and sets of processors change, the same fronts may run
pub may_marks : (c : ℕ) → KeepsMarks Anywhere (MayStart c)
may_marks c = record {
  there = λ w d h l. tt;
  homed = λ w t d l h u e. ap (λ k. nat_lt u k && is_throttled w.tree u) (length-set w.tasks t (with_home (task_at w t) d)) ∙ h u e;
  sliced = λ w t k h u e. ap (λ k. nat_lt u k && is_throttled w.tree u) (length-set w.tasks t (with_slice (task_at w t) k)) ∙ h u e;
  sets = λ w a b d e h. h;
}

module _ (c : ℕ) where
  ready_marks : KeepsMarks Anywhere (IsReady c)
  ready_marks = record { there = λ w d h l. tt; homed = λ w t d l h. record { clear = h.clear; some = h.some }; sliced = λ w t k h. record { clear = h.clear; some = h.some }; sets = λ w a b d e h. record { clear = h.clear; some = h.some } }

  pub clear_same : (w v : WorldState) → IsSameIn (local_on c) w.queues v.queues → v.tree ≡ w.tree → IsClear c w → IsClear c v
  clear_same w v same tree h t e = ap (λ x. is_throttled x t) tree ∙ h t (sym (front_same w.queues v.queues (local_on c) same) ∙ e)

  pub ready_same : (w v : WorldState) → IsSameIn (local_on c) w.queues v.queues → v.tree ≡ w.tree → v.ejected ≡ w.ejected → IsReady c w → IsReady c v
  ready_same w v same tree out h = record { clear = clear_same w v same tree h.clear; some = λ force. omega (arith, len_same (local_on c) w.queues v.queues same, h.some (sym out ∙ force)) }

  -- a callback that isn't dispatch
  pub ready_calm : (w v : WorldState) → IsCalm w v → IsReady c w → IsReady c v
  ready_calm w v calm h = ready_same w v (same_here (local_on c) w.queues v.queues calm.entries) calm.tree calm.ejected h

  -- an ejection, after which nobody is there
  pub ready_over : (w v : WorldState) → GoesOver w v → is_some v.ejected ≡ true → IsReady c v
  ready_over w v over out = record { clear = λ t e. absurd (nobody t e (waits w t) refl); some = λ force. absurd (cc) }
    where
      both : (b : Bool) → b ≡ true → b ≡ false → ⊥
      both true x y = absurd (cc)
      both false x y = absurd (cc)

      same_queue : (a b : ℕ) → Some a ≡ Some b → a ≡ b
      same_queue a b e = cc

      nobody : (t : ℕ) → front_of v.queues (local_on c) ≡ Some t → (b : Bool) → waits w t ≡ b → ⊥
      nobody t e true x = let bad : local_on c ≡ builtin_queue = same_queue (local_on c) builtin_queue (sym (front_in v.queues (local_on c) t e) ∙ over.waiting t x) in omega (arith, bad)
      nobody t e false x =
          let there : waits v t ≡ true = ap waits_in (front_in v.queues (local_on c) t e) ∙ ap (λ b. not b) (ne_eqb (local_on c) parked_queue (λ y. omega (arith, y))) in
          both (waits v t) there (over.others t x)

  -- a task that is put under the built-in scheduler
  pub ready_put_builtin : (w : WorldState) (t : ℕ) → IsReady c w → IsReady c (put_builtin w t)
  ready_put_builtin w t h = keeps_if (IsReady c) (nat_lt t (length w.tasks)) v w (ready_same w v (same_pushed (local_on c) w.queues builtin_queue t (Vtime (builtin_vtime w t)) (ne_eqb builtin_queue (local_on c) (λ x. omega (arith, x)))) refl refl h) h
    where
      v : WorldState
      v = with_queues (with_task w t (with_builtin (with_slice (task_at w t) default_slice) (builtin_vtime w t))) (after_push w.queues builtin_queue t (Vtime (builtin_vtime w t)))

  -- ---- a task that comes to wait behind the front

  -- in a local queue in order of arrival
  local_rank : (r : Rank) → fits_queue (local_on c) r ≡ true → same_sort r Fifo ≡ true
  local_rank r e = subst (λ k. same_sort r k ≡ true) sort (low_or (local_on c) (same_sort r (sort_of (local_on c))) (omega arith) e)
    where
      sort : sort_of (local_on c) ≡ Fifo
      sort = ap (λ b. cond b (Vtime 0) Fifo) (ne_eqb (local_on c) builtin_queue (λ x. omega (arith, x)))

  -- who goes to its end
  at_end : (r : Rank) → same_sort r Fifo ≡ true → IsBehind r → r ≡ Fifo
  at_end Fifo x b = refl
  at_end Front x b = absurd (b refl)
  at_end (Vtime n) x b = absurd (cc)

  turns_from : (a b : ℤ) → a <ℤ b → int_lt a b ≡ true
  turns_from a b l = go (int_lt a b) refl
    where
      go : (d : Bool) → int_lt a b ≡ d → int_lt a b ≡ true
      go true e = e
      go false e = absurd (omega (arith, ints))

  arrives_later : (p e : Entry) (r : Rank) → p.rank ≡ r → same_sort r Fifo ≡ true → e.rank ≡ Fifo → p.stamp < e.stamp → is_before p e ≡ true
  arrives_later p e Fifo x s y l = rw (x, y, turns_from (pos p.stamp) (pos e.stamp) (omega (arith, ints, l))) refl
  arrives_later p e Front x s y l = rw (x, y, turns_from (negsuc p.stamp) (pos e.stamp) (omega (arith, ints))) refl
  arrives_later p e (Vtime k) x s y l = absurd (cc)

  front_stays : (hand : Option ℕ) (on : List (Option ℕ)) (n : ℕ) (w : WorldState) (q t u : ℕ) (r : Rank) → fits_queue q r ≡ true → IsBehind r → front_of w.queues (local_on c) ≡ Some t → IsSound hand on n w → front_of (after_push w.queues q u r) (local_on c) ≡ Some t
  front_stays hand on n w q t u r fits back front h = go (entry_of w.queues t) refl (front_in w.queues (local_on c) t front)
    where
      same_queue : (a b : ℕ) → Some a ≡ Some b → a ≡ b
      same_queue a b e = cc

      go : (o : Option Entry) → entry_of w.queues t ≡ o → option_map (λ p. p.queue) o ≡ Some (local_on c) → front_of (after_push w.queues q u r) (local_on c) ≡ Some t
      go None e there = absurd (cc)
      go (Some p) e there = front_pushed w.queues (local_on c) q t u r p front e after
        where
          here : p.queue ≡ local_on c
          here = same_queue p.queue (local_on c) there

          rank : same_sort p.rank Fifo ≡ true
          rank = local_rank p.rank (subst (λ k. fits_queue k p.rank ≡ true) here (ap fits_sort (sym e) ∙ h.sorted t))

          after : (q == local_on c) ≡ true → is_before p (next_entry w.queues q r) ≡ true
          after is = arrives_later p (next_entry w.queues q r) p.rank refl rank (at_end r (local_rank r (subst (λ k. fits_queue k r ≡ true) (eqb-true q (local_on c) is) fits)) back) (h.stamped t p e)

  -- under plain rules nobody goes to the front
  goes_behind : (cpus : ℕ) (w : WorldState) (i : Insert) → IsWanted cpus w i → is_by_linux w ≡ false → (is_by_linux w ≡ false → GoesBehind w.call.insert) → IsBehind (rank_by w i.rank)
  goes_behind cpus w i wanted plain h = by_rules i.rank (asked wanted)
    where
      by_rules : (r : Rank) → IsBehind r → IsBehind (rank_by w r)
      by_rules Fifo b x = absurd (cc)
      by_rules Front b x = b refl
      by_rules (Vtime k) b x = absurd (cc)

      both : (b : Bool) → b ≡ true → b ≡ false → ⊥
      both true x y = absurd (cc)
      both false x y = absurd (cc)

      asked : IsWanted cpus w i → IsBehind i.rank
      asked (ForAny e) x = let bad : Fifo ≡ Front = sym (ap (λ (j : Insert). j.rank) e) ∙ x in absurd (cc)
      asked (Nowhere e) x = let bad : Fifo ≡ Front = sym (ap (λ (j : Insert). j.rank) e) ∙ x in absurd (cc)
      asked (Inserted d said l y e) x = subst GoesBehind y (h plain) (sym (ap (λ (j : Insert). j.rank) e) ∙ x)
      asked (InFront d l linux e) x = both (is_by_linux w) linux plain
      asked (Before d said l linux none goes e) x = both (is_by_linux w) linux plain

  pub ready_entered : (hand : Option ℕ) (on : List (Option ℕ)) (n : ℕ) (w : WorldState) (t : ℕ) (i : Insert) → IsWanted (length on) w i → is_by_linux w ≡ false → IsSound hand on n w → w.ejected ≡ None → IsReady c w → IsReady c (after_enter w t i)
  ready_entered hand on n w t i wanted plain sound force h = kept_entered Anywhere (IsReady c) ready_marks w t i (go (front_of w.queues (local_on c)) refl) h
    where
      r : Rank
      r = rank_by w i.rank

      s : QueueState
      s = after_push w.queues i.queue t r

      fits : fits_queue i.queue r ≡ true
      fits = (open_by w w.queues i.queue i.rank (wanted_open on n w i hand wanted sound)).fits

      same_task : (a b : ℕ) → Some a ≡ Some b → a ≡ b
      same_task a b e = cc

      go : (o : Option ℕ) → front_of w.queues (local_on c) ≡ o → IsReady c (with_queues (with_task w t (task_after_insert (task_at w t) i)) s)
      go None e = absurd (omega (arith, h.some force, no_front_is_empty w.queues (local_on c) e))
      go (Some f) e = record {
        clear = λ k there. let is : f ≡ k = same_task f k (sym (front_stays hand on n w i.queue f t r fits (goes_behind (length on) w i wanted plain sound.not_first) e sound) ∙ there) in subst (λ x. is_throttled w.tree x ≡ false) is (h.clear f e);
        some = λ x. omega (arith, h.some force, len_pushed w.queues i.queue (local_on c) t r);
      }

  -- ---- a task that was picked

  -- it waits in the local queue, or the policy was put out of force, and then nobody is there who may not run
  pub record IsPicked (t : ℕ) (w : WorldState) : Type 0 where
    pub there : w.ejected ≡ None → is_in (local_on c) (entry_of w.queues t) ≡ true
    pub none : is_some w.ejected ≡ true → IsClear c w

  picked_marks : (t : ℕ) → KeepsMarks Anywhere (IsPicked t)
  picked_marks t = record { there = λ w d h l. tt; homed = λ w u d l h. record { there = h.there; none = h.none }; sliced = λ w u k h. record { there = h.there; none = h.none }; sets = λ w a b d e h. record { there = h.there; none = h.none } }

  apart_out : (o : Option Eject) → o ≡ None → is_some o ≡ true → ⊥
  apart_out o x y = absurd (cc)

  pub picked_same : (t : ℕ) (w v : WorldState) → v.queues ≡ w.queues → v.tree ≡ w.tree → v.ejected ≡ w.ejected → IsPicked t w → IsPicked t v
  picked_same t w v queues tree out h = record {
    there = λ force. ap (λ (s : QueueState). is_in (local_on c) (entry_of s t)) queues ∙ h.there (sym out ∙ force);
    none = λ y. clear_same w v (same_here (local_on c) w.queues v.queues (ap (λ (s : QueueState). s.entries) queues)) tree (h.none (ap (λ (o : Option Eject). is_some o) (sym out) ∙ y));
  }

  pub picked_calm : (t : ℕ) (w v : WorldState) → IsCalm w v → IsPicked t w → IsPicked t v
  picked_calm t w v calm h = record {
    there = λ force. ap (λ (xs : Entries). is_in (local_on c) (get_or xs t None)) calm.entries ∙ h.there (sym calm.ejected ∙ force);
    none = λ y. clear_same w v (same_here (local_on c) w.queues v.queues calm.entries) calm.tree (h.none (ap (λ (o : Option Eject). is_some o) (sym calm.ejected) ∙ y));
  }

  -- an ejection, after which nobody is there
  pub picked_over : (t : ℕ) (w v : WorldState) → GoesOver w v → is_some v.ejected ≡ true → IsPicked t v
  picked_over t w v over out = record { there = λ force. absurd (apart_out v.ejected force out); none = λ y. (ready_over w v over out).clear }

  -- another task that is put under the built-in scheduler
  pub picked_put_builtin : (t : ℕ) (w : WorldState) (u : ℕ) → is_some w.ejected ≡ true → IsPicked t w → IsPicked t (put_builtin w u)
  picked_put_builtin t w u out h = keeps_if (IsPicked t) (nat_lt u (length w.tasks)) v w (record { there = λ force. absurd (apart_out w.ejected force out); none = λ y. clear_same w v (same_pushed (local_on c) w.queues builtin_queue u (Vtime (builtin_vtime w u)) (ne_eqb builtin_queue (local_on c) (λ x. omega (arith, x)))) refl (h.none out) }) h
    where
      v : WorldState
      v = with_queues (with_task w u (with_builtin (with_slice (task_at w u) default_slice) (builtin_vtime w u))) (after_push w.queues builtin_queue u (Vtime (builtin_vtime w u)))

  -- another task that comes to wait, wherever it does
  pub picked_entered : (t : ℕ) (on : List (Option ℕ)) (n : ℕ) (w : WorldState) (u : ℕ) (i : Insert) → u < n → IsSound (Some u) on n w → w.ejected ≡ None → IsPicked t w → IsPicked t (after_enter w u i)
  picked_entered t on n w u i within sound force h = kept_put Anywhere (IsPicked t) (picked_marks t) w u i (inside n w u within sound.tasks) (record {
    there = λ x. ap (λ o. is_in (local_on c) o) (pushed_other w.queues i.queue u t (rank_by w i.rank) apart) ∙ h.there force;
    none = λ y. absurd (apart_out w.ejected force y);
  })
    where
      apart : t ≡ u → ⊥
      apart x = let bad : true ≡ false = sym (h.there force) ∙ (ap (λ k. is_in (local_on c) (entry_of w.queues k)) x ∙ ap (λ o. is_in (local_on c) o) (nowhere w u sound.once)) in absurd (cc)
