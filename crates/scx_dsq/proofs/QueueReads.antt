-- What was read of the queues, and whether a task may go into one.
use Rattle.std.proofs.Common.{◌≡◌, ℕ, ◌<◌, true, false, List, [], length, get_or, Option, Some, None, is_some, IfSome, IfNone, MatchOption, ◌==◌, sym, ap, ◌∙◌, subst, refl, arith}
use Rattle.std.specs.List.{list_any}
use Rattle.std.proofs.lemmas.Bool.{both_ways, eq-eqb}
use Rattle.std.proofs.lemmas.List.{get_or_default, get_or_read, length-map}
use Rattle.std.proofs.lemmas.List.Folds.{list_any_at}
use Rattle.scx_dsq.specs.declared.entries.Rank.{Rank}
use Rattle.scx_dsq.specs.declared.entries.Entry.{Entry}
use Rattle.scx_dsq.specs.declared.queue.Queue.{Queue}
use Rattle.scx_dsq.specs.declared.queues.Queues.TheInside.{Inside}
use Rattle.scx_dsq.specs.declared.errors.QueueError.{QueueError}
use Rattle.scx_dsq.specs.declared.errors.QueueError.TheVariants.{NoSuchQueue, AlreadyThere, Mixed, TooManyQueues}
use Rattle.scx_dsq.specs.Queues.{QueueState, IsQueueAt, exists, entry_at, entry_of, task_count, IsFront, len_of}
use Rattle.scx_dsq.specs.Laws.{IsSound}
use Rattle.scx_dsq.specs.Calls.{clashes, push_refusal}
use Rattle.scx_dsq.specs.Kept.{ids_of, Keeps, front_in, len_in, mixes, IsAdmitted, IsRefused, state_of, IsKept}
use Rattle.scx_dsq.specs.Links.{no_ends}
use Rattle.scx_dsq.proofs.Fronts.{NobodyIn}
use Rattle.scx_dsq.proofs.Forms.{form_front, form_len, form_clash}
use Rattle.scx_dsq.proofs.Keeping.{id_at}

-- what is there if nothing is
pub none_from : {X : Type 0} (o : Option X) → is_some o ≡ false → o ≡ None
none_from None e = refl
none_from (Some x) e = absurd (cc)

-- the queue that was read
pub row_at : (i : Inside) (k : ℕ) (q : Queue) → IsKept i → k < length i.live.items → q ≡ get_or i.live.items k q → Keeps i.entries.items i.links.items i.spots.items q
row_at i k q h lt e = subst (Keeps i.entries.items i.links.items i.spots.items) (sym e) (h.live k q lt)

-- whether a rank mixes with its tasks is whether it clashes with anyone there
pub clash_read : (i : Inside) (k id : ℕ) (rank : Rank) (q : Queue) → IsKept i → k < length i.live.items → q ≡ get_or i.live.items k q → q.id ≡ id
    → mixes rank q ≡ list_any (clashes id rank) i.entries.items
clash_read i k id rank q h lt read is =
    form_clash (state_of i) rank i.links.items q (row_at i k q h lt read).tasks ∙ ap (λ v. list_any (clashes v rank) i.entries.items) is

-- a queue that isn't there has nobody in it
pub nobody_elsewhere : (s : QueueState) (id : ℕ) → IsSound s → exists s id ≡ false → NobodyIn s id
nobody_elsewhere s id h out t p w = both_ways (exists s id) out (subst (λ v. exists s v ≡ true) w.1 (h.homes t p w.0))

-- the entry that was read is the task's
pub entry_read : (i : Inside) (t : ℕ) (o : Option Entry) → t < task_count (state_of i) → o ≡ get_or i.entries.items t o → entry_of (state_of i) t ≡ o
entry_read i t o within read = sym (get_or_read i.entries.items t o within read None)

-- the queue that was found and read is there, and has the id
pub queue_read : (i : Inside) (live : List Queue) (k id : ℕ) (q : Queue) → live ≡ i.live.items → (k < length live) × ((d : Queue) → (get_or live k d).id ≡ id) → q ≡ get_or i.live.items k q
    → (k < length i.live.items) × (q.id ≡ id)
queue_read i live k id q e at read =
    (rw (← e) at.0, ap (λ (x : Queue). x.id) read ∙ subst (λ qs. (get_or qs k q).id ≡ id) e (at.1 q))

-- and stands there among the ids
pub stands_at : (i : Inside) (live : List Queue) (k id : ℕ) → live ≡ i.live.items → (k < length live) × ((d : Queue) → (get_or live k d).id ≡ id) → IsQueueAt (state_of i) k id
stands_at i live k id e at =
    let any : Queue = record { id = id; ends = no_ends; heap = record { room = 0; items = [] } } in
    let there : k < length i.live.items = rw (← e) at.0 in
    let within : k < length (ids_of i.live.items) = omega (arith, there, length-map i.live.items (λ (x : Queue). x.id)) in
    let here : (get_or i.live.items k any).id ≡ id = subst (λ qs. (get_or qs k any).id ≡ id) e (at.1 any) in
    (within, λ d. get_or_default (ids_of i.live.items) k d any.id within ∙ id_at i.live.items k any ∙ here)

-- and the other way round
pub found_at : (i : Inside) (k id : ℕ) → IsQueueAt (state_of i) k id → (k < length i.live.items) × ((d : Queue) → (get_or i.live.items k d).id ≡ id)
found_at i k id at = let within = at.0 in (omega (arith, within, length-map i.live.items (λ (x : Queue). x.id)), λ d. sym (id_at i.live.items k d) ∙ at.1 d.id)

-- where a queue was found it stands
pub found_stands : (i : Inside) (live : List Queue) (id : ℕ) (o : Option ℕ) → live ≡ i.live.items → IfSome o (λ k. (k < length live) × ((d : Queue) → (get_or live k d).id ≡ id)) → IfSome o (λ k. IsQueueAt (state_of i) k id)
found_stands i live id None e h = tt
found_stands i live id (Some k) e h = stands_at i live k id e h

-- where none was found nobody waits
pub found_nobody : (s : QueueState) (id : ℕ) (o : Option ℕ) → IsSound s → is_some o ≡ exists s id → IfNone o (NobodyIn s id)
found_nobody s id None sound found = nobody_elsewhere s id sound (sym found)
found_nobody s id (Some k) sound found = tt

-- a queue that stands somewhere is there
pub is_there : (s : QueueState) (k id : ℕ) → IsQueueAt s k id → exists s id ≡ true
is_there s k id at = list_any_at (λ other. other == id) s.ids k id at.0 (eq-eqb (get_or s.ids k id) id (at.1 id))

-- what is known of the queue that was found and read
pub front_at : (i : Inside) (live : List Queue) (k id : ℕ) (q : Queue) → IsKept i → live ≡ i.live.items → (k < length live) × ((d : Queue) → (get_or live k d).id ≡ id) → q ≡ get_or i.live.items k q
    → MatchOption (front_in q) (NobodyIn (state_of i) id) (IsFront (state_of i) id)
front_at i live k id q h e at read =
    let queue = queue_read i live k id q e at read in
    let keeps = row_at i k q h queue.0 read in
    subst (λ v. MatchOption (front_in q) (NobodyIn (state_of i) v) (IsFront (state_of i) v)) queue.1 (form_front (state_of i) i.links.items q h.sound.stamps keeps.heap keeps.tasks)

-- its length is how many wait there
pub len_at : (i : Inside) (live : List Queue) (k id : ℕ) (q : Queue) → IsKept i → live ≡ i.live.items → (k < length live) × ((d : Queue) → (get_or live k d).id ≡ id) → q ≡ get_or i.live.items k q
    → len_in q ≡ len_of (state_of i) id
len_at i live k id q h e at read =
    let queue = queue_read i live k id q e at read in
    form_len (state_of i) i.links.items q (row_at i k q h queue.0 read).tasks ∙ ap (λ v. len_of (state_of i) v) queue.1

-- ---- whether a task may go into a queue

-- what is known of the queue that it may go into
pub record IsOpen (i : Inside) (k id t : ℕ) (rank : Rank) (q : Queue) : Type 0 where
  pub inside : k < length i.live.items
  pub read : q ≡ get_or i.live.items k q
  pub is : q.id ≡ id
  pub there : exists (state_of i) id ≡ true
  pub free : entry_at i.entries.items t ≡ None
  pub fits : mixes rank q ≡ false
  pub none : list_any (clashes id rank) i.entries.items ≡ false

-- a queue that admits the task is open to it
pub opened : (i : Inside) (k id t : ℕ) (rank : Rank) (q : Queue) → IsKept i → IsAdmitted i.live.items i.entries.items k id t rank → q ≡ get_or i.live.items k q → IsOpen i k id t rank q
opened i k id t rank q h a read =
    let is : q.id ≡ id = ap (λ (x : Queue). x.id) read ∙ a.is q in
    let fits : mixes rank q ≡ false = ap (λ (x : Queue). mixes rank x) read ∙ a.fits q in
    record {
      inside = a.inside;
      read = read;
      is = is;
      there = a.there;
      free = a.free;
      fits = fits;
      none = sym (clash_read i k id rank q h a.inside read is) ∙ fits;
    }

-- the same, read of lists that are those of the queues
pub opened_in : (i : Inside) (live : List Queue) (entries : List (Option Entry)) (k id t : ℕ) (rank sort : Rank) (q : Queue) → IsKept i → live ≡ i.live.items → entries ≡ i.entries.items → rank ≡ sort
    → IsAdmitted live entries k id t sort → q ≡ get_or i.live.items k q → IsOpen i k id t rank q
opened_in i live entries k id t rank sort q h same same' alike a = opened i k id t rank q h (rw (alike, ← same, ← same') a)

-- a push to an open queue isn't refused
pub not_refused : (i : Inside) (k id t : ℕ) (rank : Rank) (q : Queue) → IsOpen i k id t rank q → push_refusal (state_of i) id t rank ≡ None
not_refused i k id t rank q a = rw (a.there, a.free, a.none) refl

-- a push is refused for the cause that was found
pub refused : (i : Inside) (id t : ℕ) (rank : Rank) (e : QueueError) → IsKept i → IsRefused i.live.items i.entries.items id t rank e → push_refusal (state_of i) id t rank ≡ Some e
refused i id t rank NoSuchQueue h r = rw r refl
refused i id t rank AlreadyThere h r = rw (r.0, r.1) refl
refused i id t rank Mixed h r =
    let m = r.2 in
    let any : Queue = record { id = id; ends = no_ends; heap = record { room = 0; items = [] } } in
    let q = get_or i.live.items m.entry any in
    let read : q ≡ get_or i.live.items m.entry q = get_or_default i.live.items m.entry any q m.inside in
    let clash : true ≡ list_any (clashes id rank) i.entries.items = sym (m.mixed any) ∙ clash_read i m.entry id rank q h m.inside read (m.is any) in
    rw (r.0, r.1, ← clash) refl
refused i id t rank TooManyQueues h r = absurd r

-- the same, read of lists that are those of the queues
pub refused_in : (i : Inside) (live : List Queue) (entries : List (Option Entry)) (id t : ℕ) (rank : Rank) (e : QueueError) → IsKept i → live ≡ i.live.items → entries ≡ i.entries.items
    → IsRefused live entries id t rank e → push_refusal (state_of i) id t rank ≡ Some e
refused_in i live entries id t rank e h same same' r = refused i id t rank e h (rw (← same, ← same') r)
