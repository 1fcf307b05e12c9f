-- The states after one event of a move lead back.
use Rattle.std.proofs.Common.{◌≡◌, ℕ, suc, ◌+◌, ◌-◌, ◌<◌, ◌≤◌, List, [], ◌∷◌, ◌++◌, length, Bool, true, false, None, if◌then◌else◌, refl, sym, ap, ◌∙◌, subst, arith, ⊎_elim}
use Rattle.std.proofs.lemmas.Bool.{cases_eq}
use Rattle.scx_sched_machine.specs.declared.events.Event.{Event}
use Rattle.scx_sched_machine.specs.declared.events.Event.TheVariants.{Wake, Sleep, Tick, Clock, SetWeight, SetTaskWeight}
use Rattle.scx_sched.specs.Sim.{SimState, refusal, after_event, calls_of}
use Rattle.scx_explore_findings.specs.Asked.{RunAsVerified}
use Rattle.scx_explore_findings.specs.declared.finding.Sort.{Sort}
use Rattle.scx_explore_findings.specs.Path.{PathState, machine_of, went_back, went_on}
use Rattle.scx_explore_audit.specs.declared.advance.Went.TheVariants.{There, Over}
use Rattle.scx_explore_audit.specs.declared.table.Moves.{Moves}
use Rattle.scx_explore_audit.specs.declared.table.Moves.TheVariants.{Events, Milliseconds}
use Rattle.scx_explore_audit.specs.Claims.{IsTried, AreFree, TaskSet, of_tasks, ticks, millisecond, IsMillisecond, IsMove}
use Rattle.scx_explore_audit.specs.Closed.{Claim, IsMet, IsWithin, LeadsBack}
use Rattle.scx_explore_audit.specs.Tried.{IsTriedIn, row}
use Rattle.scx_explore_audit.specs.Steps.{Comes, IsSeen, from_wake, from_tick, from_sleep}
use Rattle.scx_explore_findings.proofs.CommonBeginnings.{went_root}
use Rattle.scx_explore_audit.proofs.TriedPaths.{machine_behind, there_and_back}

-- ---- what comes of an event

-- the path is what it was, once it has gone on and back
pub home : (p q r s : PathState) (e : Event) (n : ℕ) → n ≡ length p.events → refusal (machine_of p) e ≡ None → q ≡ went_on p e → r ≡ q → s ≡ went_back r n → s ≡ p
home p q r s e n many fine on same back =
    back ∙ (ap (λ (x : PathState). went_back x n) (same ∙ on) ∙ (ap (λ (k : ℕ). went_back (went_on p e) k) many ∙ there_and_back p e fine))

-- the machine at hand is the one after the event
behind : (p q : PathState) (s : SimState) (e : Event) → refusal (machine_of p) e ≡ None → q ≡ went_on p e → s ≡ machine_of q → s ≡ after_event (machine_of p) e
behind p q s e fine on at = at ∙ (ap machine_of on ∙ machine_behind p e fine)

-- it is accepted, and shows nothing
pub comes_there : (sorts : List Sort) (p q : PathState) (s : SimState) (e : Event) → refusal (machine_of p) e ≡ None → q ≡ went_on p e → s ≡ machine_of q → IsSeen There sorts s e → RunAsVerified (calls_of (machine_of p) e) → Comes There sorts e p q
comes_there sorts p q s e fine on at free run =
    (fine, subst (λ (x : SimState). AreFree sorts x e) (behind p q s e fine on at) free, on, run)

-- it shows nothing, and the policy is ejected
pub comes_over : (sorts : List Sort) (p q r : PathState) (s : SimState) (e : Event) (n : ℕ) → n ≡ length p.events → refusal (machine_of p) e ≡ None → q ≡ went_on p e → s ≡ machine_of q → r ≡ went_back q n → IsSeen Over sorts s e → RunAsVerified (calls_of (machine_of p) e) → Comes Over sorts e p r
comes_over sorts p q r s e n many fine on at back seen run =
    let is : s ≡ after_event (machine_of p) e = behind p q s e fine on at in (
      λ accepted. let there = subst (λ (x : SimState). AreFree sorts x e × (x.state.world.ejected ≡ None → ⊥)) is seen in (there.0, there.1, run),
      home p q q r e n many fine on refl back,
    )

-- ---- what leads back

-- what is left leads back from here, where it does behind the event
pub leads_there : (c : Claim) (n : ℕ) (p q : PathState) (e : Event) (es : List Event) → Comes There c.sorts e p q → LeadsBack c n (machine_of q) es → LeadsBack c n (machine_of p) (e ∷ es)
leads_there c n p q e es comes back = λ accepted. (
  comes.1,
  λ force. subst (λ (s : SimState). LeadsBack c n s es) (ap machine_of comes.2 ∙ machine_behind p e comes.0) back,
  comes.3,
)

-- whatever is left does, where no list goes on behind the event
pub leads_over : (c : Claim) (n : ℕ) (p q : PathState) (e : Event) (es : List Event) → Comes Over c.sorts e p q → LeadsBack c n (machine_of p) (e ∷ es)
leads_over c n p q e es comes = λ accepted. ((comes.0 accepted).0, λ force. absurd ((comes.0 accepted).1 force), (comes.0 accepted).2)

-- a move that is at its end does, where the state there is kept
pub ends : (c : Claim) (n : ℕ) (s t : SimState) → s ≡ t → (IsWithin c.limit n → IsMet c n s) → LeadsBack c n t []
ends c n s t at met = subst (λ (x : SimState). LeadsBack c n x []) at met

-- the same of another path that is this one
pub leads_same : (c : Claim) (n : ℕ) (p q : PathState) (es : List Event) → q ≡ p → LeadsBack c n (machine_of q) es → LeadsBack c n (machine_of p) es
leads_same c n p q es is back = subst (λ (x : PathState). LeadsBack c n (machine_of x) es) is back

-- and of events that the machine decides
pub leads_as : (c : Claim) (n : ℕ) (p q : PathState) (list : SimState → List Event) → q ≡ p → LeadsBack c n (machine_of q) (list (machine_of q)) → LeadsBack c n (machine_of p) (list (machine_of p))
leads_as c n p q list is back = subst (λ (x : PathState). LeadsBack c n (machine_of x) (list (machine_of x))) is back

-- ---- what is left of a millisecond

-- a task's turn: it is one of the set or isn't
either : (c : Claim) (d : ℕ) (s : SimState) (event : ℕ → Event) (set : TaskSet) (t n : ℕ) (rest : List Event) → LeadsBack c d s (of_tasks event set (suc t) n ++ rest) → LeadsBack c d s (event t ∷ (of_tasks event set (suc t) n ++ rest)) → LeadsBack c d s (of_tasks event set t (suc n) ++ rest)
either c d s event set t n rest off on = go (set t)
  where
    go : (b : Bool) → LeadsBack c d s (((if b then event t ∷ [] else []) ++ of_tasks event set (suc t) n) ++ rest)
    go true = on
    go false = off

-- so it is of those from that task on
pub turn : (c : Claim) (d : ℕ) (s : SimState) (event : ℕ → Event) (set : TaskSet) (t n : ℕ) (rest : List Event) → t < n → LeadsBack c d s (of_tasks event set (t + 1) (n - (t + 1)) ++ rest) → LeadsBack c d s (event t ∷ (of_tasks event set (t + 1) (n - (t + 1)) ++ rest)) → LeadsBack c d s (of_tasks event set t (n - t) ++ rest)
turn c d s event set t n rest few off on =
    let next : t + 1 ≡ suc t = omega arith in
    let left : suc (n - (t + 1)) ≡ n - t = omega (arith, few) in
    subst (λ (k : ℕ). LeadsBack c d s (of_tasks event set t k ++ rest)) left
    (either c d s event set t (n - (t + 1)) rest
    (subst (λ (u : ℕ). LeadsBack c d s (of_tasks event set u (n - (t + 1)) ++ rest)) next off)
    (subst (λ (u : ℕ). LeadsBack c d s (event t ∷ (of_tasks event set u (n - (t + 1)) ++ rest))) next on))

-- behind the last task
pub past : (c : Claim) (d : ℕ) (s : SimState) (event : ℕ → Event) (set : TaskSet) (t n : ℕ) (rest : List Event) → n ≤ t → LeadsBack c d s rest → LeadsBack c d s (of_tasks event set t (n - t) ++ rest)
past c d s event set t n rest many back =
    let left : 0 ≡ n - t = omega (arith, many) in
    subst (λ (k : ℕ). LeadsBack c d s (of_tasks event set t k ++ rest)) left back

-- a processor's turn
pub tick_turn : (c : Claim) (d : ℕ) (s : SimState) (t n : ℕ) (rest : List Event) → t < n → LeadsBack c d s (Tick t ∷ (ticks (t + 1) (n - (t + 1)) ++ rest)) → LeadsBack c d s (ticks t (n - t) ++ rest)
tick_turn c d s t n rest few on =
    let next : t + 1 ≡ suc t = omega arith in
    let left : suc (n - (t + 1)) ≡ n - t = omega (arith, few) in
    subst (λ (k : ℕ). LeadsBack c d s (ticks t k ++ rest)) left
    (subst (λ (u : ℕ). LeadsBack c d s (Tick t ∷ (ticks u (n - (t + 1)) ++ rest))) next on)

-- behind the last processor
pub tick_past : (c : Claim) (d : ℕ) (s : SimState) (t n : ℕ) (rest : List Event) → n ≤ t → LeadsBack c d s rest → LeadsBack c d s (ticks t (n - t) ++ rest)
tick_past c d s t n rest many back =
    let left : 0 ≡ n - t = omega (arith, many) in
    subst (λ (k : ℕ). LeadsBack c d s (ticks t k ++ rest)) left back

-- ---- what is left behind an event

-- the list begins where it did
root_of : (sorts : List Sort) (p o q : PathState) (e : Event) → o ≡ p → Comes There sorts e o q → q.root ≡ p.root
root_of sorts p o q e same comes =
    ap (λ (x : PathState). x.root) comes.2 ∙ (went_root o e ∙ ap (λ (x : PathState). x.root) same)

-- a task that has its turn does the event or doesn't
task_there : (c : Claim) (d : ℕ) (p o q : PathState) (event : ℕ → Event) (set : TaskSet) (t n : ℕ) (rest : List Event) → t < n → o ≡ p → LeadsBack c d (machine_of p) (of_tasks event set (t + 1) (n - (t + 1)) ++ rest) → Comes There c.sorts (event t) o q → LeadsBack c d (machine_of q) (of_tasks event set (t + 1) (n - (t + 1)) ++ rest) → LeadsBack c d (machine_of p) (of_tasks event set t (n - t) ++ rest)
task_there c d p o q event set t n rest few same off comes on =
    let left : List Event = of_tasks event set (t + 1) (n - (t + 1)) ++ rest in
    turn c d (machine_of p) event set t n rest few off (leads_same c d p o (event t ∷ left) same (leads_there c d o q (event t) left comes on))

-- the same where no list goes on behind it
task_over : (c : Claim) (d : ℕ) (p o q : PathState) (event : ℕ → Event) (set : TaskSet) (t n : ℕ) (rest : List Event) → t < n → o ≡ p → LeadsBack c d (machine_of p) (of_tasks event set (t + 1) (n - (t + 1)) ++ rest) → Comes Over c.sorts (event t) o q → LeadsBack c d (machine_of p) (of_tasks event set t (n - t) ++ rest)
task_over c d p o q event set t n rest few same off comes =
    let left : List Event = of_tasks event set (t + 1) (n - (t + 1)) ++ rest in
    turn c d (machine_of p) event set t n rest few off (leads_same c d p o (event t ∷ left) same (leads_over c d o q (event t) left comes))

-- that one wakes, or sleeps on
pub wake_there : (c : Claim) (d : ℕ) (p o q : PathState) (t : ℕ) → t < length p.root.state.world.tasks → o ≡ p → ((wakes sleeps : TaskSet) → LeadsBack c d (machine_of p) (from_wake p.root (t + 1) wakes sleeps)) → Comes There c.sorts (Wake t) o q → ((wakes sleeps : TaskSet) → LeadsBack c d (machine_of q) (from_wake q.root (t + 1) wakes sleeps)) → (wakes sleeps : TaskSet) → LeadsBack c d (machine_of p) (from_wake p.root t wakes sleeps)
wake_there c d p o q t few same off comes on wakes sleeps =
    task_there c d p o q (λ u. Wake u) wakes t (length p.root.state.world.tasks) (from_tick p.root 0 sleeps) few same (off wakes sleeps) comes
    (subst (λ (r : SimState). LeadsBack c d (machine_of q) (from_wake r (t + 1) wakes sleeps)) (root_of c.sorts p o q (Wake t) same comes) (on wakes sleeps))

-- where no list goes on behind its wake
pub wake_over : (c : Claim) (d : ℕ) (p o q : PathState) (t : ℕ) → t < length p.root.state.world.tasks → o ≡ p → ((wakes sleeps : TaskSet) → LeadsBack c d (machine_of p) (from_wake p.root (t + 1) wakes sleeps)) → Comes Over c.sorts (Wake t) o q → (wakes sleeps : TaskSet) → LeadsBack c d (machine_of p) (from_wake p.root t wakes sleeps)
wake_over c d p o q t few same off comes wakes sleeps =
    task_over c d p o q (λ u. Wake u) wakes t (length p.root.state.world.tasks) (from_tick p.root 0 sleeps) few same (off wakes sleeps) comes

-- behind the last wake
pub wake_past : (c : Claim) (d : ℕ) (p : PathState) (t : ℕ) → length p.root.state.world.tasks ≤ t → ((sleeps : TaskSet) → LeadsBack c d (machine_of p) (from_tick p.root 0 sleeps)) → (wakes sleeps : TaskSet) → LeadsBack c d (machine_of p) (from_wake p.root t wakes sleeps)
wake_past c d p t many back wakes sleeps =
    past c d (machine_of p) (λ u. Wake u) wakes t (length p.root.state.world.tasks) (from_tick p.root 0 sleeps) many (back sleeps)

-- that one goes to sleep, or doesn't
pub sleep_there : (c : Claim) (d : ℕ) (p o q : PathState) (t : ℕ) → t < length p.root.state.world.tasks → o ≡ p → ((sleeps : TaskSet) → LeadsBack c d (machine_of p) (from_sleep p.root (t + 1) sleeps)) → Comes There c.sorts (Sleep t) o q → ((sleeps : TaskSet) → LeadsBack c d (machine_of q) (from_sleep q.root (t + 1) sleeps)) → (sleeps : TaskSet) → LeadsBack c d (machine_of p) (from_sleep p.root t sleeps)
sleep_there c d p o q t few same off comes on sleeps =
    task_there c d p o q (λ u. Sleep u) sleeps t (length p.root.state.world.tasks) (Clock ∷ []) few same (off sleeps) comes
    (subst (λ (r : SimState). LeadsBack c d (machine_of q) (from_sleep r (t + 1) sleeps)) (root_of c.sorts p o q (Sleep t) same comes) (on sleeps))

-- where no list goes on behind its sleep
pub sleep_over : (c : Claim) (d : ℕ) (p o q : PathState) (t : ℕ) → t < length p.root.state.world.tasks → o ≡ p → ((sleeps : TaskSet) → LeadsBack c d (machine_of p) (from_sleep p.root (t + 1) sleeps)) → Comes Over c.sorts (Sleep t) o q → (sleeps : TaskSet) → LeadsBack c d (machine_of p) (from_sleep p.root t sleeps)
sleep_over c d p o q t few same off comes sleeps =
    task_over c d p o q (λ u. Sleep u) sleeps t (length p.root.state.world.tasks) (Clock ∷ []) few same (off sleeps) comes

-- behind the last sleep
pub sleep_past : (c : Claim) (d : ℕ) (p : PathState) (t : ℕ) → length p.root.state.world.tasks ≤ t → LeadsBack c d (machine_of p) (Clock ∷ []) → (sleeps : TaskSet) → LeadsBack c d (machine_of p) (from_sleep p.root t sleeps)
sleep_past c d p t many back sleeps =
    past c d (machine_of p) (λ u. Sleep u) sleeps t (length p.root.state.world.tasks) (Clock ∷ []) many back

-- that processor ticks
pub tick_there : (c : Claim) (d : ℕ) (p q : PathState) (k : ℕ) → k < length p.root.state.world.cpus → Comes There c.sorts (Tick k) p q → ((sleeps : TaskSet) → LeadsBack c d (machine_of q) (from_tick q.root (k + 1) sleeps)) → (sleeps : TaskSet) → LeadsBack c d (machine_of p) (from_tick p.root k sleeps)
tick_there c d p q k few comes on sleeps =
    let n : ℕ = length p.root.state.world.cpus in
    let rest : List Event = from_sleep p.root 0 sleeps in
    tick_turn c d (machine_of p) k n rest few (leads_there c d p q (Tick k) (ticks (k + 1) (n - (k + 1)) ++ rest) comes
    (subst (λ (r : SimState). LeadsBack c d (machine_of q) (from_tick r (k + 1) sleeps)) (root_of c.sorts p p q (Tick k) refl comes) (on sleeps)))

-- where no list goes on behind its tick
pub tick_over : (c : Claim) (d : ℕ) (p q : PathState) (k : ℕ) → k < length p.root.state.world.cpus → Comes Over c.sorts (Tick k) p q → (sleeps : TaskSet) → LeadsBack c d (machine_of p) (from_tick p.root k sleeps)
tick_over c d p q k few comes sleeps =
    let n : ℕ = length p.root.state.world.cpus in
    let rest : List Event = from_sleep p.root 0 sleeps in
    tick_turn c d (machine_of p) k n rest few (leads_over c d p q (Tick k) (ticks (k + 1) (n - (k + 1)) ++ rest) comes)

-- behind the last tick
pub tick_behind : (c : Claim) (d : ℕ) (p : PathState) (k : ℕ) → length p.root.state.world.cpus ≤ k → ((sleeps : TaskSet) → LeadsBack c d (machine_of p) (from_sleep p.root 0 sleeps)) → (sleeps : TaskSet) → LeadsBack c d (machine_of p) (from_tick p.root k sleeps)
tick_behind c d p k many back sleeps =
    tick_past c d (machine_of p) k (length p.root.state.world.cpus) (from_sleep p.root 0 sleeps) many (back sleeps)

-- ---- each move

-- where the first task has its turn, all of it is left
whole : (tasks cpus n k : ℕ) (wakes sleeps : TaskSet) → n ≡ tasks → k ≡ cpus → of_tasks (λ t. Wake t) wakes 0 n ++ (ticks 0 k ++ (of_tasks (λ t. Sleep t) sleeps 0 n ++ Clock ∷ [])) ≡ millisecond tasks cpus wakes sleeps
whole tasks cpus n k wakes sleeps many some =
    ap (λ (i : ℕ). of_tasks (λ t. Wake t) wakes 0 i ++ (ticks 0 k ++ (of_tasks (λ t. Sleep t) sleeps 0 i ++ Clock ∷ []))) many
    ∙ ap (λ (i : ℕ). of_tasks (λ t. Wake t) wakes 0 tasks ++ (ticks 0 i ++ (of_tasks (λ t. Sleep t) sleeps 0 tasks ++ Clock ∷ []))) some

-- milliseconds are tried as they are
as_they_are : (b : Bool) (r s : SimState) (es : List Event) → IsTriedIn b Milliseconds r s es → IsMove Milliseconds r es
as_they_are true r s es move = move
as_they_are false r s es move = move

-- each millisecond leads back
pub each_millisecond : (c : Claim) (d : ℕ) (b : Bool) (m : Moves) (r s : SimState) → m ≡ Milliseconds → ((wakes sleeps : TaskSet) → LeadsBack c d s (from_wake r 0 wakes sleeps)) → (es : List Event) → IsTriedIn b m r s es → LeadsBack c d s es
each_millisecond c d b m r s are all es some =
    let move : IsMillisecond (length r.state.world.tasks) (length r.state.world.cpus) es = as_they_are b r s es (subst (λ (x : Moves). IsTriedIn b x r s es) are some) in
    let tasks : ℕ = length r.state.world.tasks in
    let cpus : ℕ = length r.state.world.cpus in
    let is : from_wake r 0 move.wakes move.sleeps ≡ es =
    whole tasks cpus (tasks - 0) (cpus - 0) move.wakes move.sleeps (omega arith) (omega arith) ∙ sym move.list in
    subst (λ (l : List Event). LeadsBack c d s l) is (all move.wakes move.sleeps)

-- each event does, as often as it is tried
pub each_single : (c : Claim) (d : ℕ) (b : Bool) (m : Moves) (r s : SimState) → m ≡ Events → ((e : Event) → IsTried r e → LeadsBack c d s (row b s e)) → (es : List Event) → IsTriedIn b m r s es → LeadsBack c d s es
each_single c d b m r s are all es some = go b all (subst (λ (x : Moves). IsTriedIn b x r s es) are some)
  where
    go : (b : Bool) → ((e : Event) → IsTried r e → LeadsBack c d s (row b s e)) → IsTriedIn b Events r s es → LeadsBack c d s es
    go true each move = subst (λ (l : List Event). LeadsBack c d s l) (sym move.2) (each move.0 move.1)
    go false each move = subst (λ (l : List Event). LeadsBack c d s l) (sym move.2) (each move.0 move.1)

-- ---- each event

-- those so far, and one more
pub leads_more : (c : Claim) (d : ℕ) (p q : PathState) (n : ℕ) (list : SimState → ℕ → List Event) → q ≡ p → ((t : ℕ) → t < n → LeadsBack c d (machine_of p) (list (machine_of p) t)) → LeadsBack c d (machine_of q) (list (machine_of q) n) → (t : ℕ) → t < n + 1 → LeadsBack c d (machine_of p) (list (machine_of p) t)
leads_more c d p q n list is before here t few =
    ⊎_elim
    (λ (e : t ≡ n). subst (λ (k : ℕ). LeadsBack c d (machine_of p) (list (machine_of p) k)) (sym e) (leads_as c d p q (λ s. list s n) is here))
    (λ (e : t ≡ n → ⊥). before t (omega (arith, e, few)))
    (cases_eq t n)

-- before the first one
pub leads_none : (c : Claim) (d : ℕ) (p : PathState) (list : SimState → ℕ → List Event) → (t : ℕ) → t < 0 → LeadsBack c d (machine_of p) (list (machine_of p) t)
leads_none c d p list t few = absurd (omega (arith, few))

-- all of them
pub each_event : (c : Claim) (d : ℕ) (b : Bool) (p q r : PathState) (tasks cpus : ℕ) → tasks ≡ length p.root.state.world.tasks → cpus ≡ length p.root.state.world.cpus → q ≡ p → r ≡ q → ((t : ℕ) → t < tasks → LeadsBack c d (machine_of p) (row b (machine_of p) (Wake t))) → ((t : ℕ) → t < tasks → LeadsBack c d (machine_of p) (row b (machine_of p) (Sleep t))) → ((k : ℕ) → k < cpus → LeadsBack c d (machine_of q) (row b (machine_of q) (Tick k))) → LeadsBack c d (machine_of r) (row b (machine_of r) Clock) → (e : Event) → IsTried p.root e → LeadsBack c d (machine_of p) (row b (machine_of p) e)
each_event c d b p q r tasks cpus many some second third wakes sleeps ticks clock (Wake t) tried = wakes t (omega (arith, tried, many))
each_event c d b p q r tasks cpus many some second third wakes sleeps ticks clock (Sleep t) tried = sleeps t (omega (arith, tried, many))
each_event c d b p q r tasks cpus many some second third wakes sleeps ticks clock (Tick k) tried = leads_as c d p q (λ s. row b s (Tick k)) second (ticks k (omega (arith, tried, some)))
each_event c d b p q r tasks cpus many some second third wakes sleeps ticks clock Clock tried = leads_as c d p r (λ s. row b s Clock) (third ∙ second) clock
each_event c d b p q r tasks cpus many some second third wakes sleeps ticks clock (SetWeight g w) tried = absurd tried
each_event c d b p q r tasks cpus many some second third wakes sleeps ticks clock (SetTaskWeight t w) tried = absurd tried
