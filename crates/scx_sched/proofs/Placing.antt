-- A task that is put, or for which a processor is chosen, comes to where it may run.
use Rattle.std.proofs.Common.{◌≡◌, ℕ, Bool, true, false, ◌==◌, ◌&&◌, ◌||◌, not, nat_lt, if◌then◌else◌, List, length, get_or, Option, Some, None, refl, ap, ◌∙◌, subst, arith}
use Rattle.std.specs.Int.{bit_at}
use Rattle.scx_isa_semantics.specs.declared.callbacks.Callback.TheVariants as callback
use Rattle.scx_isa_semantics.specs.declared.rules.Rules.{Rules}
use Rattle.scx_vm.specs.Programs.{VerifiedProgram}
use Rattle.scx_sched_world.specs.declared.call.Insert.{Insert}
use Rattle.scx_sched_world.specs.Ids.{local, local_on}
use Rattle.scx_sched_world.specs.World.{WorldState, are_linux, may_run}
use Rattle.scx_sched_world.specs.Tasks.{for_cpu}
use Rattle.scx_sched_machine.specs.Steps.{State}
use Rattle.scx_sched_machine.specs.Callbacks.{call_back, task_and_number}
use Rattle.scx_sched_machine.specs.Put.{enqueue_choice}
use Rattle.scx_sched.specs.Allowed.{MayGo, IsAllowedIn}
use Rattle.scx_sched.proofs.AtHand.{task_called}
use Rattle.scx_sched.proofs.Blaming.{honest_call_back}

-- whether a task may run on a processor, by the parts of a world that say it
abbrev may_by : Rules → List ℕ → ℕ → ℕ → Bool
may_by r masks t c = not (are_linux r && nat_lt 0 (length masks)) || (bit_at (get_or masks t 0) c == 1)

-- where rules and masks are as they were, a task may run on the same processors
pub may_as : (w v : WorldState) → v.rules ≡ w.rules → v.tree.masks ≡ w.tree.masks → (t c : ℕ) → may_run w t c ≡ true → may_run v t c ≡ true
may_as w v rules masks t c may = ap (λ r. may_by r v.tree.masks t c) rules ∙ (ap (λ ms. may_by w.rules ms t c) masks ∙ may)

-- an insert that LOCAL brings to a processor on which the task may run, and any other queue to one too
pub goes_for : (cpus : ℕ) (w : WorldState) (t c : ℕ) (i : Insert) → may_run w t c ≡ true → MayGo cpus w t i → MayGo cpus w t (for_cpu c i)
goes_for cpus w t c i may goes d l e = go (i.queue == local) e
  where
    go : (b : Bool) → (if b then local_on c else i.queue) ≡ local_on d → may_run w t d ≡ true
    go true x = let same : c ≡ d = omega (arith, x) in subst (λ k. may_run w t k ≡ true) same may
    go false x = goes d l x

-- so does what enqueue chose
choice_goes : (cpus : ℕ) (w : WorldState) (t c : ℕ) (p : Option VerifiedProgram) (o : Option Insert) → may_run w t c ≡ true → ((i : Insert) → o ≡ Some i → MayGo cpus w t i) → MayGo cpus w t (enqueue_choice p c o)
choice_goes cpus w t c None o may goes d l e = absurd (omega (arith, e))
choice_goes cpus w t c (Some p) None may goes d l e = absurd (omega (arith, e))
choice_goes cpus w t c (Some p) (Some i) may goes d l e = goes_for cpus w t c i may (goes i refl) d l e

-- once enqueue was called, its choice brings the task where it may run
abbrev pub MayPut : ℕ → State → ℕ → ℕ → ℕ → Type 0
MayPut cpus s t c flags =
    let r = (call_back s callback.Enqueue (task_and_number t flags) t c).state in
    MayGo cpus r.world t (enqueue_choice r.policy.callbacks.enqueue c r.world.call.insert)

-- so it does for a processor on which it may run
pub may_put : (on : List (Option ℕ)) (n : ℕ) (s : State) (t c flags : ℕ) → may_run s.world t c ≡ true → IsAllowedIn on n (call_back s callback.Enqueue (task_and_number t flags) t c).state.world → MayPut (length on) s t c flags
may_put on n s t c flags may allowed =
    let r = (call_back s callback.Enqueue (task_and_number t flags) t c).state in
    let x = honest_call_back s callback.Enqueue (task_and_number t flags) t c (λ e. absurd (cc)) in
    choice_goes (length on) r.world t c r.policy.callbacks.enqueue r.world.call.insert (may_as s.world r.world x.rules (ap (λ h. h.masks) x.tree) t c may)
    (λ i e. subst (λ u. MayGo (length on) r.world u i) (task_called s callback.Enqueue (task_and_number t flags) t c) (allowed.asks i e))
