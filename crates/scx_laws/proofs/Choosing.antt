-- A select_cpu that takes an idle processor, which the host chooses, has no fault.
use Rattle.std.proofs.Common.{◌≡◌, ℕ, ◌<◌, Bool, true, false, ◌==◌, ◌&&◌, not, nat_lt, ◌⊎◌, inl, inr, if◌then◌else◌, length, Option, Some, None, unwrap_or, refl, ap, ◌∙◌, arith}
use Rattle.std.specs.List.{list_any}
use Rattle.std.proofs.lemmas.Bool.{eq-eqb}
use Rattle.std.proofs.lemmas.Bool.Decides.{nat_tests}
use Rattle.std.proofs.lemmas.List.Elements.{All-from_get_or}
use Rattle.std.proofs.lemmas.List.Folds.{list_any_none}
use Rattle.scx_dsq.specs.Calls.{clashes}
use Rattle.scx_dsq.specs.declared.entries.Rank.TheVariants.{Fifo}
use Rattle.scx_isa_semantics.specs.declared.callbacks.Callback.TheVariants as callback
use Rattle.scx_sched_world.specs.declared.call.Insert.{Insert}
use Rattle.scx_sched_world.specs.declared.faults.Fault.{Fault}
use Rattle.scx_sched_world.specs.declared.faults.Fault.TheVariants.{IdleUntracked}
use Rattle.scx_sched_world.specs.CpuSets.{and_cpu}
use Rattle.scx_sched_world.specs.Ids.{local}
use Rattle.scx_sched_world.specs.World.{WorldState, is_by_linux, task_at, lowest_cpu, is_free_for, free_choice, choice, default_choice, after_claim, at_callback}
use Rattle.scx_sched_world.specs.Helpers.{is_held, flags_fault, insert_fault, after_late, insert_or_fault, after_insert, with_insert, fault_or, unless_fault, choice_answer, after_choice, idle_answer, after_idle}
use Rattle.scx_sched.specs.Once.{IsSorted}
use Rattle.scx_sched.proofs.Entering.{own_alike}
use Rattle.scx_sched.proofs.Homes.{lowest_is_there}
use Rattle.scx_laws.specs.Lines.{to_idle, asked_for}

-- the processor that is chosen is there
pub chosen_there : (w : WorldState) (t : ℕ) → (task_at w t).prev_cpu < length w.cpus → default_choice w t < length w.cpus
chosen_there w t home = tracked w.tracks_idle
  where
    lowest : (o : Option ℕ) → lowest_cpu w (is_free_for w t) ≡ o → unwrap_or o (task_at w t).prev_cpu < length w.cpus
    lowest None e = home
    lowest (Some c) e = lowest_is_there (length w.cpus) (is_free_for w t) c e

    free : (b : Bool) → unwrap_or (if b then Some (task_at w t).prev_cpu else lowest_cpu w (is_free_for w t)) (task_at w t).prev_cpu < length w.cpus
    free true = home
    free false = lowest (lowest_cpu w (is_free_for w t)) refl

    tracked : (b : Bool) → unwrap_or (if b then free_choice w t else None) (task_at w t).prev_cpu < length w.cpus
    tracked true = free (is_free_for w t (task_at w t).prev_cpu)
    tracked false = home

-- to the local queue of whichever processor is answered
abbrev pub idle_end : ℕ → Insert
idle_end slice = record { queue = local; slice = slice; rank = Fifo; preempts = false; refills = false }

module _ (w : WorldState) (t c : ℕ) (plain : is_by_linux w ≡ false) (tracks : w.tracks_idle ≡ true) (sorted : IsSorted w.queues) where
  abbrev pub begun : WorldState
  begun = at_callback w callback.SelectCpu t c

  -- the host answers its choice
  pub answered : choice_answer begun (Some t) ≡ default_choice begun t
  answered = ap (λ b. unless_fault (if b then None else Some IdleUntracked) (default_choice begun t)) tracks

  unclaimed : after_choice begun (Some t) ≡ begun
  unclaimed = ap (λ b. fault_or begun (if b then None else Some IdleUntracked) (after_claim begun (choice begun t))) tracks ∙ go (choice begun t)
    where
      go : (o : Option ℕ) → after_claim begun o ≡ begun
      go None = refl
      go (Some d) = ap (λ b. if b then record begun { claimed = and_cpu begun.claimed d; call = record begun.call { claims = and_cpu begun.call.claims d } } else begun) plain

  -- and whether it is idle
  asked : (d : ℕ) → d < length w.cpus → after_idle begun d ≡ begun
  asked d l = let there : nat_lt d (length w.cpus) ≡ true = grind (arith, nat_tests, l) in rw (tracks, there) refl

  no_clash : list_any (clashes local Fifo) w.queues.entries ≡ false
  no_clash = list_any_none (clashes local Fifo) w.queues.entries (All-from_get_or (λ o. clashes local Fifo o ≡ false) w.queues.entries None (λ i l. own_alike w.queues local Fifo (omega arith) refl sorted i))

  idle_inserted : (slice : ℕ) → after_insert begun (Some t) (to_idle slice begun) 0 ≡ with_insert begun (idle_end slice)
  idle_inserted slice =
      ap (λ b. after_insert begun (Some t) (record { queue = local; slice = slice; rank = Fifo; preempts = false; refills = b }) 0) plain
      ∙ (ap (λ b. if b && (false && not (is_held begun (Some t))) then after_late begun (flags_fault begun 0) else insert_or_fault begun (insert_fault begun (Some t) (idle_end slice) 0) (Some t) (idle_end slice)) plain
      ∙ ap (λ (o : Option Fault). insert_or_fault begun o (Some t) (idle_end slice)) fine)
    where
      fine : insert_fault begun (Some t) (idle_end slice) 0 ≡ None
      fine = rw (eq-eqb t t refl, plain, no_clash) refl

  -- where it asks so, nothing is changed, or the task is to go to a local queue
  pub asked_so : (slice d : ℕ) → d < length w.cpus → (asked_for slice begun t d ≡ begun) ⊎ (asked_for slice begun t d ≡ with_insert begun (idle_end slice))
  asked_so slice d l = go (idle_answer (after_choice begun (Some t)) d == 0)
    where
      v : WorldState
      v = after_idle (after_choice begun (Some t)) d

      same : v ≡ begun
      same = ap (λ (x : WorldState). after_idle x d) unclaimed ∙ asked d l

      go : (b : Bool) → ((if b then v else after_insert v (Some t) (to_idle slice v) 0) ≡ begun) ⊎ ((if b then v else after_insert v (Some t) (to_idle slice v) 0) ≡ with_insert begun (idle_end slice))
      go true = inl same
      go false = inr (ap (λ (x : WorldState). after_insert x (Some t) (to_idle slice x) 0) same ∙ idle_inserted slice)
