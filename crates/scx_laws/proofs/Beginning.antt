-- A machine of a policy of one line begins with its line: where init doesn't create it, the machine can't begin.
use Rattle.std.proofs.Common.{◌≡◌, ℕ, zero, suc, ◌<◌, ℤ, Bool, true, false, ◌==◌, ◌&&◌, ◌||◌, not, nat_lt, if◌then◌else◌, List, [], ◌∷◌, length, get_or, Option, Some, None, is_none, is_some, Result, Ok, Err, refl, sym, ap, ◌∙◌, subst, arith}
use Rattle.scx_sched.proofs.First.{nowhere}
use Rattle.std.proofs.lemmas.Bool.{or_right}
use Rattle.std.proofs.lemmas.Bool.Decides.{nat_tests}
use Rattle.std.proofs.lemmas.List.{length-replicate}
use Rattle.std.proofs.lemmas.List.Folds.{list_any-append}
use Rattle.scx_dsq.specs.Queues.{QueueState, exists}
use Rattle.scx_dsq.specs.Calls.{clashes, create_refusal, with_queue, after_create}
use Rattle.scx_dsq.specs.declared.entries.Entry.{Entry}
use Rattle.scx_dsq.specs.declared.errors.QueueError.{QueueError}
use Rattle.scx_dsq.specs.declared.entries.Rank.TheVariants.{Fifo}
use Rattle.scx_isa_semantics.specs.declared.callbacks.Callback.TheVariants as callback
use Rattle.scx_isa_semantics.specs.declared.rules.Rules.{Rules}
use Rattle.scx_isa_semantics.specs.declared.rules.Rules.TheVariants.{Plain}
use Rattle.scx_isa_semantics.specs.Endings.{Ending}
use Rattle.scx_vm.specs.Programs.{VerifiedProgram}
use Rattle.scx_maps.specs.Contents.{zeros}
use Rattle.scx_weights.specs.Hierarchy.{Hierarchy, is_active_task, own_weight, binds}
use Rattle.scx_weights.specs.Counting.{any_below}
use Rattle.scx_sched_world.specs.First.{first_world, with_homes_below, at_first_homes}
use Rattle.scx_sched_world.specs.World.{WorldState, with_queues, are_linux, at_callback, quiet}
use Rattle.scx_sched_world.specs.Tasks.{begun_periods}
use Rattle.scx_sched_world.specs.Helpers.{invalid, with_fault, can_create, create_answer, after_create_dsq}
use Rattle.scx_sched_world.specs.declared.faults.Fault.TheVariants.{CannotCreate}
use Rattle.scx_sched_policy.specs.Policy.{PolicyState, program_of, tracks_idle}
use Rattle.scx_sched_machine.specs.Steps.{State, with_world, is_by_linux}
use Rattle.scx_sched_machine.specs.Callbacks.{call_ending, after_callback, acting, no_arguments, one_task, task_and_number}
use Rattle.scx_sched_machine.specs.Start.{is_bad_shape, is_nowhere, by_policy, blank, init_ending, bad_answer, ok_unless, after_init, failure, begin_with, begin_by_linux, enable, then_weigh, then_enable, after_enables, then_all_idle, unmarked, after_idles, all_enabled, first_state}
use Rattle.scx_sched_machine.proofs.Choices.{keeps_if}
use Rattle.scx_laws.specs.Lines.{IsLine}
use Rattle.scx_laws.proofs.InLine.{IsInLine, IsKeptInLine, world_plain, acts_not, line_at}

-- ---- queues before any callback

entries_created : (s : QueueState) (q : ℕ) → (after_create s q).entries ≡ s.entries
entries_created s q = keeps_if (λ (x : QueueState). x.entries ≡ s.entries) (is_none (create_refusal s q)) (with_queue s q) s refl refl

-- one state is another
same_ok : (a b : State) → ◌≡◌ {A = Result State ℤ} (Ok a) (Ok b) → a ≡ b
same_ok a b e = cc

-- ---- callbacks that such a policy doesn't have

nothing_enabled : {slice : ℕ} (s : State) (t : ℕ) → IsLine slice s.policy → enable s t ≡ Ok (with_world s (at_callback s.world callback.Enable t 0))
unfolding begin_with call_ending
nothing_enabled s t line = let w = at_callback s.world callback.Enable t 0 in ap (λ (q : Option VerifiedProgram). let e = call_ending q callback.Enable (one_task t) s.maps w in ok_unless (failure e.outside.call.cause e.answer) (after_callback s.policy e)) (acts_not s callback.Enable line.enables)

nothing_weighed : (s : State) (t : ℕ) → is_by_linux s ≡ false → then_weigh (Ok s) t ≡ Ok s
unfolding begin_by_linux
nothing_weighed s t plain = ap (λ b. if b && is_some (program_of s.policy callback.SetWeight) then begin_with s callback.SetWeight (task_and_number t (own_weight s.world.tree t)) t 0 else Ok s) plain

-- ---- init

module _ (slice : ℕ) (p : PolicyState) (tree : Hierarchy) (cpus : ℕ) (line : IsLine slice p) (plain : p.rules ≡ Plain) (shape : is_bad_shape tree cpus ≡ false) where
  -- the world before any callback
  abbrev w : WorldState
  w = begun_periods (by_policy p (first_world tree cpus))

  at_home : at_first_homes w ≡ w
  at_home = ap (λ (r : Rules). if are_linux r && binds w.tree then with_homes_below (length w.tasks) w else w) plain

  abbrev at_init : WorldState
  at_init = at_callback w callback.Init 0 0

  some_cpu : 0 < cpus
  some_cpu = go (nat_lt cpus 1) refl shape
    where
      go : (b : Bool) → nat_lt cpus 1 ≡ b → (b || (nat_lt 64 cpus || any_below (length tree.homes) (λ t. is_active_task tree t || is_nowhere tree cpus t))) ≡ false → 0 < cpus
      go true x y = absurd (cc)
      go false x y = grind (arith, nat_tests, x)

  -- the state after init, where queue 0 could be created
  abbrev created : State
  created = record { policy = p; maps = zeros p.shapes; world = quiet (with_queues at_init (after_create w.queues 0)) }

  created_line : can_create at_init 0 ≡ true → IsInLine created.world
  created_line may = record {
    rules = plain;
    some = omega (arith, length-replicate {A = Option ℕ} cpus None, some_cpu);
    tracks = tracked;
    ready = record { there = there; fits = refl; alike = λ u. ap (λ o. clashes 0 Fifo o) (ap (λ (xs : List (Option Entry)). get_or xs u None) (entries_created w.queues 0) ∙ nowhere cpus (length tree.homes) u) };
    stall = λ x e. absurd (cc);
  }
    where
      tracked : tracks_idle p ≡ true
      tracked = ap (λ (r : Rules). p.keeps_idle || not (are_linux r && is_some (program_of p callback.UpdateIdle))) plain ∙ or_right p.keeps_idle true refl

      there : exists (after_create w.queues 0) 0 ≡ true
      there = go (create_refusal w.queues 0) may
        where
          go : (o : Option QueueError) → is_none o ≡ true → exists (if is_none o then with_queue w.queues 0 else w.queues) 0 ≡ true
          go None e = list_any-append (λ other. other == 0) w.queues.ids (0 ∷ []) ∙ or_right (exists w.queues 0) true refl
          go (Some x) e = absurd (cc)

  -- how init ends
  ended : init_ending (blank p tree cpus) ≡ record { answer = Some (create_answer at_init 0); maps = zeros p.shapes; outside = after_create_dsq at_init 0 }
  ended =
      ap (λ (v : WorldState). call_ending (acting (record { policy = p; maps = zeros p.shapes; world = v }) callback.Init) callback.Init no_arguments (zeros p.shapes) (at_callback v callback.Init 0 0)) at_home
      ∙ (ap (λ (q : Option VerifiedProgram). call_ending q callback.Init no_arguments (zeros p.shapes) at_init) line.inits ∙ line.creates no_arguments (zeros p.shapes) at_init)

  -- and the state after it
  initialized : (s : State) → after_init (blank p tree cpus) ≡ Ok s → IsKeptInLine slice s
  unfolding after_init
  initialized s e = go (can_create at_init 0) refl (sym (ap (λ (x : Ending WorldState). ok_unless (bad_answer x.outside.call.cause x.answer) (after_callback p x)) ended) ∙ e)
    where
      ending : Bool → Ending WorldState
      ending b = record { answer = Some (if b then 0 else invalid); maps = zeros p.shapes; outside = if b then with_queues at_init (after_create at_init.queues 0) else with_fault at_init CannotCreate }

      go : (b : Bool) → can_create at_init 0 ≡ b → ok_unless (bad_answer (ending b).outside.call.cause (ending b).answer) (after_callback p (ending b)) ≡ Ok s → IsKeptInLine slice s
      go true may x = subst (IsKeptInLine slice) (same_ok created s x) (line, created_line may)
      go false may x = absurd (cc)

  -- ---- each task and each processor

  enabled : (n : ℕ) (s t : State) → after_enables n s ≡ Ok t → IsKeptInLine slice s → IsKeptInLine slice t
  enabled zero s t e h = subst (IsKeptInLine slice) (same_ok s t e) h
  enabled (suc n) s t e h = go (after_enables n s) (λ u x. enabled n s u x h) refl e
    where
      go : (o : Result State ℤ) → ((u : State) → after_enables n s ≡ Ok u → IsKeptInLine slice u) → after_enables n s ≡ o → then_enable o n ≡ Ok t → IsKeptInLine slice t
      go (Err j) f x y = absurd (cc)
      go (Ok u) f x y =
          let h = f u x in
          let v = with_world u (at_callback u.world callback.Enable n 0) in
          let k : IsKeptInLine slice v = (h.0, line_at u.world callback.Enable n 0 h.1) in
          subst (IsKeptInLine slice) (same_ok v t (sym (nothing_weighed v n (world_plain v.world k.1.rules)) ∙ (sym (ap (λ (r : Result State ℤ). then_weigh r n) (nothing_enabled u n h.0)) ∙ y))) k

  all_heard : (r : Result State ℤ) (t : State) → all_enabled r ≡ Ok t → ((s : State) → r ≡ Ok s → IsKeptInLine slice s) → IsKeptInLine slice t
  all_heard (Err j) t e f = absurd (cc)
  all_heard (Ok s) t e f = go (after_enables (length s.world.tasks) s) (λ u x. enabled (length s.world.tasks) s u x (f s refl)) refl e
    where
      go : (o : Result State ℤ) → ((u : State) → after_enables (length s.world.tasks) s ≡ Ok u → IsKeptInLine slice u) → after_enables (length s.world.tasks) s ≡ o → then_all_idle o ≡ Ok t → IsKeptInLine slice t
      go (Err j) f x y = absurd (cc)
      go (Ok u) f x y = let h = f u x in subst (IsKeptInLine slice) (same_ok u t (sym (ap (λ b. if b && is_some (program_of u.policy callback.UpdateIdle) then unmarked (after_idles (length u.world.cpus) u) else Ok u) (world_plain u.world h.1.rules)) ∙ y)) h

  -- the first state
  pub line_begins : (s : State) → first_state p tree cpus ≡ Ok s → IsKeptInLine slice s
  line_begins s e = all_heard (after_init (blank p tree cpus)) s e initialized
