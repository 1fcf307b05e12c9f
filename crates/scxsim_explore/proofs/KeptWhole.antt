-- The form of a search keeps all that the policy's programs can read where it tells tasks apart, and waits and slices but in lists of events.
use Rattle.std.proofs.Common.{◌≡◌, ℕ, nat_lt, ◌⊎◌, inl, inr, ⊎_elim, Bool, true, false, not, ◌&&◌, ◌||◌, List, Result, Ok, Err, refl, sym, ap, ◌∙◌, subst}
use Rattle.scx_load_policies.specs.Building.{IsBuilt}
use Rattle.scx_load_policies.specs.Policies.{PolicyFile}
use Rattle.scx_load_policies.specs.Reading.{policy_text}
use Rattle.scx_load_workloads.specs.Workload.{WorkloadState, first_tree}
use Rattle.scx_sched_policy.specs.Policy.{PolicyState}
use Rattle.scx_sched.specs.Sim.{SimState}
use Rattle.scx_explore_states.specs.declared.form.Form.{Form}
use Rattle.scx_explore_states.specs.Written.{needs_slices}
use Rattle.scx_explore_findings.specs.WholeForms.{IsWholeInRuns}
use Rattle.scx_explore_findings.proofs.FirstLed.{first_policy}
use Rattle.scx_explore_bounds.specs.declared.bounds.Bounds.{Bounds}
use Rattle.scx_explore_bounds.specs.declared.bounds.Mode.{Mode}
use Rattle.scx_explore_bounds.specs.declared.bounds.Mode.TheVariants as mode
use Rattle.scx_explore_bounds.specs.declared.uses.Uses.{Uses}
use Rattle.scx_explore_bounds.specs.Forms.{form_of, tells_apart, may_load_counts, are_apart, form_within, IsFormFrom}
use Rattle.scx_explore_bounds.proofs.Done.{left_none, right_none}
use Rattle.scx_explore_audit.specs.declared.table.Moves.{Moves}
use Rattle.scx_explore_audit.specs.declared.table.Moves.TheVariants.{Events}
use Rattle.scx_explore_audit.specs.Whole.{MayLeaveSlices}
use Rattle.scx_explore_audit.proofs.InRuns.{none_right, goes_plainly, has_no_quota, computed_forms_are_whole_in_runs, programs_load_no_count}
use Rattle.scx_explore_audit.proofs.Rowed.{with_slices}
use Rattle.scxsim_runs.specs.Runs.{IsRun}
use Rattle.scxsim_explore.specs.Telling.{KeepsAllRead, TellsFewApart}

pub bits : (b : Bool) → b ≡ false → b ≡ true → ⊥
bits b x y = absurd (cc)

told : (x few loads : Bool) → few ≡ true → loads ≡ false → (x || (few && not loads)) ≡ true
told true few loads y z = refl
told false true false y z = refl
told false true true y z = absurd (bits true z refl)
told false false loads y z = absurd (bits false refl y)

file_or : {E : Type 0} → PolicyFile → Result PolicyFile E → PolicyFile
file_or d (Ok x) = x
file_or d (Err e) = d

-- a text is one policy file
one_file : {E : Type 0} (r : Result PolicyFile E) (x y : PolicyFile) → r ≡ Ok x → r ≡ Ok y → x ≡ y
unfolding file_or
one_file r x y e f = sym (ap (file_or x) e) ∙ ap (file_or x) f

-- what is known of the form of a policy's states
module _ (policy workload : List ℕ) (b : Bounds) (w : WorkloadState) (s : SimState) (form : Form) (run : IsRun policy workload w s) (f : IsFormFrom policy b s form) where
  abbrev file : PolicyFile
  file = f.of_policy.file

  abbrev u : Uses
  u = f.of_policy.form.uses

  built : IsBuilt file s.state.policy
  built =
      let begun = run.begun in
      let named : IsBuilt file begun.machine = subst (λ (x : PolicyFile). IsBuilt x begun.machine) (one_file (policy_text policy) begun.file file begun.policy_read f.of_policy.read) begun.built in
      subst (λ (q : PolicyState). IsBuilt file q) (sym (first_policy begun.machine (first_tree w) w.cpus s begun.first)) named

  abbrev form_in : Mode → Form
  form_in m = form_within m b.depth file.timeout_ms (are_apart b s.state.world) u

  -- what lists of milliseconds keep is kept, or lists are of events
  or_events : (kept : Bool) (is : Mode → Bool) → is mode.Milliseconds ≡ true → is mode.Workloads ≡ true → kept ≡ is b.mode → (kept ≡ true) ⊎ (b.mode ≡ mode.Events)
  or_events kept is milliseconds workloads e = go b.mode refl
    where
      go : (m : Mode) → b.mode ≡ m → (kept ≡ true) ⊎ (b.mode ≡ mode.Events)
      go mode.Events n = inr n
      go mode.Milliseconds n = inl (e ∙ (ap is n ∙ milliseconds))
      go mode.Workloads n = inl (e ∙ (ap is n ∙ workloads))

  pub keeps_waits : (form.waits ≡ true) ⊎ (b.mode ≡ mode.Events)
  keeps_waits = or_events form.waits (λ (m : Mode). (form_in m).waits) refl refl (ap (λ (g : Form). g.waits) f.suited.rest ∙ ap (λ (g : Form). g.waits) f.of_policy.form.form)

  names : (m : Mode) → b.mode ≡ m → form.names ≡ (form_in m).names
  names m e = ap (λ (g : Form). g.names) f.suited.rest ∙ (ap (λ (g : Form). g.names) f.of_policy.form.form ∙ ap (λ (n : Mode). (form_in n).names) e)

  pub few_apart : TellsFewApart policy b s form f
  few_apart few none = go b.mode refl
    where
      go : (m : Mode) → b.mode ≡ m → form.names ≡ true
      go mode.Events e = names mode.Events e ∙ told (tells_apart u) (are_apart b s.state.world) (may_load_counts u) few none
      go mode.Milliseconds e = names mode.Milliseconds e
      go mode.Workloads e = names mode.Workloads e

  slices_are : form.slices ≡ ((form_in b.mode).slices || needs_slices s.state.world)
  slices_are = f.suited.slices ∙ ap (λ (g : Form). g.slices || needs_slices s.state.world) f.of_policy.form.form

  -- where slices are left out, lists are of events
  pub leaves_slices : form.slices ≡ false → b.mode ≡ mode.Events
  leaves_slices none =
      ⊎_elim (λ (kept : form.slices ≡ true). absurd (bits form.slices none kept)) (λ (of_events : b.mode ≡ mode.Events). of_events)
      (or_events form.slices (λ (m : Mode). (form_in m).slices || needs_slices s.state.world) refl refl slices_are)

  -- and where tasks are told apart too, no program loads one or a run time, and no group has a quota
  pub may_leave_slices : (moves : Moves) → (b.mode ≡ mode.Events → moves ≡ Events) → (b.mode ≡ mode.Events → form.names ≡ true) → MayLeaveSlices form moves s
  may_leave_slices moves of_events named = go form.slices refl
    where
      left_in : b.mode ≡ mode.Events → form.slices ≡ false → MayLeaveSlices form moves s
      left_in e none =
          let neither : ((form_in mode.Events).slices || needs_slices s.state.world) ≡ false = ap (λ (m : Mode). (form_in m).slices || needs_slices s.state.world) (sym e) ∙ (sym slices_are ∙ none) in
          let loads = left_none (form_in mode.Events).slices (needs_slices s.state.world) neither in
          let needs_none = right_none (form_in mode.Events).slices (needs_slices s.state.world) neither in
          inr (
            of_events e,
            ap (λ (g : Form). g.run_ns) f.suited.rest
                ∙ (ap (λ (g : Form). g.run_ns) f.of_policy.form.form
                ∙ (ap (λ (m : Mode). (form_in m).run_ns) e ∙ right_none u.slice u.run_ns (left_none (u.slice || u.run_ns) ((form_in mode.Events).names && u.has_count_load) loads))),
            programs_load_no_count file s.state.policy u built f.of_policy.form.done
                (none_right (form_in mode.Events).names u.has_count_load (sym (names mode.Events e) ∙ named e) (right_none (u.slice || u.run_ns) ((form_in mode.Events).names && u.has_count_load) loads)),
            has_no_quota s.state.world needs_none,
            goes_plainly s.state.world needs_none,
          )

      go : (x : Bool) → form.slices ≡ x → MayLeaveSlices form moves s
      go true e = inl e
      go false e = left_in (leaves_slices e) e

  -- where tasks are told apart, the form is the one that is computed, with waits and slices or without
  computed : (b.mode ≡ mode.Events → form.names ≡ true) → form ≡ record (form_of u form.waits) { slices = form.slices; map_words = form.map_words }
  computed named =
      f.suited.rest ∙ (ap (λ (g : Form). record g { slices = form.slices; map_words = form.map_words }) f.of_policy.form.form
      ∙ ap (λ (g : Form). record g { slices = form.slices; map_words = form.map_words }) (go b.mode refl ∙ ap (form_of u) (sym waits)))
    where
      plain_waits : f.plain.waits ≡ (form_in b.mode).waits
      plain_waits = ap (λ (g : Form). g.waits) f.of_policy.form.form

      waits : form.waits ≡ (form_in b.mode).waits
      waits = ap (λ (g : Form). g.waits) f.suited.rest ∙ plain_waits

      by : (m : Mode) → b.mode ≡ m → record (form_in m) { slices = true } ≡ form_of u (form_in m).waits
      by mode.Events e = ap (λ (x : Bool). record (form_of u (nat_lt file.timeout_ms b.depth)) { names = x }) (sym (names mode.Events e) ∙ named e)
      by mode.Milliseconds e = refl
      by mode.Workloads e = refl

      go : (m : Mode) → b.mode ≡ m → record (form_in b.mode) { slices = true } ≡ form_of u (form_in b.mode).waits
      go m e = subst (λ (n : Mode). record (form_in n) { slices = true } ≡ form_of u (form_in n).waits) (sym e) (by m e)

  pub keeps_all_read : KeepsAllRead b s form
  keeps_all_read named =
      subst (λ (g : Form). IsWholeInRuns s.state.policy g) (sym (computed named))
      (with_slices form.slices s.state.policy (record (form_of u form.waits) { map_words = form.map_words })
      (computed_forms_are_whole_in_runs file s.state.policy u form.waits form.map_words built f.of_policy.form.done))
