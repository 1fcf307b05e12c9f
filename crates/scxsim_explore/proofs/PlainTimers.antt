-- A policy by plain rules has no timers: a file by these rules that has the key of them is refused.
use Rattle.std.proofs.Common.{◌≡◌, ℕ, Bool, true, false, if◌then◌else◌, List, [], ◌∷◌, ◌++◌, length, codes, Option, Some, None, Ok, Ordering, Less, Equal, Greater, nat_cmp, is_eq, refl, sym, ap, ◌∙◌, subst}
use Rattle.std.specs.Prelude.{⊤}
use Rattle.std.specs.Ordering.{match_ordering}
use Rattle.std.specs.Cmp.Lexicographic.{slice_cmp}
use Rattle.std.proofs.lemmas.List.{length-set, length-replicate}
use Rattle.std.proofs.lemmas.Map.Text.{is_eq-slice_cmp}
use Rattle.std.proofs.lemmas.Slice.Eq.{bytes_eq-Decides}
use Rattle.toml.specs.Data.{Data, Members, no_members, member, no_items, get_member}
use Rattle.scx_isa_semantics.specs.declared.rules.Rules.{Rules}
use Rattle.scx_isa_semantics.specs.declared.rules.Rules.TheVariants.{Plain, Linux}
use Rattle.scx_isa_semantics.specs.Results.{◌>>=◌}
use Rattle.scx_load_files.specs.Keys.{key_text}
use Rattle.scx_load_files.specs.Paths.{below}
use Rattle.scx_load_files.specs.Unknown.{is_known, unknown, unknown_in, unknown_in_each, known_alone, least_with, refuse_least, IsLeast}
use Rattle.scx_load_files.specs.Values.{found_or, document, optional, integer_of, elements_of}
use Rattle.scx_load_files.proofs.Least.{least_is_found}
use Rattle.scx_load_policies.specs.Maps.{maps}
use Rattle.scx_load_policies.specs.Policies.{PolicyFile, callback_keys, max_timers}
use Rattle.scx_load_policies.specs.Reading.{file_keys, map_keys, timer_keys, rules_in, or_plain, rules_meant, unknown_beside, unknown_keys, timeout_limits, policy_name, tick_in, idle_kept, programs_in, policy_in, policy_file, policy_text}
use Rattle.scx_load_policies.specs.Timers.{timers, timers_from}
use Rattle.scx_load_workloads.specs.Workload.{WorkloadState, IsWorkload, first_tree}
use Rattle.scx_load_workloads.proofs.Forest.{parts, same_ok}
use Rattle.scx_sched_world.specs.World.{WorldState, are_linux}
use Rattle.scx_sched.specs.Sim.{SimState}
use Rattle.scx_sched.proofs.Alone.{KeepsAlone, alone_steps}
use Rattle.scx_sched.proofs.First.{rules_started, steps_started}
use Rattle.scx_sched.proofs.Queries.{off_queues}
use Rattle.scxsim_runs.specs.Runs.{IsRun}
use Rattle.scxsim_runs.proofs.Shapes.{shape_is_right}

-- ---- the file

-- a list that is part of an empty one is empty
left_empty : {A : Type 0} (xs ys : List A) → xs ++ ys ≡ [] → xs ≡ []
left_empty [] ys e = refl
left_empty (x ∷ xs) ys e = absurd (cc)

-- where no key is refused as unknown, none is unknown
none_unknown : (paths : List (List ℕ)) (t : ⊤) → known_alone paths ≡ Ok t → paths ≡ []
none_unknown paths t e = go (least_with None paths) (least_is_found paths) e
  where
    go : (o : Option (List ℕ)) → IsLeast paths o → refuse_least o ≡ Ok t → paths ≡ []
    go None empty e = empty
    go (Some path) least e = absurd (cc)

both_known : (b : Bool) → b ≡ true → b ≡ false → ⊥
both_known b x y = absurd (cc)

-- a key that isn't known isn't in a table without unknown keys
absent : (known : List (List ℕ)) (path key : List ℕ) → is_known known key ≡ false → (ms : Members) → unknown known path ms ≡ [] → get_member key ms ≡ None
absent known path key other no_members none = refl
absent known path key other (member k d ms) none = go (is_known known k) refl none (absent known path key other ms)
  where
    same : is_eq (slice_cmp nat_cmp key k) ≡ true → key ≡ k
    same e = (bytes_eq-Decides key k).0 (sym (is_eq-slice_cmp key k) ∙ e)

    at : (o : Ordering) → slice_cmp nat_cmp key k ≡ o → is_known known k ≡ true → get_member key ms ≡ None → match_ordering o (get_member key ms) (Some d) (get_member key ms) ≡ None
    at Less e there rest = rest
    at Equal e there rest = absurd (both_known (is_known known key) (ap (is_known known) (same (ap is_eq e)) ∙ there) other)
    at Greater e there rest = rest

    go : (b : Bool) → is_known known k ≡ b → (if b then unknown known path ms else below path (key_text k) ∷ unknown known path ms) ≡ [] → (unknown known path ms ≡ [] → get_member key ms ≡ None) → get_member key (member k d ms) ≡ None
    go true there e rest = at (slice_cmp nat_cmp key k) refl there (rest e)
    go false there e rest = absurd (cc)

-- where no key of a file is unknown, none of its table is
none_of_table : (keys of_maps callbacks : List (List ℕ)) (ms : Members) → unknown_beside keys of_maps callbacks ms ≡ [] → unknown keys [] ms ≡ []
none_of_table keys of_maps callbacks ms e =
    let first = unknown keys [] ms in
    let of_map = unknown_in_each of_maps [] (codes "map") ms in
    let of_timer = unknown_in_each timer_keys [] (codes "timer") ms in
    let of_code = unknown_in callbacks [] (codes "code") ms in
    let of_slots = unknown_in callbacks [] (codes "slots") ms in
    left_empty first of_map
    (left_empty (first ++ of_map) of_timer (left_empty (first ++ of_map ++ of_timer) of_code (left_empty (first ++ of_map ++ of_timer ++ of_code) of_slots e)))

-- what is read of a table by plain rules
no_timers_read : (ms : Members) (file : PolicyFile) → policy_file ms ≡ Ok file → file.rules ≡ Plain → file.timers ≡ 0
no_timers_read ms file e plain =
    let known = parts (known_alone (unknown_keys ms)) (λ t. policy_in ms) file e in
    let name = parts (policy_name ms) _ file known.second in
    let timeout = parts (optional (integer_of timeout_limits) 30000 [] (codes "timeout_ms") ms) _ file name.second in
    let rules = parts (rules_in ms) _ file timeout.second in
    let tick = parts (tick_in rules.value ms) _ file rules.second in
    let kept = parts (idle_kept ms) _ file tick.second in
    let shapes = parts (maps ms) _ file kept.second in
    let count = parts (timers ms) _ file shapes.second in
    let programs = parts (programs_in ms) _ file count.second in
    let is = same_ok _ file programs.second in
    let meant : rules_meant ms ≡ Plain = ap or_plain rules.first ∙ (ap (λ (x : PolicyFile). x.rules) is ∙ plain) in
    let first : unknown (file_keys (rules_meant ms)) [] ms ≡ [] = none_of_table (file_keys (rules_meant ms)) (map_keys (rules_meant ms)) (callback_keys (rules_meant ms)) ms (none_unknown (unknown_keys ms) known.value known.first) in
    let none = absent (file_keys Plain) [] (codes "timer") refl ms (subst (λ (r : Rules). unknown (file_keys r) [] ms ≡ []) meant first) in
    let read : timers ms ≡ Ok 0 = ap (λ (o : Option Data). found_or (elements_of max_timers (below [] (codes "timer"))) (Ok no_items) o >>= timers_from 0) none in
    sym (ap (λ (x : PolicyFile). x.timers) is) ∙ same_ok count.value 0 (sym count.first ∙ read)

no_timers_in : (text : List ℕ) (file : PolicyFile) → policy_text text ≡ Ok file → file.rules ≡ Plain → file.timers ≡ 0
no_timers_in text file e = let x = parts (document text) policy_file file e in no_timers_read x.value file x.second

-- ---- its machine
module _ (n k : ℕ) where
  -- there are that many tasks and timers
  abbrev HasThese : WorldState → Type 0
  HasThese w = (length w.tasks ≡ n) × (length w.timers ≡ k)

  these_alone : KeepsAlone n HasThese
  these_alone = record {
    known = λ w h. h.0;
    queries = off_queues HasThese (λ w x other h. h) (λ w i o later h. (h.0, length-set w.timers i o ∙ h.1)) (λ w t s v c h. (length-set w.tasks t _ ∙ h.0, h.1)) (λ w q i m a b c d r ns h. h);
    waits_now = λ w t h. (length-set w.tasks t _ ∙ h.0, h.1);
    waits_not = λ w t c h. (length-set w.tasks t _ ∙ h.0, h.1);
    builtin = λ w t s v h. (length-set w.tasks t _ ∙ h.0, h.1);
    popped = λ w q h. h;
    out = λ w x h. h;
    rest = λ w cpus o x a b c tree call clock ns h. h;
  }

plainly : (r : Rules) → are_linux r ≡ false → r ≡ Plain
plainly Plain e = refl
plainly Linux e = absurd (cc)

module _ (policy workload : List ℕ) (w : WorkloadState) (s : SimState) (run : IsRun policy workload w s) (sound : IsWorkload w) where
  -- a machine begins with the timers of its policy
  timers_started : length s.state.world.timers ≡ run.begun.machine.timers
  timers_started =
      let begun = run.begun in
      let tree = first_tree w in
      let n = length tree.homes in
      let k = begun.machine.timers in
      (steps_started (λ m hand on v. HasThese n k v) begun.machine tree w.cpus s.state (alone_steps n (HasThese n k) (these_alone n k)) (λ v u c h. (length-set v.tasks u _ ∙ h.0, h.1)) (shape_is_right w sound) begun.first.0 (length-replicate n _, length-replicate k _)).1

  pub plain_machines_have_no_timers : are_linux s.state.world.rules ≡ false → length s.state.world.timers ≡ 0
  plain_machines_have_no_timers plain =
      let begun = run.begun in
      let rules : begun.file.rules ≡ Plain = sym begun.built.rules ∙ (sym (rules_started begun.machine (first_tree w) w.cpus s.state begun.first.0) ∙ plainly s.state.world.rules plain) in
      timers_started ∙ (begun.built.timers ∙ no_timers_in policy begun.file begun.policy_read rules)
