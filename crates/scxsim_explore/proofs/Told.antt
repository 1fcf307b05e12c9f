-- Lists that are told, one after another, and what is an answer.
use Rattle.std.proofs.Common.{◌≡◌, ℕ, List, [], ◌∷◌, ◌++◌, Bool, true, false, Option, Some, None, Result, Ok, Err, inl, inr, option_map, refl, sym, ◌∙◌, subst}
use Rattle.std.proofs.lemmas.List.{append-nil}
use Rattle.std.proofs.lemmas.List.Elements.{All-append, All-cons, All-nil, All-push}
use Rattle.std.proofs.lemmas.Grind.{flat_map-append}
use Rattle.std.proofs.KnownBytes.{Appends-nil, Appends-trans}
use Rattle.std.specs.Prelude.{All, OnOk, IfOk, IfSome, IsErr}
use Rattle.std.specs.Io.KnownBytes.{Appends}
use Rattle.scxsim_commands.specs.declared.refusal.Fault.{Fault}
use Rattle.scx_load_workloads.specs.Workload.{WorkloadState, IsWorkload}
use Rattle.scx_sched_machine.specs.declared.events.Event.{Event}
use Rattle.scx_sched_policy.specs.Policy.{IsTimeout}
use Rattle.scx_sched.specs.Sim.{SimState}
use Rattle.scxsim_trace.specs.Lines.{names_of}
use Rattle.scx_explore_findings.specs.Path.{IsAs}
use Rattle.scx_explore_states.specs.declared.form.Form.{Form}
use Rattle.scx_explore_bounds.specs.declared.bounds.Bounds.{Bounds}
use Rattle.scx_explore_bounds.specs.declared.bounds.Mode.{Mode}
use Rattle.scx_explore_bounds.specs.declared.bounds.Mode.TheVariants as mode
use Rattle.scxsim_explore_lines.specs.Found.{ToldList, told_text, told_texts}
use Rattle.scxsim_explore_lines.specs.Summary.{Nones, summary_text}
use Rattle.scxsim_explore.specs.declared.limits.Limit.{Limit}
use Rattle.scxsim_explore.specs.declared.limits.Lists.{Lists}
use Rattle.scxsim_explore.specs.Words.{IsBoundsOf, IsPast, limit_line}
use Rattle.scxsim_explore.specs.Telling.{HasFile, IsShown, IsTold, IsExplored, IsAnswer}
use Rattle.scxsim_explore.specs.Lists.{Adds, HasLists, HasTold}
use Rattle.scxsim_explore.specs.Beginning.{IsReady}
use Rattle.scxsim_explore.proofs.KeptWhole.{few_apart, keeps_all_read}
use Rattle.scxsim_explore.proofs.Sure.{needs_nothing}

-- no list
pub told_nothing : (m : Mode) (w : WorkloadState) (s : SimState) (a : Option (List ℕ)) → HasTold m w s a a
told_nothing m w s a = ([], All-nil (IsShown m w s), Appends-nil a)

-- one
pub told_one : {A E : Type 0} (r : Result A E) (m : Mode) (w : WorkloadState) (s : SimState) (t : ToldList) (a b : Option (List ℕ))
    → IsShown m w s t → OnOk r (Appends a b (told_text (names_of w) s m t)) → OnOk r (HasTold m w s a b)
told_one (Ok x) m w s t a b shown text = (t ∷ [], All-cons (IsShown m w s) t [] shown (All-nil (IsShown m w s)), subst (Appends a b) (sym (append-nil (told_text (names_of w) s m t))) text)
told_one (Err x) m w s t a b shown text = text

-- some, and then some more
pub told_more : (m : Mode) (w : WorkloadState) (s : SimState) (a b c : Option (List ℕ)) → HasTold m w s a b → HasTold m w s b c → HasTold m w s a c
told_more m w s a b c (first, h, text) (next, k, more) =
    let both = Appends-trans a b c _ _ text more in
    (first ++ next, All-append (IsShown m w s) first next h k, subst (Appends a c) (sym (flat_map-append (told_text (names_of w) s m) first next)) both)

-- the same, where the last ones may be cut off
pub told_then : {A E : Type 0} (r : Result A E) (m : Mode) (w : WorkloadState) (s : SimState) (a b c : Option (List ℕ)) → HasTold m w s a b → OnOk r (HasTold m w s b c) → OnOk r (HasTold m w s a c)
told_then (Ok x) m w s a b c first next = told_more m w s a b c first next
told_then (Err x) m w s a b c first next = next

-- the summary, its lists, and others
pub lists_told : {A E : Type 0} (r : Result A E) (w : WorkloadState) (s : SimState) (found : List ToldList) (n : Nones) (a b c d : Option (List ℕ))
    → Appends a b (summary_text (names_of w) found n) → Appends b c (told_texts (names_of w) s n.bounds.mode found) → OnOk r (HasTold n.bounds.mode w s c d) → OnOk r (HasLists w s found n a d)
lists_told (Ok x) w s found n a b c d summary lists (most, shown, text) = (most, shown, Appends-trans a c d _ _ (Appends-trans a b c _ _ summary lists) text)
lists_told (Err x) w s found n a b c d summary lists more = more

-- some so far, with the machine that stays and its teller, and no write has failed
pub record IsSoFar (m : Mode) (w : WorkloadState) (s t teller : SimState) (a b : Option (List ℕ)) (n o : ℕ) : Type 0 where
  pub same : t ≡ s
  pub alike : IsAs s teller
  pub told : HasTold m w s a b
  pub unfailed : o ≡ n

-- none so far
pub none_so_far : (m : Mode) (w : WorkloadState) (s teller : SimState) (a : Option (List ℕ)) (n : ℕ) → IsAs s teller → IsSoFar m w s s teller a a n n
none_so_far m w s teller a n alike = record { same = refl; alike = alike; told = told_nothing m w s a; unfailed = refl }

-- and then some more
pub more_so_far : (m : Mode) (w : WorkloadState) (s t u v teller : SimState) (a b c : Option (List ℕ)) (n o p : ℕ)
    → IsSoFar m w s t v a b n o → u ≡ t → IsAs t teller → HasTold m w t b c → p ≡ o → IsSoFar m w s u teller a c n p
more_so_far m w s t u v teller a b c n o p first same alike next unfailed = record {
  same = same ∙ first.same;
  alike = subst (λ (x : SimState). IsAs x teller) first.same alike;
  told = told_more m w s a b c first.told (subst (λ (x : SimState). HasTold m w x b c) first.same next);
  unfailed = unfailed ∙ first.unfailed;
}

-- lists that are kept, and one more if there is one and memory for it
pub kept_more : (P : ToldList → Type 0) (old new : List ToldList) (was is : Bool) (list : Option ToldList) → All P old → IfSome list P → Adds list old was new is → All P new
kept_more P old new was is None all one (same, whole) = subst (All P) (sym same) all
kept_more P old new was is (Some t) all one (inl (more, whole)) = subst (All P) (sym more) (All-push P old t all one)
kept_more P old new was is (Some t) all one (inr (same, out)) = subst (All P) (sym same) all

-- no file
pub no_file : (m : Mode) (w : WorkloadState) (s : SimState) (events : List Event) → HasFile m w s events None
no_file mode.Events w s events = refl
no_file mode.Milliseconds w s events = tt
no_file mode.Workloads w s events = tt

-- the text of a file, if there is one
pub file_bytes : {X E : Type 0} (bytes : X → List ℕ) (P : List ℕ → Type 0) (r : Result (Option X) E) → IfOk r (λ (file : Option X). IfSome file (λ (x : X). P (bytes x)))
    → IfOk r (λ (file : Option X). IfSome (option_map bytes file) P)
file_bytes bytes P (Ok None) has = has
file_bytes bytes P (Ok (Some x)) has = has
file_bytes bytes P (Err e) has = has

-- what is kept of a file that was looked for, where memory may have run out for it
pub file_kept : {X E : Type 0} (bytes : X → List ℕ) (m : Mode) (w : WorkloadState) (s : SimState) (events : List Event) (r : Result (Option X) E) (file : Option X)
    → IfOk r (λ (found : Option X). HasFile m w s events (option_map bytes found)) → IfOk r (λ (found : Option X). file ≡ found) → (IsErr r → file ≡ None) → HasFile m w s events (option_map bytes file)
file_kept {X} bytes m w s events (Ok found) file has is none = subst (λ (x : Option X). HasFile m w s events (option_map bytes x)) (sym is) has
file_kept {X} bytes m w s events (Err e) file has is none = subst (λ (x : Option X). HasFile m w s events (option_map bytes x)) (sym (none refl)) (no_file m w s events)

-- what is told of a search that was ready is an answer
pub explored : (policy workload : List ℕ) (l : Lists) (b : Bounds) (w : WorkloadState) (s : SimState) (form : Form) (whole : Bool) (old new : Option (List ℕ))
    → IsBoundsOf l b → IsReady policy workload b w s form → IsWorkload w → IsTimeout s.state.policy.timeout_ms → IsTold form w s b whole old new → IsAnswer whole policy workload l old new
explored policy workload l b w s form whole old new named ready sound limit told = answer whole (b, named, found)
  where
    found : IsExplored policy workload b whole old new
    found = record {
      of_workload = w;
      first = s;
      run = ready.run;
      within = ready.within;
      form = form;
      of_policy = ready.of_policy;
      keeps = keeps_all_read policy workload b w s form ready.run ready.of_policy;
      apart = few_apart policy workload b w s form ready.run ready.of_policy;
      told = told;
      sure = needs_nothing policy workload l b w s form told.nones named ready.run ready.within ready.of_policy sound limit told.bounds told.apart.stalls told.again;
    }

    answer : (flag : Bool) → (c : Bounds) × IsBoundsOf l c × IsExplored policy workload c flag old new → IsAnswer flag policy workload l old new
    answer true is = is
    answer false is = inr is

-- so is the line of a limit that is passed
pub limited : (policy workload : List ℕ) (l : Lists) (past : Limit) (old new : Option (List ℕ)) (r : Result Bool Fault) → IsPast policy workload l past
    → IfOk r (λ (answer : Bool). (answer ≡ false) × Appends old new (limit_line past)) → IfOk r (λ (answer : Bool). IsAnswer answer policy workload l old new)
limited policy workload l past old new (Ok true) is (isnt, said) = absurd (cc)
limited policy workload l past old new (Ok false) is (isnt, said) = inl (past, is, said)
limited policy workload l past old new (Err x) is said = said
