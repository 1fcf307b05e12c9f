-- What a run of a callback may leave is what is computed.
use Rattle.std.proofs.Common.{◌≡◌, ℕ, List, [], ◌∷◌, ◌++◌, Option, Some, None, refl, sym, ◌∙◌, ap, subst}
use Rattle.scx_isa_semantics.specs.declared.callbacks.Callback.{Callback}
use Rattle.scx_isa_semantics.specs.Elements.{Maps}
use Rattle.scx_isa_semantics.specs.Endings.{Ending, run_of}
use Rattle.scx_isa_semantics.proofs.EndedRuns.{run_is, stuck_is}
use Rattle.scx_vm.specs.Programs.{VerifiedProgram}
use Rattle.scx_vm.specs.declared.arguments.Args.{Args}
use Rattle.scx_vm.specs.Arguments.{program_arguments}
use Rattle.scx_vm.specs.Host.{answer_to, after_query}
use Rattle.scx_sched_world.specs.World.{WorldState, at_callback}
use Rattle.scx_sched_world.specs.Helpers.{world_functions}
use Rattle.scx_sched_machine.specs.Steps.{State, CallMade, Stepped, one_after_other}
use Rattle.scx_sched_machine.specs.Ejecting.{ejected_for}
use Rattle.scx_sched_machine.specs.Callbacks.{acting, call_ending, calls_of, after_callback, cause_of, call_back, answered_by, AreAnswered}
use Rattle.scx_laws.specs.Callbacks.{EndsAs, Absent, Exits, Sticks, leaving}
use Rattle.scx_laws.specs.Allowing.{RulesAllowCallbacks, RulesAllowCallbacksOnly}
use Rattle.scx_laws.proofs.Ejecting.{is_cause_of, only_cause_of, judges, only_judges}

called_is : (p : VerifiedProgram) (b : Callback) (a : Args) (maps : Maps) (w : WorldState) (o : Option VerifiedProgram) → o ≡ Some p
    → call_ending o b a maps w ≡ run_of (answer_to world_functions) (after_query world_functions) b p.code (program_arguments a) maps w
unfolding call_ending
called_is p b a maps w o e = rw e refl

called_none : (b : Callback) (a : Args) (maps : Maps) (w : WorldState) (o : Option VerifiedProgram) → o ≡ None → call_ending o b a maps w ≡ record { answer = Some 0; maps = maps; outside = w }
unfolding call_ending
called_none b a maps w o e = rw e refl

-- a callback ends as it is computed
pub only_ends : (o : Option VerifiedProgram) (b : Callback) (a : Args) (maps : Maps) (w : WorldState) (e : Ending WorldState) → EndsAs o b a maps w e → e ≡ call_ending o b a maps w
only_ends o b a maps w e (Absent x k) = k ∙ sym (called_none b a maps w o x)
only_ends o b a maps w e (Exits p n steps left v x l runs k) =
    k ∙ run_is (answer_to world_functions) (after_query world_functions) b p.code (program_arguments a) maps w n steps left v runs l ∙ sym (called_is p b a maps w o x)
only_ends o b a maps w e (Sticks p slot steps left v x l gets k) =
    k ∙ stuck_is (answer_to world_functions) (after_query world_functions) b p.code (program_arguments a) maps w slot steps left v gets l ∙ sym (called_is p b a maps w o x)

-- a program that is called, and comes to an answer, ends as the rules allow
pub ends_as : (o : Option VerifiedProgram) (b : Callback) (a : Args) (maps : Maps) (w : WorldState) → AreAnswered (calls_of o b a maps w) → EndsAs o b a maps w (call_ending o b a maps w)
ends_as None b a maps w all = Absent refl (called_none b a maps w None refl)
ends_as (Some p) b a maps w (h, more) = subst (λ (e : Ending WorldState). EndsAs (Some p) b a maps w e) (only_ends (Some p) b a maps w _ exits) exits
  where
    exits : EndsAs (Some p) b a maps w (record { answer = Some h.answer; maps = h.maps; outside = h.world })
    exits = Exits p h.answer h.steps h.maps h.world refl h.in_bound h.run refl

-- of calls that come to an answer the first do, and those after them
pub answered_first : (xs ys : List CallMade) → AreAnswered (xs ++ ys) → AreAnswered xs
answered_first [] ys h = tt
answered_first (x ∷ xs) ys (h, hs) = (h, answered_first xs ys hs)

-- of calls that come to an answer, those behind the first ones do
pub answered_second : (xs ys : List CallMade) → AreAnswered (xs ++ ys) → AreAnswered ys
answered_second [] ys h = h
answered_second (x ∷ xs) ys (h, hs) = answered_second xs ys hs

-- how the callback ends, and what follows
abbrev ending : State → Callback → Args → ℕ → ℕ → Ending WorldState
ending s b a t c = call_ending (acting s b) b a s.maps (at_callback s.world b t c)

abbrev followed_by : State → Callback → Args → WorldState → Ending WorldState → Stepped → Stepped
followed_by s b a w e r = one_after_other (leaving s b a w e) r

abbrev followed : State → Callback → Args → WorldState → Ending WorldState → Stepped
followed s b a w e = followed_by s b a w e (ejected_for (cause_of b e) (after_callback s.policy e))

-- what is computed is allowed
pub calls_back : RulesAllowCallbacks
unfolding call_back answered_by
calls_back s b a t c all = record {
  ending = ending s b a t c;
  ends = ends_as (acting s b) b a s.maps (at_callback s.world b t c) (answered_first (calls_of (acting s b) b a s.maps (at_callback s.world b t c)) (ejected_for (cause_of b (ending s b a t c)) (after_callback s.policy (ending s b a t c))).calls all);
  answers = refl;
  cause = cause_of b (ending s b a t c);
  why = is_cause_of b (ending s b a t c);
  ejected = ejected_for (cause_of b (ending s b a t c)) (after_callback s.policy (ending s b a t c));
  judged = judges (after_callback s.policy (ending s b a t c)) (cause_of b (ending s b a t c));
  all = refl;
}

-- and nothing else is
pub only_calls : RulesAllowCallbacksOnly
unfolding call_back answered_by
only_calls s b a t c x r h =
    let w = at_callback s.world b t c in
    let e = only_ends (acting s b) b a s.maps w h.ending h.ends in (
      h.answers ∙ ap (λ (k : Ending WorldState). k.answer) e,
      h.all ∙ ap (λ y. followed_by s b a w h.ending y) (only_judges (after_callback s.policy h.ending) h.cause h.ejected h.judged)
          ∙ ap (λ f. followed_by s b a w h.ending (ejected_for f (after_callback s.policy h.ending))) (only_cause_of b h.ending h.cause h.why)
          ∙ ap (λ k. followed s b a w k) e,
    )
