-- A processor on which nobody runs stays idle where nobody waits for it and dispatch asks in vain.
use Rattle.std.proofs.Common.{arith, ◌≡◌, ℕ, ◌==◌, ◌&&◌, not, nat_lt, Bool, true, false, if◌then◌else◌, is_some, is_none, List, [], ◌∷◌, Option, Some, None, refl, sym, ap, ◌∙◌}
use Rattle.std.proofs.lemmas.Bool.{and_parts, eqb-true}
use Rattle.scx_dsq.specs.Queues.{QueueState, exists, only, len_of, front_of}
use Rattle.scx_isa_semantics.specs.declared.callbacks.Callback.TheVariants as callback
use Rattle.scx_isa_semantics.specs.Elements.{Maps}
use Rattle.scx_isa_semantics.specs.Endings.{Ending}
use Rattle.scx_isa_semantics.proofs.EndedRuns.{run_is}
use Rattle.scx_vm.specs.declared.arguments.Args.{Args}
use Rattle.scx_vm.specs.Arguments.{program_arguments}
use Rattle.scx_vm.specs.Host.{answer_to, after_query}
use Rattle.scx_vm.specs.Programs.{VerifiedProgram}
use Rattle.scx_isa_semantics.specs.declared.rules.Rules.{Rules}
use Rattle.scx_weights.specs.Hierarchy as tree
use Rattle.scx_weights.specs.Hierarchy.{Hierarchy, is_in_mask}
use Rattle.scx_weights.specs.Limits.{has_quota}
use Rattle.scx_sched_world.specs.Ids.{policy_end, global, local_on}
use Rattle.scx_sched_world.specs.World as world
use Rattle.scx_sched_world.specs.World.{WorldState, are_linux, with_switch, cycling_by_linux, with_cycling, at_callback}
use Rattle.scx_sched_world.specs.Tasks.{local_len, next_for}
use Rattle.scx_sched_world.specs.declared.notes.Note.{Note}
use Rattle.scx_sched_world.specs.Helpers.{is_there, world_functions}
use Rattle.scx_sched_policy.specs.Policy.{program_of}
use Rattle.scx_sched_machine.specs.Steps.{State, CallMade, Stepped, with_world, is_ejected, is_by_linux, kicked, stays, one_after_other}
use Rattle.scx_sched_machine.specs.Ejecting.{ejected_for}
use Rattle.scx_sched_machine.specs.Callbacks.{unless_ejected, acting, call_ending, after_callback, calls_of, cause_of, call_back, noted_by, cpu_and_task, IsAnswered, AreAnswered}
use Rattle.scx_sched_machine.specs.Hearing.{Hears, Untold}
use Rattle.scx_sched_machine.specs.Does.{Goes}
use Rattle.scx_sched_policy.specs.Vain.{vain_queues, nobody_in, asked_in, in_vain, RunsInVain}
use Rattle.scx_sched_machine.specs.Custody.{moved_as, hears_dequeue, tells_left}
use Rattle.scx_sched_machine.specs.Parking.{supply}
use Rattle.scx_sched_machine.specs.Cycle.{has_local, dispatch_called, after_dispatch, supply_unless_kept, told_of, asks_again, tries, rest, builtin_cycle, pick, pick_or_rest, keep_or_pick, conclude, give_up, ask, seek, look, cycling, stays_idle, idles, falls_idle, concluded, cycle}
use Rattle.scx_sched_machine.proofs.Choices.{keeps_if}
use Rattle.scx_sched_machine.proofs.Free.{supply_nobody}
use Rattle.scx_sched_policy.proofs.InVain.{only_asks}
use Rattle.scx_sched_machine.proofs.Leaving.{then_stays}
use Rattle.scx_sched_machine.proofs.Tries.{tries_last}

and_false : (b : Bool) → (b && false) ≡ false
and_false true = refl
and_false false = refl

-- nobody waits for the processor, or for any and may run on it, and dispatch asks in vain
record Rests (s : State) (c : ℕ) : Type 0 where
  force : s.world.ejected ≡ None
  free : has_quota s.world.tree.groups ≡ false
  empty : local_len s.world c ≡ 0
  nobody : next_for s.world global c ≡ None
  vain : in_vain s.world c (asked_in (program_of s.policy callback.Dispatch)) ≡ true

-- the queues, the tree, the rules and why the policy was put out of force are the same
record LooksAlike (v w : WorldState) : Type 0 where
  queues : w.queues ≡ v.queues
  tree : w.tree ≡ v.tree
  rules : w.rules ≡ v.rules
  ejected : w.ejected ≡ v.ejected

-- the first task of a queue that may run on a processor, by the parts of a world that say it
abbrev next_in : Rules → Hierarchy → QueueState → ℕ → ℕ → Option ℕ
next_in r h s q c = front_of (if are_linux r && tree.binds h then only (λ t. is_in_mask h t c) s else s) q

next_alike : (v w : WorldState) (q c : ℕ) → LooksAlike v w → next_for w q c ≡ next_for v q c
next_alike v w q c h =
    ap (λ r. next_in r w.tree w.queues q c) h.rules
    ∙ ap (λ x. next_in v.rules x w.queues q c) h.tree
    ∙ ap (λ s. next_in v.rules v.tree s q c) h.queues

-- nobody waits in the same queues
nobody_alike : (v w : WorldState) (c : ℕ) (qs : List ℕ) → LooksAlike v w → nobody_in w c qs ≡ nobody_in v c qs
nobody_alike v w c [] h = refl
nobody_alike v w c (q ∷ qs) h =
    ap (λ b. b && (is_there w q && is_none (next_for w q c))) (nobody_alike v w c qs h)
    ∙ ap (λ (s : QueueState). nobody_in v c qs && ((nat_lt q policy_end && exists s q) && is_none (next_for w q c))) h.queues
    ∙ ap (λ o. nobody_in v c qs && (is_there v q && is_none o)) (next_alike v w q c h)

vain_alike : (v w : WorldState) (c : ℕ) (o : Option (List ℕ)) → LooksAlike v w → in_vain w c o ≡ in_vain v c o
vain_alike v w c None h = refl
vain_alike v w c (Some qs) h = nobody_alike v w c qs h

-- a callback leaves them
called_alike : (w : WorldState) (c : ℕ) → LooksAlike w (at_callback w callback.Dispatch 0 c)
called_alike w c = record { queues = refl; tree = refl; rules = refl; ejected = refl }

-- the state once dispatch was asked
abbrev called : State → ℕ → State
called s c = with_world s (at_callback s.world callback.Dispatch 0 c)

-- what it is asked with
abbrev given : State → ℕ → Args
given s c = cpu_and_task c (told_of s None)

-- dispatch is asked in vain
abbrev asked : State → ℕ → Stepped
asked s c = record {
  state = called s c;
  notes = [];
  calls = calls_of (program_of s.policy callback.Dispatch) callback.Dispatch (given s c) s.maps (at_callback s.world callback.Dispatch 0 c);
}

rests_called : (s : State) (c : ℕ) → Rests s c → Rests (called s c) c
rests_called s c h = record {
  force = h.force;
  free = h.free;
  empty = h.empty;
  nobody = h.nobody;
  vain = vain_alike s.world (at_callback s.world callback.Dispatch 0 c) c (asked_in (program_of s.policy callback.Dispatch)) (called_alike s.world c) ∙ h.vain;
}

-- what a run leaves of which nothing comes
abbrev left_with : Maps → WorldState → Ending WorldState
left_with maps w = record { answer = Some 0; maps = maps; outside = w }

-- a program that asks in vain leaves maps and world as they are
ran_in_vain : (p : VerifiedProgram) (o : Option (List ℕ)) (a : Args) (maps : Maps) (w : WorldState) → vain_queues p.code ≡ o → w.call.callback ≡ callback.Dispatch → in_vain w w.call.cpu o ≡ true → RunsInVain p.code (program_arguments a) maps w
ran_in_vain p None a maps w e now vain = absurd (cc)
ran_in_vain p (Some qs) a maps w e now vain = only_asks p.code qs e (program_arguments a) maps w now vain

ends_in_vain : (o : Option VerifiedProgram) (a : Args) (maps : Maps) (w : WorldState) → w.call.callback ≡ callback.Dispatch → in_vain w w.call.cpu (asked_in o) ≡ true → call_ending o callback.Dispatch a maps w ≡ left_with maps w
unfolding call_ending
ends_in_vain None a maps w now vain = refl
ends_in_vain (Some p) a maps w now vain =
    let r = ran_in_vain p (vain_queues p.code) a maps w refl now vain in
    sym (run_is (answer_to world_functions) (after_query world_functions) callback.Dispatch p.code (program_arguments a) maps w 0 r.steps maps w r.runs r.in_bound)

-- what a callback comes to that has this program and ends so
abbrev ended_with : State → ℕ → Option VerifiedProgram → Ending WorldState → Stepped
ended_with s c p e =
    let w = at_callback s.world callback.Dispatch 0 c in
    one_after_other (record { state = after_callback s.policy e; notes = e.outside.notes; calls = calls_of p callback.Dispatch (given s c) s.maps w })
    (ejected_for (cause_of callback.Dispatch e) (after_callback s.policy e))

acting_is : (s : State) (c : ℕ) → Rests s c → acting s callback.Dispatch ≡ program_of s.policy callback.Dispatch
acting_is s c h = ap (λ o. unless_ejected o (program_of s.policy callback.Dispatch)) h.force

ends_so : (s : State) (c : ℕ) → Rests s c → call_ending (program_of s.policy callback.Dispatch) callback.Dispatch (given s c) s.maps (at_callback s.world callback.Dispatch 0 c) ≡ left_with s.maps (at_callback s.world callback.Dispatch 0 c)
ends_so s c h = ends_in_vain (program_of s.policy callback.Dispatch) (given s c) s.maps (at_callback s.world callback.Dispatch 0 c) refl (rests_called s c h).vain

one_call : (s : State) (c : ℕ) → Rests s c → call_back s callback.Dispatch (given s c) 0 c ≡ asked s c
unfolding call_back
one_call s c h =
    ap (λ p. ended_with s c p (call_ending p callback.Dispatch (given s c) s.maps (at_callback s.world callback.Dispatch 0 c))) (acting_is s c h)
    ∙ ap (λ e. ended_with s c (program_of s.policy callback.Dispatch) e) (ends_so s c h)
    ∙ then_stays (asked s c)

no_notes : (s : State) (c : ℕ) → Rests s c → noted_by s callback.Dispatch (given s c) 0 c ≡ []
unfolding noted_by
no_notes s c h =
    ap (λ p. (call_ending p callback.Dispatch (given s c) s.maps (at_callback s.world callback.Dispatch 0 c)).outside.notes) (acting_is s c h)
    ∙ ap (λ (e : Ending WorldState). e.outside.notes) (ends_so s c h)

moved_already : (s : State) → moved_as s.world.call.has_moved s ≡ s
moved_already s = go (is_ejected s)
  where
    go : (b : Bool) → (if b then s else with_world s (record s.world { call = record s.world.call { has_moved = s.world.call.has_moved } })) ≡ s
    go true = refl
    go false = refl

-- where nothing was noted no task left custody
nobody_left : (s : State) (c : ℕ) → tells_left s c [] ≡ stays s
unfolding tells_left
nobody_left s c = go (hears_dequeue s)
  where
    go : (b : Bool) → (if b then record (stays s) { state = moved_as s.world.call.has_moved s } else stays s) ≡ stays s
    go true = ap (λ v. stays v) (moved_already s)
    go false = refl

dispatch_rests : (s : State) (c : ℕ) → Rests s c → dispatch_called s c None ≡ asked s c
unfolding dispatch_called
dispatch_rests s c h =
    ap (λ r. one_after_other r (tells_left r.state c (noted_by s callback.Dispatch (given s c) 0 c))) (one_call s c h)
    ∙ ap (λ ns. one_after_other (asked s c) (tells_left (called s c) c ns)) (no_notes s c h)
    ∙ ap (λ r. one_after_other (asked s c) r) (nobody_left (called s c) c)
    ∙ then_stays (asked s c)

no_dispatch : (s : State) (c : ℕ) → Rests s c → after_dispatch s c None ≡ asked s c
unfolding after_dispatch supply_unless_kept
no_dispatch s c h =
    ap (λ r. one_after_other r (supply r.state c)) (dispatch_rests s c h)
    ∙ ap (λ r. one_after_other (asked s c) r) (supply_nobody (called s c) c h.free h.nobody)
    ∙ then_stays (asked s c)

no_tries : (s : State) (c : ℕ) → Rests s c → tries 32 s c None ≡ asked s c
no_tries s c h =
    tries_last 32 c s None (omega arith) (ap (λ r. asks_again r.state c None) (no_dispatch s c h) ∙ and_false (local_len s.world c == 0))
    ∙ no_dispatch s c h

conclude_rests : (s : State) (c : ℕ) → Rests s c → conclude s c None false ≡ stays s
unfolding conclude keep_or_pick pick_or_rest rest
conclude_rests s c h =
    ap (λ b. if b then builtin_cycle s c None false else pick_or_rest s c None false) (ap is_some h.force)
    ∙ ap (λ n. if not (n == 0) then pick s c None false else rest s c None false) h.empty

-- dispatch moved nothing, and so isn't asked in vain
not_in_vain : (s : State) (c : ℕ) → give_up (called s c) c None ≡ called s c
unfolding give_up
not_in_vain s c =
    ap (λ b. if is_by_linux s && b then kicked (called s c) c else called s c) (and_false (local_len s.world c == 0))
    ∙ ap (λ b. if b then kicked (called s c) c else called s c) (and_false (is_by_linux s))

no_ask : (s : State) (c : ℕ) → Rests s c → ask s c None false ≡ asked s c
unfolding ask
no_ask s c h =
    ap (λ d. one_after_other d (conclude (give_up d.state c None) c None false)) (no_tries s c h)
    ∙ ap (λ v. one_after_other (asked s c) (conclude v c None false)) (not_in_vain s c)
    ∙ ap (λ r. one_after_other (asked s c) r) (conclude_rests (called s c) c (rests_called s c h))
    ∙ then_stays (asked s c)

no_seek : (s : State) (c : ℕ) → Rests s c → seek s c None false ≡ asked s c
unfolding seek
no_seek s c h =
    ap (λ f. one_after_other f (if has_local f.state c then pick f.state c None false else ask f.state c None false)) (supply_nobody s c h.free h.nobody)
    ∙ ap (λ n. one_after_other (stays s) (if not (n == 0) then pick s c None false else ask s c None false)) h.empty
    ∙ ap (λ r. one_after_other (stays s) r) (no_ask s c h)

none_is : {A : Type 0} (o : Option A) → is_none o ≡ true → o ≡ None
none_is None e = refl
none_is (Some x) e = absurd (cc)

not_some : {A : Type 0} (o : Option A) → not (is_some o) ≡ true → o ≡ None
not_some None e = refl
not_some (Some x) e = absurd (cc)

is_false : (b : Bool) → not b ≡ true → b ≡ false
is_false true e = absurd (cc)
is_false false e = refl

-- as a cycle begins they are as they were
begins_alike : (w : WorldState) (c : ℕ) → LooksAlike w (with_cycling w (Some c))
begins_alike w c = keeps_if (LooksAlike w) (world.is_by_linux w) (cycling_by_linux w (Some c)) _ by_linux (record { queues = refl; tree = refl; rules = refl; ejected = refl })
  where
    switched : LooksAlike w (with_switch w c)
    switched = keeps_if (LooksAlike w) (world.is_by_linux w) _ w (record { queues = refl; tree = refl; rules = refl; ejected = refl }) (record { queues = refl; tree = refl; rules = refl; ejected = refl })

    by_linux : LooksAlike w (cycling_by_linux w (Some c))
    by_linux = record { queues = switched.queues; tree = switched.tree; rules = switched.rules; ejected = switched.ejected }

-- a cycle on a processor that stays idle rests as it begins
begins_at_rest : (s : State) (c : ℕ) → stays_idle s c ≡ true → Rests (cycling s (Some c)) c
unfolding stays_idle
begins_at_rest s c e =
    let begun = cycling s (Some c) in
    let first = and_parts (not (is_ejected s)) _ e in
    let second = and_parts (not (has_quota s.world.tree.groups)) _ first.1 in
    let third = and_parts (local_len s.world c == 0) _ second.1 in
    let fourth = and_parts (is_none (next_for s.world global c)) _ third.1 in
    let alike = begins_alike s.world c in
    record {
      force = alike.ejected ∙ not_some s.world.ejected first.0;
      free = ap (λ (t : Hierarchy). has_quota t.groups) alike.tree ∙ is_false (has_quota s.world.tree.groups) second.0;
      empty = ap (λ (q : QueueState). len_of q (local_on c)) alike.queues ∙ eqb-true (local_len s.world c) 0 third.0;
      nobody = next_alike s.world begun.world global c alike ∙ none_is (next_for s.world global c) fourth.0;
      vain = vain_alike s.world begun.world c (asked_in (program_of s.policy callback.Dispatch)) alike ∙ fourth.1;
    }

-- where the processor stays idle, a cycle comes to nothing
pub idle_cycle : (s : State) (c : ℕ) → stays_idle s c ≡ true → cycle s c None false ≡ idles s c
unfolding cycle look idles concluded falls_idle
idle_cycle s c e =
    let begun = cycling s (Some c) in
    let h = begins_at_rest s c e in
    let nothing : look begun c None false ≡ asked begun c =
    ap (λ b. if b then builtin_cycle begun c None false else seek begun c None false) (ap is_some h.force) ∙ no_seek begun c h in
    ap (λ (r : Stepped). one_after_other r (stays (cycling r.state None))) nothing
    ∙ then_stays (record (asked begun c) { state = cycling (called begun c) None })

-- ---- what is told

-- a call in vain is answered
answered_in_vain : (p : VerifiedProgram) (a : Args) (maps : Maps) (w : WorldState) → w.call.callback ≡ callback.Dispatch → in_vain w w.call.cpu (vain_queues p.code) ≡ true
    → IsAnswered (record { callback = callback.Dispatch; program = p; arguments = a; maps = maps; world = w })
answered_in_vain p a maps w now vain =
    let r = ran_in_vain p (vain_queues p.code) a maps w refl now vain in
    record { answer = 0; steps = r.steps; maps = maps; world = w; run = r.runs; in_bound = r.in_bound }

-- the calls of a cycle that comes to nothing are answered
pub idles_answered : (s : State) (c : ℕ) → stays_idle s c ≡ true → AreAnswered (idles s c).calls
unfolding idles
idles_answered s c e = go (program_of s.policy callback.Dispatch) (rests_called begun c (begins_at_rest s c e)).vain
  where
    begun : State
    begun = cycling s (Some c)

    w : WorldState
    w = at_callback begun.world callback.Dispatch 0 c

    go : (o : Option VerifiedProgram) → in_vain w c (asked_in o) ≡ true → AreAnswered (calls_of o callback.Dispatch (given begun c) s.maps w)
    go None vain = tt
    go (Some p) vain = (answered_in_vain p (given begun c) s.maps w refl vain, tt)

-- a hearer that may be left as it is need not be told of them
heard_nothing : {T : Type 0} (hears : T → CallMade → T → Type 0) (t : T) (o : Option VerifiedProgram) (a : Args) (maps : Maps) (w : WorldState)
    → ((p : VerifiedProgram) → o ≡ Some p → (x : CallMade) → hears t x t) → AreAnswered (calls_of o callback.Dispatch a maps w) → Hears hears t (calls_of o callback.Dispatch a maps w) t
heard_nothing hears t None a maps w deaf all = refl
heard_nothing hears t (Some p) a maps w deaf all = (t, all.0, deaf p refl _, refl)

pub idles_unheard : {T : Type 0} (hears : T → CallMade → T → Type 0) (t : T) (s : State) (c : ℕ) → stays_idle s c ≡ true → Untold hears t s → Hears hears t (idles s c).calls t
unfolding idles
idles_unheard hears t s c e deaf =
    heard_nothing hears t (program_of s.policy callback.Dispatch) (given (cycling s (Some c)) c) s.maps (at_callback (cycling s (Some c)).world callback.Dispatch 0 c) deaf (idles_answered s c e)

-- so it goes through such a cycle as it is
pub idles_go : {S N T : Type 0} (noted : S → N) (takes : N → Note → N → Type 0) (told : S → T) (hears : T → CallMade → T → Type 0) (old new : State) (hearer : S) (c : ℕ)
    → stays_idle old c ≡ true → Untold hears (told hearer) old → new ≡ (idles old c).state → new.world.queues.pushes ≡ old.world.queues.pushes → Goes noted takes told hears 0 (idles old c) old hearer new hearer
unfolding idles
idles_go noted takes told hears old new hearer c e deaf state few = record {
  state = state;
  notes = refl;
  few = omega (arith, few);
  calls = idles_unheard hears (told hearer) old c e deaf;
}

-- a hearer that does not heed calls need not be told, and none need where there is no dispatch
pub untold_calls : {T : Type 0} (hears : T → CallMade → T → Type 0) (t : T) (s : State) → ((x : CallMade) → hears t x t) → Untold hears t s
untold_calls hears t s deaf = λ p e x. deaf x

pub untold_none : {T : Type 0} (hears : T → CallMade → T → Type 0) (t : T) (s : State) → is_some (program_of s.policy callback.Dispatch) ≡ false → Untold hears t s
untold_none hears t s none = λ p e. absurd (no_program (program_of s.policy callback.Dispatch) p e none)
  where
    no_program : (o : Option VerifiedProgram) (p : VerifiedProgram) → o ≡ Some p → is_some o ≡ false → ⊥
    no_program None p e none = cc
    no_program (Some q) p e none = cc
