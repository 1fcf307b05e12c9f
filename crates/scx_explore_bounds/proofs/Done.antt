-- The uses of programs tell what none of them does in any run.
use Rattle.std.proofs.Common.{◌≡◌, ◌||◌, Bool, true, false, List, [], ◌∷◌, Option, Some, None, refl, sym, subst}
use Rattle.scx_isa_semantics.specs.declared.callbacks.Callback.{Callback}
use Rattle.std.specs.List.{AllByRecursion}
use Rattle.scx_isa_semantics.specs.declared.host_tables.Field.TheVariants as field
use Rattle.scx_isa_semantics.specs.declared.host_tables.Helper.TheVariants as helper
use Rattle.scx_isa_semantics.specs.declared.rules.Rules.{Rules}
use Rattle.scx_isa_semantics.specs.Callbacks.{at, callbacks}
use Rattle.scx_isa_semantics.specs.Code.{Code}
use Rattle.scx_isa.specs.Spelling.{IsProgram}
use Rattle.scx_maps.specs.declared.shape.Shape.{Shape}
use Rattle.scx_vm.specs.declared.context.Context.{Context}
use Rattle.scx_vm.specs.Programs.{context, by_rules}
use Rattle.scx_verify.specs.Typing.{IsTyped}
use Rattle.scx_verify_explain.specs.declared.listing.Listing.{Listing}
use Rattle.scx_verify_explain.specs.Listings.{IsListing}
use Rattle.scx_load_policies.specs.Policies.{Programs}
use Rattle.scx_explore_states.specs.Asking.{is_early}
use Rattle.scx_explore_bounds.specs.declared.uses.Use.TheVariants as such
use Rattle.scx_explore_bounds.specs.declared.uses.Uses.{Uses}
use Rattle.scx_explore_bounds.specs.Forms.{no_uses, DoesAs, DoAll}
use Rattle.scx_explore_bounds.specs.Told.{DoesNoMore, IfDoesNoMore, UsesTellRuns}
use Rattle.scx_explore_bounds.specs.Uses.{asks_for_other_task, has, has_count_load, with_listing}
use Rattle.scx_explore_bounds.proofs.Told.{listings_tell_loads, listings_tell_inserts, listings_tell_calls, listings_tell_any_loads}

pub left_none : (a b : Bool) → (a || b) ≡ false → a ≡ false
left_none false b e = refl
left_none true b e = e

pub right_none : (a b : Bool) → (a || b) ≡ false → b ≡ false
right_none false b e = e
right_none true b e = absurd (cc)

none_of : (a b : Bool) → (a || b) ≡ false → (a ≡ false) × (b ≡ false)
none_of a b e = (left_none a b e, right_none a b e)

not_both : (b : Bool) → b ≡ true → b ≡ false → ⊥
not_both b x y = absurd (cc)

-- a load that isn't an early one isn't one, in a callback whose loads are early
early_none : (c : Callback) (b : Bool) → is_early c true ≡ true → is_early c b ≡ false → b ≡ false
early_none c false early none = refl
early_none c true early none = absurd (not_both (is_early c true) early none)

-- ---- one program

-- what programs didn't do before, and none of them does after
record IsMore (u v : Uses) : Type 0 where
  clock : v.clock ≡ false → u.clock ≡ false
  random : v.random ≡ false → u.random ≡ false
  task_by_pid : v.task_by_pid ≡ false → u.task_by_pid ≡ false
  other_task : v.other_task ≡ false → u.other_task ≡ false
  vtime_inserts : v.vtime_inserts ≡ false → u.vtime_inserts ≡ false
  has_count_load :
      v.has_count_load ≡ false
      → u.has_count_load ≡ false
  pid : v.pid ≡ false → u.pid ≡ false
  weight : v.weight ≡ false → u.weight ≡ false
  vtime : v.vtime ≡ false → u.vtime ≡ false
  run_ns : v.run_ns ≡ false → u.run_ns ≡ false
  slice : v.slice ≡ false → u.slice ≡ false
  early_slice : v.early_slice ≡ false → u.early_slice ≡ false
  empty_slice : v.empty_slice ≡ false → u.empty_slice ≡ false

no_more : (u v : Uses) (c : Context) (code : Code) → IsMore u v → DoesNoMore u c code → DoesNoMore v c code
no_more u v c code more d = record {
  clock = λ e. d.clock (more.clock e);
  random = λ e. d.random (more.random e);
  task_by_pid = λ e. d.task_by_pid (more.task_by_pid e);
  other_task = λ e. d.other_task (more.other_task e);
  vtime_inserts = λ e. d.vtime_inserts (more.vtime_inserts e);
  pid = λ e. d.pid (more.pid e);
  weight = λ e. d.weight (more.weight e);
  vtime = λ e. d.vtime (more.vtime e);
  run_ns = λ e. d.run_ns (more.run_ns e);
  slice = λ e. d.slice (more.slice e);
  early_slice = λ e. d.early_slice (more.early_slice e);
  empty_slice = λ e. d.empty_slice (more.empty_slice e);
  has_count_load = λ e. d.has_count_load (more.has_count_load e);
}

module _ (u : Uses) (c : Context) (l : Listing) where
  abbrev after : Uses
  after = with_listing u c.callback c.rules l

  more_after : IsMore u after
  more_after = record {
    clock = left_none u.clock (has l (such.Call helper.KtimeGetNs));
    random = left_none u.random (has l (such.Call helper.PrandomU32));
    task_by_pid = left_none u.task_by_pid (has l (such.Call helper.TaskByPid));
    other_task = left_none u.other_task (asks_for_other_task l);
    vtime_inserts = left_none u.vtime_inserts (has l (such.Call helper.DsqInsertVtime));
    pid = left_none u.pid (has l (such.Load field.Pid));
    weight = left_none u.weight (has l (such.Load field.Weight));
    vtime = left_none u.vtime (has l (such.Load field.DsqVtime));
    run_ns = left_none u.run_ns (has l (such.Load field.RunNs));
    slice = left_none u.slice (has l (such.Load field.Slice));
    early_slice = left_none u.early_slice (is_early c.callback (has l (such.Load field.Slice)));
    empty_slice = left_none u.empty_slice (has l such.EmptySlice);
    has_count_load = left_none u.has_count_load (has_count_load l);
  }

  -- what its listing shows
  shown_after : (code : Code) → IsListing c code l → IsProgram code → IsTyped c code → DoesNoMore after c code
  shown_after code listing program typed = record {
    clock = λ e. listings_tell_calls helper.KtimeGetNs c code l listing (right_none u.clock (has l (such.Call helper.KtimeGetNs)) e);
    random = λ e. listings_tell_calls helper.PrandomU32 c code l listing (right_none u.random (has l (such.Call helper.PrandomU32)) e);
    task_by_pid = λ e. listings_tell_calls helper.TaskByPid c code l listing (right_none u.task_by_pid (has l (such.Call helper.TaskByPid)) e);
    other_task = λ e.
        let none = none_of (has l (such.Call helper.CpuCurr)) (has l (such.Call helper.DsqPeek)) (right_none u.other_task (asks_for_other_task l) e) in
        (listings_tell_calls helper.CpuCurr c code l listing none.0, listings_tell_calls helper.DsqPeek c code l listing none.1);
    vtime_inserts = λ e. listings_tell_calls helper.DsqInsertVtime c code l listing (right_none u.vtime_inserts (has l (such.Call helper.DsqInsertVtime)) e);
    pid = λ e. listings_tell_loads c code l field.Pid program typed listing (right_none u.pid (has l (such.Load field.Pid)) e);
    weight = λ e. listings_tell_loads c code l field.Weight program typed listing (right_none u.weight (has l (such.Load field.Weight)) e);
    vtime = λ e. listings_tell_loads c code l field.DsqVtime program typed listing (right_none u.vtime (has l (such.Load field.DsqVtime)) e);
    run_ns = λ e. listings_tell_loads c code l field.RunNs program typed listing (right_none u.run_ns (has l (such.Load field.RunNs)) e);
    slice = λ e. listings_tell_loads c code l field.Slice program typed listing (right_none u.slice (has l (such.Load field.Slice)) e);
    early_slice = λ e early. listings_tell_loads c code l field.Slice program typed listing (early_none c.callback (has l (such.Load field.Slice)) early (right_none u.early_slice (is_early c.callback (has l (such.Load field.Slice))) e));
    empty_slice = λ e. listings_tell_inserts c code l program typed listing (right_none u.empty_slice (has l such.EmptySlice) e);
    has_count_load = λ e.
        let none = none_of (has l (such.AnyLoad field.Slice)) (has l (such.AnyLoad field.RunNs)) (right_none u.has_count_load (has_count_load l) e) in
        (listings_tell_any_loads field.Slice c code l listing none.0, listings_tell_any_loads field.RunNs c code l listing none.1);
  }

-- ---- programs, one after another

module _ (r : Rules) (shapes : List Shape) (p : Programs) where
  abbrev here : Callback → Context
  here b = by_rules r (context b shapes)

  same_uses : (u : Uses) → IsMore u u
  same_uses u = record {
    clock = λ e. e;
    random = λ e. e;
    task_by_pid = λ e. e;
    other_task = λ e. e;
    vtime_inserts = λ e. e;
    pid = λ e. e;
    weight = λ e. e;
    vtime = λ e. e;
    run_ns = λ e. e;
    slice = λ e. e;
    early_slice = λ e. e;
    empty_slice = λ e. e;
    has_count_load = λ e. e;
  }

  both_more : (u v w : Uses) → IsMore u v → IsMore v w → IsMore u w
  both_more u v w x y = record {
    clock = λ e. x.clock (y.clock e);
    random = λ e. x.random (y.random e);
    task_by_pid = λ e. x.task_by_pid (y.task_by_pid e);
    other_task = λ e. x.other_task (y.other_task e);
    vtime_inserts = λ e. x.vtime_inserts (y.vtime_inserts e);
    pid = λ e. x.pid (y.pid e);
    weight = λ e. x.weight (y.weight e);
    vtime = λ e. x.vtime (y.vtime e);
    run_ns = λ e. x.run_ns (y.run_ns e);
    slice = λ e. x.slice (y.slice e);
    early_slice = λ e. x.early_slice (y.early_slice e);
    empty_slice = λ e. x.empty_slice (y.empty_slice e);
    has_count_load = λ e. x.has_count_load (y.has_count_load e);
  }

  more_one : (b : Callback) (o : Option Code) (u v : Uses) → DoesAs r shapes b o u v → IsMore u v
  more_one b None u v does = subst (IsMore u) (sym does) (same_uses u)
  more_one b (Some code) u v does = subst (IsMore u) (sym does.uses) (more_after u (here b) does.listing)

  more_all : (bs : List Callback) (u v : Uses) → DoAll r shapes p bs u v → IsMore u v
  more_all [] u v do_all = subst (IsMore u) (sym do_all) (same_uses u)
  more_all (b ∷ bs) u v do_all = both_more u do_all.0 v (more_one b (at p b) u do_all.0 do_all.1) (more_all bs do_all.0 v do_all.2)

  shown_one : (b : Callback) (o : Option Code) (u v w : Uses) → DoesAs r shapes b o u v → IsMore v w → IfDoesNoMore w (here b) o
  shown_one b None u v w does more = tt
  shown_one b (Some code) u v w does more = λ typed.
      no_more v w (here b) code more (subst (λ (x : Uses). DoesNoMore x (here b) code) (sym does.uses) (shown_after u (here b) does.listing code does.known does.program typed))

  -- of each of these callbacks
  shown_all : (bs : List Callback) (u v : Uses) → DoAll r shapes p bs u v → AllByRecursion (λ b. IfDoesNoMore v (here b) (at p b)) bs
  shown_all [] u v do_all = tt
  shown_all (b ∷ bs) u v do_all = (shown_one b (at p b) u do_all.0 v do_all.1 (more_all bs do_all.0 v do_all.2), shown_all bs do_all.0 v do_all.2)

-- the law
pub uses_tell_runs : UsesTellRuns
uses_tell_runs r shapes p u done = shown_all r shapes p callbacks no_uses u done
