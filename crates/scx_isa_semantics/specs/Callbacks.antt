-- The callbacks of a policy, in order and by name, and tables with one value for each: the value
-- of a callback, a test of all values, and a function applied to each up to its first failure.
use Rattle.std.specs.Prelude.{◌≡◌, ℕ, Bool, true, false, ⊤, List, [], ◌∷◌, Option, Some, None, Result, Ok, Err, MatchBool, codes, take}
use denote.Ref.{Bor}
use denote.Param.Members.{Shared}
use Rattle.std.specs.Fn.{FnReturns}
use Rattle.scx_isa_semantics.specs.declared.callbacks.Callback.{Callback}
use Rattle.scx_isa_semantics.specs.declared.callbacks.Callback.TheVariants as callback
use Rattle.scx_isa_semantics.specs.declared.per_callback.PerCallback.{PerCallback}
use Rattle.scx_isa_semantics.specs.declared.rules.Rules.{Rules}
use Rattle.scx_isa_semantics.specs.declared.rules.Rules.TheVariants as rules

-- the callbacks of a policy, in the order in which its programs are read and verified
abbrev pub callbacks : List Callback
callbacks =
    callback.Init ∷ callback.Enable ∷ callback.SelectCpu ∷ callback.Enqueue ∷ callback.Dispatch
    ∷ callback.Running ∷ callback.Stopping ∷ callback.Tick ∷ callback.Dequeue ∷ callback.Runnable
    ∷ callback.Quiescent ∷ callback.UpdateIdle ∷ callback.SetWeight ∷ callback.Timer ∷ []

-- the names of callbacks, as a policy file and a refusal spell them
abbrev pub callback_name : Callback → List ℕ
callback_name callback.Plain = codes "plain"
callback_name callback.Init = codes "init"
callback_name callback.Enable = codes "enable"
callback_name callback.SelectCpu = codes "select_cpu"
callback_name callback.Enqueue = codes "enqueue"
callback_name callback.Dispatch = codes "dispatch"
callback_name callback.Running = codes "running"
callback_name callback.Stopping = codes "stopping"
callback_name callback.Tick = codes "tick"
callback_name callback.Dequeue = codes "dequeue"
callback_name callback.Runnable = codes "runnable"
callback_name callback.Quiescent = codes "quiescent"
callback_name callback.UpdateIdle = codes "update_idle"
callback_name callback.SetWeight = codes "set_weight"
callback_name callback.Timer = codes "timer"

-- true if a policy by these rules may have the callback
abbrev pub is_known_callback : Callback → Rules → Bool
is_known_callback callback.Tick rules.Plain = false
is_known_callback callback.Dequeue rules.Plain = false
is_known_callback callback.Runnable rules.Plain = false
is_known_callback callback.Quiescent rules.Plain = false
is_known_callback callback.UpdateIdle rules.Plain = false
is_known_callback callback.SetWeight rules.Plain = false
is_known_callback callback.Timer rules.Plain = false
is_known_callback c r = true

-- how many come before this one
abbrev pub place : Callback → ℕ
place callback.Plain = 0
place callback.Init = 0
place callback.Enable = 1
place callback.SelectCpu = 2
place callback.Enqueue = 3
place callback.Dispatch = 4
place callback.Running = 5
place callback.Stopping = 6
place callback.Tick = 7
place callback.Dequeue = 8
place callback.Runnable = 9
place callback.Quiescent = 10
place callback.UpdateIdle = 11
place callback.SetWeight = 12
place callback.Timer = 13

-- those before this one
abbrev pub earlier : Callback → List Callback
earlier c = take (place c) callbacks

-- the value of one callback, if there is one; a plain program has none
abbrev pub at : {T : Type 0} → PerCallback (Option T) → Callback → Option T
at p callback.Plain = None
at p callback.Init = p.init
at p callback.Enable = p.enable
at p callback.SelectCpu = p.select_cpu
at p callback.Enqueue = p.enqueue
at p callback.Dispatch = p.dispatch
at p callback.Running = p.running
at p callback.Stopping = p.stopping
at p callback.Tick = p.tick
at p callback.Dequeue = p.dequeue
at p callback.Runnable = p.runnable
at p callback.Quiescent = p.quiescent
at p callback.UpdateIdle = p.update_idle
at p callback.SetWeight = p.set_weight
at p callback.Timer = p.timer

-- all values, with that of one callback set
abbrev pub with_at : {T : Type 0} → PerCallback T → Callback → T → PerCallback T
with_at p callback.Plain x = p
with_at p callback.Init x = record p { init = x }
with_at p callback.Enable x = record p { enable = x }
with_at p callback.SelectCpu x = record p { select_cpu = x }
with_at p callback.Enqueue x = record p { enqueue = x }
with_at p callback.Dispatch x = record p { dispatch = x }
with_at p callback.Running x = record p { running = x }
with_at p callback.Stopping x = record p { stopping = x }
with_at p callback.Tick x = record p { tick = x }
with_at p callback.Dequeue x = record p { dequeue = x }
with_at p callback.Runnable x = record p { runnable = x }
with_at p callback.Quiescent x = record p { quiescent = x }
with_at p callback.UpdateIdle x = record p { update_idle = x }
with_at p callback.SetWeight x = record p { set_weight = x }
with_at p callback.Timer x = record p { timer = x }

-- no value for any callback
abbrev pub none : {T : Type 0} → PerCallback (Option T)
none = record {
  init = None;
  enable = None;
  select_cpu = None;
  enqueue = None;
  dispatch = None;
  running = None;
  stopping = None;
  tick = None;
  dequeue = None;
  runnable = None;
  quiescent = None;
  update_idle = None;
  set_weight = None;
  timer = None;
}

-- ---- tests

module _ {F T : Type 0} (g : Shared F (Callback × (Bor T × Unit {0})) Bool) (f : F) where
  -- the answer of a test for a value
  pub record Says (b : Callback) (x : T) (r : Bool) : Type 0 where
    pub shown : Bor T
    pub shows : shown.now ≡ x
    pub says : FnReturns g f (b, (shown, tt)) r

  -- the answer of a test for a value that may be absent, which passes then
  abbrev pub Answer : Callback → Option T → Bool → Type 0
  Answer b None r = r ≡ true
  Answer b (Some x) r = Says b x r

  -- true if each value that is there passes
  abbrev pub Answers : PerCallback (Option T) → Bool → Type 0
  Answers p r =
      MatchBool r ((b : Callback) → Answer b (at p b) true)
      ((b : Callback) × Answer b (at p b) false)

-- ---- what is made of each

module _ {F T U E : Type 0} (g : Shared F (Callback × (T × Unit {0})) (Result U E)) (f : F) where
  -- the result of the function for a value; for none it is none
  abbrev pub Made : Callback → Option T → Option U → Type 0
  Made b None None = ⊤
  Made b None (Some y) = ⊥
  Made b (Some x) None = ⊥
  Made b (Some x) (Some y) = FnReturns g f (b, (x, tt)) (Ok y)

  -- the function makes something of the value of each of these callbacks
  abbrev pub MadeEach : PerCallback (Option T) → List Callback → Type 0
  MadeEach p [] = ⊤
  MadeEach p (b ∷ bs) = ((y : Option U) × Made b (at p b) y) × MadeEach p bs

  -- the function fails at a value
  abbrev pub Failed : Callback → Option T → E → Type 0
  Failed b None e = ⊥
  Failed b (Some x) e = FnReturns g f (b, (x, tt)) (Err e)

  -- it fails at the value of a callback, and not at those before
  pub record FirstFailed (p : PerCallback (Option T)) (e : E) : Type 0 where
    pub callback : Callback
    pub before : MadeEach p (earlier callback)
    pub failed : Failed callback (at p callback) e
