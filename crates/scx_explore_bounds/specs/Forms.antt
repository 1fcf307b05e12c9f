-- Forms: the parts of a state that are kept under a policy, by what its programs do.
use Rattle.std.specs.Prelude.{◌≡◌, ℕ, nat_lt, nat_le, Bool, true, false, not, ◌&&◌, ◌||◌, List, [], ◌∷◌, length, Option, Some, None, is_none, Ok}
use Rattle.scx_isa_semantics.specs.Code.{Code}
use Rattle.scx_isa_semantics.specs.declared.callbacks.Callback.{Callback}
use Rattle.scx_isa_semantics.specs.declared.rules.Rules.{Rules}
use Rattle.scx_isa_semantics.specs.Callbacks.{at, callbacks}
use Rattle.scx_maps.specs.declared.shape.Shape.{Shape}
use Rattle.scx_vm.specs.Programs.{context, by_rules}
use Rattle.scx_load_policies.specs.Policies.{PolicyFile, Programs}
use Rattle.scx_load_policies.specs.Reading.{policy_text}
use Rattle.scx_sched_world.specs.World.{WorldState}
use Rattle.scx_sched.specs.Sim.{SimState}
use Rattle.scx_explore_states.specs.declared.form.Form.{Form}
use Rattle.scx_explore_states.specs.declared.map_words.MapWords.TheVariants.{Whole}
use Rattle.scx_explore_states.specs.Written.{IsSuited, needs_slices}
use Rattle.scx_explore_bounds.specs.declared.uses.Uses.{Uses}
use Rattle.scx_explore_bounds.specs.Uses.{Does}
use Rattle.scx_explore_bounds.specs.declared.bounds.Bounds.{Bounds}
use Rattle.scx_explore_bounds.specs.declared.bounds.Mode.{Mode}
use Rattle.scx_explore_bounds.specs.declared.bounds.Mode.TheVariants.{Events, Milliseconds, Workloads}

-- ---- by what programs do

-- a program can tell the slice of a task that sleeps or is held, before an insert gives it another
-- one: an insert may keep it, or a program loads one before, or may load one of a task that it asks
-- for
abbrev pub tells_idle_slices : Uses → Bool
tells_idle_slices u =
    u.empty_slice || (u.early_slice || (u.slice && (u.task_by_pid || u.other_task)))

-- what is kept under programs that do that, with waits or without: what one of them can tell
abbrev pub form_of : Uses → Bool → Form
form_of u waits = record {
  clock = u.clock;
  pushes = false;
  waits = waits;
  idle_slices = tells_idle_slices u;
  slices = true;
  keys = u.vtime_inserts;
  vtime = u.vtime;
  run_ns = u.run_ns;
  random = u.random;
  names = true;
  weights = u.weight;
  map_words = Whole;
}

-- a program tells tasks apart: loads the number of one or a weight of its own, or asks for one by
-- its number
abbrev pub tells_apart : Uses → Bool
tells_apart u = u.pid || (u.task_by_pid || u.own_weight)

-- a program may load a slice or a run time, whatever it is given and answered
abbrev pub may_load_counts : Uses → Bool
may_load_counts u = (u.slice || u.run_ns) || u.has_count_load

-- That form, where tasks of a group may change places, unless a program tells them apart. They may
-- not either if they are to be told apart where no program may load a slice or a run time.
abbrev pub without_names : Form → Bool → Uses → Form
without_names f apart u =
    record f { names = tells_apart u || (apart && not (may_load_counts u)) }

-- That form, where slices are left out if no program loads one or a run time: a tick then changes
-- nothing that is told but whether a slice has ended. Where tasks are told apart, no program may
-- have a load at such an offset from any memory.
abbrev pub without_slices : Form → Uses → Form
without_slices f u = record f { slices = (u.slice || u.run_ns) || (f.names && u.has_count_load) }

-- ---- machines with few tasks

-- the most tasks that are told apart though no program does so
abbrev pub most_apart : ℕ
most_apart = 4

-- there are no more tasks, and states of that world may leave slices out
abbrev pub has_few_tasks : WorldState → Bool
has_few_tasks w = not (needs_slices w) && nat_le (length w.tasks) most_apart

-- tasks are to be told apart: there are few, and all lists are searched, so that states are audited
abbrev pub are_apart : Bounds → WorldState → Bool
are_apart b w = is_none b.few && has_few_tasks w

-- ---- under a policy

-- what is done where there is no program
abbrev pub no_uses : Uses
no_uses = record {
  clock = false;
  random = false;
  task_by_pid = false;
  other_task = false;
  vtime_inserts = false;
  pid = false;
  weight = false;
  own_weight = false;
  vtime = false;
  run_ns = false;
  slice = false;
  early_slice = false;
  empty_slice = false;
  has_count_load = false;
}

-- the second are the first with what the program of the callback does by these rules, if it has one
abbrev pub DoesAs : Rules → List Shape → Callback → Option Code → Uses → Uses → Type 0
DoesAs r shapes b None u v = v ≡ u
DoesAs r shapes b (Some code) u v = Does u (by_rules r (context b shapes)) code v

-- the second are the first with what the programs of these callbacks do, one after another
abbrev pub DoAll : Rules → List Shape → Programs → List Callback → Uses → Uses → Type 0
DoAll r shapes p [] u v = v ≡ u
DoAll r shapes p (b ∷ bs) u v =
    (w : Uses) × DoesAs r shapes b (at p b) u w × DoAll r shapes p bs w v

-- The form of a state in lists of that mode and depth, where tasks wait so long at most, they are
-- to be told apart or not, and programs do that: in lists of events waits only where one may be too
-- long, and slices only where a program may tell how long one is; and there tasks of a group may
-- change places.
abbrev pub form_within : Mode → ℕ → ℕ → Bool → Uses → Form
form_within Events depth timeout_ms apart u =
    without_slices (without_names (form_of u (nat_lt timeout_ms depth)) apart u) u
form_within Milliseconds depth timeout_ms apart u = form_of u true
form_within Workloads depth timeout_ms apart u = form_of u true

-- what is kept in lists within the bounds, with tasks that are to be told apart or not, under the
-- policy of a file
pub record IsFormIn (file : PolicyFile) (b : Bounds) (apart : Bool) (f : Form) : Type 0 where
  pub uses : Uses
  pub done : DoAll file.rules file.shapes file.programs callbacks no_uses uses
  pub form : f ≡ form_within b.mode b.depth file.timeout_ms apart uses

-- what is kept in lists within the bounds, from a machine in that state, under the policy of a text
pub record IsFormOf (policy : List ℕ) (b : Bounds) (s : SimState) (f : Form) : Type 0 where
  pub file : PolicyFile
  pub read : policy_text policy ≡ Ok file
  pub form : IsFormIn file b (are_apart b s.state.world) f

-- states of a search from that machine are written in this form: the one of the policy, but with
-- slices where the machine needs them, and where maps are large with words of them that suit it
pub record IsFormFrom (policy : List ℕ) (b : Bounds) (s : SimState) (f : Form) : Type 0 where
  pub plain : Form
  pub of_policy : IsFormOf policy b s plain
  pub suited : IsSuited plain s f
