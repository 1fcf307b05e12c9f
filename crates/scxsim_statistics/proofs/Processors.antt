-- What is counted of one processor, as ticks and notes come.
use Rattle.std.proofs.Common.{◌≡◌, ℕ, ◌+◌, ◌<◌, Bool, true, false, not, ◌&&◌, cond, eqb, List, [], ◌∷◌, length, refl, sym, ap, subst, ◌∙◌, arith}
use Rattle.std.specs.Option.{is_some}
use Rattle.std.proofs.lemmas.List.{length-set}
use Rattle.scx_sched_world.specs.declared.notes.Note.{Note}
use Rattle.scx_sched_world.specs.declared.notes.What.{What}
use Rattle.scx_sched_world.specs.declared.notes.What.TheVariants.{Wake, Sleep, Insert, Move, Run, Stop, Idle, Weight, TaskWeight, Stall, Fault, Exit}
use Rattle.scx_sched_world.specs.World.{running}
use Rattle.scx_sched_machine.specs.declared.events.Event.{Event}
use Rattle.scx_sched_machine.specs.declared.events.Event.TheVariants as event
use Rattle.scx_sched.specs.Sim.{SimState, after_event, notes_of}
use Rattle.scxsim_views.specs.Watching.{noted_all, kept_of_all}
use Rattle.scxsim_statistics.specs.declared.tally.CpuFigures.{CpuFigures}
use Rattle.scxsim_views.specs.Lengths.{one_if, at_most_64_bits, up}
use Rattle.scxsim_statistics.specs.Counting.{RunCounts, unused_cpu, cpu_at, with_tick, with_begin, cpus_counted, counts_after_note, counts_after_event}
use Rattle.scxsim_statistics.specs.Figures.{is_tick, busy_in, idle_in}
use Rattle.scxsim_statistics.proofs.Places.{at_changed_by, part_stays}
use Rattle.scxsim_statistics.proofs.Told.{more_if}

-- ---- notes change neither

note_keeps : (what : What) (cpus : List CpuFigures) (c : ℕ) → c < length cpus
    → ((cpu_at (cpus_counted what cpus) c).busy ≡ (cpu_at cpus c).busy) × ((cpu_at (cpus_counted what cpus) c).idle ≡ (cpu_at cpus c).idle)
note_keeps (Run t b) cpus c within = (
  part_stays (λ (x : CpuFigures). x.busy) (with_begin t) cpus b c unused_cpu (λ x. refl) within,
  part_stays (λ (x : CpuFigures). x.idle) (with_begin t) cpus b c unused_cpu (λ x. refl) within,
)
note_keeps (Wake t) cpus c within = (refl, refl)
note_keeps (Sleep t) cpus c within = (refl, refl)
note_keeps (Stop t b) cpus c within = (refl, refl)
note_keeps (Insert t queue) cpus c within = (refl, refl)
note_keeps (Move t b) cpus c within = (refl, refl)
note_keeps (Idle b) cpus c within = (refl, refl)
note_keeps (Weight g x) cpus c within = (refl, refl)
note_keeps (TaskWeight t x) cpus c within = (refl, refl)
note_keeps (Stall t) cpus c within = (refl, refl)
note_keeps (Fault f) cpus c within = (refl, refl)
note_keeps (Exit n) cpus c within = (refl, refl)

length_noted : (what : What) (cpus : List CpuFigures) → length (cpus_counted what cpus) ≡ length cpus
length_noted (Run t b) cpus = length-set cpus b (with_begin t (cpu_at cpus b))
length_noted (Wake t) cpus = refl
length_noted (Sleep t) cpus = refl
length_noted (Stop t b) cpus = refl
length_noted (Insert t queue) cpus = refl
length_noted (Move t b) cpus = refl
length_noted (Idle b) cpus = refl
length_noted (Weight g x) cpus = refl
length_noted (TaskWeight t x) cpus = refl
length_noted (Stall t) cpus = refl
length_noted (Fault f) cpus = refl
length_noted (Exit n) cpus = refl

-- the same of a processor that is there
pub record IsSame (c : ℕ) (k j : RunCounts) : Type 0 where
  pub there : length j.cpus ≡ length k.cpus
  pub busy : (cpu_at j.cpus c).busy ≡ (cpu_at k.cpus c).busy
  pub idle : (cpu_at j.cpus c).idle ≡ (cpu_at k.cpus c).idle

notes_keep : (ns : List Note) (k : RunCounts) (c : ℕ) → c < length k.cpus → IsSame c k (noted_all counts_after_note ns k)
notes_keep [] k c within = record { there = refl; busy = refl; idle = refl }
notes_keep (n ∷ ns) k c within =
    let one = note_keeps n.what k.cpus c within in
    let same = length_noted n.what k.cpus in
    let later = notes_keep ns (counts_after_note n.clock n.what k) c (subst (λ m. c < m) (sym same) within) in
    record { there = later.there ∙ same; busy = later.busy ∙ one.0; idle = later.idle ∙ one.1 }

-- ---- ticks

tick_said : (b busy : Bool) (x : CpuFigures)
    → ((cond b (with_tick busy x) x).busy ≡ cond (b && busy) (up x.busy) x.busy) × ((cond b (with_tick busy x) x).idle ≡ cond (b && not busy) (up x.idle) x.idle)
tick_said true true x = (refl, refl)
tick_said true false x = (refl, refl)
tick_said false busy x = (refl, refl)

-- what an event makes of a processor
pub record IsTicked (c : ℕ) (s : SimState) (e : Event) (k : RunCounts) : Type 0 where
  pub there : length (counts_after_event s e k).cpus ≡ length k.cpus
  pub busy : (cpu_at (counts_after_event s e k).cpus c).busy ≡ cond (is_tick c e && is_some (running s.state.world c)) (up (cpu_at k.cpus c).busy) (cpu_at k.cpus c).busy
  pub idle : (cpu_at (counts_after_event s e k).cpus c).idle ≡ cond (is_tick c e && not (is_some (running s.state.world c))) (up (cpu_at k.cpus c).idle) (cpu_at k.cpus c).idle

untouched : (c : ℕ) (s : SimState) (e : Event) (k : RunCounts) → counts_after_event s e k ≡ k → is_tick c e ≡ false → IsTicked c s e k
untouched c s e k same neither = record {
  there = ap (λ (j : RunCounts). length j.cpus) same;
  busy = rw neither (ap (λ (j : RunCounts). (cpu_at j.cpus c).busy) same);
  idle = rw neither (ap (λ (j : RunCounts). (cpu_at j.cpus c).idle) same);
}

is_ticked : (c : ℕ) (s : SimState) (e : Event) (k : RunCounts) → c < length k.cpus → IsTicked c s e k
is_ticked c s (event.Tick b) k within =
    let busy : ℕ → Bool = λ i. is_some (running s.state.world i) in
    let at = at_changed_by (λ i x. with_tick (busy i) x) k.cpus b c unused_cpu within in
    let said = tick_said (eqb c b) (busy c) (cpu_at k.cpus c) in
    record {
      there = length-set k.cpus b (with_tick (busy b) (cpu_at k.cpus b));
      busy = ap (λ (x : CpuFigures). x.busy) at ∙ said.0;
      idle = ap (λ (x : CpuFigures). x.idle) at ∙ said.1;
    }
is_ticked c s (event.Wake t) k within = untouched c s (event.Wake t) k refl refl
is_ticked c s (event.Sleep t) k within = record { there = refl; busy = refl; idle = refl }
is_ticked c s event.Clock k within = untouched c s event.Clock k refl refl
is_ticked c s (event.SetWeight g x) k within = untouched c s (event.SetWeight g x) k refl refl
is_ticked c s (event.SetTaskWeight t x) k within = untouched c s (event.SetTaskWeight t x) k refl refl

-- ---- a run

added : (a m n : ℕ) → (a + m) + n ≡ a + (m + n)
added a m n = omega arith

none : (a : ℕ) → a ≡ a + 0
none a = omega arith

-- a processor's busy and idle ticks in a run are added to those that were counted before
pub cpu_told : (c : ℕ) (es : List Event) (s : SimState) (k : RunCounts) (a b : ℕ) → c < length k.cpus
    → (cpu_at k.cpus c).busy ≡ at_most_64_bits a → (cpu_at k.cpus c).idle ≡ at_most_64_bits b
    → ((cpu_at (kept_of_all counts_after_event counts_after_note s es k).cpus c).busy ≡ at_most_64_bits (a + busy_in c s es)) × ((cpu_at (kept_of_all counts_after_event counts_after_note s es k).cpus c).idle ≡ at_most_64_bits (b + idle_in c s es))
cpu_told c [] s k a b within busy idle = (busy ∙ ap at_most_64_bits (none a), idle ∙ ap at_most_64_bits (none b))
cpu_told c (e ∷ es) s k a b within busy idle =
    let is_busy = is_some (running s.state.world c) in
    let tick = is_ticked c s e k within in
    let at_event = counts_after_event s e k in
    let notes = notes_keep (notes_of s e) at_event c (subst (λ m. c < m) (sym tick.there) within) in
    let behind = noted_all counts_after_note (notes_of s e) at_event in
    let more = more_if (is_tick c e && is_busy) (cpu_at k.cpus c).busy (cpu_at at_event.cpus c).busy a busy tick.busy in
    let more_idle = more_if (is_tick c e && not is_busy) (cpu_at k.cpus c).idle (cpu_at at_event.cpus c).idle b idle tick.idle in
    let later = cpu_told c es (after_event s e) behind (a + one_if (is_tick c e && is_busy)) (b + one_if (is_tick c e && not is_busy))
    (subst (λ m. c < m) (sym (notes.there ∙ tick.there)) within) (notes.busy ∙ more) (notes.idle ∙ more_idle) in (
      later.0 ∙ ap at_most_64_bits (added a (one_if (is_tick c e && is_busy)) (busy_in c (after_event s e) es)),
      later.1 ∙ ap at_most_64_bits (added b (one_if (is_tick c e && not is_busy)) (idle_in c (after_event s e) es)),
    )

-- as many processors as before
pub cpus_stay : (es : List Event) (s : SimState) (k : RunCounts) → length (kept_of_all counts_after_event counts_after_note s es k).cpus ≡ length k.cpus
cpus_stay [] s k = refl
cpus_stay (e ∷ es) s k = cpus_stay es (after_event s e) (noted_all counts_after_note (notes_of s e) (counts_after_event s e k)) ∙ in_notes (notes_of s e) (counts_after_event s e k) ∙ at_event e
  where
    in_notes : (ns : List Note) (j : RunCounts) → length (noted_all counts_after_note ns j).cpus ≡ length j.cpus
    in_notes [] j = refl
    in_notes (n ∷ ns) j = in_notes ns (counts_after_note n.clock n.what j) ∙ length_noted n.what j.cpus

    at_event : (f : Event) → length (counts_after_event s f k).cpus ≡ length k.cpus
    at_event (event.Tick b) = length-set k.cpus b (with_tick (is_some (running s.state.world b)) (cpu_at k.cpus b))
    at_event (event.Wake t) = refl
    at_event (event.Sleep t) = refl
    at_event event.Clock = refl
    at_event (event.SetWeight g x) = refl
    at_event (event.SetTaskWeight t x) = refl
