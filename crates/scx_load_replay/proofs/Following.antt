-- What was read, line by line, is a file of events: each line may stand behind those above it.
use Rattle.std.proofs.Common.{◌≡◌, ℕ, suc, ◌+◌, ◌-◌, ◌<◌, ◌≤◌, ◌==◌, ◌&&◌, nat_le, Bool, true, false, if◌then◌else◌, List, [], ◌∷◌, ◌++◌, length, Option, Some, None, Result, Ok, Err, codes, refl, sym, ap, ◌∙◌, subst, arith}
use Rattle.std.specs.Str.Lines.{lines}
use Rattle.std.specs.Str.{bytes_eq}
use Rattle.std.specs.Str.Parse.{digits_value}
use Rattle.std.proofs.lemmas.List.{length-append}
use Rattle.std.proofs.lemmas.Bool.Decides.{nat_tests}
use Rattle.scx_isa_semantics.specs.Results.{◌>>=◌}
use Rattle.scx_isa_semantics.specs.declared.rules.Rules.{Rules}
use Rattle.scx_isa_semantics.specs.declared.rules.Rules.TheVariants.{Plain, Linux}
use Rattle.scx_sched_machine.specs.declared.events.Event.{Event}
use Rattle.scx_sched_machine.specs.declared.events.Event.TheVariants as event
use Rattle.scx_load_workloads.specs.Limit.{is_numeral}
use Rattle.scx_load_workloads.specs.Workload.{WorkloadState, IsWorkload}
use Rattle.scx_load_workloads.specs.Reading.{index_from, index_of}
use Rattle.scx_load_files.specs.declared.event_fault.EventFault.{EventFault}
use Rattle.scx_load_files.specs.declared.event_fault.EventFault.TheVariants as fault
use Rattle.scx_load_replay.specs.declared.lines.Line.{Line}
use Rattle.scx_load_replay.specs.Replay.{max_lines, block_of, comes_before, is_awake, awake_after, Fits, Follow, all_asleep, IsReplay}
use Rattle.scx_load_replay.specs.Lines.{Told, or_fault, cut, within, number_in, task_in, weight_in, own_weight_in, own_weight_by, event_in, line_in, ProgressState, no_lines, with_line, state_fault, place_fault, unless, line_behind, text_behind}
use Rattle.scx_load_replay.specs.Reading.{at_line, lines_from, lines_in}

-- ---- behind lines

abbrev at_behind : ℕ → List Line → ℕ
at_behind at [] = at
at_behind at (l ∷ ls) = at_behind l.at ls

abbrev block_behind : ℕ → List Line → ℕ
block_behind block [] = block
block_behind block (l ∷ ls) = block_behind (block_of l.event) ls

abbrev awake_behind : List Bool → List Line → List Bool
awake_behind awake [] = awake
awake_behind awake (l ∷ ls) = awake_behind (awake_after awake l.event) ls

-- the line may stand there
abbrev Next : WorkloadState → ℕ → ℕ → List Bool → Line → Type 0
Next w at block awake l = (l.at < w.ms) × (comes_before l.at (block_of l.event) at block ≡ false) × Fits w awake l.event

at_more : (at : ℕ) (ls : List Line) (l : Line) → at_behind at (ls ++ l ∷ []) ≡ l.at
at_more at [] l = refl
at_more at (m ∷ ls) l = at_more m.at ls l

block_more : (block : ℕ) (ls : List Line) (l : Line) → block_behind block (ls ++ l ∷ []) ≡ block_of l.event
block_more block [] l = refl
block_more block (m ∷ ls) l = block_more (block_of m.event) ls l

awake_more : (awake : List Bool) (ls : List Line) (l : Line) → awake_behind awake (ls ++ l ∷ []) ≡ awake_after (awake_behind awake ls) l.event
awake_more awake [] l = refl
awake_more awake (m ∷ ls) l = awake_more (awake_after awake m.event) ls l

follow_more : (w : WorkloadState) (at block : ℕ) (awake : List Bool) (ls : List Line) (l : Line) → Follow w at block awake ls → Next w (at_behind at ls) (block_behind block ls) (awake_behind awake ls) l → Follow w at block awake (ls ++ l ∷ [])
follow_more w at block awake [] l f n = (n.0, n.1, n.2, tt)
follow_more w at block awake (m ∷ ls) l f n = (f.0, f.1, f.2, follow_more w m.at (block_of m.event) (awake_after awake m.event) ls l f.3 n)

-- ---- a line alone

-- what holds of an event, whoever is awake
abbrev IsKnown : WorkloadState → Event → Type 0
IsKnown w (event.Wake t) = t < length w.homes
IsKnown w (event.Sleep t) = t < length w.homes
IsKnown w (event.SetWeight g x) = (g < length w.groups) × (1 ≤ x) × (x ≤ 10000)
IsKnown w (event.SetTaskWeight t x) = (t < length w.homes) × (1 ≤ x) × (x ≤ 10000)
IsKnown w (event.Tick c) = ⊥
IsKnown w event.Clock = ⊥

index_is_small : (i : ℕ) (names : List (List ℕ)) (name : List ℕ) (k : ℕ) → index_from i names name ≡ Some k → k < i + length names
index_is_small i [] name k e = absurd (cc)
index_is_small i (n ∷ names) name k e = go (bytes_eq n name) (index_is_small (i + 1) names name k) e
  where
    go : (b : Bool) → (index_from (i + 1) names name ≡ Some k → k < i + 1 + length names) → (if b then Some i else index_from (i + 1) names name) ≡ Some k → k < i + suc (length names)
    go true later f = let same : i ≡ k = cc in omega (arith, same)
    go false later f = omega (arith, later f)

task_is_known : (w : WorkloadState) → IsWorkload w → (name : List ℕ) (t : ℕ) → index_of w.task_names name ≡ Some t → t < length w.homes
task_is_known w whole name t e = let small = index_is_small 0 w.task_names name t e in omega (arith, small, whole.named_tasks)

group_is_known : (w : WorkloadState) → IsWorkload w → (name : List ℕ) (g : ℕ) → index_of w.group_names name ≡ Some g → g < length w.groups
group_is_known w whole name g e = let small = index_is_small 0 w.group_names name g e in omega (arith, small, whole.named_groups)

within_is : (least most v n : ℕ) → within least most v ≡ Some n → (least ≤ n) × (n ≤ most)
within_is least most v n e = go (nat_le least v) (nat_le v most) refl refl e
  where
    go : (a b : Bool) → nat_le least v ≡ a → nat_le v most ≡ b → (if a && b then Some v else None) ≡ Some n → (least ≤ n) × (n ≤ most)
    go true true x y f = let same : v ≡ n = cc in (grind (arith, nat_tests, x, same), grind (arith, nat_tests, y, same))
    go true false x y f = absurd (cc)
    go false b x y f = absurd (cc)

number_is : (least most : ℕ) (text : List ℕ) (n : ℕ) → number_in least most text ≡ Some n → (least ≤ n) × (n ≤ most)
number_is least most text n e = go (is_numeral text) e
  where
    go : (b : Bool) → (if b then within least most (digits_value 10 text) else None) ≡ Some n → (least ≤ n) × (n ≤ most)
    go true f = within_is least most (digits_value 10 text) n f
    go false f = absurd (cc)

bind_ok : {A B E : Type 0} (m : Result A E) (f : A → Result B E) (y : B) → (m >>= f) ≡ Ok y → (x : A) × (m ≡ Ok x) × (f x ≡ Ok y)
bind_ok (Ok x) f y e = (x, refl, e)
bind_ok (Err d) f y e = absurd (cc)

there : {A : Type 0} (f : EventFault) (o : Option A) (x : A) → or_fault f o ≡ Ok x → o ≡ Some x
there f None x e = absurd (cc)
there f (Some y) x e = cc

same_of : {A : Type 0} (a b : A) → ◌≡◌ {A = Told A} (Ok a) (Ok b) → a ≡ b
same_of a b e = cc

weight_is_known : (w : WorkloadState) → IsWorkload w → (text : List ℕ) (e : Event) → weight_in w text ≡ Ok e → IsKnown w e
weight_is_known w whole text e h =
    let words = bind_ok (or_fault fault.Syntax (cut text)) _ e h in
    let group = bind_ok (or_fault fault.NoSuchGroup (index_of w.group_names words.0.word)) _ e words.2 in
    let weight = bind_ok (or_fault fault.BadWeight (number_in 1 10000 words.0.rest)) _ e group.2 in
    let limits = number_is 1 10000 words.0.rest weight.0 (there fault.BadWeight (number_in 1 10000 words.0.rest) weight.0 weight.1) in
    let known = group_is_known w whole words.0.word group.0 (there fault.NoSuchGroup (index_of w.group_names words.0.word) group.0 group.1) in
    subst (IsKnown w) (same_of (event.SetWeight group.0 weight.0) e weight.2) (known, limits.0, limits.1)

own_weight_is_known : (w : WorkloadState) → IsWorkload w → (text : List ℕ) (e : Event) → own_weight_in w text ≡ Ok e → IsKnown w e
own_weight_is_known w whole text e h =
    let words = bind_ok (or_fault fault.Syntax (cut text)) _ e h in
    let task = bind_ok (task_in w words.0.word) _ e words.2 in
    let weight = bind_ok (or_fault fault.BadWeight (number_in 1 10000 words.0.rest)) _ e task.2 in
    let limits = number_is 1 10000 words.0.rest weight.0 (there fault.BadWeight (number_in 1 10000 words.0.rest) weight.0 weight.1) in
    let known = task_is_known w whole words.0.word task.0 (there fault.NoSuchTask (index_of w.task_names words.0.word) task.0 task.1) in
    subst (IsKnown w) (same_of (event.SetTaskWeight task.0 weight.0) e weight.2) (known, limits.0, limits.1)

own_weight_is_known_by : (rules : Rules) (w : WorkloadState) → IsWorkload w → (text : List ℕ) (e : Event) → own_weight_by rules w text ≡ Ok e → IsKnown w e
own_weight_is_known_by Plain w whole text e h = absurd (cc)
own_weight_is_known_by Linux w whole text e h = own_weight_is_known w whole text e h

event_is_known : (rules : Rules) (w : WorkloadState) → IsWorkload w → (verb rest : List ℕ) (e : Event) → event_in rules w verb rest ≡ Ok e → IsKnown w e
event_is_known rules w whole verb rest e h = go (bytes_eq verb (codes "wake")) (bytes_eq verb (codes "sleep")) (bytes_eq verb (codes "weight")) (bytes_eq verb (codes "task_weight")) h
  where
    go : (a b c d : Bool) → (if a then (task_in w rest >>= λ t. Ok (event.Wake t)) else if b then (task_in w rest >>= λ t. Ok (event.Sleep t)) else if c then weight_in w rest else if d then own_weight_by rules w rest else Err fault.Syntax) ≡ Ok e → IsKnown w e
    go true b c d f =
        let task = bind_ok (task_in w rest) (λ t. Ok (event.Wake t)) e f in
        subst (IsKnown w) (same_of (event.Wake task.0) e task.2) (task_is_known w whole rest task.0 (there fault.NoSuchTask (index_of w.task_names rest) task.0 task.1))
    go false true c d f =
        let task = bind_ok (task_in w rest) (λ t. Ok (event.Sleep t)) e f in
        subst (IsKnown w) (same_of (event.Sleep task.0) e task.2) (task_is_known w whole rest task.0 (there fault.NoSuchTask (index_of w.task_names rest) task.0 task.1))
    go false false true d f = weight_is_known w whole rest e f
    go false false false true f = own_weight_is_known_by rules w whole rest e f
    go false false false false f = absurd (cc)

record IsLine (w : WorkloadState) (l : Line) : Type 0 where
  pub in_time : l.at < w.ms
  pub known : IsKnown w l.event

line_is : (rules : Rules) (w : WorkloadState) → IsWorkload w → (text : List ℕ) (l : Line) → line_in rules w text ≡ Ok l → IsLine w l
line_is rules w whole text l h =
    let time = bind_ok (or_fault fault.Syntax (cut text)) _ l h in
    let at = bind_ok (or_fault fault.BadTime (number_in 0 (w.ms - 1) time.0.word)) _ l time.2 in
    let verb = bind_ok (or_fault fault.Syntax (cut time.0.rest)) _ l at.2 in
    let e = bind_ok (event_in rules w verb.0.word verb.0.rest) _ l verb.2 in
    let limits = number_is 0 (w.ms - 1) time.0.word at.0 (there fault.BadTime (number_in 0 (w.ms - 1) time.0.word) at.0 at.1) in
    subst (IsLine w) (same_of (record { at = at.0; event = e.0 }) l e.2) (record { in_time = omega (arith, limits.1, whole.some_ms); known = event_is_known rules w whole verb.0.word verb.0.rest e.0 e.1 })

-- ---- one line more

record MayStand (p : ProgressState) (l : Line) : Type 0 where
  pub room : length p.lines < max_lines
  pub in_order : comes_before l.at (block_of l.event) p.at p.block ≡ false
  pub state : state_fault p.awake l.event ≡ None

may_stand : (p : ProgressState) (l : Line) → place_fault p l ≡ None → MayStand p l
may_stand p l e = go (nat_le max_lines (length p.lines)) (comes_before l.at (block_of l.event) p.at p.block) refl refl e
  where
    go : (a b : Bool) → nat_le max_lines (length p.lines) ≡ a → comes_before l.at (block_of l.event) p.at p.block ≡ b
        → (if a then Some fault.TooMany else if b then Some fault.OutOfOrder else state_fault p.awake l.event) ≡ None → MayStand p l
    go true b x y f = absurd (cc)
    go false true x y f = absurd (cc)
    go false false x y f = record { room = grind (arith, nat_tests, x); in_order = y; state = f }

fits : (w : WorkloadState) (awake : List Bool) (e : Event) → IsKnown w e → state_fault awake e ≡ None → Fits w awake e
fits w awake (event.Wake t) known state = (known, go (is_awake awake t) refl state)
  where
    go : (b : Bool) → is_awake awake t ≡ b → (if b then Some fault.AlreadyRunnable else None) ≡ None → is_awake awake t ≡ false
    go true x f = absurd (cc)
    go false x f = x
fits w awake (event.Sleep t) known state = (known, go (is_awake awake t) refl state)
  where
    go : (b : Bool) → is_awake awake t ≡ b → (if b then None else Some fault.NotRunnable) ≡ None → is_awake awake t ≡ true
    go true x f = x
    go false x f = absurd (cc)
fits w awake (event.SetWeight g x) known state = known
fits w awake (event.SetTaskWeight t x) known state = known
fits w awake (event.Tick c) known state = absurd known
fits w awake event.Clock known state = absurd known

-- what holds of the lines so far
record IsRight (w : WorkloadState) (p : ProgressState) : Type 0 where
  pub follow : Follow w 0 0 (all_asleep w) p.lines
  pub at : at_behind 0 p.lines ≡ p.at
  pub block : block_behind 0 p.lines ≡ p.block
  pub awake : awake_behind (all_asleep w) p.lines ≡ p.awake
  pub few : length p.lines ≤ max_lines

one_more : (w : WorkloadState) (p : ProgressState) (l : Line) → IsRight w p → IsLine w l → MayStand p l → IsRight w (with_line p l)
one_more w p l right line stand = record {
  follow = follow_more w 0 0 (all_asleep w) p.lines l right.follow (line.in_time, order, fit);
  at = at_more 0 p.lines l;
  block = block_more 0 p.lines l;
  awake = awake_more (all_asleep w) p.lines l ∙ ap (λ a. awake_after a l.event) right.awake;
  few = omega (arith, length-append p.lines (l ∷ []), stand.room);
}
  where
    order : comes_before l.at (block_of l.event) (at_behind 0 p.lines) (block_behind 0 p.lines) ≡ false
    order = rw (right.at, right.block) stand.in_order

    fit : Fits w (awake_behind (all_asleep w) p.lines) l.event
    fit = subst (λ a. Fits w a l.event) (sym right.awake) (fits w p.awake l.event line.known stand.state)

line_is_right : (w : WorkloadState) (p q : ProgressState) (l : Line) → IsRight w p → IsLine w l → line_behind p l ≡ Ok q → IsRight w q
line_is_right w p q l right line e = go (place_fault p l) refl e
  where
    go : (o : Option EventFault) → place_fault p l ≡ o → unless o (with_line p l) ≡ Ok q → IsRight w q
    go (Some f) x h = absurd (cc)
    go None x h = subst (IsRight w) (same_of (with_line p l) q h) (one_more w p l right line (may_stand p l x))

text_is_right : (rules : Rules) (w : WorkloadState) → IsWorkload w → (p q : ProgressState) (text : List ℕ) → IsRight w p → text_behind rules w p text ≡ Ok q → IsRight w q
text_is_right rules w whole p q text right e = go (length text == 0) e
  where
    go : (b : Bool) → (if b then Ok p else (line_in rules w text >>= λ l. line_behind p l)) ≡ Ok q → IsRight w q
    go true h = subst (IsRight w) (same_of p q h) right
    go false h =
        let line = bind_ok (line_in rules w text) (λ l. line_behind p l) q h in
        line_is_right w p q line.0 right (line_is rules w whole text line.0 line.1) line.2

at_line_ok : {A : Type 0} (n : ℕ) (r : Told A) (x : A) → at_line n r ≡ Ok x → r ≡ Ok x
at_line_ok n (Ok y) x e = let same : y ≡ x = cc in ap (λ z. Ok z) same
at_line_ok n (Err f) x e = absurd (cc)

all_are_right : (rules : Rules) (w : WorkloadState) → IsWorkload w → (n : ℕ) (texts : List (List ℕ)) (p q : ProgressState) → IsRight w p → lines_from rules w n p texts ≡ Ok q → IsRight w q
unfolding lines_from
all_are_right rules w whole n [] p q right e = let same : p ≡ q = cc in subst (IsRight w) same right
all_are_right rules w whole n (text ∷ texts) p q right e =
    let one = bind_ok (at_line n (text_behind rules w p text)) (λ r. lines_from rules w (n + 1) r texts) q e in
    all_are_right rules w whole (n + 1) texts one.0 q (text_is_right rules w whole p one.0 text right (at_line_ok n (text_behind rules w p text) one.0 one.1)) one.2

-- the lines that were read are those of a file of events
pub lines_are_right : (rules : Rules) (w : WorkloadState) (text : List ℕ) (p : ProgressState) → IsWorkload w → lines_in rules w text ≡ Ok p → IsReplay (record { workload = w; lines = p.lines })
lines_are_right rules w text p whole e =
    let right = all_are_right rules w whole 1 (lines text) (no_lines w) p (record { follow = tt; at = refl; block = refl; awake = refl; few = omega arith }) e in
    record { workload = whole; few_lines = right.few; follow = right.follow }
