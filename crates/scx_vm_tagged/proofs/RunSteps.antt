-- Steps of a run, one more at its end.
use Rattle.std.proofs.Common.{◌≡◌, ℕ, zero, suc, ◌+◌, ◌<◌, Option, Some, None, refl, sym, subst, add-one, ◌≤◌}
use Rattle.scx_isa_semantics.specs.declared.callbacks.Callback.{Callback}
use Rattle.scx_isa_semantics.specs.declared.instructions.Insn.{Insn}
use Rattle.scx_isa_semantics.specs.Code.{Code, at, size, instruction_count, instructions_from}
use Rattle.scx_isa_semantics.specs.Machine.{Machine, Arguments, start}
use Rattle.scx_isa_semantics.specs.Effects as effects
use Rattle.scx_isa_semantics.specs.Meaning.{act}
use Rattle.scx_isa_semantics.specs.Steps.{Stuck, Ends, outcome_at, step}
use Rattle.scx_isa.proofs.Counts.{one_left}
use Rattle.scx_isa_semantics.specs.Runs.{Outside, Leads, LeadsTo, Runs}
use Rattle.scx_isa_semantics.specs.Elements.{Maps}
use Rattle.scx_vm_tagged.specs.Execute.{GoesOn}
use Rattle.scx_vm_tagged.specs.Run.{GetsStuckAt}

-- steps that lead to a state, and one more from there
pub Leads-more : {W : Type 0} (O : Outside W) (c : Callback) (code : Code) (n s : ℕ) (m : Machine) (w : W) (s' : ℕ) (m' : Machine) (w' : W) (t : ℕ) (k : Machine) (v : W) → Leads O c code n s m w s' m' w' → LeadsTo O (step c code s' m') w' t k v → Leads O c code (suc n) s m w t k v
Leads-more O c code zero s m w s' m' w' t k v (es, em, ew) last = (t, k, v, rw (← es, ← em, ← ew) last, (refl, refl, refl))
Leads-more O c code (suc n) s m w s' m' w' t k v (t₁, k₁, v₁, first, more) last =
    (t₁, k₁, v₁, first, Leads-more O c code n t₁ k₁ v₁ s' m' w' t k v more last)

-- a run ends at an instruction
pub one_left_at_end : (c : Callback) (code : Code) (s : ℕ) (m : Machine) (answer : ℕ) → step c code s m ≡ Ends answer → 0 < instructions_from code s
one_left_at_end c code s m answer e = go (at code s) refl
  where
    go : (o : Option Insn) → at code s ≡ o → 0 < instructions_from code s
    go None h = let bad : Stuck ≡ Ends answer = rw h at e in absurd (cc)
    go (Some i) h = one_left code s i h

-- where control goes on behind an instruction, a step leads there
located_next : {W : Type 0} (O : Outside W) (s : ℕ) (i : Insn) (e : effects.Effect) (w : W) (m : Machine) (w' : W) → GoesOn O e w m w' → LeadsTo O (outcome_at s i e) w (s + size i) m w'
located_next O s i effects.Stuck w m w' bad = absurd bad
located_next O s i (effects.Next n) w m w' (same, left) = (refl, same, left)
located_next O s i (effects.Jumped n) w m w' bad = absurd bad
located_next O s i (effects.Ask q go) w m w' (v, answered, same) = (v, answered, refl, same)
located_next O s i (effects.Ended n) w m w' bad = absurd bad

-- a step to the next instruction
pub step_next : {W : Type 0} (O : Outside W) (c : Callback) (code : Code) (s : ℕ) (i : Insn) (m : Machine) (w : W) (m' : Machine) (w' : W) → at code s ≡ Some i → GoesOn O (act c i m) w m' w' → LeadsTo O (step c code s m) w (s + size i) m' w'
step_next O c code s i m w m' w' here goes = rw here (located_next O s i (act c i m) w m' w' goes)

-- a run to a step that ends it, and to one that is stuck; neither step changes maps or outside
pub run_done : {W : Type 0} (O : Outside W) (c : Callback) (code : Code) (a : Arguments) (maps : Maps) (w : W) (n s : ℕ) (m : Machine) (v : W) (answer : ℕ) (maps' : Maps) (w' : W)
    → Leads O c code n 0 (start a maps) w s m v → step c code s m ≡ Ends answer → maps' ≡ m.maps → w' ≡ v → Runs O c code a maps w answer (n + 1) maps' w'
run_done {W} O c code a maps w n s m v answer maps' w' leads ends left same =
    let To : W → Type 0 = λ x. Leads O c code n 0 (start a maps) w s m x in
    record { before = n; slot = s; state = m; leads = subst To (sym same) leads; ends = ends; length = add-one n; left = left }

-- a run that gets stuck
pub run_stuck : {W : Type 0} (O : Outside W) (c : Callback) (code : Code) (a : Arguments) (maps : Maps) (w : W) (n s : ℕ) (m : Machine) (v : W) (maps' : Maps) (w' : W)
    → Leads O c code n 0 (start a maps) w s m v → step c code s m ≡ Stuck → maps' ≡ m.maps → w' ≡ v → n ≤ instruction_count code → GetsStuckAt O c code a maps w s maps' w'
run_stuck {W} O c code a maps w n s m v maps' w' leads stuck left same bound =
    let To : W → Type 0 = λ x. Leads O c code n 0 (start a maps) w s m x in
    record { steps = n; stuck = record { state = m; leads = subst To (sym same) leads; stuck = stuck; left = left }; in_bound = bound }
