-- What is awaited of a host comes about at one instruction of a run, or at none.
use Rattle.std.proofs.Common.{◌≡◌, ℕ, suc, Bool, true, false, Option, Some, None, refl, sym, subst}
use Rattle.std.specs.Prelude.{IfSome, ◌&&◌, not, if◌then◌else◌}
use Rattle.scx_isa_semantics.specs.declared.callbacks.Callback.{Callback}
use Rattle.scx_isa_semantics.specs.Code.{Code}
use Rattle.scx_isa_semantics.specs.Elements.{Maps}
use Rattle.scx_isa_semantics.specs.Machine.{Machine, Arguments, start}
use Rattle.scx_isa_semantics.specs.Steps.{Ends, step}
use Rattle.scx_isa_semantics.specs.Runs.{Outside, Leads, LeadsTo}
use Rattle.scx_vm_tagged.specs.declared.run.Site.{Site}
use Rattle.scx_vm_tagged.specs.Watched.{held, CameAt, Came, came_at, EndsAt}
use Rattle.scx_vm_tagged.proofs.RunSteps.{Leads-more}

-- one step more
pub came_next : {W : Type 0} (O : Outside W) (awaited : W → Bool) (c : Callback) (code : Code) (a : Arguments) (maps : Maps) (w : W) (found : Option Site) (steps : ℕ) (site : Site) (m : Machine) (v : W) (t : ℕ) (k : Machine) (v' : W)
    → IfSome found (λ x. CameAt O awaited c code a maps w x site.slot m v) → Leads O c code steps 0 (start a maps) w site.slot m v → site.arguments ≡ held m → LeadsTo O (step c code site.slot m) v t k v'
    → IfSome (came_at found (awaited v) (awaited v') site) (λ x. CameAt O awaited c code a maps w x t k v')
came_next O awaited c code a maps w (Some s) steps site m v t k v' h leads registers does = record {
  steps = h.steps;
  state = h.state;
  before = h.before;
  leads = h.leads;
  registers = h.registers;
  not_yet = h.not_yet;
  next_slot = h.next_slot;
  next_state = h.next_state;
  after = h.after;
  does = h.does;
  came = h.came;
  rest = suc h.rest;
  follows = Leads-more O c code h.rest h.next_slot h.next_state h.after site.slot m v t k v' h.follows does;
}
came_next {W} O awaited c code a maps w None steps site m v t k v' h leads registers does = go (awaited v) (awaited v') refl refl
  where
    go : (had has : Bool) → awaited v ≡ had → awaited v' ≡ has → IfSome (if not had && has then Some site else None) (λ x. CameAt O awaited c code a maps w x t k v')
    go true has e f = tt
    go false false e f = tt
    go false true e f = record { steps = steps; state = m; before = v; leads = leads; registers = registers; not_yet = e; next_slot = t; next_state = k; after = v'; does = does; came = f; rest = 0; follows = (refl, refl, refl) }

-- at the end of the run, which leaves the host as it was
pub came_end : {W : Type 0} (O : Outside W) (awaited : W → Bool) (c : Callback) (code : Code) (a : Arguments) (maps : Maps) (w : W) (found : Option Site) (s : ℕ) (m : Machine) (v v' : W)
    → IfSome found (λ x. CameAt O awaited c code a maps w x s m v) → v' ≡ v → IfSome found (Came O awaited c code a maps w v')
came_end O awaited c code a maps w None s m v v' h same = tt
came_end {W} O awaited c code a maps w (Some x) s m v v' h same =
    let To : W → Type 0 = λ u. CameAt O awaited c code a maps w x s m u in
    (s, m, subst To (sym same) h)

-- the run ends where it has come to
pub ends_at : {W : Type 0} (O : Outside W) (c : Callback) (code : Code) (a : Arguments) (maps : Maps) (w : W) (n s : ℕ) (m : Machine) (v : W) (answer : ℕ) (w' : W)
    → Leads O c code n 0 (start a maps) w s m v → step c code s m ≡ Ends answer → w' ≡ v → EndsAt O c code a maps w answer w' s
ends_at {W} O c code a maps w n s m v answer w' leads ends same =
    let To : W → Type 0 = λ x. Leads O c code n 0 (start a maps) w s m x in
    record { steps = n; state = m; leads = subst To (sym same) leads; ends = ends }

-- where none was found it isn't there
pub none_next : (found : Option Site) (had has : Bool) (site : Site) → came_at found had has site ≡ None → (found ≡ None → had ≡ false) → has ≡ false
none_next (Some s) had has site none h = let bad : Some s ≡ None = none in absurd (cc)
none_next None true has site none h = let bad : true ≡ false = h refl in absurd (cc)
none_next None false false site none h = refl
none_next None false true site none h = let bad : Some site ≡ None = none in absurd (cc)
