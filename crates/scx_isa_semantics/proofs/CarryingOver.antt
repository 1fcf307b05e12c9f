-- A run over one outside is a run over any that allows as much, step by step.
use Rattle.std.proofs.Common.{ℕ, zero, suc, ap}
use Rattle.scx_isa_semantics.specs.declared.callbacks.Callback.{Callback}
use Rattle.scx_isa_semantics.specs.Code.{Code}
use Rattle.scx_isa_semantics.specs.Machine.{Machine, start}
use Rattle.scx_isa_semantics.specs.Steps.{Outcome, Stuck, Goes, Asks, Ends, step}
use Rattle.scx_isa_semantics.specs.Runs.{Outside, AllowsAs, LeadsTo, Leads}
use Rattle.scx_isa_semantics.specs.Laws.{EndCarriesOver, StuckCarriesOver}

-- one step
pub step_carries_over : {W V : Type 0} (O : Outside W) (P : Outside V) (seen : W → V) → AllowsAs O P seen
    → (o : Outcome) (w : W) (s : ℕ) (m : Machine) (w' : W) → LeadsTo O o w s m w' → LeadsTo P o (seen w) s m (seen w')
step_carries_over O P seen h Stuck w s m w' l = l
step_carries_over O P seen h (Goes t n) w s m w' l = (l.0, l.1, ap seen l.2)
step_carries_over O P seen h (Asks q t go) w s m w' l = (l.0, h w q l.0 w' l.1, l.2, l.3)
step_carries_over O P seen h (Ends n) w s m w' l = l

-- several steps
pub steps_carry_over : {W V : Type 0} (O : Outside W) (P : Outside V) (seen : W → V) → AllowsAs O P seen
    → (c : Callback) (code : Code) (n s : ℕ) (m : Machine) (w : W) (s' : ℕ) (m' : Machine) (w' : W)
    → Leads O c code n s m w s' m' w' → Leads P c code n s m (seen w) s' m' (seen w')
steps_carry_over O P seen h c code zero s m w s' m' w' l = (l.0, l.1, ap seen l.2)
steps_carry_over O P seen h c code (suc n) s m w s' m' w' l = (
  l.0,
  l.1,
  seen l.2,
  step_carries_over O P seen h (step c code s m) w l.0 l.1 l.2 l.3,
  steps_carry_over O P seen h c code n l.0 l.1 l.2 s' m' w' l.4,
)

-- a run to its end
pub end_carries_over : {W V : Type 0} (O : Outside W) (P : Outside V) → EndCarriesOver O P
end_carries_over O P seen c code a maps w answer steps left w' h r = record {
  before = r.before;
  slot = r.slot;
  state = r.state;
  leads = steps_carry_over O P seen h c code r.before 0 (start a maps) w r.slot r.state w' r.leads;
  ends = r.ends;
  length = r.length;
  left = r.left;
}

-- a run that gets stuck
pub stuck_carries_over : {W V : Type 0} (O : Outside W) (P : Outside V) → StuckCarriesOver O P
stuck_carries_over O P seen c code a maps w slot steps left w' h r = record {
  state = r.state;
  leads = steps_carry_over O P seen h c code steps 0 (start a maps) w slot r.state w' r.leads;
  stuck = r.stuck;
  left = r.left;
}
