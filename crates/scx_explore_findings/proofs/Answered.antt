-- A callback that is answered asks what runs of its program ask, as the world's answers fit.
use Rattle.std.proofs.Common.{◌≡◌, ℕ, zero, suc, refl, sym, ap, ◌∙◌, subst}
use Rattle.scx_isa_semantics.specs.declared.callbacks.Callback.{Callback}
use Rattle.scx_isa_semantics.specs.declared.values.Value.{Value}
use Rattle.scx_isa_semantics.specs.Arguments.{FitsCallback}
use Rattle.scx_isa_semantics.specs.Code.{Code}
use Rattle.scx_isa_semantics.specs.Effects.{Query}
use Rattle.scx_isa_semantics.specs.Elements.{Maps}
use Rattle.scx_isa_semantics.specs.Machine.{Machine, Arguments, start}
use Rattle.scx_isa_semantics.specs.Runs.{LeadsTo, Leads, any_answer}
use Rattle.scx_isa_semantics.specs.Steps.{Outcome, Stuck, Goes, Asks, Ends, step}
use Rattle.scx_vm.specs.Arguments.{program_arguments}
use Rattle.scx_vm.specs.Host.{answer_to, after_query, host}
use Rattle.scx_sched_world.specs.Helpers.{world_functions}
use Rattle.scx_sched_world.specs.World.{WorldState}
use Rattle.scx_sched_machine.specs.Callbacks.{IsAnswered}
use Rattle.scx_sched_machine.specs.Steps.{CallMade}
use Rattle.scx_explore_states.specs.Asking.{LoadsNo, GivesOne, AsksOnly}
use Rattle.scx_explore_findings.specs.Asked.{StepAsks, AsksWithin, CallAsks, IsFitting, AnsweredCallsLoadNone, AnsweredCallsGive}

-- one step more
pub leads_on : (c : Callback) (code : Code) (n s t u : ℕ) (m k j : Machine) → Leads any_answer c code n s m tt t k tt → LeadsTo any_answer (step c code t k) tt u j tt → Leads any_answer c code (suc n) s m tt u j tt
leads_on c code zero s t u m k j l one = (u, j, tt, subst (λ (x : Machine). LeadsTo any_answer (step c code s x) tt u j tt) l.1 (subst (λ (x : ℕ). LeadsTo any_answer (step c code x k) tt u j tt) l.0 one), (refl, refl, refl))
leads_on c code (suc n) s t u m k j l one = (l.0, l.1, tt, l.3, leads_on c code n l.0 t u l.1 k j l.4 one)

-- the rest of a run over the world
abbrev Rest : Callback → Code → ℕ → ℕ → Machine → WorldState → ℕ → Machine → WorldState → Type 0
Rest c code b slot state end t k v = Leads (host world_functions) c code b t k v slot state end

rest_at : (c : Callback) (code : Code) (b slot : ℕ) (state : Machine) (end : WorldState) (s t : ℕ) (m k : Machine) (w v : WorldState) → s ≡ t → m ≡ k → w ≡ v → Rest c code b slot state end s m w → Rest c code b slot state end t k v
rest_at c code b slot state end s t m k w v x y z h =
    subst (λ (u : ℕ). Rest c code b slot state end u k v) x (subst (λ (u : Machine). Rest c code b slot state end s u v) y (subst (λ (u : WorldState). Rest c code b slot state end s m u) z h))

-- from these arguments and maps a run asks such queries alone, as long as what is answered fits
abbrev pub AsksFrom : (Query → Type 0) → Callback → Code → Arguments → Maps → Type 0
AsksFrom P c code a maps = (n s : ℕ) (m : Machine) → Leads any_answer c code n 0 (start a maps) tt s m tt → (q : Query) (t : ℕ) (on : Value → Machine) → step c code s m ≡ Asks q t on → P q

-- such a run of a program
module _ (P : Query → Type 0) (c : Callback) (code : Code) (a : Arguments) (maps : Maps) (asks : AsksFrom P c code a maps) where
  -- it leads on from there to its end, over the world
  asks_along : (b j s slot answer : ℕ) (m state : Machine) (w end : WorldState) → Leads any_answer c code j 0 (start a maps) tt s m tt → Leads (host world_functions) c code b s m w slot state end
      → step c code slot state ≡ Ends answer → (n : ℕ) → AsksWithin (λ v. P) c code n s m w
  asks_along b j s slot answer m state w end reached leads ends zero = tt
  asks_along zero j s slot answer m state w end reached leads ends (suc n) =
      subst (λ (o : Outcome). StepAsks (λ v. P) (AsksWithin (λ v. P) c code n) o w) (sym (ap (λ (t : ℕ). step c code t m) (sym leads.0) ∙ ap (λ (k : Machine). step c code slot k) (sym leads.1) ∙ ends)) tt
  asks_along (suc b) j s slot answer m state w end reached leads ends (suc n) =
      go (step c code s m) refl leads.3 (λ t k v r l. asks_along b (suc j) t slot answer k state v end r l ends n)
    where
      go : (o : Outcome) → step c code s m ≡ o → LeadsTo (host world_functions) o w leads.0 leads.1 leads.2
          → ((t : ℕ) (k : Machine) (v : WorldState) → Leads any_answer c code (suc j) 0 (start a maps) tt t k tt → Rest c code b slot state end t k v → AsksWithin (λ u. P) c code n t k v)
          → StepAsks (λ v. P) (AsksWithin (λ v. P) c code n) o w
      go Stuck is l more = absurd l
      go (Goes t k) is l more =
          more t k w (leads_on c code j 0 s t (start a maps) m k reached (subst (λ (o : Outcome). LeadsTo any_answer o tt t k tt) (sym is) (refl, refl, refl))) (rest_at c code b slot state end leads.0 t leads.1 k leads.2 w l.0 l.1 l.2 leads.4)
      go (Asks q t on) is l more =
          let v = answer_to world_functions w q in
          let u = after_query world_functions w q in (
            asks j s m reached q t on is,
            more t (on v) u (leads_on c code j 0 s t (start a maps) m (on v) reached (subst (λ (o : Outcome). LeadsTo any_answer o tt t (on v) tt) (sym is) (l.0, l.1.2, refl, sym (ap on l.1.0))))
                (rest_at c code b slot state end leads.0 t leads.1 (on v) leads.2 u l.2 (l.3 ∙ ap on l.1.0) l.1.1 leads.4),
          )
      go (Ends x) is l more = absurd l

-- so does a callback that is answered
pub answered_asks_from : (P : Query → Type 0) (c : CallMade) → IsAnswered c → AsksFrom P c.callback c.program.code (program_arguments c.arguments) c.maps → CallAsks (λ w. P) c
answered_asks_from P c answered asks n =
    let args = program_arguments c.arguments in
    let first = start args c.maps in
    asks_along P c.callback c.program.code args c.maps asks answered.run.before 0 0 answered.run.slot answered.answer first answered.run.state c.world answered.world (refl, refl, refl) answered.run.leads answered.run.ends n

-- from what it is given a run of a program asks what any run of it asks, where it fits
pub fitting_asks : (P : Query → Type 0) (c : CallMade) → IsFitting c → AsksOnly P c.program.context c.program.code → AsksFrom P c.callback c.program.code (program_arguments c.arguments) c.maps
fitting_asks P c fitting asks = go c.callback fitting.callback fitting.arguments
  where
    args : Arguments
    args = program_arguments c.arguments

    go : (b : Callback) → c.program.context.callback ≡ b → FitsCallback b args → AsksFrom P b c.program.code args c.maps
    go b is = subst (λ (x : Callback). FitsCallback x args → AsksFrom P x c.program.code args c.maps) is (λ fits n s m leads. asks args c.maps n s m fitting.shapes fits leads)

pub answered_asks : (P : Query → Type 0) (c : CallMade) → IsAnswered c → IsFitting c → AsksOnly P c.program.context c.program.code → CallAsks (λ w. P) c
answered_asks P c answered fitting asks = answered_asks_from P c answered (fitting_asks P c fitting asks)

pub answered_calls_load_none : AnsweredCallsLoadNone
answered_calls_load_none f c answered fitting asks = answered_asks (LoadsNo f) c answered fitting asks

pub answered_calls_give : AnsweredCallsGive
answered_calls_give c answered fitting asks = answered_asks GivesOne c answered fitting asks
