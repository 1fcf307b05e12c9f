-- A run of a program that passes is described by the listing of the program, slot by slot: so what the listing shows of
-- no slot no run does.
use Rattle.std.proofs.Common.{◌≡◌, ℕ, zero, suc, ◌==◌, ◌<◌, ◌&&◌, ℤ, Bool, true, false, cond, length, Option, Some, None, Ok, Err, inl, inr, if◌then◌else◌, refl, sym, ap, ◌∙◌, subst, arith}
use Rattle.std.proofs.lemmas.Bool.{eqb-true, eq-eqb, lt-ltb}
use Rattle.scx_isa_semantics.specs.declared.host_tables.Field.{Field}
use Rattle.scx_isa_semantics.specs.declared.host_tables.Helper.{Helper}
use Rattle.scx_isa_semantics.specs.declared.host_tables.Helper.TheVariants.{DsqInsert, DsqInsertVtime}
use Rattle.scx_isa_semantics.specs.declared.host_tables.TaskId.{TaskId}
use Rattle.scx_isa_semantics.specs.declared.instructions.Insn.{Insn}
use Rattle.scx_isa_semantics.specs.declared.instructions.Insn.TheVariants as insn
use Rattle.scx_isa_semantics.specs.declared.operations.Access.{Access}
use Rattle.scx_isa_semantics.specs.declared.registers.Register.{Register}
use Rattle.scx_isa_semantics.specs.declared.values.Pointer.TheVariants as pointer
use Rattle.scx_isa_semantics.specs.declared.values.Value.{Value}
use Rattle.scx_isa_semantics.specs.declared.values.Value.TheVariants as value
use Rattle.scx_isa_semantics.specs.Arguments.{FitsCallback}
use Rattle.scx_isa_semantics.specs.Arithmetic.{at_distance}
use Rattle.scx_isa_semantics.specs.Calls.{arguments}
use Rattle.scx_isa_semantics.specs.Code.{Code, at}
use Rattle.scx_isa_semantics.specs.Effects.{Query, Call, Store}
use Rattle.scx_isa_semantics.specs.Elements.{Maps}
use Rattle.scx_isa_semantics.specs.HostTables.{field_at, helper_at}
use Rattle.scx_isa_semantics.specs.Machine.{Machine, Arguments, start}
use Rattle.scx_isa_semantics.specs.Memory.{access_size, size_bytes}
use Rattle.scx_isa_semantics.specs.Registers.{number}
use Rattle.scx_isa_semantics.specs.Runs.{Leads, any_answer}
use Rattle.scx_isa_semantics.specs.Steps.{Asks, step}
use Rattle.scx_isa.specs.Spelling.{IsProgram}
use Rattle.scx_isa.proofs.Counts.{at_within}
use Rattle.scx_maps.specs.Contents.{HasShapes}
use Rattle.scx_vm.specs.Arguments.{argument_of}
use Rattle.scx_vm.specs.declared.context.Context.{Context}
use Rattle.scx_sched_world.specs.Helpers.{number_of}
use Rattle.scx_abs.specs.declared.kinds.Kind.{Kind}
use Rattle.scx_abs.specs.declared.kinds.Kind.TheVariants as kind
use Rattle.scx_abs.specs.declared.rules.Next.{Next}
use Rattle.scx_abs.specs.declared.faults.Why.{Why}
use Rattle.scx_abs.specs.declared.faults.Why.TheVariants.{WritesFrame}
use Rattle.scx_abs.specs.declared.states.AbsState.{AbsState}
use Rattle.scx_abs.specs.Rules.{rule}
use Rattle.scx_abs.specs.Stands.{Stands}
use Rattle.scx_abs.specs.States.{kind_at, start_of}
use Rattle.scx_abs.proofs.Sound.{start_sound}
use Rattle.scx_verify.specs.declared.faults.Fault.TheVariants.{Rule}
use Rattle.scx_verify.specs.Pass.{states_of}
use Rattle.scx_verify.specs.Typing.{States, IsTyping, IsTyped}
use Rattle.scx_verify.proofs.Agreement.{flows_faultless}
use Rattle.scx_verify.proofs.Justified.{refusals_justified}
use Rattle.scx_verify.proofs.Safe.{IsAt, covered_at, step_at}
use Rattle.scx_verify_explain.specs.declared.listing.Listing.{Listing}
use Rattle.scx_verify_explain.specs.Listings.{IsEnd, IsKnown, IsListing, IsPass, known_at}
use Rattle.scx_explore_states.specs.Asking.{LoadsNo, GivesOne, AsksOnly}
use Rattle.scx_explore_states.proofs.Queries.{StepsOpen, MayAskIn, MayAskThere, of_step_in}
use Rattle.scx_explore_bounds.specs.declared.uses.Use.{Use}
use Rattle.scx_explore_bounds.specs.declared.uses.Use.TheVariants as such
use Rattle.scx_explore_bounds.specs.Uses.{any_below, is_use, is_task, is_of_task, is_field, is_any_load, is_call, is_insert, may_be_0, gives_none, has}
use Rattle.scx_explore_bounds.specs.Told.{ListingsTellLoads, ListingsTellInserts, ListingsTell, ListingsTellCalls, ListingsTellAnyLoads}
use Rattle.scx_explore_bounds.proofs.Slots.{any_below_at}

not_both : (b : Bool) → b ≡ true → b ≡ false → ⊥
not_both b x y = absurd (cc)

-- ---- slots

-- where none of the numbers passes the test, that one doesn't
none_at : (n k : ℕ) (test : ℕ → Bool) → k < n → any_below n test ≡ false → test k ≡ false
none_at n k test lt none = go (test k) refl
  where
    go : (b : Bool) → test k ≡ b → b ≡ false
    go false e = refl
    go true e = absurd (not_both (any_below n test) (any_below_at n k test lt e) none)

-- what a listing of a program that passes knows is a typing of all slots
record Knows (c : Context) (code : Code) (l : Listing) : Type 0 where
  slots : l.pass.slots ≡ length code
  typing : IsTyping c code (states_of l.pass.states.items)

knows : (c : Context) (code : Code) (l : Listing) → IsProgram code → IsTyped c code → IsListing c code l → Knows c code l
knows c code l program typed listing = go listing.known
  where
    states : States
    states = states_of l.pass.states.items

    ended : IsEnd c code states l.pass.slots → (IsPass c code states l.pass.slots) → Knows c code l
    ended (inl h) pass = record { slots = h.0; typing = h.1 }
    ended (inr h) pass = absurd (refusals_justified c code (Rule h.0) h.1 program (λ e. absurd (cc)) (typed.flows, h.3) typed)

    go : IsKnown c code states l.pass.slots → Knows c code l
    go (inl h) = ended h.1.ends h.1
    go (inr h) = absurd (flows_faultless code h.0 h.1 typed.flows h.2)

-- so it is known at each slot
known_there : (c : Context) (code : Code) (l : Listing) → Knows c code l → (s : ℕ) → s < length code → known_at l s ≡ states_of l.pass.states.items s
known_there c code l h s lt = ap (λ (b : Bool). cond b (states_of l.pass.states.items s) None) (lt-ltb s l.pass.slots (omega (arith, lt, h.slots)))

-- what is shown of no slot isn't shown of that one
no_use : (c : Context) (code : Code) (l : Listing) (u : Use) (s : ℕ) (i : Insn) → IsListing c code l → has l u ≡ false → at code s ≡ Some i → is_use u (Some i) (known_at l s) ≡ false
no_use c code l u s i listing none there =
    let items = l.code.items in
    let here : at items s ≡ Some i = ap (λ (x : Code). at x s) listing.code ∙ there in
    ap (λ (o : Option Insn). is_use u o (known_at l s)) (sym here) ∙ none_at (length items) s (λ k. is_use u (at items k) (known_at l k)) (at_within items s i here) none

-- ---- runs

-- wherever a run is, what is known there describes it
walks : (c : Context) (code : Code) (states : States) (n s t : ℕ) (m k : Machine) → IsProgram code → IsTyping c code states → IsAt c.defs states s m → Leads any_answer c.callback code n s m tt t k tt → IsAt c.defs states t k
walks c code states zero s t m k program typing here l = rw (l.0, l.1) here
walks c code states (suc n) s t m k program typing here l = walks c code states n l.0 t l.1 k program typing (step_at c code states s l.0 m l.1 program typing here l.3) l.4

reaches : (c : Context) (code : Code) (states : States) (a : Arguments) (maps : Maps) (n s : ℕ) (m : Machine) → IsProgram code → IsTyping c code states → HasShapes c.defs maps → FitsCallback c.callback a
    → Leads any_answer c.callback code n 0 (start a maps) tt s m tt → IsAt c.defs states s m
reaches c code states a maps n s m program typing shaped fits l =
    walks c code states n 0 s (start a maps) m program typing (covered_at c.defs states 0 (start_of c.callback) (start a maps) typing.start (start_sound c.defs c.callback a maps shaped fits)) l

asked : (P : Query → Type 0) (stores : (t : TaskId) (f : Field) (n : ℕ) → P (Store t f n)) (c : Context) (code : Code) (s : ℕ) (m : Machine) → MayAskThere P stores m c.callback (at code s) → (q : Query) (next : ℕ) (go : Value → Machine) → step c.callback code s m ≡ Asks q next go → P q
asked P stores c code s m may q next go e = subst (StepsOpen P stores) e (of_step_in P stores c.callback code s m may)

-- what the listing shows of no slot, and so is not asked there by a state that is described, no run asks
asks_only : (P : Query → Type 0) (stores : (t : TaskId) (f : Field) (n : ℕ) → P (Store t f n)) (u : Use) (c : Context) (code : Code) (l : Listing) → IsProgram code → IsTyped c code → IsListing c code l → has l u ≡ false
    → ((i : Insn) (a : AbsState) (m : Machine) (next : Next) → is_use u (Some i) (Some a) ≡ false → rule c i a ≡ Ok next → ((r : ℕ) → Stands m.maps (kind_at a r) (m.registers r)) → MayAskIn P stores m c.callback i)
    → AsksOnly P c code
asks_only P stores u c code l program typed listing none at_slot a maps n s m shaped fits leads q next go e =
    asked P stores c code s m (there (at code s) refl) q next go e
  where
    known : Knows c code l
    known = knows c code l program typed listing

    states : States
    states = states_of l.pass.states.items

    here : IsAt c.defs states s m
    here = reaches c code states a maps n s m program known.typing shaped fits leads

    there : (o : Option Insn) → at code s ≡ o → MayAskThere P stores m c.callback o
    there None is = tt
    there (Some i) is =
        let passes = known.typing.insns s i here.state is here.here in
        let at_hand : known_at l s ≡ Some here.state = known_there c code l known s (at_within code s i is) ∙ here.here in
        at_slot i here.state m passes.next (ap (is_use u (Some i)) (sym at_hand) ∙ no_use c code l u s i listing none is) passes.passes here.member.registers

-- ---- loads

refused : (b : Bool) (v w : Why) (next : Next) → (if b then Err v else Err w) ≡ Ok next → ⊥
refused true v w next e = absurd (cc)
refused false v w next e = absurd (cc)

-- where a load passes, a pointer to a task is known to be one
of_task : (c : Context) (x : Access) (d r : Register) (a : AbsState) (maps : Maps) (offset : ℤ) (t : TaskId) (next : Next) → rule c (insn.Load x d r offset) a ≡ Ok next → Stands maps (kind_at a (number r)) (value.Pointer (pointer.Task t)) → is_of_task r (Some a) ≡ true
of_task c x d r a maps offset t next passes stands = go (kind_at a (number r)) refl stands
  where
    go : (k : Kind) → kind_at a (number r) ≡ k → Stands maps k (value.Pointer (pointer.Task t)) → is_of_task r (Some a) ≡ true
    go kind.Task e h = ap is_task e
    go kind.Unusable e h = absurd (refused (number d == 10) WritesFrame _ next (rw e at passes))
    go kind.TaskOrNull e h = absurd (refused (number d == 10) WritesFrame _ next (rw e at passes))
    go k e h = absurd h

shown_load : (a b : Bool) → a ≡ true → (a && b) ≡ false → b ≡ false
shown_load true b e h = h
shown_load false b e h = absurd (not_both false e refl)

pub listings_tell_loads : ListingsTellLoads
listings_tell_loads c code l f program typed listing none = asks_only (LoadsNo f) (λ t g n. tt) (such.Load f) c code l program typed listing none loads
  where
    loads : (i : Insn) (a : AbsState) (m : Machine) (next : Next) → is_use (such.Load f) (Some i) (Some a) ≡ false → rule c i a ≡ Ok next → ((r : ℕ) → Stands m.maps (kind_at a r) (m.registers r)) → MayAskIn (LoadsNo f) (λ t g n. tt) m c.callback i
    loads (insn.Load x d r offset) a m next free passes stands = λ t g points there.
        let of = of_task c x d r a m.maps offset t next passes (subst (Stands m.maps (kind_at a (number r))) points (stands (number r))) in
        subst (λ (o : Option Field). is_field f o ≡ false) there (shown_load (is_of_task r (Some a)) (is_field f (field_at (size_bytes (access_size x)) (at_distance 0 offset))) of free)
    loads (insn.Call k) a m next free passes stands = λ h is allowed. (tt, tt)
    loads i a m next free passes stands = tt

-- ---- inserts

-- a slice that isn't known to be 0 at least isn't 0
given : (maps : Maps) (k : Kind) (v : Value) → may_be_0 k ≡ false → Stands maps k v → (number_of (argument_of v) == 0) ≡ false
given maps (kind.Num r) (value.Number n) shown h = go (n == 0) refl
  where
    go : (b : Bool) → (n == 0) ≡ b → b ≡ false
    go false e = refl
    go true e =
        let none : n ≡ 0 = eqb-true n 0 e in
        let low : r.low ≡ 0 = omega (arith, none, h.from_low) in
        absurd (not_both (r.low == 0) (eq-eqb r.low 0 low) shown)
given maps (kind.Num r) (value.Pointer p) shown h = absurd h
given maps (kind.Num r) value.Unset shown h = absurd h
given maps k v shown h = absurd (not_both true refl shown)

right_false : (a b : Bool) → a ≡ true → (a && b) ≡ false → b ≡ false
right_false a b e h = shown_load a b e h

pub listings_tell_inserts : ListingsTellInserts
listings_tell_inserts c code l program typed listing none = asks_only GivesOne (λ t g n. tt) such.EmptySlice c code l program typed listing none inserts
  where
    inserts : (i : Insn) (a : AbsState) (m : Machine) (next : Next) → is_use such.EmptySlice (Some i) (Some a) ≡ false → rule c i a ≡ Ok next → ((r : ℕ) → Stands m.maps (kind_at a r) (m.registers r)) → MayAskIn GivesOne (λ t g n. tt) m c.callback i
    inserts (insn.Load x d r offset) a m next free passes stands = λ t g points there. tt
    inserts (insn.Call k) a m next free passes stands = λ h is allowed. (go h is, tt)
      where
        go : (h : Helper) → helper_at k ≡ Some h → GivesOne (Call h (arguments m h))
        go DsqInsert is = given m.maps (kind_at a 3) (m.registers 3) (right_false (is_insert (Some (insn.Call k))) (gives_none (Some a)) (rw is refl) free) (stands 3)
        go DsqInsertVtime is = given m.maps (kind_at a 3) (m.registers 3) (right_false (is_insert (Some (insn.Call k))) (gives_none (Some a)) (rw is refl) free) (stands 3)
        go h is = tt
    inserts i a m next free passes stands = tt

-- ---- instructions

-- what a use says of an instruction by itself no instruction of the program is
by_itself : (u : Use) (is : Option Insn → Bool) → is None ≡ false → ((i : Insn) (s : Option AbsState) → is_use u (Some i) s ≡ is (Some i)) → ListingsTell u is
by_itself u is none_there same c code l listing none slot = go (at code slot) refl
  where
    go : (o : Option Insn) → at code slot ≡ o → is o ≡ false
    go None e = none_there
    go (Some i) e = sym (same i (known_at l slot)) ∙ no_use c code l u slot i listing none e

pub listings_tell_calls : ListingsTellCalls
listings_tell_calls h = by_itself (such.Call h) (is_call h) refl (λ i s. refl)

pub listings_tell_any_loads : ListingsTellAnyLoads
listings_tell_any_loads f = by_itself (such.AnyLoad f) (is_any_load f) refl (λ i s. refl)
