-- The pass, slot by slot: what is kept stays least, and in the end it is a typing.
use Rattle.std.proofs.Common.{◌≡◌, false, ℕ, zero, suc, ◌+◌, ◌<◌, ◌≤◌, ◌⊎◌, inl, inr, List, length, set, replicate, slice_index_or, Option, Some, None, Result, Ok, Err, IfOk, refl, sym, ap, ◌∙◌, subst, arith}
use Rattle.std.proofs.lemmas.Bool.{cases_eq}
use Rattle.std.proofs.lemmas.List.{length-set, length-replicate, get_or-set_same, get_or-set_other}
use Rattle.scx_isa_semantics.specs.declared.instructions.Insn.{Insn}
use Rattle.scx_vm.specs.declared.context.Context.{Context}
use Rattle.scx_isa_semantics.specs.Code.{Code, at, size}
use Rattle.scx_isa_semantics.specs.Steps.{target}
use Rattle.scx_isa_encoding.specs.Spelling.{IsInsn}
use Rattle.scx_isa.specs.Flow.{Flows}
use Rattle.scx_isa.specs.Spelling.{IsProgram}
use Rattle.scx_isa.proofs.Codes.{occupant_fits}
use Rattle.scx_isa.proofs.Counts.{at_within, size-positive}
use Rattle.scx_abs.specs.declared.faults.Why.{Why}
use Rattle.scx_abs.specs.declared.states.AbsState.{AbsState}
use Rattle.scx_abs.specs.declared.rules.Next.{Next}
use Rattle.scx_abs.specs.States.{CoversState, CoversSome, IsProper, start_of}
use Rattle.scx_abs.specs.Rules.{rule}
use Rattle.scx_abs.specs.Laws.{FlowsProper}
use Rattle.scx_abs.proofs.Orders.{covers_itself}
use Rattle.scx_abs.proofs.Proper.{start_proper, rule_proper}
use Rattle.scx_verify.specs.Typing.{States, Passes, IsTyping}
use Rattle.scx_verify.specs.Forward.{IsSent, FlowsTo, Arrives, IsLeast, PassesBefore, AreForward, IsFirstRefusal}
use Rattle.scx_verify.specs.Pass.{states_of, IsVisited, IsGiven}
use Rattle.scx_verify.proofs.Least.{least_same, given_least, given_apart, given_long}
use Rattle.scx_verify.proofs.Targets.{Lands, lands, on_within, jump_within}

-- ---- what flows to a slot comes from an earlier one

same_slot : (s t : ℕ) → Some s ≡ Some t → s ≡ t
same_slot s t e = cc

sent_forward : (code : Code) (s t : ℕ) (i : Insn) (next : Next) (a : AbsState) → Lands code s i → IsSent s i next t a → s < t
sent_forward code s t i next a l (inl h) = omega (arith, h.1, size-positive i)
sent_forward code s t i next a l (inr h) = omega (arith, same_slot l.slot t (sym l.is ∙ h.1), l.forward)

flows_forward : (c : Context) (code : Code) (states : States) (s t : ℕ) (a : AbsState) → Flows code → FlowsTo c code states s t a → s < t
flows_forward c code states s t a flows f = sent_forward code s t f.insn f.next a (lands code s f.insn (flows s f.insn f.there)) f.sent

-- ---- before the first slot

-- the state of a slot to which nothing has flowed: none
abbrev pub no_state : Option AbsState
no_state = None

-- there is no state at first
pub blank : (n t : ℕ) → slice_index_or (replicate n no_state) t no_state ≡ no_state
blank zero t = refl
blank (suc n) zero = refl
blank (suc n) (suc t) = blank n t

first_least : (c : Context) (code : Code) (states : States) (t : ℕ) → (t ≡ 0) ⊎ (t ≡ 0 → ⊥) → (t ≡ 0 → states t ≡ Some (start_of c.callback)) → ((t ≡ 0 → ⊥) → states t ≡ None)
    → IsLeast (states t) (Arrives c code states 0 t)
first_least c code states t (inl e) some none = subst (λ o. IsLeast o (Arrives c code states 0 t)) (sym (some e)) (record {
  proper = start_proper c.callback;
  covers = covers;
  least = λ y h. h (start_of c.callback) (inl (e, refl));
  some = (start_of c.callback, inl (e, refl));
})
  where
    covers : (a : AbsState) → Arrives c code states 0 t a → CoversState (start_of c.callback) a
    covers a (inl h) = rw h.1 (covers_itself (start_of c.callback))
    covers a (inr h) = absurd (omega (arith, h.1))
first_least c code states t (inr n) some none = subst (λ o. IsLeast o (Arrives c code states 0 t)) (sym (none n)) nothing
  where
    nothing : (a : AbsState) → Arrives c code states 0 t a → ⊥
    nothing a (inl h) = n h.0
    nothing a (inr h) = omega (arith, h.1)

-- before the first slot
pub visited_none : (c : Context) (code : Code) (slots : ℕ) → 0 < slots → slots ≡ length code → IsVisited c code 0 (set (replicate slots no_state) 0 (Some (start_of c.callback)))
visited_none c code slots some e =
    let none : List (Option AbsState) = replicate slots no_state in
    let states : List (Option AbsState) = set none 0 (Some (start_of c.callback)) in
    let long : length none ≡ slots = length-replicate slots no_state in
    record {
      long = length-set none 0 (Some (start_of c.callback)) ∙ long ∙ e;
      least = λ t. first_least c code (states_of states) t (cases_eq t 0)
          (λ z. ap (λ i. slice_index_or states i no_state) z ∙ get_or-set_same none 0 (Some (start_of c.callback)) no_state (omega (arith, long, some)))
          (λ n. get_or-set_other none 0 t (Some (start_of c.callback)) no_state n ∙ blank slots t);
      passes = λ s i a lt there here. absurd (omega (arith, lt));
    }

-- ---- one slot on, where nothing flows from the slot

arrives_skip : (c : Context) (code : Code) (states : States) (s t : ℕ) (a : AbsState) → ((b : AbsState) → FlowsTo c code states s t b → ⊥) → Arrives c code states (s + 1) t a → Arrives c code states s t a
arrives_skip c code states s t a none (inl h) = inl h
arrives_skip c code states s t a none (inr h) = go (cases_eq h.0 s)
  where
    go : (h.0 ≡ s) ⊎ (h.0 ≡ s → ⊥) → Arrives c code states s t a
    go (inl e) = absurd (none a (subst (λ v. FlowsTo c code states v t a) e h.2))
    go (inr n) = inr (h.0, omega (arith, h.1, n), h.2)

arrives_later : (c : Context) (code : Code) (states : States) (s t : ℕ) (a : AbsState) → Arrives c code states s t a → Arrives c code states (s + 1) t a
arrives_later c code states s t a (inl h) = inl h
arrives_later c code states s t a (inr h) = inr (h.0, omega (arith, h.1), h.2)

passes_skip : (c : Context) (code : Code) (states : States) (s : ℕ) → PassesBefore c code states s → ((i : Insn) (a : AbsState) → at code s ≡ Some i → states s ≡ Some a → (next : Next) × (rule c i a ≡ Ok next))
    → PassesBefore c code states (s + 1)
passes_skip c code states s before now v i a lt there here = go (cases_eq v s)
  where
    go : (v ≡ s) ⊎ (v ≡ s → ⊥) → (next : Next) × (rule c i a ≡ Ok next)
    go (inl e) = now i a (rw e at there) (rw e at here)
    go (inr n) = before v i a (omega (arith, lt, n)) there here

-- a slot that nothing leads to
pub visited_skip : (c : Context) (code : Code) (s : ℕ) (states : List (Option AbsState)) → IsVisited c code s states → ((i : Insn) (a : AbsState) → at code s ≡ Some i → states_of states s ≡ Some a → ⊥)
    → IsVisited c code (s + 1) states
visited_skip c code s states h none = record {
  long = h.long;
  least = λ t. least_same (states_of states t) (Arrives c code (states_of states) s t) (Arrives c code (states_of states) (s + 1) t)
      (λ a p. arrives_later c code (states_of states) s t a p)
      (λ a p. arrives_skip c code (states_of states) s t a (λ b f. none f.insn f.state f.there f.here) p) (h.least t);
  passes = passes_skip c code (states_of states) s h.passes (λ i a there here. absurd (none i a there here));
}

-- ---- one slot on, where something flows from it

-- what flows from one slot, by what stands there
sent_same : (s v t : ℕ) (i j : Insn) (next other : Next) (a : AbsState) → v ≡ s → j ≡ i → other ≡ next → IsSent v j other t a → IsSent s i next t a
sent_same s v t i j next other a e f g h = rw (← e, ← f, ← g) h

same_insn : (i j : Insn) → Some i ≡ Some j → i ≡ j
same_insn i j e = cc

same_state : (a b : AbsState) → Some a ≡ Some b → a ≡ b
same_state a b e = cc

abbrev ok : Next → Result Next Why
ok next = Ok next

same_next : (n k : Next) → ok n ≡ ok k → n ≡ k
same_next n k e = cc

-- what an instruction at the slot lets flow on
record Sends (c : Context) (code : Code) (states : States) (s : ℕ) (i : Insn) (a : AbsState) (next : Next) : Type 0 where
  there : at code s ≡ Some i
  here : states s ≡ Some a
  passes : rule c i a ≡ ok next

flows_sent : (c : Context) (code : Code) (states : States) (s v t : ℕ) (i : Insn) (a b : AbsState) (next : Next) → Sends c code states s i a next → v ≡ s → FlowsTo c code states v t b → IsSent s i next t b
flows_sent c code states s v t i a b next sends e f =
    let insn : f.insn ≡ i = same_insn f.insn i (sym f.there ∙ ap (λ u. at code u) e ∙ sends.there) in
    let state : f.state ≡ a = same_state f.state a (sym f.here ∙ ap states e ∙ sends.here) in
    let out : f.next ≡ next = same_next f.next next (sym f.passes ∙ ap (λ j. rule c j f.state) insn ∙ ap (λ d. rule c i d) state ∙ sends.passes) in
    sent_same s v t i f.insn next f.next b e insn out f.sent

-- the same instruction in states that are the same there
pub flows_same : (c : Context) (code : Code) (states other : States) (v t : ℕ) (a : AbsState) → other v ≡ states v → FlowsTo c code states v t a → FlowsTo c code other v t a
flows_same c code states other v t a e f = record { insn = f.insn; state = f.state; next = f.next; there = f.there; here = e ∙ f.here; passes = f.passes; sent = f.sent }

-- what arrives once both are sent
abbrev Sent : Context → Code → States → ℕ → Insn → Next → ℕ → ℕ → AbsState → Type 0
Sent c code states s i next target u b = (Arrives c code states s u b ⊎ ((next.jump ≡ Some b) × (u ≡ target))) ⊎ ((next.on ≡ Some b) × (u ≡ s + size i))

module _ (c : Context) (code : Code) (states other : States) (s : ℕ) (i : Insn) (a : AbsState) (next : Next) (to : ℕ) where
  sent_arrives : Sends c code states s i a next → target s i ≡ Some to → ((v : ℕ) → v ≤ s → other v ≡ states v) → (u : ℕ) (b : AbsState) → Sent c code states s i next to u b → Arrives c code other (s + 1) u b
  sent_arrives sends is same u b (inl (inl (inl h))) = inl h
  sent_arrives sends is same u b (inl (inl (inr h))) = inr (h.0, omega (arith, h.1), flows_same c code states other h.0 u b (same h.0 (omega (arith, h.1))) h.2)
  sent_arrives sends is same u b (inl (inr h)) =
      inr (s, omega arith, record { insn = i; state = a; next = next; there = sends.there; here = same s (omega arith) ∙ sends.here; passes = sends.passes; sent = inr (h.0, is ∙ ap Some (sym h.1)) })
  sent_arrives sends is same u b (inr h) =
      inr (s, omega arith, record { insn = i; state = a; next = next; there = sends.there; here = same s (omega arith) ∙ sends.here; passes = sends.passes; sent = inl h })

  from_sent : target s i ≡ Some to → (u : ℕ) (b : AbsState) → IsSent s i next u b → Sent c code states s i next to u b
  from_sent is u b (inl h) = inr h
  from_sent is u b (inr h) = inl (inr (h.0, same_slot u to (sym h.1 ∙ is)))

  arrives_sent : Sends c code states s i a next → target s i ≡ Some to → ((v : ℕ) → v ≤ s → other v ≡ states v) → (u : ℕ) (b : AbsState) → Arrives c code other (s + 1) u b → Sent c code states s i next to u b
  arrives_sent sends is same u b (inl h) = inl (inl (inl h))
  arrives_sent sends is same u b (inr h) = go (cases_eq h.0 s)
    where
      go : (h.0 ≡ s) ⊎ (h.0 ≡ s → ⊥) → Sent c code states s i next to u b
      go (inl e) =
          let old = flows_same c code other states h.0 u b (sym (same h.0 (omega arith))) h.2 in
          from_sent is u b (flows_sent c code states s h.0 u i a b next sends e old)
      go (inr n) =
          let old = flows_same c code other states h.0 u b (sym (same h.0 (omega (arith, h.1)))) h.2 in
          inl (inl (inr (h.0, omega (arith, h.1, n), old)))

-- what is kept for a slot is proper, and so is what flows on from there
pub kept_proper : (o : Option AbsState) (a : AbsState) (P : AbsState → Type 0) → o ≡ Some a → IsLeast o P → IsProper a
kept_proper None a P e h = absurd (cc)
kept_proper (Some x) a P e h = subst IsProper (same_state x a e) h.proper

sent_proper : (c : Context) (i : Insn) (a : AbsState) (next : Next) → IsInsn i → IsProper a → rule c i a ≡ Ok next → FlowsProper next
sent_proper c i a next fits p e = subst (λ (r : Result Next Why). IfOk r FlowsProper) e (rule_proper c i a fits p)

-- a slot whose checks pass
pub visited_more : (c : Context) (code : Code) (s : ℕ) (states between after : List (Option AbsState)) (i : Insn) (a : AbsState) (next : Next) (to : ℕ)
    → IsProgram code → Flows code → IsVisited c code s states → at code s ≡ Some i → states_of states s ≡ Some a → rule c i a ≡ Ok next → target s i ≡ Some to
    → IsGiven states to next.jump between → IsGiven between (s + size i) next.on after → IsVisited c code (s + 1) after
visited_more c code s states between after i a next to program flow h there here passes is jump on =
    let faultless = flow s i there in
    let land = lands code s i faultless in
    let forward : s < to = omega (arith, land.forward, same_slot land.slot to (sym land.is ∙ is)) in
    let positive = size-positive i in
    let long : length between ≡ length states = given_long states to next.jump between jump in
    let same : (v : ℕ) → v ≤ s → states_of after v ≡ states_of states v = λ v le. given_apart between (s + size i) next.on after on v (λ e. omega (arith, e, le, positive)) ∙ given_apart states to next.jump between jump v (λ e. omega (arith, e, le, forward)) in
    let proper : FlowsProper next = sent_proper c i a next (occupant_fits false code s program.insns i there) (kept_proper (states_of states s) a (Arrives c code (states_of states) s s) here (h.least s)) passes in
    let sends : Sends c code (states_of states) s i a next = record { there = there; here = here; passes = passes } in
    let first = given_least states to next.jump between (λ u b. Arrives c code (states_of states) s u b)
    (λ b e. omega (arith, jump_within c code s to i a b next program faultless there passes e is, h.long)) proper.1 h.least jump in
    let second = given_least between (s + size i) next.on after (λ u b. Arrives c code (states_of states) s u b ⊎ ((next.jump ≡ Some b) × (u ≡ to)))
    (λ b e. omega (arith, on_within c code s i a b next program faultless there passes e, h.long, long)) proper.0 first on in
    record {
      long = given_long between (s + size i) next.on after on ∙ long ∙ h.long;
      least = λ u. least_same (states_of after u) (Sent c code (states_of states) s i next to u) (Arrives c code (states_of after) (s + 1) u)
          (λ b p. sent_arrives c code (states_of states) (states_of after) s i a next to sends is same u b p)
          (λ b p. arrives_sent c code (states_of states) (states_of after) s i a next to sends is same u b p) (second u);
      passes = passes_skip c code (states_of after) s
          (λ v j b lt t k. h.passes v j b lt t (sym (same v (omega (arith, lt))) ∙ k))
          (λ j b t k. (next, ap (λ d. rule c j d) (same_state b a (sym k ∙ same s (omega arith) ∙ here)) ∙ ap (λ e. rule c e a) (same_insn j i (sym t ∙ there)) ∙ passes));
    }

-- ---- the forward states

-- those of the slots that were visited, and of the next one, are the forward states
pub visited_forward : (c : Context) (code : Code) (s : ℕ) (states : List (Option AbsState)) → Flows code → IsVisited c code s states → AreForward c code (states_of states) s
visited_forward c code s states flow h t le = least_same (states_of states t) (Arrives c code (states_of states) s t) (Arrives c code (states_of states) t t) nearer farther (h.least t)
  where
    nearer : (b : AbsState) → Arrives c code (states_of states) s t b → Arrives c code (states_of states) t t b
    nearer b (inl p) = inl p
    nearer b (inr p) = inr (p.0, flows_forward c code (states_of states) p.0 t b flow p.2, p.2)

    farther : (b : AbsState) → Arrives c code (states_of states) t t b → Arrives c code (states_of states) s t b
    farther b (inl p) = inl p
    farther b (inr p) = inr (p.0, omega (arith, le, p.1), p.2)

-- a slot where a check fails
pub visited_refuses : (c : Context) (code : Code) (s : ℕ) (states : List (Option AbsState)) (i : Insn) (a : AbsState) (why : Why) → Flows code → IsVisited c code s states
    → at code s ≡ Some i → states_of states s ≡ Some a → rule c i a ≡ Err why → IsFirstRefusal c code why s
visited_refuses c code s states i a why flow h there here fails = record {
  states = states_of states;
  forward = visited_forward c code s states flow h;
  earlier = h.passes;
  insn = i;
  state = a;
  there = there;
  here = here;
  fails = fails;
}

-- ---- the end

least_covers : (o : Option AbsState) (P : AbsState → Type 0) (a : AbsState) → IsLeast o P → P a → CoversSome o a
least_covers None P a h p = absurd (h a p)
least_covers (Some x) P a h p = h.covers a p

-- past the last slot the states are a typing
pub visited_typing : (c : Context) (code : Code) (n : ℕ) (states : List (Option AbsState)) → Flows code → length code ≤ n → IsVisited c code n states → IsTyping c code (states_of states)
visited_typing c code n states flow all h = record {
  proper = λ s a here. kept_proper (states_of states s) a (Arrives c code (states_of states) n s) here (h.least s);
  start = least_covers (states_of states 0) (Arrives c code (states_of states) n 0) (start_of c.callback) (h.least 0) (inl (refl, refl));
  insns = λ s i a there here. passes s i a there here;
}
  where
    covered : (s t : ℕ) (i : Insn) (a b : AbsState) (next : Next) → at code s ≡ Some i → states_of states s ≡ Some a → rule c i a ≡ Ok next → IsSent s i next t b → CoversSome (states_of states t) b
    covered s t i a b next there here e sent =
        least_covers (states_of states t) (Arrives c code (states_of states) n t) b (h.least t)
        (inr (s, omega (arith, at_within code s i there, all), record { insn = i; state = a; next = next; there = there; here = here; passes = e; sent = sent }))

    passes : (s : ℕ) (i : Insn) (a : AbsState) → at code s ≡ Some i → states_of states s ≡ Some a → Passes c (states_of states) s i a
    passes s i a there here =
        let next = h.passes s i a (omega (arith, at_within code s i there, all)) there here in
        let land = lands code s i (flow s i there) in
        record {
          next = next.0;
          passes = next.1;
          covered = record {
            on = λ b e. covered s (s + size i) i a b next.0 there here next.1 (inl (e, refl));
            jump = λ b e. rw land.is (covered s land.slot i a b next.0 there here next.1 (inr (e, land.is)));
          };
        }
