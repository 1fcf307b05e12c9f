-- The fields of a path.
use Rattle.std.proofs.Common.{◌≡◌, ℕ, zero, suc, ◌-◌, ◌<◌, ◌≤◌, List, [], ◌∷◌, ◌++◌, length, take, set, get_or, Some, None, refl, sym, ap, ◌∙◌, subst, arith}
use Rattle.std.proofs.lemmas.List.{length-set, with_items_is}
use Rattle.std.specs.Vec.{with_items}
use Rattle.scx_sched_machine.specs.declared.events.Event.{Event}
use Rattle.scx_sched_machine.specs.declared.events.Refused.{Refused}
use Rattle.scx_sched.specs.Sim.{SimState, refusal, after_event}
use Rattle.scx_load_driver.specs.Runs.{stepped_all, AreAccepted}
use Rattle.scx_explore_findings.specs.declared.path.Path.TheInside.{Inside}
use Rattle.scx_explore_findings.specs.Path.{PathState, machine_of, went_on, IsAlong, last_of}
use Rattle.scx_explore_findings.specs.Kept.{path_of, IsKept}
use Rattle.scx_explore_findings.proofs.ListMachines.{along_room, along_at, along_accepted, along_set, along_push, along_last}
use Rattle.scx_explore_findings.proofs.CommonBeginnings.{went_accepted, went_refused}

-- a path by its parts
abbrev of_parts : SimState → List Event → ℕ → PathState
of_parts root es room = record { root = root; events = es; room = room }

module _ (i : Inside) (p : PathState) (view : path_of i ≡ p) where
  -- the parts of the path are those of its fields
  root_is : i.root ≡ p.root
  root_is = ap (λ (q : PathState). q.root) view

  events_are : i.events.items ≡ p.events
  events_are = ap (λ (q : PathState). q.events) view

  room_is : length i.sims.items ≡ p.room
  room_is = ap (λ (q : PathState). q.room) view

  module _ (kept : IsKept i) where
    -- no list is longer than there is room
    pub kept_room : length p.events ≤ p.room
    kept_room = subst (λ (q : PathState). length q.events ≤ q.room) view (along_room i.root i.events.items i.sims.items kept.along)

    -- each event is accepted
    pub kept_accepted : AreAccepted p.root p.events
    kept_accepted = subst (λ (q : PathState). AreAccepted q.root q.events) view (along_accepted i.root i.events.items i.sims.items kept.along)

    -- the machine at a depth
    pub kept_at : (k : ℕ) (d : SimState) → (k ≡ 0 → ⊥) → k ≤ length p.events → get_or i.sims.items (k - 1) d ≡ stepped_all p.root (take k p.events)
    kept_at zero d some l = absurd (some refl)
    kept_at (suc k) d some l =
        let back : suc k - 1 ≡ k = omega arith in
        ap (λ (j : ℕ). get_or i.sims.items j d) back
        ∙ along_at i.root i.events.items i.sims.items k d kept.along (omega (arith, l, ap (λ (es : List Event). length es) events_are))
        ∙ ap (λ (q : PathState). stepped_all q.root (take (suc k) q.events)) view

    -- an index of a machine at a depth is one of these
    pub kept_index : (k : ℕ) → (k ≡ 0 → ⊥) → k ≤ length p.events → k - 1 < length i.sims.items
    kept_index zero some l = absurd (some refl)
    kept_index (suc k) some l = omega (arith, l, kept_room, room_is)

    -- ---- one machine more, in its place

    module _ (e : Event) (n : ℕ) (at : n ≡ length i.events.items) (lent xs : List SimState) (own : lent ≡ i.sims.items) (made : xs ≡ set lent n (after_event (last_of i.root (take n lent)) e)) where
      abbrev now : SimState
      now = stepped_all i.root i.events.items

      last_now : last_of i.root (take n lent) ≡ now
      last_now = ap (λ (ys : List SimState). last_of i.root (take n ys)) own ∙ (ap (λ (k : ℕ). last_of i.root (take k i.sims.items)) at ∙ along_last i.root i.events.items i.sims.items kept.along)

      -- it comes from the machine after the list
      pub from_last : last_of i.root (take n lent) ≡ machine_of p
      from_last = last_now ∙ ap (λ (q : PathState). machine_of q) view

      made_now : xs ≡ set i.sims.items (length i.events.items) (after_event now e)
      made_now =
          made
          ∙ (ap (λ (s : SimState). set lent n (after_event s e)) last_now
          ∙ (ap (λ (ys : List SimState). set ys n (after_event now e)) own ∙ ap (λ (k : ℕ). set i.sims.items k (after_event now e)) at))

      -- there are as many as before
      pub as_many : length xs ≡ length i.sims.items
      as_many = ap (λ (ys : List SimState). length ys) made_now ∙ length-set i.sims.items (length i.events.items) (after_event now e)

      -- the list that is lent shows them
      pub shown : (with_items i.sims xs).items ≡ xs
      shown = with_items_is i.sims xs (omega (arith, as_many, i.sims.ok.0))

      pub shown_many : length (with_items i.sims xs).items ≡ length i.sims.items
      shown_many = ap (λ (ys : List SimState). length ys) shown ∙ as_many

      -- the machines are along the list still
      pub along_still : IsAlong i.root i.events.items xs
      along_still = subst (λ (ys : List SimState). IsAlong i.root i.events.items ys) (sym made_now) (along_set i.root i.events.items i.sims.items (length i.events.items) (after_event now e) (omega arith) kept.along)

      -- and along the longer list, where the event is accepted
      pub along_further : length p.events < p.room → refusal (last_of i.root (take n lent)) e ≡ None → IsAlong i.root (i.events.items ++ e ∷ []) xs
      along_further l fine =
          let room : length i.events.items < length i.sims.items = omega (arith, l, ap (λ (es : List Event). length es) events_are, room_is) in
          subst (λ (ys : List SimState). IsAlong i.root (i.events.items ++ e ∷ []) ys) (sym made_now)
          (along_push i.root i.events.items i.sims.items e (after_event now e) room (subst (λ (s : SimState). refusal s e ≡ None) last_now fine) refl kept.along)

      -- the fields stand for the longer list then
      pub view_further : (m : ℕ) (es : List Event) → m ≡ length i.sims.items → es ≡ i.events.items ++ e ∷ [] → refusal (last_of i.root (take n lent)) e ≡ None → ◌≡◌ {A = PathState} (record { root = i.root; events = es; room = m }) (went_on p e)
      view_further m es many more fine =
          ap (λ (k : ℕ). of_parts i.root es k) many
          ∙ (ap (λ (ys : List Event). of_parts i.root ys (length i.sims.items)) more
          ∙ (ap (λ (q : PathState). record q { events = q.events ++ e ∷ [] }) view ∙ sym (went_accepted p e (subst (λ (s : SimState). refusal s e ≡ None) from_last fine))))

      -- and for the same list where it is refused
      pub view_still : (m : ℕ) (r : Refused) → m ≡ length i.sims.items → refusal (last_of i.root (take n lent)) e ≡ Some r → ◌≡◌ {A = PathState} (record { root = i.root; events = i.events.items; room = m }) (went_on p e)
      view_still m r many refused =
          ap (λ (k : ℕ). of_parts i.root i.events.items k) many
          ∙ (view ∙ sym (went_refused p e r (subst (λ (s : SimState). refusal s e ≡ Some r) from_last refused)))
