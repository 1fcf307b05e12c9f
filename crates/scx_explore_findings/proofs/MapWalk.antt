-- A run of a program keeps the shapes of the maps, and so does each event.
use Rattle.std.proofs.Common.{◌≡◌, ℕ, zero, suc, ℤ, ◌+◌, ◌<◌, ◌≤◌, ◌==◌, ◌&&◌, Bool, true, false, nat_lt, if◌then◌else◌, List, [], ◌∷◌, length, drop, set, get_or, Option, Some, None, Result, Ok, Err, nat_eq, refl, sym, ap, ◌∙◌, subst, arith, ⊎_elim}
use Rattle.std.proofs.lemmas.Bool.{and_parts, cases_lt, eqb-true, eq-eqb}
use Rattle.std.proofs.lemmas.List.{length-map, length-replicate, set-get_or, get_or-set_other}
use Rattle.scx_isa_semantics.specs.declared.instructions.Insn.{Insn}
use Rattle.scx_isa_semantics.specs.declared.instructions.Insn.TheVariants as insn
use Rattle.scx_isa_semantics.specs.declared.operations.Access.{Access}
use Rattle.scx_isa_semantics.specs.declared.operations.Size.{Size}
use Rattle.scx_isa_semantics.specs.declared.operations.Width.TheVariants.{Bits64}
use Rattle.scx_isa_semantics.specs.declared.values.Pointer as pointers
use Rattle.scx_isa_semantics.specs.declared.values.Pointer.TheVariants as pointer
use Rattle.scx_isa_semantics.specs.declared.values.Value.{Value}
use Rattle.scx_isa_semantics.specs.declared.values.Value.TheVariants as value
use Rattle.scx_isa_semantics.specs.declared.callbacks.Callback.{Callback}
use Rattle.scx_isa_semantics.specs.declared.callbacks.Callback.TheVariants as callback
use Rattle.scx_isa_semantics.specs.declared.host_tables.Field.{Field}
use Rattle.scx_isa_semantics.specs.declared.host_tables.Helper.{Helper}
use Rattle.scx_isa_semantics.specs.declared.host_tables.Helper.TheVariants.{MapLookupElem, OnMap}
use Rattle.scx_isa_semantics.specs.declared.map_kinds.Line.{Line}
use Rattle.scx_isa_semantics.specs.declared.host_tables.MapHelper.{MapHelper}
use Rattle.scx_isa_semantics.specs.declared.host_tables.MapHelper.TheVariants.{Update, Delete, Push, Pop, Peek, LookUpPerCpu}
use Rattle.scx_isa_semantics.specs.declared.host_tables.Parameter.TheVariants as parameter
use Rattle.scx_isa_semantics.specs.declared.host_tables.TaskId.{TaskId}
use Rattle.scx_isa_semantics.specs.Registers.{number}
use Rattle.scx_isa_semantics.specs.Arithmetic.{negative, sign_extension, byte_swapped, wide_immediate}
use Rattle.scx_isa_semantics.specs.Memory.{Stack, size_bytes, access_size, read_as, load, store}
use Rattle.scx_isa_semantics.specs.Elements.{Contents, Maps, AreBytes, directory, with_directory, elements, element, with_slot, with_element, number_at, with_number}
use Rattle.scx_isa_semantics.specs.HostTables.{parameters, is_allowed, is_writable, answers}
use Rattle.scx_isa_semantics.specs.Locations.{Location, Nowhere, OnStack, InElement, InTask, on_stack, in_element, in_task, address}
use Rattle.scx_isa_semantics.specs.Code.{Code, at, instruction_count}
use Rattle.scx_isa_semantics.specs.Machine.{Machine, with_maps}
use Rattle.scx_isa_semantics.specs.Machine as start
use Rattle.scx_isa_semantics.specs.Serving.{Gives, slot_count, value_size, code_of, stored_in, bytes_from, found, update, delete, push, pop, peek}
use Rattle.scx_isa_semantics.specs.Calls.{takes, takes_all, map_at_hand, key, key_given, value_given, number_given, value_size_at_hand, region, region_at_hand, over, with_bytes, replied, served, after_serving, asks_here, map_effect, looked_up_in, looked_up, call_effect, call_helper}
use Rattle.scx_isa_semantics.specs.Directories as directories
use Rattle.scx_isa_semantics.specs.Directories.{Directory, Placed, seek, line_pushed, updated, deleted, pushed_on, pushed, peeked, shortened}
use Rattle.scx_isa_semantics.specs.Effects.{Query, Effect, set_register, set_stack, branch}
use Rattle.scx_isa_semantics.specs.Effects as effect
use Rattle.scx_isa_semantics.specs.Meaning.{operand_value, binary, on_number, map_reference, is_plain, load_effect, number_stored, pointer_stored, store_effect, comparison_answer, end_with, act}
use Rattle.scx_isa_semantics.specs.Steps.{Outcome, Stuck, Goes, Asks, Ends, target, goes, outcome_at, outcome_of, step}
use Rattle.scx_isa_semantics.specs.Endings.{Ending, ending_of, run_within, run_of}
use Rattle.scx_isa_semantics.proofs.Bytes.{length-with_number, with_number_bytes}
use Rattle.scx_maps.specs.declared.shape.Shape.{Shape}
use Rattle.scx_maps.specs.Contents.{lengths_in, HasShapes}
use Rattle.scx_maps.specs.Laws.{IsSoundFor, IsSound}
use Rattle.scx_maps.proofs.UnderKeys.{stay_sound}
use Rattle.scx_maps.proofs.Served.{element_sized, with_element_shaped, update_shaped, delete_shaped, push_shaped, pop_shaped, peek_shaped, given_long, given_bytes}
use Rattle.scx_vm.proofs.Registers.{bounds_cases}
use Rattle.scx_vm.proofs.OnMaps.{fitting_cases}
use Rattle.scx_vm.proofs.MapCalls.{value_sound}
use Rattle.scx_vm.proofs.Written.{length-over, over_bytes}
use Rattle.scx_vm.specs.Arguments.{program_arguments}
use Rattle.scx_vm.specs.Host.{answer_to, after_query}
use Rattle.scx_vm.specs.Programs.{VerifiedProgram}
use Rattle.scx_vm.specs.declared.arguments.Args.{Args}
use Rattle.scx_sched_world.specs.declared.call.Insert.{Insert}
use Rattle.scx_sched_world.specs.declared.eject.Cause.{Cause}
use Rattle.scx_sched_world.specs.declared.eject.Eject.{Eject}
use Rattle.scx_sched_world.specs.Helpers.{world_functions}
use Rattle.scx_sched_world.specs.World.{WorldState, at_callback}
use Rattle.scx_sched_machine.specs.declared.events.Event.{Event}
use Rattle.scx_sched_machine.specs.Callbacks.{call_ending, after_callback, cause_of, acting, call_back, task_and_number}
use Rattle.scx_sched_machine.specs.Ejecting.{eject, moves_over, ejected_for}
use Rattle.scx_sched_machine.specs.Events.{insert_or_put}
use Rattle.scx_sched_policy.specs.Policy.{PolicyState}
use Rattle.scx_sched_machine.specs.Put.{enters, enqueue_choice, enters_builtin, comes_in, put}
use Rattle.scx_sched_machine.specs.Steps.{State, Stepped, is_ejected}
use Rattle.scx_sched_machine.proofs.Choices.{keeps_if}
use Rattle.scx_sched.specs.Sim.{SimState, after_event}
use Rattle.scx_explore_findings.specs.WholeForms.{AreMapsOf}
use Rattle.scx_explore_findings.proofs.EventWalk.{IsKeptByAll, walk_one}

nothing_at : (es : List (List ℕ)) (i : ℕ) → length es ≤ 0 → length (get_or es i []) ≡ 0
nothing_at [] i l = refl
nothing_at (x ∷ es) i l = absurd (omega (arith, l))

set_past : (es : List (List ℕ)) (i : ℕ) (x : List ℕ) → length es ≤ i → set es i x ≡ es
set_past [] i x l = refl
set_past (y ∷ es) zero x l = absurd (omega (arith, l))
set_past (y ∷ es) (suc i) x l = ap (λ (ys : List (List ℕ)). y ∷ ys) (set_past es i x (omega (arith, l)))

-- ---- parts of maps

no_longer : (b : Bool) → b ≡ false → b ≡ true → ⊥
no_longer b x y = absurd (cc)

-- contents with elements of the same sizes have as many of them
pub counts_same : (a b : Contents) → lengths_in a ≡ lengths_in b → (m : ℕ) → length (get_or a m []) ≡ length (get_or b m [])
counts_same [] [] e m = refl
counts_same [] (y ∷ b) e m = let long : 0 ≡ suc (length (lengths_in b)) = ap length e in absurd (omega (arith, long))
counts_same (x ∷ a) [] e m = let long : suc (length (lengths_in a)) ≡ 0 = ap length e in absurd (omega (arith, long))
counts_same (x ∷ a) (y ∷ b) e zero =
    sym (length-map x (λ (v : List ℕ). length v)) ∙ (ap (λ (l : List (List ℕ)). length (get_or l 0 [])) e ∙ length-map y (λ (v : List ℕ). length v))
counts_same (x ∷ a) (y ∷ b) e (suc m) = counts_same a b (ap (λ (l : List (List ℕ)). drop 1 l) e) m

-- a part that is sound is so where it was put
put_sound : (n : ℕ) (ds : List Directory) (k : ℕ) (d : Directory) → IsSoundFor n d → IsSoundFor n (get_or (set ds k d) k directories.Array)
put_sound n [] k d h = tt
put_sound n (x ∷ ds) zero d h = h
put_sound n (x ∷ ds) (suc k) d h = put_sound n ds k d h

line_sound : (n j : ℕ) (of : Line → Directory) → ((l : Line) → IsSoundFor n (of l)) → (l : Line) (f : ℕ) → IsSoundFor n (line_pushed of j l f).directory
line_sound n j of each l f =
    keeps_if (λ (p : Placed). IsSoundFor n p.directory) (nat_lt l.count j) _ _ (each _)
    (keeps_if (λ (p : Placed). IsSoundFor n p.directory) (nat_eq f 2) _ _ (each _) (each l))

pushed_sound : (n j : ℕ) (d : Directory) (f : ℕ) → IsSoundFor n d → IsSoundFor n (pushed d j f).directory
pushed_sound n j d f h =
    keeps_if (λ (p : Placed). IsSoundFor n p.directory) (nat_eq f 1) _ _ h
    (keeps_if (λ (p : Placed). IsSoundFor n p.directory) (nat_lt 2 f) _ _ h (on d h))
  where
    on : (d : Directory) → IsSoundFor n d → IsSoundFor n (pushed_on d j f).directory
    on (directories.Queue l) h = line_sound n j (λ x. directories.Queue x) (λ x. tt) l f
    on (directories.Stack l) h = line_sound n j (λ x. directories.Stack x) (λ x. tt) l f
    on directories.Array h = h
    on directories.PerCpu h = h
    on (directories.Hash z ks) h = h

shortened_sound : (n j : ℕ) (d : Directory) → IsSoundFor n d → IsSoundFor n (shortened d j)
shortened_sound n j (directories.Queue l) h = tt
shortened_sound n j (directories.Stack l) h = tt
shortened_sound n j directories.Array h = h
shortened_sound n j directories.PerCpu h = h
shortened_sound n j (directories.Hash z ks) h = h

module _ (shapes : List Shape) where
  -- the maps of the machine are of the shapes
  abbrev Shaped : Machine → Type 0
  Shaped m = AreMapsOf shapes m.maps

  -- with the same parts, the keys of hashes stay sound
  same_parts : (a b : Maps) → HasShapes shapes a → HasShapes shapes b → b.directories ≡ a.directories → ((m : ℕ) → IsSound a m) → (m : ℕ) → IsSound b m
  same_parts a b ha hb e sound m =
      subst (λ (n : ℕ). IsSoundFor n (directory b m)) (counts_same a.contents b.contents (ha.lengths ∙ sym hb.lengths) m)
      (subst (λ (ds : List Directory). IsSoundFor (slot_count a m) (get_or ds m directories.Array)) (sym e) (sound m))

  -- with another part of one map
  other_parts : (a b : Maps) (k : ℕ) (d : Directory) → HasShapes shapes a → HasShapes shapes b → b.directories ≡ set a.directories k d → ((m : ℕ) → IsSound a m) → IsSound b k → (m : ℕ) → IsSound b m
  other_parts a b k d ha hb e sound here m = go (m == k) refl
    where
      go : (same : Bool) → (m == k) ≡ same → IsSound b m
      go true is = subst (λ (j : ℕ). IsSound b j) (sym (eqb-true m k is)) here
      go false is =
          let kept : directory b m ≡ directory a m =
          ap (λ (ds : List Directory). get_or ds m directories.Array) e ∙ get_or-set_other a.directories k m d directories.Array (λ same. no_longer (m == k) is (eq-eqb m k same)) in
          subst (λ (n : ℕ). IsSoundFor n (directory b m)) (counts_same a.contents b.contents (ha.lengths ∙ sym hb.lengths) m)
          (subst (λ (x : Directory). IsSoundFor (slot_count a m) x) (sym kept) (sound m))

  stored_parts : (a : Maps) (k : ℕ) (r : Result ℕ ℕ) (bytes : List ℕ) → (stored_in a k r bytes).directories ≡ a.directories
  stored_parts a k (Ok s) bytes = refl
  stored_parts a k (Err e) bytes = refl

  -- so they do after an effect
  abbrev KeepsOpen : Effect → Type 0
  KeepsOpen (effect.Next m) = Shaped m
  KeepsOpen (effect.Jumped m) = Shaped m
  KeepsOpen (effect.Ask q go) = (v : Value) → Shaped (go v)
  KeepsOpen e = Unit {0}

  -- and after a step
  abbrev StepsKeep : Outcome → Type 0
  StepsKeep (Goes t m) = Shaped m
  StepsKeep (Asks q t go) = (v : Value) → Shaped (go v)
  StepsKeep o = Unit {0}

  of_two : (b : Bool) (x y : Effect) → KeepsOpen x → KeepsOpen y → KeepsOpen (if b then x else y)
  of_two true x y p q = p
  of_two false x y p q = q

  of_register : (m : Machine) (r : ℕ) (v : Option Value) → Shaped m → KeepsOpen (set_register m r v)
  of_register m r None h = tt
  of_register m r (Some v) h = of_two (nat_eq r 10) _ _ tt h

  of_stack : (m : Machine) (o : Option Stack) → Shaped m → KeepsOpen (set_stack m o)
  of_stack m None h = tt
  of_stack m (Some stack) h = h

  of_branch : (m : Machine) (o : Option Bool) → Shaped m → KeepsOpen (branch m o)
  of_branch m None h = tt
  of_branch m (Some true) h = h
  of_branch m (Some false) h = h

  of_load : (m : Machine) (r : ℕ) (a : Access) (l : Location) → Shaped m → KeepsOpen (load_effect m r a l)
  of_load m r a Nowhere h = tt
  of_load m r a (OnStack at) h = of_register m r (load m.stack a at) h
  of_load m r a (InElement k i at) h = of_register m r (Some (value.Number (read_as a (number_at (element m.maps k i) at (size_bytes (access_size a)))))) h
  of_load m r a (InTask t f) h = of_two (is_plain a) _ _ (of_two (nat_eq r 10) _ _ tt (λ v. h)) tt

  -- ---- bytes of elements

  -- an element gets as many bytes as it has
  same_shaped : (maps : Maps) (m i : ℕ) (bytes : List ℕ) → HasShapes shapes maps → length bytes ≡ length (element maps m i) → AreBytes bytes → HasShapes shapes (with_element maps m i bytes)
  same_shaped maps m i bytes h long are =
      ⊎_elim (λ (l : i < slot_count maps m). with_element_shaped shapes maps m i bytes h (long ∙ element_sized shapes maps m i h l) are)
      (λ (l : slot_count maps m ≤ i).
      let same : with_slot maps.contents m i bytes ≡ maps.contents = ap (λ (es : List (List ℕ)). set maps.contents m es) (set_past (elements maps m) i bytes l) ∙ set-get_or maps.contents m [] in
      subst (λ (cs : List (List (List ℕ))). HasShapes shapes (record { contents = cs; directories = maps.directories })) (sym same) h)
      (cases_lt i (slot_count maps m))

  same_sized : (maps : Maps) (m i : ℕ) (bytes : List ℕ) → AreMapsOf shapes maps → length bytes ≡ length (element maps m i) → AreBytes bytes → AreMapsOf shapes (with_element maps m i bytes)
  same_sized maps m i bytes h long are =
      let new = same_shaped maps m i bytes h.shaped long are in
      record { shaped = new; sound = same_parts maps (with_element maps m i bytes) h.shaped new refl h.sound }

  -- n bytes from a location on lie in their element
  abbrev LiesIn : Maps → ℕ → Location → Type 0
  LiesIn maps n (InElement k i at) = at + n ≤ length (element maps k i)
  LiesIn maps n l = Unit {0}

  on_stack_lies : (maps : Maps) (n : ℕ) (o : Option ℕ) → LiesIn maps n (on_stack o)
  on_stack_lies maps n None = tt
  on_stack_lies maps n (Some at) = tt

  in_task_lies : (maps : Maps) (n : ℕ) (t : TaskId) (o : Option Field) → LiesIn maps n (in_task t o)
  in_task_lies maps n t None = tt
  in_task_lies maps n t (Some f) = tt

  address_lies : (maps : Maps) (v : Value) (offset : ℤ) (n : ℕ) → LiesIn maps n (address maps v offset n)
  address_lies maps (value.Pointer (pointer.Stack at)) offset n = on_stack_lies maps n _
  address_lies maps (value.Pointer (pointer.Element m i at)) offset n = bounds_cases (length (element maps m i)) n _ (λ o. LiesIn maps n (in_element m i o)) tt (λ to is l. l)
  address_lies maps (value.Pointer (pointer.Task t)) offset n = in_task_lies maps n t _
  address_lies maps (value.Pointer (pointer.Map m)) offset n = tt
  address_lies maps (value.Number a) offset n = tt
  address_lies maps value.Unset offset n = tt

  region_lies : (maps : Maps) (v : Value) (n : ℕ) → LiesIn maps n (region maps v n)
  region_lies maps (value.Pointer (pointer.Stack at)) n = on_stack_lies maps n _
  region_lies maps (value.Pointer (pointer.Element m i at)) n = fitting_cases (length (element maps m i)) n at (λ o. LiesIn maps n (in_element m i o)) tt (λ l. l)
  region_lies maps (value.Pointer (pointer.Task t)) n = tt
  region_lies maps (value.Pointer (pointer.Map m)) n = tt
  region_lies maps (value.Number a) n = tt
  region_lies maps value.Unset n = tt

  of_number : (m : Machine) (s : Size) (n : ℕ) (l : Location) → LiesIn m.maps (size_bytes s) l → Shaped m → KeepsOpen (number_stored m s n l)
  of_number m s n Nowhere lies h = tt
  of_number m s n (OnStack at) lies h = of_stack m (store m.stack s at (value.Number n)) h
  of_number m s n (InElement k i at) lies h =
      let old = element m.maps k i in
      same_sized m.maps k i (with_number old at (size_bytes s) n) h (length-with_number old at (size_bytes s) n lies) (with_number_bytes old at (size_bytes s) n (h.shaped.bytes k i))
  of_number m s n (InTask t f) lies h = of_two (is_writable f) _ _ (λ v. h) tt

  of_pointer : (m : Machine) (s : Size) (p : pointers.Pointer) (l : Location) → Shaped m → KeepsOpen (pointer_stored m s p l)
  of_pointer m s p Nowhere h = tt
  of_pointer m s p (OnStack at) h = of_stack m (store m.stack s at (value.Pointer p)) h
  of_pointer m s p (InElement k i at) h = tt
  of_pointer m s p (InTask t f) h = tt

  of_store : (m : Machine) (s : Size) (v : Value) (l : Location) → LiesIn m.maps (size_bytes s) l → Shaped m → KeepsOpen (store_effect m s v l)
  of_store m s (value.Number n) l lies h = of_number m s n l lies h
  of_store m s (value.Pointer p) l lies h = of_pointer m s p l h
  of_store m s value.Unset l lies h = tt

  of_end : (v : Value) → KeepsOpen (end_with v)
  of_end (value.Number n) = tt
  of_end (value.Pointer p) = tt
  of_end value.Unset = tt

  -- ---- helpers on maps

  of_bytes : (m : Machine) (l : Location) (bs : List ℕ) → LiesIn m.maps (length bs) l → AreBytes bs → Shaped m → Shaped (with_bytes m l bs)
  of_bytes m Nowhere bs lies are h = h
  of_bytes m (OnStack at) bs lies are h = h
  of_bytes m (InElement k i at) bs lies are h =
      let old = element m.maps k i in
      same_sized m.maps k i (over old at bs) h (length-over at bs old lies) (over_bytes old at bs (h.shaped.bytes k i) are)
  of_bytes m (InTask t f) bs lies are h = h

  of_found : (m : Machine) (k : ℕ) (to : Location) (o : Option ℕ) → Shaped m → Shaped (replied m k to (found o))
  of_found m k to None h = h
  of_found m k to (Some s) h = h

  -- the bytes that a queue or a stack gives are as many as a value has
  given_sized : (maps : Maps) (k : ℕ) → HasShapes shapes maps → length (bytes_from maps k (peeked (directory maps k) (slot_count maps k))) ≡ value_size maps k
  given_sized maps k h =
      ⊎_elim (λ (some : 0 < slot_count maps k). given_long shapes maps k h some) (λ (none : slot_count maps k ≤ 0). go none (peeked (directory maps k) (slot_count maps k))) (cases_lt 0 (slot_count maps k))
    where
      go : slot_count maps k ≤ 0 → (r : Result ℕ ℕ) → length (bytes_from maps k r) ≡ value_size maps k
      go none (Ok s) = nothing_at (elements maps k) s none ∙ sym (nothing_at (elements maps k) 0 none)
      go none (Err e) = length-replicate (value_size maps k) 0

  -- a queue or a stack gives its next value, with any part beside its elements after it
  of_gives : (m : Machine) (d : Directory) (n : ℕ) → HasShapes shapes m.maps → AreMapsOf shapes (record { contents = m.maps.contents; directories = set m.maps.directories (map_at_hand m) d }) → Shaped (replied (with_maps m (record { contents = m.maps.contents; directories = set m.maps.directories (map_at_hand m) d })) (map_at_hand m) (region_at_hand m (m.registers 2)) (Gives (bytes_from m.maps (map_at_hand m) (peeked (directory m.maps (map_at_hand m)) (slot_count m.maps (map_at_hand m)))) n))
  of_gives m d n h shaped =
      let k = map_at_hand m in
      let bs = bytes_from m.maps k (peeked (directory m.maps k) (slot_count m.maps k)) in
      let new : Maps = record { contents = m.maps.contents; directories = set m.maps.directories k d } in
      of_bytes (with_maps m new) (region_at_hand m (m.registers 2)) bs
      (subst (λ (j : ℕ). LiesIn m.maps j (region_at_hand m (m.registers 2))) (sym (given_sized m.maps k h)) (region_lies m.maps (m.registers 2) (value_size_at_hand m)))
      (given_bytes shapes m.maps k h) shaped

  -- a sound part that was put into its place
  placed_sound : (a b : Maps) (k : ℕ) (d : Directory) → HasShapes shapes a → HasShapes shapes b → b.directories ≡ set a.directories k d → IsSoundFor (slot_count a k) d → IsSound b k
  placed_sound a b k d ha hb e h =
      subst (λ (n : ℕ). IsSoundFor n (directory b k)) (counts_same a.contents b.contents (ha.lengths ∙ sym hb.lengths) k)
      (subst (λ (ds : List Directory). IsSoundFor (slot_count a k) (get_or ds k directories.Array)) (sym e) (put_sound (slot_count a k) a.directories k d h))

  of_served : (m : Machine) (c : ℕ) (g : MapHelper) → takes_all m (parameters (OnMap g)) 1 ≡ true → Shaped m → Shaped (after_serving m (served m c (OnMap g)))
  of_served m c Update t h =
      let k = map_at_hand m in
      let first = and_parts (takes m parameter.Map (m.registers 1)) (takes_all m (parameter.Key ∷ parameter.Value ∷ parameter.Number ∷ []) 2) t in
      let second = and_parts (takes m parameter.Key (m.registers 2)) (takes_all m (parameter.Value ∷ parameter.Number ∷ []) 3) first.1 in
      let third = and_parts (takes m parameter.Value (m.registers 3)) (takes_all m (parameter.Number ∷ []) 4) second.1 in
      let value = value_sound m 3 h.shaped.bytes third.0 in
      let key = key_given m in
      let bytes = value_given m 3 in
      let flags = number_given (m.registers 4) in
      let p = updated (directory m.maps k) (slot_count m.maps k) c key flags in
      let new = update_shaped shapes m.maps k c key bytes flags h.shaped value.0 value.1 in
      record {
        shaped = new;
        sound = other_parts m.maps (update m.maps k c key bytes flags).maps k p.directory h.shaped new (stored_parts (with_directory m.maps k p.directory) k p.slot bytes) h.sound (stay_sound m.maps k c key bytes flags (h.sound k)).0;
      }
  of_served m c Delete t h =
      let k = map_at_hand m in
      let key = key_given m in
      let new = delete_shaped shapes m.maps k key h.shaped in
      record {
        shaped = new;
        sound = other_parts m.maps (delete m.maps k key).maps k (deleted (directory m.maps k) key).directory h.shaped new refl h.sound (stay_sound m.maps k c key [] 0 (h.sound k)).1;
      }
  of_served m c Push t h =
      let k = map_at_hand m in
      let first = and_parts (takes m parameter.LineMap (m.registers 1)) (takes_all m (parameter.Value ∷ parameter.Number ∷ []) 2) t in
      let second = and_parts (takes m parameter.Value (m.registers 2)) (takes_all m (parameter.Number ∷ []) 3) first.1 in
      let value = value_sound m 2 h.shaped.bytes second.0 in
      let bytes = value_given m 2 in
      let flags = number_given (m.registers 3) in
      let d = directory m.maps k in
      let n = slot_count m.maps k in
      let p = pushed d n flags in
      let new = push_shaped shapes m.maps k bytes flags h.shaped value.0 value.1 in
      let parts = stored_parts (with_directory m.maps k p.directory) k p.slot bytes in
      record {
        shaped = new;
        sound = other_parts m.maps (push m.maps k bytes flags).maps k p.directory h.shaped new parts h.sound (placed_sound m.maps (push m.maps k bytes flags).maps k p.directory h.shaped new parts (pushed_sound n n d flags (h.sound k)));
      }
  of_served m c Pop t h =
      let k = map_at_hand m in
      let d = directory m.maps k in
      let n = slot_count m.maps k in
      let new = pop_shaped shapes m.maps k h.shaped in
      of_gives m (shortened d n) (code_of (peeked d n)) h.shaped (record {
        shaped = new;
        sound = other_parts m.maps (pop m.maps k).maps k (shortened d n) h.shaped new refl h.sound (placed_sound m.maps (pop m.maps k).maps k (shortened d n) h.shaped new refl (shortened_sound n n d (h.sound k)));
      })
  of_served m c Peek t h =
      let k = map_at_hand m in
      let d = directory m.maps k in
      let n = slot_count m.maps k in
      let new = peek_shaped shapes m.maps k h.shaped in
      of_gives m d (code_of (peeked d n)) h.shaped (record {
        shaped = new;
        sound = other_parts m.maps (peek m.maps k).maps k d h.shaped new refl h.sound (placed_sound m.maps (peek m.maps k).maps k d h.shaped new refl (h.sound k));
      })
  of_served m c LookUpPerCpu t h = of_found (with_maps m m.maps) (map_at_hand m) (region_at_hand m (m.registers 2)) (seek (directory m.maps (map_at_hand m)) (slot_count m.maps (map_at_hand m)) (number_given (m.registers 3)) (key_given m)) h

  of_map : (m : Machine) (f : Helper) → ((c : ℕ) → Shaped (after_serving m (served m c f))) → KeepsOpen (map_effect m f)
  of_map m f each = of_two (asks_here f (directory m.maps (map_at_hand m))) _ _ (λ v. each (number_given v)) (each 0)

  of_key : (m : Machine) → Shaped m → KeepsOpen (map_effect m MapLookupElem)
  of_key m h = of_map m MapLookupElem (λ c. of_found (with_maps m m.maps) (map_at_hand m) (region_at_hand m (m.registers 2)) (seek (directory m.maps (map_at_hand m)) (slot_count m.maps (map_at_hand m)) c (key_given m)) h)

  of_look_up : (m : Machine) (v : Value) (o : Option ℕ) → Shaped m → KeepsOpen (looked_up m v o)
  of_look_up m (value.Pointer (pointer.Map k)) (Some n) h = go (directory m.maps k)
    where
      go : (d : Directory) → KeepsOpen (looked_up_in m k n d)
      go directories.Array = h
      go directories.PerCpu = of_key m h
      go (directories.Hash s ks) = of_key m h
      go (directories.Queue l) = of_key m h
      go (directories.Stack l) = of_key m h
  of_look_up m (value.Pointer (pointer.Map k)) None h = tt
  of_look_up m v o h = tt

  of_helper : (m : Machine) (f : Helper) → takes_all m (parameters f) 1 ≡ true → Shaped m → KeepsOpen (call_effect m f)
  of_helper m MapLookupElem t h = of_look_up m (m.registers 1) (key m (m.registers 2)) h
  of_helper m (OnMap g) t h = of_map m (OnMap g) (λ c. of_served m c g t h)
  of_helper m f t h = λ v. h

  of_call : (c : Callback) (m : Machine) (o : Option Helper) → Shaped m → KeepsOpen (call_helper c m o)
  of_call c m None h = tt
  of_call c m (Some f) h = go (is_allowed f c) (takes_all m (parameters f) 1) refl
    where
      go : (b d : Bool) → takes_all m (parameters f) 1 ≡ d → KeepsOpen (if b && d then call_effect m f else effect.Stuck)
      go true true t = of_helper m f t h
      go true false t = tt
      go false d t = tt

  -- ---- runs

  of_instruction : (c : Callback) (i : Insn) (m : Machine) → Shaped m → KeepsOpen (act c i m)
  of_instruction c (insn.Binary w o d x) m h = of_register m (number d) (binary m w o (m.registers (number d)) x) h
  of_instruction c (insn.Negate w d) m h = of_register m (number d) (on_number (negative w) (m.registers (number d))) h
  of_instruction c (insn.SignExtend x d r) m h = of_register m (number d) (on_number (sign_extension x) (m.registers (number r))) h
  of_instruction c (insn.ByteSwap o w d) m h = of_register m (number d) (on_number (byte_swapped o w) (m.registers (number d))) h
  of_instruction c (insn.LoadImmediate d low high) m h = of_register m (number d) (Some (value.Number (wide_immediate low high))) h
  of_instruction c (insn.LoadMapReference d k) m h = of_register m (number d) (map_reference m.maps k) h
  of_instruction c (insn.Load a d r offset) m h = of_load m (number d) a (address m.maps (m.registers (number r)) offset (size_bytes (access_size a))) h
  of_instruction c (insn.Store s r offset x) m h = of_store m s (operand_value m Bits64 x) (address m.maps (m.registers (number r)) offset (size_bytes s)) (address_lies m.maps (m.registers (number r)) offset (size_bytes s)) h
  of_instruction c (insn.JumpIf w k r x offset) m h = of_branch m (comparison_answer m w k (m.registers (number r)) x) h
  of_instruction c (insn.Goto offset) m h = h
  of_instruction c (insn.GotoLong offset) m h = h
  of_instruction c (insn.Call k) m h = of_call c m _ h
  of_instruction c insn.Exit m h = of_two (answers c) _ _ (of_end (m.registers 0)) tt

  of_goes : (o : Option ℕ) (m : Machine) → Shaped m → StepsKeep (goes o m)
  of_goes None m h = tt
  of_goes (Some t) m h = h

  of_effect : (s : ℕ) (i : Insn) (e : Effect) → KeepsOpen e → StepsKeep (outcome_at s i e)
  of_effect s i effect.Stuck o = tt
  of_effect s i (effect.Next m) o = o
  of_effect s i (effect.Jumped m) o = of_goes (target s i) m o
  of_effect s i (effect.Ask q go) o = o
  of_effect s i (effect.Ended n) o = tt

  of_step : (c : Callback) (code : Code) (s : ℕ) (m : Machine) → Shaped m → StepsKeep (step c code s m)
  of_step c code s m h = go (at code s)
    where
      go : (o : Option Insn) → StepsKeep (outcome_of c s o m)
      go None = tt
      go (Some i) = of_effect s i (act c i m) (of_instruction c i m h)

  module _ {W : Type 0} (answer : W → Query → Value) (after : W → Query → W) where
    ending_shaped : (on : ℕ → Machine → W → Ending W) → ((t : ℕ) (k : Machine) (v : W) → Shaped k → AreMapsOf shapes (on t k v).maps) → (o : Outcome) → StepsKeep o → (m : Machine) (w : W) → Shaped m → AreMapsOf shapes (ending_of answer after on o m w).maps
    ending_shaped on all Stuck keeps m w h = h
    ending_shaped on all (Goes t k) keeps m w h = all t k w keeps
    ending_shaped on all (Asks q t go) keeps m w h = all t (go (answer w q)) (after w q) (keeps (answer w q))
    ending_shaped on all (Ends x) keeps m w h = h

    -- a run keeps the shapes of maps
    pub run_shaped : (c : Callback) (code : Code) (n s : ℕ) (m : Machine) (w : W) → Shaped m → AreMapsOf shapes (run_within answer after c code n s m w).maps
    run_shaped c code zero s m w h = h
    run_shaped c code (suc n) s m w h = ending_shaped (λ t k v. run_within answer after c code n t k v) (λ t k v x. run_shaped c code n t k v x) (step c code s m) (of_step c code s m h) m w h

  -- ---- events

  pub called_shaped : (p : Option VerifiedProgram) (b : Callback) (a : Args) (maps : Maps) (w : WorldState) → AreMapsOf shapes maps → AreMapsOf shapes (call_ending p b a maps w).maps
  unfolding call_ending run_of
  called_shaped None b a maps w h = h
  called_shaped (Some p) b a maps w h = run_shaped (answer_to world_functions) (after_query world_functions) b p.code (suc (instruction_count p.code)) 0 (start.start (program_arguments a) maps) w h

  -- the maps of the state have the shapes
  abbrev AreShaped : PolicyState → Maps → Type 0
  AreShaped p maps = AreMapsOf shapes maps

  abbrev Anything : WorldState → Type 0
  Anything w = Unit {0}

  shaped_eject : (s : State) (x : Eject) → AreMapsOf shapes s.maps → AreMapsOf shapes (eject s x).state.maps
  unfolding eject moves_over
  shaped_eject s x h = h

  shaped_ejected : (o : Option Cause) (s : State) → AreMapsOf shapes s.maps → AreMapsOf shapes (ejected_for o s).state.maps
  shaped_ejected None s h = h
  shaped_ejected (Some x) s h = shaped_eject s _ h

  shaped_call_back : (s : State) (b : Callback) (a : Args) (t c : ℕ) → AreMapsOf shapes s.maps → AreMapsOf shapes (call_back s b a t c).state.maps
  unfolding call_back
  shaped_call_back s b a t c h =
      let e = call_ending (acting s b) b a s.maps (at_callback s.world b t c) in
      shaped_ejected (cause_of b e) (after_callback s.policy e) (called_shaped (acting s b) b a s.maps (at_callback s.world b t c) h)

  shaped_comes_in : (s : State) (t c : ℕ) → AreMapsOf shapes s.maps → AreMapsOf shapes (comes_in s t c).state.maps
  unfolding comes_in enters enters_builtin
  shaped_comes_in s t c h = keeps_if (λ (r : Stepped). AreMapsOf shapes r.state.maps) (is_ejected s) (enters_builtin s t) (enters s t (enqueue_choice s.policy.callbacks.enqueue c s.world.call.insert)) h h

  shaped_put : (s : State) (t c flags : ℕ) → AreMapsOf shapes s.maps → AreMapsOf shapes (put s t c flags).state.maps
  unfolding put
  shaped_put s t c flags h =
      let r = call_back s callback.Enqueue (task_and_number t flags) t c in
      shaped_comes_in r.state t c (shaped_call_back s callback.Enqueue (task_and_number t flags) t c h)

  shaped_settled : (o : Option Insert) (s : State) (t c : ℕ) → AreMapsOf shapes s.maps → AreMapsOf shapes (insert_or_put o s t c).state.maps
  unfolding enters
  shaped_settled None s t c h = shaped_put s t c 1 h
  shaped_settled (Some i) s t c h = h

  shaped_steps : IsKeptByAll (Unit {0}) AreShaped Anything
  shaped_steps = record {
    called_back = λ s b a t c barred h. (shaped_call_back s b a t c h.0, tt);
    ejected = λ s x h. (shaped_eject s x h.0, tt);
    puts = λ s t c flags h. (shaped_put s t c flags h.0, tt);
    settled = λ u s t c force wanted h. (shaped_settled u.call.insert s t c h.0, tt);
    left = λ w t h. tt;
    brings = λ o w c h. tt;
    parked = λ w t h. tt;
    started = λ w t c h. tt;
    kept = λ w o h. tt;
    stopped = λ w c t h. tt;
    charged = λ w t h. tt;
    caught_up = λ w t h. tt;
    cycled = λ w o h. tt;
    passes = λ w o x h. tt;
    woken = λ w t h. tt;
    asleep = λ w t h. tt;
    ticked = λ w t h. tt;
    used = λ w t h. tt;
    let_off = λ w t h. tt;
    begun = λ w h. tt;
    reweighed = λ may w g x h. tt;
    fronted = λ w t c h. tt;
    runs = λ w c t h. tt;
    lengthened = λ w t h. tt;
    cut_off = λ w t h. tt;
    homed = λ w t c h. tt;
    chosen = λ w t h. tt;
    at_hand = λ w t c h. tt;
    kicks = λ w c h. tt;
    unkicked = λ w c h. tt;
    counted = λ w b h. tt;
    unstarted = λ w n h. tt;
    weighed = λ may w t x h. tt;
  }

  -- an event keeps the shapes of maps
  pub shaped_after : (s : SimState) (e : Event) → AreMapsOf shapes s.state.maps → AreMapsOf shapes (after_event s e).state.maps
  shaped_after s e h = (walk_one (Unit {0}) AreShaped Anything shaped_steps s e (λ x. tt) (h, tt)).0
