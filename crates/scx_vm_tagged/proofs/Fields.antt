-- Loads of fields of tasks.
use Rattle.std.proofs.Common.{◌≡◌, ℕ, true, false, nat_eq}
use Rattle.scx_isa_semantics.specs.declared.operations.Access.{Access}
use Rattle.scx_isa_semantics.specs.declared.host_tables.TaskId.{TaskId}
use Rattle.scx_isa_semantics.specs.declared.host_tables.Field.{Field}
use Rattle.scx_isa_semantics.specs.declared.values.Value.{Value}
use Rattle.scx_isa_semantics.specs.Effects.{Load}
use Rattle.scx_isa_semantics.specs.Machine.{Machine, with_register}
use Rattle.scx_isa_semantics.specs.Meaning.{is_plain, load_effect}
use Rattle.scx_isa_semantics.specs.Locations.{InTask}
use Rattle.scx_isa_semantics.specs.Runs.{Outside}
use Rattle.scx_vm_tagged.specs.Execute.{GoesOn}

-- one of which is asked, and kept in a register
pub field_loaded : {W : Type 0} (O : Outside W) (m : Machine) (r : ℕ) (a : Access) (t : TaskId) (f : Field) (v : Value) (w : W) (m' : Machine) → is_plain a ≡ true → nat_eq r 10 ≡ false
    → O w (Load t f) v w → m' ≡ with_register m r v → GoesOn O (load_effect m r a (InTask t f)) w m' w
field_loaded O m r a t f v w m' plain other answered written = rw (plain, other) (v, answered, written)
