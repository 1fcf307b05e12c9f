-- The state in which a callback begins stands for all in which it may begin.
use Rattle.std.proofs.Common.{ℕ, zero, suc, ◌*◌, ◌<◌, List, [], ◌∷◌, length, replicate, Option, Some, None, slice_get, slice_index_or, refl, arith}
use Rattle.scx_isa_semantics.specs.declared.callbacks.Callback.{Callback}
use Rattle.scx_isa_semantics.specs.declared.callbacks.ArgumentKind.{ArgumentKind}
use Rattle.scx_isa_semantics.specs.declared.callbacks.ArgumentKind.TheVariants as argument
use Rattle.scx_isa_semantics.specs.declared.values.Value.{Value}
use Rattle.scx_isa_semantics.specs.declared.values.Value.TheVariants as value
use Rattle.scx_isa_semantics.specs.declared.values.Pointer.TheVariants as pointer
use Rattle.scx_isa_semantics.specs.Memory.{Stack}
use Rattle.scx_isa_semantics.specs.Elements.{Maps}
use Rattle.scx_isa_semantics.specs.Machine.{Arguments, start, start_registers}
use Rattle.scx_abs.specs.declared.kinds.Kind.TheVariants.{Task}
use Rattle.scx_abs.specs.declared.kinds.Cell.TheVariants.{Bytes}
use Rattle.scx_abs.specs.Cells.{no_bytes}
use Rattle.scx_abs.specs.States.{kind_at, ArgumentKinds, argument_kind, argument_kinds, start_kinds}
use Rattle.scx_isa_semantics.specs.Arguments.{IsTask, callback_arguments, FitsKind, FitsKinds, FitsCallback}
use Rattle.scx_abs.specs.Stands.{Stands, CellStands}
use Rattle.scx_abs.specs.Laws.{StartIsSound}
use Rattle.scx_abs.proofs.Orders.{none_written}
use Rattle.scx_abs.proofs.Registers.{number_stands, task_or_null_fits}

blank : (maps : Maps) (n c : ℕ) (stack : Stack) (at : ℕ) → CellStands maps (slice_index_or (replicate n (Bytes no_bytes)) c (Bytes [])) stack at
blank maps zero c stack at = λ j lt w. absurd (cc)
blank maps (suc n) zero stack at = λ j lt w. absurd (none_written j lt w)
blank maps (suc n) (suc c) stack at = blank maps n c stack at

start_stands : (maps : Maps) (k : ArgumentKinds) (a : Arguments) → Stands maps k.first a.first → Stands maps k.second a.second → Stands maps k.third a.third
    → (r : ℕ) → Stands maps (kind_at (start_kinds k) r) (start_registers a r)
start_stands maps k a f g h zero = tt
start_stands maps k a f g h (suc zero) = f
start_stands maps k a f g h (suc (suc zero)) = g
start_stands maps k a f g h (suc (suc (suc zero))) = h
start_stands maps k a f g h (suc (suc (suc (suc zero)))) = tt
start_stands maps k a f g h (suc (suc (suc (suc (suc zero))))) = tt
start_stands maps k a f g h (suc (suc (suc (suc (suc (suc zero)))))) = tt
start_stands maps k a f g h (suc (suc (suc (suc (suc (suc (suc zero))))))) = tt
start_stands maps k a f g h (suc (suc (suc (suc (suc (suc (suc (suc zero)))))))) = tt
start_stands maps k a f g h (suc (suc (suc (suc (suc (suc (suc (suc (suc zero))))))))) = tt
start_stands maps k a f g h (suc (suc (suc (suc (suc (suc (suc (suc (suc (suc zero)))))))))) = refl
start_stands maps k a f g h (suc (suc (suc (suc (suc (suc (suc (suc (suc (suc (suc r))))))))))) = tt

task_fits : (maps : Maps) (v : Value) → IsTask v → Stands maps Task v
task_fits maps (value.Pointer (pointer.Task t)) h = tt
task_fits maps v h = absurd h

-- the kinds of a callback's arguments stand for them
record Fit (maps : Maps) (k : ArgumentKinds) (a : Arguments) : Type 0 where
  first : Stands maps k.first a.first
  second : Stands maps k.second a.second
  third : Stands maps k.third a.third

-- a value is of that kind, if there is one
abbrev FitsSome : Option ArgumentKind → Value → Type 0
FitsSome None v = Unit {0}
FitsSome (Some k) v = FitsKind k v

argument_fits : (maps : Maps) (k : Option ArgumentKind) (v : Value) → FitsSome k v → Stands maps (argument_kind k) v
argument_fits maps None v h = tt
argument_fits maps (Some argument.Task) v h = task_fits maps v h
argument_fits maps (Some argument.TaskOrNull) v h = task_or_null_fits maps v h
argument_fits maps (Some argument.Number) v h = number_stands maps v h

each_fits : (ks : List ArgumentKind) (vs : List Value) (k : ℕ) (d : Value) → k < length vs → FitsKinds ks vs → FitsSome (slice_get ks k) (slice_index_or vs k d)
each_fits [] vs k d lt h = tt
each_fits (q ∷ ks) [] k d lt h = absurd (omega (arith, lt))
each_fits (q ∷ []) (v ∷ vs) zero d lt h = h
each_fits (q ∷ []) (v ∷ vs) (suc k) d lt h = tt
each_fits (q ∷ l ∷ ks) (v ∷ vs) zero d lt h = h.0
each_fits (q ∷ l ∷ ks) (v ∷ vs) (suc k) d lt h = each_fits (l ∷ ks) vs k d (omega (arith, lt)) h.1

arguments_fit : (c : Callback) (maps : Maps) (a : Arguments) → FitsCallback c a → Fit maps (argument_kinds c) a
arguments_fit c maps a h =
    let values = a.first ∷ a.second ∷ a.third ∷ [] in
    let kinds = callback_arguments c in
    record {
      first = argument_fits maps (slice_get kinds 0) a.first (each_fits kinds values 0 value.Unset (omega arith) h);
      second = argument_fits maps (slice_get kinds 1) a.second (each_fits kinds values 1 value.Unset (omega arith) h);
      third = argument_fits maps (slice_get kinds 2) a.third (each_fits kinds values 2 value.Unset (omega arith) h);
    }

-- the law
pub begins_sound : StartIsSound
begins_sound shapes c a maps shaped fits =
    let args = arguments_fit c maps a fits in
    record {
      registers = start_stands maps (argument_kinds c) a args.first args.second args.third;
      cells = λ i. blank maps 64 i (start a maps).stack (8 * i);
      maps = shaped;
    }
