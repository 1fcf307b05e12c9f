-- What a file was read as, after a function that passes its error on.
use Rattle.std.proofs.Common.{◌≡◌, Result, Ok, Err, IfOk}
use Rattle.scx_load_files.specs.declared.fault.LoadError.{LoadError}
use Rattle.scx_load_files.specs.Faults.{Reading, Gives}
use Rattle.scxsim_commands.specs.declared.refusal.Refusal.{Refusal}
use Rattle.scxsim_runs.specs.Refusals.{or_refusal}

-- a value that is passed on from reading a file is what reading the file gives
pub read_is : {A : Type 0} (refusal_of : LoadError → Refusal) (read : Result A LoadError) (told : Result A Refusal) (means : Reading A) → Gives (λ x. x) read means → told ≡ or_refusal refusal_of read → IfOk told (λ x. means ≡ Ok x)
read_is refusal_of (Ok made) told means gives is = rw is gives
read_is refusal_of (Err e) told means gives is = rw is tt
