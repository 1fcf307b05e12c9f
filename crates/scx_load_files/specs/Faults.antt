-- The outcome of reading a file: a value, or the path and the cause of the first fault.
use Rattle.std.specs.Prelude.{◌≡◌, ℕ, List, Result, Ok, Err, string_bytes}
use Rattle.scx_load_files.specs.declared.fault.Cause.{Cause}
use Rattle.scx_load_files.specs.declared.fault.LoadError.{LoadError}
use Rattle.scx_load_files.specs.declared.fault.LoadError.TheVariants as errors

-- the first fault of a file: the path of what is wrong, and the cause
pub record Fault : Type 0 where
  pub path : List ℕ
  pub cause : Cause

-- what reading gives
abbrev pub Reading : Type 0 → Type 0
Reading A = Result A Fault

-- a reading that is refused at that path, for that cause
abbrev pub refusal : {A : Type 0} → List ℕ → Cause → Reading A
refusal path cause = Err (record { path = path; cause = cause })

-- A function's result, seen by view, is the outcome of the reading, unless memory ran out.
abbrev pub Fails : {A : Type 0} → LoadError → Reading A → Type 0
Fails (errors.At path cause) read = read ≡ Err (record { path = string_bytes path; cause = cause })
Fails errors.NoMemory read = Unit {0}

-- what a function answered, its value seen by a view, is what reading gives, or memory ran out
abbrev pub Gives : {T A : Type 0} → (T → A) → Result T LoadError → Reading A → Type 0
Gives view (Ok x) read = read ≡ Ok (view x)
Gives view (Err e) read = Fails e read
