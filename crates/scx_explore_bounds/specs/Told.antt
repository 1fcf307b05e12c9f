-- Laws: what a listing shows of each run of its program.
use Rattle.std.specs.Prelude.{◌≡◌, ℕ, Bool, true, false, List, Option, Some, None}
use Rattle.std.specs.List.{AllByRecursion}
use Rattle.scx_isa_semantics.specs.declared.host_tables.Field.{Field}
use Rattle.scx_isa_semantics.specs.declared.host_tables.Field.TheVariants as field
use Rattle.scx_isa_semantics.specs.declared.host_tables.Helper.{Helper}
use Rattle.scx_isa_semantics.specs.declared.host_tables.Helper.TheVariants as helper
use Rattle.scx_isa_semantics.specs.declared.instructions.Insn.{Insn}
use Rattle.scx_isa_semantics.specs.declared.rules.Rules.{Rules}
use Rattle.scx_isa_semantics.specs.Callbacks as programs
use Rattle.scx_isa_semantics.specs.Callbacks.{callbacks}
use Rattle.scx_isa_semantics.specs.Code.{Code, at}
use Rattle.scx_isa.specs.Spelling.{IsProgram}
use Rattle.scx_maps.specs.declared.shape.Shape.{Shape}
use Rattle.scx_vm.specs.declared.context.Context.{Context}
use Rattle.scx_vm.specs.Programs.{context, by_rules}
use Rattle.scx_load_policies.specs.Policies.{Programs}
use Rattle.scx_verify.specs.Typing.{IsTyped}
use Rattle.scx_verify_explain.specs.declared.listing.Listing.{Listing}
use Rattle.scx_verify_explain.specs.Listings.{IsListing}
use Rattle.scx_explore_states.specs.Asking.{LoadsNo, GivesOne, AsksOnly, is_early}
use Rattle.scx_explore_bounds.specs.declared.uses.Use.{Use}
use Rattle.scx_explore_bounds.specs.declared.uses.Use.TheVariants as such
use Rattle.scx_explore_bounds.specs.declared.uses.Uses.{Uses}
use Rattle.scx_explore_bounds.specs.Uses.{is_call, is_any_load, has}
use Rattle.scx_explore_bounds.specs.Forms.{no_uses, DoAll}

-- if a listing of a program that passes has no load of a field of a task, no run loads it
abbrev pub ListingsTellLoads : Type 0
ListingsTellLoads =
    (c : Context) (code : Code) (l : Listing) (f : Field)
    → IsProgram code → IsTyped c code → IsListing c code l → has l (such.Load f) ≡ false
    → AsksOnly (LoadsNo f) c code

-- if it has no insert whose slice may be 0, each insert of a run gives a slice
abbrev pub ListingsTellInserts : Type 0
ListingsTellInserts =
    (c : Context) (code : Code) (l : Listing)
    → IsProgram code → IsTyped c code → IsListing c code l → has l such.EmptySlice ≡ false
    → AsksOnly GivesOne c code

-- ---- instructions

-- no instruction of the program is such
abbrev pub HasNone : (Option Insn → Bool) → Code → Type 0
HasNone is code = (slot : ℕ) → is (at code slot) ≡ false

-- no instruction of the program calls that helper
abbrev pub CallsNone : Helper → Code → Type 0
CallsNone h code = HasNone (is_call h) code

-- no instruction of the program loads the bytes at which that field of a task lies
abbrev pub HasNoLoadAt : Field → Code → Type 0
HasNoLoadAt f code = HasNone (is_any_load f) code

-- if a listing has no such use, no instruction of its program is such
abbrev pub ListingsTell : Use → (Option Insn → Bool) → Type 0
ListingsTell u is =
    (c : Context) (code : Code) (l : Listing)
    → IsListing c code l → has l u ≡ false → HasNone is code

-- if a listing has no call of a helper, its program has none
abbrev pub ListingsTellCalls : Type 0
ListingsTellCalls = (h : Helper) → ListingsTell (such.Call h) (is_call h)

-- if a listing has no load of the bytes at which a field of a task lies, its program has none
abbrev pub ListingsTellAnyLoads : Type 0
ListingsTellAnyLoads = (f : Field) → ListingsTell (such.AnyLoad f) (is_any_load f)

-- ---- uses

-- A program does nothing else than that: it calls no other helper, it has no load at the offset of
-- a slice or a run time, and no run of it loads another field, or inserts with a slice of 0, as
-- long as arguments, maps and answers fit.
pub record DoesNoMore (u : Uses) (c : Context) (code : Code) : Type 0 where
  pub clock : u.clock ≡ false → CallsNone helper.KtimeGetNs code
  pub random : u.random ≡ false → CallsNone helper.PrandomU32 code
  pub task_by_pid : u.task_by_pid ≡ false → CallsNone helper.TaskByPid code
  pub other_task :
      u.other_task ≡ false → CallsNone helper.CpuCurr code × CallsNone helper.DsqPeek code
  pub vtime_inserts : u.vtime_inserts ≡ false → CallsNone helper.DsqInsertVtime code
  pub pid : u.pid ≡ false → AsksOnly (LoadsNo field.Pid) c code
  pub weight : u.weight ≡ false → AsksOnly (LoadsNo field.Weight) c code
  pub vtime : u.vtime ≡ false → AsksOnly (LoadsNo field.DsqVtime) c code
  pub run_ns : u.run_ns ≡ false → AsksOnly (LoadsNo field.RunNs) c code
  pub slice : u.slice ≡ false → AsksOnly (LoadsNo field.Slice) c code
  pub early_slice :
      u.early_slice ≡ false
      → is_early c.callback true ≡ true
      → AsksOnly (LoadsNo field.Slice) c code
  pub empty_slice : u.empty_slice ≡ false → AsksOnly GivesOne c code
  pub has_count_load :
      u.has_count_load ≡ false → HasNoLoadAt field.Slice code × HasNoLoadAt field.RunNs code

-- so it is with a program that passes in that context, if there is one
abbrev pub IfDoesNoMore : Uses → Context → Option Code → Type 0
IfDoesNoMore u c None = Unit {0}
IfDoesNoMore u c (Some code) = IsTyped c code → DoesNoMore u c code

-- what the programs of a policy do tells what none of them does in any run
abbrev pub UsesTellRuns : Type 0
UsesTellRuns =
    (r : Rules) (shapes : List Shape) (p : Programs) (u : Uses)
    → DoAll r shapes p callbacks no_uses u
    → AllByRecursion (λ b. IfDoesNoMore u (by_rules r (context b shapes)) (programs.at p b))
    callbacks
