-- The JSON objects of verdicts, one on a line for each callback that is there. An object says what
-- the line of the verdict says.
use Rattle.std.specs.Prelude.{ℕ, List, [], ◌∷◌, ◌++◌, codes, decimal, Option, Some, None}
use Rattle.json.specs.Json.{Json, string, number, object, Members, no_members, member}
use Rattle.json.specs.Tree.{json_tokens}
use Rattle.json.specs.Print.{print}
use Rattle.scx_isa_semantics.specs.declared.callbacks.Callback.{Callback}
use Rattle.scx_isa_semantics.specs.Callbacks.{callback_name, callbacks, at}
use Rattle.scx_verify.specs.declared.faults.Fault.{Fault}
use Rattle.scx_verify.specs.Faults.{fault_number, fault_name}
use Rattle.scxsim_commands.specs.declared.verdict.Verdict.{Verdict}
use Rattle.scxsim_commands.specs.declared.verdict.Verdict.TheVariants.{Accepted, Refused}
use Rattle.scxsim_commands.specs.Verdicts.{Verdicts}

-- `accepted` with the number of instructions
abbrev pub accepted_members : ℕ → Members
accepted_members count =
    member (codes "verdict") (string (codes "accepted"))
    (member (codes "instructions") (number (decimal count)) no_members)

-- `refused` with the fault, by its number and name, and its slot
abbrev pub refused_members : Fault → ℕ → Members
refused_members fault slot =
    member (codes "verdict") (string (codes "refused"))
    (member (codes "fault") (number (decimal (fault_number fault)))
    (member (codes "name") (string (fault_name fault))
    (member (codes "slot") (number (decimal slot)) no_members)))

-- the members that say the verdict
abbrev pub verdict_members : Verdict → Members
verdict_members (Accepted count) = accepted_members count
verdict_members (Refused fault slot) = refused_members fault slot

-- a callback and its verdict
abbrev pub verdict_object : Callback → Verdict → Json
verdict_object b verdict =
    object (member (codes "callback") (string (callback_name b)) (verdict_members verdict))

-- a value on a line
abbrev pub json_line : Json → List ℕ
json_line value = print (json_tokens value) ++ codes "\n"

-- the object of a callback that has a verdict, on a line; nothing where it has none
abbrev pub object_of : Callback → Option Verdict → List ℕ
object_of b None = []
object_of b (Some verdict) = json_line (verdict_object b verdict)

-- the objects of these callbacks, one after another
abbrev pub objects_of : Verdicts → List Callback → List ℕ
objects_of v [] = []
objects_of v (b ∷ bs) = object_of b (at v b) ++ objects_of v bs

-- in the order of callbacks
abbrev pub verdict_objects : Verdicts → List ℕ
verdict_objects v = objects_of v callbacks
