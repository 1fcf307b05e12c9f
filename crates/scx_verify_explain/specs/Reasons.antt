-- The fault of each reason.
use Rattle.scx_isa.specs.declared.faults.FlowFault.{FlowFault}
use Rattle.scx_isa.specs.declared.faults.FlowFault.TheVariants.{BackJump, OutOfProgram, IntoWide, FallsOff}
use Rattle.scx_abs.specs.declared.faults.Why.{Why}
use Rattle.scx_abs.specs.declared.faults.Why.TheVariants as why
use Rattle.scx_verify.specs.declared.faults.Fault.{Fault}
use Rattle.scx_verify.specs.declared.faults.Fault.TheVariants as fault
use Rattle.scx_verify_explain.specs.declared.reasons.BadFlow.{BadFlow}
use Rattle.scx_verify_explain.specs.declared.reasons.BadFlow.TheVariants as flow
use Rattle.scx_verify_explain.specs.declared.reasons.BadValue.{BadValue}
use Rattle.scx_verify_explain.specs.declared.reasons.BadValue.TheVariants as value
use Rattle.scx_verify_explain.specs.declared.reasons.BadAccess.{BadAccess}
use Rattle.scx_verify_explain.specs.declared.reasons.BadAccess.TheVariants as access
use Rattle.scx_verify_explain.specs.declared.reasons.BadCall.{BadCall}
use Rattle.scx_verify_explain.specs.declared.reasons.BadCall.TheVariants as call
use Rattle.scx_verify_explain.specs.declared.reasons.Reason.{Reason}
use Rattle.scx_verify_explain.specs.declared.reasons.Reason.TheVariants as reason

-- the fault of the flow that a reason is of
abbrev pub flow_fault : BadFlow → FlowFault
flow_fault (flow.Back to) = BackJump
flow_fault (flow.OutOfProgram to slots) = OutOfProgram
flow_fault (flow.IntoWide to) = IntoWide
flow_fault flow.FallsOff = FallsOff

-- the failed check that a reason about a value is of
abbrev pub value_fault : BadValue → Why
value_fault (value.Unusable r) = why.UnusableRegister
value_fault value.Frame = why.WritesFrame
value_fault (value.MayBeNull r) = why.NullNotTested
value_fault (value.Arithmetic r kind) = why.PointerArithmetic
value_fault (value.Comparison r kind) = why.PointerCompare
value_fault (value.Stored r kind) = why.PointerStore
value_fault (value.Answer kind callback) = why.BadReturn

-- the failed check that a reason about an access or a moved pointer is of
abbrev pub access_fault : BadAccess → Why
access_fault (access.Unwritten reach byte) = why.UnwrittenStack
access_fault (access.PartOfPointer reach kind) = why.UnwrittenStack
access_fault (access.NoPointer r kind) = why.OutOfBounds
access_fault (access.Outside reach) = why.OutOfBounds
access_fault (access.MovedOut r place) = why.OutOfBounds
access_fault (access.Misaligned reach) = why.Misaligned

-- the failed check that a reason about a call is of
abbrev pub call_fault : BadCall → Why
call_fault (call.Unknown number) = why.UnknownHelper
call_fault (call.NotHere number callback) = why.HelperNotHere
call_fault (call.Argument number r kind parameter) = why.BadArgument

-- the fault that a reason is of
abbrev pub fault_of : Reason → Fault
fault_of (reason.Flow b) = fault.Flow (flow_fault b)
fault_of (reason.Value b) = fault.Rule (value_fault b)
fault_of (reason.Access b) = fault.Rule (access_fault b)
fault_of (reason.Field b) = fault.Rule why.TaskField
fault_of (reason.Call b) = fault.Rule (call_fault b)
fault_of (reason.UnknownMap map maps) = fault.Rule why.UnknownMap
