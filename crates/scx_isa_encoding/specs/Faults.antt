-- The numbers and names of the faults of bytes, as a refusal prints them. RFC 9669 says which
-- encodings are wrong; numbers and names are this project's own.
use Rattle.std.specs.Prelude.{ℕ, List, codes}
use Rattle.scx_isa_encoding.specs.declared.faults.Exclusion.{Exclusion}
use Rattle.scx_isa_encoding.specs.declared.faults.Exclusion.TheVariants.{Atomic32, Atomic64, Packet, LocalCall, BtfCall, MapByFd, MapValueByFd, VariableAddress, CodeAddress, MapValueByIndex}
use Rattle.scx_isa_encoding.specs.declared.faults.DecodeFault.{DecodeFault}
use Rattle.scx_isa_encoding.specs.declared.faults.DecodeFault.TheVariants.{Empty, TooLong, NotWholeSlots, UnknownOpcode, NotInProfile, BadRegister, UnusedField, HalfWide, BadOffset, BadWidth}

-- the number by which a refusal names a fault; all exclusions have the same
abbrev pub decode_number : DecodeFault → ℕ
decode_number Empty = 1
decode_number TooLong = 2
decode_number NotWholeSlots = 3
decode_number UnknownOpcode = 4
decode_number (NotInProfile e) = 5
decode_number BadRegister = 6
decode_number UnusedField = 7
decode_number HalfWide = 8
decode_number BadOffset = 9
decode_number BadWidth = 10

-- the name of a refusal for an excluded instruction, which names its kind
abbrev pub exclusion_name : Exclusion → List ℕ
exclusion_name Atomic32 = codes "NotInProfile(atomic32)"
exclusion_name Atomic64 = codes "NotInProfile(atomic64)"
exclusion_name Packet = codes "NotInProfile(packet)"
exclusion_name LocalCall = codes "NotInProfile(local call)"
exclusion_name BtfCall = codes "NotInProfile(BTF call)"
exclusion_name MapByFd = codes "NotInProfile(map by fd)"
exclusion_name MapValueByFd = codes "NotInProfile(map value by fd)"
exclusion_name VariableAddress = codes "NotInProfile(variable address)"
exclusion_name CodeAddress = codes "NotInProfile(code address)"
exclusion_name MapValueByIndex = codes "NotInProfile(map value by index)"

-- the name of a fault in a refusal
abbrev pub decode_name : DecodeFault → List ℕ
decode_name Empty = codes "Empty"
decode_name TooLong = codes "TooLong"
decode_name NotWholeSlots = codes "NotWholeSlots"
decode_name UnknownOpcode = codes "UnknownOpcode"
decode_name (NotInProfile e) = exclusion_name e
decode_name BadRegister = codes "BadRegister"
decode_name UnusedField = codes "UnusedField"
decode_name HalfWide = codes "HalfWide"
decode_name BadOffset = codes "BadOffset"
decode_name BadWidth = codes "BadWidth"
