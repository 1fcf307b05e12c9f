mod Lists
pub mod Orders
pub mod Joins
mod Blanks
pub mod Proper
mod Bytes
mod Sets
mod Parameters
mod MapShapes
mod Registers
mod Elements
mod Operations
mod SingleNumbers
mod Stores
pub mod Accesses
mod Filled
mod Codes
mod Fillings
mod Branches
pub mod HelperCalls
mod Starts
pub mod Sound
mod MonotoneRegisters
mod MonotoneOperations
mod MonotoneAccesses
mod MonotoneBranches
mod MonotoneCalls
pub mod MonotoneRules
