mod CNodeSteps
mod Decoding
mod Guarded
mod Lent
mod MappedTables
mod Roots
mod Standing
