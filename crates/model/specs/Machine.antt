-- The machine: instructions, their effects, and page tables.
pub mod Instructions
pub mod Decoding
pub mod ProgramMemory
pub mod Effects
pub mod Sv32
