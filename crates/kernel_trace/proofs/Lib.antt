mod AnsweredLines
mod KernelTraces
pub mod Laws
mod PutLines
