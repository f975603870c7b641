mod Held
pub mod Laws
mod Numbers
mod PutValues
mod StatesStay
