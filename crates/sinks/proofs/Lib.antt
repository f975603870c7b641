mod SinkLemmas
pub mod Laws
