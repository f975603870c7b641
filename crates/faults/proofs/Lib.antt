pub mod EndpointsThere
pub mod Found
pub mod ThreadsInside
