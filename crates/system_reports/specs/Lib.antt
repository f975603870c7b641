pub mod AcceptedBytes
