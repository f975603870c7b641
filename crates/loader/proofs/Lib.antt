pub mod AcceptedBoots
