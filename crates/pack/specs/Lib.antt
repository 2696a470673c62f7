pub mod Packs
pub mod Lives
