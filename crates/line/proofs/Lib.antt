pub mod Joins
pub mod Sends
pub mod Agrees
pub mod Staged
pub mod Walks
pub mod Lives
pub mod Strings
pub mod Plays
