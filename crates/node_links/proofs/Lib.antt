pub mod Playing
pub mod Known
pub mod LineFacts
