pub mod Due
pub mod Growing
