pub mod Alike
pub mod Seated
pub mod Settled
pub mod Words
