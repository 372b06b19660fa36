pub mod Asking
pub mod Fitting
pub mod Lengths
pub mod Others
pub mod Parts
