pub mod Certifying
pub mod Crossing
pub mod Cutting
pub mod Distinct
pub mod Json
pub mod Signed
