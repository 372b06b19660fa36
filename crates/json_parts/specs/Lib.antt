pub mod Items
pub mod Outline
pub mod Places
pub mod Small
