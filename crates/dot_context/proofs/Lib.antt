pub mod RunFacts
pub mod StepFacts
pub mod LoopFacts
pub mod SetFacts
pub mod OuterFacts
pub mod FormFacts
