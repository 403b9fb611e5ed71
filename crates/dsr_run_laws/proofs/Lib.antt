pub mod Again
pub mod RulesOnce
pub mod StepOnce
pub mod RunOnce
