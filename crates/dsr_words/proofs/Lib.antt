pub mod NoCommand
pub mod TrialNumbers
