-- The laws of this crate.
pub mod CloseLaws
pub mod Chains
pub mod RunLaws
pub mod DefaultFigureLaws
pub mod StatLaws
pub mod HighWaterLaws
