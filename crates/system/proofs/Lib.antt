pub mod Turn
pub mod StepLaws
pub mod ReadyLaws
pub mod SetupLaws
pub mod RunLaws
pub mod Histories
pub mod Refusals
pub mod Bytes
