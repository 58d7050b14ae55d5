pub mod StepLaws
pub mod FormedLaws
