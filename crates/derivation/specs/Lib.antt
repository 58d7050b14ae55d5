pub mod StepReply
