pub mod ExplainedSteps
