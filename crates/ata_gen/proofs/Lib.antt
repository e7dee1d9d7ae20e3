pub mod HeadsRight
pub mod ScriptsRight
pub mod StepsMade
pub mod StepsRight
