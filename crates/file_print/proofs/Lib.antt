mod KeptTexts
pub mod TextSteps
