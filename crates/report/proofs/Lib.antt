pub mod Puts
pub mod Decimals
pub mod Numerals
pub mod LineLaws
pub mod StepTexts
pub mod Printed
pub mod Bound
pub mod Examples
