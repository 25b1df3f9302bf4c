pub mod Numbers
pub mod Again
pub mod ExactHeader
pub mod OneField
pub mod JournalFrames
pub mod HeaderKinds
