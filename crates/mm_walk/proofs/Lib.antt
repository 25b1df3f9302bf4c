pub mod WalkLaws
pub mod Walking
pub mod Linked
pub mod Phases
pub mod Listed
pub mod TileLaws
pub mod Sorted
pub mod QuestionLaws
