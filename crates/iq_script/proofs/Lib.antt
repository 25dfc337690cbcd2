pub mod LineLaws
pub mod Places
mod Sessions
mod Loading
pub mod Kept
mod Causes
pub mod Loop
pub mod ScriptLaws
