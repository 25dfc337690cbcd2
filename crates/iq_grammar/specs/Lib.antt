pub mod Grammar
pub mod Draft
pub mod Reading
pub mod Statements
pub mod Directives
