pub mod Pushing
pub mod CondForms
pub mod StatementForms
pub mod CondsSpelled
pub mod StatementsSpelled
pub mod CutTokens
pub mod ReadTokens
