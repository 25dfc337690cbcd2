pub mod PutPage
pub mod Growing
pub mod PagesFilled
pub mod Counting
pub mod PagesTaken
pub mod PiecesTaken
