pub mod PageLaws
pub mod PagesInMemory
