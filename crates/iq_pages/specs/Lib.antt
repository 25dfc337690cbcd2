pub mod MemoryPages
pub mod MemoryView
pub mod PageCalls
pub mod Pages
