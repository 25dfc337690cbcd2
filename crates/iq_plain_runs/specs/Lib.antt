pub mod Firsts
pub mod Courses
