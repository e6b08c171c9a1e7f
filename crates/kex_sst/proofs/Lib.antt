pub mod Passes
pub mod Courses
pub mod Fans
