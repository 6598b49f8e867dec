pub mod Answers
pub mod Responses
pub mod Charts
pub mod Books
