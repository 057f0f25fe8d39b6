pub mod Search
pub mod Answer
pub mod Number
pub mod Promises
pub mod Checked
pub mod Table
