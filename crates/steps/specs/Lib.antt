pub mod After
pub mod InMemory
pub mod Ready
