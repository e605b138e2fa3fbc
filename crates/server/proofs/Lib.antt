pub mod Sets
pub mod Views
pub mod Memory
pub mod ByKind
pub mod Outcomes
pub mod Laws
