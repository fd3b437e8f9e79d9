pub mod Mem
pub mod View
pub mod Laws
pub mod Items
