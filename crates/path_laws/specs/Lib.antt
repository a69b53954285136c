pub mod Pays
pub mod Owing
pub mod Laws
pub mod Examples
