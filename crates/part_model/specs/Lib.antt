pub mod Lawful
pub mod Holding
pub mod Apply
pub mod Stretches
pub mod Totals
pub mod Laws
