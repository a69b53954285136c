pub mod Win
