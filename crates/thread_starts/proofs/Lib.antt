pub mod CrewLemmas
