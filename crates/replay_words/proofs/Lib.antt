pub mod CallerLemmas
pub mod WordLemmas
pub mod AppLemmas
pub mod AcceptLemmas
pub mod ClearWords
pub mod FormLemmas
