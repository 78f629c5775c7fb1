pub mod AfterLemmas
pub mod TailLemmas
pub mod WatchLemmas
