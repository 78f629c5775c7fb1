pub mod PutsRun
mod Forms
