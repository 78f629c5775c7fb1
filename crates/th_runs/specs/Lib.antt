pub mod Stand
pub mod Runs
pub mod Agreement
pub mod Simulation
