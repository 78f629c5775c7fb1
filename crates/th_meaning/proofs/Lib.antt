pub mod DepthLemmas
pub mod Effects
pub mod EffectLaws
pub mod Fine
pub mod Forms
pub mod LawProofs
mod Examples
