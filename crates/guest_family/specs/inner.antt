-- What only proofs and inner contracts need.
pub mod EndedStarters
pub mod Kin
pub mod Left
pub mod Next
pub mod UnderWay
