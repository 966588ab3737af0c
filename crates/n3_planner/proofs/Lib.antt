pub mod CarriedKeys
pub mod NamedKeys
pub mod OfferedPlans
pub mod ChosenPlans
pub mod Turned
pub mod Chains
pub mod ShownPrefixes
pub mod Nearer
