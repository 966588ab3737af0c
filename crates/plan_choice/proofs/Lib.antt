pub mod ListedOffers
pub mod ChosenCosts
pub mod Orderings
pub mod OfferedLoops
pub mod Directions
pub mod PlacedItems
pub mod SoundPrefixes
pub mod SoundLevels
pub mod ChosenPlans
pub mod AdvicePlans
pub mod FittingPaths
pub mod LoopsOfOffers
pub mod KeptParts
pub mod FreeNames
pub mod OneItem
pub mod CostBounds
pub mod FittingFigures
pub mod SmallCosts
mod ExamplesOfCosts
mod ExamplesOfLevels
mod ExamplesOfNames
mod Worked
mod WorkedOneTable
mod WorkedJoins
mod WorkedOrders
mod WorkedFigures
