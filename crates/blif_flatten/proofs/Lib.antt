pub mod FirstPlaces
pub mod NameSets
pub mod Items
pub mod Numbering
pub mod Walking
pub mod Marking
