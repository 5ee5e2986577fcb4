-- The laws of `converts`, in the order in which they build on each other.
pub mod OldImageLaws
pub mod ReadApartLaws
pub mod GrownLaws
pub mod RowGainsLaws
pub mod Converted
pub mod CallLaws
pub mod WorkedConversions
