-- The laws of this crate that others cite, and its theorems.
pub mod OutcomeLaws
pub mod OneResult
pub mod SoundLaws
pub mod RoomLaws
pub mod EntryWriterLaws
pub mod Worked
pub mod ShownRows
pub mod ExaminedLaws
pub mod AscendLaws
pub mod SickImages
pub mod BoneCases
pub mod FloorLaws
