pub mod Texts
pub mod Plans
pub mod Keeping
pub mod Beginning
pub mod Ending
pub mod Fixed
