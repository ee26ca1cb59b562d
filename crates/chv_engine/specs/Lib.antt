pub mod Damage
pub mod DamageLines
pub mod Ends
pub mod Pulls
pub mod Telling
pub mod Words
