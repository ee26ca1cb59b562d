pub mod Crashes
pub mod GateLog
pub mod Reading
