pub mod Below
pub mod BlockIds
pub mod Sip
pub mod SipHash
