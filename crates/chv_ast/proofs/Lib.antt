pub mod FormedLaws
pub mod WordLemmas
