pub mod BegunLemmas
pub mod CrashLemmas
pub mod DamageLaws
pub mod DuringLemmas
pub mod EffectLemmas
pub mod GateLogLemmas
pub mod ReadingLaws
pub mod ReadingLemmas
