-- What was pulled of a source, and why a script was not pulled whole.
use Rattle.std.specs.Prelude.{ℕ, ◌≡◌, ◌<◌, ◌≤◌, ◌+◌, List, [], ◌++◌, length, Result, IsErrOf}
use Rattle.chv_site.specs.Faults.{HasRisen}
use Rattle.chv_engine.specs.declared.pull.PullFault.{PullFault}
use Rattle.chv_engine.specs.declared.pull.PullFault.TheVariants.{Failed, TooLong, NoMemory}

-- the most bytes that a script has
abbrev pub MAX_SCRIPT : ℕ
MAX_SCRIPT = 67108864

-- the most bytes that are pulled at once
abbrev pub MAX_PULL : ℕ
MAX_PULL = 16384

-- these bytes were pulled: they stood in front of what is left
abbrev pub IsPulled : List ℕ → List ℕ → List ℕ → Type 0
IsPulled before now pulled = before ≡ pulled ++ now

-- at most so many bytes were pulled as a script has
abbrev pub PulledWithin : List ℕ → List ℕ → Type 0
PulledWithin before now = (pulled : List ℕ) × IsPulled before now pulled × (length pulled ≤ MAX_SCRIPT)

-- more bytes were pulled than a script has, and no more than one pull brings beyond it
pub record PulledTooMuch (before now : List ℕ) : Type 0 where
  pub pulled : List ℕ
  pub is : IsPulled before now pulled
  pub more : MAX_SCRIPT < length pulled
  pub stops : length pulled ≤ MAX_SCRIPT + MAX_PULL

-- all was pulled, which is no more than a script has
abbrev pub PulledAll : List ℕ → List ℕ → Type 0
PulledAll before now = (now ≡ []) × (length before ≤ MAX_SCRIPT)

-- what was pulled before each fault
abbrev pub PulledUpTo : List ℕ → List ℕ → PullFault → Type 0
PulledUpTo before now Failed = PulledWithin before now
PulledUpTo before now TooLong = PulledTooMuch before now
PulledUpTo before now NoMemory = PulledWithin before now

-- the count of failed pulls: it never falls, a failure comes only where it rose, and without one it stays
pub record CountsPulls {T : Type 0} (result : Result T PullFault) (before now : ℕ) : Type 0 where
  pub keeps : before ≤ now
  pub cause : IsErrOf result Failed → HasRisen before now
  pub same : (IsErrOf result Failed → ⊥) → now ≡ before
