-- Counts of faults, and what an error says of them.
use Rattle.std.specs.Prelude.{ℕ, ◌≡◌, ◌+◌, ◌-◌, ◌^◌, ◌≤◌, min, Result, IsErr, OnOk}
use Rattle.chv_site.specs.Outside.{Outside}

-- one more, up to the last value of a u64
abbrev pub raised : ℕ → ℕ
raised n = min (n + 1) (2 ^ 64 - 1)

-- the count rose; one that stands at the last value of a u64 counts as risen
abbrev pub HasRisen : ℕ → ℕ → Type 0
HasRisen before now = raised before ≤ now

-- the count never falls, an error comes only where it rose, and an Ok leaves it
pub record IsCounted {T E : Type 0} (before now : ℕ) (result : Result T E) : Type 0 where
  pub keeps : before ≤ now
  pub cause : IsErr result → HasRisen before now
  pub same : OnOk result (now ≡ before)

-- the faults of calls on files: their count never falls, a failure comes only where it rose, and without one it stays; the
-- count of says that failed stays
pub record CountsDisk (failed : Type 0) (old new : Outside) : Type 0 where
  pub keeps : old.disk_faults ≤ new.disk_faults
  pub cause : failed → HasRisen old.disk_faults new.disk_faults
  pub same : (failed → ⊥) → new.disk_faults ≡ old.disk_faults
  pub other : new.say_faults ≡ old.say_faults

-- and the faults of says
pub record CountsSay (failed : Type 0) (old new : Outside) : Type 0 where
  pub keeps : old.say_faults ≤ new.say_faults
  pub cause : failed → HasRisen old.say_faults new.say_faults
  pub same : (failed → ⊥) → new.say_faults ≡ old.say_faults
  pub other : new.disk_faults ≡ old.disk_faults
