-- How a whole call ends, by its status.
use Rattle.std.specs.Prelude.{ℕ, ◌≡◌, ◌≢◌, ◌⊎◌, List, ◌++◌, Bool, true, false}
use Rattle.chv_site.specs.Faults.{HasRisen}
use Rattle.chv_site.specs.Outside.{Outside, bytes_in}
use Rattle.chv_history.specs.Events.{begins, behind}
use Rattle.chv_history.specs.Histories.{History, Stands}
use Rattle.chv_history.specs.Runs.{run_events}
use Rattle.chv_history.specs.Script.{Request}
use Rattle.chv_engine.specs.Damage.{IsOpeningDamaged, HasNoStrays, IsPartDamaged}
use Rattle.chv_engine.specs.Pulls.{PulledTooMuch, PulledWithin, PulledAll}
use Rattle.chv_engine.specs.declared.status.Status.{Status}
use Rattle.chv_engine.specs.declared.status.Status.TheVariants.{Done, SomeRefused, BadWords, DiskFault, SourceFault, SayFault, Damaged, NoMemory, TooLong}

-- a fact of a run that came to its end, by whether a statement was refused
abbrev pub IfEnded : Status → (Bool → Type 0) → Type 0
IfEnded Done P = P false
IfEnded SomeRefused P = P true
IfEnded _ P = Unit {0}

-- a run came to its end, or met damage, or there was no memory
abbrev pub EndsWithoutFault : Status → Type 0
EndsWithoutFault Done = Unit {0}
EndsWithoutFault SomeRefused = Unit {0}
EndsWithoutFault Damaged = Unit {0}
EndsWithoutFault NoMemory = Unit {0}
EndsWithoutFault _ = ⊥

-- a fault of the source, the disk or the console comes only where its count rose; and each count stays unless its fault ends
-- the run
pub record IsCausedBy (status : Status) (source_before source_now : ℕ) (old new : Outside) : Type 0 where
  pub source : status ≡ SourceFault → HasRisen source_before source_now
  pub disk : status ≡ DiskFault → HasRisen old.disk_faults new.disk_faults
  pub say : status ≡ SayFault → HasRisen old.say_faults new.say_faults
  pub source_stays : status ≢ SourceFault → source_now ≡ source_before
  pub disk_stays : status ≢ DiskFault → new.disk_faults ≡ old.disk_faults
  pub say_stays : status ≢ SayFault → new.say_faults ≡ old.say_faults

-- no call failed: not of the source, nor on files, nor to say
pub record MeetsNoFault (source_before source_now : ℕ) (old new : Outside) : Type 0 where
  pub source : HasRisen source_before source_now → ⊥
  pub disk : HasRisen old.disk_faults new.disk_faults → ⊥
  pub say : HasRisen old.say_faults new.say_faults → ⊥

-- how a run that comes to its end ends: it is at the last moment
pub record EndsAt (requests : List Request) (history : History) (old new : Outside) (refused : Bool) : Type 0 where
  pub text : new.said ≡ old.said ++ (behind (run_events requests (begins history)) (begins history)).said
  pub stands : Stands (bytes_in new) (behind (run_events requests (begins history)) (begins history)).history
  pub mark : (behind (run_events requests (begins history)) (begins history)).refused ≡ refused

-- the text ends in a line that tells damage: of a log, as the files were opened, or of a part, as they stand
pub record SaysDamage (old new : Outside) : Type 0 where
  pub text : List ℕ
  pub line : List ℕ
  pub ends : new.said ≡ text ++ line
  pub damaged : IsOpeningDamaged (bytes_in old) line ⊎ IsPartDamaged (HasNoStrays old.files) (bytes_in new) line

-- the status is Damaged and this line was said, unless there was no memory
abbrev pub AnswersDamage : Status → List ℕ → List ℕ → List ℕ → Type 0
AnswersDamage Damaged before said line = said ≡ before ++ line
AnswersDamage NoMemory before said line = Unit {0}
AnswersDamage _ before said line = ⊥

-- what was pulled: too much exactly where the status says so, and all of it before the store is opened
abbrev pub PulledAs : Status → List ℕ → List ℕ → Type 0
PulledAs TooLong before now = PulledTooMuch before now
PulledAs BadWords before now = now ≡ before
PulledAs SourceFault before now = PulledWithin before now
PulledAs NoMemory before now = PulledWithin before now
PulledAs _ before now = PulledAll before now

-- faulty words, a failed pull and a long script leave the site as it was
abbrev pub LeavesSite : {W : Type 0} → Status → W → W → Type 0
LeavesSite BadWords old new = new ≡ old
LeavesSite SourceFault old new = new ≡ old
LeavesSite TooLong old new = new ≡ old
LeavesSite _ old new = Unit {0}
