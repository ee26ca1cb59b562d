-- How damage that ends a run is told, and what a run does that tells it.
use Rattle.std.specs.Prelude.{ℕ, ◌≡◌, List, ◌++◌, Bool, Result, Ok, Err, IfOk, OnOk, IsErrOf}
use Rattle.chv_catalog.specs.declared.table_def.TableDef.{TableDef}
use Rattle.chv_history.specs.Crashes.{IsLeftBy}
use Rattle.chv_history.specs.Events.{begins}
use Rattle.chv_history.specs.Histories.{History}
use Rattle.chv_history.specs.Kept.{Kept, Refuses}
use Rattle.chv_history.specs.Runs.{run_events}
use Rattle.chv_history.specs.Script.{Request}
use Rattle.chv_part.specs.declared.damage.Damage.{Damage}
use Rattle.chv_site.specs.During.{During}
use Rattle.chv_site.specs.Files.{KeepsFiles}
use Rattle.chv_site.specs.Images.{IsLeftSaying}
use Rattle.chv_site.specs.Outside.{Outside, bytes_in}
use Rattle.chv_store.specs.Stores.{IsWithin}
use Rattle.chv_store.specs.declared.store.Store.{Store}
use Rattle.chv_flight.specs.Answers.{AnswersAs, FirstAsks, HoldsKept, IsAt, IsHeldDamage, IsLogged}
use Rattle.chv_flight.specs.Faults.{CountsFault, CountsRun}
use Rattle.chv_flight.specs.declared.fault.RunFault.{RunFault}
use Rattle.chv_flight.specs.declared.fault.RunFault.TheVariants.{Damaged}
use Rattle.chv_engine.specs.Damage.{line_of}

-- this line was said and the run ends, unless it ends by another fault
abbrev pub TellsOrFails : Result Bool RunFault → List ℕ → List ℕ → List ℕ → Type 0
TellsOrFails (Ok refused) before said line = ⊥
TellsOrFails (Err (Damaged damage)) before said line = said ≡ before ++ line
TellsOrFails (Err other) before said line = Unit {0}

-- a fault that ends a run was told, where it is damage: its line was said, or this is the fault of saying it; no file changed.
-- Of another fault nothing is said, and the site is the same
pub record TellsFault (tells same : Type 0) (tables : List TableDef) (fault ends : RunFault) (old new : Outside) : Type 0 where
  pub told : tells → (damage : Damage) → ends ≡ Damaged damage → (fault ≡ Damaged damage) × (new.said ≡ old.said ++ line_of tables damage)
  pub other : ((damage : Damage) → fault ≡ Damaged damage → ⊥) → (ends ≡ fault) × same
  pub files : tells → KeepsFiles old.files new.files
  pub during : tells → (damage : Damage) → fault ≡ Damaged damage → During old new (IsLeftSaying old.files old.said (line_of tables damage))
  pub counts : (damage : Damage) → fault ≡ Damaged damage → CountsFault ends old new

-- a damage of a part was met and told: as the store then is, by the last line that was said
pub record TellsHeld (was is : Store) (damage : Damage) (old new : Outside) : Type 0 where
  pub held : IsHeldDamage is new damage
  pub logged : IsLogged was old.files → IsLogged is new.files
  pub text : List ℕ
  pub ends : new.said ≡ text ++ line_of is.schema.catalog.tables damage

-- requests were answered one after the other on an open store, as a run begins: it goes through their events, and damage that it
-- meets is told
pub record RunsAll (tells : Type 0) (requests : List Request) (result : Result Bool RunFault) (was is : Store) (old new : Outside) : Type 0 where
  pub answered : tells → IfOk result (λ refused. (before : List ℕ) (history : History) → IsAt was old before (begins history)
      → AnswersAs is new before refused (run_events requests (begins history)) (begins history))
  pub during : tells → (before : List ℕ) (history : History) → IsAt was old before (begins history) → During old new (IsLeftBy (run_events requests (begins history)) before (begins history))
  pub kept : IfOk result (λ refused. (kept : Kept) → HoldsKept was kept → Refuses requests kept refused)
  pub damaged : tells → (damage : Damage) → IsErrOf result (Damaged damage) → TellsHeld was is damage old new
  pub undamaged : tells → (before : List ℕ) (history : History) (damage : Damage) → IsAt was old before (begins history) → IsErrOf result (Damaged damage) → ⊥
  pub met : tells → (damage : Damage) → FirstAsks requests was (bytes_in old) damage → TellsOrFails result old.said new.said (line_of was.schema.catalog.tables damage)
  pub within : OnOk result (IsWithin is)
  pub counts : CountsRun result old new
