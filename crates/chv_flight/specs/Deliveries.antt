-- What deliveries that are made one after the other do.
use Rattle.std.specs.Prelude.{ℕ, ◌≡◌, List, map, Result, IfOk, OnOk}
use Rattle.chv_history.specs.Crashes.{IsLeftBy}
use Rattle.chv_history.specs.Events.{Plan, Moment, behind}
use Rattle.chv_history.specs.Kept.{Kept, kept_plan}
use Rattle.chv_history.specs.Runs.{delivery_event, written_of}
use Rattle.chv_site.specs.During.{During}
use Rattle.chv_site.specs.Outside.{Outside}
use Rattle.chv_site.specs.declared.fault.Failed.{Failed}
use Rattle.chv_store.specs.declared.store.Store.{Store}
use Rattle.chv_flight.specs.Answers.{IsAt, HoldsKept, IsLogged}

-- a plan's deliveries were made, and so many were written
pub record Delivers (tells : Type 0) (plan : Plan) (result : Result ℕ Failed) (was is : Store) (old new : Outside) : Type 0 where
  pub delivered : tells → IfOk result (λ written. (before : List ℕ) (m : Moment) → IsAt was old before m
      → IsAt is new before (behind (map delivery_event plan) m) × (written ≡ written_of plan m.history))
  pub during : tells → (before : List ℕ) (m : Moment) → IsAt was old before m → During old new (IsLeftBy (map delivery_event plan) before m)
  pub kept : OnOk result ((kept : Kept) → HoldsKept was kept → HoldsKept is (kept_plan plan kept))
  pub logged : tells → OnOk result (IsLogged was old.files → IsLogged is new.files)
  pub said : tells → new.said ≡ old.said
