-- What the next delivery of a client does.
use Rattle.std.specs.Prelude.{ℕ, ◌≡◌, ◌+◌, ◌≤◌, List, length, drop, Option, Result, OnOk, IsErrOf}
use Rattle.chv_ast.specs.declared.refusal.Refusal.{Refusal}
use Rattle.chv_ast.specs.declared.statement.Statement.{Statement}
use Rattle.chv_history.specs.Crashes.{IsLeftBy}
use Rattle.chv_history.specs.Events.{Plan, Moment, behind}
use Rattle.chv_history.specs.Kept.{Kept}
use Rattle.chv_history.specs.KeptTurns.{kept_turn, written_kept}
use Rattle.chv_history.specs.Machine.{Client as Work, behind_turn, turn_events, written_by}
use Rattle.chv_history.specs.Tasks.{Task}
use Rattle.chv_part.specs.declared.damage.Damage.{Damage}
use Rattle.chv_plan.specs.Deliveries.{DeliversAll}
use Rattle.chv_site.specs.During.{During}
use Rattle.chv_site.specs.Outside.{Outside}
use Rattle.chv_store.specs.Stores.{HasRoom, IsUsable}
use Rattle.chv_store.specs.declared.store.Store.{Store}
use Rattle.chv_flight.specs.Answers.{HoldsKept, IsAt, IsLogged}
use Rattle.chv_flight.specs.Faults.{CountsRun}
use Rattle.chv_flight.specs.Flights.{HoldsInsert, left_of}
use Rattle.chv_flight.specs.Rooms.{deliveries_held}
use Rattle.chv_flight.specs.declared.client.Client.{Client}
use Rattle.chv_flight.specs.declared.fault.RunFault.{RunFault}
use Rattle.chv_flight.specs.declared.fault.RunFault.TheVariants.{Damaged, NoMemory}

-- what is held of the deliveries that a client has left
abbrev pub IsPlanned : Store → Client → Type 0
IsPlanned store client = (left : Plan) × DeliversAll store.schema.catalog (left_of client) left

-- what is held of a client behind its next delivery
pub record HasAdvanced (was is : Client) : Type 0 where
  pub place : is.place ≡ was.place
  pub made : is.made ≤ length is.plan
  pub written : is.written ≤ is.made
  pub left : left_of is ≡ drop 1 (left_of was)

-- an answer to each statement, for which this turn has no use
abbrev pub Answer : Type 0
Answer = Option Statement → Result Task Refusal

-- a client made its next delivery, and behind the last one its insert was answered
pub record Advances {T : Type 0} (tells : Type 0) (number : ℕ) (result : Result T RunFault) (client_was client_is : Client) (was is : Store) (old new : Outside) : Type 0 where
  pub turned : tells → OnOk result ((before : List ℕ) (m : Moment) (work : Work) (answer : Answer) → IsAt was old before m → HoldsInsert was.schema.catalog client_was work
      → IsAt is new before (behind (turn_events number answer work.left work m.history) m) × HoldsInsert is.schema.catalog client_is (behind_turn answer (written_by m.history) work))
  pub during : tells → (before : List ℕ) (m : Moment) (work : Work) (answer : Answer) → IsAt was old before m → HoldsInsert was.schema.catalog client_was work
      → During old new (IsLeftBy (turn_events number answer work.left work m.history) before m)
  pub kept : OnOk result ((kept : Kept) (work : Work) (answer : Answer) → HoldsKept was kept → HoldsInsert was.schema.catalog client_was work
      → HoldsKept is (kept_turn answer work.left work kept) × HoldsInsert is.schema.catalog client_is (behind_turn answer (written_kept kept) work))
  pub advanced : OnOk result (HasAdvanced client_was client_is)
  pub schema : OnOk result (is.schema ≡ was.schema)
  -- the room of this delivery alone is used up
  pub rooms : OnOk result ((table others : ℕ) → HasRoom (deliveries_held table (left_of client_was) + others) was table → HasRoom (deliveries_held table (left_of client_is) + others) is table)
  pub logged : tells → OnOk result (IsLogged was old.files → IsLogged is new.files)
  pub usable : OnOk result (IsUsable tells is new)
  pub memory : IsErrOf result NoMemory → ⊥
  pub undamaged : (damage : Damage) → IsErrOf result (Damaged damage) → ⊥
  pub counts : CountsRun result old new
