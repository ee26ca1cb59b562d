-- Room for the deliveries of a plan, by what is held of it.
use Rattle.std.specs.Prelude.{ℕ, ◌+◌, ◌<◌, ◌≤◌, List, length, nat_eq}
use Rattle.std.specs.List.{filter}
use Rattle.chv_commit.specs.Replays.{MAX_ENTRIES}
use Rattle.chv_plan.specs.declared.delivery.Delivery.{Delivery}
use Rattle.chv_store.specs.Stores.{HasRoom, state_of}
use Rattle.chv_store.specs.declared.store.Store.{Store}

-- a delivery goes to one of so many tables
pub record IsNumbered (tables : ℕ) (held : Delivery) : Type 0 where
  pub first : 1 ≤ held.table
  pub last : held.table ≤ tables

-- how many deliveries of a plan go to a table
abbrev pub deliveries_held : ℕ → List Delivery → ℕ
deliveries_held table plan = length (filter (λ (held : Delivery). nat_eq held.table table) plan)

-- each table to which some go has room for them
abbrev pub HasRooms : List Delivery → Store → Type 0
HasRooms plan store = (table : ℕ) → 1 ≤ deliveries_held table plan → HasRoom (deliveries_held table plan) store table

-- a table to which some go would have more entries with them, and with those that are left, than a table may
pub record LacksRoom (left plan : List Delivery) (store : Store) : Type 0 where
  pub table : ℕ
  pub some : 1 ≤ deliveries_held table plan
  pub more : MAX_ENTRIES < (state_of store table).entries + deliveries_held table left + deliveries_held table plan
