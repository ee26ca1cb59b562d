-- What it means that an insert is acknowledged, that it is held, and that it stands whole.
use Rattle.std.specs.Prelude.{ℕ, ◌≡◌, ◌≤◌, ◌==◌, List, [], ◌∷◌, ◌++◌, length, if◌then◌else◌}
use Rattle.std.specs.List.{All, Contains}
use Rattle.chv_query.specs.Accepted.{tables_of}
use Rattle.chv_query.specs.Arrivals.{Arrival, entry_in}
use Rattle.chv_query.specs.Plans.{Delivery}
use Rattle.chv_sip.specs.BlockIds.{Token}
use Rattle.chv_history.specs.Events.{Plan, Event, Created, Committed, Replied, Moment}
use Rattle.chv_history.specs.Histories.{History, book_of, ids_in}

-- the plans of a reply are among those that are acknowledged
pub record IsAcknowledged (plans : List Plan) (m : Moment) : Type 0 where
  pub earlier : List Plan
  pub later : List Plan
  pub among : m.acknowledged ≡ earlier ++ plans ++ later

-- a delivery's table is one of the history, and a block arrived there under its id
pub record IsDelivered (history : History) (delivery : Delivery) : Type 0 where
  pub counted : 1 ≤ delivery.table
  pub stands : delivery.table ≤ length (tables_of history.schema)
  pub id : Contains (ids_in (history.arrivals delivery.table)) delivery.entry.id

-- a history holds an insert: for each of its deliveries a block arrived under its id
abbrev pub IsHeld : History → Plan → Type 0
IsHeld history plan = All (IsDelivered history) plan

-- an insert stands whole in a history: each of its deliveries arrived
abbrev pub IsWhole : History → Plan → Type 0
IsWhole history plan = All (λ (delivery : Delivery). Contains (history.arrivals delivery.table) delivery.entry) plan

-- the books have an insert whole: each of its deliveries' tables has its entry
abbrev pub IsWholeInBooks : History → Plan → Type 0
IsWholeInBooks history plan =
    All (λ (delivery : Delivery). Contains (book_of history delivery.table).entries (entry_in delivery.entry)) plan

-- what events bring to a table, with what is skipped
abbrev pub brought_by : ℕ → List Event → List Arrival
brought_by table [] = []
brought_by table (Created accepted ∷ events) = brought_by table events
brought_by table (Committed other arrivals ∷ events) =
    if table == other then arrivals ++ brought_by table events else brought_by table events
brought_by table (Replied text plans refuses ∷ events) = brought_by table events

-- what arrived in a table, and what events bring to it
abbrev pub known : ℕ → History → List Event → List Arrival
known table history events = history.arrivals table ++ brought_by table events

-- what goes by different things in one table has different ids
abbrev pub AreApart : History → List Event → Type 0
AreApart history events =
    (table : ℕ) (a b : Arrival) → Contains (known table history events) a → Contains (known table history events) b
    → a.id ≡ b.id → a.contribution ≡ b.contribution

-- what was inserted into one table under one token and one number is one block, wherever it arrived
abbrev pub SameTokenSameBlock : History → List Event → Type 0
SameTokenSameBlock history events =
    (one other : ℕ) (a b : Arrival) (token : List ℕ) (number : ℕ) → Contains (known one history events) a → Contains (known other history events) b
    → a.contribution.origin ≡ b.contribution.origin → a.contribution.source ≡ Token token number → b.contribution.source ≡ Token token number
    → a.block ≡ b.block

-- at a moment, what arrived under the id of an acknowledged delivery, in its table, has the delivery's rows
abbrev pub IdsNameOne : Moment → Type 0
IdsNameOne m =
    (plan : Plan) (delivery : Delivery) (arrival : Arrival) → Contains m.acknowledged plan → Contains plan delivery
    → Contains (m.history.arrivals delivery.table) arrival → arrival.id ≡ delivery.entry.id → arrival.rows ≡ delivery.entry.rows
