-- What happens to a history, event by event.
use Rattle.std.specs.Prelude.{ℕ, Bool, false, List, [], ◌∷◌, ◌++◌, length, ◌||◌, suc}
use Rattle.chv_query.specs.Accepted.{Accepted, tables_of}
use Rattle.chv_part.specs.Arriving.{fresh, with_part}
use Rattle.chv_query.specs.Arrivals.{Arrival}
use Rattle.chv_query.specs.Plans.{Delivery}
use Rattle.chv_history.specs.Histories.{History, ids_in, window_at, put_at, with_accepted}

-- an insert: its deliveries
abbrev pub Plan : Type 0
Plan = List Delivery

-- one opened gate, or one reply: a table or a view is made; blocks arrive in a table, in one commit; a text is said, which
-- acknowledges these inserts, and may refuse its statement
pub data Event : Type 0 where
  Created : Accepted → Event
  Committed : ℕ → List Arrival → Event
  Replied : List ℕ → List Plan → Bool → Event

-- between two events: the history, the text said since the run began, the inserts that are acknowledged, and whether a
-- statement was refused
pub record Moment : Type 0 where
  pub history : History
  pub said : List ℕ
  pub acknowledged : List Plan
  pub refused : Bool

-- a run begins with nothing said, acknowledged or refused
abbrev pub begins : History → Moment
begins history = record { history = history; said = []; acknowledged = []; refused = false }

-- a table has more arrivals, in a part of their own; where there are none, nothing changes
abbrev pub with_arrivals : ℕ → List Arrival → History → History
with_arrivals table [] history = history
with_arrivals table (arrival ∷ arrivals) history = record history {
  arrivals = put_at table (history.arrivals table ++ arrival ∷ arrivals) history.arrivals;
  layouts = put_at table (with_part (length (history.arrivals table)) (suc (length arrivals)) (history.layouts table)) history.layouts;
}

-- of blocks that arrive in a table one after the other, those that are written: each whose id is not among its last
abbrev pub written_in : ℕ → List Arrival → History → List Arrival
written_in table arrivals history =
    fresh (λ (arrival : Arrival). arrival.id) (window_at (tables_of history.schema) table) (ids_in (history.arrivals table)) arrivals

-- blocks arrive in a table
abbrev pub with_commit : ℕ → List Arrival → History → History
with_commit table arrivals history = with_arrivals table (written_in table arrivals history) history

-- the moment behind an event
abbrev pub happen : Event → Moment → Moment
happen (Created accepted) m = record m { history = with_accepted accepted m.history }
happen (Committed table arrivals) m = record m { history = with_commit table arrivals m.history }
happen (Replied text plans refuses) m = record m { said = m.said ++ text; acknowledged = m.acknowledged ++ plans; refused = m.refused || refuses }

-- the moment behind some events
abbrev pub behind : List Event → Moment → Moment
behind [] m = m
behind (event ∷ events) m = behind events (happen event m)
