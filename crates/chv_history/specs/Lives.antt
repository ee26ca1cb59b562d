-- The life of a store: runs, each of which begins with what the one before left.
use Rattle.std.specs.Prelude.{ℕ, ◌≡◌, ◌≤◌, ◌+◌, List, [], ◌∷◌, ◌++◌, length, Some, slice_get}
use Rattle.std.specs.List.{All, flat_map}
use Rattle.chv_catalog.specs.declared.table_def.TableDef.{TableDef}
use Rattle.chv_query.specs.Accepted.{tables_of}
use Rattle.chv_query.specs.Arrivals.{Arrival, Contribution}
use Rattle.chv_history.specs.Events.{Event, begins, behind}
use Rattle.chv_history.specs.Histories.{History, IsLawful}
use Rattle.chv_history.specs.Machine.{Turn, turns_events}
use Rattle.chv_history.specs.Traces.{control_in}

-- a run: its script and its turns, the events that are done, and those that are left where it ends early
pub record LifeRun : Type 0 where
  pub script : List ℕ
  pub turns : List Turn
  pub done : List Event
  pub left : List Event

-- the history behind events
abbrev pub history_behind : History → List Event → History
history_behind history events = (behind events (begins history)).history

-- each run begins with the history that the one before left
abbrev pub Follow : History → List LifeRun → Type 0
Follow history [] = Unit {0}
Follow history (run ∷ runs) = (turns_events run.turns (begins history) (control_in run.script) ≡ run.done ++ run.left) × Follow (history_behind history run.done) runs

-- the events of a life: those that are done in each run
abbrev pub life_events : List LifeRun → List Event
life_events runs = flat_map (λ (run : LifeRun). run.done) runs

-- a life begins with a lawful history. At each of its moments a life may end
pub record IsLife (history : History) (runs : List LifeRun) : Type 0 where
  pub lawful : IsLawful history
  pub follow : Follow history runs

-- a table stands, and gains no more entries than its window has ids, and one
pub record GainsFew (before after : History) (place : ℕ) (def : TableDef) : Type 0 where
  pub stands : slice_get (tables_of before.schema) place ≡ Some def
  pub few : length (after.arrivals (place + 1)) ≤ length (before.arrivals (place + 1)) + def.window + 1

-- none of some arrivals is of a contribution
abbrev pub IsAbsent : Contribution → List Arrival → Type 0
IsAbsent contribution arrivals = All (λ (arrival : Arrival). arrival.contribution ≡ contribution → ⊥) arrivals

-- one of some arrivals at most is of a contribution
abbrev pub StandsOnceAtMost : Contribution → List Arrival → Type 0
StandsOnceAtMost contribution arrivals =
    (older newer : List Arrival) (arrival : Arrival) → arrivals ≡ older ++ arrival ∷ newer → arrival.contribution ≡ contribution
    → IsAbsent contribution older × IsAbsent contribution newer

-- an arrival stands among others, and no other is of its contribution
pub record StandsOnce (arrival : Arrival) (arrivals : List Arrival) : Type 0 where
  pub older : List Arrival
  pub newer : List Arrival
  pub stands : arrivals ≡ older ++ arrival ∷ newer
  pub not_before : IsAbsent arrival.contribution older
  pub not_behind : IsAbsent arrival.contribution newer
