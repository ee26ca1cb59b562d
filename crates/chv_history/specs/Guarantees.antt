-- What clients can rely on, whatever a crash within a run leaves.
use Rattle.std.specs.Prelude.{ℕ, ◌≡◌, ◌≤◌, ◌+◌, false, List, [], ◌∷◌, ◌++◌, length}
use Rattle.std.specs.List.{All}
use Rattle.chv_site.specs.Images.{Image}
use Rattle.chv_text.specs.Replies.{insert_line}
use Rattle.chv_history.specs.Acknowledged.{AreApart, IsAcknowledged, IsHeld, IsWhole, SameTokenSameBlock}
use Rattle.chv_history.specs.Crashes.{IsLeftBy}
use Rattle.chv_history.specs.Events.{Event, Plan, Replied, Moment, begins, behind}
use Rattle.chv_history.specs.Histories.{History}
use Rattle.chv_history.specs.Runs.{run_events}
use Rattle.chv_history.specs.Script.{Request}
use Rattle.chv_history.specs.Spaced.{ContributionsAreSpaced}

-- the Ok line of an insert was said to its end: one of the events says it, and the text reaches behind it. `before` is the text
-- said before the run
pub record IsSaidOk (events : List Event) (before : List ℕ) (first : Moment) (text : List ℕ) (plan : Plan) : Type 0 where
  pub earlier : List Event
  pub later : List Event
  pub client : ℕ
  pub written : ℕ
  pub skipped : ℕ
  pub split : events ≡ earlier ++ Replied (insert_line client written skipped) (plan ∷ []) false ∷ later
  pub reaches : length (before ++ (behind earlier first).said) + length (insert_line client written skipped) ≤ length text

-- a moment behind these events of a history holds the inserts that are acknowledged, each whole where what goes by different
-- things has different ids and one token and number is that of one block; and no contribution stands twice within its table's window
pub record HoldsAll (history : History) (done : List Event) (m : Moment) : Type 0 where
  pub held : All (IsHeld m.history) m.acknowledged
  pub whole : AreApart history done → SameTokenSameBlock history done → All (IsWhole m.history) m.acknowledged
  pub spaced : ContributionsAreSpaced m.history

-- files and text are of one cut of a run's events, behind which each insert whose Ok line was said to its end is acknowledged,
-- and all that is acknowledged is held
pub record IsLeftWhole (requests : List Request) (history : History) (before : List ℕ) (image : Image) (text : List ℕ) : Type 0 where
  pub left : IsLeftBy (run_events requests (begins history)) before (begins history) image text
  pub told : (plan : Plan) → IsSaidOk (run_events requests (begins history)) before (begins history) text plan
      → IsAcknowledged (plan ∷ []) (behind left.done (begins history))
  pub holds : HoldsAll history left.done (behind left.done (begins history))
