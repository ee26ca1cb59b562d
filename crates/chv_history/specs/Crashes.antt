-- What a crash within a run may leave.
use Rattle.std.specs.Prelude.{ℕ, ◌≡◌, ◌⊎◌, List, [], ◌∷◌, ◌++◌}
use Rattle.chv_site.specs.Files.{IsFrontOf}
use Rattle.chv_site.specs.Images.{Image}
use Rattle.chv_history.specs.Histories.{History, Stands}
use Rattle.chv_history.specs.Events.{Event, Created, Committed, Replied, Moment, behind}

-- the image stands for this history, and the text is this
pub record StandsWith (history : History) (said : List ℕ) (image : Image) (text : List ℕ) : Type 0 where
  pub stands : Stands image history
  pub text_left : text ≡ said

-- the image stands for one of two histories, and the text is this
pub record EitherStands (old new : History) (said : List ℕ) (image : Image) (text : List ℕ) : Type 0 where
  pub stands : Stands image old ⊎ Stands image new
  pub text_left : text ≡ said

-- what an event says
abbrev pub text_of : Event → List ℕ
text_of (Created accepted) = []
text_of (Committed table arrivals) = []
text_of (Replied text plans refuses) = text

-- what the next event says, where there is one
abbrev pub says_next : List Event → List ℕ
says_next [] = []
says_next (event ∷ events) = text_of event

-- some of the events are done: the image stands for the history behind them; and the text is the one behind them, or goes
-- on by a front of what the next event says. `before` is the text said before the run
pub record IsLeftBy (events : List Event) (before : List ℕ) (first : Moment) (image : Image) (text : List ℕ) : Type 0 where
  pub done : List Event
  pub left : List Event
  pub split : events ≡ done ++ left
  pub stands : Stands image (behind done first).history
  pub said : IsFrontOf (says_next left) (before ++ (behind done first).said) text
