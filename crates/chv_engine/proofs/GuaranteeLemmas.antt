-- What a crash leaves of a run of a script.
use Rattle.std.proofs.Common.{List, ℕ}
use Rattle.chv_history.specs.Crashes.{IsLeftBy}
use Rattle.chv_history.specs.Events.{begins}
use Rattle.chv_history.specs.Guarantees.{IsLeftWhole}
use Rattle.chv_history.specs.Histories.{History, Settles}
use Rattle.chv_history.specs.Runs.{run_events}
use Rattle.chv_history.specs.Script.{requests_of}
use Rattle.chv_history.proofs.GuaranteeLemmas.{left_whole}
use Rattle.chv_history.proofs.ScriptLemmas.{script_formed}
use Rattle.chv_site.specs.During.{During}
use Rattle.chv_site.specs.Images.{Image, IsLeft}
use Rattle.chv_site.specs.Outside.{Outside}
use Rattle.chv_site.proofs.Moments.{weakened}
use Rattle.chv_engine.proofs.EndLemmas.{untouched_during}

module _ (script : List ℕ) (history : History) where
  pub whole_during : (old new : Outside) → Settles old.files history → During old new (IsLeftBy (run_events (requests_of script) (begins history)) old.said (begins history))
      → During old new (IsLeftWhole (requests_of script) history old.said)
  whole_during old new settles during =
      weakened old new (IsLeftBy (run_events (requests_of script) (begins history)) old.said (begins history)) (IsLeftWhole (requests_of script) history old.said) during
      (λ image text left. left_whole (requests_of script) history settles.stands.lawful (script_formed script) old.said image text left)

  -- no call was made so far
  pub untouched_whole : (old : Outside) → Settles old.files history → ((image : Image) (text : List ℕ) → old.left_since old.moment image text → IsLeft old.files old.said image text)
      → During old old (IsLeftWhole (requests_of script) history old.said)
  untouched_whole old settles only = whole_during old old settles (untouched_during (requests_of script) history old settles only)
