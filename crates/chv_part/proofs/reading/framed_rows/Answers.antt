-- What is wrong with the body in a frame.
use Rattle.std.proofs.Common.{ap}
use Rattle.std.specs.Option.{is_some}
use Rattle.chv_part.proofs.reading.framed_rows.Goals as goal

pub returns-in-None-clause-shape : goal.returns-in-None-clause-shape
returns-in-None-clause-shape c = λ is. c.in_ok-rows.ensures.none (ap is_some c.in-None.is)
