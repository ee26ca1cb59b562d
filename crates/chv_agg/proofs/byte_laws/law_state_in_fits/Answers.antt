use Rattle.chv_agg.proofs.StateFrontLemmas.{state_in-few, state_in-fits, state_in-over}
use Rattle.chv_agg.proofs.byte_laws.law_state_in_fits.Goals as goal

pub returns : goal.returns
returns c = record { over = state_in-over; few = state_in-few; fits = state_in-fits }
