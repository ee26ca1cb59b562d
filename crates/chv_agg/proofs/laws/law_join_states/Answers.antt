use Rattle.chv_agg.proofs.StateLaws.{IsOver-FitsState, join-IsOver, join-unit}
use Rattle.chv_agg.proofs.StateLemmas.{FitsState-counted}
use Rattle.chv_agg.proofs.laws.law_join_states.Goals as goal

pub returns : goal.returns
returns c = record {
  unit = join-unit;
  closed = join-IsOver;
  over = IsOver-FitsState;
  counted = FitsState-counted;
}
