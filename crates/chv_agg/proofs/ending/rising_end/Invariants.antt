use Rattle.chv_agg.proofs.EndLemmas.{HasSeen}
use Rattle.chv_agg.proofs.ending.rising_end.Given as goal

abbrev pub invariant-loop : goal.invariant-loop
invariant-loop l = HasSeen l.arg l.bytes l.at l.place l.counter l.last
