use Rattle.std.proofs.Common.{◌≡◌, ◌%◌, length}
use Rattle.chv_sip.specs.SipHash.{GoesOn}
use Rattle.chv_sip.proofs.state.State.absorb.Given as goal

abbrev pub invariant-loop-rest : goal.invariant-loop-rest
invariant-loop-rest l = record {
  goes_on : GoesOn l.fn.self l.fn.bytes l.self l.rest;
  left : length l.rest % 8 ≡ length l.fn.bytes % 8;
}

abbrev pub decreases-loop-rest : goal.decreases-loop-rest
decreases-loop-rest l = length l.rest
