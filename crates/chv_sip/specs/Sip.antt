-- A hash of an input that comes in pieces.
use Rattle.std.specs.Prelude.{ℕ, ◌≡◌, ◌%◌, List, length, take}
use Rattle.chv_sip.specs.declared.sip.Sip.{Sip}
use Rattle.chv_sip.specs.SipHash.{keyed, GoesOn}

-- these bytes were fed, under a key of two words
pub record IsFed (k0 k1 : ℕ) (bytes : List ℕ) (sip : Sip) : Type 0 where
  pub counted : sip.count ≡ length bytes % 256
  pub goes_on : GoesOn (keyed k0 k1) bytes sip.state (take (sip.count % 8) sip.tail)
