use Rattle.std.proofs.Common.{length, refl, rules, sym, ap, ◌∙◌}
use Rattle.byteorder.specs.Endian.{little_bytes}
use Rattle.byteorder.specs.Numbers.{little_from-lt}
use Rattle.chv_bytes.proofs.NumberLemmas.{bytes_of_whole}
use Rattle.chv_bytes.proofs.fixed.number_in.Goals as goal

pub returns-clause-bytes : goal.returns-clause-bytes
returns-clause-bytes c =
    let bytes = c.args.bytes.now in
    sym (ap (little_bytes (length bytes)) c.read_uint.ensures ∙ bytes_of_whole (length bytes) bytes refl (search rules))

pub returns-clause-fits : goal.returns-clause-fits
returns-clause-fits c = rw c.read_uint.ensures (little_from-lt 0 (length c.args.bytes.now) c.args.bytes.now (search rules))
