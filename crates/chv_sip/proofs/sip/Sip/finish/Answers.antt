use Rattle.std.proofs.Common.{◌≡◌, ℕ, List, ◌%◌, length, take, arith, sym, ap, ◌∙◌}
use Rattle.std.proofs.lemmas.List.{length-take-le}
use Rattle.chv_sip.specs.SipHash.{compressed, last_word, finished, sip_hash}
use Rattle.chv_sip.proofs.Words.{absorbed-last, last_word-laid}
use Rattle.chv_sip.proofs.sip.Sip.finish.Goals as goal

pub returns : goal.returns
unfolding sip_hash
returns c = λ k0 k1 fed held.
    let n : ℕ = c.args.self.now.count % 8 in
    let left : List ℕ = take n c.args.self.now.tail in
    let long : length left ≡ n = length-take-le n c.args.self.now.tail (omega arith) in
    let read : c.read_u64.result ≡ last_word (length fed) left =
    rw (c.read_u64.ensures, c.copy_from_slice.ensures.after) (last_word-laid (length fed) _ n left held.counted long (omega arith)) in
    c.finish.ensures ∙ ap finished (c.compress.ensures ∙ ap (compressed c.args.self.now.state) read ∙ sym (absorbed-last (length fed) held.goes_on (omega arith)))
