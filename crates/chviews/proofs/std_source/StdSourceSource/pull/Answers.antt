use Rattle.std.proofs.Common.{rules, ◌<◌, length}
use Rattle.chviews.proofs.SourceLemmas.{passed_on, ends, kept}
use Rattle.chviews.proofs.std_source.StdSourceSource.pull.Goals as goal

pub returns-clause-end : goal.returns-clause-end
returns-clause-end g c tells =
    let read = c.read-answer.ensures in
    let room : 0 < length c.read-answer.new.buf = search rules in
    passed_on _ _ _ c.counted.ensures.ok (ends _ _ _ _ (tells c.args.self.now.input) room read.bound read.bytes)

pub returns-clause-err : goal.returns-clause-err
returns-clause-err g c tells = kept _ _ _ _ _ (tells c.args.self.now.input) c.counted.ensures.err c.read-answer.ensures.bytes
