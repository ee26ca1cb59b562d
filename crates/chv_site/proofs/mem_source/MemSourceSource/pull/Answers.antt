use Rattle.chv_site.proofs.Bytes.{next_of_slice}
use Rattle.chv_site.proofs.mem_source.MemSourceSource.pull.Goals as goal

pub returns-clause-pulled : goal.returns-clause-pulled
returns-clause-pulled c =
    rw c.copy_front-moved.ensures.bytes
    (next_of_slice c.args.self.now.place c.copy_front-moved.result c.args.self.now.bytes.items c.deref.result.now c.deref.ensures.value)
