-- A log of one byte at most has no commit once it is begun.
use Rattle.std.proofs.Common.{◌≡◌, ap, ◌∙◌, subst, arith}
use Rattle.chv_site.specs.declared.file_id.FileId.{FileId}
use Rattle.chv_site.specs.FileIds.{table_log}
use Rattle.chv_site.specs.Files.{settled}
use Rattle.chv_gate.specs.GateLog.{begun}
use Rattle.chv_table.specs.declared.table.Table.{Table}
use Rattle.chv_table.proofs.TableLemmas.{HoldsBook-begun}
use Rattle.chv_table.proofs.opening.begin_table.Goals as goal

pub returns-clause-book : goal.returns-clause-book
returns-clause-book g c = λ tells short.
    let S = g.W.Site in
    let log : FileId = table_log c.args.number in
    let bytes = ((S.outside c.args.site.now).files log).bytes in
    let now = (S.outside c.begin.new.site).files in
    let table : Table = record { number = c.args.number; engine = c.args.def.now.engine; kinds = c.in_ok-kinds.kinds; key = c.in_ok-key.key; log = c.at.result; replay = c.in_ok-replay.replay } in
    HoldsBook-begun table now log bytes (c.at.ensures ∙ ap (λ (f : FileId). record { file = f; gate = 0 }) c.table_log-file.ensures) c.in_ok-replay.ensures.1
    (subst (λ (f : FileId). now f ≡ settled (begun ((S.outside c.args.site.now).files f).bytes)) c.table_log-file.ensures (c.in_ok-begin.ensures.begun tells))
    (omega (arith, (g.met.W.Site.reads c.args.site.now log).no_longer, short))
