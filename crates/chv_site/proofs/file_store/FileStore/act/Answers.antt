use Rattle.std.proofs.Common.{◌≡◌, ◌∙◌, sym, rules, cond, Some}
use Rattle.std.proofs.lemmas.Result.{on_err_weaker}
use Rattle.std.specs.BTreeMap as tree
use Rattle.chv_site.specs.declared.file_id.FileId.{FileId}
use Rattle.chv_site.specs.MemFile.{kept_in_file}
use Rattle.chv_site.specs.FileStore.{kept_in}
use Rattle.chv_site.specs.Calls.{id_cmp, is_file}
use Rattle.chv_site.proofs.Ids.{kept}
use Rattle.chv_site.proofs.file_store.FileStore.act.Goals as goal

pub returns-in-Some-clause-err : goal.returns-in-Some-clause-err
returns-in-Some-clause-err c =
    let updates : (q : FileId) → tree.get id_cmp (c.get_mut.follows.lender c.act.new.self) q ≡ cond (is_file c.args.f q) (Some c.act.new.self) (tree.get id_cmp c.args.self.now.by_id q) = search rules in
    let was : kept_in (tree.get id_cmp c.args.self.now.by_id c.args.f) ≡ kept_in_file c.in-Some.file.now = search rules in
    on_err_weaker c.act.result (λ same. kept c.args.self.now.by_id (c.get_mut.follows.lender c.act.new.self) c.args.f c.act.new.self updates (same ∙ sym was)) c.act.ensures.err
