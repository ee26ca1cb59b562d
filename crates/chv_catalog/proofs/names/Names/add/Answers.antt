use Rattle.std.proofs.Common.{◌∙◌, ap, arith}
use Rattle.std.proofs.lemmas.Result.{IfOk-weaker}
use Rattle.chv_catalog.specs.Names.{Named, texts_of}
use Rattle.chv_types.specs.Names.{place_of}
use Rattle.chv_catalog.proofs.NameLemmas.{texts_of-insert_key, from_success}
use Rattle.chv_catalog.proofs.names.Names.add.Goals as goal

pub returns : goal.returns
returns c =
    let new = ap (λ (named : Named). place_of c.args.name.items named.names) c.self.view_is ∙ c.requires.new in
    rw (← c.self.view_is)
    (from_success c.insert.result _ (c.insert.ensures.succeeds (omega (arith, ap (λ (named : Named). named.room) c.self.view_is)))
    (IfOk-weaker c.insert.result _ _ (λ r e. ap texts_of e ∙ texts_of-insert_key c.args.name c.self.inside.set.keys new) c.insert.ensures.keys))
