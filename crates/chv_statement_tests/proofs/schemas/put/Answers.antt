use Rattle.std.proofs.Common.{subst, sym}
use Rattle.chv_catalog.specs.Schemas.{Seen}
use Rattle.chv_query.specs.Accepted.{IsCatalog}
use Rattle.chv_statement_tests.proofs.SchemaLemmas.{few_there, free_there, one_there}
use Rattle.chv_statement_tests.proofs.schemas.put.Goals as goal

pub accept-requires-clause-free : goal.accept-requires-clause-free
accept-requires-clause-free c = free_there c.args.schema.now.catalog c.reserve_one.new.self.catalog c.reserve_one.ensures.catalog c.args.definition c.requires.accepted

pub accept-requires-clause-few : goal.accept-requires-clause-few
accept-requires-clause-few c = few_there c.args.schema.now.catalog c.reserve_one.new.self.catalog c.reserve_one.ensures.catalog c.args.definition c.requires.accepted

pub returns-in-Ok : goal.returns-in-Ok
returns-in-Ok c = record {
  schema =
      subst (λ (s : Seen). IsCatalog s.catalog) (sym c.accept.ensures)
      (one_there c.args.schema.now.catalog c.reserve_one.new.self.catalog c.reserve_one.ensures.catalog c.args.definition c.requires.accepted c.requires.schema);
}
