-- What holds of a statement that makes a table or a view, and of what it makes.
use Rattle.std.proofs.Common.{◌≡◌, ◌<◌, ◌≤◌, [], ◌∷◌, ◌++◌, length, None, sym, ap, subst, ◌∙◌, arith}
use Rattle.std.specs.List.{All}
use Rattle.std.proofs.lemmas.List.Elements.{All-weaker}
use Rattle.chv_ast.specs.declared.statement.Statement.{Statement}
use Rattle.chv_catalog.specs.Schemas.{Catalog, definition_name, definitions_in, kinds_of, names_of, with_definition}
use Rattle.chv_catalog.specs.declared.definition.Definition.{Definition}
use Rattle.chv_catalog.specs.declared.table_def.TableDef.{TableDef}
use Rattle.chv_query.specs.Accepted.{Accepted, IsAccepted, IsCatalog, tables_in}
use Rattle.chv_query.proofs.AcceptedLemmas as accepted
use Rattle.chv_gate.specs.GateLog.{IsPayload, frame_of}
use Rattle.chv_gate.proofs.GateLogLemmas.{length-frame_of}
use Rattle.chv_part.specs.Books.{AreColumns}
use Rattle.chv_print.specs.StatementTexts.{statement_text}
use Rattle.chv_types.specs.Names.{place_of}
use Rattle.chv_store.specs.Openings.{MakesDefinition}
use Rattle.chv_store.specs.Stores.{MAX_STEP}

module _ (catalog : Catalog) (create : Statement) (definition : Definition) (makes : MakesDefinition catalog create definition) where
  -- its name is free, and there is room for it
  pub makes_free : place_of (definition_name definition) (names_of catalog) ≡ None
  makes_free = accepted.made_free catalog create definition makes.defines

  pub makes_few : definitions_in catalog < 256
  makes_few = accepted.made_few catalog create definition makes.defines

  -- its text is a payload, and has a short frame
  pub makes_short : length (statement_text create) ≤ 1048576
  makes_short = accepted.made_short catalog create definition makes.defines

  pub makes_some : 1 ≤ length (statement_text create)
  makes_some = accepted.made_some catalog create definition makes.defines

  pub makes_payload : IsPayload (statement_text create)
  makes_payload = record { some = makes_some; most = omega (arith, makes_short) }

  pub makes_frame : length (frame_of (statement_text create)) ≤ MAX_STEP
  makes_frame = omega (arith, makes_short, length-frame_of (statement_text create))

  -- its table, where it is one, has columns
  pub makes_columns : All (λ def. AreColumns (kinds_of def)) (tables_in definition)
  makes_columns =
      All-weaker accepted.IsMade (λ (def : TableDef). AreColumns (kinds_of def)) (λ def made. record { some = made.some; most = made.most }) (tables_in definition)
      (accepted.made_columns catalog create definition makes.defines makes.formed)

  -- with it the catalog is one that statements define
  pub makes_defined : IsCatalog catalog → (new : Catalog) → new ≡ with_definition definition catalog → IsCatalog new
  makes_defined defined new is =
      let next : Accepted = record { statement = create; definition = definition } in (
        defined.0 ++ next ∷ [],
        accepted.IsSchema-push defined.0 next defined.1 (subst (λ (c : Catalog). IsAccepted c next) (sym defined.2) makes),
        accepted.catalog_of-push defined.0 next ∙ ap (with_definition definition) defined.2 ∙ sym is,
      )
