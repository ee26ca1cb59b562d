-- What a table's definition says of its files.
use Rattle.chv_catalog.specs.Schemas.{kinds_of}
use Rattle.chv_catalog.specs.declared.table_def.TableDef.{TableDef}
use Rattle.chv_part.specs.Books.{TableForm}

-- the form of a table
abbrev pub form_of : TableDef → TableForm
form_of def = record { engine = def.engine; window = def.window; kinds = kinds_of def; key = def.key }
