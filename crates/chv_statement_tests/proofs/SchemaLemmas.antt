-- Catalogs that schemas define.
use Rattle.std.proofs.Common.{◌≡◌, ◌∙◌, ◌<◌, ◌++◌, ◌∷◌, [], None, refl, sym, ap, subst}
use Rattle.chv_catalog.specs.Schemas.{Catalog, definition_name, definitions_in, names_of, no_definitions, place_of, with_definition}
use Rattle.chv_catalog.specs.declared.definition.Definition.{Definition}
use Rattle.chv_query.proofs.AcceptedLemmas.{IsSchema-push, catalog_of-push, made_few, made_free}
use Rattle.chv_query.specs.Accepted.{Accepted, IsAccepted, IsCatalog, catalog_of}

-- a schema of no statements defines nothing
pub nothing_defined : IsCatalog no_definitions
nothing_defined = ([], tt, refl)

-- a statement more defines one thing more
pub one_more : (catalog : Catalog) → IsCatalog catalog → (accepted : Accepted) → IsAccepted catalog accepted → IsCatalog (with_definition accepted.definition catalog)
one_more catalog is accepted ok = (
  is.0 ++ accepted ∷ [],
  IsSchema-push is.0 accepted is.1 (subst (λ (c : Catalog). IsAccepted c accepted) (sym is.2) ok),
  catalog_of-push is.0 accepted ∙ ap (with_definition accepted.definition) is.2,
)

-- what is accepted has a name that is free, and there is room for it
module _ (catalog after : Catalog) (same : after ≡ catalog) (definition : Definition) (found : (accepted : Accepted) × (accepted.definition ≡ definition) × IsAccepted catalog accepted) where
  pub free_there : place_of (definition_name definition) (names_of after) ≡ None
  free_there =
      subst (λ (c : Catalog). place_of (definition_name definition) (names_of c) ≡ None) (sym same)
      (subst (λ (d : Definition). place_of (definition_name d) (names_of catalog) ≡ None) found.1 (made_free catalog found.0.statement found.0.definition found.2.defines))

  pub few_there : definitions_in after < 256
  few_there = subst (λ (c : Catalog). definitions_in c < 256) (sym same) (made_few catalog found.0.statement found.0.definition found.2.defines)

  pub one_there : IsCatalog catalog → IsCatalog (with_definition definition after)
  one_there is =
      subst (λ (c : Catalog). IsCatalog (with_definition definition c)) (sym same)
      (subst (λ (d : Definition). IsCatalog (with_definition d catalog)) found.1 (one_more catalog is found.0 found.2))
