-- The table that a text makes, or that there is none.
use Rattle.std.proofs.Common.{◌≡◌, ◌∙◌}
use Rattle.chv_site.specs.Outside.{bytes_in}
use Rattle.chv_store.proofs.CatalogLemmas.{lacks_definition}
use Rattle.chv_store.proofs.catalog.read_definition.Goals as goal

pub returns-in-Ok-Body-clause-damaged : goal.returns-in-Ok-Body-clause-damaged
returns-in-Ok-Body-clause-damaged g c tells damage is =
    let read = rw c.in-Ok-Body.field-0-is at (c.in-Ok-Body.ensures.read tells) in
    let file = bytes_in (g.W.Site.outside c.args.site.now) c.args.log in
    let none = rw c.in-None.is at c.in_ok-definition-in-Ok-Body.ensures.none in
    let told : damage ≡ _ = cc in (
      told,
      lacks_definition c.args.schema.now.catalog c.args.gate file c.in-Ok-Body.payload.items c.in-Ok-Body.next read (λ create def makes same. none create def makes (c.deref.ensures.value ∙ same)),
    )
