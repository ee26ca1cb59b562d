-- The tables below this number are opened.
use Rattle.std.proofs.Common.{ℕ, List, ◌-◌, map, take}
use Rattle.chv_part.specs.Books.{Book}
use Rattle.chv_part.specs.Forms.{form_of}
use Rattle.chv_site.specs.During.{During}
use Rattle.chv_store.specs.Calls.{BeginsLogs, StandsLeft}
use Rattle.chv_store.specs.Holding.{FilesSettle}
use Rattle.chv_store.specs.Stores.{EachTable, IsHeldAs}
use Rattle.chv_store.proofs.OpenedLemmas.{AreOpened}
use Rattle.chv_store.proofs.opening.open_tables.Given as goal

abbrev pub invariant-loop-number : goal.invariant-loop-number
invariant-loop-number g l =
    let S = g.W.Site in
    let before = S.outside l.fn.site in
    let now = S.outside l.site in
    record {
      within : EachTable IsHeldAs 1 (take (l.number - 1) l.schema.catalog.tables) l.tables.items;
      opened : S.tells → AreOpened before.files now.files l.schema.catalog.tables l.number l.tables.items;
      settles : S.tells → (payloads : List (List ℕ)) (books : ℕ → Book) → FilesSettle before.files payloads (map form_of l.schema.catalog.tables) books → FilesSettle now.files payloads (map form_of l.schema.catalog.tables) books;
      during : S.tells → (payloads : List (List ℕ)) (books : ℕ → Book) → FilesSettle before.files payloads (map form_of l.schema.catalog.tables) books
          → During before now (StandsLeft payloads (map form_of l.schema.catalog.tables) books before.said);
      begins : BeginsLogs S.tells ⊥ before now;
    }
