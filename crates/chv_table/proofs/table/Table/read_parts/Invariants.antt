-- The parts so far are whole, and have the rows of their entries.
use Rattle.std.proofs.Common.{◌≡◌, take}
use Rattle.std.specs.List.{All}
use Rattle.chv_site.specs.Effects.{OnlyReads}
use Rattle.chv_site.specs.Outside.{bytes_in}
use Rattle.chv_block.specs.Spellings.{AllAreOf}
use Rattle.chv_part.specs.Books.{Book, IsLawfulBook}
use Rattle.chv_part.specs.Standing.{IsPart}
use Rattle.chv_part.proofs.BookRowLemmas.{rows_of_parts}
use Rattle.chv_table.specs.Damage.{ArePartsWhole}
use Rattle.chv_table.specs.Tables.{held_form}
use Rattle.chv_table.proofs.table.Table.read_parts.Given as goal

abbrev pub invariant-loop-row : goal.invariant-loop-row
invariant-loop-row g l =
    let S = g.W.Site in
    let before = S.outside l.initial.site in
    record {
      rows : S.tells → (book : Book) → IsLawfulBook (held_form l.self) book → All (IsPart (bytes_in before) l.self.number (held_form l.self) book) l.parts
          → l.rows.items ≡ rows_of_parts (held_form l.self) book (take l.row-index l.parts);
      whole : S.tells → ArePartsWhole l.self.number (held_form l.self) (take l.row-index l.parts) (bytes_in before);
      kinds : AllAreOf l.self.kinds l.rows.items;
      keeps : OnlyReads S.tells ⊥ before (S.outside l.site);
    }
