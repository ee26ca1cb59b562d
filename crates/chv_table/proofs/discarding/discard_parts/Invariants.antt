-- No other file was changed, and a crash leaves the others as it might have left them before.
use Rattle.std.proofs.Common.{ℕ}
use Rattle.chv_site.specs.During.{During}
use Rattle.chv_table.specs.Merging.{ChangesParts, IsLeftBut}
use Rattle.chv_table.proofs.discarding.discard_parts.Given as goal

abbrev pub invariant-loop-row : goal.invariant-loop-row
invariant-loop-row g l =
    let S = g.W.Site in
    let before = S.outside l.initial.site in
    record {
      during : S.tells → During before (S.outside l.site) (IsLeftBut l.table l.parts before.files before.said);
      keeps : ChangesParts S.tells ⊥ l.table l.parts before (S.outside l.site);
    }
