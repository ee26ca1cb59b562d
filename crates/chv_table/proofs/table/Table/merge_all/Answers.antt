-- The run is that of all parts.
use Rattle.std.proofs.Common.{◌≡◌, List, Option, Some, map, sym, ap, subst, ◌∙◌}
use Rattle.chv_commit.specs.Replays.{span_of}
use Rattle.chv_commit.specs.declared.part_row.PartRow.{PartRow}
use Rattle.chv_merge.specs.declared.run.Run.{Run}
use Rattle.chv_part.specs.Merging.{all_parts, merged_where}
use Rattle.chv_part.proofs.MergingLemmas.{IsRunOf-all_parts}
use Rattle.chv_table.specs.Delivering.{Turns}
use Rattle.chv_table.specs.Merging.{MergesRun}
use Rattle.chv_table.proofs.table.Table.merge_all.Goals as goal

pub merge_where-requires-clause-run : goal.merge_where-requires-clause-run
merge_where-requires-clause-run g c = λ run is.
    let layout : List PartRow = c.args.self.now.replay.state.layout in
    let same : c.all_parts-run.result ≡ all_parts (map span_of layout) = c.all_parts-run.ensures ∙ ap (λ (l : List PartRow). all_parts (map span_of l)) c.layout.ensures in
    IsRunOf-all_parts (map span_of layout) run (sym same ∙ is)

pub returns-clause-turned : goal.returns-clause-turned
returns-clause-turned g c = λ tells book held.
    let S = g.W.Site in
    let same : c.all_parts-run.result ≡ all_parts (map span_of c.args.self.now.replay.state.layout) = c.all_parts-run.ensures ∙ ap (λ (l : List PartRow). all_parts (map span_of l)) c.layout.ensures in
    subst (λ (run : Option Run). Turns c.merge_where.result c.args.self.now c.merge_where.new.self book (merged_where run book) (S.outside c.args.site.now) (S.outside c.merge_where.new.site))
    (same ∙ ap all_parts (sym held.describes.layout)) (c.merge_where.ensures.turned tells book held)

pub returns-clause-merges : goal.returns-clause-merges
returns-clause-merges g c =
    let S = g.W.Site in
    let same : c.all_parts-run.result ≡ all_parts (map span_of c.args.self.now.replay.state.layout) = c.all_parts-run.ensures ∙ ap (λ (l : List PartRow). all_parts (map span_of l)) c.layout.ensures in
    subst (λ (run : Option Run). MergesRun S.tells run c.merge_where.result c.args.self.now c.merge_where.new.self (S.outside c.args.site.now) (S.outside c.merge_where.new.site)) same c.merge_where.ensures
