-- All parts are one run.
use Rattle.std.proofs.Common.{◌≡◌, ◌<◌, ℕ, Bool, true, nat_lt, if◌then◌else◌, Option, Some, None, List, length, map, sym, ap, ap₂, ◌∙◌, arith}
use Rattle.std.proofs.lemmas.Bool.{lt-ltb}
use Rattle.std.proofs.lemmas.List.{length-map}
use Rattle.chv_commit.specs.Replays.{Span, span_of}
use Rattle.chv_merge.specs.declared.run.Run.{Run}
use Rattle.chv_part.specs.Merging.{top_level}
use Rattle.chv_part.proofs.MergingLemmas.{top_level-rows}
use Rattle.chv_table.proofs.merging.all_parts.Goals as goal

pub returns : goal.returns
returns c =
    let layout = c.args.layout.now in
    let spans : List Span = map span_of layout in
    let same = length-map layout span_of in
    let several : nat_lt 1 (length spans) ≡ true = lt-ltb 1 (length spans) (omega (arith, same)) in
    let all : Option Run = Some (record { from = 0; count = length spans; level = top_level spans }) in
    ap₂ (λ (n m : ℕ). Some (record { from = 0; count = n; level = m })) (sym same) (c.greatest_level.ensures ∙ sym (top_level-rows layout))
    ∙ sym (ap (λ (b : Bool). if b then all else None) several)
