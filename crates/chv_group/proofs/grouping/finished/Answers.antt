use Rattle.std.proofs.Common.{◌∙◌, ◌&&◌, List, ap, sym}
use Rattle.std.proofs.lemmas.List.Sorted.{All-permutation}
use Rattle.std.proofs.lemmas.Result.{IfOk-weaker}
use Rattle.chv_group.proofs.FinishLemmas.{grouped-none, grouped-rows}
use Rattle.chv_group.proofs.KeyLemmas.{AreApart-sorted, have_states}
use Rattle.chv_group.specs.Groups.{is_empty}
use Rattle.chv_group.specs.Keys.{HasStates}
use Rattle.chv_group.specs.declared.placed_key.PlacedKey.{PlacedKey}
use Rattle.chv_group.proofs.grouping.finished.Goals as goal

pub returns-then-is_lone : goal.returns-then-is_lone
returns-then-is_lone c =
    IfOk-weaker c.row_of_none.result _ _ (λ rows is names taken of. is ∙ grouped-none c.args.calls.now names c.args.keys.items c.args.tallies.items taken c.args.always of
    (ap (λ (keys : List PlacedKey). c.args.always && is_empty keys) (sym c.as_slice.ensures.value) ∙ sym c.is_lone.ensures ∙ c.if-is_lone.true)) c.row_of_none.ensures

pub rows_of-requires : goal.rows_of-requires
rows_of-requires c = record {
  apart = AreApart-sorted c.args.keys.items c.sorted.result.items c.requires.placed c.sorted.ensures.moved;
  states =
      All-permutation (HasStates c.args.calls.now c.args.tallies.items) c.args.keys.items c.sorted.result.items c.sorted.ensures.moved
      (have_states c.args.calls.now c.args.keys.items c.args.tallies.items c.requires.placed c.requires.whole c.requires.over);
}

pub returns : goal.returns
returns c =
    IfOk-weaker c.rows_of.result _ _ (λ rows is names taken of.
    is ∙ grouped-rows c.args.calls.now names c.args.keys.items c.sorted.result.items c.args.tallies.items taken c.args.always of c.requires.placed c.sorted.ensures.moved c.sorted.ensures.sorted
    (ap (λ (keys : List PlacedKey). c.args.always && is_empty keys) (sym c.as_slice.ensures.value) ∙ sym c.is_lone.ensures ∙ c.if-is_lone.false)) c.rows_of.ensures
