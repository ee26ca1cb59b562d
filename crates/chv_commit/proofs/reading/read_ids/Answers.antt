-- One id more is read.
use Rattle.std.proofs.Common.{◌++◌, ◌∷◌, [], ◌∙◌, ap, sym, arith, List, ℕ, length, append_assoc, length-append}
use Rattle.std.proofs.lemmas.Grind.{flat_map-append}
use Rattle.std.proofs.lemmas.List.Elements.{All-push}
use Rattle.std.specs.Int.{w64, to_le_bytes}
use Rattle.std.specs.List.{flat_map}
use Rattle.chv_sip.specs.declared.block_id.BlockId.{BlockId}
use Rattle.chv_commit.specs.Commits.{id_spelling, AreWords}
use Rattle.chv_commit.proofs.reading.read_ids.Goals as goal

pub loop-preserved : goal.loop-preserved
loop-preserved c =
    let id : BlockId = record { first = c.split_number-first.result.0; second = c.split_number-second.result.0 } in
    record {
      count = omega (arith, ap length c.in_ok-push.ensures.items, length-append c.loop.ids.items (id ∷ []), c.loop.invariant.count);
      left = omega arith;
      words = rw c.in_ok-push.ensures.items (All-push AreWords c.loop.ids.items id c.loop.invariant.words (omega arith, omega arith));
      spelled = c.loop.invariant.spelled
          ∙ ap (λ (rest : List ℕ). flat_map id_spelling c.loop.ids.items ++ rest)
          (c.split_number-first.ensures.split ∙ ap (λ (rest : List ℕ). to_le_bytes w64 id.first ++ rest) c.split_number-second.ensures.split)
          ∙ sym (append_assoc (flat_map id_spelling c.loop.ids.items) (id_spelling id) c.split_number-second.result.1.now)
          ∙ ap (λ (front : List ℕ). front ++ c.split_number-second.result.1.now)
          (sym (flat_map-append id_spelling c.loop.ids.items (id ∷ [])) ∙ ap (flat_map id_spelling) (sym c.in_ok-push.ensures.items));
    }
