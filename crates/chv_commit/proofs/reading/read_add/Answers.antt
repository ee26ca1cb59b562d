-- Bytes of no id, or of another number of ids than is told, are those of no entries.
use Rattle.std.proofs.Common.{◌++◌, ◌∙◌, ap, sym, arith, List, ℕ, drop}
use Rattle.std.specs.Int.{w64, to_le_bytes}
use Rattle.chv_commit.proofs.CommitLemmas.{counted}
use Rattle.chv_commit.proofs.reading.read_add.Goals as goal

pub returns-then-not-are_ids-clause-none : goal.returns-then-not-are_ids-clause-none
returns-then-not-are_ids-clause-none c = λ is part rows ids of e.
    let split = c.split_number-part.ensures.split
    ∙ ap (λ (l : List ℕ). to_le_bytes w64 c.split_number-part.result.0 ++ l) (c.split_number-rows.ensures.split
    ∙ ap (λ (l : List ℕ). to_le_bytes w64 c.split_number-rows.result.0 ++ l) c.split_count-count.ensures.split) in
    let told = counted c.split_number-part.result.0 c.split_number-rows.result.0 c.split_count-count.result.0 part rows c.split_count-count.result.1.now ids
    c.split_count-count.ensures.small of.3 (sym split ∙ ap (drop 1) e) in
    let yes = c.if-not-are_ids.ensures.1 (omega (arith, told.0, of.2), omega (arith, told.0, told.1)) in
    cc
