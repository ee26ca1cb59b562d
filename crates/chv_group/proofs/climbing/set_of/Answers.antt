use Rattle.std.proofs.Common.{◌≡◌, ◌∙◌, ◌++◌, ◌∷◌, [], ℤ, List, None, pos, ap, get_or, rules, sym, take, to_z, of_z}
use Rattle.std.proofs.lemmas.List.{take_more}
use Rattle.std.specs.Int.{w128}
use Rattle.std.specs.List.{position}
use Rattle.std.specs.Ordering.{int_eq}
use Rattle.indexmap.specs.IndexSet.{insert_key}
use Rattle.chv_group.proofs.ClimbLemmas.{above-before, position-above}
use Rattle.chv_group.proofs.KeyNameLemmas.{insert-number}
use Rattle.chv_group.proofs.climbing.set_of.Goals as goal

pub loop-i-preserved : goal.loop-i-preserved
loop-i-preserved c =
    let climbing = c.args.climbing.now in
    let i = c.loop-i.i in
    let keys = c.loop-i.set.keys in
    let n : ℤ = get_or climbing i (pos 0) in
    let same : to_z w128 (of_z w128 n) ≡ n = search rules in
    let so_far : keys ≡ take i climbing = c.loop-i.invariant in
    let new : position (int_eq n) keys ≡ None = ap (position (int_eq n)) so_far ∙ position-above n (take i climbing) (above-before climbing i (pos 0) c.requires.climb c.loop-i-test.true) in
    c.in_ok-insert.ensures.keys ∙ ap (λ (k : ℤ). insert_key int_eq keys k) same ∙ insert-number n keys new
    ∙ ap (λ (some : List ℤ). some ++ n ∷ []) so_far ∙ sym (take_more climbing i (pos 0) c.loop-i-test.true)
