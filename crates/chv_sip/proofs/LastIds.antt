-- The last of a list are the last of what was kept of it.
use Rattle.std.proofs.Common.{◌≡◌, ℕ, ◌+◌, ◌-◌, List, ◌++◌, length, drop, sym, ap, ◌∙◌, arith}
use Rattle.std.proofs.lemmas.List.{drop-append-le, length-drop, length-append, drop-drop}
use Rattle.chv_sip.specs.declared.block_id.BlockId.{BlockId}
use Rattle.chv_sip.specs.BlockIds.{last_ids}

pub last_ids-last_ids : (size : ℕ) (older newer : List BlockId) → last_ids size (last_ids size older ++ newer) ≡ last_ids size (older ++ newer)
last_ids-last_ids size older newer =
    let gone = length older - size in
    let joined : drop gone older ++ newer ≡ drop gone (older ++ newer) = sym (drop-append-le gone older newer (omega arith)) in
    let left : length (drop gone (older ++ newer)) ≡ length (older ++ newer) - gone = length-drop gone (older ++ newer) in
    let all : length (older ++ newer) ≡ length older + length newer = length-append older newer in
    ap (last_ids size) joined
    ∙ drop-drop (length (drop gone (older ++ newer)) - size) gone (older ++ newer)
    ∙ ap (λ (n : ℕ). drop n (older ++ newer)) (omega (arith, left, all))
