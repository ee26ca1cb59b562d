-- Items that arrive under ids, of which those are left out that came before.
use Rattle.std.specs.Prelude.{ℕ, Bool, ◌+◌, List, [], ◌∷◌, ◌++◌, suc, zero, if◌then◌else◌}
use Rattle.std.specs.List.{list_any}
use Rattle.chv_commit.specs.Replays.{Span}
use Rattle.chv_sip.specs.BlockIds.{id_eq, last_ids}
use Rattle.chv_sip.specs.declared.block_id.BlockId.{BlockId}

-- an id is among the last of some ids, so many at most
abbrev pub is_among_last : ℕ → BlockId → List BlockId → Bool
is_among_last window id ids = list_any (id_eq id) (last_ids window ids)

-- of items that arrive one after the other behind some ids, those whose ids are not among the last so many before them
abbrev pub fresh : {A : Type 0} → (A → BlockId) → ℕ → List BlockId → List A → List A
fresh id_of window ids [] = []
fresh id_of window ids (item ∷ items) =
    if is_among_last window (id_of item) ids then fresh id_of window ids items else item ∷ fresh id_of window (ids ++ id_of item ∷ []) items

-- so many new entries behind others have a part of their own, of level 0
abbrev pub with_part : ℕ → ℕ → List Span → List Span
with_part entries zero layout = layout
with_part entries (suc new) layout = layout ++ record { lo = entries + 1; hi = entries + suc new; level = 0 } ∷ []
