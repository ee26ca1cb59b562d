-- The last ids of a table.
use Rattle.std.specs.Prelude.{ℕ, List}
use Rattle.chv_sip.specs.declared.block_id.BlockId.{BlockId}

-- how many ids are kept, and the ids, the oldest first
pub record Seen : Type 0 where
  pub size : ℕ
  pub ids : List BlockId
