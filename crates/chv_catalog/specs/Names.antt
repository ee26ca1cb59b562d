-- Names that differ, and the room for more.
use Rattle.std.specs.Prelude.{ℕ, List, map}
use Rattle.std.specs.declared.alloc.Global.{Global}
use Rattle.std.specs.declared.vec.Vec.{Vec}

-- what is held: the names in order, and how many more need no memory
pub record Named : Type 0 where
  pub names : List (List ℕ)
  pub room : ℕ

-- the texts of vectors of bytes
abbrev pub texts_of : List (Vec ℕ Global) → List (List ℕ)
texts_of keys = map (λ key. key.items) keys
