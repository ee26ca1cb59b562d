-- States in bytes are joined in any order.
use Rattle.chv_agg.specs.Pairs.{IsAssociative, IsCommutative}
use Rattle.chv_agg.specs.StateBytes.{join_bytes}
use Rattle.chv_agg.proofs.StateFrontLemmas.{join_bytes-assoc, join_bytes-comm}
use Rattle.chv_types.specs.declared.aggregate.AggName.{AggName}
use Rattle.chv_types.specs.declared.kind.Scalar.{Scalar}

pub join_bytes-IsAssociative : (agg : AggName) (arg : Scalar) → IsAssociative (join_bytes agg arg)
join_bytes-IsAssociative agg arg = join_bytes-assoc agg arg

pub join_bytes-IsCommutative : (agg : AggName) (arg : Scalar) → IsCommutative (join_bytes agg arg)
join_bytes-IsCommutative agg arg = join_bytes-comm agg arg
