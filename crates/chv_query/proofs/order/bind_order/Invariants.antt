use Rattle.std.proofs.Common.{◌≡◌, drop}
use Rattle.chv_query.specs.Queries.{sorts_of}
use Rattle.chv_query.proofs.SortLemmas.{behind}
use Rattle.chv_query.proofs.order.bind_order.Given as goal

abbrev pub invariant-loop-order : goal.invariant-loop-order
invariant-loop-order l = sorts_of l.columns l.orders ≡ behind l.sorts (sorts_of l.columns (drop l.order-index l.orders))
