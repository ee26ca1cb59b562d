-- Columns to sort by, one behind the other.
use Rattle.std.proofs.Common.{◌++◌, List, Result, Ok}
use Rattle.chv_ast.specs.declared.refusal.Refusal.{Refusal}
use Rattle.chv_types.specs.Steps.{and_then}
use Rattle.chv_query.specs.declared.query.Sort.{Sort}

-- columns to sort by, and those behind them
abbrev pub behind : List Sort → Result (List Sort) Refusal → Result (List Sort) Refusal
behind sorts more = and_then more (λ others. Ok (sorts ++ others))
