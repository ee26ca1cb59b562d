-- What a column has where nothing is said is of the column's kind.
use Rattle.std.proofs.Common.{◌≡◌, pos, List, [], ◌∷◌, map, Bool, true, false, None, refl, arith, rules}
use Rattle.std.proofs.lemmas.Int.{ints}
use Rattle.std.proofs.lemmas.List.Elements.{All-nil}
use Rattle.chv_agg.specs.StateBytes.{AreState, state_bytes}
use Rattle.chv_agg.specs.States.{is_signed}
use Rattle.chv_agg.specs.declared.any_agg.AnyAgg.TheVariants.{Count, SumU, SumI, Least, Greatest, Uniq}
use Rattle.chv_types.specs.Fits.{IsOfScalar}
use Rattle.chv_types.specs.Values.{default_of}
use Rattle.chv_types.specs.declared.aggregate.AggName.{AggName}
use Rattle.chv_types.specs.declared.aggregate.AggName.TheVariants as agg
use Rattle.chv_types.specs.declared.kind.Kind.{Kind}
use Rattle.chv_types.specs.declared.kind.Kind.TheVariants as kind
use Rattle.chv_types.specs.declared.kind.Scalar.{Scalar}
use Rattle.chv_types.specs.declared.kind.Scalar.TheVariants as scalar
use Rattle.chv_block.specs.Spellings.{IsOf, AreOf}

-- 0 in eight bytes is a sum, signed or not
empty_sum : (arg : Scalar) (signed : Bool) → is_signed arg ≡ signed → AreState agg.Sum arg (0 ∷ 0 ∷ 0 ∷ 0 ∷ 0 ∷ 0 ∷ 0 ∷ 0 ∷ [])
unfolding state_bytes
empty_sum arg false is = record { state = SumU 0; fits = (is, omega arith); spelled = refl }
empty_sum arg true is = record { state = SumI (pos 0); fits = (is, omega (arith, ints), omega (arith, ints)); spelled = refl }

-- the state of no rows is a state of its function
empty_kind : (name : AggName) (arg : Scalar) → IsOf (kind.State name arg) (default_of (kind.State name arg))
unfolding state_bytes
empty_kind agg.Count arg = record { state = Count 0; fits = omega arith; spelled = refl }
empty_kind agg.Sum arg = empty_sum arg (is_signed arg) refl
empty_kind agg.Min arg = record { state = Least None; fits = tt; spelled = refl }
empty_kind agg.Max arg = record { state = Greatest None; fits = tt; spelled = refl }
empty_kind agg.UniqExact arg = record { state = Uniq []; fits = (All-nil (IsOfScalar arg), tt, omega arith); spelled = refl }

-- the default of a kind is of the kind
pub default_kind : (of : Kind) → IsOf of (default_of of)
default_kind (kind.Plain scalar.UInt8) = search (rules, ints)
default_kind (kind.Plain scalar.UInt16) = search (rules, ints)
default_kind (kind.Plain scalar.UInt32) = search (rules, ints)
default_kind (kind.Plain scalar.UInt64) = search (rules, ints)
default_kind (kind.Plain scalar.Int8) = search (rules, ints)
default_kind (kind.Plain scalar.Int16) = search (rules, ints)
default_kind (kind.Plain scalar.Int32) = search (rules, ints)
default_kind (kind.Plain scalar.Int64) = search (rules, ints)
default_kind (kind.Plain scalar.Bool) = refl
default_kind (kind.Plain scalar.Text) = (refl, omega arith)
default_kind (kind.State name arg) = empty_kind name arg

-- the defaults are of the kinds of their columns
pub defaults_are : (kinds : List Kind) → AreOf kinds (map default_of kinds)
defaults_are [] = tt
defaults_are (first ∷ kinds) = (default_kind first, defaults_are kinds)
