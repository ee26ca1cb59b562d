-- What counts keep to.
use Rattle.std.proofs.Common.{◌≡◌, ℕ, ◌+◌, ◌%◌, ◌^◌, List, [], ◌∷◌, length, arith}
use Rattle.chv_agg.specs.AggregateLaws.{AggregateLaws, state_from}
use Rattle.chv_agg.specs.FoldLaws.{state_from-cons}
use Rattle.chv_agg.specs.Functions.{count_one, unsigned_fits, unsigned_join}
use Rattle.chv_types.specs.declared.value.Value.{Value}

pub unsigned_join-assoc : (a b c : ℕ) → unsigned_join (unsigned_join a b) c ≡ unsigned_join a (unsigned_join b c)
unsigned_join-assoc a b c = omega arith

pub unsigned_join-comm : (a b : ℕ) → unsigned_join a b ≡ unsigned_join b a
unsigned_join-comm a b = omega arith

pub count_laws : AggregateLaws unsigned_fits 0 count_one unsigned_join
count_laws = record {
  assoc = unsigned_join-assoc;
  comm = unsigned_join-comm;
  identity = λ arg a fits. omega arith;
  fits_unit = λ arg. omega arith;
  fits_one = λ arg value of. omega arith;
  closed = λ arg a b first second. omega arith;
}

pub count_state : (values : List Value) → state_from 0 count_one unsigned_join values ≡ length values % 2 ^ 64
count_state [] = omega arith
count_state (value ∷ values) =
    let rest : state_from 0 count_one unsigned_join values ≡ length values % 2 ^ 64 = count_state values in
    let first : state_from 0 count_one unsigned_join (value ∷ values) ≡ (1 + state_from 0 count_one unsigned_join values) % 2 ^ 64 =
    state_from-cons unsigned_join unsigned_join-assoc unsigned_join-comm 0 count_one value values in
    omega (arith, first, rest)
