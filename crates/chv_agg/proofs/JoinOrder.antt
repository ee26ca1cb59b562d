-- States of all functions are joined in any order.
use Rattle.std.proofs.Common.{◌≡◌, ℕ, ℤ, List, refl, ap}
use Rattle.std.specs.declared.option.Option.{Option}
use Rattle.chv_agg.specs.CountLaws.{unsigned_join-assoc, unsigned_join-comm}
use Rattle.chv_agg.specs.ExtremeLaws.{greatest_laws, least_laws}
use Rattle.chv_agg.specs.States.{join}
use Rattle.chv_agg.specs.SumLaws.{signed_join-assoc, signed_join-comm}
use Rattle.chv_agg.specs.UniqLaws.{set_join-assoc, set_join-comm}
use Rattle.chv_agg.specs.declared.any_agg.AnyAgg.{AnyAgg}
use Rattle.chv_agg.specs.declared.any_agg.AnyAgg.TheVariants.{Count, SumU, SumI, Least, Greatest, Uniq}
use Rattle.chv_types.specs.declared.value.Value.{Value}

-- what holds of the states of each function holds of all
pub each : (P : AnyAgg → Type 0) → ((n : ℕ) → P (Count n)) → ((n : ℕ) → P (SumU n)) → ((n : ℤ) → P (SumI n)) → ((f : Option Value) → P (Least f)) → ((f : Option Value) → P (Greatest f)) → ((vs : List Value) → P (Uniq vs)) → (state : AnyAgg) → P state
each P count unsigned signed least greatest uniq (Count x) = count x
each P count unsigned signed least greatest uniq (SumU x) = unsigned x
each P count unsigned signed least greatest uniq (SumI x) = signed x
each P count unsigned signed least greatest uniq (Least x) = least x
each P count unsigned signed least greatest uniq (Greatest x) = greatest x
each P count unsigned signed least greatest uniq (Uniq x) = uniq x

-- three states are joined alike from either side
abbrev Turns : AnyAgg → AnyAgg → AnyAgg → Type 0
Turns a b c = join (join a b) c ≡ join a (join b c)

pub join-comm : (a b : AnyAgg) → join a b ≡ join b a
unfolding join
join-comm (Count l) = each (λ state. join (Count l) state ≡ join state (Count l)) (λ x. ap Count (unsigned_join-comm l x)) (λ x. refl) (λ x. refl) (λ x. refl) (λ x. refl) (λ x. refl)
join-comm (SumU l) = each (λ state. join (SumU l) state ≡ join state (SumU l)) (λ x. refl) (λ x. ap SumU (unsigned_join-comm l x)) (λ x. refl) (λ x. refl) (λ x. refl) (λ x. refl)
join-comm (SumI l) = each (λ state. join (SumI l) state ≡ join state (SumI l)) (λ x. refl) (λ x. refl) (λ x. ap SumI (signed_join-comm l x)) (λ x. refl) (λ x. refl) (λ x. refl)
join-comm (Least l) = each (λ state. join (Least l) state ≡ join state (Least l)) (λ x. refl) (λ x. refl) (λ x. refl) (λ x. ap Least (least_laws.comm l x)) (λ x. refl) (λ x. refl)
join-comm (Greatest l) = each (λ state. join (Greatest l) state ≡ join state (Greatest l)) (λ x. refl) (λ x. refl) (λ x. refl) (λ x. refl) (λ x. ap Greatest (greatest_laws.comm l x)) (λ x. refl)
join-comm (Uniq l) = each (λ state. join (Uniq l) state ≡ join state (Uniq l)) (λ x. refl) (λ x. refl) (λ x. refl) (λ x. refl) (λ x. refl) (λ x. ap Uniq (set_join-comm l x))

pub join-assoc : (a b c : AnyAgg) → join (join a b) c ≡ join a (join b c)
unfolding join
join-assoc (Count l) =
    each (λ b. (c : AnyAgg) → Turns (Count l) b c)
    (λ m. each (Turns (Count l) (Count m)) (λ x. ap Count (unsigned_join-assoc l m x)) (λ x. refl) (λ x. refl) (λ x. refl) (λ x. refl) (λ x. refl))
    (λ m. each (Turns (Count l) (SumU m)) (λ x. refl) (λ x. refl) (λ x. refl) (λ x. refl) (λ x. refl) (λ x. refl))
    (λ m. each (Turns (Count l) (SumI m)) (λ x. refl) (λ x. refl) (λ x. refl) (λ x. refl) (λ x. refl) (λ x. refl))
    (λ m. each (Turns (Count l) (Least m)) (λ x. refl) (λ x. refl) (λ x. refl) (λ x. refl) (λ x. refl) (λ x. refl))
    (λ m. each (Turns (Count l) (Greatest m)) (λ x. refl) (λ x. refl) (λ x. refl) (λ x. refl) (λ x. refl) (λ x. refl))
    (λ m. each (Turns (Count l) (Uniq m)) (λ x. refl) (λ x. refl) (λ x. refl) (λ x. refl) (λ x. refl) (λ x. refl))
join-assoc (SumU l) =
    each (λ b. (c : AnyAgg) → Turns (SumU l) b c)
    (λ m. each (Turns (SumU l) (Count m)) (λ x. refl) (λ x. refl) (λ x. refl) (λ x. refl) (λ x. refl) (λ x. refl))
    (λ m. each (Turns (SumU l) (SumU m)) (λ x. refl) (λ x. ap SumU (unsigned_join-assoc l m x)) (λ x. refl) (λ x. refl) (λ x. refl) (λ x. refl))
    (λ m. each (Turns (SumU l) (SumI m)) (λ x. refl) (λ x. refl) (λ x. refl) (λ x. refl) (λ x. refl) (λ x. refl))
    (λ m. each (Turns (SumU l) (Least m)) (λ x. refl) (λ x. refl) (λ x. refl) (λ x. refl) (λ x. refl) (λ x. refl))
    (λ m. each (Turns (SumU l) (Greatest m)) (λ x. refl) (λ x. refl) (λ x. refl) (λ x. refl) (λ x. refl) (λ x. refl))
    (λ m. each (Turns (SumU l) (Uniq m)) (λ x. refl) (λ x. refl) (λ x. refl) (λ x. refl) (λ x. refl) (λ x. refl))
join-assoc (SumI l) =
    each (λ b. (c : AnyAgg) → Turns (SumI l) b c)
    (λ m. each (Turns (SumI l) (Count m)) (λ x. refl) (λ x. refl) (λ x. refl) (λ x. refl) (λ x. refl) (λ x. refl))
    (λ m. each (Turns (SumI l) (SumU m)) (λ x. refl) (λ x. refl) (λ x. refl) (λ x. refl) (λ x. refl) (λ x. refl))
    (λ m. each (Turns (SumI l) (SumI m)) (λ x. refl) (λ x. refl) (λ x. ap SumI (signed_join-assoc l m x)) (λ x. refl) (λ x. refl) (λ x. refl))
    (λ m. each (Turns (SumI l) (Least m)) (λ x. refl) (λ x. refl) (λ x. refl) (λ x. refl) (λ x. refl) (λ x. refl))
    (λ m. each (Turns (SumI l) (Greatest m)) (λ x. refl) (λ x. refl) (λ x. refl) (λ x. refl) (λ x. refl) (λ x. refl))
    (λ m. each (Turns (SumI l) (Uniq m)) (λ x. refl) (λ x. refl) (λ x. refl) (λ x. refl) (λ x. refl) (λ x. refl))
join-assoc (Least l) =
    each (λ b. (c : AnyAgg) → Turns (Least l) b c)
    (λ m. each (Turns (Least l) (Count m)) (λ x. refl) (λ x. refl) (λ x. refl) (λ x. refl) (λ x. refl) (λ x. refl))
    (λ m. each (Turns (Least l) (SumU m)) (λ x. refl) (λ x. refl) (λ x. refl) (λ x. refl) (λ x. refl) (λ x. refl))
    (λ m. each (Turns (Least l) (SumI m)) (λ x. refl) (λ x. refl) (λ x. refl) (λ x. refl) (λ x. refl) (λ x. refl))
    (λ m. each (Turns (Least l) (Least m)) (λ x. refl) (λ x. refl) (λ x. refl) (λ x. ap Least (least_laws.assoc l m x)) (λ x. refl) (λ x. refl))
    (λ m. each (Turns (Least l) (Greatest m)) (λ x. refl) (λ x. refl) (λ x. refl) (λ x. refl) (λ x. refl) (λ x. refl))
    (λ m. each (Turns (Least l) (Uniq m)) (λ x. refl) (λ x. refl) (λ x. refl) (λ x. refl) (λ x. refl) (λ x. refl))
join-assoc (Greatest l) =
    each (λ b. (c : AnyAgg) → Turns (Greatest l) b c)
    (λ m. each (Turns (Greatest l) (Count m)) (λ x. refl) (λ x. refl) (λ x. refl) (λ x. refl) (λ x. refl) (λ x. refl))
    (λ m. each (Turns (Greatest l) (SumU m)) (λ x. refl) (λ x. refl) (λ x. refl) (λ x. refl) (λ x. refl) (λ x. refl))
    (λ m. each (Turns (Greatest l) (SumI m)) (λ x. refl) (λ x. refl) (λ x. refl) (λ x. refl) (λ x. refl) (λ x. refl))
    (λ m. each (Turns (Greatest l) (Least m)) (λ x. refl) (λ x. refl) (λ x. refl) (λ x. refl) (λ x. refl) (λ x. refl))
    (λ m. each (Turns (Greatest l) (Greatest m)) (λ x. refl) (λ x. refl) (λ x. refl) (λ x. refl) (λ x. ap Greatest (greatest_laws.assoc l m x)) (λ x. refl))
    (λ m. each (Turns (Greatest l) (Uniq m)) (λ x. refl) (λ x. refl) (λ x. refl) (λ x. refl) (λ x. refl) (λ x. refl))
join-assoc (Uniq l) =
    each (λ b. (c : AnyAgg) → Turns (Uniq l) b c)
    (λ m. each (Turns (Uniq l) (Count m)) (λ x. refl) (λ x. refl) (λ x. refl) (λ x. refl) (λ x. refl) (λ x. refl))
    (λ m. each (Turns (Uniq l) (SumU m)) (λ x. refl) (λ x. refl) (λ x. refl) (λ x. refl) (λ x. refl) (λ x. refl))
    (λ m. each (Turns (Uniq l) (SumI m)) (λ x. refl) (λ x. refl) (λ x. refl) (λ x. refl) (λ x. refl) (λ x. refl))
    (λ m. each (Turns (Uniq l) (Least m)) (λ x. refl) (λ x. refl) (λ x. refl) (λ x. refl) (λ x. refl) (λ x. refl))
    (λ m. each (Turns (Uniq l) (Greatest m)) (λ x. refl) (λ x. refl) (λ x. refl) (λ x. refl) (λ x. refl) (λ x. refl))
    (λ m. each (Turns (Uniq l) (Uniq m)) (λ x. refl) (λ x. refl) (λ x. refl) (λ x. refl) (λ x. refl) (λ x. ap Uniq (set_join-assoc l m x)))
