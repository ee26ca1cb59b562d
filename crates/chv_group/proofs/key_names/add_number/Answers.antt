use Rattle.std.proofs.Common.{◌≡◌, ◌∙◌, ◌<ℤ◌, ◌++◌, ◌∷◌, [], List, ℤ, ap, map, rules, subst, sym, to_z, of_z}
use Rattle.std.specs.Int.{w128}
use Rattle.std.specs.Int.RustNames.{FitsSigned}
use Rattle.std.specs.List.{All}
use Rattle.chv_group.proofs.ClimbLemmas.{AreKept-push}
use Rattle.chv_group.proofs.KeyNameLemmas.{no_keys}
use Rattle.chv_group.specs.KeyBytes.{AreKept, number_name}
use Rattle.chv_types.specs.Names.{place_of}
use Rattle.chv_group.proofs.key_names.add_number.Goals as goal

pub returns-then-is_above-clause-kept : goal.returns-then-is_above-clause-kept
returns-then-is_above-clause-kept c =
    let n = c.args.n in
    let climbing = c.args.climbing.now.items in
    let numbers = c.args.numbers.now.keys in
    let same : to_z w128 (of_z w128 n) ≡ n = search rules in
    let fits : FitsSigned w128 n = search rules in
    let items : c.push.new.self.items ≡ climbing ++ n ∷ [] = search rules in
    let none : numbers ≡ [] = no_keys numbers (c.is_empty.ensures.0 c.if-is_empty.true) in
    let above : All (λ m. m <ℤ n) climbing =
    subst (λ (list : List ℤ). All (λ m. m <ℤ n) list) c.as_slice.ensures.value
    (subst (λ (k : ℤ). All (λ m. m <ℤ k) c.as_slice.result.now) same (c.is_above.ensures.above c.if-is_above.true)) in
    subst (λ (list : List ℤ). AreKept list numbers) (sym items) (AreKept-push climbing numbers n c.requires.kept none fits above)

pub add_to_set-requires-clause-new : goal.add_to_set-requires-clause-new
add_to_set-requires-clause-new c =
    let n = c.args.n in
    let settled = c.settle.new.numbers.keys in
    let same : to_z w128 (of_z w128 n) ≡ n = search rules in
    let keys : settled ≡ c.args.climbing.now.items ++ c.args.numbers.now.keys =
    ap (λ (climbing : List ℤ). climbing ++ settled) (sym c.in_ok-settle.ensures.settled) ∙ c.in_ok-settle.ensures.same in
    ap (λ (k : ℤ). place_of (number_name k) (map number_name settled)) same ∙ ap (λ (list : List ℤ). place_of (number_name n) (map number_name list)) keys ∙ c.requires.new
