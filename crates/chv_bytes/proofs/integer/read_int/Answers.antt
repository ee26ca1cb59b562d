use Rattle.std.proofs.Common.{◌≡◌, ◌-◌, ◌∙◌, take, drop, length, ap, arith, length-drop, to_z, of_z}
use Rattle.std.proofs.lemmas.Int.{to_z-of_z}
use Rattle.std.proofs.lemmas.List.{take_all}
use Rattle.std.specs.Int.{w128}
use Rattle.chv_bytes.specs.Integers.{int_bytes, width_of}
use Rattle.chv_bytes.proofs.IntegerLemmas.{integer_stands}
use Rattle.chv_bytes.proofs.integer.read_int.Goals as goal

pub returns-clause-found : goal.returns-clause-found
returns-clause-found c =
    let bytes = c.args.bytes.now in
    let width = c.width-width.ensures.width in
    let same : to_z w128 (of_z w128 c.first_int.result) ≡ c.first_int.result = to_z-of_z w128 c.first_int.result (record { sfits = c.first_int.type_inv }) in
    let whole : take (length bytes - c.args.at) (drop c.args.at bytes) ≡ drop c.args.at bytes = take_all (length bytes - c.args.at) (drop c.args.at bytes) (omega (arith, length-drop c.args.at bytes)) in
    integer_stands c.args.kind (to_z w128 (of_z w128 c.first_int.result)) bytes c.args.at _
    (ap (int_bytes c.args.kind) same ∙ c.first_int.ensures.bytes ∙ ap (take (width_of c.args.kind)) whole)
    (omega (arith, width)) (omega (arith, width))
