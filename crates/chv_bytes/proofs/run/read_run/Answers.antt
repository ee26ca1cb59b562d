use Rattle.std.proofs.Common.{◌≡◌, ◌-◌, ◌∙◌, take, drop, length, ap, rules, arith, length-drop}
use Rattle.std.proofs.lemmas.List.{take_all}
use Rattle.byteorder.specs.Endian.{little_number}
use Rattle.chv_bytes.proofs.RunLemmas.{run_stands}
use Rattle.chv_bytes.proofs.run.read_run.Goals as goal

pub returns-clause-found : goal.returns-clause-found
returns-clause-found c =
    let bytes = c.args.bytes.now in
    let whole : take (length bytes - c.args.at) (drop c.args.at bytes) ≡ drop c.args.at bytes = take_all (length bytes - c.args.at) (drop c.args.at bytes) (omega (arith, length-drop c.args.at bytes)) in
    let number : c.read_u32-length.result ≡ little_number 4 (drop c.args.at bytes) = c.read_u32-length.ensures ∙ ap (little_number 4) whole in
    run_stands bytes c.args.at c.read_u32-length.result number (omega arith) (search rules)
