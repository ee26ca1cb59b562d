use Rattle.std.proofs.Common.{◌≡◌, map, take}
use Rattle.chv_catalog.specs.Checks.{places_of}
use Rattle.chv_catalog.proofs.named.places_of.Given as goal

abbrev pub invariant-loop-name : goal.invariant-loop-name
invariant-loop-name g l = l.places ≡ places_of (map g.C.Named.text l.columns) (map g.T.Named.text (take l.name-index l.names))
