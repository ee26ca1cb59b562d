use Rattle.std.proofs.Common.{◌∙◌, refl}
use Rattle.chv_ast.specs.Lexemes.{is_reserved, reserved}
use Rattle.chv_print.proofs.name.is_reserved.Goals as goal

pub returns : goal.returns
unfolding is_reserved reserved
returns c = c.is_among.ensures ∙ refl
