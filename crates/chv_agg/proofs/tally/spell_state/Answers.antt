use Rattle.chv_agg.proofs.StateLemmas.{FitsState-counted}
use Rattle.chv_agg.proofs.tally.spell_state.Goals as goal

pub any_spell-requires : goal.any_spell-requires
any_spell-requires c = record { fits = (c.requires.fits.0, FitsState-counted _ _ _ c.count_values.ensures c.requires.fits.1) }
