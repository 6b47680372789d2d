-- The set that the loop made is the map's.
use Rattle.std.proofs.Common.{◌∙◌, ap, sym, subst}
use Rattle.bsd_abi.specs.BsdSig.{bsd_bit}
use Rattle.signal_map.specs.Sets.{linux_bit_of, set_in_of, set_out_of, MovesSignals}
use Rattle.signal_map.proofs.SetMaps.{set_in-moves, set_out-in}
use Rattle.signal_map.proofs.sets.set_in.Goals as goal

pub returns-clause-value : goal.returns-clause-value
unfolding set_in_of
returns-clause-value c = c.moved_in.ensures

pub returns-clause-bits : goal.returns-clause-bits
returns-clause-bits c = subst (MovesSignals linux_bit_of bsd_bit c.args.linux) (sym (returns-clause-value c)) (set_in-moves c.args.linux)

pub returns-clause-back : goal.returns-clause-back
returns-clause-back c = ap set_out_of (returns-clause-value c) ∙ set_out-in c.args.linux c.ranges.linux.fits
