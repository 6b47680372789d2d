-- The set that the loop made is the map's.
use Rattle.std.proofs.Common.{sym, subst}
use Rattle.bsd_abi.specs.BsdSig.{bsd_bit}
use Rattle.signal_map.specs.Sets.{linux_bit_of, set_out_of, MovesSignals}
use Rattle.signal_map.proofs.SetMaps.{set_out-moves}
use Rattle.signal_map.proofs.sets.set_out.Goals as goal

pub returns-clause-value : goal.returns-clause-value
unfolding set_out_of
returns-clause-value c = c.moved_out.ensures

pub returns-clause-bits : goal.returns-clause-bits
returns-clause-bits c = subst (MovesSignals bsd_bit linux_bit_of c.args.bsd) (sym (returns-clause-value c)) (set_out-moves c.args.bsd)
