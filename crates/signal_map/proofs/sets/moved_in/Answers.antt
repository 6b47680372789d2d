-- A turn adds the signal's FreeBSD bit exactly where the set has its Linux bit.
use Rattle.std.proofs.Common.{◌∙◌, ◌^◌, ap, bit_or, sym}
use Rattle.std.specs.Int.Bits.{or_zero_r}
use Rattle.linux_abi.specs.LinuxSig.{linux_bit}
use Rattle.bsd_abi.specs.BsdSig.{bsd_bit}
use Rattle.signal_map.specs.Sets.{linux_bit_of}
use Rattle.signal_map.proofs.SetLoops.{put_found, put_lacking, turn, made_whole}
use Rattle.signal_map.proofs.sets.moved_in.Goals as goal
use Rattle.signal_map.proofs.sets.moved_in.Goals.{then-linux-bit-ne0, else-linux-bit-ne0}

pub loop-signal-preserved : goal.loop-signal-preserved
loop-signal-preserved c =
    let made = c.loop-signal.bsd in
    let mask_is = c.bit.ensures ∙ ap (λ s. 2 ^ linux_bit s) c.signal_out.ensures.value in
    elim c.if-linux-bit-ne0.branch [
      | then-linux-bit-ne0 w ↦
          turn linux_bit_of bsd_bit _ _ _ _ made _ c.loop-signal-test.true
          (w.bsd-is ∙ ap (bit_or made) (put_found _ _ _ _ _ mask_is w.if-linux-bit-ne0.true w.bit-bsd.ensures))
          c.loop-signal.invariant
      | else-linux-bit-ne0 w ↦
          turn linux_bit_of bsd_bit _ _ _ _ made _ c.loop-signal-test.true
          (w.bsd-is ∙ sym (ap (bit_or made) (put_lacking _ _ _ _ mask_is w.if-linux-bit-ne0.false) ∙ or_zero_r made))
          c.loop-signal.invariant
    ]

pub returns : goal.returns
returns c = made_whole linux_bit_of bsd_bit _ _ _ _ c.loop-signal-test.false c.loop-signal.invariant
