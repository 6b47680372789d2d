-- A turn adds the signal's Linux bit exactly where the set has its FreeBSD bit.
use Rattle.std.proofs.Common.{◌∙◌, ◌^◌, ap, bit_or, sym}
use Rattle.std.specs.Int.Bits.{or_zero_r}
use Rattle.linux_abi.specs.LinuxSig.{linux_bit}
use Rattle.bsd_abi.specs.BsdSig.{bsd_bit}
use Rattle.signal_map.specs.Sets.{linux_bit_of}
use Rattle.signal_map.proofs.SetLoops.{put_found, put_lacking, turn, made_whole}
use Rattle.signal_map.proofs.sets.moved_out.Goals as goal
use Rattle.signal_map.proofs.sets.moved_out.Goals.{then-bsd-bit-ne0, else-bsd-bit-ne0}

pub loop-signal-preserved : goal.loop-signal-preserved
loop-signal-preserved c =
    let made = c.loop-signal.linux in
    elim c.if-bsd-bit-ne0.branch [
      | then-bsd-bit-ne0 w ↦
          let given_is = w.bit-linux.ensures ∙ ap (λ s. 2 ^ linux_bit s) w.signal_out.ensures.value in
          turn bsd_bit linux_bit_of _ _ _ _ made _ c.loop-signal-test.true
          (w.linux-is ∙ ap (bit_or made) (put_found _ _ _ _ _ c.bit.ensures w.if-bsd-bit-ne0.true given_is))
          c.loop-signal.invariant
      | else-bsd-bit-ne0 w ↦
          turn bsd_bit linux_bit_of _ _ _ _ made _ c.loop-signal-test.true
          (w.linux-is ∙ sym (ap (bit_or made) (put_lacking _ _ _ _ c.bit.ensures w.if-bsd-bit-ne0.false) ∙ or_zero_r made))
          c.loop-signal.invariant
    ]

pub returns : goal.returns
returns c = made_whole bsd_bit linux_bit_of _ _ _ _ c.loop-signal-test.false c.loop-signal.invariant
