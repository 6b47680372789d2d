-- A signal that is pending nowhere any more: of the threads in their places, and of one that is put back into its place.
use Rattle.std.proofs.Common.{◌≡◌, ℕ, List, Option, Some, ap}
use Rattle.std.proofs.lemmas.List.{map-set}
use Rattle.linux_abi.specs.declared.signals.LinuxSig.{LinuxSig}
use Rattle.lx_machine.specs.Signal.{forgotten, without_all}
use Rattle.lx_machine.specs.Signal as signal
use Rattle.lx_machine.specs.Threads.{with_thread}
use Rattle.lx_machine.specs.declared.state.LinuxState.{LinuxState}
use Rattle.lx_machine.specs.declared.threads.LxThread.{LxThread}

pub forgotten_back : (sig : LinuxSig) (L : LinuxState) (s : ℕ) (t : LxThread)
    → forgotten (Some sig) (with_thread L s t) ≡ with_thread (forgotten (Some sig) L) s (record t { pending = without_all sig t.pending })
forgotten_back sig L s t =
    ap (λ (threads : List (Option LxThread)). record L { pending = without_all sig L.pending; threads = threads })
    (map-set (signal.forgotten_at sig) L.threads s (Some t))
