-- What is taken out of its place and put back changes nothing else.
use Rattle.std.proofs.Common.{◌≡◌, ℕ, zero, suc, ◌≤◌, List, [], ◌∷◌, Option, Some, None, length, slice_set, refl, ap, subst, sym}
use Rattle.std.proofs.lemmas.Option.{slice_get_past}
use Rattle.lx_signals.proofs.Placed.{placed_back}
use Rattle.lx_machine.specs.Lists.{at_place}
use Rattle.lx_machine.specs.Threads.{with_call, with_thread, without_call, without_thread}
use Rattle.lx_machine.specs.declared.state.LinuxState.{LinuxState}
use Rattle.lx_machine.specs.declared.calls.LxCall.{LxCall}
use Rattle.lx_machine.specs.declared.threads.LxThread.{LxThread}

-- a call that is put back
pub call_back : (t : LxThread) (c : LxCall) → t.call ≡ Some c → with_call (without_call t) c ≡ t
call_back t c is = ap (λ (o : Option LxCall). record t { call = o }) (sym is)

-- a place that is made free and filled again with what was there
set_again : (xs : List (Option LxThread)) (i : ℕ) (t : LxThread) → at_place xs i ≡ Some t → slice_set (slice_set xs i None) i (Some t) ≡ xs
set_again [] i t is = refl
set_again (x ∷ xs) zero t is = λ j. sym is j ∷ xs
set_again (x ∷ xs) (suc i) t is = let rest : slice_set (slice_set xs i None) i (Some t) ≡ xs = set_again xs i t is in λ j. x ∷ rest j

-- a place that was free, and is made free
pub none_out : (xs : List (Option LxThread)) (i : ℕ) → at_place xs i ≡ None → slice_set xs i None ≡ xs
none_out xs i is = subst (λ (p : Option LxThread). slice_set xs i p ≡ xs) is (placed_back xs i)

-- there is no thread in a slot past the last
pub no_thread : (threads : List (Option LxThread)) (s : ℕ) → length threads ≤ s → at_place threads s ≡ None
no_thread threads s past = rw (slice_get_past threads s past) refl

-- a thread that is put back
pub thread_back : (L : LinuxState) (s : ℕ) (t : LxThread) → at_place L.threads s ≡ Some t → with_thread (without_thread L s) s t ≡ L
thread_back L s t is = ap (λ (threads : List (Option LxThread)). record L { threads = threads }) (set_again L.threads s t is)
