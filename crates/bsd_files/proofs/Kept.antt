-- What holds of the files at all times is kept by each call.
use Rattle.std.specs.Prelude.{◌≡◌, refl, ℕ, zero, suc, replicate, ◌+◌, ◌-◌, ◌^◌, ◌==◌, ◌||◌, ◌<◌, Bool, true, false, nat_lt, if◌then◌else◌, List, [], ◌∷◌, length, Option, Some, None, is_some}
use Rattle.std.proofs.Common.{arith, ap}
use Rattle.std.proofs.Math.Bool.{not}
use Rattle.lx_machine.specs.Files.{descriptor, has_reader, held_once_more}
use Rattle.lx_machine.specs.Interests.{drained_side, side_holds}
use Rattle.lx_machine.specs.Lists.{at_place}
use Rattle.lx_machine.specs.Read.{counted_down}
use Rattle.lx_machine.specs.Write.{goes_in}
use Rattle.lx_machine.specs.declared.files.Counter.{Counter}
use Rattle.lx_machine.specs.declared.files.Descriptor.{Descriptor}
use Rattle.lx_machine.specs.declared.files.FileKind.{FileKind}
use Rattle.lx_machine.specs.declared.files.Files.{Files}
use Rattle.lx_machine.specs.declared.files.OpenFile.{OpenFile}
use Rattle.lx_machine.specs.declared.label.LxSide.{LxSide}
use Rattle.lx_machine.specs.declared.label.LxSide.TheVariants as side
use Rattle.lx_machine.specs.declared.files.FileKind.TheVariants as kind
use Rattle.bsd_files.specs.Calls.{held, held_as, set_blocking, set_blocking_as, set_flag, set_flag_as}
use Rattle.bsd_files.specs.Look.{Look, as_write, console, counter_read, counter_write, input, of_it, read_end, read_look, stays, write_end, write_look}
use Rattle.places.specs.Places.{number_at}
use Rattle.open_files.proofs.Keeping.{counter_set, descriptor_set, file_changed}
use Rattle.open_files.proofs.Pigeons.{no_yes}
use Rattle.open_files.specs.Named.{IsKept, holds_in}
use Rattle.open_files.specs.Plain.{plain_of}
use Rattle.lx_machine.specs.Start.{first_files}

-- ---- the start

no_place : (m n : ℕ) → is_some (at_place {X = Counter} (replicate m None) n) ≡ true → ⊥
no_place zero n h = no_yes h
no_place (suc m) zero h = no_yes h
no_place (suc m) (suc n) h = no_place m n h

pub first_kept : (bytes : List ℕ) → IsKept (plain_of (first_files bytes))
first_kept bytes = record {
  descriptors = refl;
  files = refl;
  counters = refl;
  holds = omega arith;
  counted = λ n h. absurd (no_place 384 n h);
}

-- ---- descriptors, holds and flags

flag_at : (F : Files) (fd : ℕ) (on : Bool) (o : Option Descriptor) → IsKept F → IsKept (set_flag_as F fd on o)
flag_at F fd on None k = k
flag_at F fd on (Some d) k = descriptor_set F fd (Some (descriptor d.file on)) k

pub flag_kept : (F : Files) (fd : ℕ) (on : Bool) → IsKept F → IsKept (set_flag F fd on)
flag_kept F fd on k = flag_at F fd on (at_place F.descriptors fd) k

hold_at : (F : Files) (file : ℕ) (o : Option OpenFile) → at_place F.files file ≡ o → holds_in F < 128 → IsKept F → IsKept (held_as F file o)
hold_at F file None e h k = k
hold_at F file (Some f) e h k = file_changed F file 1 f (held_once_more f) k e refl (omega arith) (omega (arith, h))

pub hold_kept : (F : Files) (file : ℕ) → holds_in F < 128 → IsKept F → IsKept (held F file)
hold_kept F file h k = hold_at F file (at_place F.files file) refl h k

blocking_at : (F : Files) (file : ℕ) (on : Bool) (o : Option OpenFile) → at_place F.files file ≡ o → IsKept F → IsKept (set_blocking_as F file on o)
blocking_at F file on None e k = k
blocking_at F file on (Some f) e k = let few = k.holds in file_changed F file 0 f (record f { nonblocking = on }) k e refl (omega arith) (omega (arith, few))

pub blocking_kept : (F : Files) (file : ℕ) (on : Bool) → IsKept F → IsKept (set_blocking F file on)
blocking_kept F file on k = blocking_at F file on (at_place F.files file) refl k

pub drain_kept : (F : Files) (which : LxSide) (n : ℕ) → IsKept F → IsKept (drained_side F which n)
drain_kept F side.Out n k = k
drain_kept F side.Err n k = k

-- ---- looks

if_look : (b : Bool) (x y : Look) → IsKept x.plain → IsKept y.plain → IsKept (if b then x else y).plain
if_look true x y h k = h
if_look false x y h k = k

counter_at : (F : Files) (n : ℕ) (o : Option Counter) (look : Counter → Look) → at_place F.counters n ≡ o → IsKept F
    → ((c : Counter) → is_some (at_place F.counters n) ≡ true → IsKept (look c).plain) → IsKept (of_it F o look).plain
counter_at F n None look e k h = k
counter_at F n (Some c) look e k h = h c (ap is_some e)

count_read : (F : Files) (len : ℕ) (f : OpenFile) (n : ℕ) (c : Counter) → IsKept F → is_some (at_place F.counters n) ≡ true → IsKept (counter_read F len f n c).plain
count_read F len f n c k h = if_look (nat_lt len 8) _ _ k (if_look (c.value == 0) _ _ k (counter_set F n (counted_down c) h k))

count_written : (F : Files) (bytes : List ℕ) (f : OpenFile) (n : ℕ) (c : Counter) → IsKept F → is_some (at_place F.counters n) ≡ true → IsKept (counter_write F bytes f n c).plain
count_written F bytes f n c k h =
    if_look (nat_lt (length bytes) 8 || (number_at bytes 0 8 == 2 ^ 64 - 1)) _ _ k
    (if_look (nat_lt (2 ^ 64 - 2) (c.value + number_at bytes 0 8)) _ _ k (counter_set F n (record c { value = c.value + number_at bytes 0 8 }) h k))

pipe_at : (F : Files) (o : Option (List ℕ)) (look : List ℕ → Look) → IsKept F → ((held : List ℕ) → IsKept (look held).plain) → IsKept (of_it F o look).plain
pipe_at F None look k h = k
pipe_at F (Some held) look k h = h held

end_read : (F : Files) (len : ℕ) (f : OpenFile) (p : ℕ) (held : List ℕ) → IsKept F → IsKept (read_end F len f p held).plain
end_read F len f p [] k = k
end_read F len f p (b ∷ bs) k = k

end_written : (F : Files) (done : ℕ) (bytes : List ℕ) (f : OpenFile) (p : ℕ) (held : List ℕ) → IsKept F → IsKept (write_end F done bytes f p held).plain
end_written F done bytes f p held k = if_look (not (has_reader F p)) _ _ k (if_look (goes_in (as_write done bytes) (length held) == 0) _ _ k k)

console_written : (F : Files) (done : ℕ) (bytes : List ℕ) (f : OpenFile) (which : LxSide) → IsKept F → IsKept (console F done bytes f which).plain
console_written F done bytes f side.Out k = if_look (goes_in (as_write done bytes) (length (side_holds F side.Out)) == 0) _ _ k k
console_written F done bytes f side.Err k = if_look (goes_in (as_write done bytes) (length (side_holds F side.Err)) == 0) _ _ k k

pub read_kept : (F : Files) (len : ℕ) (f : OpenFile) (what : FileKind) → IsKept F → IsKept (read_look F len f what).plain
read_kept F len f (kind.Counter n) k = counter_at F n (at_place F.counters n) (counter_read F len f n) refl k (λ c h. count_read F len f n c k h)
read_kept F len f kind.Input k = if_look (len == 0) (stays F _) (input F len) k k
read_kept F len f (kind.PipeRead p) k = if_look (len == 0) (stays F _) _ k (pipe_at F (at_place F.pipes p) (read_end F len f p) k (λ held. end_read F len f p held k))
read_kept F len f (kind.PipeWrite p) k = k
read_kept F len f (kind.Console which) k = k
read_kept F len f (kind.Epoll n) k = k

pub write_kept : (F : Files) (done : ℕ) (bytes : List ℕ) (f : OpenFile) (what : FileKind) → IsKept F → IsKept (write_look F done bytes f what).plain
write_kept F done bytes f (kind.Counter n) k = counter_at F n (at_place F.counters n) (counter_write F bytes f n) refl k (λ c h. count_written F bytes f n c k h)
write_kept F done bytes f (kind.Console which) k = if_look (done + length bytes == 0) (stays F _) _ k (console_written F done bytes f which k)
write_kept F done bytes f (kind.PipeWrite p) k = if_look (done + length bytes == 0) (stays F _) _ k (pipe_at F (at_place F.pipes p) (write_end F done bytes f p) k (λ held. end_written F done bytes f p held k))
write_kept F done bytes f kind.Input k = k
write_kept F done bytes f (kind.PipeRead p) k = k
write_kept F done bytes f (kind.Epoll n) k = k
