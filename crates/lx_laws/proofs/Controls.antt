-- What calls on descriptors leave of the console rooms and of the epolls.
use Rattle.std.proofs.Common.{◌≡◌, ℕ, Bool, true, false, not, ◌&&◌, List, [], ◌∷◌, Option, Some, None, option_map, refl, ap, ◌∙◌, sym, if◌then◌else◌, nat_le, length}
use Rattle.std.specs.Prelude.{slice_set}
use Rattle.linux_abi.specs.DescriptorOperation.{descriptor_operation_of}
use Rattle.linux_abi.specs.declared.files.DescriptorOperation.{DescriptorOperation}
use Rattle.linux_abi.specs.declared.files.DescriptorOperation.TheVariants as operation
use Rattle.linux_abi.specs.EpollBits.{is_exclusive}
use Rattle.linux_abi.specs.declared.epoll.EpollOperation.{EpollOperation}
use Rattle.linux_abi.specs.declared.epoll.EpollOperation.TheVariants as change
use Rattle.linux_abi.specs.declared.errno.LinuxErrno.{LinuxErrno}
use Rattle.linux_abi.specs.declared.errno.LinuxErrno.TheVariants as errno
use Rattle.lx_machine.specs.Calls.{argument, first_refusal, low_argument}
use Rattle.lx_machine.specs.Close.{close, close_of}
use Rattle.lx_machine.specs.Descriptors.{FilesOutcome, lowest_from, refused_where_open, refuses, second_free}
use Rattle.lx_machine.specs.Dup.{dup, dup3, dup3_of, dup3_to, dup_of, duplicate, duplicate_at}
use Rattle.lx_machine.specs.Epoll.{are_apart, interests_in, interests_of, on_epoll}
use Rattle.lx_machine.specs.EpollCreate.{epoll_create1, epoll_create_from, epoll_create_numbers}
use Rattle.lx_machine.specs.EpollCtl.{asked_of, control, control_of, control_refusal, controlled, descriptor_refusals, epoll_ctl, epoll_ctl_unless, epoll_of, file_of, interest_refusals, is_add, new_interest, or_else, stands_in}
use Rattle.lx_machine.specs.Eventfd.{eventfd, eventfd2}
use Rattle.lx_machine.specs.Fcntl.{fcntl, fcntl_by, fcntl_of, get_status, set_status}
use Rattle.lx_machine.specs.Interests.{is_other, stands}
use Rattle.lx_machine.specs.Ioctl.{ioctl}
use Rattle.lx_machine.specs.Lists.{at_place, first_free}
use Rattle.lx_machine.specs.Lseek.{lseek}
use Rattle.lx_machine.specs.Pipe.{pipe2, pipe_descriptors, pipe_files, pipe_from, pipe_numbers}
use Rattle.lx_machine.specs.declared.calls.LxCall.{LxCall}
use Rattle.lx_machine.specs.declared.files.Descriptor.{Descriptor}
use Rattle.lx_machine.specs.declared.files.Files.{Files}
use Rattle.lx_machine.specs.declared.files.Interest.{Interest}
use Rattle.lx_machine.specs.declared.files.OpenFile.{OpenFile}
use Rattle.lx_laws.proofs.Results.{if_of}
use Rattle.lx_laws.proofs.Apart.{apart_push, apart_set, from_map, keeps_changed, keeps_filter}
use Rattle.lx_laws.proofs.Files.{FilesTo, is_closed, new_epoll, on_epolls, same}

abbrev pub Does : (Files → LxCall → FilesOutcome) → Type 0
Does f = (F : Files) (c : LxCall) → FilesTo F (f F c).files

-- ---- one epoll

pub on_one : (F : Files) (n : ℕ) (f : List Interest → List Interest) → ((is : List Interest) → at_place F.epolls n ≡ Some is → are_apart is ≡ true → are_apart (f is) ≡ true) → FilesTo F (on_epoll F n f)
on_one F n f keeps = on_epolls F (slice_set F.epolls n (option_map f (at_place F.epolls n))) (λ h.
    apart_set F.epolls n (option_map f (at_place F.epolls n)) (λ is e.
    let was = from_map f (at_place F.epolls n) is e in
    sym (ap are_apart was.2) ∙ keeps was.0 was.1 (h n was.0 was.1)) h)

-- ---- epoll_create1

create_numbers : (F : Files) (c : LxCall) (fd : ℕ) (file number : Option ℕ) → FilesTo F (epoll_create_numbers F c fd file number).files
create_numbers F c fd (Some file) (Some number) = new_epoll F number
create_numbers F c fd (Some file) None = same F
create_numbers F c fd None (Some number) = same F
create_numbers F c fd None None = same F

create_from : (F : Files) (c : LxCall) (fd : Option ℕ) → FilesTo F (epoll_create_from F c fd).files
create_from F c (Some fd) = create_numbers F c fd (first_free F.files) (first_free F.epolls)
create_from F c None = same F

pub create : Does epoll_create1
create F c = create_from F c (lowest_from F 0)

-- ---- epoll_ctl

no_second : (a b : Option LinuxErrno) → or_else a b ≡ None → b ≡ None
no_second (Some e) b h = absurd (cc)
no_second None b h = h

second_fails : (a b : Bool) (e f : LinuxErrno) (o : Option LinuxErrno) → (if a then Some e else (if b then Some f else o)) ≡ None → b ≡ false
second_fails true b e f o h = absurd (cc)
second_fails false true e f o h = absurd (cc)
second_fails false false e f o h = refl

abbrev rest : List Interest → Option ℕ → LxCall → Option LinuxErrno
rest is file c =
    first_refusal ((is_add (control_of c) && nat_le 512 (length is), errno.ENOSPC) ∷ (not (is_add (control_of c)) && not (stands_in is file (low_argument c 2)), errno.ENOENT) ∷ [])

-- an add that isn't refused is of a name that doesn't stand
is_new : (F : Files) (c : LxCall) (n file : ℕ) (is : List Interest) → control_refusal F c ≡ None → epoll_of F (low_argument c 0) ≡ Some n → at_place F.epolls n ≡ Some is → file_of F (low_argument c 2) ≡ Some file → control_of c ≡ Some change.Add → stands file (low_argument c 2) is ≡ false
is_new F c n file is free hn hi hf hc =
    let epoll = epoll_of F (low_argument c 0) in
    let found = file_of F (low_argument c 2) in
    let fd = low_argument c 2 in
    let later = no_second (first_refusal (descriptor_refusals F c)) (first_refusal (interest_refusals (interests_of F epoll) found c)) free in
    let fails = second_fails (is_exclusive (asked_of c)) (is_add (control_of c) && stands_in (interests_of F epoll) found fd) errno.EINVAL errno.EEXIST (rest (interests_of F epoll) found c) later in
    sym (ap (λ (o : Option EpollOperation). is_add o && stands_in (interests_of F epoll) found fd) hc
    ∙ ap (λ (o : Option ℕ). stands_in (interests_of F o) found fd) hn
    ∙ ap (λ (o : Option (List Interest)). stands_in (interests_in o) found fd) hi
    ∙ ap (λ (o : Option ℕ). stands_in is o fd) hf) ∙ fails

control_by : (F : Files) (c : LxCall) (n file : ℕ) → control_refusal F c ≡ None → epoll_of F (low_argument c 0) ≡ Some n → file_of F (low_argument c 2) ≡ Some file → (o : Option EpollOperation) → control_of c ≡ o → FilesTo F (on_epoll F n (controlled o (new_interest F c file)))
control_by F c n file free hn hf (Some change.Add) hc = on_one F n _ (λ is hi apart. apart_push is (new_interest F c file) apart (is_new F c n file is free hn hi hf hc))
control_by F c n file free hn hf (Some change.Change) hc = on_one F n _ (λ is hi. keeps_changed (new_interest F c file) is)
control_by F c n file free hn hf (Some change.Delete) hc = on_one F n _ (λ is hi. keeps_filter (is_other file (low_argument c 2)) is)
control_by F c n file free hn hf None hc = on_one F n _ (λ is hi apart. apart)

control_at : (F : Files) (c : LxCall) (n file : Option ℕ) → control_refusal F c ≡ None → epoll_of F (low_argument c 0) ≡ n → file_of F (low_argument c 2) ≡ file → FilesTo F (control F c n file)
control_at F c (Some n) (Some file) free hn hf = control_by F c n file free hn hf (control_of c) refl
control_at F c (Some n) None free hn hf = same F
control_at F c None (Some file) free hn hf = same F
control_at F c None None free hn hf = same F

unless : (F : Files) (c : LxCall) (o : Option LinuxErrno) → control_refusal F c ≡ o → FilesTo F (epoll_ctl_unless F c o).files
unless F c (Some e) h = same F
unless F c None h = control_at F c (epoll_of F (low_argument c 0)) (file_of F (low_argument c 2)) h refl refl

pub controls : Does epoll_ctl
controls F c = unless F c (control_refusal F c) refl

-- ---- eventfd2 and pipe2

eventfd_numbers : (F : Files) (c : LxCall) (fd file number : Option ℕ) → FilesTo F (eventfd F c fd file number).files
eventfd_numbers F c (Some fd) (Some file) (Some number) = same F
eventfd_numbers F c (Some fd) (Some file) None = same F
eventfd_numbers F c (Some fd) None (Some number) = same F
eventfd_numbers F c (Some fd) None None = same F
eventfd_numbers F c None (Some file) (Some number) = same F
eventfd_numbers F c None (Some file) None = same F
eventfd_numbers F c None None (Some number) = same F
eventfd_numbers F c None None None = same F

pub makes_counter : Does eventfd2
makes_counter F c = eventfd_numbers F c (lowest_from F 0) (first_free F.files) (first_free F.counters)

pipe_second : (F : Files) (c : LxCall) (pipe fd fd2 file : ℕ) (o : Option ℕ) → FilesTo F (pipe_files F c pipe fd fd2 file o).files
pipe_second F c pipe fd fd2 file (Some file2) = same F
pipe_second F c pipe fd fd2 file None = same F

pipe_at_numbers : (F : Files) (c : LxCall) (fd fd2 : ℕ) (file pipe : Option ℕ) → FilesTo F (pipe_numbers F c fd fd2 file pipe).files
pipe_at_numbers F c fd fd2 (Some file) (Some pipe) = pipe_second F c pipe fd fd2 file (second_free F.files file)
pipe_at_numbers F c fd fd2 (Some file) None = same F
pipe_at_numbers F c fd fd2 None (Some pipe) = same F
pipe_at_numbers F c fd fd2 None None = same F

pipe_behind : (F : Files) (c : LxCall) (fd : ℕ) (o : Option ℕ) → FilesTo F (pipe_from F c fd o).files
pipe_behind F c fd (Some fd2) = pipe_at_numbers F c fd fd2 (first_free F.files) (first_free F.pipes)
pipe_behind F c fd None = same F

pipe_first : (F : Files) (c : LxCall) (o : Option ℕ) → FilesTo F (pipe_descriptors F c o).files
pipe_first F c (Some fd) = pipe_behind F c fd (second_free F.descriptors fd)
pipe_first F c None = same F

pub makes_pipe : Does pipe2
makes_pipe F c = pipe_first F c (first_free F.descriptors)

-- ---- duplicates

duplicate_to : (F : Files) (c : LxCall) (file : ℕ) (cloexec : Bool) (o : Option ℕ) → FilesTo F (duplicate_at F c file cloexec o).files
duplicate_to F c file cloexec (Some fd) = same F
duplicate_to F c file cloexec None = same F

duplicates : (F : Files) (c : LxCall) (file : ℕ) (cloexec : Bool) (from : ℕ) → FilesTo F (duplicate F c file cloexec from).files
duplicates F c file cloexec from =
    if_of (λ (o : FilesOutcome). FilesTo F o.files) (nat_le 256 from) (refuses F c errno.EINVAL) (duplicate_at F c file cloexec (lowest_from F from)) (same F) (duplicate_to F c file cloexec (lowest_from F from))

dup_descriptor : (F : Files) (c : LxCall) (o : Option Descriptor) → FilesTo F (dup_of F c o).files
dup_descriptor F c (Some d) = duplicates F c d.file false 0
dup_descriptor F c None = same F

pub dups : Does dup
dups F c = dup_descriptor F c (at_place F.descriptors (low_argument c 0))

dup3_descriptor : (F : Files) (c : LxCall) (o : Option Descriptor) → FilesTo F (dup3_of F c o).files
dup3_descriptor F c (Some d) =
    if_of (λ (o : FilesOutcome). FilesTo F o.files) (nat_le 256 (low_argument c 1)) (refuses F c errno.EBADF) (dup3_to F c d.file (low_argument c 1)) (same F) (is_closed F (low_argument c 1))
dup3_descriptor F c None = same F

pub dups3 : Does dup3
dups3 F c = dup3_descriptor F c (at_place F.descriptors (low_argument c 0))

-- ---- fcntl, ioctl, lseek, close

gets_status : (F : Files) (c : LxCall) (o : Option OpenFile) → FilesTo F (get_status F c o).files
gets_status F c (Some f) = same F
gets_status F c None = same F

sets_status : (F : Files) (c : LxCall) (file : ℕ) (o : Option OpenFile) → FilesTo F (set_status F c file o).files
sets_status F c file (Some f) = same F
sets_status F c file None = same F

fcntl_operation : (F : Files) (c : LxCall) (fd : ℕ) (d : Descriptor) (o : Option DescriptorOperation) → FilesTo F (fcntl_by F c fd d o).files
fcntl_operation F c fd d (Some operation.Duplicate) = duplicates F c d.file false (argument c 2)
fcntl_operation F c fd d (Some operation.DuplicateCloseOnExec) = duplicates F c d.file true (argument c 2)
fcntl_operation F c fd d (Some operation.GetCloseFlag) = same F
fcntl_operation F c fd d (Some operation.SetCloseFlag) = same F
fcntl_operation F c fd d (Some operation.GetStatus) = gets_status F c (at_place F.files d.file)
fcntl_operation F c fd d (Some operation.SetStatus) = sets_status F c d.file (at_place F.files d.file)
fcntl_operation F c fd d None = same F

fcntl_descriptor : (F : Files) (c : LxCall) (o : Option Descriptor) → FilesTo F (fcntl_of F c o).files
fcntl_descriptor F c (Some d) = fcntl_operation F c (low_argument c 0) d (descriptor_operation_of (low_argument c 1))
fcntl_descriptor F c None = same F

pub fcntls : Does fcntl
fcntls F c = fcntl_descriptor F c (at_place F.descriptors (low_argument c 0))

refused_open : (F : Files) (c : LxCall) (e : LinuxErrno) (o : Option Descriptor) → FilesTo F (refused_where_open F c e o).files
refused_open F c e (Some d) = same F
refused_open F c e None = same F

pub ioctls : Does ioctl
ioctls F c = refused_open F c errno.ENOTTY (at_place F.descriptors (low_argument c 0))

pub lseeks : Does lseek
lseeks F c = refused_open F c errno.ESPIPE (at_place F.descriptors (low_argument c 0))

close_descriptor : (F : Files) (c : LxCall) (o : Option Descriptor) → FilesTo F (close_of F c o).files
close_descriptor F c (Some d) = is_closed F (low_argument c 0)
close_descriptor F c None = same F

pub closes : Does close
closes F c = close_descriptor F c (at_place F.descriptors (low_argument c 0))
