-- pipe2. Source: pipe(2).
use Rattle.std.specs.Prelude.{Bool, List, None, Option, Some, [], ℕ, ◌++◌, ◌∷◌}
use Rattle.linux_abi.specs.declared.errno.LinuxErrno.{LinuxErrno}
use Rattle.lx_machine.specs.Calls.{answered_with, argument, has_other, low_argument}
use Rattle.lx_machine.specs.Descriptors.{FilesOutcome, files_outcome, has_cloexec, has_nonblock, refuses, second_free}
use Rattle.lx_machine.specs.Files.{descriptor, with_descriptor, with_file}
use Rattle.lx_machine.specs.Lists.{first_free, with_place}
use Rattle.lx_machine.specs.Pieces.{piece}
use Rattle.lx_machine.specs.declared.calls.LxCall.{LxCall}
use Rattle.lx_machine.specs.declared.files.Files.{Files}
use Rattle.places.specs.Places.{bytes_of}
use Rattle.linux_abi.specs.declared.errno.LinuxErrno.TheVariants as errno
use Rattle.lx_machine.specs.declared.files.FileKind.TheVariants as kind

-- pipe(2): O_NONBLOCK, O_CLOEXEC
abbrev pub pipe_refusals : LxCall → List (Bool × LinuxErrno)
pipe_refusals c = (has_other 0x80800 (low_argument c 1), errno.EINVAL) ∷ []

-- ---- pipe2

-- a pipe with an open file and a descriptor for each end; the two descriptors, 4 bytes each, are stored
abbrev pub pipe_at : Files → LxCall → ℕ → ℕ → ℕ → ℕ → ℕ → FilesOutcome
pipe_at F c pipe read_file write_file read_fd write_fd =
    let flags = low_argument c 1 in
    let made = with_file (with_file (record F { pipes = with_place F.pipes pipe [] }) read_file (kind.PipeRead pipe) (has_nonblock flags)) write_file (kind.PipeWrite pipe) (has_nonblock flags) in
    files_outcome (with_descriptor (with_descriptor made read_fd (descriptor read_file (has_cloexec flags))) write_fd (descriptor write_file (has_cloexec flags)))
    (answered_with c 0 (piece (argument c 0) 8 ∷ []) (bytes_of read_fd 4 ++ bytes_of write_fd 4))

-- a pipe whose first open file has this number: there is a second one
abbrev pub pipe_files : Files → LxCall → ℕ → ℕ → ℕ → ℕ → Option ℕ → FilesOutcome
pipe_files F c pipe fd fd2 file (Some file2) = pipe_at F c pipe file file2 fd fd2
pipe_files F c pipe fd fd2 file None = refuses F c errno.ENFILE

-- an open file and a pipe are free
abbrev pub pipe_numbers : Files → LxCall → ℕ → ℕ → Option ℕ → Option ℕ → FilesOutcome
pipe_numbers F c fd fd2 (Some file) (Some pipe) = pipe_files F c pipe fd fd2 file (second_free F.files file)
pipe_numbers F c fd fd2 _ _ = refuses F c errno.ENFILE

-- a second descriptor is free
abbrev pub pipe_from : Files → LxCall → ℕ → Option ℕ → FilesOutcome
pipe_from F c fd (Some fd2) = pipe_numbers F c fd fd2 (first_free F.files) (first_free F.pipes)
pipe_from F c fd None = refuses F c errno.EMFILE

-- two descriptors are free, and then a pipe and two open files
abbrev pub pipe_descriptors : Files → LxCall → Option ℕ → FilesOutcome
pipe_descriptors F c (Some fd) = pipe_from F c fd (second_free F.descriptors fd)
pipe_descriptors F c None = refuses F c errno.EMFILE

abbrev pub pipe2 : Files → LxCall → FilesOutcome
pipe2 F c = pipe_descriptors F c (first_free F.descriptors)
