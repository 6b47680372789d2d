-- What an open file is, in the Linux machine's terms. Source: open(2), pipe(2), kqueue(2) of FreeBSD, eventfd(2). That contracts
-- see it so is this project's own.
use Rattle.std.specs.Prelude.{◌≡◌, refl, ℕ, nat_lt, Bool, true, false}
use Rattle.lx_machine.specs.declared.files.FileKind.{FileKind}
use Rattle.lx_machine.specs.declared.label.LxSide.{LxSide}
use Rattle.open_files.specs.declared.kinds.File.{File}
use Rattle.open_files.specs.declared.kinds.FileLook.{FileLook}
use Rattle.open_files.specs.declared.kinds.Side.{Side}
use Rattle.lx_machine.specs.declared.files.FileKind.TheVariants as kind
use Rattle.lx_machine.specs.declared.label.LxSide.TheVariants as lx
use Rattle.open_files.specs.declared.kinds.File.TheVariants as file
use Rattle.open_files.specs.declared.kinds.FileLook.TheVariants.{Moved, Wait}
use Rattle.open_files.specs.declared.kinds.Side.TheVariants as side

-- a side of the console
abbrev pub side_out : Side → LxSide
side_out side.Out = lx.Out
side_out side.Err = lx.Err

abbrev pub side_in : LxSide → Side
side_in lx.Out = side.Out
side_in lx.Err = side.Err

-- what an open file is; a queue is an epoll
abbrev pub kind_out : File → FileKind
kind_out file.Input = kind.Input
kind_out (file.Console s) = kind.Console (side_out s)
kind_out (file.ReadEnd p) = kind.PipeRead p
kind_out (file.WriteEnd p) = kind.PipeWrite p
kind_out (file.Counter n) = kind.Counter n
kind_out (file.Queue n) = kind.Epoll n

abbrev pub kind_in : FileKind → File
kind_in kind.Input = file.Input
kind_in (kind.Console s) = file.Console (side_in s)
kind_in (kind.PipeRead p) = file.ReadEnd p
kind_in (kind.PipeWrite p) = file.WriteEnd p
kind_in (kind.Counter n) = file.Counter n
kind_in (kind.Epoll n) = file.Queue n

-- there and back is nothing
pub kind_back : (f : File) → kind_in (kind_out f) ≡ f
kind_back file.Input = refl
kind_back (file.Console side.Out) = refl
kind_back (file.Console side.Err) = refl
kind_back (file.ReadEnd p) = refl
kind_back (file.WriteEnd p) = refl
kind_back (file.Counter n) = refl
kind_back (file.Queue n) = refl

-- ---- what a look answers

-- some bytes are moved, and how many
abbrev pub moves : FileLook → Bool
moves (Moved n) = nat_lt 0 n
moves _ = false

abbrev pub moved : FileLook → ℕ
moved (Moved n) = n
moved _ = 0

-- nothing can be moved yet
abbrev pub is_wait : FileLook → Bool
is_wait Wait = true
is_wait _ = false
