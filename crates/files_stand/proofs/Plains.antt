-- A step on files of the Linux machine is that of its plain part, and ops on its epolls.
use Rattle.std.proofs.Common.{◌≡◌, ℕ, Bool, true, false, ◌||◌, List, [], ◌∷◌, drop, Option, Some, None, refl}
use Rattle.std.specs.Prelude.{if◌then◌else◌}
use Rattle.std.specs.Option.{option_map}
use Rattle.kqueue_core.specs.declared.knotes.Filter.{Filter}
use Rattle.kqueue_core.specs.declared.knotes.Filter.TheVariants.{Write, Read}
use Rattle.lx_machine.specs.Files.{after_end_of, closed, closed_as, closed_if_unnamed, closed_if_unnamed_as, given_back, given_back_as, has_reader, has_writer, held_once_less, is_unnamed, numbered, without_file, without_pipe}
use Rattle.lx_machine.specs.Interests.{armed_on, drained_side, without_interests}
use Rattle.lx_machine.specs.Lists.{at_place, with_place, without_place}
use Rattle.lx_machine.specs.Read.{with_counter, with_pipe}
use Rattle.lx_machine.specs.Write.{into_console}
use Rattle.lx_machine.specs.declared.files.Counter.{Counter}
use Rattle.lx_machine.specs.declared.files.Descriptor.{Descriptor}
use Rattle.lx_machine.specs.declared.files.FileKind.{FileKind}
use Rattle.lx_machine.specs.declared.files.FileKind.TheVariants as kind
use Rattle.lx_machine.specs.declared.files.Files.{Files}
use Rattle.lx_machine.specs.declared.files.OpenFile.{OpenFile}
use Rattle.lx_machine.specs.declared.label.LxSide.{LxSide}
use Rattle.lx_machine.specs.declared.label.LxSide.TheVariants as side
use Rattle.open_files.specs.Plain.{plain_of}
use Rattle.bsd_files.specs.Ops.{Arm, Leave, close_ops, close_ops_of, drain_ops, end_ops, give_ops, give_ops_of, settle_ops, settle_ops_of}
use Rattle.bsd_files.specs.Moves.{each_epoll}
use Rattle.files_stand.specs.Steps.{IsStep}

-- ---- the end of an open file, in the plain part

if_plain : (b : Bool) (F G : Files) → (if b then plain_of F else plain_of G) ≡ plain_of (if b then F else G)
if_plain true F G = refl
if_plain false F G = refl

without_pipe_plain : (F : Files) (p : ℕ) → without_pipe (plain_of F) p ≡ plain_of (without_pipe F p)
without_pipe_plain F p = if_plain (has_reader F p || has_writer F p) F (record F { pipes = without_place F.pipes p })

after_end_plain : (k : FileKind) (F : Files) → after_end_of k (plain_of F) ≡ plain_of (after_end_of k F)
after_end_plain (kind.PipeRead p) F = without_pipe_plain (armed_on (kind.PipeWrite p) F) p
after_end_plain (kind.PipeWrite p) F = without_pipe_plain (armed_on (kind.PipeRead p) F) p
after_end_plain (kind.Counter n) F = refl
after_end_plain (kind.Epoll n) F = refl
after_end_plain kind.Input F = refl
after_end_plain (kind.Console which) F = refl

file_plain : (F : Files) (file : ℕ) (k : FileKind) → without_file (plain_of F) file k ≡ plain_of (without_file F file k)
file_plain F file k = after_end_plain k (without_interests file (record F { files = without_place F.files file }))

settled_plain_as : (F : Files) (file : ℕ) (o : Option OpenFile) → closed_if_unnamed_as (plain_of F) (option_map (numbered file) o) ≡ plain_of (closed_if_unnamed_as F (option_map (numbered file) o))
settled_plain_as F file None = refl
settled_plain_as F file (Some f) = by (is_unnamed F (numbered file f))
  where
    by : (b : Bool) → (if b then without_file (plain_of F) file f.kind else plain_of F) ≡ plain_of (if b then without_file F file f.kind else F)
    by true = file_plain F file f.kind
    by false = refl

settled_plain : (F : Files) (file : ℕ) → closed_if_unnamed (plain_of F) file ≡ plain_of (closed_if_unnamed F file)
settled_plain F file = settled_plain_as F file (at_place F.files file)

given_plain : (F : Files) (file : ℕ) (o : Option OpenFile) → given_back_as (plain_of F) file o ≡ plain_of (given_back_as F file o)
given_plain F file None = refl
given_plain F file (Some f) = settled_plain (record F { files = with_place F.files file (held_once_less f) }) file

closed_plain : (F : Files) (fd : ℕ) (o : Option Descriptor) → closed_as (plain_of F) fd o ≡ plain_of (closed_as F fd o)
closed_plain F fd None = refl
closed_plain F fd (Some d) = settled_plain (record F { descriptors = without_place F.descriptors fd }) d.file

-- ---- and in the epolls

pipe_epolls : (b : Bool) (F : Files) (p : ℕ) → (if b then F else record F { pipes = without_place F.pipes p }).epolls ≡ F.epolls
pipe_epolls true F p = refl
pipe_epolls false F p = refl

after_end_epolls : (k : FileKind) (F : Files) → (after_end_of k F).epolls ≡ each_epoll (end_ops k F.files) F.epolls
after_end_epolls (kind.PipeRead p) F = pipe_epolls (has_reader F p || has_writer F p) (armed_on (kind.PipeWrite p) F) p
after_end_epolls (kind.PipeWrite p) F = pipe_epolls (has_reader F p || has_writer F p) (armed_on (kind.PipeRead p) F) p
after_end_epolls (kind.Counter n) F = refl
after_end_epolls (kind.Epoll n) F = refl
after_end_epolls kind.Input F = refl
after_end_epolls (kind.Console which) F = refl

file_epolls : (F : Files) (file : ℕ) (k : FileKind) → (without_file F file k).epolls ≡ each_epoll (Leave file ∷ end_ops k (without_place F.files file)) F.epolls
file_epolls F file k = after_end_epolls k (without_interests file (record F { files = without_place F.files file }))

settled_epolls_as : (F : Files) (file : ℕ) (o : Option OpenFile) → (closed_if_unnamed_as F (option_map (numbered file) o)).epolls ≡ each_epoll (settle_ops_of F.descriptors F.files file o) F.epolls
settled_epolls_as F file None = refl
settled_epolls_as F file (Some f) = by (is_unnamed F (numbered file f))
  where
    by : (b : Bool) → (if b then without_file F file f.kind else F).epolls ≡ each_epoll (if b then (Leave file ∷ end_ops f.kind (without_place F.files file)) else []) F.epolls
    by true = file_epolls F file f.kind
    by false = refl

settled_epolls : (F : Files) (file : ℕ) → (closed_if_unnamed F file).epolls ≡ each_epoll (settle_ops F.descriptors F.files file) F.epolls
settled_epolls F file = settled_epolls_as F file (at_place F.files file)

given_epolls : (F : Files) (file : ℕ) (o : Option OpenFile) → (given_back_as F file o).epolls ≡ each_epoll (give_ops_of F.descriptors F.files file o) F.epolls
given_epolls F file None = refl
given_epolls F file (Some f) = settled_epolls (record F { files = with_place F.files file (held_once_less f) }) file

closed_epolls : (F : Files) (fd : ℕ) (o : Option Descriptor) → (closed_as F fd o).epolls ≡ each_epoll (close_ops_of F fd o) F.epolls
closed_epolls F fd None = refl
closed_epolls F fd (Some d) = settled_epolls (record F { descriptors = without_place F.descriptors fd }) d.file

-- ---- steps

-- a hold is given back
pub given_step : (file : ℕ) → IsStep (λ F. given_back F file) (λ F. given_back F file) (λ F. give_ops F file)
given_step file = record {
  plain_is = λ F. given_plain F file (at_place F.files file);
  epolls = λ F. given_epolls F file (at_place F.files file);
}

-- a descriptor is closed
pub closed_step : (fd : ℕ) → IsStep (λ F. closed F fd) (λ F. closed F fd) (λ F. close_ops F fd)
closed_step fd = record {
  plain_is = λ F. closed_plain F fd (at_place F.descriptors fd);
  epolls = λ F. closed_epolls F fd (at_place F.descriptors fd);
}

-- a console room is drained
pub drained_step : (which : LxSide) (n : ℕ) → IsStep (λ F. drained_side F which n) (λ F. drained_side F which n) (λ F. drain_ops F which)
drained_step side.Out n = record { plain_is = λ F. refl; epolls = λ F. refl }
drained_step side.Err n = record { plain_is = λ F. refl; epolls = λ F. refl }

-- a pipe holds these bytes after a read; after a write
pub read_step : (p : ℕ) (bytes : List ℕ) → IsStep (λ F. with_pipe F p bytes) (λ F. armed_on (kind.PipeWrite p) (with_pipe F p bytes)) (λ F. Arm (kind.PipeWrite p) Write F.files ∷ [])
read_step p bytes = record { plain_is = λ F. refl; epolls = λ F. refl }

pub write_step : (p : ℕ) (bytes : List ℕ) → IsStep (λ F. with_pipe F p bytes) (λ F. armed_on (kind.PipeRead p) (with_pipe F p bytes)) (λ F. Arm (kind.PipeRead p) Read F.files ∷ [])
write_step p bytes = record { plain_is = λ F. refl; epolls = λ F. refl }

-- a counter is this after a read or a write, which arms all interests in it and makes the knotes of one filter active
pub counter_step : (number : ℕ) (n : Counter) (f : Filter) → IsStep (λ F. with_counter F number n) (λ F. with_counter F number n) (λ F. Arm (kind.Counter number) f F.files ∷ [])
counter_step number n f = record { plain_is = λ F. refl; epolls = λ F. refl }

-- bytes of the input are read
pub input_step : (most : ℕ) → IsStep (λ F. record F { input = drop most F.input }) (λ F. record F { input = drop most F.input }) (λ F. [])
input_step most = record { plain_is = λ F. refl; epolls = λ F. refl }

-- bytes go into a console room
pub console_step : (which : LxSide) (bytes : List ℕ) → IsStep (λ F. plain_of (into_console F which bytes)) (λ F. into_console F which bytes) (λ F. [])
console_step side.Out bytes = record { plain_is = λ F. refl; epolls = λ F. refl }
console_step side.Err bytes = record { plain_is = λ F. refl; epolls = λ F. refl }
