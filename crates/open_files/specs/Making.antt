-- New pipes, queues and counters, with their open files. Each has the least number that no living one of its kind has. Source:
-- pipe(2), eventfd(2), kqueue(2).
use Rattle.std.specs.Prelude.{ℕ, Bool, false, List, [], Option, Some}
use Rattle.lx_machine.specs.Descriptors.{second_free}
use Rattle.lx_machine.specs.Files.{with_file}
use Rattle.lx_machine.specs.Lists.{bind, first_free, with_place}
use Rattle.lx_machine.specs.declared.files.Files.{Files}
use Rattle.lx_machine.specs.declared.files.FileKind.TheVariants as kind
use Rattle.open_files.specs.declared.making.FileNumbers.{FileNumbers}
use Rattle.open_files.specs.declared.making.PipeNumbers.{PipeNumbers}

-- none where no pipe or fewer than two open files are free
abbrev pub pipe_numbers : Files → Option PipeNumbers
pipe_numbers F =
    bind (first_free F.files) (λ r. bind (first_free F.pipes) (λ p. bind (second_free F.files r) (λ w. Some (record { pipe = p; read_file = r; write_file = w }))))

abbrev pub with_pipe_at : Files → PipeNumbers → Files
with_pipe_at F at =
    with_file (with_file (record F { pipes = with_place F.pipes at.pipe [] }) at.read_file (kind.PipeRead at.pipe) false) at.write_file (kind.PipeWrite at.pipe) false

-- none where no open file, or none of these, is free
abbrev pub numbers_in : {X : Type 0} → Files → List (Option X) → Option FileNumbers
numbers_in F places = bind (first_free F.files) (λ file. bind (first_free places) (λ n. Some (record { number = n; file = file })))

abbrev pub with_counter_at : Files → FileNumbers → ℕ → Bool → Files
with_counter_at F at value semaphore =
    with_file (record F { counters = with_place F.counters at.number (record { value = value; semaphore = semaphore }) }) at.file (kind.Counter at.number) false
