-- Start(image, args, input, seed, rules): the state in which a program starts. Source: execve(2), ELF-64; the stack's size, the
-- return code above it, and that the code is readable are this project's own.
use Rattle.std.specs.Prelude.{List, None, Option, Some, [], false, max, replicate, true, ℕ, ◌*◌, ◌++◌, ◌+◌, ◌-◌, ◌/◌, ◌||◌, ◌∷◌}
use Rattle.a64_model.specs.declared.regs.Regs.{Regs}
use Rattle.elf_image.specs.declared.parts.Image.{Image}
use Rattle.elf_image.specs.declared.parts.Segment.{Segment}
use Rattle.lx_machine.specs.Signal.{default_action}
use Rattle.lx_machine.specs.Stack.{Headers, random_at, random_bytes, stack_end, stack_words, table, table_at, texts}
use Rattle.lx_machine.specs.declared.files.Descriptor.{Descriptor}
use Rattle.lx_machine.specs.declared.files.FileKind.{FileKind}
use Rattle.lx_machine.specs.declared.files.Files.{Files}
use Rattle.lx_machine.specs.declared.files.OpenFile.{OpenFile}
use Rattle.lx_machine.specs.declared.space.Space.{Space}
use Rattle.lx_machine.specs.declared.state.LinuxState.{LinuxState}
use Rattle.lx_machine.specs.declared.threads.Life.TheVariants.{Live}
use Rattle.lx_machine.specs.declared.threads.LxThread.{LxThread}
use Rattle.lx_memory.specs.Bytes.{with_bytes}
use Rattle.lx_memory.specs.Ranges.{mapped}
use Rattle.page_store.specs.Pages.{Pages}
use Rattle.page_ranges.specs.declared.rights.Rights.{Rights}
use Rattle.lx_machine.specs.declared.files.FileKind.TheVariants as kind
use Rattle.lx_machine.specs.declared.label.LxSide.TheVariants as side
use Rattle.std.specs.FinMap as map

-- ---- memory

-- code can be read, and so can what can be written
abbrev pub rights_of : Segment → Rights
rights_of s = record { read = s.read || s.write || s.execute; write = s.write; execute = s.execute }

abbrev pub first_page : Segment → ℕ
first_page s = s.at / 4096

-- the page behind the last one of a segment
abbrev pub end_page : Segment → ℕ
end_page s = (s.at + s.size + 4095) / 4096

-- a segment's pages, with its bytes
abbrev pub with_segment : Pages → Segment → Pages
with_segment pages s = with_bytes (mapped pages (first_page s) (end_page s - first_page s) (rights_of s)) s.at s.bytes

abbrev pub with_segments : Pages → List Segment → Pages
with_segments pages [] = pages
with_segments pages (s ∷ ss) = with_segments (with_segment pages s) ss

-- the page behind the highest segment
abbrev pub last_end : List Segment → ℕ
last_end [] = 0
last_end (s ∷ ss) = max (end_page s) (last_end ss)

abbrev pub headers_of : Image → Headers
headers_of image = record { at = image.headers_at; count = image.header_count; entry = image.entry }

-- the stack: 64 pages that can be read and written, with the table and the texts
abbrev pub stack_rights : Rights
stack_rights = record { read = true; write = true; execute = false }

abbrev pub with_stack : Pages → Image → List ℕ → List (List ℕ) → ℕ → Pages
with_stack pages image name arguments seed =
    with_bytes (with_bytes (mapped pages (stack_end / 4096 - 64) 64 stack_rights) (table_at (headers_of image) name arguments) (stack_words (table (headers_of image) name arguments)))
    (random_at name arguments) (random_bytes seed ++ texts name arguments)

-- the page above the stack: `mov x8, #139; svc #0` (rt_sigreturn)
abbrev pub code_rights : Rights
code_rights = record { read = true; write = false; execute = true }

abbrev pub return_code : List ℕ
return_code = 0x68 ∷ 0x11 ∷ 0x80 ∷ 0xd2 ∷ 0x01 ∷ 0x00 ∷ 0x00 ∷ 0xd4 ∷ []

abbrev pub with_return_page : Pages → Pages
with_return_page pages = with_bytes (mapped pages (stack_end / 4096) 1 code_rights) stack_end return_code

abbrev pub first_pages : Image → List ℕ → List (List ℕ) → ℕ → Pages
first_pages image name arguments seed = with_return_page (with_stack (with_segments map.empty image.segments) image name arguments seed)

abbrev pub first_space : Image → List ℕ → List (List ℕ) → ℕ → Space
first_space image name arguments seed = record {
  pages = first_pages image name arguments seed;
  break_at = last_end image.segments * 4096;
  break_start = last_end image.segments * 4096;
}

-- ---- files: the input and the two consoles, on descriptors 0, 1 and 2

abbrev pub first_file : FileKind → Option OpenFile
first_file k = Some record { kind = k; nonblocking = false; holds = 0 }

abbrev pub first_descriptor : ℕ → Option Descriptor
first_descriptor file = Some record { file = file; close_on_exec = false }

abbrev pub first_files : List ℕ → Files
first_files input = record {
  descriptors = first_descriptor 0 ∷ first_descriptor 1 ∷ first_descriptor 2 ∷ replicate 253 None;
  files = first_file kind.Input ∷ first_file (kind.Console side.Out) ∷ first_file (kind.Console side.Err) ∷ replicate 381 None;
  pipes = replicate 64 None;
  counters = replicate 384 None;
  epolls = replicate 32 None;
  input = input;
  out = [];
  err = [];
  put_out = [];
  put_err = [];
}

-- ---- the first thread: all its registers are 0 but for sp and pc

abbrev pub first_regs : Image → List ℕ → List (List ℕ) → Regs
first_regs image name arguments =
    record { x = replicate 31 0; sp = table_at (headers_of image) name arguments; pc = image.entry; nzcv = 0; tpidr = 0; v = replicate 32 0 }

abbrev pub first_thread : Regs → LxThread
first_thread regs = record {
  tid = 1000;
  life = Live;
  regs = regs;
  mark = None;
  mask = 0;
  saved_mask = None;
  alt_stack = record { at = 0; size = 0; enabled = false };
  clear_at = 0;
  robust_head = 0;
  pending = [];
  trap = None;
  taken = None;
  is_doomed = false;
  call = None;
}

abbrev pub start : Image → List ℕ → List (List ℕ) → List ℕ → ℕ → ℕ → LinuxState
start image name arguments input seed rules = record {
  rules = rules;
  threads = Some (first_thread (first_regs image name arguments)) ∷ replicate 127 None;
  space = first_space image name arguments seed;
  queue = [];
  pi_queue = [];
  files = first_files input;
  actions = replicate 64 default_action;
  pending = [];
  clock = 0;
  next_tid = 1001;
  end = None;
}
