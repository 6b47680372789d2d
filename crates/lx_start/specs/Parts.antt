-- The first state by the parts of its first stack.
use Rattle.std.specs.Prelude.{ℕ, ◌-◌, ◌*◌, ◌/◌, List, [], ◌∷◌, replicate, Some, None}
use Rattle.std.specs.FinMap as map
use Rattle.page_store.specs.Pages.{Pages}
use Rattle.lx_memory.specs.Bytes.{with_bytes}
use Rattle.lx_memory.specs.Ranges.{mapped}
use Rattle.elf_image.specs.declared.parts.Image.{Image}
use Rattle.a64_model.specs.declared.regs.Regs.{Regs}
use Rattle.lx_machine.specs.declared.state.LinuxState.{LinuxState}
use Rattle.lx_machine.specs.declared.space.Space.{Space}
use Rattle.lx_machine.specs.Signal.{default_action}
use Rattle.lx_machine.specs.Stack.{stack_end}
use Rattle.lx_machine.specs.Start.{first_files, first_thread, last_end, stack_rights, with_return_page, with_segments}
use Rattle.lx_start.specs.declared.stack.FirstStack.{FirstStack}

-- the stack's pages, with the table and what stands above it
abbrev pub with_parts : Pages → FirstStack → Pages
with_parts pages stack =
    with_bytes (with_bytes (mapped pages (stack_end / 4096 - 64) 64 stack_rights) stack.sp stack.table.items) stack.texts_at stack.texts.items

abbrev pub pages_with : Image → FirstStack → Pages
pages_with image stack = with_return_page (with_parts (with_segments map.empty image.segments) stack)

abbrev pub space_with : Image → FirstStack → Space
space_with image stack = record {
  pages = pages_with image stack;
  break_at = last_end image.segments * 4096;
  break_start = last_end image.segments * 4096;
}

abbrev pub regs_with : ℕ → ℕ → Regs
regs_with sp pc = record { x = replicate 31 0; sp = sp; pc = pc; nzcv = 0; tpidr = 0; v = replicate 32 0 }

abbrev pub state_with : Image → FirstStack → List ℕ → ℕ → LinuxState
state_with image stack input rules = record {
  rules = rules;
  threads = Some (first_thread (regs_with stack.sp image.entry)) ∷ replicate 127 None;
  space = space_with image stack;
  queue = [];
  pi_queue = [];
  files = first_files input;
  actions = replicate 64 default_action;
  pending = [];
  clock = 0;
  next_tid = 1001;
  end = None;
}
