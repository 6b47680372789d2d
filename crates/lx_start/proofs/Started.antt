-- The first state by the parts of its first stack is the first state.
use Rattle.std.proofs.Common.{◌≡◌, ℕ, ◌-◌, ◌*◌, ◌/◌, List, [], ◌∷◌, replicate, Some, None, ◌∙◌}
use Rattle.std.specs.FinMap as map
use Rattle.lx_memory.specs.Bytes.{with_bytes}
use Rattle.lx_memory.specs.Ranges.{mapped}
use Rattle.elf_image.specs.declared.parts.Image.{Image}
use Rattle.lx_machine.specs.Signal.{default_action}
use Rattle.lx_machine.specs.Stack.{stack_end}
use Rattle.lx_machine.specs.Start.{first_files, first_thread, headers_of, last_end, stack_rights, start, with_return_page, with_segments}
use Rattle.lx_start.specs.declared.stack.FirstStack.{FirstStack}
use Rattle.lx_start.specs.FirstStack.{IsFirstStack}
use Rattle.lx_start.specs.Parts.{regs_with, state_with}

state_is : (image : Image) (name : List ℕ) (arguments : List (List ℕ)) (seed : ℕ) (stack : FirstStack) (input : List ℕ) (rules : ℕ) → IsFirstStack (headers_of image) name arguments seed stack → state_with image stack input rules ≡ start image name arguments input seed rules
state_is image name arguments seed stack input rules is = λ i. record {
  rules = rules;
  threads = Some (first_thread (regs_with (is.sp i) image.entry)) ∷ replicate 127 None;
  space = record {
    pages = with_return_page (with_bytes (with_bytes (mapped (with_segments map.empty image.segments) (stack_end / 4096 - 64) 64 stack_rights) (is.sp i) (is.table i)) (is.texts_at i) (is.texts i));
    break_at = last_end image.segments * 4096;
    break_start = last_end image.segments * 4096;
  };
  queue = [];
  pi_queue = [];
  files = first_files input;
  actions = replicate 64 default_action;
  pending = [];
  clock = 0;
  next_tid = 1001;
  end = None;
}

pub started : (image : Image) (name same_name : List ℕ) (arguments same_arguments : List (List ℕ)) (seed : ℕ) (stack : FirstStack) (input : List ℕ) (rules : ℕ) → IsFirstStack (headers_of image) name arguments seed stack → name ≡ same_name → arguments ≡ same_arguments → state_with image stack input rules ≡ start image same_name same_arguments input seed rules
started image name same_name arguments same_arguments seed stack input rules is named argued =
    state_is image name arguments seed stack input rules is ∙ (λ i. start image (named i) (argued i) input seed rules)
