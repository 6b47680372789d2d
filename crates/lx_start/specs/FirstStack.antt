-- What the parts of a first stack are, and that they lie in its 64 pages. That texts which have no room there are refused is
-- this project's own.
use Rattle.std.specs.Prelude.{◌≡◌, ℕ, ◌+◌, ◌≤◌, List, ◌++◌, length}
use Rattle.lx_start.specs.declared.stack.Texts.{Texts}
use Rattle.lx_start.specs.declared.stack.FirstStack.{FirstStack}
use Rattle.lx_machine.specs.Stack.{Headers, ended_texts, name_at, random_at, random_bytes, stack_end, stack_words, table, table_at, texts}

-- the random bytes and the texts, with their addresses
pub record IsTexts (name : List ℕ) (arguments : List (List ℕ)) (seed : ℕ) (above : Texts) : Type 0 where
  pub at : above.at ≡ random_at name arguments
  pub name_at : above.name_at ≡ name_at name arguments
  pub bytes : above.bytes.items ≡ random_bytes seed ++ texts name arguments
  pub end : above.at + length above.bytes.items ≡ stack_end
  pub fits : above.at + 16 + length (ended_texts arguments) ≤ stack_end

-- where the two parts of a first stack lie
pub record IsInStack (stack : FirstStack) : Type 0 where
  pub low : 0x7ffffefc0000 ≤ stack.sp
  pub apart : stack.sp + length stack.table.items ≤ stack.texts_at
  pub end : stack.texts_at + length stack.texts.items ≡ stack_end

-- sp, the table, and what stands above it
pub record IsFirstStack (h : Headers) (name : List ℕ) (arguments : List (List ℕ)) (seed : ℕ) (stack : FirstStack) : Type 0 where
  pub sp : stack.sp ≡ table_at h name arguments
  pub table : stack.table.items ≡ stack_words (table h name arguments)
  pub texts_at : stack.texts_at ≡ random_at name arguments
  pub texts : stack.texts.items ≡ random_bytes seed ++ texts name arguments
  pub inside : IsInStack stack
