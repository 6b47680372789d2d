-- The parts of a first stack make one.
use Rattle.std.proofs.Common.{◌≡◌, ℕ, suc, ◌+◌, ◌-◌, ◌*◌, ◌/◌, ◌≤◌, List, [], ◌∷◌, ◌++◌, length, arith, refl, ap, ◌∙◌}
use Rattle.std.proofs.lemmas.List.{length-append}
use Rattle.places.specs.Places.{bytes_of}
use Rattle.places.proofs.Numbers.{length-bytes_of}
use Rattle.lx_start.specs.declared.stack.Texts.{Texts}
use Rattle.lx_start.specs.declared.stack.FirstStack.{FirstStack}
use Rattle.lx_machine.specs.Stack.{Headers, argument_places, auxiliary, name_at, random_at, stack_end, stack_words, table}
use Rattle.lx_start.specs.FirstStack.{IsTexts, IsFirstStack}

pub length-words : (ns : List ℕ) → length (stack_words ns) ≡ 8 * length ns
length-words [] = refl
length-words (n ∷ ns) = length-append (bytes_of n 8) (stack_words ns) ∙ omega (arith, length-bytes_of n 8, length-words ns)

-- a table with the addresses of the texts
table_is : (h : Headers) (name : List ℕ) (arguments : List (List ℕ)) (count at named : ℕ) → count ≡ length arguments → at ≡ random_at name arguments → named ≡ name_at name arguments → (count + 1) ∷ named ∷ (argument_places (at + 16) arguments ++ 0 ∷ 0 ∷ auxiliary h at named) ≡ table h name arguments
table_is h name arguments count at named counted at_is named_is =
    let first : count + 1 ≡ suc (length arguments) = omega arith in
    λ i. first i ∷ named_is i ∷ (argument_places (at_is i + 16) arguments ++ 0 ∷ 0 ∷ auxiliary h (at_is i) (named_is i))

pub stack_is : (h : Headers) (name : List ℕ) (arguments : List (List ℕ)) (seed : ℕ) (above : Texts) (count : ℕ) (ns : List ℕ) (stack : FirstStack) → IsTexts name arguments seed above → count ≡ length arguments → ns ≡ (count + 1) ∷ above.name_at ∷ (argument_places (above.at + 16) arguments ++ 0 ∷ 0 ∷ auxiliary h above.at above.name_at) → stack.sp ≡ (above.at - 8 * length ns) / 16 * 16 → 0x7ffffefc0000 ≤ stack.sp → stack.sp + 8 * length ns ≤ above.at → stack.table.items ≡ stack_words ns → stack.texts_at ≡ above.at → stack.texts.items ≡ above.bytes.items → IsFirstStack h name arguments seed stack
stack_is h name arguments seed above count ns stack above_is counted made sp low apart stored at texts =
    let is : ns ≡ table h name arguments = made ∙ table_is h name arguments count above.at above.name_at counted above_is.at above_is.name_at in
    let long : length stack.table.items ≡ 8 * length ns = ap length stored ∙ length-words ns in
    let end : stack.texts_at + length stack.texts.items ≡ stack_end = (λ i. at i + length (texts i)) ∙ above_is.end in
    record {
      sp = sp ∙ (λ i. (above_is.at i - 8 * length (is i)) / 16 * 16);
      table = stored ∙ ap stack_words is;
      texts_at = at ∙ above_is.at;
      texts = texts ∙ above_is.bytes;
      inside = record { low = low; apart = omega arith; end = end };
    }
