-- No rule has the kind NoMemory: want of memory says nothing of a file.
use Rattle.std.proofs.Common.{◌≡◌, ◌≢◌, ℕ, List, [], ◌∷◌, map, take, length, Bool, true, false, Option, Some, None, subst}
use Rattle.std.specs.List.{enumerate_from}
use Rattle.elf_image.specs.declared.fault.ElfFault.{ElfFault}
use Rattle.elf_image.specs.declared.fault.ElfKind.{ElfKind}
use Rattle.elf_image.specs.declared.fault.ElfKind.TheVariants.{NoMemory}
use Rattle.elf_image.specs.declared.headers.ProgramHeader.{ProgramHeader}
use Rattle.elf_image.specs.Faults.{fault_if, first_fault}
use Rattle.elf_image.specs.Headers.{file_header, headers_of}
use Rattle.elf_image.specs.Rules.{file_header_fault, header_fault, faults_of, entry_outside, image_fault}

-- a kind that a rule may have
IsRuleKind : ElfKind → Type 0
IsRuleKind NoMemory = ⊥
IsRuleKind _ = Unit {0}

-- what a rule finds, if anything, is of such a kind
IsRule : Option ElfFault → Type 0
IsRule None = Unit {0}
IsRule (Some fault) = IsRuleKind fault.kind

rule_if : (fails : Bool) (kind : ElfKind) (place : ℕ) → IsRuleKind kind → IsRule (fault_if fails kind place)
unfolding IsRule
rule_if true kind place rule = rule
rule_if false kind place rule = tt

rule_none : IsRule None
unfolding IsRule
rule_none = tt

rule_first : (found : Option ElfFault) (rest : List (Option ElfFault)) → IsRule found → IsRule (first_fault rest) → IsRule (first_fault (found ∷ rest))
rule_first None rest here behind = behind
rule_first (Some fault) rest here behind = here

rule_each : {X : Type 0} (rule_of : X → Option ElfFault) → ((x : X) → IsRule (rule_of x)) → (xs : List X) → IsRule (first_fault (map rule_of xs))
rule_each rule_of each [] = rule_none
rule_each rule_of each (x ∷ xs) = rule_first (rule_of x) (map rule_of xs) (each x) (rule_each rule_of each xs)

rule_file_header : (file : List ℕ) → IsRule (file_header_fault file)
unfolding file_header_fault IsRuleKind
rule_file_header file = search (rule_first, rule_none, rule_if) depth 20

rule_header : (file_length : ℕ) (earlier : List ProgramHeader) (index : ℕ) (header : ProgramHeader) → IsRule (header_fault file_length earlier index header)
unfolding header_fault IsRuleKind
rule_header file_length earlier index header = search (rule_first, rule_none, rule_if) depth 12

rule_headers : (file_length : ℕ) (headers : List ProgramHeader) → IsRule (first_fault (faults_of file_length headers))
unfolding faults_of
rule_headers file_length headers =
    rule_each (λ numbered. header_fault file_length (take numbered.0 headers) numbered.0 numbered.1)
    (λ numbered. rule_header file_length (take numbered.0 headers) numbered.0 numbered.1)
    (enumerate_from 0 headers)

rule_entry : (entry : ℕ) (headers : List ProgramHeader) → IsRule (entry_outside entry headers)
unfolding entry_outside IsRuleKind
rule_entry entry headers = rule_if _ _ _ tt

rule_image : (file : List ℕ) → IsRule (image_fault file)
unfolding image_fault
rule_image file =
    rule_first _ _ (rule_file_header file)
    (rule_first _ _ (rule_headers (length file) (headers_of file))
    (rule_first _ _ (rule_entry (file_header file).entry (headers_of file)) rule_none))

not_memory : (kind : ElfKind) → IsRuleKind kind → kind ≢ NoMemory
unfolding IsRuleKind
not_memory kind rule same = subst IsRuleKind same rule

from_rule : (found : Option ElfFault) (fault : ElfFault) → IsRule found → found ≡ Some fault → fault.kind ≢ NoMemory
unfolding IsRule
from_rule found fault rule same = not_memory fault.kind (subst IsRule same rule)

pub file_header_fault-not_memory : (file : List ℕ) (fault : ElfFault) → file_header_fault file ≡ Some fault → fault.kind ≢ NoMemory
file_header_fault-not_memory file fault = from_rule (file_header_fault file) fault (rule_file_header file)

pub faults_of-not_memory : (file_length : ℕ) (headers : List ProgramHeader) (fault : ElfFault)
    → first_fault (faults_of file_length headers) ≡ Some fault → fault.kind ≢ NoMemory
faults_of-not_memory file_length headers fault = from_rule (first_fault (faults_of file_length headers)) fault (rule_headers file_length headers)

pub entry_outside-not_memory : (entry : ℕ) (headers : List ProgramHeader) (fault : ElfFault)
    → entry_outside entry headers ≡ Some fault → fault.kind ≢ NoMemory
entry_outside-not_memory entry headers fault = from_rule (entry_outside entry headers) fault (rule_entry entry headers)

-- no fault of a file is want of memory
pub image_fault-not_memory : (file : List ℕ) (fault : ElfFault) → image_fault file ≡ Some fault → fault.kind ≢ NoMemory
image_fault-not_memory file fault = from_rule (image_fault file) fault (rule_image file)

-- the kinds that the parts of a check can answer
pub ruleset kinds = (file_header_fault-not_memory, faults_of-not_memory, entry_outside-not_memory)
