-- The first fault of a list, as a loop over it finds it.
use Rattle.std.proofs.Common.{◌≡◌, ℕ, ◌+◌, ◌<◌, ◌≤◌, List, [], ◌∷◌, ◌++◌, length, get_or, take, drop, Option, Some, None, refl, sym, ap, ◌∙◌, arith, zero-add}
use Rattle.std.specs.List.{enumerate_from}
use Rattle.std.proofs.lemmas.List.{take_more, take_all, take-append-drop, length-map, get_or-map}
use Rattle.std.proofs.lemmas.List.FromFn.{length-enumerate_from, get_or-enumerate_from}
use Rattle.elf_image.specs.declared.fault.ElfFault.{ElfFault}
use Rattle.elf_image.specs.declared.headers.ProgramHeader.{ProgramHeader}
use Rattle.elf_image.specs.Faults.{first_fault}
use Rattle.elf_image.specs.Rules.{faults_of, header_fault}

-- behind rules that do not fail, the next one decides
first_fault-push : (before : List (Option ElfFault)) (next : Option ElfFault) → first_fault before ≡ None → first_fault (before ++ next ∷ []) ≡ next
first_fault-push [] None none = refl
first_fault-push [] (Some fault) none = refl
first_fault-push (None ∷ before) next none = first_fault-push before next none
first_fault-push (Some fault ∷ before) next none = Prim.cc

-- what comes behind a fault changes nothing
first_fault-append : (before after : List (Option ElfFault)) (fault : ElfFault) → first_fault before ≡ Some fault → first_fault (before ++ after) ≡ Some fault
first_fault-append [] after fault found = Prim.cc
first_fault-append (None ∷ before) after fault found = first_fault-append before after fault found
first_fault-append (Some other ∷ before) after fault found = found

length-faults_of : (file_length : ℕ) (headers : List ProgramHeader) → length (faults_of file_length headers) ≡ length headers
unfolding faults_of
length-faults_of file_length headers =
    length-map (enumerate_from 0 headers) (λ numbered. header_fault file_length (take numbered.0 headers) numbered.0 numbered.1)
    ∙ length-enumerate_from 0 headers

-- the fault of the header at a place
pub faults_of-at : (file_length : ℕ) (headers : List ProgramHeader) (k : ℕ) (d : ProgramHeader) → k < length headers
    → get_or (faults_of file_length headers) k None ≡ header_fault file_length (take k headers) k (get_or headers k d)
unfolding faults_of
faults_of-at file_length headers k d within =
    let numbered_at : get_or (enumerate_from 0 headers) k (0, d) ≡ (k, get_or headers k d) =
    get_or-enumerate_from 0 headers k (0, d) within ∙ ap (λ (n : ℕ). (n, get_or headers k d)) (zero-add k) in
    get_or-map (λ numbered. header_fault file_length (take numbered.0 headers) numbered.0 numbered.1) (enumerate_from 0 headers) k (0, d) None
    (omega (arith, length-enumerate_from 0 headers))
    ∙ ap (λ (numbered : ℕ × ProgramHeader). header_fault file_length (take numbered.0 headers) numbered.0 numbered.1) numbered_at

-- one header on: its fault is the first, where those before it have none
pub first_fault-more : (file_length : ℕ) (headers : List ProgramHeader) (k : ℕ) (d : ProgramHeader) (found : Option ElfFault)
    → k < length headers
    → first_fault (take k (faults_of file_length headers)) ≡ None
    → header_fault file_length (take k headers) k (get_or headers k d) ≡ found
    → first_fault (take (k + 1) (faults_of file_length headers)) ≡ found
first_fault-more file_length headers k d found within none here =
    let faults = faults_of file_length headers in
    let step = take_more faults k None (omega (arith, length-faults_of file_length headers)) in
    ap first_fault step ∙ first_fault-push (take k faults) (get_or faults k None) none ∙ faults_of-at file_length headers k d within ∙ here

-- a fault that is the first of some headers is the first of all
pub first_fault-stop : (file_length : ℕ) (headers : List ProgramHeader) (k : ℕ) (d : ProgramHeader) (fault : ElfFault)
    → k < length headers
    → first_fault (take k (faults_of file_length headers)) ≡ None
    → header_fault file_length (take k headers) k (get_or headers k d) ≡ Some fault
    → first_fault (faults_of file_length headers) ≡ Some fault
first_fault-stop file_length headers k d fault within none here =
    let faults = faults_of file_length headers in
    ap first_fault (sym (take-append-drop (k + 1) faults))
    ∙ first_fault-append (take (k + 1) faults) (drop (k + 1) faults) fault (first_fault-more file_length headers k d (Some fault) within none here)

-- no fault of a front that has all headers is none at all
pub first_fault-end : (file_length : ℕ) (headers : List ProgramHeader) (k : ℕ) → length headers ≤ k
    → first_fault (take k (faults_of file_length headers)) ≡ None → first_fault (faults_of file_length headers) ≡ None
first_fault-end file_length headers k whole none =
    ap first_fault (sym (take_all k (faults_of file_length headers) (omega (arith, length-faults_of file_length headers)))) ∙ none
