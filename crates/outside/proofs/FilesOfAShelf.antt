-- One more file on a shelf: the file of its name is that file, and every other file is as before.
use Rattle.std.proofs.Common.{◌≡◌, ◌≢◌, List, ℕ, [], ◌∷◌, ◌++◌, Some, None, refl, ap, sym, ◌∙◌, arith, map, true, false}
use Rattle.std.specs.Prelude.{if◌then◌else◌}
use Rattle.std.proofs.lemmas.Grind.{common_steps}
use Rattle.std.proofs.lemmas.List.{map-append}
use Rattle.std.specs.declared.option.Option.{Option}
use Rattle.std.specs.Str.{bytes_eq}
use Rattle.std.proofs.lemmas.Slice.Eq.{bytes_eq-Decides}
use Rattle.outside.specs.Memory.{NamedFile, file_in, or_else}

or_else_none : (x : Option (List ℕ)) → or_else x None ≡ x
or_else_none None = refl
or_else_none (Some v) = refl

or_else_assoc : (x y z : Option (List ℕ)) → or_else (or_else x y) z ≡ or_else x (or_else y z)
or_else_assoc None y z = refl
or_else_assoc (Some v) y z = refl

abbrev in_one : NamedFile → List ℕ → Option (List ℕ)
in_one file name = if bytes_eq file.name name then Some file.bytes else None

-- one more file, behind the others
pub file_in-more : (files : List NamedFile) (file : NamedFile) (name : List ℕ) →
    file_in (files ++ file ∷ []) name ≡ or_else (if bytes_eq file.name name then Some file.bytes else None) (file_in files name)
file_in-more [] file name = sym (or_else_none (in_one file name))
file_in-more (first ∷ rest) file name =
    ap (λ (o : Option (List ℕ)). or_else o (in_one first name)) (file_in-more rest file name)
    ∙ or_else_assoc (in_one file name) (file_in rest name) (in_one first name)

-- the file of its name is that file
pub file_in-same : {X : Type 0} (f : X → NamedFile) (xs : List X) (x : X) (name bytes : List ℕ) →
    (f x).name ≡ name → (f x).bytes ≡ bytes → file_in (map f (xs ++ x ∷ [])) name ≡ Some bytes
file_in-same f xs x name bytes named held =
    let yes_ : bytes_eq (f x).name name ≡ true = grind (arith, common_steps, bytes_eq-Decides (f x).name name) in
    ap (λ files. file_in files name) (map-append f xs (x ∷ [])) ∙ file_in-more (map f xs) (f x) name ∙ rw yes_ (ap (λ (b : List ℕ). Some b) held)

-- every other file is as before
pub file_in-other : {X : Type 0} (f : X → NamedFile) (xs : List X) (x : X) (name other : List ℕ) →
    (f x).name ≡ name → other ≢ name → file_in (map f (xs ++ x ∷ [])) other ≡ file_in (map f xs) other
file_in-other f xs x name other named apart =
    let no_ : bytes_eq (f x).name other ≡ false = grind (arith, common_steps, bytes_eq-Decides (f x).name other) in
    ap (λ files. file_in files other) (map-append f xs (x ∷ [])) ∙ file_in-more (map f xs) (f x) other ∙ rw no_
