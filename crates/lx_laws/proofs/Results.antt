-- What holds of a result, where there is one.
use Rattle.std.proofs.Common.{◌≡◌, Bool, true, false, Option, Some, None, IfSome, if◌then◌else◌, option_map, refl, subst}
use Rattle.lx_machine.specs.Lists.{bind}

module _ {X : Type 0} (P : X → Type 0) where
  pub of_bind : {A : Type 0} (o : Option A) (f : A → Option X) → ((x : A) → IfSome (f x) P) → IfSome (bind o f) P
  of_bind None f h = tt
  of_bind (Some x) f h = h x

  -- of a value that is known to be there
  pub of_bind_at : {A : Type 0} (o : Option A) (f : A → Option X) → ((x : A) → o ≡ Some x → IfSome (f x) P) → IfSome (bind o f) P
  of_bind_at None f h = tt
  of_bind_at (Some x) f h = h x refl

  pub of_map : {A : Type 0} (o : Option A) (f : A → X) → ((x : A) → P (f x)) → IfSome (option_map f o) P
  of_map None f h = tt
  of_map (Some x) f h = h x

  pub of_map_at : {A : Type 0} (o : Option A) (f : A → X) → ((x : A) → o ≡ Some x → P (f x)) → IfSome (option_map f o) P
  of_map_at None f h = tt
  of_map_at (Some x) f h = h x refl

  pub of_if : (b : Bool) (x y : Option X) → IfSome x P → IfSome y P → IfSome (if b then x else y) P
  of_if true x y h k = h
  of_if false x y h k = k

  pub of_if_at : (b : Bool) (x y : Option X) → (b ≡ true → IfSome x P) → (b ≡ false → IfSome y P) → IfSome (if b then x else y) P
  of_if_at true x y h k = h refl
  of_if_at false x y h k = k refl

  pub if_of : (b : Bool) (x y : X) → P x → P y → P (if b then x else y)
  if_of true x y h k = h
  if_of false x y h k = k

  pub if_of_at : (b : Bool) (x y : X) → (b ≡ true → P x) → (b ≡ false → P y) → P (if b then x else y)
  if_of_at true x y h k = h refl
  if_of_at false x y h k = k refl

  pub in_option : (o : Option X) (x : X) → IfSome o P → o ≡ Some x → P x
  in_option o x h e = subst (λ (p : Option X). IfSome p P) e h

-- of a result that comes of one
pub map_of : {A X : Type 0} (Q : A → Type 0) (P : X → Type 0) (o : Option A) (f : A → X) → ((x : A) → Q x → P (f x)) → IfSome o Q → IfSome (option_map f o) P
map_of Q P None f h k = tt
map_of Q P (Some x) f h k = h x k

-- of a result that has more
pub for_some : {X : Type 0} (P Q : X → Type 0) (o : Option X) → ((x : X) → P x → Q x) → IfSome o P → IfSome o Q
for_some P Q None f h = tt
for_some P Q (Some x) f h = f x h
