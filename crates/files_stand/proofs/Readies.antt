-- What is ready, due and an answer is read off the plain part: it doesn't hang on epolls.
use Rattle.std.proofs.Common.{◌≡◌, ℕ, Bool, not, ◌||◌, ◌&&◌, List, [], ◌∷◌, ◌++◌, Option, Some, None, length, refl, ap, ap₂}
use Rattle.std.specs.Prelude.{◌==◌, bit_and, nat_le, nat_lt}
use Rattle.std.specs.List.{list_any}
use Rattle.linux_abi.specs.EpollBits.{is_edge, wanted}
use Rattle.places.specs.Places.{bytes_of}
use Rattle.lx_machine.specs.Epoll.{are_distinct, are_due, event_of, events, is_answer, is_due, is_due_interest, is_left, named, ready, ready_at, told}
use Rattle.lx_machine.specs.Interests.{is_picked}
use Rattle.lx_machine.specs.Lists.{at_place}
use Rattle.lx_machine.specs.declared.files.FileKind.{FileKind}
use Rattle.lx_machine.specs.declared.files.FileKind.TheVariants as kind
use Rattle.lx_machine.specs.declared.files.Files.{Files}
use Rattle.lx_machine.specs.declared.files.Interest.{Interest}
use Rattle.lx_machine.specs.declared.files.OpenFile.{OpenFile}
use Rattle.lx_machine.specs.declared.label.LxSide.TheVariants as side
use Rattle.lx_machine.specs.declared.label.Pick.{Pick}
use Rattle.open_files.specs.Plain.{plain_of}

-- other epolls, and other bytes that were ever put into a room
abbrev pub other_rest : Files → List (Option (List Interest)) → List ℕ → List ℕ → Files
other_rest F es out err = record F { epolls = es; put_out = out; put_err = err }

module _ (F : Files) (es : List (Option (List Interest))) (out err : List ℕ) where
  ready_rest : (k : FileKind) → ready (other_rest F es out err) k ≡ ready F k
  ready_rest kind.Input = refl
  ready_rest (kind.PipeRead p) = refl
  ready_rest (kind.PipeWrite p) = refl
  ready_rest (kind.Console side.Out) = refl
  ready_rest (kind.Console side.Err) = refl
  ready_rest (kind.Counter n) = refl
  ready_rest (kind.Epoll n) = refl

  pub ready_at_rest : (o : Option OpenFile) → ready_at (other_rest F es out err) o ≡ ready_at F o
  ready_at_rest None = refl
  ready_at_rest (Some f) = ready_rest f.kind

pub told_plain : (F : Files) (file asked : ℕ) → told (plain_of F) file asked ≡ told F file asked
told_plain F file asked = ap (λ r. bit_and r (wanted asked)) (ready_at_rest F [] [] [] (at_place F.files file))

due_plain : (F : Files) (i : Interest) → is_due (plain_of F) i ≡ is_due F i
due_plain F i = ap (λ r. i.enabled && (i.armed || not (is_edge i.asked)) && not (r == 0)) (told_plain F i.file i.asked)

any_same : {X : Type 0} (p q : X → Bool) → ((x : X) → p x ≡ q x) → (xs : List X) → list_any p xs ≡ list_any q xs
any_same p q h [] = refl
any_same p q h (x ∷ xs) = ap₂ (λ a b. a || b) (h x) (any_same p q h xs)

-- some interest is due
pub any_due_plain : (F : Files) (is : List Interest) → list_any (is_due (plain_of F)) is ≡ list_any (is_due F) is
any_due_plain F is = any_same (is_due (plain_of F)) (is_due F) (due_plain F) is

named_due_plain : (F : Files) (o : Option Interest) → is_due_interest (plain_of F) o ≡ is_due_interest F o
named_due_plain F None = refl
named_due_plain F (Some i) = due_plain F i

are_due_plain : (F : Files) (is : List Interest) (picks : List Pick) → are_due (plain_of F) is picks ≡ are_due F is picks
are_due_plain F is [] = refl
are_due_plain F is (p ∷ ps) = ap₂ (λ a b. a && b) (named_due_plain F (named is p)) (are_due_plain F is ps)

left_plain : (F : Files) (is : List Interest) (picks : List Pick) → list_any (is_left (plain_of F) picks) is ≡ list_any (is_left F picks) is
left_plain F is picks = any_same (is_left (plain_of F) picks) (is_left F picks) (λ i. ap (λ b. b && not (is_picked picks i)) (due_plain F i)) is

pub answer_plain : (F : Files) (is : List Interest) (most : ℕ) (picks : List Pick) → is_answer (plain_of F) is most picks ≡ is_answer F is most picks
answer_plain F is most picks =
    ap₂ (λ a b. nat_lt 0 (length picks) && nat_le (length picks) most && are_distinct picks && a && ((length picks == most) || not b))
    (are_due_plain F is picks) (left_plain F is picks)

event_plain : (F : Files) (o : Option Interest) → event_of (plain_of F) o ≡ event_of F o
event_plain F None = refl
event_plain F (Some i) = ap (λ r. bytes_of r 4 ++ bytes_of 0 4 ++ bytes_of i.«data» 8) (told_plain F i.file i.asked)

pub events_plain : (F : Files) (is : List Interest) (picks : List Pick) → events (plain_of F) is picks ≡ events F is picks
events_plain F is [] = refl
events_plain F is (p ∷ ps) = ap₂ (λ (a b : List ℕ). a ++ b) (event_plain F (named is p)) (events_plain F is ps)
