-- What holds of the files at all times is kept by any look at an open file that is no queue, whatever it answers.
use Rattle.std.proofs.Common.{◌≡◌, ℕ, zero, suc, ◌+◌, ◌-◌, ◌^◌, ◌≤◌, Bool, true, false, ◌||◌, List, [], ◌∷◌, ◌++◌, drop, take, length, length-append, Option, Some, None, refl, arith}
use Rattle.std.specs.Prelude.{◌==◌, nat_lt, if◌then◌else◌}
use Rattle.std.proofs.Math.Bool.{not}
use Rattle.std.proofs.lemmas.Grind.{common_steps}
use Rattle.kqueue_core.specs.declared.knotes.Filter.TheVariants as filter
use Rattle.lx_machine.specs.Files.{has_reader}
use Rattle.lx_machine.specs.Interests.{side_holds}
use Rattle.lx_machine.specs.Lists.{at_place}
use Rattle.lx_machine.specs.Read.{counted_down}
use Rattle.lx_machine.specs.Write.{goes_in}
use Rattle.lx_machine.specs.declared.calls.LxCall.{LxCall}
use Rattle.lx_machine.specs.declared.files.Counter.{Counter}
use Rattle.lx_machine.specs.declared.files.FileKind.{FileKind}
use Rattle.lx_machine.specs.declared.files.FileKind.TheVariants as kind
use Rattle.lx_machine.specs.declared.files.OpenFile.{OpenFile}
use Rattle.open_files.specs.declared.kinds.FileCall.{FileCall}
use Rattle.places.specs.Places.{number_at}
use Rattle.bsd_files.specs.Look.{Look, as_write, bytes_left, counter_read, counter_write, looked_so, of_it, plain_look, read_end, read_look, write_end, write_look}
use Rattle.bsd_files.specs.Ops.{each_queue}
use Rattle.bsd_files.specs.State.{FilesState}
use Rattle.files_stand.specs.SoundFiles.{SoundFiles}
use Rattle.files_stand.proofs.SoundMoves.{sound_console, sound_counter, sound_input, sound_read, sound_write}

shorter : (n : ℕ) (xs : List ℕ) → length (drop n xs) ≤ length xs
shorter zero xs = omega arith
shorter (suc n) [] = omega arith
shorter (suc n) (x ∷ xs) = let a = shorter n xs in grind (arith, common_steps)

module _ (calls : ℕ → Option LxCall) (holding : ℕ → Option ℕ) (M : FilesState) (snd : SoundFiles calls holding M) where
  -- the files after a look
  abbrev Sounds : Look → Type 0
  Sounds l = SoundFiles calls holding (record { plain = l.plain; queues = each_queue l.ops M.queues })

  either : (b : Bool) (x y : Look) → Sounds x → Sounds y → Sounds (if b then x else y)
  either true x y h k = h
  either false x y h k = k

  of_none : {X : Type 0} (o : Option X) (look : X → Look) → ((x : X) → o ≡ Some x → Sounds (look x)) → Sounds (of_it M.plain o look)
  of_none None look h = snd
  of_none (Some x) look h = h x refl

  -- ---- reads

  sound_counter_read : (len : ℕ) (f : OpenFile) (number : ℕ) (n : Counter) → at_place M.plain.counters number ≡ Some n → Sounds (counter_read M.plain len f number n)
  sound_counter_read len f number n e = either (nat_lt len 8) _ _ snd (either (n.value == 0) _ _ snd (sound_counter calls holding M snd number n (counted_down n) filter.Write e))

  sound_read_end : (len : ℕ) (f : OpenFile) (p : ℕ) (held : List ℕ) → at_place M.plain.pipes p ≡ Some held → Sounds (read_end M.plain len f p held)
  sound_read_end len f p [] e = snd
  sound_read_end len f p (b ∷ bs) e = sound_read calls holding M snd p (b ∷ bs) (drop len (b ∷ bs)) e (shorter len (b ∷ bs))

  sound_read_look : (len : ℕ) (f : OpenFile) (k : FileKind) → Sounds (read_look M.plain len f k)
  sound_read_look len f (kind.Counter n) = of_none (at_place M.plain.counters n) (counter_read M.plain len f n) (λ x e. sound_counter_read len f n x e)
  sound_read_look len f kind.Input = either (len == 0) _ _ snd (sound_input calls holding M snd len)
  sound_read_look len f (kind.PipeRead p) = either (len == 0) _ _ snd (of_none (at_place M.plain.pipes p) (read_end M.plain len f p) (λ x e. sound_read_end len f p x e))
  sound_read_look len f (kind.PipeWrite p) = snd
  sound_read_look len f (kind.Console which) = snd
  sound_read_look len f (kind.Epoll n) = snd

  -- ---- writes

  sound_counter_write : (bytes : List ℕ) (f : OpenFile) (number : ℕ) (n : Counter) → at_place M.plain.counters number ≡ Some n → Sounds (counter_write M.plain bytes f number n)
  sound_counter_write bytes f number n e =
      either (nat_lt (length bytes) 8 || (number_at bytes 0 8 == 2 ^ 64 - 1)) _ _ snd
      (either (nat_lt (2 ^ 64 - 2) (n.value + number_at bytes 0 8)) _ _ snd (sound_counter calls holding M snd number n (record n { value = n.value + number_at bytes 0 8 }) filter.Read e))

  longer : (xs ys : List ℕ) → length xs ≤ length (xs ++ ys)
  longer xs ys = let a = length-append xs ys in omega arith

  sound_write_end : (done : ℕ) (bytes : List ℕ) (f : OpenFile) (p : ℕ) (held : List ℕ) → at_place M.plain.pipes p ≡ Some held → Sounds (write_end M.plain done bytes f p held)
  sound_write_end done bytes f p held e =
      either (not (has_reader M.plain p)) _ _ snd
      (either (goes_in (as_write done bytes) (length held) == 0) _ _ snd
      (sound_write calls holding M snd p held (held ++ take (goes_in (as_write done bytes) (length held)) bytes) e (longer held (take (goes_in (as_write done bytes) (length held)) bytes))))

  sound_write_look : (done : ℕ) (bytes : List ℕ) (f : OpenFile) (k : FileKind) → Sounds (write_look M.plain done bytes f k)
  sound_write_look done bytes f (kind.Counter n) = of_none (at_place M.plain.counters n) (counter_write M.plain bytes f n) (λ x e. sound_counter_write bytes f n x e)
  sound_write_look done bytes f (kind.Console which) = either (done + length bytes == 0) _ _ snd
      (either (goes_in (as_write done bytes) (length (side_holds M.plain which)) == 0) _ _ snd
      (sound_console calls holding M snd which (take (goes_in (as_write done bytes) (length (side_holds M.plain which))) bytes)))
  sound_write_look done bytes f (kind.PipeWrite p) = either (done + length bytes == 0) _ _ snd (of_none (at_place M.plain.pipes p) (write_end M.plain done bytes f p) (λ x e. sound_write_end done bytes f p x e))
  sound_write_look done bytes f (kind.PipeRead p) = snd
  sound_write_look done bytes f kind.Input = snd
  sound_write_look done bytes f (kind.Epoll n) = snd

  pub sound_looked : (c : FileCall) (buffer : List ℕ) (f : OpenFile) → SoundFiles calls holding (looked_so M c buffer (plain_look M.plain c buffer f)).files
  sound_looked c buffer f = either c.write _ _ (sound_write_look c.done (bytes_left c buffer) f f.kind) (sound_read_look c.len f f.kind)
