-- What the steps on files leave of the console rooms and of the epolls.
use Rattle.std.proofs.Common.{◌≡◌, ℕ, true, ◌||◌, List, [], ◌∷◌, ◌++◌, Option, Some, None, refl, ap, ◌∙◌, sym, append_assoc, append-nil}
use Rattle.lx_machine.specs.Epoll.{are_apart}
use Rattle.lx_machine.specs.Files.{after_end_of, closed, closed_as, closed_if_unnamed_as, given_back, given_back_as, has_reader, has_writer, held_once_less, is_unnamed, numbered_at, without_file, without_pipe}
use Rattle.lx_machine.specs.Interests.{armed_on, without_interests, without_those_in, is_elsewhere}
use Rattle.lx_machine.specs.Lists.{at_place, with_place, without_place}
use Rattle.lx_machine.specs.Write.{into_console}
use Rattle.lx_machine.specs.declared.files.Descriptor.{Descriptor}
use Rattle.lx_machine.specs.declared.files.FileKind.{FileKind}
use Rattle.lx_machine.specs.declared.files.FileKind.TheVariants as kind
use Rattle.lx_machine.specs.declared.files.Files.{Files}
use Rattle.lx_machine.specs.declared.files.Interest.{Interest}
use Rattle.lx_machine.specs.declared.files.NumberedFile.{NumberedFile}
use Rattle.lx_machine.specs.declared.files.OpenFile.{OpenFile}
use Rattle.lx_machine.specs.declared.label.LxSide.{LxSide}
use Rattle.lx_machine.specs.declared.label.LxSide.TheVariants as side
use Rattle.lx_laws.specs.Interests.{AreApart}
use Rattle.lx_laws.proofs.Results.{if_of}
use Rattle.lx_laws.proofs.Apart.{apart_mapped, apart_set, keeps_armed, keeps_filter}

-- some bytes were put into a room
pub record Grown (holds put holds' put' : List ℕ) : Type 0 where
  pub bytes : List ℕ
  pub room : holds' ≡ holds ++ bytes
  pub ever : put' ≡ put ++ bytes

pub none_put : (holds put : List ℕ) → Grown holds put holds put
none_put holds put = record { bytes = []; room = sym (append-nil holds); ever = sym (append-nil put) }

grown_more : (a b a' b' a'' b'' : List ℕ) → Grown a b a' b' → Grown a' b' a'' b'' → Grown a b a'' b''
grown_more a b a' b' a'' b'' g h = record {
  bytes = g.bytes ++ h.bytes;
  room = h.room ∙ ap (λ (x : List ℕ). x ++ h.bytes) g.room ∙ append_assoc a g.bytes h.bytes;
  ever = h.ever ∙ ap (λ (x : List ℕ). x ++ h.bytes) g.ever ∙ append_assoc b g.bytes h.bytes;
}

-- the rooms have grown, and interests stay apart
pub record Leaves (a b c d : List ℕ) (epolls : List (Option (List Interest))) (a' b' c' d' : List ℕ) (epolls' : List (Option (List Interest))) : Type 0 where
  pub out : Grown a b a' b'
  pub err : Grown c d c' d'
  pub apart : AreApart epolls → AreApart epolls'

abbrev pub FilesTo : Files → Files → Type 0
FilesTo F G = Leaves F.out F.put_out F.err F.put_err F.epolls G.out G.put_out G.err G.put_err G.epolls

pub same : (F : Files) → FilesTo F F
same F = record { out = none_put F.out F.put_out; err = none_put F.err F.put_err; apart = λ h. h }

pub and_then : (F G H : Files) → FilesTo F G → FilesTo G H → FilesTo F H
and_then F G H a b = record {
  out = grown_more F.out F.put_out G.out G.put_out H.out H.put_out a.out b.out;
  err = grown_more F.err F.put_err G.err G.put_err H.err H.put_err a.err b.err;
  apart = λ h. b.apart (a.apart h);
}

-- ---- one change

pub on_epolls : (F : Files) (epolls : List (Option (List Interest))) → (AreApart F.epolls → AreApart epolls) → FilesTo F (record F { epolls = epolls })
on_epolls F epolls h = record { out = none_put F.out F.put_out; err = none_put F.err F.put_err; apart = h }

pub armed : (k : FileKind) (F : Files) → FilesTo F (armed_on k F)
armed k F = on_epolls F _ (apart_mapped _ (keeps_armed k F.files) F.epolls)

pub without_in : (file : ℕ) (F : Files) → FilesTo F (without_interests file F)
without_in file F = on_epolls F _ (apart_mapped (without_those_in file) (keeps_filter (is_elsewhere file)) F.epolls)

no_interests : (is : List Interest) → ◌≡◌ {A = Option (List Interest)} None (Some is) → are_apart is ≡ true
no_interests is e = absurd (cc)

pub without_epoll : (F : Files) (n : ℕ) → FilesTo F (record F { epolls = without_place F.epolls n })
without_epoll F n = on_epolls F _ (apart_set F.epolls n None no_interests)

first_apart : (is : List Interest) → ◌≡◌ {A = Option (List Interest)} (Some []) (Some is) → are_apart is ≡ true
first_apart [] e = refl
first_apart (i ∷ is) e = absurd (cc)

pub new_epoll : (F : Files) (n : ℕ) → FilesTo F (record F { epolls = with_place F.epolls n [] })
new_epoll F n = on_epolls F _ (apart_set F.epolls n (Some []) first_apart)

pub into : (F : Files) (which : LxSide) (bytes : List ℕ) → FilesTo F (into_console F which bytes)
into F side.Out bytes = record { out = record { bytes = bytes; room = refl; ever = refl }; err = none_put F.err F.put_err; apart = λ h. h }
into F side.Err bytes = record { out = none_put F.out F.put_out; err = record { bytes = bytes; room = refl; ever = refl }; apart = λ h. h }

-- ---- ends

no_pipe : (p : ℕ) (F : Files) → FilesTo F (without_pipe F p)
no_pipe p F = if_of (FilesTo F) (has_reader F p || has_writer F p) F (record F { pipes = without_place F.pipes p }) (same F) (same F)

after_end : (k : FileKind) (F : Files) → FilesTo F (after_end_of k F)
after_end (kind.PipeRead p) F = and_then F (armed_on (kind.PipeWrite p) F) (without_pipe (armed_on (kind.PipeWrite p) F) p) (armed (kind.PipeWrite p) F) (no_pipe p (armed_on (kind.PipeWrite p) F))
after_end (kind.PipeWrite p) F = and_then F (armed_on (kind.PipeRead p) F) (without_pipe (armed_on (kind.PipeRead p) F) p) (armed (kind.PipeRead p) F) (no_pipe p (armed_on (kind.PipeRead p) F))
after_end (kind.Counter n) F = same F
after_end (kind.Epoll n) F = without_epoll F n
after_end kind.Input F = same F
after_end (kind.Console which) F = same F

no_file : (F : Files) (file : ℕ) (k : FileKind) → FilesTo F (without_file F file k)
no_file F file k =
    let G = record F { files = without_place F.files file } in
    and_then F (without_interests file G) (without_file F file k) (without_in file G) (after_end k (without_interests file G))

ended : (F : Files) (o : Option NumberedFile) → FilesTo F (closed_if_unnamed_as F o)
ended F None = same F
ended F (Some f) = if_of (FilesTo F) (is_unnamed F f) (without_file F f.number f.file.kind) F (no_file F f.number f.file.kind) (same F)

gave : (F : Files) (file : ℕ) (o : Option OpenFile) → FilesTo F (given_back_as F file o)
gave F file None = same F
gave F file (Some f) =
    let G = record F { files = with_place F.files file (held_once_less f) } in ended G (numbered_at G file)

pub gave_back : (F : Files) (file : ℕ) → FilesTo F (given_back F file)
gave_back F file = gave F file (at_place F.files file)

close_at : (F : Files) (number : ℕ) (o : Option Descriptor) → FilesTo F (closed_as F number o)
close_at F number None = same F
close_at F number (Some d) =
    let G = record F { descriptors = without_place F.descriptors number } in ended G (numbered_at G d.file)

pub is_closed : (F : Files) (number : ℕ) → FilesTo F (closed F number)
is_closed F number = close_at F number (at_place F.descriptors number)
