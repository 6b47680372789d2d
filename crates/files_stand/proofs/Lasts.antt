-- The end of an open file makes nothing ready but the other end of its pipe, whose interests it arms.
use Rattle.std.proofs.Common.{◌≡◌, ◌≢◌, ℕ, zero, suc, Bool, true, false, not, ◌||◌, List, [], ◌∷◌, Option, Some, None, length, refl, sym, ap, ◌∙◌, subst, arith, ◌⊎◌, inl, inr}
use Rattle.std.specs.Prelude.{◌==◌, nat_lt, if◌then◌else◌}
use Rattle.std.specs.List.{list_any}
use Rattle.std.specs.Int.Bits.{and_self}
use Rattle.lx_machine.specs.declared.files.FileKind.TheVariants as kind
use Rattle.lx_machine.specs.declared.label.LxSide.TheVariants as side
use Rattle.lx_machine.specs.Lists.{at_place, without_place}
use Rattle.lx_machine.specs.Interests.{is_open_of, is_kind, armed_on, without_interests}
use Rattle.lx_machine.specs.declared.files.FileKind.{FileKind}
use Rattle.lx_machine.specs.declared.files.Files.{Files}
use Rattle.lx_machine.specs.declared.files.OpenFile.{OpenFile}
use Rattle.lx_machine.specs.declared.label.LxSide.{LxSide}
use Rattle.lx_machine.specs.Files.{is_read_end, is_write_end, is_open_as, has_reader, has_writer, held_in, without_file}
use Rattle.lx_machine.specs.Epoll.{ready, ready_at, pipe_holds}
use Rattle.files_stand.proofs.Grows.{Among, GrowsAt, GrowsNowhere, Implies, read_among, not_same}
use Rattle.files_stand.proofs.Places.{at_other, at_without}

any_left : (t : FileKind → Bool) (files : List (Option OpenFile)) (file : ℕ) (f : OpenFile) → at_place files file ≡ Some f → t f.kind ≡ false → list_any (is_open_as t) (without_place files file) ≡ list_any (is_open_as t) files
any_left t [] file f h e = refl
any_left t (x ∷ files) zero f h e = let g : x ≡ Some f = h in ap (λ (b : Bool). b || list_any (is_open_as t) files) (sym (ap (is_open_as t) g ∙ e))
any_left t (x ∷ files) (suc file) f h e = ap (λ b. is_open_as t x || b) (any_left t files file f h e)

pub any_at : (t : FileKind → Bool) (files : List (Option OpenFile)) (n : ℕ) (f : OpenFile) → at_place files n ≡ Some f → t f.kind ≡ true → list_any (is_open_as t) files ≡ true
any_at t [] n f h e = let z : None ≡ Some f = h in absurd (cc)
any_at t (x ∷ files) zero f h e = let g : x ≡ Some f = h in ap (λ (b : Bool). b || list_any (is_open_as t) files) (ap (is_open_as t) g ∙ e)
any_at t (x ∷ files) (suc n) f h e = ap (λ b. is_open_as t x || b) (any_at t files n f h e) ∙ or_is_true (is_open_as t x)
  where
    or_is_true : (b : Bool) → (b || true) ≡ true
    or_is_true true = refl
    or_is_true false = refl

-- what the end of a file leaves, but for files, pipes and counters
pub record Rest (F F' : Files) : Type 0 where
  pub input : F'.input ≡ F.input
  pub out : F'.out ≡ F.out
  pub err : F'.err ≡ F.err

eq_refl' : (p : ℕ) → (p == p) ≡ true
eq_refl' p = grind arith

module _ (F F' : Files) (file : ℕ) (f : OpenFile) (here : at_place F.files file ≡ Some f) (files_is : F'.files ≡ without_place F.files file) (rest : Rest F F') where
  readers : (q : ℕ) → is_read_end q f.kind ≡ false → has_reader F' q ≡ has_reader F q
  readers q e = ap (λ (l : List (Option OpenFile)). list_any (is_open_as (is_read_end q)) l) files_is ∙ any_left (is_read_end q) F.files file f here e

  writers : (q : ℕ) → is_write_end q f.kind ≡ false → has_writer F' q ≡ has_writer F q
  writers q e = ap (λ (l : List (Option OpenFile)). list_any (is_open_as (is_write_end q)) l) files_is ∙ any_left (is_write_end q) F.files file f here e

  input_same : Among (ready F' kind.Input) (ready F kind.Input)
  input_same = rw rest.input (and_self _)

  console_same : (which : LxSide) → Among (ready F' (kind.Console which)) (ready F (kind.Console which))
  console_same side.Out = rw rest.out (and_self _)
  console_same side.Err = rw rest.err (and_self _)

  -- of any file that is left
  at_by : (k : FileKind) → ((n : ℕ) (g : OpenFile) → at_place F'.files n ≡ Some g → is_kind k g.kind ≡ false → Among (ready F' g.kind) (ready F g.kind)) → GrowsAt k F'.files F F'
  at_by k h n e = by (at_without F.files file n) (at_place F'.files n) refl e
    where
      by : (at_place (without_place F.files file) n ≡ None) ⊎ (at_place (without_place F.files file) n ≡ at_place F.files n) → (o : Option OpenFile) → at_place F'.files n ≡ o → is_open_of k o ≡ false → Among (ready_at F' o) (ready_at F (at_place F.files n))
      by c None i e = refl
      by (inl c) (Some g) i e = let z : None ≡ Some g = sym c ∙ ap (λ (l : List (Option OpenFile)). at_place l n) (sym files_is) ∙ i in absurd (cc)
      by (inr c) (Some g) i e = let z : at_place F.files n ≡ Some g = sym c ∙ ap (λ (l : List (Option OpenFile)). at_place l n) (sym files_is) ∙ i in rw z (h n g i e)

  abbrev Fewer : Type 0
  Fewer = (q : ℕ) → (pipe_holds F' q ≡ []) ⊎ (pipe_holds F' q ≡ pipe_holds F q)

  fewer_bytes : Fewer → (q : ℕ) → Implies (nat_lt 0 (length (pipe_holds F' q))) (nat_lt 0 (length (pipe_holds F q)))
  fewer_bytes fewer q i = by (fewer q)
    where
      by : (pipe_holds F' q ≡ []) ⊎ (pipe_holds F' q ≡ pipe_holds F q) → nat_lt 0 (length (pipe_holds F q)) ≡ true
      by (inl e) = let z : false ≡ true = sym (ap (λ l. nat_lt 0 (length l)) e) ∙ i in absurd (cc)
      by (inr e) = ap (λ l. nat_lt 0 (length l)) (sym e) ∙ i

  abbrev FewerCounters : Type 0
  FewerCounters = (q : ℕ) → (at_place F'.counters q ≡ None) ⊎ (at_place F'.counters q ≡ at_place F.counters q)

  counter_left : FewerCounters → (q : ℕ) → Among (ready F' (kind.Counter q)) (ready F (kind.Counter q))
  counter_left fewer q = by (fewer q)
    where
      by : (at_place F'.counters q ≡ None) ⊎ (at_place F'.counters q ≡ at_place F.counters q) → Among (ready F' (kind.Counter q)) (ready F (kind.Counter q))
      by (inl e) = rw e refl
      by (inr e) = rw e (and_self _)

  module _ (fewer : Fewer) (counts : FewerCounters) where
    -- the read end of the pipe p ends
    pub read_end_grows : (p : ℕ) → f.kind ≡ kind.PipeRead p → ((q : ℕ) → q ≢ p → pipe_holds F' q ≡ pipe_holds F q) → GrowsAt (kind.PipeWrite p) F'.files F F'
    read_end_grows p is apart = at_by (kind.PipeWrite p) (λ n g at e. each g.kind e)
      where
        each : (k : FileKind) → is_kind (kind.PipeWrite p) k ≡ false → Among (ready F' k) (ready F k)
        each (kind.PipeRead q) e = rw (writers q (ap (is_write_end q) is)) (read_among _ _ (not (has_writer F q)) (fewer_bytes fewer q))
        each (kind.PipeWrite q) e = rw (apart q (not_same p q e), readers q (ap (is_read_end q) is ∙ e)) (and_self _)
        each (kind.Counter q) e = counter_left counts q
        each kind.Input e = input_same
        each (kind.Console which) e = console_same which
        each (kind.Epoll q) e = refl

    -- the write end ends: its pipe is gone only where no other end of it is left
    pub write_end_grows : (p : ℕ) → f.kind ≡ kind.PipeWrite p → ((q : ℕ) → q ≢ p → pipe_holds F' q ≡ pipe_holds F q) → (has_writer F' p ≡ true → pipe_holds F' p ≡ pipe_holds F p) → GrowsAt (kind.PipeRead p) F'.files F F'
    write_end_grows p is apart stays = at_by (kind.PipeRead p) (λ n g at e. each n g at g.kind refl e)
      where
        same_or_not : (i j : ℕ) → (j ≡ i) ⊎ (j ≢ i)
        same_or_not i j = grind arith

        write_left : (n : ℕ) (g : OpenFile) → at_place F'.files n ≡ Some g → (q : ℕ) → g.kind ≡ kind.PipeWrite q → pipe_holds F' q ≡ pipe_holds F q
        write_left n g at q i = by (same_or_not p q)
          where
            by : (q ≡ p) ⊎ (q ≢ p) → pipe_holds F' q ≡ pipe_holds F q
            by (inl e) = rw e (stays (any_at (is_write_end p) F'.files n g at (ap (is_write_end p) i ∙ ap (λ z. z == p) e ∙ eq_refl' p)))
            by (inr ne) = apart q ne

        each : (n : ℕ) (g : OpenFile) → at_place F'.files n ≡ Some g → (k : FileKind) → g.kind ≡ k → is_kind (kind.PipeRead p) k ≡ false → Among (ready F' k) (ready F k)
        each n g at (kind.PipeRead q) i e = rw (apart q (not_same p q e), writers q (ap (is_write_end q) is ∙ e)) (and_self _)
        each n g at (kind.PipeWrite q) i e = rw (write_left n g at q i, readers q (ap (is_read_end q) is)) (and_self _)
        each n g at (kind.Counter q) i e = counter_left counts q
        each n g at kind.Input i e = input_same
        each n g at (kind.Console which) i e = console_same which
        each n g at (kind.Epoll q) i e = refl

    -- any other open file ends
    pub other_grows : ((q : ℕ) → is_read_end q f.kind ≡ false) → ((q : ℕ) → is_write_end q f.kind ≡ false) → ((q : ℕ) → pipe_holds F' q ≡ pipe_holds F q) → GrowsNowhere F F'
    other_grows no_read no_write pipes n = by (at_without F.files file n) (at_place F'.files n) refl
      where
        each : (k : FileKind) → Among (ready F' k) (ready F k)
        each (kind.PipeRead q) = rw (pipes q, writers q (no_write q)) (and_self _)
        each (kind.PipeWrite q) = rw (pipes q, readers q (no_read q)) (and_self _)
        each (kind.Counter q) = counter_left counts q
        each kind.Input = input_same
        each (kind.Console which) = console_same which
        each (kind.Epoll q) = refl

        by : (at_place (without_place F.files file) n ≡ None) ⊎ (at_place (without_place F.files file) n ≡ at_place F.files n) → (o : Option OpenFile) → at_place F'.files n ≡ o → Among (ready_at F' o) (ready_at F (at_place F.files n))
        by c None i = refl
        by (inl c) (Some g) i = let z : None ≡ Some g = sym c ∙ ap (λ (l : List (Option OpenFile)). at_place l n) (sym files_is) ∙ i in absurd (cc)
        by (inr c) (Some g) i = let z : at_place F.files n ≡ Some g = sym c ∙ ap (λ (l : List (Option OpenFile)). at_place l n) (sym files_is) ∙ i in rw z (each g.kind)

-- ---- the end of an open file itself

abbrev pub pipe_if : Bool → Files → ℕ → Files
pipe_if b G p = if b then G else record G { pipes = without_place G.pipes p }

pipe_if_files : (b : Bool) (G : Files) (p : ℕ) → (pipe_if b G p).files ≡ G.files
pipe_if_files true G p = refl
pipe_if_files false G p = refl

pipe_if_counters : (b : Bool) (G : Files) (p q : ℕ) → at_place (pipe_if b G p).counters q ≡ at_place G.counters q
pipe_if_counters true G p q = refl
pipe_if_counters false G p q = refl

pipe_if_rest : (b : Bool) (G : Files) (p : ℕ) → Rest G (pipe_if b G p)
pipe_if_rest true G p = record { input = refl; out = refl; err = refl }
pipe_if_rest false G p = record { input = refl; out = refl; err = refl }

pipe_if_fewer : (b : Bool) (G : Files) (p q : ℕ) → (pipe_holds (pipe_if b G p) q ≡ []) ⊎ (pipe_holds (pipe_if b G p) q ≡ pipe_holds G q)
pipe_if_fewer true G p q = inr refl
pipe_if_fewer false G p q = by (at_without G.pipes p q)
  where
    by : (at_place (without_place G.pipes p) q ≡ None) ⊎ (at_place (without_place G.pipes p) q ≡ at_place G.pipes q) → (pipe_holds (pipe_if false G p) q ≡ []) ⊎ (pipe_holds (pipe_if false G p) q ≡ pipe_holds G q)
    by (inl e) = inl (ap held_in e)
    by (inr e) = inr (ap held_in e)

pipe_if_apart : (b : Bool) (G : Files) (p q : ℕ) → q ≢ p → pipe_holds (pipe_if b G p) q ≡ pipe_holds G q
pipe_if_apart true G p q ne = refl
pipe_if_apart false G p q ne = ap held_in (at_other G.pipes p q ne)

pipe_if_stays : (r w : Bool) (G : Files) (p : ℕ) → w ≡ true → pipe_holds (pipe_if (r || w) G p) p ≡ pipe_holds G p
pipe_if_stays true w G p h = refl
pipe_if_stays false true G p h = refl
pipe_if_stays false false G p h = let z : false ≡ true = h in absurd (cc)

rest_of : (F G H : Files) → G.input ≡ F.input → G.out ≡ F.out → G.err ≡ F.err → Rest G H → Rest F H
rest_of F G H a b c r = record { input = r.input ∙ a; out = r.out ∙ b; err = r.err ∙ c }

module _ (F : Files) (file p : ℕ) (f : OpenFile) (here : at_place F.files file ≡ Some f) where
  abbrev read_left : Files
  read_left = armed_on (kind.PipeWrite p) (without_interests file (record F { files = without_place F.files file }))

  abbrev write_left : Files
  write_left = armed_on (kind.PipeRead p) (without_interests file (record F { files = without_place F.files file }))

  pub read_end_ends : f.kind ≡ kind.PipeRead p → GrowsAt (kind.PipeWrite p) (without_place F.files file) F (without_file F file (kind.PipeRead p))
  read_end_ends is = subst (λ (l : List (Option OpenFile)). GrowsAt (kind.PipeWrite p) l F (without_file F file (kind.PipeRead p))) (pipe_if_files b read_left p)
      (read_end_grows F (pipe_if b read_left p) file f here (pipe_if_files b read_left p) (rest_of F read_left _ refl refl refl (pipe_if_rest b read_left p)) (λ q. pipe_if_fewer b read_left p q) (λ q. inr (pipe_if_counters b read_left p q)) p is (λ q ne. pipe_if_apart b read_left p q ne))
    where
      b : Bool
      b = has_reader read_left p || has_writer read_left p

  pub write_end_ends : f.kind ≡ kind.PipeWrite p → GrowsAt (kind.PipeRead p) (without_place F.files file) F (without_file F file (kind.PipeWrite p))
  write_end_ends is = subst (λ (l : List (Option OpenFile)). GrowsAt (kind.PipeRead p) l F (without_file F file (kind.PipeWrite p))) (pipe_if_files _ write_left p)
      (write_end_grows F (pipe_if (has_reader write_left p || has_writer write_left p) write_left p) file f here (pipe_if_files _ write_left p) (rest_of F write_left _ refl refl refl (pipe_if_rest _ write_left p)) (λ q. pipe_if_fewer _ write_left p q) (λ q. inr (pipe_if_counters _ write_left p q)) p is (λ q ne. pipe_if_apart _ write_left p q ne)
      (λ w. pipe_if_stays (has_reader write_left p) (has_writer write_left p) write_left p (sym (ap (λ (l : List (Option OpenFile)). list_any (is_open_as (is_write_end p)) l) (pipe_if_files (has_reader write_left p || has_writer write_left p) write_left p)) ∙ w)))

  pub counter_ends : (m : ℕ) → f.kind ≡ kind.Counter m → GrowsNowhere F (without_file F file (kind.Counter m))
  counter_ends m is = other_grows F (without_file F file (kind.Counter m)) file f here refl (record { input = refl; out = refl; err = refl }) (λ q. inr refl) (λ q. at_without F.counters m q) (λ q. ap (is_read_end q) is) (λ q. ap (is_write_end q) is) (λ q. refl)

  pub epoll_ends : (m : ℕ) → f.kind ≡ kind.Epoll m → GrowsNowhere F (without_file F file (kind.Epoll m))
  epoll_ends m is = other_grows F (without_file F file (kind.Epoll m)) file f here refl (record { input = refl; out = refl; err = refl }) (λ q. inr refl) (λ q. inr refl) (λ q. ap (is_read_end q) is) (λ q. ap (is_write_end q) is) (λ q. refl)

  pub input_ends : f.kind ≡ kind.Input → GrowsNowhere F (without_file F file kind.Input)
  input_ends is = other_grows F (without_file F file kind.Input) file f here refl (record { input = refl; out = refl; err = refl }) (λ q. inr refl) (λ q. inr refl) (λ q. ap (is_read_end q) is) (λ q. ap (is_write_end q) is) (λ q. refl)

  pub console_ends : (which : LxSide) → f.kind ≡ kind.Console which → GrowsNowhere F (without_file F file (kind.Console which))
  console_ends which is = other_grows F (without_file F file (kind.Console which)) file f here refl (record { input = refl; out = refl; err = refl }) (λ q. inr refl) (λ q. inr refl) (λ q. ap (is_read_end q) is) (λ q. ap (is_write_end q) is) (λ q. refl)
