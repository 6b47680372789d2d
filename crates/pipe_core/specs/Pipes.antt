-- A pipe: the bytes that it holds, in order, and how many it can hold. That bytes come out in the order in which they were
-- put in is pipe(2) of FreeBSD; that a put takes what fits, and leaves the choice to wait or to refuse to its caller, is this
-- project's own.
use Rattle.std.specs.Prelude.{ℕ, ◌-◌, min, List, ◌++◌, length, take, drop}

-- the bytes that it holds, the first that was put first, and the most that it can hold
pub record PipeBytes : Type 0 where
  pub bytes : List ℕ
  pub room : ℕ

-- how many of so many bytes fit
abbrev pub fitting : ℕ → PipeBytes → ℕ
fitting count p = min count (p.room - length p.bytes)

-- the pipe after these bytes were put: behind what it held stand those that fit
abbrev pub with_put : List ℕ → PipeBytes → PipeBytes
with_put more p = record p { bytes = p.bytes ++ take (fitting (length more) p) more }

-- the pipe without so many first bytes
abbrev pub without_first : ℕ → PipeBytes → PipeBytes
without_first count p = record p { bytes = drop count p.bytes }
