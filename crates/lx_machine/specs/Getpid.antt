-- The numbers of the process, of its parent and of its user. Source: getpid(2), getuid(2), getgid(2). Which they are is this
-- project's own.
use Rattle.std.specs.Prelude.{ℕ}

-- the process and all its user and group ids
abbrev pub own_id : ℕ
own_id = 1000
