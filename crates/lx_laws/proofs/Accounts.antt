-- What Drain has taken from a console room, and what it holds, is what was ever put into it.
use Rattle.std.proofs.Common.{◌≡◌, ℕ, List, [], ◌∷◌, ◌++◌, Option, take, drop, refl, sym, ap, ◌∙◌, subst, append_assoc, append-nil, take-append-drop}
use Rattle.lx_machine.specs.Interests.{drained_side, side_holds}
use Rattle.lx_machine.specs.Step.{LRun, LStep}
use Rattle.lx_machine.specs.Start.{start}
use Rattle.lx_machine.specs.declared.files.Files.{Files}
use Rattle.lx_machine.specs.declared.label.Label.{Label}
use Rattle.lx_machine.specs.declared.label.Label.TheVariants as label
use Rattle.lx_machine.specs.declared.label.LxSide.{LxSide}
use Rattle.lx_machine.specs.declared.label.LxSide.TheVariants as side
use Rattle.lx_machine.specs.declared.state.LinuxState.{LinuxState}
use Rattle.lx_laws.specs.Consoles.{AccountsFor, ConsolesAccountFor, ConsolesAccountFromTheStart, ever_put, taken_by, taken_from, taken_over}
use Rattle.lx_laws.proofs.Apart.{some_is}
use Rattle.lx_laws.proofs.Files.{FilesTo, Grown}
use Rattle.lx_laws.proofs.Frame.{Common, common}
use Rattle.lx_laws.proofs.Runs.{bind_some}

-- bytes were put, and none taken
none_taken : (before holds put holds' put' : List ℕ) → Grown holds put holds' put' → put ≡ before ++ holds → put' ≡ (before ++ []) ++ holds'
none_taken before holds put holds' put' g h =
    g.ever ∙ ap (λ (x : List ℕ). x ++ g.bytes) h ∙ append_assoc before holds g.bytes ∙ ap (λ (x : List ℕ). before ++ x) (sym g.room)
    ∙ ap (λ (x : List ℕ). x ++ holds') (sym (append-nil before))

-- the first bytes are taken
some_taken : (before holds put : List ℕ) (n : ℕ) → put ≡ before ++ holds → put ≡ (before ++ take n holds) ++ drop n holds
some_taken before holds put n h =
    h ∙ ap (λ (x : List ℕ). before ++ x) (sym (take-append-drop n holds)) ∙ sym (append_assoc before (take n holds) (drop n holds))

not_taken : (before holds put : List ℕ) → put ≡ before ++ holds → put ≡ (before ++ []) ++ holds
not_taken before holds put h = h ∙ ap (λ (x : List ℕ). x ++ holds) (sym (append-nil before))

grown : (F G : Files) (which : LxSide) (before : List ℕ) → FilesTo F G → AccountsFor F which before → AccountsFor G which (before ++ [])
grown F G side.Out before h a = none_taken before F.out F.put_out G.out G.put_out h.out a
grown F G side.Err before h a = none_taken before F.err F.put_err G.err G.put_err h.err a

drained : (L : LinuxState) (which drains : LxSide) (n : ℕ) (before : List ℕ) → AccountsFor L.files which before → AccountsFor (drained_side L.files drains n) which (before ++ taken_by which L (label.Drain drains n))
drained L side.Out side.Out n before a = some_taken before L.files.out L.files.put_out n a
drained L side.Err side.Err n before a = some_taken before L.files.err L.files.put_err n a
drained L side.Out side.Err n before a = not_taken before L.files.out L.files.put_out a
drained L side.Err side.Out n before a = not_taken before L.files.err L.files.put_err a

by_label : (L next : LinuxState) (l : Label) (which : LxSide) (before : List ℕ) → Common L l next → AccountsFor L.files which before → AccountsFor next.files which (before ++ taken_by which L l)
by_label L next (label.Time t) which before h a = grown L.files next.files which before h.1 a
by_label L next (label.Drain drains n) which before h a = subst (λ (F : Files). AccountsFor F which (before ++ taken_by which L (label.Drain drains n))) (sym h.1) (drained L which drains n before a)
by_label L next _ which before h a = grown L.files next.files which before h.1 a

pub accounts : ConsolesAccountFor
accounts L last [] which before e a =
    subst (λ (M : LinuxState). AccountsFor M.files which (before ++ [])) (some_is L last e) (not_taken before (side_holds L.files which) (ever_put L.files which) a)
accounts L last (l ∷ ls) which before e a =
    let first = bind_some (LStep L l) (λ next. LRun next ls) last e in
    let next = first.0 in
    let after = accounts next last ls which (before ++ taken_by which L l) first.2 (by_label L next l which before (common L next l first.1) a) in
    after ∙ ap (λ (x : List ℕ). x ++ side_holds last.files which)
    (append_assoc before (taken_by which L l) (taken_over which next ls) ∙ ap (λ (o : Option LinuxState). before ++ (taken_by which L l ++ taken_from which o (λ n. taken_over which n ls))) (sym first.1))

pub accounts_from_the_start : ConsolesAccountFromTheStart
accounts_from_the_start image name arguments input seed rules ls last side.Out e = accounts (start image name arguments input seed rules) last ls side.Out [] e refl
accounts_from_the_start image name arguments input seed rules ls last side.Err e = accounts (start image name arguments input seed rules) last ls side.Err [] e refl
