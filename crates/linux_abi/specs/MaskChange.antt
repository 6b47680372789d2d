-- How rt_sigprocmask(2) changes the mask, by number.
use Rattle.std.specs.Prelude.{ℕ, ◌==◌, [], ◌∷◌, find, Option}
use Rattle.linux_abi.specs.declared.signals.MaskChange.{MaskChange}
use Rattle.linux_abi.specs.declared.signals.MaskChange.TheVariants as change

-- the number of a change
abbrev pub mask_change_number : MaskChange → ℕ
mask_change_number change.Block = 0
mask_change_number change.Unblock = 1
mask_change_number change.Set = 2

-- the change of a number, if one has it
unfoldable pub mask_change_of : ℕ → Option MaskChange
mask_change_of n = find (λ c. mask_change_number c == n) (change.Block ∷ change.Unblock ∷ change.Set ∷ [])
