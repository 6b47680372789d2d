-- A kqueue: its interests in the order of reports, and whose flux stands. A flux stands from the first to the last entry of a
-- change of an interest, and is this project's own.
use Rattle.std.specs.Prelude.{ℕ, ◌==◌, Bool, true, if◌then◌else◌, List, Option, Some, None}
use Rattle.std.specs.Option.{option_map}
use Rattle.kqueue_core.specs.declared.knotes.Flux.{Flux}
use Rattle.kqueue_core.specs.declared.knotes.Watch.{Watch}

pub record Queue : Type 0 where
  pub watches : List Watch
  pub flux : Option Flux

-- no other slot's flux stands
abbrev pub is_free_for : ℕ → Option Flux → Bool
is_free_for slot None = true
is_free_for slot (Some flux) = flux.slot == slot

-- the kqueue in flux by a slot on a descriptor, where no other slot's flux stands
abbrev pub with_flux : ℕ → ℕ → Queue → Queue
with_flux slot descriptor q = if is_free_for slot q.flux then record q { flux = Some (record { slot = slot; descriptor = descriptor }) } else q

-- the kqueue without the flux of a slot
abbrev pub without_flux : ℕ → Queue → Queue
without_flux slot q = if is_free_for slot q.flux then record q { flux = None } else q

-- the descriptor of the flux that stands
abbrev pub flux_descriptor : Queue → Option ℕ
flux_descriptor q = option_map {T = Flux} (λ f. f.descriptor) q.flux
