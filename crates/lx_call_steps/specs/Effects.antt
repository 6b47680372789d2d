-- Effect of a call that changes no other thread, by what it is on, as the functions compute it one after the other.
use Rattle.std.specs.Option.{option_map, option_or}
use Rattle.std.specs.Prelude.{Bool, None, Some, false, true}
use Rattle.lx_machine.specs.Descriptors.{on_files}
use Rattle.lx_machine.specs.Ranges.{on_space}
use Rattle.lx_machine.specs.Rules.{Effect, OnFiles, OnSpace, OnThread, Rules, short_outcome}
use Rattle.lx_machine.specs.Table.{rules_of}
use Rattle.lx_machine.specs.Threads.{InCall}
use Rattle.lx_machine.specs.declared.calls.Stage.{Stage}
use Rattle.lx_machine.specs.declared.calls.Stage.TheVariants as stage

-- the effect, where it is on files
abbrev pub files_part : Effect → InCall
files_part (OnFiles f) L s t c = Some (on_files L s t (f L.files c))
files_part _ L s t c = None

-- on memory
abbrev pub space_part : Effect → InCall
space_part (OnSpace f) L s t c = Some (on_space L s t (f L.space c))
space_part _ L s t c = None

-- on its thread
abbrev pub thread_part : Effect → InCall
thread_part (OnThread f) L s t c = Some (f L s t c)
thread_part _ L s t c = None

-- on files, on memory or on its thread
abbrev pub own_part : Effect → InCall
own_part e L s t c = option_or (files_part e L s t c) (option_or (space_part e L s t c) (thread_part e L s t c))

-- where memory runs short
abbrev pub short_part : Rules → InCall
short_part r L s t c = option_map (on_space L s t) (short_outcome r L.space c)

-- either
abbrev pub own_effect : Bool → Rules → InCall
own_effect true r L s t c = short_part r L s t c
own_effect false r L s t c = own_part r.effect L s t c

-- where Effect comes next
abbrev pub own_effect_at : Bool → Stage → InCall
own_effect_at short stage.Effect L s t c = own_effect short (rules_of c) L s t c
own_effect_at short _ L s t c = None
